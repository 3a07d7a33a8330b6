-- Answers to the goals of the law `time_words_and_times_are_one_to_one`.
use Rattle.std.proofs.Common.{ℕ, ◌*◌, ◌^◌, ◌<◌, refl, arith}
use Rattle.jiff.specs.Types.{Time}
use Rattle.dos_date.specs.Bits.{bits}
use Rattle.dos_date.specs.TimeWord.{IsTimeWord, IsRealTime}
use Rattle.dos_date.proofs.laws.time_words_and_times_are_one_to_one.Goals as goal

-- the civil time of a word's fields
real_time : (word : ℕ) → word < 2 ^ 16 → IsRealTime word → (time : Time) × IsTimeWord word time
real_time word fits real = (
  record {
    hour = bits 11 5 word;
    minute = bits 5 6 word;
    second = 2 * bits 0 5 word;
    subsec_nanosecond = 0;
    hour_in = real.0;
    minute_in = real.1;
    second_in = real.2;
    subsec_in = omega arith;
  },
  (bits 0 5 word, refl, refl, omega arith),
)

-- the word of a civil time holds its fields
IsRealTime-time : (word : ℕ) (time : Time) → IsTimeWord word time → IsRealTime word
IsRealTime-time word time has = (omega arith, omega arith, omega arith)

pub returns-clause-real : goal.returns-clause-real
returns-clause-real c = λ word fits. (real_time word fits, λ has. IsRealTime-time word has.0 has.1)
