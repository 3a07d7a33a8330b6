-- Clocks whose fields have digits.
use Rattle.std.proofs.Common.{◌≡◌, ℕ, ◌<◌, ◌==◌, true, false, List, length, refl, arith, lt-ltb}
use Rattle.std.proofs.lemmas.Bool.Decides.{nat_tests}
use Rattle.scan_core.specs.Runs.{IsRun, digits_of}
use Rattle.scan_core.specs.declared.runs.Run.{Run}
use Rattle.scan_core.proofs.RunFacts.{run_length}
use Rattle.pg_interval_2.specs.inside.ItemReading.{ClockFields, ClockItem, closed_clock, ends_word}

apart : (a b : ℕ) → false ≡ (a == b) → (a ≡ b → ⊥)
apart a b h same = grind (arith, nat_tests)

-- a run that isn't empty has digits
pub some_digits : (text : List ℕ) (run : Run) → IsRun text run → false ≡ (run.start == run.end) → 0 < length (digits_of text run)
some_digits text run is some =
    let long = run_length text run is in
    let other = apart run.start run.end some in
    omega (arith, long, is.order, other)

-- a clock whose fields have digits, and behind which a word ends
pub closed : (fields : ClockFields) (rest : List ℕ) → 0 < length fields.hours → 0 < length fields.minutes → 0 < length fields.seconds
    → ends_word rest ≡ true
    → closed_clock fields rest ≡ ClockItem fields rest
closed fields rest h m s ends =
    let hours = lt-ltb 0 (length fields.hours) h in
    let minutes = lt-ltb 0 (length fields.minutes) m in
    let seconds = lt-ltb 0 (length fields.seconds) s in
    rw (hours, minutes, seconds, ends) refl
