-- Written pieces of dates and times are pieces of their grammars.
use Rattle.std.proofs.Common.{◌≡◌, ℕ, suc, ◌^◌, ◌<◌, ◌≤◌, ℤ, pos, negsuc, true, false, List, [], ◌++◌, take, codes, refl, sym, ◌∙◌, ap}
use Rattle.std.proofs.Common.{arith, inl, inr}
use Rattle.std.specs.Prelude.{unsigned_abs}
use Rattle.std.proofs.lemmas.List.{take_at}
use Rattle.scan_core.specs.Digits.{number_of}
use Rattle.scan_core.specs.Padded.{padded_digits}
use Rattle.scan_core.proofs.PaddedFacts.{padded_field}
use Rattle.iso8601.specs.Fields.{IsYear, IsMarked}
use Rattle.iso8601.specs.Times.{IsMilliseconds}
use Rattle.iso8601.specs.Written.{year_text}
use Rattle.scan_core.proofs.Signs.{is_negative-pos}

pub marked_spelled : (mark : List ℕ) (count lo hi n : ℕ) → 0 < count → n < 10 ^ count → n < 2 ^ 64 → lo ≤ n → n ≤ hi
    → IsMarked mark count lo hi (mark ++ padded_digits count n) n
marked_spelled mark count lo hi n some fits small least most =
    record {
      front = mark;
      digits = padded_digits count n;
      perhaps = inr refl;
      field = padded_field count lo hi n some fits small least most;
      joined = refl;
    }

-- ---- years

year_ahead : (n : ℕ) → year_text (pos n) ≡ padded_digits 4 n
unfolding year_text
year_ahead n = rw (is_negative-pos n) refl

year_behind : (n : ℕ) → year_text (negsuc n) ≡ codes "-" ++ padded_digits 4 (suc n)
unfolding year_text
year_behind n = refl

pub year_spelled : (year : ℤ) → unsigned_abs year ≤ 9999 → IsYear (year_text year) year
year_spelled (pos n) most =
    record {
      sign = [];
      digits = padded_digits 4 n;
      negative = false;
      magnitude = n;
      signs = inl refl;
      four = padded_field 4 0 9999 n (omega arith) (omega arith) (omega arith) (omega arith) most;
      joined = year_ahead n;
      value = refl;
    }
year_spelled (negsuc n) most =
    record {
      sign = codes "-";
      digits = padded_digits 4 (suc n);
      negative = true;
      magnitude = suc n;
      signs = refl;
      four = padded_field 4 0 9999 (suc n) (omega arith) (omega arith) (omega arith) (omega arith) most;
      joined = year_behind n;
      value =
          refl;
    }

-- ---- milliseconds

pub fraction_spelled : (n : ℕ) → n ≤ 999 → IsMilliseconds (codes "." ++ padded_digits 3 n) n
fraction_spelled n most =
    let field = padded_field 3 0 999 n (omega arith) (omega arith) (omega arith) (omega arith) most in
    let three : take 3 (padded_digits 3 n ++ codes "000") ≡ padded_digits 3 n = take_at (padded_digits 3 n) (codes "000") 3 field.long in
    record {
      point = codes ".";
      digits = padded_digits 3 n;
      mark = inl refl;
      all_digits = field.digits;
      joined = refl;
      value = field.number ∙ sym (ap number_of three);
    }
