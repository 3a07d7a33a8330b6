-- Runs of digits and words of letters: one more byte, and where they stand.
use Rattle.std.proofs.Common.{◌≡◌, ℕ, ◌+◌, ◌-◌, ◌*◌, ◌^◌, ◌<◌, ◌≤◌, true, List, [], ◌∷◌, ◌++◌, length, refl, inl, inr, arith}
use Rattle.std.proofs.Math.Nat.{pow-le-pow_right}
use Rattle.std.proofs.lemmas.Bool.Decides.{nat_tests}
use Rattle.std.specs.Char.{is_ascii_alphabetic, is_ascii_digit}
use Rattle.std.specs.List.{list_all}
use Rattle.scan_core.specs.Digits.{number_of}
use Rattle.scan_core.specs.Runs.{IsRun, IsWord, Knows, digits_of, packed, packed_behind}
use Rattle.scan_core.specs.Scanning.{Passes, Place}
use Rattle.scan_core.specs.declared.runs.Run.{Run}
use Rattle.scan_core.proofs.Between.{length-between}
use Rattle.scan_core.proofs.DigitFacts.{digits_from_all, number_of-append, number_of-lt}
use Rattle.scan_core.proofs.Scans.{between_passed}

digit_number : (d : ℕ) → is_ascii_digit d ≡ true → number_of (d ∷ []) ≡ d - 48
digit_number d h = grind (arith, nat_tests)

-- one more digit
pub number_of_push : (ds : List ℕ) (d : ℕ) → is_ascii_digit d ≡ true → number_of (ds ++ d ∷ []) ≡ number_of ds * 10 + (d - 48)
number_of_push ds d h = omega (arith, number_of-append ds (d ∷ []), digit_number d h)

packed_after : (n : ℕ) (ls : List ℕ) (l : ℕ) → packed_behind n (ls ++ l ∷ []) ≡ packed_behind n ls * 256 + l
packed_after n [] l = refl
packed_after n (x ∷ ls) l = packed_after (n * 256 + x) ls l

-- one more letter
pub packed_push : (ls : List ℕ) (l : ℕ) → packed (ls ++ l ∷ []) ≡ packed ls * 256 + l
packed_push ls l = packed_after 0 ls l

-- what was passed is a run
pub run_passed : (bytes : List ℕ) (old new : Place) (value : ℕ) → Passes bytes old new → new.at ≤ length new.text
    → list_all is_ascii_digit bytes ≡ true → Knows (10 ^ 18) value (number_of bytes)
    → IsRun new.text (record { start = old.at; end = new.at; value = value })
run_passed bytes old new value p within all known =
    let here = between_passed bytes old new p in record {
      order = omega (arith, p.at);
      within = within;
      digits = rw here (digits_from_all bytes all);
      value = rw here known;
    }

-- or a word
pub word_passed : (bytes : List ℕ) (old new : Place) (value : ℕ) → Passes bytes old new → new.at ≤ length new.text
    → list_all is_ascii_alphabetic bytes ≡ true → Knows (2 ^ 56) value (packed bytes)
    → IsWord new.text (record { start = old.at; end = new.at; value = value })
word_passed bytes old new value p within all known =
    let here = between_passed bytes old new p in record {
      order = omega (arith, p.at);
      within = within;
      letters = rw here all;
      value = rw here known;
    }

-- ---- a run of few digits

pub run_length : (text : List ℕ) (run : Run) → IsRun text run → length (digits_of text run) ≡ run.end - run.start
run_length text run is = length-between text run.start run.end is.order is.within

exact_if : (value n : ℕ) → Knows (10 ^ 18) value n → n < 10 ^ 12 → (value ≡ n) × (value < 10 ^ 12)
exact_if value n (inl same) h = (same, omega arith)
exact_if value n (inr great) h = absurd (omega (arith, great.1))

power_grows : (n : ℕ) → n ≤ 12 → 10 ^ n ≤ 10 ^ 12
power_grows n h = pow-le-pow_right {n = 10} (omega arith) {i = n} {j = 12} h

-- of at most twelve digits the number is known
pub run_exact : (text : List ℕ) (run : Run) → IsRun text run → run.end - run.start ≤ 12
    → (run.value ≡ number_of (digits_of text run)) × (run.value < 10 ^ 12)
run_exact text run is few =
    let long = run_length text run is in
    let below = number_of-lt (digits_of text run) is.digits in
    exact_if run.value (number_of (digits_of text run)) is.value (omega (arith, rw long at below, power_grows (run.end - run.start) few))
