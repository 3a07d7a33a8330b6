-- The bytes of a text from one place up to another: parted, and one byte more at either end.
use Rattle.std.proofs.Common.{◌≡◌, ℕ, ◌+◌, ◌-◌, ◌<◌, ◌≤◌, List, [], ◌∷◌, ◌++◌, length, get_or, take, drop, suc, refl, ◌∙◌, ap, subst}
use Rattle.std.proofs.Common.{length-drop, arith}
use Rattle.std.proofs.Math.Seq.{take-add}
use Rattle.std.proofs.lemmas.List.{drop-drop, drop_more, length-take-le}
use Rattle.std.specs.Char.{digit_value}
use Rattle.scan_core.specs.Digits.{AreDigits}
use Rattle.scan_core.specs.Scanning.{between}
use Rattle.scan_core.proofs.DigitFacts.{digits_right}

pub between_none : (text : List ℕ) (start : ℕ) → between start start text ≡ []
between_none text start = let none : start - start ≡ 0 = omega arith in rw none refl

pub length-between : (text : List ℕ) (start end : ℕ) → start ≤ end → end ≤ length text → length (between start end text) ≡ end - start
length-between text start end order within = length-take-le (end - start) (drop start text) (omega (arith, length-drop start text))

pub between_split : (text : List ℕ) (start mid end : ℕ) → start ≤ mid → mid ≤ end
    → between start end text ≡ between start mid text ++ between mid end text
between_split text start mid end first last =
    let parts : end - start ≡ (mid - start) + (end - mid) = omega arith in
    let there : drop (mid - start) (drop start text) ≡ drop mid text = drop-drop (mid - start) start text
    ∙ ap (λ (n : ℕ). drop n text) (omega arith) in
    rw parts (take-add (mid - start) (end - mid) (drop start text)
    ∙ ap (λ (l : List ℕ). between start mid text ++ take (end - mid) l) there)

-- a byte at the start
pub between_cons : (text : List ℕ) (at end : ℕ) → at < end → end ≤ length text
    → between at end text ≡ get_or text at 0 ∷ between (at + 1) end text
between_cons text at end some within =
    let long : end - at ≡ suc (end - (at + 1)) = omega arith in
    rw long (ap (take (suc (end - (at + 1)))) (drop_more text at 0 (omega arith)))

-- a byte at the end
pub between_push : (text : List ℕ) (start at : ℕ) → start ≤ at → at < length text
    → between start (at + 1) text ≡ between start at text ++ get_or text at 0 ∷ []
between_push text start at order within =
    between_split text start at (at + 1) order (omega arith)
    ∙ ap (λ (l : List ℕ). between start at text ++ l) (between_cons text at (at + 1) (omega arith) (omega arith)
    ∙ ap (λ (l : List ℕ). get_or text at 0 ∷ l) (between_none text (at + 1)))

-- a byte before the start
pub between_before : (text : List ℕ) (at end : ℕ) → 0 < at → at ≤ end → end ≤ length text
    → between (at - 1) end text ≡ get_or text (at - 1) 0 ∷ between at end text
between_before text at end some order within =
    let next : at - 1 + 1 ≡ at = omega arith in
    between_cons text (at - 1) end (omega arith) within ∙ ap (λ (n : ℕ). get_or text (at - 1) 0 ∷ between n end text) next

-- digits behind a place among digits, and the byte at such a place
pub digits_behind : (text : List ℕ) (start at end : ℕ) → start ≤ at → at ≤ end → AreDigits (between start end text)
    → AreDigits (between at end text)
digits_behind text start at end order last digits = digits_right (between start at text) (between at end text)
    (subst AreDigits (between_split text start at end order last) digits)

pub digit_between : (text : List ℕ) (start at end : ℕ) → start ≤ at → at < end → end ≤ length text → AreDigits (between start end text)
    → digit_value (get_or text at 0) < 10
digit_between text start at end order some within digits =
    (subst AreDigits (between_cons text at end some within) (digits_behind text start at end order (omega arith) digits)).0
