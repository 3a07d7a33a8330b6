-- What a search for a byte finds.
use Rattle.std.proofs.Common.{◌≡◌, ℕ, zero, suc, ◌<◌, ◌≤◌, ◌==◌, List, [], ◌∷◌, ◌++◌, length, take, drop, get_or, slice_index, cond, Bool}
use Rattle.std.proofs.Common.{true, false, Option, Some, None, IfSome, IfNone, IsUtf8, IsCharBoundary, ◌+◌, ◌-◌, add-one, sym, subst, ap}
use Rattle.std.proofs.Common.{refl, arith, eqb-true}
use Rattle.std.proofs.lemmas.Bool.{false_from_ne_true}
use Rattle.std.proofs.Math.Seq.{take-length}
use Rattle.std.proofs.lemmas.Str.{IsCharBoundary-after_ascii}
use Rattle.std.specs.List.{onto_first}
use Rattle.memchr.specs.Find.{Nowhere, Passes, is_byte, IsFirstByte, places, places_from}
use Rattle.forms.specs.Lines.{lines}
use Rattle.whole_input.specs.Parts.{HasNo, IsSplitAt}

-- the byte doesn't stand before a place
pub none_before : (mark : ℕ) (bytes : List ℕ) (n : ℕ) → n ≤ length bytes → Nowhere (Passes (is_byte mark) bytes) 0 n
    → HasNo mark (take n bytes)
none_before mark bytes zero fits nowhere = tt
none_before mark [] (suc n) fits nowhere = tt
none_before mark (byte ∷ bytes) (suc n) fits nowhere = (
  false_from_ne_true (byte == mark) (nowhere 0 (omega arith) (omega arith)),
  none_before mark bytes n (omega arith) (λ k low high. nowhere (suc k) (omega arith) (omega arith)),
)

-- where a byte was found the bytes are what stands before it, the byte and what follows
pub split_there : (mark : ℕ) (bytes : List ℕ) (n : ℕ) → n < length bytes → Passes (is_byte mark) bytes n
    → bytes ≡ take n bytes ++ (mark ∷ drop (suc n) bytes)
split_there mark [] n inside passes = absurd (omega arith)
split_there mark (byte ∷ bytes) zero inside passes = ap (λ b. b ∷ bytes) (eqb-true byte mark passes)
split_there mark (byte ∷ bytes) (suc n) inside passes = ap (λ (l : List ℕ). byte ∷ l) (split_there mark bytes n (omega arith) passes)

pub found_first : (mark : ℕ) (bytes : List ℕ) (place : Option ℕ) → IsFirstByte (is_byte mark) bytes place
    → IfSome place (λ n. (n < length bytes) × IsSplitAt mark bytes (take n bytes) (drop (n + 1) bytes))
found_first mark bytes None h = tt
found_first mark bytes (Some n) h = (
  h.0.high,
  record {
    first = none_before mark bytes n (omega (arith, h.0.high)) h.0.before;
    joined = rw add-one (split_there mark bytes n h.0.high h.1);
  },
)

pub none_found : (mark : ℕ) (bytes : List ℕ) (place : Option ℕ) → IsFirstByte (is_byte mark) bytes place → IfNone place (HasNo mark bytes)
none_found mark bytes None h = subst (HasNo mark) (take-length bytes) (none_before mark bytes (length bytes) (omega arith) h)
none_found mark bytes (Some n) h = tt

abbrev behind_first : List ℕ → List ℕ
behind_first [] = []
behind_first (byte ∷ bytes) = bytes

at_mark : (mark : ℕ) (bytes rest : List ℕ) (n : ℕ) → n < length bytes → bytes ≡ take n bytes ++ (mark ∷ rest) → get_or bytes n 0 ≡ mark
at_mark mark [] rest n inside h = absurd (omega arith)
at_mark mark (byte ∷ bytes) rest zero inside h = ap (λ (l : List ℕ). get_or l 0 0) h
at_mark mark (byte ∷ bytes) rest (suc n) inside h = at_mark mark bytes rest n (omega arith) (ap behind_first h)

pub boundary_behind : (mark : ℕ) (text bytes : List ℕ) (n : ℕ) → bytes ≡ text → mark < 128 → IsUtf8 text
    → (n < length bytes) × IsSplitAt mark bytes (take n bytes) (drop (n + 1) bytes) → IsCharBoundary text (n + 1)
boundary_behind mark text bytes n same small utf8 h =
    let is = at_mark mark bytes (drop (n + 1) bytes) n h.0 h.1.joined in
    subst (λ (l : List ℕ). IsCharBoundary l (n + 1)) same (IsCharBoundary-after_ascii bytes n (subst IsUtf8 (sym same) utf8) h.0
    (omega (arith, is, small)))

-- ---- lines

ended_line : (line rest : List ℕ) → HasNo 10 line → lines (line ++ 10 ∷ rest) ≡ line ∷ lines rest
ended_line [] rest h = refl
ended_line (byte ∷ line) rest h = rw (h.0, ended_line line rest h.1) refl

pub first_of_lines : (text line rest : List ℕ) → IsSplitAt 10 text line rest → lines text ≡ line ∷ lines rest
first_of_lines text line rest h = rw h.joined (ended_line line rest h.first)

pub line_alone : (line : List ℕ) → HasNo 10 line → 0 < length line → lines line ≡ line ∷ []
line_alone [] h some = absurd (omega arith)
line_alone (byte ∷ []) h some = rw h.0 refl
line_alone (byte ∷ next ∷ line) h some = rw (h.0, line_alone (next ∷ line) h.1 (omega arith)) refl

-- ---- how many lines there are

by_test : (test : Bool) (i j : ℕ) (xs ys : List ℕ) → length xs ≡ length ys → length (cond test (i ∷ xs) xs) ≡ length (cond test (j ∷ ys) ys)
by_test true i j xs ys h = ap suc h
by_test false i j xs ys h = h

one_place : (test : Bool) (i : ℕ) (xs ys : List ℕ) → length xs ≡ length ys → length (cond test (i ∷ xs) xs) ≡ cond test 1 0 + length ys
one_place true i xs ys h = omega (arith, h)
one_place false i xs ys h = omega (arith, h)

later_places : (test : ℕ → Bool) (byte : ℕ) (bytes : List ℕ) (i n : ℕ)
    → length (places_from test (byte ∷ bytes) (suc i) n) ≡ length (places_from test bytes i n)
unfolding places_from
later_places test byte bytes i zero = refl
later_places test byte bytes i (suc n) = by_test (test (slice_index bytes i)) (suc i) i _ _
    (rw (add-one, add-one) (later_places test byte bytes (suc i) n))

first_places : (byte : ℕ) (bytes : List ℕ) → length (places_from (is_byte 10) (byte ∷ bytes) 0 (suc (length bytes))) ≡ cond (byte == 10) 1 0
    + length (places_from (is_byte 10) bytes 0 (length bytes))
unfolding places_from
first_places byte bytes = one_place (byte == 10) 0 _ _ (later_places (is_byte 10) byte bytes 0 (length bytes))

most_onto : (byte : ℕ) (more : List (List ℕ)) (n : ℕ) → length more ≤ n + 1 → length (onto_first byte more) ≤ n + 1
most_onto byte [] n h = omega arith
most_onto byte (line ∷ more) n h = h

most_by : (test : Bool) (byte : ℕ) (more : List (List ℕ)) (all n : ℕ) → all ≡ cond test 1 0 + n → length more ≤ n + 1
    → length (cond test ([] ∷ more) (onto_first byte more)) ≤ all + 1
most_by true byte more all n h k = omega (arith, h, k)
most_by false byte more all n h k = let e : all ≡ n = omega (arith, h) in
    subst (λ (m : ℕ). length (onto_first byte more) ≤ m + 1) (sym e) (most_onto byte more n k)

lines_at_most : (text : List ℕ) → length (lines text) ≤ length (places_from (is_byte 10) text 0 (length text)) + 1
lines_at_most [] = omega arith
lines_at_most (byte ∷ bytes) = most_by (byte == 10) byte (lines bytes) _ _ (first_places byte bytes) (lines_at_most bytes)

pub most_lines : (text : List ℕ) → length (lines text) ≤ length (places (is_byte 10) text) + 1
most_lines text =
    let all : length text ≡ length text - 0 = omega arith in
    subst (λ (n : ℕ). length (lines text) ≤ length (places_from (is_byte 10) text 0 n) + 1) all (lines_at_most text)
