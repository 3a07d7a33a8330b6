-- Lemmas on bytes that move from a list into a buffer.
use Rattle.std.proofs.Common.{◌≡◌, ℕ, ◌+◌, ◌<◌, ◌≤◌, List, [], ◌++◌, min, length, take, drop, sym, ap, ◌∙◌, arith}
use Rattle.std.proofs.lemmas.List.{length-take-le, take-append-drop, nil_from_length, drop-drop}
use Rattle.std.proofs.Math.Seq.{take-append_seam, drop-nil}

-- a front that was copied into a buffer, and what follows it, are the whole
copied_front : (rest before after : List ℕ) (n : ℕ) → n ≤ length rest → after ≡ take n rest ++ drop n before
    → rest ≡ take n after ++ drop n rest
copied_front rest before after n fits copied =
    let same : take n after ≡ take n rest =
    ap (take n) copied ∙ (ap (λ k. take k (take n rest ++ drop n before)) (sym (length-take-le n rest fits))
    ∙ take-append_seam (take n rest) (drop n before)) in
    sym (ap (λ front. front ++ drop n rest) same ∙ take-append-drop n rest)

-- nothing is copied only where there is nothing or no room
copies_some : (rest before : List ℕ) (n most : ℕ) → n ≡ min (min most (length before)) (length rest) → 1 ≤ most → n ≡ 0 → 0 < length before
    → drop n rest ≡ []
copies_some rest before n most count some none room =
    let empty : length rest ≡ 0 = omega arith in
    ap (drop n) (nil_from_length rest empty) ∙ drop-nil n

-- what a read in memory moves from its place in the bytes into the buffer
pub read_moves : (left given items before after : List ℕ) (at n most : ℕ) → left ≡ drop at items → given ≡ drop at items
    → n ≡ min (min most (length before)) (length given) → 1 ≤ most → after ≡ take n given ++ drop n before → length after ≡ length before
    → (left ≡ take n after ++ drop (at + n) items) × (n ≡ 0 → 0 < length after → drop (at + n) items ≡ [])
read_moves left given items before after at n most place shown count some copied len =
    let onward : drop n given ≡ drop (at + n) items = ap (drop n) shown ∙ drop-drop n at items in
    let fits : n ≤ length given = omega arith in (
      place ∙ (sym shown ∙ (copied_front given before after n fits copied ∙ ap (λ rest. take n after ++ rest) onward)),
      λ none room. sym onward ∙ copies_some given before n most count some none (omega arith),
    )
