-- Words with blanks between.
use Rattle.std.proofs.Common.{◌≡◌, ℕ, zero, suc, ◌+◌, ◌-◌, ◌<◌, ◌≤◌, Bool, true, false, List, [], ◌∷◌, ◌++◌, length, take, drop}
use Rattle.std.proofs.Common.{Some, None, refl, sym, ◌∙◌, ap, subst, append_assoc, append-nil, length-append, add-one, get_or, arith}
use Rattle.std.proofs.Math.Seq.{take-add}
use Rattle.std.proofs.lemmas.Bool.{false_from_ne_true}
use Rattle.std.proofs.lemmas.List.{take_at, drop_at, drop-drop, append_cancel_right}
use Rattle.memchr.specs.Find.{Nowhere, Passes, is_byte2, IsFirstByte}
use Rattle.text_lines.specs.Spaced.{is_blank, AllAre, BeginsOther, IsFirstWord, IsWord}

abbrev behind_head : List ℕ → List ℕ
behind_head [] = []
behind_head (byte ∷ bytes) = bytes

-- a run that goes on as far as it can is one
pub run_same : (t : Bool) (f g r s : List ℕ) → AllAre t f → AllAre t g → BeginsOther t r → BeginsOther t s → f ++ r ≡ g ++ s → r ≡ s
run_same t [] [] r s h k m n same = same
run_same t [] (b ∷ g) r s h k m n same = absurd (subst (BeginsOther t) same m k.0)
run_same t (b ∷ f) [] r s h k m n same = absurd (subst (BeginsOther t) (sym same) n h.0)
run_same t (b ∷ f) (c ∷ g) r s h k m n same = run_same t f g r s h.1 k.1 m n (ap behind_head same)

clash : (byte : ℕ) → is_blank byte ≡ true → is_blank byte ≡ false → ⊥
clash byte h k = let e : true ≡ false = sym h ∙ k in cc

-- a word begins with no blank
solid_begins : (word rest : List ℕ) → AllAre false word → 0 < length word → BeginsOther true (word ++ rest)
solid_begins [] rest h some = absurd (omega (arith, some))
solid_begins (byte ∷ word) rest h some = λ is. clash byte is h.0

-- a line has one first word
pub first_same : (line gap word rest gap' word' rest' : List ℕ) → IsFirstWord line gap word rest → IsFirstWord line gap' word' rest'
    → (gap ≡ gap') × (word ≡ word') × (rest ≡ rest')
first_same line gap word rest gap' word' rest' h k =
    let both : gap ++ (word ++ rest) ≡ gap' ++ (word' ++ rest') = sym h.joined ∙ k.joined in
    let words : word ++ rest ≡ word' ++ rest' = run_same true gap gap' (word ++ rest) (word' ++ rest') h.blank k.blank
    (solid_begins word rest h.solid h.some) (solid_begins word' rest' k.solid k.some) both in
    let rests : rest ≡ rest' = run_same false word word' rest rest' h.solid k.solid h.behind k.behind words in (
      append_cancel_right gap gap' (word' ++ rest') (ap (λ (l : List ℕ). gap ++ l) (sym words) ∙ both),
      append_cancel_right word word' rest' (ap (λ (l : List ℕ). word ++ l) (sym rests) ∙ words),
      rests,
    )

nothing : (word rest : List ℕ) → 0 < length word → [] ≡ word ++ rest → ⊥
nothing [] rest some same = omega (arith, some)
nothing (byte ∷ word) rest some same = let sizes : 0 ≡ suc (length (word ++ rest)) = ap length same in omega (arith, sizes)

-- blanks alone have no word
no_first : (line gap word rest : List ℕ) → AllAre true line → IsFirstWord line gap word rest → ⊥
no_first line gap word rest blank h =
    let begins : BeginsOther true (word ++ rest) = solid_begins word rest h.solid h.some in
    let same : [] ≡ word ++ rest = run_same true line gap [] (word ++ rest) blank h.blank tt begins (append-nil line ∙ h.joined) in
    nothing word rest h.some same

pub no_word : (n : ℕ) (line before text after : List ℕ) → AllAre true line → IsWord n line before text after → ⊥
no_word zero line before text after blank h = no_first line before text after blank h
no_word (suc n) line before text after blank h = no_first line h.0 h.1 h.2 blank h.4

-- the first bytes with the first word of what follows them
taken_so : (at : ℕ) (line rest gap word after : List ℕ) → rest ≡ drop at line → IsFirstWord rest gap word after
    → take (at + (length gap + length word)) line ≡ take at line ++ (gap ++ word)
taken_so at line rest gap word after is first =
    let here : drop at line ≡ (gap ++ word) ++ after = sym is ∙ (first.joined ∙ sym (append_assoc gap word after)) in
    take-add at (length gap + length word) line ∙ ap (λ (l : List ℕ). take at line ++ l)
    (ap (take (length gap + length word)) here ∙ take_at (gap ++ word) after (length gap + length word) (length-append gap word))

pub dropped_so : (at : ℕ) (line rest gap word after : List ℕ) → rest ≡ drop at line → IsFirstWord rest gap word after
    → after ≡ drop (at + (length gap + length word)) line
dropped_so at line rest gap word after is first =
    let here : drop at line ≡ (gap ++ word) ++ after = sym is ∙ (first.joined ∙ sym (append_assoc gap word after)) in
    sym (sym (drop-drop (length gap + length word) at line) ∙ (ap (drop (length gap + length word)) here
    ∙ drop_at (gap ++ word) after (length gap + length word) (length-append gap word)))

pub taken_gap : (at : ℕ) (line rest gap word after : List ℕ) → rest ≡ drop at line → IsFirstWord rest gap word after
    → take (at + length gap) line ≡ take at line ++ gap
taken_gap at line rest gap word after is first =
    take-add at (length gap) line ∙ ap (λ (l : List ℕ). take at line ++ l)
    (ap (take (length gap)) (sym is ∙ first.joined) ∙ take_at gap (word ++ after) (length gap) refl)

-- ---- the loop: the words of the line are those of the rest, so many fewer

abbrev pub Leads : ℕ → List ℕ → ℕ → ℕ → List ℕ → Type 0
Leads number line at left rest = (before text after : List ℕ) → IsWord left rest before text after
    → IsWord number line (take at line ++ before) text after

abbrev pub Comes : ℕ → List ℕ → ℕ → List ℕ → Type 0
Comes number line left rest = (before text after : List ℕ) → IsWord number line before text after → (more : List ℕ)
    × IsWord left rest more text after

pub leads_on : (number at left : ℕ) (line rest gap word after : List ℕ) → Leads number line at left rest → 0 < left → rest ≡ drop at line
    → IsFirstWord rest gap word after
    → Leads number line (at + (length gap + length word)) (left - 1) after
leads_on number at zero line rest gap word after leads some is first before text behind h = absurd (omega (arith, some))
leads_on number at (suc left) line rest gap word after leads some is first before text behind h =
    let less : suc left - 1 ≡ left = omega arith in
    let here : IsWord left after before text behind = subst (λ (k : ℕ). IsWord k after before text behind) less h in
    let all = leads (gap ++ (word ++ before)) text behind (gap, word, after, before, first, here, refl) in
    let taken : take (at + (length gap + length word)) line ≡ take at line
    ++ (gap ++ word) = taken_so at line rest gap word after is first in
    let same : take at line ++ (gap ++ (word ++ before)) ≡ take (at + (length gap + length word)) line ++ before =
    ap (λ (l : List ℕ). take at line ++ l) (sym (append_assoc gap word before))
    ∙ (sym (append_assoc (take at line) (gap ++ word) before) ∙ ap (λ (l : List ℕ). l ++ before) (sym taken)) in
    subst (λ (l : List ℕ). IsWord number line l text behind) same all

pub comes_on : (number left : ℕ) (line rest gap word after : List ℕ) → Comes number line left rest → 0 < left
    → IsFirstWord rest gap word after → Comes number line (left - 1) after
comes_on number zero line rest gap word after comes some first before text behind h = absurd (omega (arith, some))
comes_on number (suc left) line rest gap word after comes some first before text behind h =
    let k = comes before text behind h in
    let w = k.1 in
    let less : left ≡ suc left - 1 = omega arith in
    let same : w.2 ≡ after = (first_same rest w.0 w.1 w.2 gap word after w.4 first).2 in
    (w.3, subst (λ (n : ℕ). IsWord n after w.3 text behind) less (subst (λ (l : List ℕ). IsWord left l w.3 text behind) same w.5))

-- one more blank
more_blank : (xs : List ℕ) (n : ℕ) → n < length xs → is_blank (get_or xs n 0) ≡ true → AllAre true (take n xs)
    → AllAre true (take (suc n) xs)
more_blank [] n inside is h = absurd (omega (arith, inside))
more_blank (x ∷ xs) zero inside is h = (is, tt)
more_blank (x ∷ xs) (suc n) inside is h = (h.0, more_blank xs n (omega (arith, inside)) is h.1)

pub blank_more : (xs : List ℕ) (n : ℕ) → n < length xs → is_blank (get_or xs n 0) ≡ true → AllAre true (take n xs)
    → AllAre true (take (n + 1) xs)
blank_more xs n inside is h = rw add-one (more_blank xs n inside is h)

-- what a search for a blank finds
none_before : (bytes : List ℕ) (n : ℕ) → n ≤ length bytes → Nowhere (Passes (is_byte2 32 9) bytes) 0 n → AllAre false (take n bytes)
none_before bytes zero fits nowhere = tt
none_before [] (suc n) fits nowhere = tt
none_before (byte ∷ bytes) (suc n) fits nowhere = (
  false_from_ne_true (is_blank byte) (nowhere 0 (omega arith) (omega arith)),
  none_before bytes n (omega arith) (λ k low high. nowhere (suc k) (omega arith) (omega arith)),
)

blank_there : (bytes : List ℕ) (n : ℕ) → n < length bytes → Passes (is_byte2 32 9) bytes n → BeginsOther false (drop n bytes)
blank_there [] n inside passes = absurd (omega (arith, inside))
blank_there (byte ∷ bytes) zero inside passes = clash byte passes
blank_there (byte ∷ bytes) (suc n) inside passes = blank_there bytes n (omega (arith, inside)) passes

pub word_found : (bytes : List ℕ) (n : ℕ) → IsFirstByte (is_byte2 32 9) bytes (Some n) → (n ≤ length bytes) × AllAre false (take n bytes)
    × BeginsOther false (drop n bytes)
word_found bytes n h = (omega (arith, h.0.high), none_before bytes n (omega (arith, h.0.high)) h.0.before, blank_there bytes n h.0.high h.1)

pub word_alone : (bytes : List ℕ) → IsFirstByte (is_byte2 32 9) bytes None → AllAre false (take (length bytes) bytes)
word_alone bytes h = none_before bytes (length bytes) (omega arith) h
