-- Words: blanks before them don't count, and a word that ends is the first.
use Rattle.std.proofs.Common.{◌≡◌, ℕ, ◌+◌, Bool, true, false, cond, List, [], ◌∷◌, ◌++◌, length, refl, sym, ◌∙◌, ap, append_assoc}
use Rattle.std.proofs.Common.{append-nil, arith, inl, inr}
use Rattle.std.specs.Prelude.{if◌then◌else◌}
use Rattle.scan_core.specs.Blanks.{is_blank, words, EndsWord, EndsInBlank}
use Rattle.std.specs.List.{onto_first}

-- no byte is a blank
abbrev pub NoBlanks : List ℕ → Type 0
NoBlanks [] = Unit {0}
NoBlanks (b ∷ bs) = (is_blank b ≡ false) × NoBlanks bs

-- a blank in front
pub words-blank : (b : ℕ) (bs : List ℕ) → is_blank b ≡ true → words (b ∷ bs) ≡ words bs
words-blank b [] h = rw h refl
words-blank b (c ∷ bs) h = rw h refl

-- a word in front, which ends
pub words-first : (b : ℕ) (word rest : List ℕ) → NoBlanks (b ∷ word) → EndsWord rest → words ((b ∷ word) ++ rest) ≡ (b ∷ word) ∷ words rest
words-first b [] [] h e = rw h.0 refl
words-first b [] (c ∷ rest) h e = let first = h.0 in rw (first, e) refl
words-first b (c ∷ word) rest h e =
    let below = words-first c word rest h.1 e in
    let first = h.0 in
    let second = h.1.0 in
    rw (first, second, below) refl

-- how many bytes aren't blank
abbrev pub weight : ℕ → ℕ
weight b = if is_blank b then 0 else 1

abbrev pub ink : List ℕ → ℕ
ink [] = 0
ink (b ∷ bs) = weight b + ink bs

pub ink-append : (xs ys : List ℕ) → ink (xs ++ ys) ≡ ink xs + ink ys
ink-append [] ys = omega arith
ink-append (x ∷ xs) ys = let below = ink-append xs ys in omega (arith, below)

-- how many bytes the words have
abbrev pub total_length : List (List ℕ) → ℕ
total_length [] = 0
total_length (word ∷ more) = length word + total_length more

pub total_length-append : (xs ys : List (List ℕ)) → total_length (xs ++ ys) ≡ total_length xs + total_length ys
total_length-append [] ys = omega arith
total_length-append (x ∷ xs) ys = let below = total_length-append xs ys in omega (arith, below)

onto_length : (b : ℕ) (ws : List (List ℕ)) → 1 + total_length ws ≡ total_length (onto_first b ws)
onto_length b [] = refl
onto_length b (w ∷ more) = omega arith

last_length : (t : Bool) (b : ℕ) → cond t 0 1 + 0 ≡ total_length (cond t [] ((b ∷ []) ∷ []))
last_length true b = refl
last_length false b = refl

first_length : (t u : Bool) (b n : ℕ) (ws : List (List ℕ)) → n ≡ total_length ws
    → cond t 0 1 + n ≡ total_length (cond t ws (cond u ((b ∷ []) ∷ ws) (onto_first b ws)))
first_length true u b n ws h = omega (arith, h)
first_length false true b n ws h = omega (arith, h)
first_length false false b n ws h = let longer = onto_length b ws in omega (arith, h, longer)

pub ink-words : (text : List ℕ) → ink text ≡ total_length (words text)
ink-words [] = refl
ink-words (b ∷ []) = last_length (is_blank b) b
ink-words (b ∷ c ∷ bs) = first_length (is_blank b) (is_blank c) b (ink (c ∷ bs)) (words (c ∷ bs)) (ink-words (c ∷ bs))

inked : (b : ℕ) → is_blank b ≡ false → weight b ≡ 1
inked b h = rw h refl

-- the place of a byte that isn't blank is known by how many such bytes stand before it
pub same_place : (xs ys s t : List ℕ) (b c : ℕ) → is_blank b ≡ false → is_blank c ≡ false → ink xs ≡ ink ys → xs ++ (b ∷ s) ≡ ys ++ (c ∷ t)
    → xs ≡ ys
same_place [] [] s t b c hb hc count e = refl
same_place [] (y ∷ ys) s t b c hb hc count e =
    let heads : b ≡ y = cc in
    let one : weight y ≡ 1 = ap weight (sym heads) ∙ inked b hb in
    absurd (omega (arith, count, one))
same_place (x ∷ xs) [] s t b c hb hc count e =
    let heads : x ≡ c = cc in
    let one : weight x ≡ 1 = ap weight heads ∙ inked c hc in
    absurd (omega (arith, count, one))
same_place (x ∷ xs) (y ∷ ys) s t b c hb hc count e =
    let heads : x ≡ y = cc in
    let tails : xs ++ (b ∷ s) ≡ ys ++ (c ∷ t) = cc in
    let same : weight x ≡ weight y = ap weight heads in
    let below : xs ≡ ys = same_place xs ys s t b c hb hc (omega (arith, count, same)) tails in
    cc

-- ---- words behind a blank

onto_some : (b : ℕ) (ws : List (List ℕ)) → (w : List ℕ) × (more : List (List ℕ)) × (onto_first b ws ≡ w ∷ more)
onto_some b [] = (b ∷ [], [], refl)
onto_some b (w ∷ more) = (b ∷ w, more, refl)

begins_if : (t : Bool) (b : ℕ) (ws : List (List ℕ))
    → (w : List ℕ) × (more : List (List ℕ)) × (cond t ((b ∷ []) ∷ ws) (onto_first b ws) ≡ w ∷ more)
begins_if true b ws = (b ∷ [], ws, refl)
begins_if false b ws = onto_some b ws

-- a byte that isn't blank begins a word
word_begins : (b : ℕ) (bs : List ℕ) → is_blank b ≡ false → (w : List ℕ) × (more : List (List ℕ)) × (words (b ∷ bs) ≡ w ∷ more)
word_begins b [] h = (b ∷ [], [], rw h refl)
word_begins b (c ∷ bs) h = let some = begins_if (is_blank c) b (words (c ∷ bs)) in (some.0, some.1, rw h some.2)

onto_join : (b : ℕ) (w : List ℕ) (xs more ys : List (List ℕ)) → xs ≡ w ∷ more → onto_first b (xs ++ ys) ≡ onto_first b xs ++ ys
onto_join b w xs more ys h = rw h refl

behind_one : (t : Bool) (x : ℕ) (all rest : List (List ℕ)) → all ≡ rest → cond t all ((x ∷ []) ∷ all) ≡ cond t [] ((x ∷ []) ∷ []) ++ rest
behind_one true x all rest h = h
behind_one false x all rest h = ap (λ (l : List (List ℕ)). (x ∷ []) ∷ l) h

behind_two : (t u : Bool) (x : ℕ) (all front rest : List (List ℕ)) → all ≡ front ++ rest
    → (u ≡ false → onto_first x (front ++ rest) ≡ onto_first x front ++ rest)
    → cond t all (cond u ((x ∷ []) ∷ all) (onto_first x all)) ≡ cond t front (cond u ((x ∷ []) ∷ front) (onto_first x front)) ++ rest
behind_two true u x all front rest h onto = h
behind_two false true x all front rest h onto = ap (λ (l : List (List ℕ)). (x ∷ []) ∷ l) h
behind_two false false x all front rest h onto = ap (onto_first x) h ∙ onto refl

pub words-behind : (front : List ℕ) (b : ℕ) (rest : List ℕ) → is_blank b ≡ true → words (front ++ (b ∷ rest)) ≡ words front ++ words rest
words-behind [] b rest h = words-blank b rest h
words-behind (x ∷ []) b rest h = let blank = h in rw blank (behind_one (is_blank x) x (words (b ∷ rest)) (words rest)
    (words-blank b rest h))
words-behind (x ∷ y ∷ front) b rest h =
    behind_two (is_blank x) (is_blank y) x (words (y ∷ (front ++ (b ∷ rest)))) (words (y ∷ front)) (words rest)
    (words-behind (y ∷ front) b rest h)
    (λ solid. let some = word_begins y front solid in onto_join x some.0 (words (y ∷ front)) some.1 (words rest) some.2)

-- words on both sides of a place where a word may begin
pub words-closed : (front rest : List ℕ) → EndsInBlank front → words (front ++ rest) ≡ words front ++ words rest
words-closed front rest (inl none) = rw none refl
words-closed front rest (inr (before, b, blank, split)) =
    let alone : words front ≡ words before = ap words split ∙ words-behind before b [] blank ∙ append-nil (words before) in
    ap words (ap (λ (l : List ℕ). l ++ rest) split ∙ append_assoc before (b ∷ []) rest) ∙ words-behind before b rest blank
    ∙ ap (λ (l : List (List ℕ)). l ++ words rest) (sym alone)
