-- Words with one space between each two.
use Rattle.std.proofs.Common.{◌≡◌, ℕ, ◌<◌, Bool, true, false, ◌||◌, List, [], ◌∷◌, ◌++◌, codes, length, refl, ap, sym, ◌∙◌, arith}
use Rattle.std.proofs.Common.{append_assoc, append-nil}
use Rattle.std.specs.List.{join_with_byte}
use Rattle.scan_core.specs.Blanks.{words}
use Rattle.scan_core.proofs.WordFacts.{NoBlanks, words-blank, words-first}
use Rattle.pg_interval_2.specs.inside.Writing.{has_words, words_behind}

-- each word has a byte, and no blank
abbrev pub AreWords : List (List ℕ) → Type 0
AreWords [] = Unit {0}
AreWords (word ∷ words) = (0 < length word) × NoBlanks word × AreWords words

pub join-append : (x y : List ℕ) (xs ys : List (List ℕ))
    → join_with_byte 32 ((x ∷ xs) ++ (y ∷ ys)) ≡ join_with_byte 32 (x ∷ xs) ++ (32 ∷ join_with_byte 32 (y ∷ ys))
join-append x y [] ys = refl
join-append x y (z ∷ zs) ys = rw (join-append z y zs ys) (sym (append_assoc x (32 ∷ join_with_byte 32 (z ∷ zs))
    (32 ∷ join_with_byte 32 (y ∷ ys))))

-- words behind other words, and more words behind them all
words_behind-append : (others : Bool) (xs ys : List (List ℕ))
    → words_behind others (xs ++ ys) ≡ words_behind others xs ++ words_behind (others || has_words xs) ys
words_behind-append true [] ys = refl
words_behind-append false [] ys = refl
words_behind-append others (x ∷ xs) [] = ap (words_behind others) (append-nil (x ∷ xs)) ∙ sym (append-nil (words_behind others (x ∷ xs)))
words_behind-append true (x ∷ xs) (y ∷ ys) =
    let left = join_with_byte 32 (x ∷ xs) in
    let right = join_with_byte 32 (y ∷ ys) in
    ap (λ (all : List ℕ). codes " " ++ all) (join-append x y xs ys) ∙ sym (append_assoc (codes " ") left (32 ∷ right))
words_behind-append false (x ∷ xs) (y ∷ ys) = join-append x y xs ys

words_behind-none : (words : List (List ℕ)) → words_behind false words ≡ join_with_byte 32 words
words_behind-none [] = refl
words_behind-none (x ∷ xs) = refl

-- words written in four steps
pub four_steps : (a b c d : List (List ℕ))
    → words_behind false a
    ++ (words_behind (false || has_words a) b
    ++ (words_behind ((false || has_words a) || has_words b) c ++ words_behind (((false || has_words a) || has_words b) || has_words c) d))
    ≡ join_with_byte 32 (a ++ (b ++ (c ++ d)))
four_steps a b c d =
    sym (sym (words_behind-none (a ++ (b ++ (c ++ d))))
    ∙ words_behind-append false a (b ++ (c ++ d))
    ∙ ap (λ (l : List ℕ). words_behind false a ++ l) (words_behind-append (false || has_words a) b (c ++ d)
    ∙ ap (λ (l : List ℕ). words_behind (false || has_words a) b ++ l) (words_behind-append ((false || has_words a) || has_words b) c d)))

-- ---- the words of words with spaces between are these words

pub words-join : (all : List (List ℕ)) → AreWords all → words (join_with_byte 32 all) ≡ all
words-join [] are = refl
words-join ([] ∷ more) are = absurd (omega arith)
words-join ((b ∷ bs) ∷ []) are = ap words (sym (append-nil (b ∷ bs))) ∙ words-first b bs [] are.1 tt
words-join ((b ∷ bs) ∷ next ∷ more) are =
    words-first b bs (32 ∷ join_with_byte 32 (next ∷ more)) are.1 refl
    ∙ ap (λ (rest : List (List ℕ)). (b ∷ bs) ∷ rest) (words-blank 32 (join_with_byte 32 (next ∷ more)) refl
    ∙ words-join (next ∷ more) are.2)
