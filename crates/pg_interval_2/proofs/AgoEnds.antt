-- No item ends in the letter `o`, so an `ago` at the end of a text is no part of its body.
use Rattle.std.proofs.Common.{◌≡◌, ℕ, ◌<◌, ◌==◌, ◌&&◌, Bool, true, false, not, cond, Contains, IsTrue, List, [], ◌∷◌, ◌++◌, length, codes}
use Rattle.std.proofs.Common.{refl, sym, ◌∙◌, ap, arith, inl, inr}
use Rattle.std.proofs.lemmas.Bool.Decides.{nat_tests}
use Rattle.std.proofs.lemmas.Str.Parse.{digit_from_value}
use Rattle.std.specs.Char.{digit_value}
use Rattle.std.specs.List.{list_all}
use Rattle.std.proofs.lemmas.Bool.{not-true, and_parts}
use Rattle.scan_core.specs.Blanks.{is_blank, words}
use Rattle.scan_core.specs.Count.{Count}
use Rattle.scan_core.specs.Digits.{AreDigits}
use Rattle.scan_core.specs.Join.{IsJoin}
use Rattle.std.specs.List.{onto_first}
use Rattle.scan_core.specs.Number.{IsFraction}
use Rattle.scan_core.specs.declared.share.Unit.{Unit as TimeUnit}
use Rattle.scan_core.specs.declared.share.Unit.TheVariants.{Year, Month, Week, Day, Hour, Minute, Second}
use Rattle.pg_interval_2.specs.Clock.{IsClock}
use Rattle.pg_interval_2.specs.Postgres.{IsItem}
use Rattle.pg_interval_2.specs.UnitNames.{verbose_names}
use Rattle.pg_interval_2.specs.Verbose.{IsFramed, EndsInAgo}
use Rattle.pg_interval_2.specs.inside.VerboseParts.{IsBody}
use Rattle.pg_interval_2.proofs.ItemFacts.{AreBlanks}
use Rattle.pg_interval_2.proofs.UnitsApart.{contains_passes}

-- ---- the last byte that isn't blank

-- whether the last byte so far that isn't blank is an `o`, behind one more byte
abbrev after_byte : Bool → ℕ → Bool
after_byte t b = cond (is_blank b) t (b == 111)

abbrev ends_in_o : Bool → List ℕ → Bool
ends_in_o t [] = t
ends_in_o t (b ∷ bs) = ends_in_o (after_byte t b) bs

ends-append : (t : Bool) (xs ys : List ℕ) → ends_in_o t (xs ++ ys) ≡ ends_in_o (ends_in_o t xs) ys
ends-append t [] ys = refl
ends-append t (x ∷ xs) ys = ends-append (after_byte t x) xs ys

ends-blanks : (t : Bool) (blanks : List ℕ) → AreBlanks blanks → ends_in_o t blanks ≡ t
ends-blanks t [] h = refl
ends-blanks t (b ∷ bs) h =
    let split = and_parts (is_blank b) (list_all is_blank bs) h in
    let first = split.0 in
    rw first (ends-blanks t bs split.1)

-- ---- the same over words

abbrev words_end : Bool → List (List ℕ) → Bool
words_end t [] = t
words_end t (word ∷ more) = words_end (ends_in_o t word) more

words_end-append : (t : Bool) (xs ys : List (List ℕ)) → words_end t (xs ++ ys) ≡ words_end (words_end t xs) ys
words_end-append t [] ys = refl
words_end-append t (x ∷ xs) ys = words_end-append (ends_in_o t x) xs ys

onto_end : (t : Bool) (b : ℕ) (ws : List (List ℕ)) → words_end t (onto_first b ws) ≡ words_end (after_byte t b) ws
onto_end t b [] = refl
onto_end t b (w ∷ more) = refl

last_end : (u t : Bool) (b : ℕ) → is_blank b ≡ u → after_byte t b ≡ words_end t (cond u [] ((b ∷ []) ∷ []))
last_end true t b h = rw h refl
last_end false t b h = refl

more_end : (u v t : Bool) (b : ℕ) (ws : List (List ℕ)) → is_blank b ≡ u
    → words_end (after_byte t b) ws ≡ words_end t (cond u ws (cond v ((b ∷ []) ∷ ws) (onto_first b ws)))
more_end true v t b ws h = rw h refl
more_end false true t b ws h = refl
more_end false false t b ws h = sym (onto_end t b ws)

ends-words : (t : Bool) (text : List ℕ) → ends_in_o t text ≡ words_end t (words text)
ends-words t [] = refl
ends-words t (b ∷ []) = last_end (is_blank b) t b refl
ends-words t (b ∷ c ∷ bs) = ends-words (after_byte t b) (c ∷ bs) ∙ more_end (is_blank b) (is_blank c) t b (words (c ∷ bs)) refl

-- ---- items

digit_facts : (d : ℕ) → digit_value d < 10 → (is_blank d ≡ false) × ((d == 111) ≡ false)
digit_facts d h = let r = digit_from_value d h in grind (arith, nat_tests)

digit_end : (t : Bool) (d : ℕ) → digit_value d < 10 → after_byte t d ≡ false
digit_end t d h = let facts = digit_facts d h in rw (facts.0, facts.1) refl

digits_end : (ds : List ℕ) → AreDigits ds → ends_in_o false ds ≡ false
digits_end [] h = refl
digits_end (d ∷ ds) h = ap (λ (t : Bool). ends_in_o t ds) (digit_end false d h.0) ∙ digits_end ds h.1

field_end : (t : Bool) (ds : List ℕ) → 0 < length ds → AreDigits ds → ends_in_o t ds ≡ false
field_end t [] some h = absurd (omega arith)
field_end t (d ∷ ds) some h = ap (λ (u : Bool). ends_in_o u ds) (digit_end t d h.0) ∙ digits_end ds h.1

tail_end : (fraction tail : List ℕ) → IsFraction fraction tail → ends_in_o false tail ≡ false
tail_end fraction tail (inl none) = let empty = none.1 in rw empty refl
tail_end fraction tail (inr some) = let split = some.1 in rw split (digits_end fraction some.0)

-- bytes that don't end in `o`, whatever stands before them
abbrev Ends : List ℕ → Type 0
Ends bytes = (t : Bool) → ends_in_o t bytes ≡ false

behind : (front bytes : List ℕ) → Ends bytes → Ends (front ++ bytes)
behind front bytes h t = ends-append t front bytes ∙ h (ends_in_o t front)

clock_end : (word : List ℕ) (counts : List Count) → IsClock word counts → Ends word
clock_end word counts h t =
    let seconds : Ends (h.seconds ++ h.tail) = λ u. ends-append u h.seconds h.tail
    ∙ ap (λ (v : Bool). ends_in_o v h.tail) (field_end u h.seconds h.second_field.0 h.second_field.1)
    ∙ tail_end h.fraction h.tail h.point in
    let after_minutes = codes ":" ++ (h.seconds ++ h.tail) in
    let minutes : Ends (h.minutes ++ after_minutes) = behind h.minutes after_minutes (behind (codes ":") (h.seconds ++ h.tail) seconds) in
    let after_hours = codes ":" ++ (h.minutes ++ after_minutes) in
    let hours : Ends (h.hours ++ after_hours) = behind h.hours after_hours (behind (codes ":") (h.minutes ++ after_minutes) minutes) in
    ap (ends_in_o t) h.joined ∙ behind h.sign (h.hours ++ after_hours) hours t

-- a name that doesn't end in `o`, whatever stands before it
abbrev is_clear : List ℕ → Bool
is_clear name = not (ends_in_o true name) && not (ends_in_o false name)

all_clear : (unit : TimeUnit) → IsTrue (list_all is_clear (verbose_names unit))
all_clear Year = refl
all_clear Month = refl
all_clear Week = refl
all_clear Day = refl
all_clear Hour = refl
all_clear Minute = refl
all_clear Second = refl

name_end : (name : List ℕ) (unit : TimeUnit) → Contains (verbose_names unit) name → Ends name
name_end name unit h true = not-true _ (and_parts (not (ends_in_o true name)) (not (ends_in_o false name))
    (contains_passes is_clear (verbose_names unit) name (all_clear unit) h)).0
name_end name unit h false = not-true _ (and_parts (not (ends_in_o true name)) (not (ends_in_o false name))
    (contains_passes is_clear (verbose_names unit) name (all_clear unit) h)).1

item_end : (item : List (List ℕ)) (counts : List Count) → IsItem verbose_names item counts → (t : Bool) → words_end t item ≡ false
item_end item counts (inl (c, named, one)) t =
    elim named.spelled [
      | inl two ↦ ap (words_end t) two ∙ name_end named.name c.unit named.unit (ends_in_o t named.number)
      | inr glued ↦ ap (words_end t) glued ∙ behind named.number named.name (name_end named.name c.unit named.unit) t
    ]
item_end item counts (inr (word, clock, one)) t = ap (words_end t) one ∙ clock_end word counts clock t

items_end : (items : List (List Count)) (all : List (List ℕ)) → IsJoin (IsItem verbose_names) all items → words_end false all ≡ false
items_end [] all h = ap (words_end false) h
items_end (counts ∷ items) all h =
    ap (words_end false) h.4 ∙ words_end-append false h.0 h.1 ∙ ap (λ (t : Bool). words_end t h.1) (item_end h.0 counts h.2 false)
    ∙ items_end items h.1 h.3

body_end : (body : List ℕ) (counts : List Count) → IsBody body counts → ends_in_o false body ≡ false
body_end body counts (inl zero) = ends-words false body ∙ ap (words_end false) zero.0
body_end body counts (inr items) = ends-words false body ∙ items_end items.0 (words body) items.1

-- ---- the text

ago_end : (text : List ℕ) → EndsInAgo text → ends_in_o false text ≡ true
ago_end text (front, after, blank, split) = ap (ends_in_o false) split ∙ ends-append false front (codes "ago" ++ after)
    ∙ ends-blanks true after blank

-- behind a body that is right, without `ago`, no `ago` is at the end
pub no_ago : (text before body : List ℕ) (counts : List Count) → IsFramed text before body false → IsBody body counts → EndsInAgo text → ⊥
no_ago text before body counts framed spelled ends =
    let behind_at : ends_in_o false (body ++ framed.after) ≡ false =
    ends-append false body framed.after ∙ ap (λ (t : Bool). ends_in_o t framed.after) (body_end body counts spelled)
    ∙ ends-blanks false framed.after framed.blank_after in
    let none : ends_in_o false text ≡ false = ap (ends_in_o false) framed.joined ∙ ends-append false before (64 ∷ (body ++ framed.after))
    ∙ behind_at in
    let clash : true ≡ false = sym (ago_end text ends) ∙ none in cc
