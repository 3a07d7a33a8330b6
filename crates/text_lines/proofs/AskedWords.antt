-- What words ask for, by their first two words and what follows them.
use Rattle.std.proofs.Common.{◌≡◌, ◌≤◌, ◌↔◌, ◌==◌, length, drop, not, true, ℕ, ◌+◌, ◌^◌, ◌<◌, List, [], ◌∷◌, ◌++◌, codes, decimal}
use Rattle.std.proofs.Common.{Bool, false, true≢false, ltb, ◌-◌, length-append}
use Rattle.std.proofs.Common.{Option, Some, None, refl, sym, ◌∙◌, ap, subst, inl, inr, append_assoc, append-nil, arith}
use Rattle.std.specs.List.{list_all}
use Rattle.std.proofs.lemmas.Bool.{and_parts, ltb-true, not-true}
use Rattle.std.proofs.lemmas.Fmt.{decimal_injective}
use Rattle.std.proofs.lemmas.List.{append_cancel_left, drop_at}
use Rattle.whole_input.specs.Parts.{HasNo, IsSplitAt}
use Rattle.forms.specs.declared.form.Form.{Form}
use Rattle.forms.specs.declared.form.Form.TheVariants.{FileTime}
use Rattle.forms.specs.Names.{name_of}
use Rattle.text_lines.specs.declared.place.Place.{Place}
use Rattle.text_lines.specs.declared.place.Place.TheVariants.{Whole, Field, Word}
use Rattle.text_lines.specs.Asked.{names, AskLines, AskNothing, AskText, BeginsPlace, BeginsCapital}
use Rattle.text_lines.specs.declared.asked.Asked.{Asked}
use Rattle.text_lines.specs.declared.asked.Asked.TheVariants.{Lines, Text, Nothing}
use Rattle.text_lines.specs.inside.Words.{behind, IsForm, AreForms, BeginsWord, IsPlaceText}
use Rattle.text_lines.proofs.FieldPlaces.{no_split, split_same, split_front}

spelled : (from to : Form) (x : List ℕ) → names from to ++ x ≡ name_of from ++ (32 ∷ (name_of to ++ x))
spelled from to x = append_assoc (name_of from) (codes " " ++ name_of to) x

-- what stands behind the names for a place
abbrev pub IsTail : Option (List ℕ) → Place → Type 0
IsTail None Whole = Unit {0}
IsTail None (Field n) = ⊥
IsTail None (Word n) = ⊥
IsTail (Some text) place = IsPlaceText text place

pub lines_by : (words : List ℕ) (from to : Form) (place : Place) → AskLines words from to place → (rest : Option (List ℕ))
    × AreForms words from to rest × IsTail rest place
lines_by words from to Whole h = (None, h ∙ (sym (append-nil (names from to)) ∙ spelled from to []), tt)
lines_by words from to (Field n) h = (
  Some (codes "field " ++ decimal (n + 1)),
  h.1
      ∙ spelled from to (codes " field " ++ decimal (n + 1)),
  (h.0, refl),
)
lines_by words from to (Word n) h = (
  Some (codes "word " ++ decimal (n + 1)),
  h.1
      ∙ spelled from to (codes " word " ++ decimal (n + 1)),
  (h.0, refl),
)

pub lines_of : (words : List ℕ) (from to : Form) (rest : Option (List ℕ)) (place : Place) → AreForms words from to rest → IsTail rest place
    → AskLines words from to place
lines_of words from to None Whole are tail = are ∙ (sym (spelled from to []) ∙ append-nil (names from to))
lines_of words from to None (Field n) are tail = absurd tail
lines_of words from to None (Word n) are tail = absurd tail
lines_of words from to (Some text) Whole are tail = absurd tail
lines_of words from to (Some text) (Field n) are tail = (
  tail.0,
  are ∙ (ap (λ (l : List ℕ). name_of from ++ (32 ∷ (name_of to ++ (32 ∷ l)))) tail.1
      ∙ sym (spelled from to (codes " field " ++ decimal (n + 1)))),
)
lines_of words from to (Some text) (Word n) are tail = (
  tail.0,
  are ∙ (ap (λ (l : List ℕ). name_of from ++ (32 ∷ (name_of to ++ (32 ∷ l)))) tail.1
      ∙ sym (spelled from to (codes " word " ++ decimal (n + 1)))),
)

pub text_by : (words : List ℕ) (from to : Form) (text : List ℕ) → AskText words from to text → AreForms words from to (Some text)
text_by words from to text h = h.0 ∙ spelled from to (codes " " ++ text)

pub text_of : (words : List ℕ) (from to : Form) (text : List ℕ) → AreForms words from to (Some text) → (BeginsPlace text → ⊥)
    → AskText words from to text
text_of words from to text are free = (are ∙ sym (spelled from to (codes " " ++ text)), free)

-- a text that names a place begins so
pub place_begins : (text : List ℕ) (place : Place) → IsPlaceText text place → BeginsPlace text
place_begins text Whole h = absurd h
place_begins text (Field n) h = inl (inr (decimal (n + 1), h.1))
place_begins text (Word n) h = inr (inr (decimal (n + 1), h.1))

whole_alone : (place : Place) → IsTail None place → Whole ≡ place
whole_alone Whole tail = refl
whole_alone (Field n) tail = absurd tail
whole_alone (Word n) tail = absurd tail

-- ---- the words themselves

free_of : (mark : ℕ) (bytes : List ℕ) → list_all (λ byte. not (byte == mark)) bytes ≡ true → HasNo mark bytes
free_of mark [] h = tt
free_of mark (byte ∷ bytes) h =
    let parts = and_parts (not (byte == mark)) (list_all (λ b. not (b == mark)) bytes) h in
    (not-true (byte == mark) parts.0, free_of mark bytes parts.1)

-- `_` stands for each other form, whose name is looked through by computing
spaceless : (form : Form) → list_all (λ byte. not (byte == 32)) (name_of form) ≡ true
spaceless FileTime = refl
spaceless _ = refl

no_space : (form : Form) → HasNo 32 (name_of form)
no_space form = free_of 32 (name_of form) (spaceless form)

-- a text at the end of words stands behind as many bytes as the words have more
ends_with : (front text words : List ℕ) → words ≡ front ++ text → (length words - length text ≤ length words)
    × (text ≡ drop (length words - length text) words)
ends_with front text words is =
    let long : length words ≡ length front + length text = ap length is ∙ length-append front text in
    let at : length front ≡ length words - length text = omega (arith, long) in
    let moved = ap (drop (length words - length text)) is ∙ drop_at front text (length words - length text) at in
    (omega arith, sym moved)

pub text_at_end : (words text : List ℕ) (from to : Form) → AreForms words from to (Some text) → (length words - length text ≤ length words)
    × (text ≡ drop (length words - length text) words)
text_at_end words text from to are =
    let inner = append_assoc (name_of to) (codes " ") text in
    let outer = append_assoc (name_of from) (32 ∷ (name_of to ++ codes " ")) text in
    ends_with (name_of from ++ (32 ∷ (name_of to ++ codes " "))) text words
    (are ∙ (ap (λ (l : List ℕ). name_of from ++ (32 ∷ l)) (sym inner) ∙ sym outer))

-- words that are split at a space begin with one name at most
pub form_before : (words name back : List ℕ) (form : Form) (rest : Option (List ℕ)) → IsSplitAt 32 words name back → IsForm words form rest
    → (name ≡ name_of form) × (rest ≡ Some back)
form_before words name back form None split is =
    absurd (no_split 32 (name_of form) name back refl (no_space form) (sym (append-nil (name_of form)) ∙ (sym is ∙ split.joined)))
form_before words name back form (Some rest) split is =
    let both : name ++ 32 ∷ back ≡ name_of form ++ 32 ∷ rest = sym split.joined ∙ is in
    let rests : back ≡ rest = split_same 32 name (name_of form) back rest refl split.first (no_space form) both in
    (split_front 32 name (name_of form) back rest rests both, ap (λ (l : List ℕ). Some l) (sym rests))

-- a word alone is one name at most
pub form_alone : (words : List ℕ) (form : Form) (rest : Option (List ℕ)) → HasNo 32 words → IsForm words form rest → (words ≡ name_of form)
    × (rest ≡ None)
form_alone words form None free is = (is ∙ append-nil (name_of form), refl)
form_alone words form (Some rest) free is = absurd (no_split 32 words (name_of form) rest refl free is)

pub word_before : (text first back word : List ℕ) → IsSplitAt 32 text first back → HasNo 32 word → BeginsWord text word → first ≡ word
word_before text first back word split free (inl is) = absurd (no_split 32 word first back refl free (sym is ∙ split.joined))
word_before text first back word split free (inr more) =
    let both : first ++ 32 ∷ back ≡ word ++ 32 ∷ more.0 = sym split.joined ∙ more.1 in
    split_front 32 first word back more.0 (split_same 32 first word back more.0 refl split.first free both) both

pub word_alone : (text word : List ℕ) → HasNo 32 text → BeginsWord text word → text ≡ word
word_alone text word free (inl is) = is
word_alone text word free (inr more) = absurd (no_split 32 text word more.0 refl free more.1)

-- a text names one place
same_number : (n m : ℕ) → n + 1 < 2 ^ 64 → m + 1 < 2 ^ 64 → decimal (n + 1) ≡ decimal (m + 1) → n ≡ m
same_number n m h k same = let next : n + 1 ≡ m + 1 = decimal_injective (n + 1) (m + 1) (omega (arith, h)) (omega (arith, k)) same in
    omega (arith, next)

apart : (xs ys : List ℕ) → 102 ∷ xs ≡ 119 ∷ ys → ⊥
apart xs ys same = let heads : ◌≡◌ {A = ℕ} 102 119 = cc in omega (arith, heads)

pub one_place_text : (text : List ℕ) (p q : Place) → IsPlaceText text p → IsPlaceText text q → p ≡ q
one_place_text text Whole q h k = absurd h
one_place_text text (Field n) Whole h k = absurd k
one_place_text text (Word n) Whole h k = absurd k
one_place_text text (Field n) (Field m) h k = ap Field (same_number n m h.0 k.0
    (append_cancel_left (codes "field ") (decimal (n + 1)) (decimal (m + 1)) (sym h.1 ∙ k.1)))
one_place_text text (Word n) (Word m) h k = ap Word (same_number n m h.0 k.0
    (append_cancel_left (codes "word ") (decimal (n + 1)) (decimal (m + 1)) (sym h.1 ∙ k.1)))
one_place_text text (Field n) (Word m) h k = absurd (apart (codes "ield " ++ decimal (n + 1)) (codes "ord " ++ decimal (m + 1))
    (sym h.1 ∙ k.1))
one_place_text text (Word n) (Field m) h k = absurd (apart (codes "ield " ++ decimal (m + 1)) (codes "ord " ++ decimal (n + 1))
    (sym k.1 ∙ h.1))

-- ---- from the two forms and what follows them to what is asked

-- these are the only two forms, and the only rest
abbrev Only : List ℕ → Form → Form → Option (List ℕ) → Type 0
Only words from to rest = (f t : Form) (other : Option (List ℕ)) → AreForms words f t other → (from ≡ f) × (to ≡ t) × (rest ≡ other)

-- there are no two forms
abbrev NoForms : List ℕ → Type 0
NoForms words = (f t : Form) (other : Option (List ℕ)) → AreForms words f t other → ⊥

-- lines are asked for exactly so
abbrev AsksLines : List ℕ → Asked → Type 0
AsksLines words asked = (f t : Form) (place : Place) → (asked ≡ Lines f t place) ↔ AskLines words f t place

abbrev ByPlace : Form → Form → List ℕ → Asked → Type 0
ByPlace from to text asked = (f t : Form) (place : Place) → (asked ≡ Lines f t place) ↔ ((f ≡ from) × (t ≡ to) × IsPlaceText text place)

tail_text : (text : List ℕ) (rest : Option (List ℕ)) (place : Place) → Some text ≡ rest → IsTail rest place → IsPlaceText text place
tail_text text rest place same tail = subst (λ (r : Option (List ℕ)). IsTail r place) (sym same) tail

pub read_lines_are : (words : List ℕ) (from to : Form) (text : List ℕ) (asked : Asked) → AreForms words from to (Some text)
    → Only words from to (Some text) → ByPlace from to text asked → AsksLines words asked
read_lines_are words from to text asked are only by f t place = (
  λ is.
      let h = (by f t place).0 is in
      lines_of words f t (Some text) place (subst (λ (x : Form). AreForms words x t (Some text)) (sym h.0)
      (subst (λ (x : Form). AreForms words from x (Some text)) (sym h.1) are)) h.2,
  λ ask.
      let k = lines_by words f t place ask in
      let same = only f t k.0 k.1 in
      (by f t place).1 (sym same.0, sym same.1, tail_text text k.0 place same.2 k.2),
)

pub read_text_is : (words : List ℕ) (from to : Form) (text : List ℕ) (asked : Asked) → AreForms words from to (Some text)
    → ((f t : Form) (start : ℕ) → asked ≡ Text f t start → (f ≡ from) × (t ≡ to) × (start ≤ length words) × (text ≡ drop start words)
    × (BeginsPlace text → ⊥))
    → (f t : Form) (start : ℕ) → asked ≡ Text f t start → (start ≤ length words) × AskText words f t (drop start words)
read_text_is words from to text asked are by f t start is =
    let h = by f t start is in
    let moved : AreForms words f t (Some text) = subst (λ (x : Form). AreForms words x t (Some text)) (sym h.0)
    (subst (λ (x : Form). AreForms words from x (Some text)) (sym h.1) are) in
    (h.2, subst (λ (l : List ℕ). AskText words f t l) h.3 (text_of words f t text moved h.4))

pub read_text_only : (words : List ℕ) (from to : Form) (text : List ℕ) (asked : Asked) → Only words from to (Some text)
    → ((BeginsPlace text → ⊥) → (start : ℕ) × (asked ≡ Text from to start) × (text ≡ drop start words))
    → (f t : Form) (other : List ℕ) → AskText words f t other → (start : ℕ) × (asked ≡ Text f t start) × (other ≡ drop start words)
read_text_only words from to text asked only by f t other ask =
    let same = only f t (Some other) (text_by words f t other ask) in
    let texts : text ≡ other = let some : Some text ≡ Some other = same.2 in cc in
    let h = by (λ begins. ask.1 (subst BeginsPlace texts begins)) in
    (h.0, subst (λ (x : Form). asked ≡ Text x t h.0) same.0 (subst (λ (x : Form). asked ≡ Text from x h.0) same.1 h.1), sym texts ∙ h.2)

pub lines_not_nothing : (from to : Form) (place : Place) → Nothing ≡ Lines from to place → ⊥
lines_not_nothing from to place same = absurd cc

pub text_not_nothing : (from to : Form) (start : ℕ) → Nothing ≡ Text from to start → ⊥
text_not_nothing from to start same = absurd cc

pub lines_no_text : (from to f t : Form) (place : Place) (start : ℕ) → Lines from to place ≡ Text f t start → ⊥
lines_no_text from to f t place start same = absurd cc

abbrev TextIs : List ℕ → Asked → Type 0
TextIs words asked = (f t : Form) (start : ℕ) → asked ≡ Text f t start → (start ≤ length words) × AskText words f t (drop start words)

nothing_by : (words : List ℕ) (asked : Asked) → AsksLines words asked → TextIs words asked → AskNothing words → asked ≡ Nothing
nothing_by words (Lines f t p) lines text none = absurd (none.0 f t p ((lines f t p).0 refl))
nothing_by words (Text f t start) lines text none = absurd (none.1 f t (drop start words) (text f t start refl).1)
nothing_by words Nothing lines text none = refl

pub read_nothing : (words : List ℕ) (from to : Form) (text : List ℕ) (asked : Asked) → AreForms words from to (Some text)
    → Only words from to (Some text) → ByPlace from to text asked
    → ((f t : Form) (start : ℕ) → asked ≡ Text f t start → (f ≡ from) × (t ≡ to) × (start ≤ length words) × (text ≡ drop start words)
    × (BeginsPlace text → ⊥))
    → ((BeginsPlace text → ⊥) → (start : ℕ) × (asked ≡ Text from to start) × (text ≡ drop start words))
    → (asked ≡ Nothing) ↔ AskNothing words
read_nothing words from to text asked are only lines is_text texts = (
  λ is. (
    λ f t place ask. lines_not_nothing f t place (sym is ∙ (read_lines_are words from to text asked are only lines f t place).1 ask),
    λ f t other ask. let h = read_text_only words from to text asked only texts f t other ask in text_not_nothing f t h.0 (sym is ∙ h.1),
  ),
  λ none. nothing_by words asked (read_lines_are words from to text asked are only lines)
      (read_text_is words from to text asked are is_text) none,
)

pub alone_lines_are : (words : List ℕ) (from to : Form) → AreForms words from to None → Only words from to None
    → AsksLines words (Lines from to Whole)
alone_lines_are words from to are only f t place = (
  λ is.
      let from_same : from ≡ f = cc in
      let to_same : to ≡ t = cc in
      let place_same : Whole ≡ place = cc in
      subst (λ (x : Place). AskLines words f t x) place_same (subst (λ (x : Form). AskLines words x t Whole) from_same
      (subst (λ (x : Form). AskLines words from x Whole) to_same (lines_of words from to None Whole are tt))),
  λ ask.
      let k = lines_by words f t place ask in
      let same = only f t k.0 k.1 in
      let there : Whole ≡ place = whole_alone place (subst (λ (r : Option (List ℕ)). IsTail r place) (sym same.2) k.2) in
      let from_same : from ≡ f = same.0 in
      let to_same : to ≡ t = same.1 in
      cc,
)

pub alone_text_only : (words : List ℕ) (from to : Form) → Only words from to None → (f t : Form) (text : List ℕ) → AskText words f t text
    → ⊥
alone_text_only words from to only f t text ask =
    let same = only f t (Some text) (text_by words f t text ask) in
    let clash : None ≡ Some text = same.2 in
    absurd cc

pub alone_nothing : (words : List ℕ) (from to : Form) → AreForms words from to None → (Lines from to Whole ≡ Nothing) ↔ AskNothing words
alone_nothing words from to are = (
  λ is. absurd (lines_not_nothing from to Whole (sym is)),
  λ none. absurd (none.0 from to Whole (lines_of words from to None Whole are tt)),
)

pub none_lines_are : (words : List ℕ) → NoForms words → AsksLines words Nothing
none_lines_are words none f t place = (
  λ is. absurd (lines_not_nothing f t place is),
  λ ask. let k = lines_by words f t place ask in absurd (none f t k.0 k.1),
)

pub none_text_only : (words : List ℕ) → NoForms words → (f t : Form) (text : List ℕ) → AskText words f t text → ⊥
none_text_only words none f t text ask = none f t (Some text) (text_by words f t text ask)

pub none_nothing : (words : List ℕ) → NoForms words → AskNothing words
none_nothing words none = (
  λ f t place ask. let k = lines_by words f t place ask in none f t k.0 k.1,
  λ f t text ask. none_text_only words none f t text ask,
)

-- ---- names begin with a capital

abbrev begins_early : List ℕ → Bool
begins_early [] = false
begins_early (byte ∷ bytes) = ltb byte 97

is_capital : (form : Form) → begins_early (name_of form) ≡ true
is_capital FileTime = refl
is_capital _ = refl

capital_by : (name : List ℕ) → begins_early name ≡ true → BeginsCapital name
capital_by [] h = absurd (true≢false (sym h))
capital_by (byte ∷ bytes) h = (byte, bytes, refl, ltb-true byte 97 h)

capital : (form : Form) → BeginsCapital (name_of form)
capital form = capital_by (name_of form) (is_capital form)

front_capital : (words : List ℕ) (form : Form) (more : List ℕ) → words ≡ name_of form ++ more → BeginsCapital words
front_capital words form more is = let h = capital form in (h.0, h.1 ++ more, is ∙ ap (λ (l : List ℕ). l ++ more) h.2, h.3)

pub lines_capital : (words : List ℕ) (from to : Form) (place : Place) → AskLines words from to place → BeginsCapital words
lines_capital words from to place ask = let k = lines_by words from to place ask in
    front_capital words from (32 ∷ (name_of to ++ behind k.0)) k.1

pub text_capital : (words : List ℕ) (from to : Form) (text : List ℕ) → AskText words from to text → BeginsCapital words
text_capital words from to text ask = front_capital words from (32 ∷ (name_of to ++ (32 ∷ text))) (text_by words from to text ask)
