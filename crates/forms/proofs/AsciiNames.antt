-- The forms' names are ASCII: a line is UTF-8 exactly where the text behind its names is.
use Rattle.std.proofs.Common.{◌≡◌, ℕ, zero, suc, ◌<◌, Bool, true, List, [], ◌∷◌, ◌++◌, codes, Option, Some, None, refl, sym, ◌∙◌, ap, subst}
use Rattle.std.proofs.Common.{inl, inr, append_assoc, arith}
use Rattle.std.specs.Prelude.{nat_lt, get_or, IsUtf8, unwrap_or}
use Rattle.std.specs.List.{list_all}
use Rattle.std.proofs.lemmas.Bool.{and_parts}
use Rattle.std.proofs.lemmas.Bool.Decides.{nat_tests}
use Rattle.std.proofs.lemmas.Str.{IsUtf8-append, IsUtf8-from_ascii, IsUtf8-past_char, encode_ascii}
use Rattle.forms.specs.declared.form.Form.{Form}
use Rattle.forms.specs.Names.{name_of}
use Rattle.forms.proofs.NamedForms.{each}
use Rattle.forms.specs.Replies.{IsReply, IsRequest}
use Rattle.forms.specs.TextReplies.{IsTextReply}
use Rattle.forms.specs.inside.Requests.{HasNames, HasRequest, IsTail}
use Rattle.forms.proofs.Requests.{whole}
use Rattle.forms.specs.inside.Reading.{behind, IsNamed}

abbrev pub is_small : ℕ → Bool
is_small b = nat_lt b 128

small_below : (b : ℕ) → is_small b ≡ true → b < 128
small_below b h = grind (arith, nat_tests)

pub ascii : (bytes : List ℕ) → list_all is_small bytes ≡ true → (i : ℕ) → get_or bytes i 0 < 128
ascii [] h i = omega arith
ascii (b ∷ bs) h zero = small_below b (and_parts (is_small b) (list_all is_small bs) h).0
ascii (b ∷ bs) h (suc i) = ascii bs (and_parts (is_small b) (list_all is_small bs) h).1 i

pub small_name : (form : Form) → list_all is_small (name_of form) ≡ true
small_name = each (λ form. list_all is_small (name_of form)) refl

-- bytes are UTF-8 behind ASCII exactly where the whole is

utf8_with : (front bytes : List ℕ) → list_all is_small front ≡ true → IsUtf8 bytes → IsUtf8 (front ++ bytes)
utf8_with front bytes h utf8 = IsUtf8-append front bytes (IsUtf8-from_ascii front (ascii front h)) utf8

utf8_past : (front bytes : List ℕ) → list_all is_small front ≡ true → IsUtf8 (front ++ bytes) → IsUtf8 bytes
utf8_past [] bytes h utf8 = utf8
utf8_past (b ∷ bs) bytes h utf8 =
    let parts = and_parts (is_small b) (list_all is_small bs) h in
    let spelled = ap (λ (l : List ℕ). l ++ (bs ++ bytes)) (sym (encode_ascii b (small_below b parts.0))) in
    utf8_past bs bytes parts.1 (IsUtf8-past_char (b ∷ (bs ++ bytes)) (bs ++ bytes) b utf8 spelled)

behind_tail : (text : List ℕ) (end : Option (List ℕ)) → text ≡ unwrap_or end [] → IsTail text (behind end)
behind_tail text None h = inl (h, refl)
behind_tail text (Some rest) h = inr (ap (λ (l : List ℕ). codes " " ++ l) (sym h))

-- two names, and behind them the end or a text
pub names_of : (line rest text : List ℕ) (from to : Form) (end : Option (List ℕ)) → IsNamed line from (Some rest) → IsNamed rest to end
    → text ≡ unwrap_or end [] → HasNames line from to text
names_of line rest text from to end first second told = record {
  tail = behind end;
  rest = behind_tail text end told;
  joined = first ∙ ap (λ (l : List ℕ). name_of from ++ (codes " " ++ l)) second;
}

-- a line of two names is UTF-8 exactly where its text is

tail_utf8 : (text tail : List ℕ) → IsTail text tail → IsUtf8 text → IsUtf8 tail
tail_utf8 text tail (inl none) utf8 = subst IsUtf8 (none.0 ∙ sym none.1) utf8
tail_utf8 text tail (inr more) utf8 = subst IsUtf8 (sym more) (utf8_with (codes " ") text refl utf8)

text_utf8 : (text tail : List ℕ) → IsTail text tail → IsUtf8 tail → IsUtf8 text
text_utf8 text tail (inl none) utf8 = subst IsUtf8 (none.1 ∙ sym none.0) utf8
text_utf8 text tail (inr more) utf8 = utf8_past (codes " ") text refl (subst IsUtf8 more utf8)

line_utf8 : (line : List ℕ) (from to : Form) (text : List ℕ) → HasNames line from to text → IsUtf8 text → IsUtf8 line
line_utf8 line from to text h utf8 =
    let rest : IsUtf8 (name_of to ++ h.tail) = utf8_with (name_of to) h.tail (small_name to) (tail_utf8 text h.tail h.rest utf8) in
    subst IsUtf8 (sym h.joined) (utf8_with (name_of from) (codes " " ++ (name_of to ++ h.tail)) (small_name from)
    (utf8_with (codes " ") (name_of to ++ h.tail) refl rest))

utf8_of_line : (line : List ℕ) (from to : Form) (text : List ℕ) → HasNames line from to text → IsUtf8 line → IsUtf8 text
utf8_of_line line from to text h utf8 =
    let rest = utf8_past (name_of from) (codes " " ++ (name_of to ++ h.tail)) (small_name from) (subst IsUtf8 h.joined utf8) in
    text_utf8 text h.tail h.rest (utf8_past (name_of to) h.tail (small_name to) (utf8_past (codes " ") (name_of to ++ h.tail) refl rest))

-- the reply to the text of a line is the reply to the line
pub reply_of_names : (line : List ℕ) (from to : Form) (text reply : List ℕ) (refused : Bool)
    → HasNames line from to text → IsTextReply from to text reply refused → IsReply line reply
reply_of_names line from to text reply refused h (inl (bad, told, is)) =
    inl (λ f t other asked. bad (utf8_of_line line from to text h asked.0), told)
reply_of_names line from to text reply refused h (inr (answer, utf8, is, told, refuses)) =
    let parts : HasRequest line from to text = record {
      tail = h.tail;
      utf8 = line_utf8 line from to text h utf8;
      rest = h.rest;
      joined = h.joined;
    } in
    inr (from, to, text, answer, whole line from to text parts, is, told)

-- ---- a line of two names and a text

spelled : (from to : Form) (text : List ℕ) → (name_of from ++ (codes " " ++ name_of to)) ++ (codes " " ++ text) ≡ name_of from
    ++ (codes " " ++ (name_of to ++ (codes " " ++ text)))
spelled from to text = append_assoc (name_of from) (codes " " ++ name_of to) (codes " " ++ text)

pub asks_text : (from to : Form) (text : List ℕ) → IsUtf8 text → IsRequest
    ((name_of from ++ (codes " " ++ name_of to)) ++ (codes " " ++ text)) from to text
asks_text from to text utf8 =
    let rest : IsUtf8 (name_of to ++ (codes " " ++ text)) = utf8_with (name_of to) (codes " " ++ text) (small_name to)
    (utf8_with (codes " ") text refl utf8) in
    let all = utf8_with (name_of from) (codes " " ++ (name_of to ++ (codes " " ++ text))) (small_name from)
    (utf8_with (codes " ") (name_of to ++ (codes " " ++ text)) refl rest) in
    (subst IsUtf8 (sym (spelled from to text)) all, inr refl)

pub asks_nothing : (from to : Form) (text : List ℕ) → (IsUtf8 text → ⊥) → (f t : Form) (other : List ℕ)
    → IsRequest ((name_of from ++ (codes " " ++ name_of to)) ++ (codes " " ++ text)) f t other → ⊥
asks_nothing from to text bad f t other asked =
    let all = subst IsUtf8 (spelled from to text) asked.0 in
    let rest = utf8_past (codes " ") (name_of to ++ (codes " " ++ text)) refl
    (utf8_past (name_of from) (codes " " ++ (name_of to ++ (codes " " ++ text))) (small_name from) all) in
    bad (utf8_past (codes " ") text refl (utf8_past (name_of to) (codes " " ++ text) (small_name to) rest))
