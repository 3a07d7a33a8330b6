-- A request, whole and by what follows its names.
use Rattle.std.proofs.Common.{ℕ, List, [], ◌++◌, codes, refl, sym, ◌∙◌, ap, append-nil, append_assoc, inl, inr, ⊎_elim}
use Rattle.forms.specs.declared.form.Form.{Form}
use Rattle.forms.specs.Names.{name_of}
use Rattle.forms.specs.Replies.{IsRequest}
use Rattle.forms.specs.inside.Requests.{HasRequest}

pub by_tail : (line : List ℕ) (from to : Form) (text : List ℕ) → IsRequest line from to text → HasRequest line from to text
by_tail line from to text (utf8, inl (named, none)) = record {
  tail = [];
  utf8 = utf8;
  rest = inl (none, refl);
  joined = named ∙ ap (λ (l : List ℕ). name_of from ++ (codes " " ++ l)) (sym (append-nil (name_of to)));
}
by_tail line from to text (utf8, inr more) = record {
  tail = codes " " ++ text;
  utf8 = utf8;
  rest = inr refl;
  joined = more ∙ append_assoc (name_of from) (codes " " ++ name_of to) (codes " " ++ text);
}

pub whole : (line : List ℕ) (from to : Form) (text : List ℕ) → HasRequest line from to text → IsRequest line from to text
whole line from to text h =
    ⊎_elim
    (λ none. (
      h.utf8,
      inl (
        h.joined ∙ ap (λ (l : List ℕ). name_of from ++ (codes " " ++ l))
            (ap (λ (l : List ℕ). name_of to ++ l) none.1 ∙ append-nil (name_of to)),
        none.0,
      ),
    ))
    (λ more. (
      h.utf8,
      inr (h.joined ∙ (ap (λ (l : List ℕ). name_of from ++ (codes " " ++ (name_of to ++ l))) more
          ∙ sym (append_assoc (name_of from) (codes " " ++ name_of to) (codes " " ++ text)))),
    ))
    h.rest
