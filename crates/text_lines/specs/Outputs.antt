-- What is written for a line with a text at a place: the line with the reply to the text in the text's place.
use Rattle.std.specs.Prelude.{◌≡◌, ◌⊎◌, ◌<◌, ◌≤◌, ℕ, Bool, true, false, List, [], ◌∷◌, ◌++◌, codes, length}
use Rattle.forms.specs.declared.form.Form.{Form}
use Rattle.forms.specs.TextReplies.{IsTextReply}
use Rattle.text_lines.specs.declared.place.Place.{Place}
use Rattle.text_lines.specs.Places.{IsPlace, HasNoPlace}

-- how many bytes a line may have
abbrev pub line_limit : ℕ
line_limit = 1_048_576

-- the byte order mark of UTF-8
abbrev pub mark : List ℕ
mark = 239 ∷ 187 ∷ 191 ∷ []

-- a line is the mark, where it is the first one and begins so, and the rest
abbrev pub IsBehindMark : Bool → List ℕ → List ℕ → List ℕ → Type 0
IsBehindMark true line front rest =
    ((line ≡ mark ++ rest) × (front ≡ mark))
    ⊎ (((other : List ℕ) → line ≡ mark ++ other → ⊥) × (front ≡ []) × (rest ≡ line))
IsBehindMark false line front rest = (front ≡ []) × (rest ≡ line)

-- a line is its body and the CR that stands in front of its line feed, where there is one; its end is both
abbrev pub IsBeforeEnd : List ℕ → List ℕ → List ℕ → Type 0
IsBeforeEnd line body end =
    ((line ≡ body ++ codes "\r") × (end ≡ codes "\r\n"))
    ⊎ (((other : List ℕ) → line ≡ other ++ codes "\r" → ⊥) × (body ≡ line) × (end ≡ codes "\n"))

-- a line, which may be the first one, is the mark, its body and its end
pub record HasBody (first : Bool) (line front body end : List ℕ) : Type 0 where
  pub rest : List ℕ
  pub unmarked : IsBehindMark first line front rest
  pub ended : IsBeforeEnd rest body end

-- a body has no such place, and the line is refused as a whole
pub record RefusesLine (place : Place) (body end out : List ℕ) : Type 0 where
  pub none : HasNoPlace place body
  pub told : out ≡ codes "refused Line" ++ end

-- the text of a body is answered in its place, and all other bytes stay
pub record AnswersInPlace (from to : Form) (place : Place) (front body end out : List ℕ) (refused : Bool) : Type 0 where
  pub before : List ℕ
  pub text : List ℕ
  pub after : List ℕ
  pub reply : List ℕ
  pub placed : IsPlace place body before text after
  pub replied : IsTextReply from to text reply refused
  pub told : out ≡ front ++ (before ++ (reply ++ (after ++ end)))

-- the output for a line that isn't too long
pub record AnswersLine (from to : Form) (place : Place) (first : Bool) (line out : List ℕ) (refused : Bool) : Type 0 where
  pub front : List ℕ
  pub body : List ℕ
  pub end : List ℕ
  pub parts : HasBody first line front body end
  pub answered : (RefusesLine place body end out × (refused ≡ true))
      ⊎ AnswersInPlace from to place front body end out refused

-- the output for a line, which may be the first one, and whether it is a refusal
abbrev pub IsOutput : Form → Form → Place → Bool → List ℕ → List ℕ → Bool → Type 0
IsOutput from to place first line out refused =
    ((line_limit < length line) × (out ≡ codes "refused Line\n") × (refused ≡ true))
    ⊎ ((length line ≤ line_limit) × AnswersLine from to place first line out refused)
