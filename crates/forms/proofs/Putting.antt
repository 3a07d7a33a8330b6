-- What was put behind a text, where a writer answers that something was or wasn't.
use Rattle.std.proofs.Common.{◌≡◌, ℕ, List, [], ◌++◌, Result, Ok, Err, refl, sym, subst, ap, ◌∙◌}
use Rattle.std.specs.Prelude.{⊤}
use Rattle.forms.specs.declared.cause.Cause.{Cause}
use Rattle.forms.specs.declared.value.Value.{Value}
use Rattle.forms.specs.Answers.{WritesBy}
use Rattle.forms.specs.Putting.{IsPut, Puts}
use Rattle.forms.specs.inside.Putting.{Gains}

same_err : (a b : Cause) → (let left : Result ⊤ Cause = Err a in left ≡ Err b) → a ≡ b
same_err a b h = cc

ok_put : (P : Result (List ℕ) Cause → Type 0) (answer : Result (List ℕ) Cause) (before after : List ℕ) → P answer
    → IsPut answer before after (Ok tt) → Gains (λ text. P (Ok text)) before after
ok_put P (Ok text) before after is put = record { text = text; is = is; gained = put.1 }
ok_put P (Err cause) before after is put = absurd (let e : Ok tt ≡ Err cause = put.0 in cc)

err_put : (P : Result (List ℕ) Cause → Type 0) (answer : Result (List ℕ) Cause) (cause : Cause) (before after : List ℕ) → P answer
    → IsPut answer before after (Err cause) → P (Err cause) × (after ≡ before)
err_put P (Ok text) cause before after is put = absurd (let e : Err cause ≡ Ok tt = put.0 in cc)
err_put P (Err other) cause before after is put = (subst (λ (c : Cause). P (Err c)) (sym (same_err cause other put.0)) is, put.1)

-- a text was put there
pub gains : (P : Result (List ℕ) Cause → Type 0) (before after : List ℕ) → Puts P before after (Ok tt)
    → Gains (λ text. P (Ok text)) before after
gains P before after puts = ok_put P puts.answer before after puts.is puts.put

-- nothing was put there, for a cause
pub refuses : (P : Result (List ℕ) Cause → Type 0) (before after : List ℕ) (cause : Cause) → Puts P before after (Err cause) → P (Err cause)
    × (after ≡ before)
refuses P before after cause puts = err_put P puts.answer cause before after puts.is puts.put

-- a text was put where nothing stood
pub alone : (P : Result (List ℕ) Cause → Type 0) (before after : List ℕ) → before ≡ [] → Puts P before after (Ok tt) → P (Ok after)
alone P before after none puts =
    let all = gains P before after puts in
    subst (λ (text : List ℕ). P (Ok text)) (sym (all.gained ∙ ap (λ (l : List ℕ). l ++ all.text) none)) all.is

-- the text of what is held of a value was put there
pub puts_held : {X : Type 0} (Holds : Value → Result X Cause → Type 0) (text_of : X → List ℕ) (value : Value) (x : X)
    (before after : List ℕ) → Holds value (Ok x) → after ≡ before ++ text_of x
    → Puts (WritesBy Holds text_of value) before after (Ok tt)
puts_held Holds text_of value x before after held gained = record { answer = Ok (text_of x); is = (Ok x, held, refl); put = (refl, gained) }

-- nothing is held of a value, and nothing was put there
pub puts_none : {X : Type 0} (Holds : Value → Result X Cause → Type 0) (text_of : X → List ℕ) (value : Value) (cause : Cause)
    (bytes : List ℕ) → Holds value (Err cause)
    → Puts (WritesBy Holds text_of value) bytes bytes (Err cause)
puts_none Holds text_of value cause bytes held = record { answer = Err cause; is = (Err cause, held, refl); put = (refl, refl) }

-- a text of one kind that was put there is one of another
pub puts_so : (P Q : Result (List ℕ) Cause → Type 0) → ((answer : Result (List ℕ) Cause) → P answer → Q answer)
    → (before after : List ℕ) (result : Result ⊤ Cause) → Puts P before after result
    → Puts Q before after result
puts_so P Q so before after result puts = record { answer = puts.answer; is = so puts.answer puts.is; put = puts.put }
