-- Checks in a row: all hold and the answer is the one behind them, or the first that fails is the answer.
use Rattle.std.proofs.Common.{◌≡◌, Bool, true, false, cond, List, [], ◌∷◌, Result, Ok, Err, refl, ap}
use Rattle.port_toml_datetime.specs.Faults.{Fault}
use Rattle.port_toml_datetime.specs.Checks.{Row, checked, and_then}

abbrev pub AllHold : List Row → Type 0
AllHold [] = Unit {0}
AllHold (row ∷ rows) = (row.holds ≡ true) × AllHold rows

abbrev value_or : {A : Type 0} → A → Result A Fault → A
value_or other (Ok value) = value
value_or other (Err said) = other

pub same_ok : {A : Type 0} (a b : A) → ◌≡◌ {A = Result A Fault} (Ok a) (Ok b) → a ≡ b
same_ok a b h = ap (value_or a) h

ok_if : {A : Type 0} (t : Bool) (said : Fault) (more : Result A Fault) (value : A) → cond t more (Err said) ≡ Ok value
    → (t ≡ true) × (more ≡ Ok value)
ok_if true said more value h = (refl, h)
ok_if false said more value h = absurd (cc)

pub record Held {A : Type 0} (rows : List Row) (answer : Result A Fault) (value : A) : Type 0 where
  pub all : AllHold rows
  pub answered : answer ≡ Ok value

pub all_held : {A : Type 0} (rows : List Row) (answer : Result A Fault) (value : A) → checked rows answer ≡ Ok value → Held rows answer value
unfolding checked
all_held [] answer value h = record { all = tt; answered = h }
all_held (row ∷ rows) answer value h =
    let p = ok_if row.holds row.fault (checked rows answer) value h in
    let q = all_held rows answer value p.1 in
    record { all = (p.0, q.all); answered = q.answered }

pub all_pass : {A : Type 0} (rows : List Row) (answer : Result A Fault) → AllHold rows → checked rows answer ≡ answer
unfolding checked
all_pass [] answer h = refl
all_pass (row ∷ rows) answer h = rw h.0 (all_pass rows answer h.1)

pub then_ok : {A B : Type 0} (first : Result A Fault) (next : A → Result B Fault) (value : B) → and_then first next ≡ Ok value
    → (a : A) × (first ≡ Ok a) × (next a ≡ Ok value)
unfolding and_then
then_ok (Ok a) next value h = (a, refl, h)
then_ok (Err said) next value h = absurd (cc)
