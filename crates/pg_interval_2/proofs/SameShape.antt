-- Two shapes that say the same of each text: what a text denotes in one it denotes in the other, and it is refused alike.
use Rattle.std.proofs.Common.{ℕ, List, Result, Ok, Err, IfOk, IfErr}
use Rattle.scan_core.specs.Count.{Count}
use Rattle.pg_interval_2.specs.declared.interval.Interval.{Interval}
use Rattle.pg_interval_2.specs.declared.error.ParseError.{ParseError}
use Rattle.pg_interval_2.specs.declared.error.ParseError.TheVariants.{InvalidInterval, BadUnit, InvalidYearMonth, InvalidDay, InvalidTime}
use Rattle.pg_interval_2.specs.Denotes.{Denotes, Refuses}

abbrev pub Onto : (List ℕ → List Count → Type 0) → (List ℕ → List Count → Type 0) → Type 0
Onto S U = (text : List ℕ) (counts : List Count) → S text counts → U text counts

pub denotes_onto : (S U : List ℕ → List Count → Type 0) → Onto S U → (text : List ℕ) (t : Interval) → Denotes S text t → Denotes U text t
denotes_onto S U onto text t h = (h.0, onto text h.0 h.1, h.2, h.3)

pub ok_onto : (S U : List ℕ → List Count → Type 0) → Onto S U → (text : List ℕ) (r : Result Interval ParseError)
    → IfOk r (λ t. Denotes S text t) → IfOk r (λ t. Denotes U text t)
ok_onto S U onto text (Ok t) h = denotes_onto S U onto text t h
ok_onto S U onto text (Err e) h = tt

refuses_onto : (S U : List ℕ → List Count → Type 0) → Onto S U → Onto U S
    → (B : List ℕ → ℕ → ℕ → Type 0) (message text : List ℕ) (e : ParseError)
    → Refuses S B message text e → Refuses U B message text e
refuses_onto S U onto back B message text (InvalidInterval m) h = ((λ counts shape. h.0 counts (back text counts shape)), h.1, h.2)
refuses_onto S U onto back B message text (BadUnit start end) h = ((λ counts shape. h.0 counts (back text counts shape)), h.1)
refuses_onto S U onto back B message text (InvalidYearMonth m) h = ((h.0.0, onto text h.0.0 h.0.1, h.0.2), h.1)
refuses_onto S U onto back B message text (InvalidDay m) h = ((h.0.0, onto text h.0.0 h.0.1, h.0.2), h.1)
refuses_onto S U onto back B message text (InvalidTime m) h = ((h.0.0, onto text h.0.0 h.0.1, h.0.2), h.1)

pub err_onto : (S U : List ℕ → List Count → Type 0) → Onto S U → Onto U S
    → (B : List ℕ → ℕ → ℕ → Type 0) (message text : List ℕ) (r : Result Interval ParseError)
    → IfErr r (λ e. Refuses S B message text e) → IfErr r (λ e. Refuses U B message text e)
err_onto S U onto back B message text (Ok t) h = tt
err_onto S U onto back B message text (Err e) h = refuses_onto S U onto back B message text e h
