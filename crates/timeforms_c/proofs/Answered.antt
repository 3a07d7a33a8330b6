-- What an answer is not, and what it is again where its causes are of another type.
use Rattle.std.proofs.Common.{◌≡◌, Option, None, Some, Result, Ok, Err}

pub not_none : {T : Type 0} (a : T) → ◌≡◌ {A = Option T} None (Some a) → ⊥
not_none a e = cc

pub not_some : {T : Type 0} (a : T) → ◌≡◌ {A = Option T} (Some a) None → ⊥
not_some a e = cc

pub same_some : {T : Type 0} (a b : T) → ◌≡◌ {A = Option T} (Some a) (Some b) → a ≡ b
same_some a b e = cc

pub not_ok : {T E : Type 0} (a : T) (cause : E) → ◌≡◌ {A = Result T E} (Err cause) (Ok a) → ⊥
not_ok a cause e = cc

pub same_ok : {T E : Type 0} (a b : T) → ◌≡◌ {A = Result T E} (Ok a) (Ok b) → a ≡ b
same_ok a b e = cc

pub not_err : {T E : Type 0} (a : T) (cause : E) → ◌≡◌ {A = Result T E} (Ok a) (Err cause) → ⊥
not_err a cause e = cc
