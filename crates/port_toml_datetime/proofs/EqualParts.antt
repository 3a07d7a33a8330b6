-- Optional parts are equal as their values are, and so are values of two and of three parts.
use Rattle.std.proofs.Common.{◌≡◌, ◌&&◌, Bool, true, false, Option, Some, None, refl, ap}
use Rattle.std.specs.Prelude.{◌↔◌, IsTrue}
use Rattle.std.specs.Option.{option_eq}
use Rattle.std.proofs.lemmas.Option.{same_Some}

pub option_is : {A : Type 0} (eq : A → A → Bool) → ((a b : A) → IsTrue (eq a b) ↔ (a ≡ b)) → (x y : Option A) → IsTrue (option_eq eq x y)
    ↔ (x ≡ y)
option_is eq own None None = (λ h. refl, λ h. refl)
option_is eq own None (Some b) = (λ h. absurd (cc), λ h. absurd (cc))
option_is eq own (Some a) None = (λ h. absurd (cc), λ h. absurd (cc))
option_is {A} eq own (Some a) (Some b) = (λ h. ap (λ (v : A). Some v) ((own a b).0 h), λ h. (own a b).1 (same_Some a b h))

all_true : (x y z : Bool) → IsTrue (x && (y && z)) → IsTrue x × IsTrue y × IsTrue z
all_true true true true h = (refl, refl, refl)
all_true false y z h = absurd (cc)
all_true true false z h = absurd (cc)
all_true true true false h = absurd (cc)

pub three_are : {P Q R W : Type 0} (x y z : Bool) → (IsTrue x ↔ P) → (IsTrue y ↔ Q) → (IsTrue z ↔ R) → ((P × Q × R) ↔ W)
    → IsTrue (x && (y && z)) ↔ W
three_are x y z p q r w =
    (λ h. let t = all_true x y z h in w.0 (p.0 t.0, q.0 t.1, r.0 t.2), λ h. let t = w.1 h in rw (p.1 t.0, q.1 t.1, r.1 t.2) refl)

both_true : (x y : Bool) → IsTrue (x && y) → IsTrue x × IsTrue y
both_true true true h = (refl, refl)
both_true false y h = absurd (cc)
both_true true false h = absurd (cc)

pub two_are : {P Q W : Type 0} (x y : Bool) → (IsTrue x ↔ P) → (IsTrue y ↔ Q) → ((P × Q) ↔ W) → IsTrue (x && y) ↔ W
two_are x y p q w = (λ h. let t = both_true x y h in w.0 (p.0 t.0, q.0 t.1), λ h. let t = w.1 h in rw (p.1 t.0, q.1 t.1) refl)
