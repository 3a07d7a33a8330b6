-- Two conditions hold together exactly where what they stand for does.
use Rattle.std.proofs.Common.{◌&&◌, Bool, true, false, refl}
use Rattle.std.specs.Prelude.{◌↔◌, IsTrue}

both_true : (x y : Bool) → IsTrue (x && y) → IsTrue x × IsTrue y
both_true true true h = (refl, refl)
both_true false y h = absurd (cc)
both_true true false h = absurd (cc)

pub two_are : {P Q W : Type 0} (x y : Bool) → (IsTrue x ↔ P) → (IsTrue y ↔ Q) → ((P × Q) ↔ W) → IsTrue (x && y) ↔ W
two_are x y p q w =
    (λ h. let t = both_true x y h in w.0 (p.0 t.0, q.0 t.1), λ h. let t = w.1 h in rw (p.1 t.0, q.1 t.1) refl)
