-- Faults that say the same are equal.
use Rattle.std.proofs.Common.{◌≡◌, ℕ, List, Option, refl, ap}
use Rattle.std.specs.Prelude.{◌↔◌, IsTrue, bytes_eq}
use Rattle.std.proofs.lemmas.Slice.Eq.{bytes_eq-Decides}
use Rattle.port_toml_datetime.specs.Faults.{Fault, says_same}
use Rattle.port_toml_datetime.proofs.EqualParts.{option_is, two_are}

same_fault : (w v : Option (List ℕ)) (d e : Option (List ℕ)) → w ≡ v → d ≡ e
    → ◌≡◌ {A = Fault} (record { what = w; expected = d }) (record { what = v; expected = e })
same_fault w v d e i j = rw (i, j) refl

fault_is : (a b : Fault) → ((a.what ≡ b.what) × (a.expected ≡ b.expected)) ↔ (a ≡ b)
fault_is a b = (
  λ h. same_fault a.what b.what a.expected b.expected h.0 h.1,
  λ h. (ap (λ (f : Fault). f.what) h, ap (λ (f : Fault). f.expected) h),
)

pub same_is : (a b : Fault) → IsTrue (says_same a b) ↔ (a ≡ b)
same_is a b =
    two_are _ _ (option_is bytes_eq bytes_eq-Decides a.what b.what)
    (option_is bytes_eq bytes_eq-Decides a.expected b.expected)
    (fault_is a b)
