-- What is found of a text, and what it is judged as.
use Rattle.std.proofs.Common.{◌≡◌, ◌≢◌, ℕ, ◌<◌, ◌≤◌, ℤ, List, Option, Some, None, Result, Ok, Err, refl, sym, ◌∙◌}
use Rattle.std.specs.Prelude.{IfSome, IfNone, IfOk}
use Rattle.internet_dates.specs.DateTimes.{IsRealMoment, seconds_of}
use Rattle.internet_dates.specs.Readings.{IsRead}
use Rattle.internet_dates.specs.declared.date_time.DateTime.{DateTime}
use Rattle.internet_dates.specs.declared.error.DateError.{DateError}
use Rattle.internet_dates.specs.declared.error.DateError.TheVariants.{Syntax, NoSuchMoment, Range}

pub found_of : {X : Type 0} (o f : Option X) (P : X → Type 0) → o ≡ f → ((x : X) → f ≡ Some x → P x) → IfSome o P
found_of None f P e h = tt
found_of (Some x) f P e h = h x (sym e)

pub none_of : {X : Type 0} (o f : Option X) (P : X → Type 0) → o ≡ f → ((x : X) → P x → f ≡ Some x) → IfNone o ((x : X) → P x → ⊥)
none_of None f P e h = λ x p. absurd (let s = e ∙ h x p in cc)
none_of (Some x) f P e h = tt

pub read_as : (Spells : List ℕ → DateTime → Type 0) (first : ℕ) (text : List ℕ) (t : DateTime) (answer : Result ℤ DateError) → Spells text t
    → answer ≢ Err Syntax
    → IfOk answer (λ seconds. IsRealMoment t × (first ≤ t.year) × (seconds ≡ seconds_of t))
    → (answer ≡ Err NoSuchMoment → IsRealMoment t → ⊥)
    → (answer ≡ Err Range → IsRealMoment t × (t.year < first))
    → IsRead Spells first text answer
read_as Spells first text t (Ok seconds) spelled syntax ok unreal range = (t, spelled, ok.0, ok.1, ok.2)
read_as Spells first text t (Err Syntax) spelled syntax ok unreal range = absurd (syntax refl)
read_as Spells first text t (Err NoSuchMoment) spelled syntax ok unreal range = (t, spelled, unreal refl)
read_as Spells first text t (Err Range) spelled syntax ok unreal range = let r = range refl in (t, spelled, r.0, r.1)
