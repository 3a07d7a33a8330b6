-- Answers to the goals of the law `equality_is_by_parts`.
use Rattle.std.proofs.Common.{rules, ◌≡◌, Option, refl, ap}
use Rattle.std.specs.Prelude.{◌↔◌}
use Rattle.port_toml_datetime.specs.declared.date.Date.{Date}
use Rattle.port_toml_datetime.specs.declared.time.Time.{Time}
use Rattle.port_toml_datetime.specs.declared.offset.Offset.{Offset}
use Rattle.port_toml_datetime.specs.declared.datetime.Datetime.{Datetime}
use Rattle.port_toml_datetime.specs.Datetimes.{datetime_of}
use Rattle.port_toml_datetime.proofs.EqualParts.{option_is, three_are}
use Rattle.port_toml_datetime.proofs.laws.equality_is_by_parts.Goals as goal

same : (d e : Option Date) (t u : Option Time) (o p : Option Offset) → d ≡ e → t ≡ u → o ≡ p → datetime_of d t o ≡ datetime_of e u p
same d e t u o p i j k = rw (i, j, k) refl

parts_are : (a b : Datetime) → ((a.date ≡ b.date) × (a.time ≡ b.time) × (a.offset ≡ b.offset)) ↔ (a ≡ b)
parts_are a b = (
  λ h. same a.date b.date a.time b.time a.offset b.offset h.0 h.1 h.2,
  λ h.
      (ap (λ (d : Datetime). d.date) h, ap (λ (d : Datetime). d.time) h, ap (λ (d : Datetime). d.offset) h),
)

pub returns-clause-datetimes : goal.returns-clause-datetimes
returns-clause-datetimes c a b =
    three_are _ _ _
    (option_is _ (λ (x y : Date). search rules) a.date b.date)
    (option_is _ (λ (x y : Time). search rules) a.time b.time)
    (option_is _ (λ (x y : Offset). search rules) a.offset b.offset)
    (parts_are a b)
