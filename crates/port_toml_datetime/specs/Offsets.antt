-- Offsets, by the TOML specification 1.1, section "Offset Date-Time", and `time-offset` of its
-- grammar.
use Rattle.std.specs.Prelude.{◌≡◌, ℕ, ◌+◌, ◌*◌, ◌⊎◌, Bool, List, ◌++◌, codes}
use Rattle.scan_core.specs.Fields.{IsField}
use Rattle.scan_core.specs.Number.{sign_text}
use Rattle.scan_core.specs.Shares.{signed}
use Rattle.port_toml_datetime.specs.declared.offset.Offset.{Offset}
use Rattle.port_toml_datetime.specs.declared.offset.Offset.TheVariants.{Z, Custom}

-- `time-numoffset`: a sign, and `HH:MM`
pub record IsNumericOffset (text : List ℕ) (offset : Offset) : Type 0 where
  pub negative : Bool
  pub hour_text : List ℕ
  pub minute_text : List ℕ
  pub hour : ℕ
  pub minute : ℕ
  pub hours : IsField 2 0 23 hour_text hour
  pub minutes : IsField 2 0 59 minute_text minute
  pub joined : text ≡ sign_text negative ++ (hour_text ++ (codes ":" ++ minute_text))
  pub value : offset ≡ Custom (signed negative (60 * hour + minute))

-- `Z`, `z`, or a sign and `HH:MM`
abbrev pub IsTimeOffset : List ℕ → Offset → Type 0
IsTimeOffset text offset =
    (((text ≡ codes "Z") ⊎ (text ≡ codes "z")) × (offset ≡ Z)) ⊎ IsNumericOffset text offset
