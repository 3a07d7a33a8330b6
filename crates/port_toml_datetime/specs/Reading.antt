-- What is answered for a text: the date-time that it is, or the first check that fails.
use Rattle.std.specs.Prelude.{◌≡◌, ℕ, List, Result, Ok, Err, IfOk, IfErr}
use Rattle.port_toml_datetime.specs.Datetimes.{IsDatetime}
use Rattle.port_toml_datetime.specs.Faults.{Fault}
use Rattle.port_toml_datetime.specs.Checks.{outcome}
use Rattle.port_toml_datetime.specs.declared.datetime.Datetime.{Datetime}

-- the answer for a text: the date-time exactly where there is one, and else the first check that fails
pub record IsReadFrom (text : List ℕ) (result : Result Datetime Fault) : Type 0 where
  pub ok : IfOk result (IsDatetime text)
  pub all : (value : Datetime) → IsDatetime text value → result ≡ Ok value
  pub err : IfErr result (λ said. outcome text ≡ Err said)
