-- Answers to the goals of `form::form_named`.
use Rattle.std.proofs.Common.{sym, subst}
use Rattle.std.specs.Prelude.{IsUtf8}
use Rattle.timeforms_c.proofs.Answered.{not_none}
use Rattle.timeforms_c.proofs.Names.{name_is_utf8}
use Rattle.timeforms_c.proofs.form.form_named.Goals as goal

pub returns-in-Err : goal.returns-in-Err
returns-in-Err c form =
    (λ e. absurd (not_none form e), λ named. absurd (c.in-Err.ensures.cases.0 (subst IsUtf8 (sym named) (name_is_utf8 form))))
