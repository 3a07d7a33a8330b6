-- Answers to the goals of `schedule::timeforms_schedule_check`.
use Rattle.std.proofs.Common.{List, Result, FitsSigned, w32, take, refl, rules}
use Rattle.schedule_check.specs.Checks.{answer_at}
use Rattle.schedule_check.specs.declared.check_error.CheckError.{CheckError}
use Rattle.schedule_check.specs.declared.slot.Slot.{Slot}
use Rattle.timeforms_c.proofs.ScheduleAnswers.{tells_as}
use Rattle.timeforms_c.proofs.schedule.timeforms_schedule_check.Goals as goal

pub returns-clause-answer : goal.returns-clause-answer
returns-clause-answer c = λ fits.
    let code : FitsSigned w32 c.told.result = search rules in
    let slots : List Slot = take c.check_into-lines.result.0 c.check_into-lines.new.slots in
    let given : Result (List Slot) CheckError = answer_at slots c.check_into-lines.result.1 in
    let checked = c.check_into-lines.ensures.checks fits in (
      given,
      checked,
      tells_as given given slots c.told.new.first c.told.new.second c.told.result refl code
          (c.told.ensures.answer c.args.text.now slots checked),
    )

pub returns-clause-exact : goal.returns-clause-exact
returns-clause-exact c = λ answer fits h.
    let code : FitsSigned w32 c.told.result = search rules in
    let slots : List Slot = take c.check_into-lines.result.0 c.check_into-lines.new.slots in
    let given : Result (List Slot) CheckError = answer_at slots c.check_into-lines.result.1 in
    tells_as given answer slots c.told.new.first c.told.new.second c.told.result (c.check_into-lines.ensures.exact answer fits h) code
    (c.told.ensures.answer c.args.text.now slots (c.check_into-lines.ensures.checks fits))
