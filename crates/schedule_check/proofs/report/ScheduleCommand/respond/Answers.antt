-- Answers to the goals of `respond` of `report::Schedule`.
use Rattle.std.proofs.Common.{◌≡◌, sym, ◌∙◌}
use Rattle.whole_input.specs.declared.command.Response.{Response}
use Rattle.whole_input.specs.declared.command.Response.TheVariants.{WriteFault, NoMemory}
use Rattle.schedule_check.proofs.Reporting.{gains_front}
use Rattle.schedule_check.proofs.report.ScheduleCommand.respond.Goals as goal

pub returns-clause-unwritten : goal.returns-clause-unwritten
returns-clause-unwritten g c = λ is.
    let told = c.write_report.ensures.unwritten is in (
      told.0,
      gains_front c.args.input.now c.check.result _ _ c.check.ensures.checks
          (λ none. let e : ◌≡◌ {A = Response} WriteFault NoMemory = sym is ∙ c.write_report.ensures.none none in cc)
          told.1,
    )
