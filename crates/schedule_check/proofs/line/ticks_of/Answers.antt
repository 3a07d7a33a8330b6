-- Answers to the goals of `line::ticks_of`.
use Rattle.forms.specs.declared.form.Form.TheVariants.{Toml}
use Rattle.forms.specs.form.FileTime.{held}
use Rattle.schedule_check.proofs.Slots.{read_as_ok, read_as_err}
use Rattle.schedule_check.proofs.line.ticks_of.Goals as goal

pub returns-in-Ok : goal.returns-in-Ok
returns-in-Ok c = read_as_ok Toml held c.args.start.now c.read.result c.in-Ok.value c.file_time_of.result c.read.ensures c.in-Ok.is
    c.file_time_of.ensures

pub returns-in-Err : goal.returns-in-Err
returns-in-Err c = read_as_err Toml held c.args.start.now c.read.result c.in-Err.cause c.read.ensures c.in-Err.is
