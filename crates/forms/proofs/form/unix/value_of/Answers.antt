-- Answers to the goals of `form::unix::value_of`.
use Rattle.std.proofs.Common.{arith, sym, ◌≤◌, ◌^◌}
use Rattle.scan_core.specs.Digits.{number_of}
use Rattle.forms.proofs.UnixTimes.{worth_many}
use Rattle.forms.proofs.form.unix.value_of.Goals as goal

pub returns-in-None : goal.returns-in-None
returns-in-None c =
    let fits = c.in-None.ensures.fits in
    let large : 2 ^ 64 ≤ number_of c.args.whole.now = grind arith in
    sym (worth_many c.args.negative _ (omega (arith, large)))
