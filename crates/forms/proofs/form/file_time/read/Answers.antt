-- Answers to the goals of `form::file_time::read`.
use Rattle.std.proofs.Common.{Ok, arith, subst, sym, ◌∙◌}
use Rattle.std.specs.Prelude.{ℤ}
use Rattle.std.proofs.lemmas.Int.{ints}
use Rattle.forms.specs.declared.value.Value.TheVariants.{Instant}
use Rattle.forms.specs.Answers.{Is, ReadsBy}
use Rattle.forms.specs.form.FileTime.{worth}
use Rattle.nt_time.specs.Text.{IsTextOf}
use Rattle.forms.proofs.FileTimes.{reads_ticks, reads_beyond, reads_syntax}
use Rattle.forms.proofs.form.file_time.read.Goals as goal

pub returns-in-Ok : goal.returns-in-Ok
returns-in-Ok c =
    let P : ℤ → Type 0 = λ z. ReadsBy IsTextOf (Is worth) c.args.text.now (Ok (Instant z)) in
    subst P (omega (arith, ints)) (reads_ticks c.args.text.now c.in-Ok.time c.in-Ok.ensures.ok c.in-Ok.ensures.fits)

pub returns-in-Empty : goal.returns-in-Empty
returns-in-Empty c = reads_syntax c.args.text.now c.in-Err.error c.in-Err.ensures (rw (sym c.cause.ensures) c.in-Empty.is)

pub returns-in-Overflow : goal.returns-in-Overflow
returns-in-Overflow c = reads_beyond c.args.text.now c.in-Err.error c.in-Err.ensures (sym c.cause.ensures ∙ c.in-Overflow.is)
