-- The invariant of the loop of `form::after_word`.
use Rattle.std.proofs.Common.{◌≡◌, take}
use Rattle.forms.proofs.form.after_word.Given as goal

abbrev pub invariant-loop-i : goal.invariant-loop-i
invariant-loop-i l = record { same : take l.i l.text ≡ take l.i l.word }
