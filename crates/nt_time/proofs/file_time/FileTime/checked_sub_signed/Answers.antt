-- Answers to the goals of `file_time::FileTime::checked_sub_signed`.
use Rattle.nt_time.proofs.TickLemmas.{not_negative, moved_forward-neg, moved_back-neg}
use Rattle.nt_time.proofs.file_time.FileTime.checked_sub_signed.Goals as goal

pub returns-then-is_negative-clause-value : goal.returns-then-is_negative-clause-value
returns-then-is_negative-clause-value c =
    moved_forward-neg _ _ _ (c.is_negative.ensures.0 c.if-is_negative.true) (rw c.unsigned_abs.ensures at c.checked_add.ensures.value)

pub returns-else-is_negative-clause-value : goal.returns-else-is_negative-clause-value
returns-else-is_negative-clause-value c =
    moved_back-neg _ _ _ (not_negative _ _ c.is_negative.ensures c.if-is_negative.false)
    (rw c.unsigned_abs-else-is_negative.ensures at c.checked_sub.ensures.value)
