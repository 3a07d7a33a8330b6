-- Answers to the goals of `file_time::FileTime::checked_add_signed`.
use Rattle.nt_time.proofs.TickLemmas.{not_negative, moved_back, moved_forward}
use Rattle.nt_time.proofs.file_time.FileTime.checked_add_signed.Goals as goal

pub returns-then-is_negative-clause-value : goal.returns-then-is_negative-clause-value
returns-then-is_negative-clause-value c =
    moved_back _ _ _ (c.is_negative.ensures.0 c.if-is_negative.true) (rw c.unsigned_abs.ensures at c.checked_sub.ensures.value)

pub returns-else-is_negative-clause-value : goal.returns-else-is_negative-clause-value
returns-else-is_negative-clause-value c =
    moved_forward _ _ _ (not_negative _ _ c.is_negative.ensures c.if-is_negative.false)
    (rw c.unsigned_abs-else-is_negative.ensures at c.checked_add.ensures.value)
