-- Answers to the goals of `laws::waiting_texts_keep_their_order`.
use Rattle.forms.proofs.WaitingTexts.{moves_more, fails_later, flushed_all, flushed_front}
use Rattle.forms.proofs.laws.waiting_texts_keep_their_order.Goals as goal

pub returns : goal.returns
returns c = record { next = moves_more; next_fails = fails_later; flushed = flushed_all; flush_fails = flushed_front }
