-- The invariant and the measure of the loop of `mail_date::behind_comment`.
use Rattle.std.proofs.Common.{◌≡◌, ◌≤◌, ◌-◌, length, drop}
use Rattle.scan_core.specs.Fronts.{behind}
use Rattle.internet_dates.specs.MailDate.{is_comment_byte}
use Rattle.internet_dates.proofs.mail_date.behind_comment.Given as goal

abbrev pub invariant-loop-len : goal.invariant-loop-len
invariant-loop-len l = record {
  within : l.len ≤ length l.bytes;
  rest : behind is_comment_byte l.bytes ≡ behind is_comment_byte (drop l.len l.bytes);
}

abbrev pub decreases-loop-len : goal.decreases-loop-len
decreases-loop-len l = length l.bytes - l.len
