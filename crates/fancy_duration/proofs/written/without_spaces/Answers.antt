-- Answers to the goals of `written::without_spaces`.
use Rattle.std.proofs.Common.{lit<}
use Rattle.std.proofs.lemmas.Iterator.Splits.{YieldsList-from_str_split}
use Rattle.fancy_duration.proofs.Spaces.{text_from_pieces, concat-slice_split}
use Rattle.fancy_duration.proofs.written.without_spaces.Goals as goal

pub returns : goal.returns
returns c =
    let all = text_from_pieces _ c.collect.ensures.ran (YieldsList-from_str_split 32 c.args.text.now
    (lit< tt) c.split.ensures.text c.split.ensures.has_more c.split.ensures.pattern) in
    rw (← concat-slice_split c.args.text.now) all
