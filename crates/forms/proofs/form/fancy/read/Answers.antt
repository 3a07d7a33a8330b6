-- Answers to the goals of `form::fancy::read`.
use Rattle.std.proofs.Common.{Err, refl, ap}
use Rattle.forms.proofs.ShortDurations.{reads_none, reads_length, reads_too_big}
use Rattle.forms.proofs.form.fancy.read.Goals as goal

pub returns-in-Ok : goal.returns-in-Ok
returns-in-Ok c =
    reads_length c.strict_texts_spell_their_sums.ensures c.args.text.now (c.in-Ok.seconds, c.in-Ok.nanos) c.in-Ok.ensures.ok.0
    c.in-Ok.ensures.ok.1 _ refl

pub returns-in-Err-NotStrict : goal.returns-in-Err-NotStrict
returns-in-Err-NotStrict c =
    reads_none c.strict_texts_spell_their_sums.ensures c.args.text.now
    (c.in-Err-NotStrict.ensures.not_strict.0 (ap Err c.in-Err-NotStrict.field-0-is))

pub returns-in-Err-TooBig : goal.returns-in-Err-TooBig
returns-in-Err-TooBig c =
    let big = c.in-Err-TooBig.ensures.too_big.0 (ap Err c.in-Err-TooBig.field-0-is) in
    reads_too_big c.strict_texts_spell_their_sums.ensures c.args.text.now big.0 big.1
