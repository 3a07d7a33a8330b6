-- Answers to the goals of `front::front_of`.
use Rattle.std.proofs.Common.{◌≡◌, ap, get_or, rules, subst, take, true, ◌∙◌, arith}
use Rattle.std.proofs.lemmas.List.{take_more}
use Rattle.std.specs.Char.{is_ascii_digit}
use Rattle.scan_core.specs.Digits.{AreDigits, number_of}
use Rattle.scan_core.proofs.DigitFacts.{digits_left}
use Rattle.scan_core.proofs.FrontFacts.{front_are_digits}
use Rattle.scan_core.proofs.RunFacts.{number_of_push}
use Rattle.xsd_duration.proofs.NumberFacts.{after_more, front_more}
use Rattle.xsd_duration.proofs.front.front_of.Goals as goal

pub loop-len-preserved : goal.loop-len-preserved
loop-len-preserved c =
    let bytes = c.args.bytes.now in
    let digit : is_ascii_digit (get_or bytes c.loop-len.len 0) ≡ true = search rules in
    let more = ap number_of (take_more bytes c.loop-len.len 0 (omega arith))
    ∙ number_of_push (take c.loop-len.len bytes) (get_or bytes c.loop-len.len 0) digit in
    record {
      within = search rules;
      front = front_more bytes c.loop-len.len (omega arith) digit c.loop-len.invariant.front;
      rest = after_more bytes c.loop-len.len (omega arith) digit c.loop-len.invariant.rest;
      number = rw more (c.with_digit-number.ensures _ c.loop-len.invariant.number);
    }

pub whole_number-requires-clause-digits : goal.whole_number-requires-clause-digits
whole_number-requires-clause-digits c =
    let front = subst AreDigits c.loop-len.invariant.front (front_are_digits c.args.bytes.now) in
    let digits = digits_left (take c.loop-len.len c.args.bytes.now) _ front in
    search rules

pub returns-clause-digits : goal.returns-clause-digits
returns-clause-digits c =
    let front = subst AreDigits c.loop-len.invariant.front (front_are_digits c.args.bytes.now) in
    let digits = digits_left (take c.loop-len.len c.args.bytes.now) _ front in
    search rules
