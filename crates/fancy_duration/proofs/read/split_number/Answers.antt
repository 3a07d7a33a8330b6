-- Answers to the goals of `read::split_number`.
use Rattle.std.proofs.Common.{◌≡◌, ◌∙◌, ◌^◌, ◌-◌, sym, ap, rules, arith, true}
use Rattle.std.specs.Char.{is_ascii_digit as is_digit}
use Rattle.std.specs.Str.Parse.{digits_value_after}
use Rattle.scan_core.specs.Fronts.{leading}
use Rattle.fancy_duration.specs.inside.Reading.{capped}
use Rattle.fancy_duration.proofs.Caps.{min_digit}
use Rattle.fancy_duration.proofs.Fronts.{front_more, behind_more, digit_value-digit}
use Rattle.fancy_duration.proofs.read.split_number.Goals as goal

pub loop-first-preserved : goal.loop-first-preserved
loop-first-preserved c =
    let digit : is_digit c.in-Some.first.now ≡ true = search rules in
    let value = digit_value-digit c.in-Some.first.now digit in
    let split = front_more is_digit _ _ _ c.in-Some.ensures.cases.0 digit in
    record {
      number = min_digit c.in-Some.first.now c.loop-first.number c.with_digit-number.result (2 ^ 128 - 1)
          (leading is_digit c.in-Some.tail.now) (omega (arith, value, c.with_digit-number.ensures))
          ∙ ap (λ ds. capped (digits_value_after 10 c.loop-first.number ds)) (sym split) ∙ c.loop-first.invariant.number;
      rest = behind_more is_digit _ _ _ c.in-Some.ensures.cases.0 digit ∙ c.loop-first.invariant.rest;
      within = omega (arith, c.with_digit-number.ensures);
    }
