-- Answers to the goals of `text::push_filled`.
use Rattle.std.proofs.Common.{◌≡◌, ℕ, ◌-◌, ◌++◌, List, ap, ap₂, append_assoc, arith, decimal, length, replicate, ◌∙◌}
use Rattle.scan_core.proofs.text.push_filled.Goals as goal

pub push_str-requires : goal.push_str-requires
push_str-requires g c = let digits = ap length c.format-digits.ensures.text in (omega arith, omega arith)

pub returns : goal.returns
returns g c =
    let digits = ap length c.format-digits.ensures.text in
    let zeros : c.loop.counter - length c.format-digits.result.now ≡ c.args.width - length (decimal c.args.value) = omega arith in
    record {
      bytes = c.push_str.ensures.bytes
          ∙ ap₂ (λ (front ds : List ℕ). front ++ ds) (c.loop.invariant.zeros ∙ ap (λ (n : ℕ). c.args.out.now.bytes ++ replicate n 48) zeros)
          c.format-digits.ensures.text
          ∙ append_assoc c.args.out.now.bytes (replicate (c.args.width - length (decimal c.args.value)) 48) (decimal c.args.value);
      len = omega (arith, digits, zeros, c.push_str.ensures.len, c.loop.invariant.len);
    }
