-- Answers to the goals of `form::toml::clock`.
use Rattle.std.proofs.Common.{◌≡◌, refl, sym, ◌∙◌, ap, arith, Ok}
use Rattle.std.specs.Prelude.{ℤ}
use Rattle.std.proofs.lemmas.Int.{ints}
use Rattle.forms.specs.inside.TomlParts.{clock_of}
use Rattle.forms.proofs.TomlDateTimes.{leap, no_leap}
use Rattle.forms.proofs.form.toml.clock.Goals as goal

pub returns-then-second-eq60 : goal.returns-then-second-eq60
returns-then-second-eq60 c = sym (leap c.args.time (sym c.unwrap_or-second.ensures ∙ c.if-second-eq60.true))

pub returns : goal.returns
returns c =
    let second = c.unwrap_or-second.ensures in
    let nanosecond = c.unwrap_or-nanosecond.ensures in
    let sum = c.nanos_of.ensures.nanos in
    let fits = c.nanos_of.ensures.fits in
    let same : c.nanos_of.result ≡ clock_of c.args.time = sum ∙ rw (second, nanosecond) refl in
    ap (λ (z : ℤ). Ok z) (omega (arith, ints)) ∙ sym (no_leap c.args.time (λ e. c.if-second-eq60.false (second ∙ e)))
