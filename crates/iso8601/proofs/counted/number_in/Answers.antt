-- Answers to the goals of `counted::number_in`.
use Rattle.std.proofs.Common.{◌≡◌, ◌≢◌, ℕ, ◌<◌, List, Some, Result, Ok, Err, OkIff, sym, inl, inr, ap, ◌∙◌, arith}
use Rattle.std.specs.Result.{result_ok}
use Rattle.scan_core.specs.Runs.{IsRun, digits_of}
use Rattle.scan_core.specs.declared.runs.Run.{Run}
use Rattle.iso8601.specs.inside.Reading.{number_in}
use Rattle.iso8601.proofs.CountedFacts.{number_some, number_none}
use Rattle.iso8601.proofs.counted.number_in.Goals as goal

pub returns-then-run : goal.returns-then-run
returns-then-run c text is = sym (number_none text c.args.run is (inl c.if-run.true))

tried : {E : Type 0} (text : List ℕ) (run : Run) (r : Result ℕ E) → IsRun text run → run.start ≢ run.end
    → OkIff r (run.value < 4294967296) run.value → result_ok r ≡ number_in (digits_of text run)
tried text run (Ok value) is apart fits = ap Some fits.1 ∙ sym (number_some text run is apart (omega (arith, fits.0)))
tried text run (Err e) is apart great = sym (number_none text run is (inr (grind (arith, great))))

pub returns : goal.returns
returns c text is = c.ok.ensures.value ∙ tried text c.args.run c.try_from.result is c.if-run.false c.try_from.ensures
