-- Answers to the goals of `reading::clock::cut_fraction`.
use Rattle.std.proofs.Common.{ℕ, List, ap, refl, sym, ◌∙◌}
use Rattle.std.specs.Char.{is_ascii_digit}
use Rattle.scan_core.specs.Scanning.{ahead}
use Rattle.scan_core.proofs.FrontFacts.{behind_some}
use Rattle.pg_interval_2.specs.inside.Reading.{read_fraction}
use Rattle.pg_interval_2.proofs.reading.clock.cut_fraction.Goals as goal

pub returns-clause-rest : goal.returns-clause-rest
returns-clause-rest g c =
    let point = (c.if-not-next_if.ensures.passed refl).split in
    c.digits.ensures.rest
    ∙ behind_some is_ascii_digit 6 (ahead c.next_if.new.self) (ahead c.digits_up_to-six.new.self) c.digits_up_to-six.ensures.passed.split
    ∙ ap (λ (l : List ℕ). (read_fraction l).1) (sym point)
