-- Answers to the goals of `scan::Scan::blanks`.
use Rattle.scan_core.proofs.Scans.{blanks_behind_a_space}
use Rattle.scan_core.proofs.scan.Scan.blanks.Goals as goal

pub returns-clause-rest : goal.returns-clause-rest
returns-clause-rest g c =
    (blanks_behind_a_space c.next_if.result c.args.self.now c.next_if.new.self c.more_blanks.new.self c.next_if.ensures.passed
    (λ other. (c.next_if.ensures.other other).0) c.more_blanks.ensures.rest c.more_blanks.ensures.passed).0

pub returns-clause-passed : goal.returns-clause-passed
returns-clause-passed g c =
    (blanks_behind_a_space c.next_if.result c.args.self.now c.next_if.new.self c.more_blanks.new.self c.next_if.ensures.passed
    (λ other. (c.next_if.ensures.other other).0) c.more_blanks.ensures.rest c.more_blanks.ensures.passed).1
