-- Answers to the goals of `memory_source::MemSourceSource::read`.
use Rattle.std.proofs.Common.{sym, ap}
use Rattle.forms.specs.Memory.{SourceState}
use Rattle.forms.proofs.Moves.{read_moves}
use Rattle.forms.proofs.memory_source.MemSourceSource.read.Goals as goal

pub returns-clause-bytes : goal.returns-clause-bytes
returns-clause-bytes c =
    read_moves _ _ c.self.inside.bytes.items _ _ c.self.inside.at _ c.self.inside.cut
    (ap (λ (s : SourceState). s.left) (sym c.self.view_is)) c.left.ensures c.copy_front-count.ensures.count c.self.invariant.1
    c.copy_front-count.ensures.copied c.copy_front-count.auto.to
