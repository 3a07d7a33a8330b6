-- The output of all lines, from what was put of it.
use Rattle.std.proofs.Common.{ℕ, List, [], Option, refl}
use Rattle.std.specs.Io.KnownBytes.{Appends}
use Rattle.scan_core.specs.Join.{IsJoin}
use Rattle.forms.specs.Lines.{lines}
use Rattle.forms.specs.Outside.{AppendsFront}
use Rattle.whole_input.specs.Outcomes.{GainsAll, GainsPart}
use Rattle.recurrence.specs.Replies.{Expands, IsReply}
use Rattle.recurrence.specs.inside.Waiting.{KeepOrder, Puts, Fails}

-- all was put, and what waits is written
pub all_written : KeepOrder → (input : List ℕ) (a b c : Option (List ℕ)) (after : List ℕ)
    → Puts (λ text. IsJoin IsReply text (lines input)) a b [] after → Appends b c after → GainsAll Expands input 0 a c
all_written order input a b c after p h = (p.0, (p.1, refl), order.flushed a b c [] p.0 after p.2 h)

-- or a front of it
pub front_written : KeepOrder → (input : List ℕ) (a b c : Option (List ℕ)) (after : List ℕ)
    → Puts (λ text. IsJoin IsReply text (lines input)) a b [] after → AppendsFront b c after → GainsPart Expands input a c
front_written order input a b c after p h = (p.0, 0, (p.1, refl), order.flush_fails a b c [] p.0 after p.2 h)

-- the sink failed before all was put
pub part_written : (input : List ℕ) (a c : Option (List ℕ)) → Fails (λ text. IsJoin IsReply text (lines input)) a c []
    → GainsPart Expands input a c
part_written input a c f = (f.0, 0, (f.1, refl), f.2)
