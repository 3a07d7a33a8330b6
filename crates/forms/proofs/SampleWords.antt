-- The words that ask for a sample, and what a run in memory wrote of it.
use Rattle.std.proofs.Common.{◌≡◌, ℕ, arith, refl, List, [], drop, Option, Some, sym, ◌∙◌, ap, subst, append-nil}
use Rattle.std.proofs.lemmas.Fmt.{decimal_injective}
use Rattle.std.proofs.KnownBytes.{Consumes-whole}
use Rattle.std.specs.Prelude.{IfSome}
use Rattle.std.specs.Io.KnownBytes.{Appends}
use Rattle.forms.specs.Ends.{GainsReplies, Streams, Ended, status_of}
use Rattle.forms.specs.Lines.{lines}
use Rattle.forms.specs.Replies.{AreReplies}
use Rattle.forms.specs.Sample.{IsSample, sample_lines}
use Rattle.forms.specs.declared.run_end.RunEnd.{RunEnd}
use Rattle.forms.specs.declared.run_end.RunEnd.TheVariants.{Done, ReadFault, WriteFault, TooLong, NoMemory}
use Rattle.forms.specs.inside.Pieces.{AreWhole}
use Rattle.forms.proofs.LinePieces.{lines_behind}

all_lines : (count : ℕ) (input : List ℕ) → AreWhole (sample_lines count) input → lines input ≡ sample_lines count
all_lines count input whole = ap lines (sym (append-nil input))
    ∙ (lines_behind (sample_lines count) input [] whole ∙ append-nil (sample_lines count))

-- a run that is done wrote the replies to all lines of its input
pub done_replies : (limit count : ℕ) (old new : Streams) (input held : List ℕ) → AreWhole (sample_lines count) input
    → Ended limit old new Done → old.left ≡ Some input → old.held ≡ Some [] → new.held ≡ Some held → AreReplies (sample_lines count) held
done_replies limit count old new input held whole ended left empty full =
    let P : List ℕ → Type 0 = λ bytes. GainsReplies (lines bytes) old.held new.held in
    let all : IfSome old.left P = Consumes-whole old.left new.left ended.gave.given P ended.gave.bytes ended.stands.0 ended.stands.2 in
    let gains : GainsReplies (lines input) old.held new.held = subst (λ (l : Option (List ℕ)). IfSome l P) left all in
    let known : Appends (Some []) (Some held) gains.0 = subst (λ (h : Option (List ℕ)). Appends h (Some held) gains.0) empty
    (subst (λ (h : Option (List ℕ)). Appends old.held h gains.0) full gains.2) in
    let replies : AreReplies (sample_lines count) gains.0 = subst (λ (ls : List (List ℕ)). AreReplies ls gains.0)
    (all_lines count input whole) gains.1 in
    subst (λ (out : List ℕ). AreReplies (sample_lines count) out) (sym known) replies

-- words ask for one count
pub same_count : (words : List ℕ) (a b : ℕ) → IsSample words a → IsSample words b → a ≡ b
same_count words a b h k =
    let small = h.1 in
    let other = k.1 in
    decimal_injective a b (omega (arith, small)) (omega (arith, other)) (ap (drop 7) (sym h.2 ∙ k.2))

-- the end whose status is 0
pub done_at_zero : (end : RunEnd) → status_of end ≡ 0 → end ≡ Done
done_at_zero Done h = refl
done_at_zero ReadFault h = absurd (omega arith)
done_at_zero WriteFault h = absurd (omega arith)
done_at_zero TooLong h = absurd (omega arith)
done_at_zero NoMemory h = absurd (omega arith)
