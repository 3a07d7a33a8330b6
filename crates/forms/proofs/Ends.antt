-- What the ends of a run tell.
use Rattle.std.proofs.Common.{◌≡◌, ◌⊎◌, ℕ, ◌+◌, ◌-◌, ◌^◌, ◌<◌, ◌≤◌, List, [], ◌++◌, length, take, drop, Option, Some, None, IfSome, refl}
use Rattle.std.proofs.Common.{sym, ◌∙◌, ap, subst, inl, inr, ⊎_elim, append_assoc, append-nil, arith}
use Rattle.std.proofs.KnownBytes.{Appends-nil, Consumes-whole, Consumes-nil}
use Rattle.std.proofs.lemmas.List.{take-append-drop, length-append}
use Rattle.std.specs.Io.KnownBytes.{Consumes}
use Rattle.forms.specs.Lines.{lines, whole_lines}
use Rattle.forms.specs.Outside.{Rose}
use Rattle.forms.specs.Replies.{AreReplies}
use Rattle.forms.specs.Ends.{GainsReplies, GainsFront, Streams, Ended, EndsByLength, status_of}
use Rattle.forms.specs.declared.run_end.RunEnd.{RunEnd}
use Rattle.forms.specs.declared.run_end.RunEnd.TheVariants.{Done, ReadFault, WriteFault, TooLong, NoMemory}
use Rattle.forms.proofs.LinePieces.{lines_begin}

pub still_count : (count : ℕ) → count < 2 ^ 64 - 1 → Rose count count → ⊥
still_count count below rose = omega arith

-- a run that found no memory
pub ends-nowhere : (limit : ℕ) (s : Streams) → Ended limit s s NoMemory
ends-nowhere limit s = record {
  gave = record { given = []; bytes = Consumes-nil s.left; count = λ below. omega arith; bound = omega arith };
  stands = (refl, refl);
  reads_later = omega arith;
  writes_later = omega arith;
}

-- what holds of the bytes taken with whatever follows them holds of all that was left
if_taken : (a b : Option (List ℕ)) (given : List ℕ) (P : List ℕ → Type 0) → Consumes a b given → ((rest : List ℕ) → P (given ++ rest))
    → IfSome a P
if_taken None b given P bytes h = tt
if_taken (Some x) None given P bytes h = absurd bytes
if_taken (Some x) (Some y) given P bytes h = subst P (sym bytes) (h y)

-- ---- a front of all replies

all_front : (xs : List (List ℕ)) (a b : Option (List ℕ)) → GainsReplies xs a b → GainsFront xs a b
all_front xs a b h = (
  h.0,
  record {
    answered = xs;
    others = [];
    back = [];
    split = sym (append-nil xs);
    replies = subst (AreReplies xs) (sym (append-nil h.0)) h.1;
  },
  h.2,
)

longer_front : (xs ys all : List (List ℕ)) (a b : Option (List ℕ)) → all ≡ xs ++ ys → GainsFront xs a b → GainsFront all a b
longer_front xs ys all a b same h =
    let f = h.1 in (
      h.0,
      record {
        answered = f.answered;
        others = f.others ++ ys;
        back = f.back;
        split = same ∙ (ap (λ (l : List (List ℕ)). l ++ ys) f.split ∙ append_assoc f.answered f.others ys);
        replies = f.replies;
      },
      h.2,
    )

no_front : (xs : List (List ℕ)) (a : Option (List ℕ)) → GainsFront xs a a
no_front xs a = ([], record { answered = []; others = xs; back = []; split = refl; replies = refl }, Appends-nil a)

-- a front of the replies to the whole lines of some first bytes is one of the replies to all lines
cut_front : (limit : ℕ) (given rest : List ℕ) (a b : Option (List ℕ)) → GainsFront (whole_lines (take limit given)) a b
    → GainsFront (lines (given ++ rest)) a b
cut_front limit given rest a b h =
    let begin = lines_begin (take limit given) (drop limit given ++ rest) in
    let cut : given ++ rest ≡ take limit given ++ (drop limit given ++ rest) =
    ap (λ (l : List ℕ). l ++ rest) (sym (take-append-drop limit given)) ∙ append_assoc (take limit given) (drop limit given) rest in
    longer_front (whole_lines (take limit given)) begin.0 (lines (given ++ rest)) a b (ap lines cut ∙ begin.1) h

whole_front : (given rest : List ℕ) (a b : Option (List ℕ)) → GainsFront (whole_lines given) a b → GainsFront (lines (given ++ rest)) a b
whole_front given rest a b h =
    let begin = lines_begin given rest in
    longer_front (whole_lines given) begin.0 (lines (given ++ rest)) a b begin.1 h

pub each_end_leaves_a_front : (limit : ℕ) (old new : Streams) (end : RunEnd) → Ended limit old new end
    → IfSome old.left (λ bytes. GainsFront (lines bytes) old.held new.held)
each_end_leaves_a_front limit old new Done h =
    Consumes-whole old.left new.left h.gave.given (λ bytes. GainsFront (lines bytes) old.held new.held) h.gave.bytes h.stands.0
    (all_front (lines h.gave.given) old.held new.held h.stands.2)
each_end_leaves_a_front limit old new ReadFault h =
    if_taken old.left new.left h.gave.given (λ bytes. GainsFront (lines bytes) old.held new.held) h.gave.bytes
    (λ rest. whole_front h.gave.given rest old.held new.held (all_front (whole_lines h.gave.given) old.held new.held h.stands.2))
each_end_leaves_a_front limit old new WriteFault h =
    ⊎_elim
    (λ front. if_taken old.left new.left h.gave.given (λ bytes. GainsFront (lines bytes) old.held new.held) h.gave.bytes
    (λ rest. cut_front limit h.gave.given rest old.held new.held front))
    (λ last. Consumes-whole old.left new.left h.gave.given (λ bytes. GainsFront (lines bytes) old.held new.held) h.gave.bytes last.0 last.2)
    h.stands.1
each_end_leaves_a_front limit old new TooLong h =
    if_taken old.left new.left h.gave.given (λ bytes. GainsFront (lines bytes) old.held new.held) h.gave.bytes
    (λ rest. cut_front limit h.gave.given rest old.held new.held
    (all_front (whole_lines (take limit h.gave.given)) old.held new.held h.stands.1))
each_end_leaves_a_front limit old new NoMemory h =
    if_taken old.left new.left h.gave.given (λ bytes. GainsFront (lines bytes) old.held new.held) h.gave.bytes
    (λ rest. subst (λ (s : Streams). GainsFront (lines (h.gave.given ++ rest)) old.held s.held) (sym h.stands.1)
    (no_front (lines (h.gave.given ++ rest)) old.held))

-- ---- what decides the end

pub length_decides_the_end : (limit : ℕ) (old new : Streams) (end : RunEnd) → Ended limit old new end
    → (Rose old.read_faults new.read_faults → ⊥) → (Rose old.write_faults new.write_faults → ⊥) → EndsByLength limit old.left end
length_decides_the_end limit old new Done h read write =
    Consumes-whole old.left new.left h.gave.given _ h.gave.bytes h.stands.0 (λ short. inl refl, λ long. absurd (omega (arith, h.stands.1)))
length_decides_the_end limit old new ReadFault h read write = absurd (read h.stands.0)
length_decides_the_end limit old new WriteFault h read write = absurd (write h.stands.0)
length_decides_the_end limit old new TooLong h read write =
    if_taken old.left new.left h.gave.given _ h.gave.bytes
    (λ rest. (λ short. absurd (let all = length-append h.gave.given rest in omega (arith, h.stands.0)), λ long. inl refl))
length_decides_the_end limit old new NoMemory h read write =
    if_taken old.left new.left h.gave.given _ h.gave.bytes (λ rest. (λ short. inr refl, λ long. inr refl))

pub too_long_is_past_the_limit : (limit : ℕ) (old new : Streams) (end : RunEnd) → Ended limit old new end → old.taken < 2 ^ 63
    → (end ≡ TooLong → old.taken + limit < new.taken) × (old.taken + limit < new.taken → (end ≡ TooLong)
    ⊎ ((end ≡ WriteFault) × Rose old.write_faults new.write_faults))
too_long_is_past_the_limit limit old new Done h below = (
  λ is. absurd cc,
  λ more. absurd
      (let count = h.gave.count below in omega (arith, h.stands.1)),
)
too_long_is_past_the_limit limit old new ReadFault h below = (
  λ is. absurd cc,
  λ more. absurd
      (let count = h.gave.count below in omega (arith, h.stands.1)),
)
too_long_is_past_the_limit limit old new WriteFault h below = (λ is. absurd cc, λ more. inr (refl, h.stands.0))
too_long_is_past_the_limit limit old new TooLong h below = (
  λ is. let count = h.gave.count below in omega (arith, h.stands.0),
  λ more. inl refl,
)
too_long_is_past_the_limit limit old new NoMemory h below = (
  λ is. absurd cc,
  λ more. absurd
      (let none = ap length h.stands.0 in let count = h.gave.count below in omega arith),
)

-- ---- the same by the status

pub status_within : (limit : ℕ) (left : Option (List ℕ)) (end : RunEnd) (R W : Type 0) → (R → W → EndsByLength limit left end)
    → IfSome left (λ bytes. length bytes ≤ limit → R → W → (status_of end ≡ 0) ⊎ (status_of end ≡ 6))
status_within limit None end R W h = tt
status_within limit (Some bytes) end R W h = λ short r w. ⊎_elim (λ is. inl (ap status_of is)) (λ is. inr (ap status_of is))
    ((h r w).0 short)

pub status_beyond : (limit : ℕ) (left : Option (List ℕ)) (end : RunEnd) (R W : Type 0) → (R → W → EndsByLength limit left end)
    → IfSome left (λ bytes. limit < length bytes → R → W → (status_of end ≡ 5) ⊎ (status_of end ≡ 6))
status_beyond limit None end R W h = tt
status_beyond limit (Some bytes) end R W h = λ long r w. ⊎_elim (λ is. inl (ap status_of is)) (λ is. inr (ap status_of is)) ((h r w).1 long)
