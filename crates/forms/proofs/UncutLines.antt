-- A run that answers requests: no line of an input within the limit is cut.
use Rattle.std.proofs.Common.{◌≡◌, ℕ, ◌+◌, ◌≤◌, ◌==◌, Bool, true, false, cond, List, [], ◌∷◌, ◌++◌, length, take, Option}
use Rattle.std.proofs.Common.{subst, inl, inr, ⊎_elim, arith}
use Rattle.std.proofs.lemmas.List.{take_all, length-take}
use Rattle.std.specs.List.{onto_first}
use Rattle.forms.specs.Lines.{lines, onto_line, whole_lines}
use Rattle.forms.specs.Replies.{AreReplies}
use Rattle.forms.specs.Buffers.{IsReplyLine}
use Rattle.forms.specs.Ends.{GainsReplies, GainsFront, Streams, Stands, Ended}
use Rattle.forms.specs.Outputs.{cut, AreOutputs, GainsOutputs, GainsOutputsFront, StandsBy, EndedBy}
use Rattle.forms.specs.declared.run_end.RunEnd.{RunEnd}
use Rattle.forms.specs.declared.run_end.RunEnd.TheVariants.{Done, ReadFault, WriteFault, TooLong, NoMemory}

-- no line is longer
abbrev pub AreWithin : ℕ → List (List ℕ) → Type 0
AreWithin n [] = Unit {0}
AreWithin n (line ∷ more) = (length line ≤ n) × AreWithin n more

longer : (n m : ℕ) (xs : List (List ℕ)) → n ≤ m → AreWithin n xs → AreWithin m xs
longer n m [] le h = tt
longer n m (x ∷ xs) le h = (omega (arith, le, h.0), longer n m xs le h.1)

first_within : (n byte : ℕ) (xs : List (List ℕ)) → AreWithin n xs → AreWithin (n + 1) (onto_first byte xs)
first_within n byte [] h = (omega arith, tt)
first_within n byte (x ∷ xs) h = (omega (arith, h.0), longer n (n + 1) xs (omega arith) h.1)

line_within : (n byte : ℕ) (xs : List (List ℕ)) → AreWithin n xs → AreWithin (n + 1) (onto_line byte xs)
line_within n byte [] h = tt
line_within n byte (x ∷ xs) h = (omega (arith, h.0), longer n (n + 1) xs (omega arith) h.1)

feed_within : (n : ℕ) (t : Bool) (xs ys : List (List ℕ)) → AreWithin n xs → AreWithin (n + 1) ys → AreWithin (n + 1) (cond t ([] ∷ xs) ys)
feed_within n true xs ys h k = (omega arith, longer n (n + 1) xs (omega arith) h)
feed_within n false xs ys h k = k

lines_within : (bytes : List ℕ) → AreWithin (length bytes) (lines bytes)
lines_within [] = tt
lines_within (byte ∷ bytes) =
    let below = lines_within bytes in
    longer (length bytes + 1) (length (byte ∷ bytes)) (lines (byte ∷ bytes)) (omega arith)
    (feed_within (length bytes) (byte == 10) (lines bytes) (onto_first byte (lines bytes)) below
    (first_within (length bytes) byte (lines bytes) below))

whole_within : (bytes : List ℕ) → AreWithin (length bytes) (whole_lines bytes)
whole_within [] = tt
whole_within (byte ∷ bytes) =
    let below = whole_within bytes in
    longer (length bytes + 1) (length (byte ∷ bytes)) (whole_lines (byte ∷ bytes)) (omega arith)
    (feed_within (length bytes) (byte == 10) (whole_lines bytes) (onto_line byte (whole_lines bytes)) below
    (line_within (length bytes) byte (whole_lines bytes) below))

first_ones : (n : ℕ) (xs ys : List (List ℕ)) → AreWithin n (xs ++ ys) → AreWithin n xs
first_ones n [] ys h = tt
first_ones n (x ∷ xs) ys h = (h.0, first_ones n xs ys h.1)

-- what answers requests
abbrev pub says_reply : {A : Type 0} → A → List ℕ → List ℕ → A → Type 0
says_reply s line out t = IsReplyLine out line

replies_of : {A : Type 0} (n : ℕ) (s t : A) (xs : List (List ℕ)) (out : List ℕ) → AreWithin n xs
    → AreOutputs (cut (n + 1) (says_reply {A = A})) s xs out t → AreReplies xs out
replies_of {A} n s t [] out within h = h.0
replies_of {A} n s t (x ∷ xs) out within h =
    let same : take (n + 1) x ≡ x = take_all (n + 1) x (omega (arith, within.0)) in
    let one : IsReplyLine h.0 x = subst (λ (l : List ℕ). IsReplyLine h.0 l) same h.3 in
    (h.0, h.1, one, replies_of n h.2 t xs h.1 within.1 h.4, h.5)

gains_of : {A : Type 0} (n : ℕ) (s t : A) (xs : List (List ℕ)) (a b : Option (List ℕ)) → AreWithin n xs
    → GainsOutputs (cut (n + 1) (says_reply {A = A})) s xs t a b → GainsReplies xs a b
gains_of n s t xs a b within h = (h.0, replies_of n s t xs h.0 within h.1, h.2)

front_of : {A : Type 0} (n : ℕ) (s : A) (xs : List (List ℕ)) (a b : Option (List ℕ)) → AreWithin n xs
    → GainsOutputsFront (cut (n + 1) (says_reply {A = A})) s xs a b → GainsFront xs a b
front_of n s xs a b within h =
    let f = h.1 in
    let first : AreWithin n f.answered = first_ones n f.answered f.others (subst (AreWithin n) f.split within) in (
      h.0,
      record {
        answered = f.answered;
        others = f.others;
        back = f.back;
        split = f.split;
        replies = replies_of n s f.last f.answered (h.0 ++ f.back) first f.outputs;
      },
      h.2,
    )

within_limit : (limit : ℕ) (given : List ℕ) → length (take limit given) ≤ limit
within_limit limit given = omega (arith, length-take limit given)

stands_of : {A : Type 0} (limit : ℕ) (given : List ℕ) (s t : A) (old new : Streams) (end : RunEnd)
    → StandsBy (cut (limit + 1) (says_reply {A = A})) limit given s t old new end → Stands limit given old new end
stands_of limit given s t old new Done h = (
  h.0,
  h.1,
  gains_of limit s t (lines given) old.held new.held
      (longer (length given) limit (lines given) h.1 (lines_within given)) h.2,
)
stands_of limit given s t old new ReadFault h = (
  h.0,
  h.1,
  gains_of limit s t (whole_lines given) old.held new.held
      (longer (length given) limit (whole_lines given) h.1 (whole_within given)) h.2,
)
stands_of limit given s t old new WriteFault h =
    let short : List ℕ = take limit given in (
      h.0,
      ⊎_elim (λ f. inl (front_of limit s (whole_lines short) old.held new.held
          (longer (length short) limit (whole_lines short) (within_limit limit given) (whole_within short)) f))
          (λ e. inr (
            e.0,
            e.1,
            front_of limit s (lines given) old.held new.held
                (longer (length given) limit (lines given) e.1 (lines_within given)) e.2,
          )) h.1,
    )
stands_of limit given s t old new TooLong h =
    let short : List ℕ = take limit given in (
      h.0,
      gains_of limit s t (whole_lines short) old.held new.held
          (longer (length short) limit (whole_lines short) (within_limit limit given) (whole_within short)) h.1,
    )
stands_of limit given s t old new NoMemory h = (h.0, h.2)

-- a run over requests
pub ended_of : {A : Type 0} (limit : ℕ) (s t : A) (old new : Streams) (end : RunEnd)
    → EndedBy (cut (limit + 1) (says_reply {A = A})) limit s t old new end → Ended limit old new end
ended_of limit s t old new end h = record {
  gave = h.gave;
  stands = stands_of limit h.gave.given s t old new end h.stands;
  reads_later = h.reads_later;
  writes_later = h.writes_later;
}
