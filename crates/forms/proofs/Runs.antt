-- A run over pieces: what it took, what it answered, and how it ends.
use Rattle.std.proofs.Common.{◌≡◌, ℕ, ◌+◌, ◌-◌, ◌^◌, ◌<◌, ◌≤◌, List, [], ◌++◌, min, length, take, Option, refl, sym, ◌∙◌, ap, subst, inl}
use Rattle.std.proofs.Common.{inr, append_assoc, append-nil, arith}
use Rattle.std.proofs.KnownBytes.{Appends-nil, Consumes-trans, Consumes-nil}
use Rattle.std.proofs.Math.Seq.{take-append-add}
use Rattle.std.proofs.lemmas.List.{take_all, take_min, take-take, take-append-le, length-append, length-take-le}
use Rattle.std.specs.Io.KnownBytes.{Consumes, IsAtEnd}
use Rattle.scan_core.proofs.Joins.{IsJoin-append}
use Rattle.forms.specs.Lines.{lines, whole_lines}
use Rattle.forms.specs.Outside.{Rose, Gives}
use Rattle.forms.specs.Ends.{Streams}
use Rattle.forms.specs.Outputs.{GainsOutputs, GainsOutputsFront, EndedBy}
use Rattle.forms.specs.declared.run_end.RunEnd.TheVariants.{Done, ReadFault, WriteFault, TooLong}
use Rattle.forms.specs.inside.Pieces.{IsEnded, Answers}
use Rattle.forms.proofs.Outputs.{gains-more, gains-front}
use Rattle.forms.proofs.LinePieces.{lines_behind, whole_lines_behind, part_not_whole}

-- ---- what was answered of the bytes so far

pub answers-none : {A : Type 0} (Says : A → List ℕ → List ℕ → A → Type 0) (s : A) (held : Option (List ℕ))
    → Answers Says s s [] [] held held
answers-none Says s held =
    record { answered = []; front = []; whole = refl; split = refl; left = tt; gained = ([], (refl, refl), Appends-nil held) }

pub answers-more : {A : Type 0} (Says : A → List ℕ → List ℕ → A → Type 0) (s t u : A) (bytes part piece after : List ℕ)
    (a b c : Option (List ℕ)) → Answers Says s t bytes part a b → Answers Says t u (part ++ piece) after b c
    → Answers Says s u (bytes ++ piece) after a c
answers-more Says s t u bytes part piece after a b c h k = record {
  answered = h.answered ++ k.answered;
  front = h.front ++ k.front;
  whole = IsJoin-append IsEnded h.front k.front h.answered k.answered h.whole k.whole;
  split = ap (λ (l : List ℕ). l ++ piece) h.split ∙ (append_assoc h.front part piece
      ∙ (ap (λ (l : List ℕ). h.front ++ l) k.split ∙ sym (append_assoc h.front k.front after)));
  left = k.left;
  gained = gains-more Says s t u h.answered k.answered a b c h.gained k.gained;
}

-- the whole lines are those that were answered
pub answers-whole : {A : Type 0} (Says : A → List ℕ → List ℕ → A → Type 0) (s t : A) (bytes part : List ℕ) (a b : Option (List ℕ))
    → Answers Says s t bytes part a b → GainsOutputs Says s (whole_lines bytes) t a b
answers-whole Says s t bytes part a b h =
    let whole : whole_lines bytes ≡ h.answered =
    ap whole_lines h.split ∙ (whole_lines_behind h.answered h.front part h.whole
    ∙ (ap (λ (l : List (List ℕ)). h.answered ++ l) (part_not_whole part h.left) ∙ append-nil h.answered)) in
    subst (λ (l : List (List ℕ)). GainsOutputs Says s l t a b) (sym whole) h.gained

-- with the outputs for what was kept all lines are answered
pub answers-last : {A : Type 0} (Says : A → List ℕ → List ℕ → A → Type 0) (s t u : A) (bytes part : List ℕ) (a b c : Option (List ℕ))
    → Answers Says s t bytes part a b → GainsOutputs Says t (lines part) u b c → GainsOutputs Says s (lines bytes) u a c
answers-last Says s t u bytes part a b c h last =
    let all : lines bytes ≡ h.answered ++ lines part = ap lines h.split ∙ lines_behind h.answered h.front part h.whole in
    subst (λ (l : List (List ℕ)). GainsOutputs Says s l u a c) (sym all) (gains-more Says s t u h.answered (lines part) a b c h.gained last)

pub answers-last_front : {A : Type 0} (Says : A → List ℕ → List ℕ → A → Type 0) (s t : A) (bytes part : List ℕ) (a b c : Option (List ℕ))
    → Answers Says s t bytes part a b → GainsOutputsFront Says t (lines part) b c → GainsOutputsFront Says s (lines bytes) a c
answers-last_front Says s t bytes part a b c h last =
    let all : lines bytes ≡ h.answered ++ lines part = ap lines h.split ∙ lines_behind h.answered h.front part h.whole in
    subst (λ (l : List (List ℕ)). GainsOutputsFront Says s l a c) (sym all)
    (gains-front Says s t h.answered (lines part) a b c h.gained last)

pub answers-front : {A : Type 0} (Says : A → List ℕ → List ℕ → A → Type 0) (s t : A) (bytes part piece : List ℕ) (a b c : Option (List ℕ))
    → Answers Says s t bytes part a b → GainsOutputsFront Says t (whole_lines (part ++ piece)) b c
    → GainsOutputsFront Says s (whole_lines (bytes ++ piece)) a c
answers-front Says s t bytes part piece a b c h more =
    let split : bytes ++ piece ≡ h.front ++ (part ++ piece) = ap (λ (l : List ℕ). l ++ piece) h.split ∙ append_assoc h.front part piece in
    let all : whole_lines (bytes ++ piece) ≡ h.answered ++ whole_lines (part ++ piece) = ap whole_lines split
    ∙ whole_lines_behind h.answered h.front (part ++ piece) h.whole in
    subst (λ (l : List (List ℕ)). GainsOutputsFront Says s l a c) (sym all)
    (gains-front Says s t h.answered (whole_lines (part ++ piece)) a b c h.gained more)

-- ---- a run on its way

-- a run took some bytes and may take so many more; of those within the limit all but a last piece were answered
pub record IsRunning {A : Type 0} (Says : A → List ℕ → List ℕ → A → Type 0) (s t : A) (limit room : ℕ) (old new : Streams)
    (part piece : List ℕ) : Type 0 where
  pub given : List ℕ
  pub seen : List ℕ
  pub bytes : Consumes old.left new.left given
  pub count : old.taken < 2 ^ 63 → new.taken ≡ old.taken + length given
  pub len : length given + room ≡ limit + 1
  pub within : take limit given ≡ seen ++ piece
  pub answers : Answers Says s t seen part old.held new.held
  pub reads_later : old.read_faults ≤ new.read_faults
  pub writes_later : old.write_faults ≤ new.write_faults

pub running-start : {A : Type 0} (Says : A → List ℕ → List ℕ → A → Type 0) (s : A) (limit : ℕ) (now : Streams)
    → IsRunning Says s s limit (limit + 1) now now [] []
running-start Says s limit now = record {
  given = [];
  seen = [];
  bytes = Consumes-nil now.left;
  count = λ h. omega arith;
  len = omega arith;
  within = take_all limit [] (omega arith);
  answers = answers-none Says s now.held;
  reads_later = omega arith;
  writes_later = omega arith;
}

-- a read that gave nothing
pub running-none : {A : Type 0} (Says : A → List ℕ → List ℕ → A → Type 0) (s t : A) (limit room want : ℕ) (old new : Streams)
    (left : Option (List ℕ)) (taken read_faults : ℕ) (part : List ℕ) → IsRunning Says s t limit room old new part []
    → limit ≤ 2 ^ 62 → want ≤ room → Consumes new.left left [] → (new.taken + want < 2 ^ 64 → taken ≡ new.taken)
    → new.read_faults ≤ read_faults
    → IsRunning Says s t limit room old (record new { left = left; taken = taken; read_faults = read_faults }) part []
running-none Says s t limit room want old new left taken read_faults part h small asked none same later = record {
  given = h.given;
  seen = h.seen;
  bytes = subst (Consumes old.left left) (append-nil h.given) (Consumes-trans old.left new.left left h.given [] h.bytes none);
  count = λ below. let before = h.count below in let now = same (omega (arith, h.len)) in omega arith;
  len = h.len;
  within = h.within;
  answers = h.answers;
  reads_later = omega (arith, h.reads_later);
  writes_later = h.writes_later;
}

-- below the limit all that was taken was answered
all_seen : {A : Type 0} (Says : A → List ℕ → List ℕ → A → Type 0) (s t : A) (limit room : ℕ) (old new : Streams) (part : List ℕ)
    (h : IsRunning Says s t limit room old new part []) → 1 ≤ room → h.given ≡ h.seen
all_seen Says s t limit room old new part h some =
    sym (take_all limit h.given (omega (arith, h.len))) ∙ (h.within ∙ append-nil h.seen)

-- of the next bytes those within the limit, and all of what came before them
next_within : (limit room m : ℕ) (given seen got : List ℕ) → length given + room ≡ limit + 1 → 1 ≤ room → given ≡ seen
    → m ≡ min (room - 1) (length got) → take limit (given ++ got) ≡ seen ++ take m got
next_within limit room m given seen got len some same count =
    let place : limit ≡ length given + (room - 1) = omega arith in
    let cut : take (room - 1) got ≡ take m got = sym (ap (λ k. take k got) count ∙ take_min (room - 1) got) in
    ap (λ k. take k (given ++ got)) place ∙ (take-append-add given got (room - 1)
    ∙ (ap (λ (l : List ℕ). given ++ l) cut ∙ ap (λ (l : List ℕ). l ++ take m got) same))

-- a read that gave some bytes into the front of a buffer
pub running-read : {A : Type 0} (Says : A → List ℕ → List ℕ → A → Type 0) (s t : A) (limit room want m count : ℕ) (old new : Streams)
    (left : Option (List ℕ)) (taken read_faults : ℕ) (part buf behind : List ℕ) → IsRunning Says s t limit room old new part []
    → limit ≤ 2 ^ 62 → 1 ≤ room → want ≤ room → length buf ≡ want → count ≤ want → m ≡ min count (room - 1)
    → Consumes new.left left (take count buf)
    → (new.taken + want < 2 ^ 64 → taken ≡ new.taken + count) → new.read_faults ≤ read_faults
    → IsRunning Says s t limit (room - count) old (record new { left = left; taken = taken; read_faults = read_faults }) part
    (take m (buf ++ behind))
running-read Says s t limit room want m count old new left taken read_faults part buf behind h small some asked size gave cut bytes counted
    later =
    let got : List ℕ = take count buf in
    let length_got : length got ≡ count = length-take-le count buf (omega arith) in
    let sum = length-append h.given got in
    let piece : take m got ≡ take m (buf ++ behind) = take-take m count buf (omega arith)
    ∙ sym (take-append-le m buf behind (omega arith)) in
    record {
      given = h.given ++ got;
      seen = h.seen;
      bytes = Consumes-trans old.left new.left left h.given got h.bytes bytes;
      count = λ below. let before = h.count below in let now = counted (omega (arith, h.len)) in omega arith;
      len = omega (arith, h.len);
      within = next_within limit room m h.given h.seen got h.len some (all_seen Says s t limit room old new part h some) (omega arith)
          ∙ ap (λ (l : List ℕ). h.seen ++ l) piece;
      answers = h.answers;
      reads_later = omega (arith, h.reads_later);
      writes_later = h.writes_later;
    }

-- the piece was answered
pub running-answered : {A : Type 0} (Says : A → List ℕ → List ℕ → A → Type 0) (s t u : A) (limit room : ℕ) (old new : Streams)
    (held : Option (List ℕ)) (write_faults : ℕ) (part piece after : List ℕ) → IsRunning Says s t limit room old new part piece
    → Answers Says t u (part ++ piece) after new.held held → new.write_faults ≤ write_faults
    → IsRunning Says s u limit room old (record new { held = held; write_faults = write_faults }) after []
running-answered Says s t u limit room old new held write_faults part piece after h answers later = record {
  given = h.given;
  seen = h.seen ++ piece;
  bytes = h.bytes;
  count = h.count;
  len = h.len;
  within = h.within ∙ sym (append-nil (h.seen ++ piece));
  answers = answers-more Says s t u h.seen part piece after old.held new.held held h.answers answers;
  reads_later = h.reads_later;
  writes_later = omega (arith, h.writes_later);
}

-- ---- the ends of a run

-- what a run took
abbrev taken_so : {A : Type 0} (Says : A → List ℕ → List ℕ → A → Type 0) (s t : A) (limit room : ℕ) (old new : Streams)
    (part piece : List ℕ) → IsRunning Says s t limit room old new part piece → Gives old.left new.left old.taken new.taken (limit + 1)
taken_so Says s t limit room old new part piece h = record {
  given = h.given;
  bytes = h.bytes;
  count = h.count;
  bound = omega (arith, h.len);
}

-- a read failed
pub ends-unread : {A : Type 0} (Says : A → List ℕ → List ℕ → A → Type 0) (s t : A) (limit room : ℕ) (old new : Streams) (part : List ℕ)
    → IsRunning Says s t limit room old new part [] → 1 ≤ room → Rose old.read_faults new.read_faults
    → EndedBy Says limit s t old new ReadFault
ends-unread Says s t limit room old new part h some rose =
    let whole = answers-whole Says s t h.seen part old.held new.held h.answers in
    let all = all_seen Says s t limit room old new part h some in
    record {
      gave = taken_so Says s t limit room old new part [] h;
      stands = (
        rose,
        omega (arith, h.len),
        subst (λ (l : List ℕ). GainsOutputs Says s (whole_lines l) t old.held new.held)
            (sym all) whole,
      );
      reads_later = h.reads_later;
      writes_later = h.writes_later;
    }

-- the end came, and the last line has its reply
pub ends-done : {A : Type 0} (Says : A → List ℕ → List ℕ → A → Type 0) (s t u : A) (limit room : ℕ) (old new : Streams)
    (held : Option (List ℕ)) (write_faults : ℕ) (part : List ℕ) → IsRunning Says s t limit room old new part [] → 1 ≤ room
    → IsAtEnd new.left
    → GainsOutputs Says t (lines part) u new.held held → new.write_faults ≤ write_faults
    → EndedBy Says limit s u old (record new { held = held; write_faults = write_faults }) Done
ends-done Says s t u limit room old new held write_faults part h some end last later =
    let whole = answers-last Says s t u h.seen part old.held new.held held h.answers last in
    let all = all_seen Says s t limit room old new part h some in
    record {
      gave = taken_so Says s t limit room old new part [] h;
      stands = (end, omega (arith, h.len), subst (λ (l : List ℕ). GainsOutputs Says s (lines l) u old.held held) (sym all) whole);
      reads_later = h.reads_later;
      writes_later = omega (arith, h.writes_later);
    }

-- the end came, and the reply to the last line wasn't written whole
pub ends-last_unwritten : {A : Type 0} (Says : A → List ℕ → List ℕ → A → Type 0) (s t u : A) (limit room : ℕ) (old new : Streams)
    (held : Option (List ℕ)) (write_faults : ℕ) (part : List ℕ) → IsRunning Says s t limit room old new part [] → 1 ≤ room
    → IsAtEnd new.left
    → GainsOutputsFront Says t (lines part) new.held held → Rose new.write_faults write_faults → new.write_faults ≤ write_faults
    → EndedBy Says limit s u old (record new { held = held; write_faults = write_faults }) WriteFault
ends-last_unwritten Says s t u limit room old new held write_faults part h some end last rose later =
    let front = answers-last_front Says s t h.seen part old.held new.held held h.answers last in
    let all = all_seen Says s t limit room old new part h some in
    record {
      gave = taken_so Says s t limit room old new part [] h;
      stands = (
        omega (arith, h.writes_later),
        inr (
          end,
          omega (arith, h.len),
          subst (λ (l : List ℕ). GainsOutputsFront Says s (lines l) old.held held) (sym all) front,
        ),
      );
      reads_later = h.reads_later;
      writes_later = omega (arith, h.writes_later);
    }

-- the replies to a piece weren't written whole
pub ends-unwritten : {A : Type 0} (Says : A → List ℕ → List ℕ → A → Type 0) (s t u : A) (limit room : ℕ) (old new : Streams)
    (held : Option (List ℕ)) (write_faults : ℕ) (part piece : List ℕ) → IsRunning Says s t limit room old new part piece
    → GainsOutputsFront Says t (whole_lines (part ++ piece)) new.held held → Rose new.write_faults write_faults
    → new.write_faults ≤ write_faults → EndedBy Says limit s u old (record new { held = held; write_faults = write_faults }) WriteFault
ends-unwritten Says s t u limit room old new held write_faults part piece h more rose later =
    let front = answers-front Says s t h.seen part piece old.held new.held held h.answers more in
    record {
      gave = taken_so Says s t limit room old new part piece h;
      stands = (
        omega (arith, h.writes_later),
        inl (subst (λ (l : List ℕ). GainsOutputsFront Says s (whole_lines l) old.held held)
            (sym h.within) front),
      );
      reads_later = h.reads_later;
      writes_later = omega (arith, h.writes_later);
    }

-- one byte more than the limit was taken
pub ends-long : {A : Type 0} (Says : A → List ℕ → List ℕ → A → Type 0) (s t : A) (limit room : ℕ) (old new : Streams) (part : List ℕ)
    → IsRunning Says s t limit room old new part [] → room ≡ 0 → EndedBy Says limit s t old new TooLong
ends-long Says s t limit room old new part h none =
    let whole = answers-whole Says s t h.seen part old.held new.held h.answers in
    let all : take limit h.given ≡ h.seen = h.within ∙ append-nil h.seen in
    record {
      gave = taken_so Says s t limit room old new part [] h;
      stands = (omega (arith, h.len), subst (λ (l : List ℕ). GainsOutputs Says s (whole_lines l) t old.held new.held) (sym all) whole);
      reads_later = h.reads_later;
      writes_later = h.writes_later;
    }
