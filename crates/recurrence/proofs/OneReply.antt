-- A line has one reply.
use Rattle.std.proofs.Common.{◌≡◌, inl, inr, ℕ, List, [], ◌++◌, codes, ℤ, Option, Result, Ok, Err}
use Rattle.std.proofs.Common.{sym, ◌∙◌, ap, ap₂, subst, arith}
use Rattle.scan_core.specs.Digits.{number_of}
use Rattle.scan_core.specs.Join.{IsJoin}
use Rattle.pg_interval_2.specs.declared.interval.Interval.{Interval}
use Rattle.pg_interval_2.specs.declared.style.Style.TheVariants.{Iso}
use Rattle.forms.specs.declared.cause.Cause.{Cause}
use Rattle.forms.specs.declared.form.Form.TheVariants.{IsoDateTime}
use Rattle.forms.specs.declared.value.Value.{Value}
use Rattle.forms.specs.declared.value.Value.TheVariants.{Instant, Day, Local, Clock, Triple, Length}
use Rattle.recurrence.specs.Replies.{stop_text, IsInstantLine, IsSeriesReply, IsStepReply, IsLengthReply}
use Rattle.recurrence.specs.Replies.{IsStartReply, IsCountReply, IsReply, AreReplies}
use Rattle.recurrence.specs.inside.OneReply.{AreOne}
use Rattle.recurrence.proofs.Asking.{one_request}
use Rattle.recurrence.proofs.Joined.{one_join}
use Rattle.recurrence.proofs.Listed.{one_series}

-- ---- the instants

abbrev text_in : Result (List ℕ) Cause → List ℕ
text_in (Ok text) = text
text_in (Err cause) = []

one_line : AreOne → (instant : ℤ) (a b : List ℕ) → IsInstantLine a instant → IsInstantLine b instant → a ≡ b
one_line ones instant a b (text, is, whole) (text₂, is₂, whole₂) =
    whole ∙ (ap (λ (l : List ℕ). l ++ codes "\n") (ap text_in (ones.writing IsoDateTime (Instant instant) (Ok text) (Ok text₂) is is₂))
    ∙ sym whole₂)

one_series_reply : AreOne → (last : ℕ) (start : ℤ) (step : Interval) (a b : List ℕ) → IsSeriesReply last start step a
    → IsSeriesReply last start step b → a ≡ b
one_series_reply ones last start step a b h k =
    let same = one_series ones.dates start step last h.instants k.instants h.stop k.stop h.series k.series in
    let text = one_join IsInstantLine (one_line ones) k.instants h.text k.text
    (subst (IsJoin IsInstantLine h.text) same.0 h.written) k.written in
    h.joined ∙ (ap₂ (λ (s : List ℕ) (o : Option ℕ). s ++ stop_text o) text same.1 ∙ sym k.joined)

-- ---- the step

one_step : AreOne → (last : ℕ) (start : ℤ) (step : Interval) (a b : List ℕ) → IsStepReply last start step a → IsStepReply last start step b
    → a ≡ b
one_step ones last start step a b (inl h) (inl k) = h.1 ∙ sym k.1
one_step ones last start step a b (inl h) (inr k) = absurd (h.0 k.0)
one_step ones last start step a b (inr h) (inl k) = absurd (k.0 h.0)
one_step ones last start step a b (inr h) (inr k) = one_series_reply ones last start step a b h.1 k.1

one_length : AreOne → (last : ℕ) (start : ℤ) (length : Result Interval Cause) (a b : List ℕ) → IsLengthReply last start length a
    → IsLengthReply last start length b → a ≡ b
one_length ones last start (Err cause) a b h k = h ∙ sym k
one_length ones last start (Ok step) a b h k = one_step ones last start step a b h k

one_found : AreOne → (last : ℕ) (start : ℤ) (step a b : List ℕ) → IsStartReply last (Ok (Instant start)) step a
    → IsStartReply last (Ok (Instant start)) step b → a ≡ b
one_found ones last start step a b (length, finds, reply) (length₂, finds₂, reply₂) =
    one_length ones last start length₂ a b (subst (λ (l : Result Interval Cause). IsLengthReply last start l a)
    (ones.lengths Iso step length length₂ finds finds₂) reply) reply₂

-- ---- the start, the count and the line

one_start : AreOne → (last : ℕ) (moment : Result Value Cause) (step a b : List ℕ) → IsStartReply last moment step a
    → IsStartReply last moment step b → a ≡ b
one_start ones last (Err cause) step a b h k = h ∙ sym k
one_start ones last (Ok (Instant start)) step a b h k = one_found ones last start step a b h k
one_start ones last (Ok (Day day)) step a b h k = absurd h
one_start ones last (Ok (Local day nanos)) step a b h k = absurd h
one_start ones last (Ok (Clock nanos)) step a b h k = absurd h
one_start ones last (Ok (Triple months days micros)) step a b h k = absurd h
one_start ones last (Ok (Length nanos)) step a b h k = absurd h

one_count : AreOne → (last : ℕ) (start step a b : List ℕ) → IsCountReply last start step a → IsCountReply last start step b → a ≡ b
one_count ones last start step a b (inl h) (inl k) = h.1 ∙ sym k.1
one_count ones last start step a b (inl h) (inr k) = absurd (omega (arith, h.0, k.0))
one_count ones last start step a b (inr h) (inl k) = absurd (omega (arith, h.0, k.0))
one_count ones last start step a b (inr (few, moment, is, reply)) (inr (few₂, moment₂, is₂, reply₂)) =
    one_start ones last moment₂ step a b (subst (λ (m : Result Value Cause). IsStartReply last m step a)
    (ones.reading IsoDateTime start moment moment₂ is is₂) reply) reply₂

same_parts : (digits start step digits₂ start₂ step₂ out : List ℕ) → (digits ≡ digits₂) × (start ≡ start₂) × (step ≡ step₂)
    → IsCountReply (number_of digits) start step out → IsCountReply (number_of digits₂) start₂ step₂ out
same_parts digits start step digits₂ start₂ step₂ out same h =
    subst (λ (d : List ℕ). IsCountReply (number_of d) start₂ step₂ out) same.0
    (subst (λ (s : List ℕ). IsCountReply (number_of digits) s step₂ out) same.1
    (subst (λ (t : List ℕ). IsCountReply (number_of digits) start t out) same.2 h))

pub one_reply : AreOne → (line a b : List ℕ) → IsReply a line → IsReply b line → a ≡ b
one_reply ones line a b (inl h) (inl k) = h.1 ∙ sym k.1
one_reply ones line a b (inl h) (inr (digits, start, step, asked, is)) = absurd (h.0 digits start step asked)
one_reply ones line a b (inr (digits, start, step, asked, is)) (inl k) = absurd (k.0 digits start step asked)
one_reply ones line a b (inr (digits, start, step, asked, is)) (inr (digits₂, start₂, step₂, asked₂, is₂)) =
    one_count ones (number_of digits₂) start₂ step₂ a b (same_parts digits start step digits₂ start₂ step₂ a
    (one_request line digits start step digits₂ start₂ step₂ asked.1 asked₂.1) is) is₂

pub one_output : AreOne → (lines : List (List ℕ)) (a b : List ℕ) → AreReplies lines a → AreReplies lines b → a ≡ b
one_output ones lines a b h k = one_join IsReply (one_reply ones) lines a b h k
