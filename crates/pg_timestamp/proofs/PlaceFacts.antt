-- The places of a timestamp's parts in its text, and that a text is one timestamp.
use Rattle.std.proofs.Common.{◌≡◌, ℕ, Bool, true, false, List, [], ◌∷◌, ◌++◌, take, drop, refl, sym, ◌∙◌, ap, subst, arith, Option, Some}
use Rattle.std.proofs.Common.{None, IfNone}
use Rattle.std.proofs.lemmas.List.{take-append-drop}
use Rattle.scan_core.specs.Digits.{AreDigits}
use Rattle.scan_core.specs.Fronts.{front_digits, after_digits}
use Rattle.scan_core.proofs.FrontFacts.{front_of, after_of, front_and_after}
use Rattle.pg_timestamp.specs.Pieces.{IsMarkedPair, era_text}
use Rattle.pg_timestamp.specs.Dates.{IsLongYear}
use Rattle.pg_timestamp.specs.Timestamps.{IsTimestampText, IsPerhapsTime}
use Rattle.pg_timestamp.specs.declared.date.Date.{Date}
use Rattle.pg_timestamp.specs.declared.time.Time.{Time}
use Rattle.pg_timestamp.specs.declared.timestamp.Timestamp.{Timestamp}
use Rattle.pg_timestamp.specs.inside.Places.{AreAt, AreTimeAt, EndsTime, IsEndAt}
use Rattle.pg_timestamp.proofs.PieceFacts.{front_three, hyphen_no_digit, one_era, one_number}
use Rattle.pg_timestamp.proofs.TimeFacts.{one_time, time_places, time_front}

-- ---- what follows the day

pub era_ends : (bc : Bool) → EndsTime (era_text bc)
era_ends true = record { digit = refl; point = refl; colon = refl; sign = refl }
era_ends false = record { digit = tt; point = tt; colon = refl; sign = refl }

end_found : (text : List ℕ) (time : Option Time) (bc : Bool) → IsPerhapsTime text time → IsEndAt (text ++ era_text bc) time bc
end_found text None bc h = rw h refl
end_found text (Some time) bc t = time_places text (era_text bc) time t (era_ends bc)

end_front : (text : List ℕ) (time : Option Time) (bc : Bool) → IsEndAt text time bc
    → (front : List ℕ) × IsPerhapsTime front time × (front ++ era_text bc ≡ text)
end_front text None bc h = ([], refl, sym h)
end_front text (Some time) bc (at, after) =
    let clock = time_front text time at in
    (clock.0, clock.1, ap (λ (l : List ℕ). clock.0 ++ l) (sym after) ∙ sym clock.2)

-- an era is no time
no_marked : (bc : Bool) (n : ℕ) → IsMarkedPair 32 0 24 (take 3 (era_text bc)) n → ⊥
no_marked true n (p, f, j) =
    let tail : p ≡ 66 ∷ 67 ∷ [] = cc in
    let digits = subst AreDigits tail f.digits in
    let first = digits.0 in
    omega (arith, first)
no_marked false n (p, f, j) = absurd cc

pub no_time : (text : List ℕ) (bc : Bool) (time : Time) → text ≡ era_text bc → AreTimeAt text time → ⊥
no_time text bc time h t =
    let P : List ℕ → Type 0 = λ l. IsMarkedPair 32 0 24 (take 3 l) time.hour in
    no_marked bc time.hour (subst P h t.hours)

one_end : (text : List ℕ) (a b : Option Time) (c d : Bool) → IsEndAt text a c → IsEndAt text b d → (a ≡ b) × (c ≡ d)
one_end text None None c d h k = (refl, one_era c d (sym h ∙ k))
one_end text None (Some t) c d h k = absurd (no_time text c t h k.0)
one_end text (Some s) None c d h k = absurd (no_time text d s k h.0)
one_end text (Some s) (Some t) c d h k = (ap (λ (x : Time). Some x) (one_time text s t h.0 k.0), one_era c d (sym h.1 ∙ k.1))

no_end : (text : List ℕ) → ((bc : Bool) → text ≡ era_text bc → ⊥) → ((time : Time) (bc : Bool) → IsEndAt text (Some time) bc → ⊥)
    → (time : Option Time) (bc : Bool) → IsEndAt text time bc → ⊥
no_end text e f None bc h = e bc h
no_end text e f (Some time) bc h = f time bc h

pub none_end : {A : Type 0} (found : Option A) (text : List ℕ) → ((bc : Bool) → text ≡ era_text bc → ⊥)
    → IfNone found ((time : Time) (bc : Bool) → IsEndAt text (Some time) bc → ⊥)
    → IfNone found ((time : Option Time) (bc : Bool) → IsEndAt text time bc → ⊥)
none_end (Some x) text e f = tt
none_end None text e f = no_end text e f

-- ---- a timestamp

pub at_places : (text : List ℕ) (t : Timestamp) → IsTimestampText text t → AreAt text t
at_places text t d =
    let e : List ℕ = d.time_text ++ era_text t.date.bc in
    let behind : List ℕ = d.month_text ++ (d.day_text ++ e) in
    let none = hyphen_no_digit 1 12 d.month_text (d.day_text ++ e) t.date.month d.months in
    let front : front_digits text ≡ d.year_text = ap front_digits d.joined ∙ front_of d.year_text behind d.years.digits none in
    let after : after_digits text ≡ behind = ap after_digits d.joined ∙ after_of d.year_text behind d.years.digits none in
    let month = front_three 45 1 12 d.month_text (d.day_text ++ e) t.date.month d.months in
    let day = front_three 45 1 31 d.day_text e t.date.day d.days in
    let second : drop 3 (after_digits text) ≡ d.day_text ++ e = ap (λ (l : List ℕ). drop 3 l) after ∙ month.1 in
    let third : drop 3 (drop 3 (after_digits text)) ≡ e = ap (λ (l : List ℕ). drop 3 l) second ∙ day.1 in
    let P : List ℕ → Type 0 = λ l. IsLongYear l t.date.year in
    let M : List ℕ → Type 0 = λ l. IsMarkedPair 45 1 12 l t.date.month in
    let D : List ℕ → Type 0 = λ l. IsMarkedPair 45 1 31 l t.date.day in
    let E : List ℕ → Type 0 = λ l. IsEndAt l t.time t.date.bc in
    record {
      years = subst P (sym front) d.years;
      months = subst M (sym (ap (λ (l : List ℕ). take 3 l) after ∙ month.0)) d.months;
      days = subst D (sym (ap (λ (l : List ℕ). take 3 l) second ∙ day.0)) d.days;
      end = subst E (sym third) (end_found d.time_text t.time t.date.bc d.times);
    }

pub from_places : (text : List ℕ) (t : Timestamp) → AreAt text t → IsTimestampText text t
from_places text t p =
    let a : List ℕ = after_digits text in
    let b : List ℕ = drop 3 (drop 3 a) in
    let last = end_front b t.time t.date.bc p.end in
    let e : List ℕ = last.0 ++ era_text t.date.bc in
    let third : take 3 (drop 3 a) ++ e ≡ drop 3 a = ap (λ (l : List ℕ). take 3 (drop 3 a) ++ l) last.2 ∙ take-append-drop 3 (drop 3 a) in
    let second : take 3 a ++ (take 3 (drop 3 a) ++ e) ≡ a = ap (λ (l : List ℕ). take 3 a ++ l) third ∙ take-append-drop 3 a in
    record {
      year_text = front_digits text;
      month_text = take 3 a;
      day_text = take 3 (drop 3 a);
      time_text = last.0;
      years = p.years;
      months = p.months;
      days = p.days;
      times = last.1;
      joined = sym (ap (λ (l : List ℕ). front_digits text ++ l) second ∙ front_and_after text);
    }

abbrev made : ℕ → ℕ → ℕ → Bool → Date
made y m d c = record { year = y; month = m; day = d; bc = c }

pub date_is : (a b : Date) → a.year ≡ b.year → a.month ≡ b.month → a.day ≡ b.day → a.bc ≡ b.bc → a ≡ b
date_is a b y m d c = let same : made a.year a.month a.day a.bc ≡ made b.year b.month b.day b.bc = rw (y, m, d, c) refl in same

abbrev stamp : Date → Option Time → Timestamp
stamp d t = record { date = d; time = t }

pub timestamp_is : (a b : Timestamp) → a.date ≡ b.date → a.time ≡ b.time → a ≡ b
timestamp_is a b d t = let same : stamp a.date a.time ≡ stamp b.date b.time = rw (d, t) refl in same

pub one_timestamp : (text : List ℕ) (a b : Timestamp) → IsTimestampText text a → IsTimestampText text b → a ≡ b
one_timestamp text a b h k =
    let p = at_places text a h in
    let q = at_places text b k in
    let ends = one_end _ a.time b.time a.date.bc b.date.bc p.end q.end in
    let date : a.date ≡ b.date =
    date_is a.date b.date (p.years.number ∙ sym q.years.number) (one_number 45 45 1 12 _ a.date.month b.date.month p.months q.months)
    (one_number 45 45 1 31 _ a.date.day b.date.day p.days q.days) ends.1 in
    timestamp_is a b date ends.0
