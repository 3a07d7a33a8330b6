-- The reply of a series: that there is one, and how it is put.
use Rattle.std.proofs.Common.{◌≡◌, ℕ, List, ◌++◌, ℤ, Option, refl, ap, subst, append_assoc}
use Rattle.scan_core.specs.Join.{IsJoin}
use Rattle.pg_interval_2.specs.declared.interval.Interval.{Interval}
use Rattle.forms.specs.Outside.{AppendsFront}
use Rattle.recurrence.specs.Series.{IsSeries}
use Rattle.recurrence.specs.Replies.{IsInstantLine, IsSeriesReply, IsWholeMillis, stop_text}
use Rattle.recurrence.specs.inside.Steps.{AreCalendarDates}
use Rattle.recurrence.specs.inside.Waiting.{KeepOrder, Puts, Fails}
use Rattle.recurrence.specs.inside.Written.{IsInMillis}
use Rattle.recurrence.proofs.Joined.{front_of_longer}
use Rattle.recurrence.proofs.Millis.{all_writable}
use Rattle.recurrence.proofs.Texts.{have_texts}

-- the reply is there
pub has_reply : AreCalendarDates → (start : ℤ) (step : Interval) (last : ℕ) (all : List ℤ) (stop : Option ℕ)
    → IsSeries start step last all stop → IsInMillis start → IsWholeMillis step → (out : List ℕ) × IsSeriesReply last start step out
has_reply laws start step last all stop s millis whole =
    let texts = have_texts laws all (all_writable laws start step 0 all s.each millis whole) in
    (texts.0 ++ stop_text stop, record { instants = all; stop = stop; text = texts.0; series = s; written = texts.1; joined = refl })

pub series_put : KeepOrder → (start : ℤ) (step : Interval) (last : ℕ) (all : List ℤ) (stop : Option ℕ) (a b c : Option (List ℕ))
    (before between after : List ℕ) → IsSeries start step last all stop → Puts (λ text. IsJoin IsInstantLine text all) a b before between
    → Puts (λ text. text ≡ stop_text stop) b c between after → Puts (λ out. IsSeriesReply last start step out) a c before after
series_put order start step last all stop a b c before between after s p q = (
  p.0 ++ q.0,
  record { instants = all; stop = stop; text = p.0; series = s; written = p.1; joined = ap (λ (l : List ℕ). p.0 ++ l) q.1 },
  order.next a b c before p.0 between q.0 after p.2 q.2,
)

pub series_fails : (start : ℤ) (step : Interval) (last : ℕ) (all : List ℤ) (stop : Option ℕ) (a b : Option (List ℕ)) (before : List ℕ)
    → IsSeries start step last all stop → Fails (λ text. IsJoin IsInstantLine text all) a b before
    → Fails (λ out. IsSeriesReply last start step out) a b before
series_fails start step last all stop a b before s f = (
  f.0 ++ stop_text stop,
  record { instants = all; stop = stop; text = f.0; series = s; written = f.1; joined = refl },
  subst (AppendsFront a b) (append_assoc before f.0 (stop_text stop)) (front_of_longer a b (before ++ f.0) (stop_text stop) f.2),
)

pub series_fails_last : KeepOrder → (start : ℤ) (step : Interval) (last : ℕ) (all : List ℤ) (stop : Option ℕ) (a b c : Option (List ℕ))
    (before between : List ℕ) → IsSeries start step last all stop → Puts (λ text. IsJoin IsInstantLine text all) a b before between
    → Fails (λ text. text ≡ stop_text stop) b c between → Fails (λ out. IsSeriesReply last start step out) a c before
series_fails_last order start step last all stop a b c before between s p f = (
  p.0 ++ f.0,
  record { instants = all; stop = stop; text = p.0; series = s; written = p.1; joined = ap (λ (l : List ℕ). p.0 ++ l) f.1 },
  order.next_fails a b c before p.0 between f.0 p.2 f.2,
)
