-- Durations of XML Schema as a form: what a text is read as, what of a value is held, and that it is read back.
use Rattle.std.proofs.Common.{◌≡◌, ℕ, true, List, Result, Ok, Err, refl, sym, ◌∙◌, ap, subst, inl, inr}
use Rattle.scan_core.specs.Count.{Count}
use Rattle.pg_interval_2.specs.Denotes.{Denotes}
use Rattle.pg_interval_2.specs.Ranges.{IsInRange}
use Rattle.pg_interval_2.specs.declared.interval.Interval.{Interval}
use Rattle.xsd_duration.specs.Durations.{SpellsDuration}
use Rattle.xsd_duration.specs.Readings.{IsRefused}
use Rattle.xsd_duration.specs.Written.{xml_duration_text, has_one_sign}
use Rattle.xsd_duration.specs.declared.error.DurationError.{DurationError}
use Rattle.xsd_duration.specs.declared.error.DurationError.TheVariants as duration
use Rattle.forms.specs.declared.cause.Cause.{Cause}
use Rattle.forms.specs.declared.cause.Cause.TheVariants.{Range, Kind}
use Rattle.forms.specs.declared.form.Form.TheVariants.{XsdDuration}
use Rattle.forms.specs.declared.value.Value.{Value}
use Rattle.forms.specs.declared.value.Value.TheVariants.{Triple, Length}
use Rattle.forms.specs.Answers.{Is, ReadsBy}
use Rattle.forms.specs.Values.{Same}
use Rattle.forms.specs.form.Intervals.{worth, interval_of, interval_of_length}
use Rattle.forms.specs.form.XsdDuration.{held, if_one_sign, of_one_sign}
use Rattle.forms.specs.inside.Lawful.{Lawful}
use Rattle.forms.specs.inside.Readers.{cause_of}
use Rattle.forms.proofs.Intervals.{held_parts, interval_held, IsDenotedInRange, length_held, triple, within, worth_fits, worth_misfits}
use Rattle.forms.proofs.Lawful.{AreAscii, IsHeldBack, lawful_by, one_image, same_ok, then_ok}

-- ---- reading

pub reads_refused : (text : List ℕ) (e : DurationError) → IsRefused text e → ReadsBy SpellsDuration (Is worth) text (Err (cause_of e))
reads_refused text duration.Syntax h = inr (h, refl)
reads_refused text duration.Range h = inl (h.0, h.1, sym (worth_misfits h.0 h.2))

-- ---- what is held

abbrev IsWrittenBack : Type 0
IsWrittenBack = (t : Interval) → IsInRange t → has_one_sign t ≡ true → Denotes SpellsDuration (xml_duration_text t) t

signed_ok : (t u : Interval) → of_one_sign t ≡ Ok u → (has_one_sign t ≡ true) × (t ≡ u)
unfolding of_one_sign
signed_ok t u h = let parts = then_ok (has_one_sign t) (Ok t) u Range h in (parts.0, same_ok t u parts.1)

of_signed : (t : Interval) → has_one_sign t ≡ true → of_one_sign t ≡ Ok t
unfolding of_one_sign
of_signed t one = rw one refl

held_one : (r : Result Interval Cause) (u : Interval) → if_one_sign r ≡ Ok u → (r ≡ Ok u) × (has_one_sign u ≡ true)
held_one (Ok t) u h =
    let parts = signed_ok t u h in
    (ap Ok parts.1, subst (λ (v : Interval). has_one_sign v ≡ true) parts.1 parts.0)
held_one (Err cause) u h = absurd (let e : Err cause ≡ Ok u = h in cc)

abbrev IsHeld : Value → Interval → Type 0
IsHeld value t = IsHeldBack SpellsDuration (Is worth) (Is held) (xml_duration_text t) value t

held_by : IsWrittenBack → (value : Value) (t : Interval) → IsInRange t → has_one_sign t ≡ true → Same value (triple t) → IsHeld value t
held_by written_back value t range one same =
    let d = written_back t range one in
    record {
      meaning = d.0;
      back = triple t;
      spelled = d.1;
      valued = sym (worth_fits d.0 d.2 ∙ ap (λ (u : Interval). Ok (triple u)) (sym d.3));
      same = same;
      again = sym (ap if_one_sign (held_parts t.months t.days t.microseconds range.months range.days range.microseconds) ∙ of_signed t one);
    }

held_back : IsWrittenBack → (value : Value) (t : Interval) → held value ≡ Ok t → IsHeld value t
held_back written_back (Triple months days micros) t h =
    let one = held_one (interval_of months days micros) t h in
    let found = interval_held months days micros t one.0 in
    held_by written_back (Triple months days micros) t found.0 one.1 found.1
held_back written_back (Length nanos) t h =
    let one = held_one (interval_of_length nanos) t h in
    let found = length_held nanos t one.0 in
    held_by written_back (Length nanos) t found.0 one.1 found.1
held_back written_back _ t h = absurd (let e : Err Kind ≡ Ok t = h in cc)

pub xml_durations : ((text : List ℕ) (a b : List Count) → SpellsDuration text a → SpellsDuration text b → a ≡ b)
    → IsDenotedInRange SpellsDuration → IsWrittenBack → AreAscii SpellsDuration → Lawful XsdDuration
xml_durations one in_range written_back ascii =
    lawful_by XsdDuration SpellsDuration (Is worth) (Is held) xml_duration_text
    (record { reads = λ text a h. h; read = λ text a h. h; writes = λ value a h. h; written = λ value a h. h })
    (record {
      one = one;
      one_worth = one_image worth;
      one_held = one_image held;
      ascii = ascii;
      within = λ text counts value spelled h. within SpellsDuration in_range text counts value spelled (sym h);
      back = λ value t w h. held_back written_back value t (sym h);
    })
