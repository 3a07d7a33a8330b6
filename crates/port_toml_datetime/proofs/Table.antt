-- The checks answer a value exactly where the text spells it by the grammar.
use Rattle.std.proofs.Common.{◌≡◌, ℕ, Bool, true, false, cond, List, [], ◌∷◌, ◌++◌, Option, Some, None, Result, Ok, Err, codes}
use Rattle.std.proofs.Common.{append-nil, append_assoc, refl, sym, ◌∙◌, ap, subst, arith, inl, inr}
use Rattle.port_toml_datetime.specs.Faults.{Fault}
use Rattle.port_toml_datetime.specs.declared.date.Date.{Date}
use Rattle.port_toml_datetime.specs.declared.time.Time.{Time}
use Rattle.port_toml_datetime.specs.declared.offset.Offset.{Offset}
use Rattle.port_toml_datetime.specs.declared.datetime.Datetime.{Datetime}
use Rattle.port_toml_datetime.specs.Dates.{IsFullDate}
use Rattle.port_toml_datetime.specs.Times.{IsPartialTime}
use Rattle.scan_core.specs.Number.{sign_text}
use Rattle.port_toml_datetime.specs.Datetimes.{IsDateAndTime, IsDatetime, datetime_of}
use Rattle.port_toml_datetime.specs.inside.GrammarParts.{IsDelimiter, IsPerhapsOffset}
use Rattle.port_toml_datetime.specs.Tokens.{first_token, after_token, token, after, is_of, is_one_of}
use Rattle.port_toml_datetime.specs.Checks.{after_time, full_time_outcome, tail_outcome, dated_outcome}
use Rattle.port_toml_datetime.specs.Checks.{local_time_outcome, outcome, checked, and_then}
use Rattle.port_toml_datetime.specs.Reading.{IsReadFrom}
use Rattle.scan_core.specs.Fronts.{NoDigitFirst}
use Rattle.port_toml_datetime.proofs.TokenFacts.{IsFront, run_sound}
use Rattle.port_toml_datetime.proofs.Marks.{mark_sound, either_sound, end_sound, of_first, delimiter_is}
use Rattle.port_toml_datetime.proofs.Rows.{same_ok, all_held, then_ok}
use Rattle.port_toml_datetime.proofs.FieldFacts.{field_run}
use Rattle.port_toml_datetime.proofs.DateTable.{date_sound, date_exact}
use Rattle.port_toml_datetime.proofs.TimeTable.{time_sound, time_exact, Stops}
use Rattle.port_toml_datetime.proofs.OffsetTable.{offset_sound, offset_exact}

-- ---- what the checks let through

full_time_sound : (date : Date) (date_text delimiter text : List ℕ) (value : Datetime) → IsFullDate date_text date → IsDelimiter delimiter
    → full_time_outcome date text ≡ Ok value
    → IsDateAndTime (date_text ++ (delimiter ++ text)) value
unfolding full_time_outcome
full_time_sound date date_text delimiter text value is delimits h =
    let held = all_held _ _ value h in
    let timed = then_ok _ _ value held.answered in
    let ended = then_ok _ _ value timed.2 in
    let hour = run_sound text held.all.0 in
    let mark = mark_sound 58 (after_token text) refl refl held.all.1.0 in
    let clock = time_sound (token 0 text) (after 2 text) timed.0 hour.digits timed.1 in
    let offset = offset_sound (after_time (after 2 text)) ended.0 ended.1 in
    let split : text ≡ (token 0 text ++ (58 ∷ clock.piece)) ++ after_time (after 2 text) =
    hour.joined ∙ ap (λ (l : List ℕ). token 0 text ++ l) (mark ∙ ap (λ (l : List ℕ). 58 ∷ l) clock.joined)
    ∙ sym (append_assoc (token 0 text) (58 ∷ clock.piece) (after_time (after 2 text))) in
    record {
      date_text = date_text;
      delimiter = delimiter;
      time_text = token 0 text ++ (58 ∷ clock.piece);
      offset_text = after_time (after 2 text);
      date = date;
      time = timed.0;
      offset = ended.0;
      dates = is;
      delimits = delimits;
      times = clock.is;
      offsets = offset;
      joined = ap (λ (l : List ℕ). date_text ++ (delimiter ++ l)) split;
      made = sym (same_ok _ value ended.2);
    }

tail_sound : (date : Date) (date_text text : List ℕ) (value : Datetime) → IsFullDate date_text date → tail_outcome date text ≡ Ok value
    → IsDatetime (date_text ++ text) value
unfolding tail_outcome
tail_sound date date_text [] value is h =
    let held = all_held _ _ value h in
    inr (inl (date, rw (append-nil date_text) is, sym (same_ok _ value held.answered)))
tail_sound date date_text (b ∷ bs) value is h =
    let held = all_held _ _ value h in
    let p = held.answered in
    let some : is_one_of (codes "Tt ") b ≡ true = sym (of_first (codes "Tt ") b bs) ∙ held.all.0 in
    elim (delimiter_is b some) [
      | inl upper ↦ let f = rw upper at p in rw upper (inl (full_time_sound date date_text (84 ∷ []) bs value is (inl refl) f))
      | inr (inl lower) ↦ let f = rw lower at p in rw lower (inl (full_time_sound date date_text (116 ∷ []) bs value is (inr (inl refl)) f))
      | inr (inr space) ↦ let f = rw space at p in rw space (inl (full_time_sound date date_text (32 ∷ []) bs value is (inr (inr refl)) f))
    ]

three : (a b c d rest : List ℕ) → (a ++ (b ++ (c ++ (b ++ d)))) ++ rest ≡ a ++ (b ++ (c ++ (b ++ (d ++ rest))))
three a b c d rest = simp append_assoc refl

not_both : (text rest : List ℕ) → is_of (58 ∷ []) (first_token text) ≡ false → text ≡ 58 ∷ rest → ⊥
not_both text rest h e = let no : true ≡ false = rw e at h in cc

local_time_sound : (text : List ℕ) (value : Datetime) → IsFront text → is_of (58 ∷ []) (first_token (after_token text)) ≡ true
    → local_time_outcome (token 0 text) (after 2 text) ≡ Ok value
    → IsDatetime text value
unfolding local_time_outcome
local_time_sound text value first e h =
    let timed = then_ok _ _ value h in
    let held = all_held _ _ value timed.2 in
    let mark = mark_sound 58 (after_token text) refl refl e in
    let clock = time_sound (token 0 text) (after 2 text) timed.0 first.digits timed.1 in
    let last = end_sound (after_time (after 2 text)) held.all.0 in
    let whole : after 2 text ≡ clock.piece = clock.joined ∙ ap (λ (l : List ℕ). clock.piece ++ l) last ∙ append-nil clock.piece in
    let split : text ≡ token 0 text ++ (58 ∷ clock.piece) = first.joined
    ∙ ap (λ (l : List ℕ). token 0 text ++ l) (mark ∙ ap (λ (l : List ℕ). 58 ∷ l) whole) in
    inr (inr (
      timed.0,
      subst (λ (l : List ℕ). IsPartialTime l timed.0) (sym split) clock.is,
      sym (same_ok _ value held.answered),
    ))

dated_sound : (text : List ℕ) (value : Datetime) → IsFront text → after_token text ≡ 45 ∷ after 2 text
    → dated_outcome (token 0 text) (after 2 text) ≡ Ok value
    → IsDatetime text value
unfolding dated_outcome
dated_sound text value first mark h =
    let dated = then_ok _ _ value h in
    let date = date_sound (token 0 text) (after 2 text) dated.0 first.digits dated.1 in
    let rest = after 5 text in
    let split : text ≡ (token 0 text ++ (45 ∷ (token 2 text ++ (45 ∷ token 4 text)))) ++ rest =
    first.joined ∙ ap (λ (l : List ℕ). token 0 text ++ l) (mark ∙ ap (λ (l : List ℕ). 45 ∷ l) date.joined)
    ∙ sym (three (token 0 text) (45 ∷ []) (token 2 text) (token 4 text) rest) in
    subst (λ (l : List ℕ). IsDatetime l value) (sym split)
    (tail_sound dated.0 (token 0 text ++ (45 ∷ (token 2 text ++ (45 ∷ token 4 text)))) rest value date.is dated.2)

start_if : (t : Bool) (text : List ℕ) (value : Datetime) → is_of (58 ∷ []) (first_token (after_token text)) ≡ t → IsFront text
    → is_of (codes "-:") (first_token (after_token text)) ≡ true
    → cond {A = Result Datetime Fault} t (local_time_outcome (token 0 text) (after 2 text)) (dated_outcome (token 0 text) (after 2 text))
    ≡ Ok value
    → IsDatetime text value
start_if true text value e first m h = local_time_sound text value first e h
start_if false text value e first m h =
    elim (either_sound 45 58 (after_token text) refl refl refl refl m) [
      | inl mark ↦ dated_sound text value first mark h
      | inr colon ↦ absurd (not_both (after_token text) _ e colon)
    ]

pub table_sound : (text : List ℕ) (value : Datetime) → outcome text ≡ Ok value → IsDatetime text value
unfolding outcome
table_sound text value h =
    let held = all_held _ _ value h in
    start_if (is_of (58 ∷ []) (first_token (after_token text))) text value refl (run_sound text held.all.0) held.all.1.0 held.answered

-- ---- the texts of the grammar pass

no_rest : Stops []
no_rest = record { digit = tt; colon = refl; point = refl }

sign_stops : (negative : Bool) (rest : List ℕ) → Stops (sign_text negative ++ rest)
sign_stops true rest = record { digit = refl; colon = refl; point = refl }
sign_stops false rest = record { digit = refl; colon = refl; point = refl }

offset_stops : (text : List ℕ) (offset : Option Offset) → IsPerhapsOffset text offset → Stops text
offset_stops text offset (inl none) = rw none.0 no_rest
offset_stops text offset (inr (o, inl (inl upper, z), e)) = rw upper (record { digit = refl; colon = refl; point = refl })
offset_stops text offset (inr (o, inl (inr lower, z), e)) = rw lower (record { digit = refl; colon = refl; point = refl })
offset_stops text offset (inr (o, inr i, e)) = rw i.joined (sign_stops i.negative (i.hour_text ++ (codes ":" ++ i.minute_text)))

five : (a b c d rest : List ℕ) → (a ++ (b ++ (c ++ d))) ++ rest ≡ a ++ (b ++ (c ++ (d ++ rest)))
five a b c d rest = simp append_assoc refl

full_time_exact : (date : Date) (time : Time) (offset : Option Offset) (time_text offset_text : List ℕ) → IsPartialTime time_text time
    → IsPerhapsOffset offset_text offset
    → full_time_outcome date (time_text ++ offset_text) ≡ Ok (datetime_of (Some date) (Some time) offset)
unfolding full_time_outcome checked and_then
full_time_exact date time offset time_text offset_text i o =
    let tail : List ℕ = i.minute_text ++ (i.second_text ++ offset_text) in
    let split : time_text ++ offset_text ≡ i.hour_text ++ (58 ∷ tail) =
    ap (λ (l : List ℕ). l ++ offset_text) i.joined ∙ five i.hour_text (58 ∷ []) i.minute_text i.second_text offset_text in
    let hour = field_run 2 0 23 i.hour_text (58 ∷ tail) time.hour i.hours (omega arith) refl in
    let second : after 2 (i.hour_text ++ (58 ∷ tail)) ≡ tail = ap after_token hour.follows in
    let clock = time_exact time_text offset_text time i (offset_stops offset_text offset o) in
    let read = offset_exact offset_text offset o in
    rw split (rw (hour.is, hour.follows, hour.first) (rw (clock.read, clock.follows, read) refl))

-- behind a date: nothing, or a delimiter and more
record TailRead (date : Date) (text : List ℕ) (value : Datetime) : Type 0 where
  first : NoDigitFirst text
  read : tail_outcome date text ≡ Ok value

delimited : (date : Date) (delimiter text : List ℕ) (value : Datetime) → IsDelimiter delimiter → full_time_outcome date text ≡ Ok value
    → TailRead date (delimiter ++ text) value
unfolding tail_outcome checked
delimited date delimiter text value (inl h) m = rw h (record { first = refl; read = m })
delimited date delimiter text value (inr (inl h)) m = rw h (record { first = refl; read = m })
delimited date delimiter text value (inr (inr h)) m = rw h (record { first = refl; read = m })

nothing_behind : (date : Date) → TailRead date [] (datetime_of (Some date) None None)
unfolding tail_outcome checked
nothing_behind date = record { first = tt; read = refl }

-- a date and its tail
dated : (date : Date) (date_text text : List ℕ) (value : Datetime) → IsFullDate date_text date → TailRead date text value
    → outcome (date_text ++ text) ≡ Ok value
unfolding outcome dated_outcome checked and_then
dated date date_text text value i t =
    let behind_year : List ℕ = i.month_text ++ (45 ∷ (i.day_text ++ text)) in
    let split : date_text ++ text ≡ i.year_text ++ (45 ∷ behind_year) = ap (λ (l : List ℕ). l ++ text) i.joined
    ∙ three i.year_text (45 ∷ []) i.month_text i.day_text text in
    let year = field_run 4 0 9999 i.year_text (45 ∷ behind_year) date.year i.years (omega arith) refl in
    let read = date_exact date_text text date i t.first in
    rw split (rw (year.is, year.follows, year.first) (rw (read.read, read.follows) t.read))

local_time : (time : Time) (text : List ℕ) → IsPartialTime text time → outcome text ≡ Ok (datetime_of None (Some time) None)
unfolding outcome local_time_outcome checked and_then
local_time time text i =
    let tail : List ℕ = i.minute_text ++ (i.second_text ++ []) in
    let split : text ≡ i.hour_text ++ (58 ∷ tail) = i.joined ∙ ap (λ (l : List ℕ). i.hour_text ++ (58 ∷ (i.minute_text ++ l)))
    (sym (append-nil i.second_text)) in
    let hour = field_run 2 0 23 i.hour_text (58 ∷ tail) time.hour i.hours (omega arith) refl in
    let clock = time_exact text [] time i no_rest in
    rw split (rw (hour.is, hour.follows, hour.first) (rw (clock.read, clock.follows) refl))

pub table_exact : (text : List ℕ) (value : Datetime) → IsDatetime text value → outcome text ≡ Ok value
table_exact text value (inl m) =
    let read = full_time_exact m.date m.time m.offset m.time_text m.offset_text m.times m.offsets in
    rw (m.joined, m.made) (dated m.date m.date_text (m.delimiter ++ (m.time_text ++ m.offset_text)) _ m.dates
    (delimited m.date m.delimiter _ _ m.delimits read))
table_exact text value (inr (inl (date, is, made))) = rw made
    (subst (λ (l : List ℕ). outcome l ≡ Ok (datetime_of (Some date) None None))
    (append-nil text) (dated date text [] _ is (nothing_behind date)))
table_exact text value (inr (inr (time, is, made))) = rw made (local_time time text is)

pub one_value : (text : List ℕ) (a b : Datetime) → IsDatetime text a → IsDatetime text b → a ≡ b
one_value text a b is_a is_b = same_ok a b (sym (table_exact text a is_a) ∙ table_exact text b is_b)

-- ---- what a reader answers by the table

-- by cases of the answer, from which the text's outcome is known
read_by : (text : List ℕ) (result : Result Datetime Fault) → outcome text ≡ result → IsReadFrom text result
read_by text (Ok value) e = record {
  ok = table_sound text value e;
  all = λ other is. sym e ∙ table_exact text other is;
  err = tt;
}
read_by text (Err said) e = record {
  ok = tt;
  all = λ other is. sym e ∙ table_exact text other is;
  err = e;
}

pub read_from : (text : List ℕ) (result : Result Datetime Fault) → result ≡ outcome text → IsReadFrom text result
read_from text result e = read_by text result (sym e)

outcome_is : (text : List ℕ) (result : Result Datetime Fault) → IsReadFrom text result → outcome text ≡ result
outcome_is text (Ok value) r = table_exact text value r.ok
outcome_is text (Err said) r = r.err

pub one_answer : (text : List ℕ) (a b : Result Datetime Fault) → IsReadFrom text a → IsReadFrom text b → a ≡ b
one_answer text a b is_a is_b = sym (outcome_is text a is_a) ∙ outcome_is text b is_b
