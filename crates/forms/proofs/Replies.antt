-- What a reply is between two interval forms, and reading and writing in turn, say the same.
use Rattle.std.proofs.Common.{◌≡◌, ℕ, Bool, true, false, List, Option, Some, None, Result, Ok, Err, IsTrue, refl, sym, ◌∙◌, ap, subst, inl}
use Rattle.std.proofs.Common.{inr}
use Rattle.scan_core.specs.Count.{Count}
use Rattle.scan_core.specs.Sums.{fits}
use Rattle.pg_interval_2.specs.declared.interval.Interval.{Interval}
use Rattle.pg_interval_2.specs.declared.style.Style.{Style}
use Rattle.pg_interval_2.specs.declared.style.Style.TheVariants as style
use Rattle.pg_interval_2.specs.Denotes.{Denotes}
use Rattle.pg_interval_2.specs.Styles.{Shape, style_text}
use Rattle.forms.specs.declared.cause.Cause.{Cause}
use Rattle.forms.specs.declared.cause.Cause.TheVariants.{Syntax, Range}
use Rattle.forms.specs.declared.form.Form.{Form}
use Rattle.forms.specs.declared.form.Form.TheVariants.{IsoDuration, PgIso, Postgres, PgVerbose, PgSql, IsoStrict}
use Rattle.forms.specs.declared.value.Value.{Value}
use Rattle.forms.specs.Answers.{Is, ReadsBy, result_map, WritesBy, Then}
use Rattle.forms.specs.Forms.{Reads, Writes}
use Rattle.forms.specs.Names.{is_counted, style_of}
use Rattle.forms.specs.ReadBack.{Turns}
use Rattle.forms.specs.Replies.{IsIntervalAnswer, IsAnswer}
use Rattle.forms.specs.form.Intervals.{worth, held}
use Rattle.forms.proofs.Intervals.{sum_of, triple, worth_fits, IsDenotedInRange, held_parts, worth_misfits, reads_interval, reads_no_shape}
use Rattle.forms.proofs.Lawful.{HasRows}

-- reading in one style and writing in another
abbrev TurnsBy : Style → Style → List ℕ → Result (List ℕ) Cause → Type 0
TurnsBy from to text answer = (value : Result Value Cause) × ReadsBy (Shape from) (Is worth) text value
    × Then (WritesBy (Is held) (style_text to)) value answer

-- the interval of a triple that a text denotes
held_triple : (from : Style) → IsDenotedInRange (Shape from) → (text : List ℕ) (t : Interval) → Denotes (Shape from) text t
    → Ok t ≡ held (triple t)
held_triple from in_range text t h =
    let range = in_range text t h in
    sym (held_parts t.months t.days t.microseconds range.months range.days range.microseconds)

-- its text
written_triple : (from to : Style) → IsDenotedInRange (Shape from) → (text : List ℕ) (t : Interval) → Denotes (Shape from) text t
    → WritesBy (Is held) (style_text to) (triple t) (Ok (style_text to t))
written_triple from to in_range text t h = (Ok t, held_triple from in_range text t h, refl)

onto_turn : (from to : Style) → IsDenotedInRange (Shape from) → (text : List ℕ) (answer : Result (List ℕ) Cause)
    → IsIntervalAnswer from to text answer → TurnsBy from to text answer
onto_turn from to in_range text (Ok out) h =
    let P : List ℕ → Type 0 = λ l. WritesBy (Is held) (style_text to) (triple h.0) (Ok l) in
    (Ok (triple h.0), reads_interval from text h.0 h.1, subst P (sym h.2) (written_triple from to in_range text h.0 h.1))
onto_turn from to in_range text (Err Syntax) h = (Err Syntax, reads_no_shape from text h, refl)
onto_turn from to in_range text (Err Range) h = (Err Range, inl (h.0, h.1, sym (worth_misfits h.0 h.2)), refl)
onto_turn from to in_range text (Err _) h = absurd h

-- counts that are spelled, by whether they fit
by_fit : (from to : Style) → IsDenotedInRange (Shape from) → (text : List ℕ) (counts : List Count) → Shape from text counts
    → (test : Bool) → test ≡ fits counts → (value : Result Value Cause) → value ≡ worth counts
    → (answer : Result (List ℕ) Cause) → Then (WritesBy (Is held) (style_text to)) value answer → IsIntervalAnswer from to text answer
by_fit from to in_range text counts spelled true all value h answer turned =
    let denoted : Denotes (Shape from) text (sum_of counts) = (counts, spelled, sym all, refl) in
    let P : Result Value Cause → Type 0 = λ v. Then (WritesBy (Is held) (style_text to)) v answer in
    let w : WritesBy (Is held) (style_text to) (triple (sum_of counts)) answer = subst P (h ∙ worth_fits counts (sym all)) turned in
    let is : answer ≡ Ok (style_text to (sum_of counts)) = w.2 ∙ ap (result_map (style_text to))
    (w.1 ∙ sym (held_triple from in_range text (sum_of counts) denoted)) in
    subst (IsIntervalAnswer from to text) (sym is) (sum_of counts, denoted, refl)
by_fit from to in_range text counts spelled false all value h answer turned =
    let P : Result Value Cause → Type 0 = λ v. Then (WritesBy (Is held) (style_text to)) v answer in
    let is : answer ≡ Err Range = subst P (h ∙ worth_misfits counts (sym all)) turned in
    subst (IsIntervalAnswer from to text) (sym is) (counts, spelled, sym all)

onto_answer : (from to : Style) → IsDenotedInRange (Shape from) → (text : List ℕ) (answer : Result (List ℕ) Cause)
    → TurnsBy from to text answer → IsIntervalAnswer from to text answer
onto_answer from to in_range text answer (value, inl read, h) =
    by_fit from to in_range text read.0 read.1 (fits read.0) refl value read.2 answer h
onto_answer from to in_range text answer (value, inr read, h) =
    let P : Result Value Cause → Type 0 = λ v. Then (WritesBy (Is held) (style_text to)) v answer in
    let is : answer ≡ Err Syntax = subst P read.1 h in
    subst (IsIntervalAnswer from to text) (sym is) read.0

-- the rows of an interval form are those of its style
abbrev HasStyle : Form → Style → Type 0
HasStyle form s = HasRows form (Shape s) (Is worth) (Is held) (style_text s)

pub of_style : (form : Form) (s : Style) → style_of form ≡ Some s → HasStyle form s
of_style PgIso s h = let e : style.Iso ≡ s = cc in subst (HasStyle PgIso) e
    (record { reads = λ text a r. r; read = λ text a r. r; writes = λ value a w. w; written = λ value a w. w })
of_style Postgres s h = let e : style.Postgres ≡ s = cc in subst (HasStyle Postgres) e
    (record { reads = λ text a r. r; read = λ text a r. r; writes = λ value a w. w; written = λ value a w. w })
of_style PgVerbose s h = let e : style.Verbose ≡ s = cc in subst (HasStyle PgVerbose) e
    (record { reads = λ text a r. r; read = λ text a r. r; writes = λ value a w. w; written = λ value a w. w })
of_style PgSql s h = let e : style.Sql ≡ s = cc in subst (HasStyle PgSql) e
    (record { reads = λ text a r. r; read = λ text a r. r; writes = λ value a w. w; written = λ value a w. w })
of_style IsoStrict s h = let e : style.IsoStrict ≡ s = cc in subst (HasStyle IsoStrict) e
    (record { reads = λ text a r. r; read = λ text a r. r; writes = λ value a w. w; written = λ value a w. w })
of_style _ s h = absurd (let e : None ≡ Some s = h in cc)

then_writes : (to : Form) (t : Style) → HasStyle to t → (value : Result Value Cause) (answer : Result (List ℕ) Cause)
    → (Then (WritesBy (Is held) (style_text t)) value answer → Then (Writes to) value answer)
    × (Then (Writes to) value answer → Then (WritesBy (Is held) (style_text t)) value answer)
then_writes to t rows (Ok value) answer = (rows.written value answer, rows.writes value answer)
then_writes to t rows (Err cause) answer = (λ h. h, λ h. h)

same_turns : (from to : Form) (s t : Style) → HasStyle from s → HasStyle to t
    → (text : List ℕ) (answer : Result (List ℕ) Cause)
    → (TurnsBy s t text answer → Turns from to text answer) × (Turns from to text answer → TurnsBy s t text answer)
same_turns from to s t f g text answer = (
  λ h. (h.0, f.read text h.0 h.1, (then_writes to t g h.0 answer).0 h.2),
  λ h.
      (h.0, f.reads text h.0 h.1, (then_writes to t g h.0 answer).1 h.2),
)

answer_turned : ((s : Style) → IsDenotedInRange (Shape s)) → (from to : Form) (text : List ℕ) (answer : Result (List ℕ) Cause)
    → IsAnswer from to text answer → Turns from to text answer
unfolding IsAnswer
answer_turned in_range from to text answer (inl (s, t, f, g, h)) =
    (same_turns from to s t (of_style from s f) (of_style to t g) text answer).0 (onto_turn s t (in_range s) text answer h)
answer_turned in_range from to text answer (inr other) = other.1

by_styles : ((s : Style) → IsDenotedInRange (Shape s)) → (from to : Form) (a b : Option Style) → style_of from ≡ a → style_of to ≡ b
    → (text : List ℕ) (answer : Result (List ℕ) Cause) → Turns from to text answer
    → IsAnswer from to text answer
unfolding IsAnswer
by_styles in_range from to (Some s) (Some t) f g text answer h =
    inl (
      s,
      t,
      f,
      g,
      onto_answer s t (in_range s) text answer ((same_turns from to s t (of_style from s f) (of_style to t g) text answer).1
          h),
    )
by_styles in_range from to (Some s) None f g text answer h = inr (inr g, h)
by_styles in_range from to None b f g text answer h = inr (inl f, h)

pub answers_turned : ((s : Style) → IsDenotedInRange (Shape s)) → (from to : Form) (text : List ℕ) (answer : Result (List ℕ) Cause)
    → (IsAnswer from to text answer → Turns from to text answer) × (Turns from to text answer → IsAnswer from to text answer)
answers_turned in_range from to text answer =
    (answer_turned in_range from to text answer, by_styles in_range from to (style_of from) (style_of to) refl refl text answer)

-- of the counted forms, durations of ISO 8601 alone have no style
pub counted_alone : (form : Form) → IsTrue (is_counted form) → None ≡ style_of form → (text : List ℕ) (a : Result Value Cause)
    → Reads IsoDuration text a → Reads form text a
counted_alone IsoDuration counted none text a h = h
counted_alone _ counted none text a h = absurd (let e = counted in let f = none in cc)
