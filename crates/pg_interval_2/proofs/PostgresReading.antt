-- What the reader of items says of a text in `postgres` style.
use Rattle.std.proofs.Common.{◌≡◌, ℕ, false, List, [], Result, Ok, Err, IfOk, IfErr, subst, arith}
use Rattle.scan_core.specs.Blanks.{words}
use Rattle.scan_core.specs.Count.{Count}
use Rattle.pg_interval_2.specs.Denotes.{Denotes, HasNoShape, Refuses}
use Rattle.pg_interval_2.specs.Messages.{not_postgres}
use Rattle.pg_interval_2.specs.inside.ItemsTally.{AnswersItems, HasNoBadName, IsMisread, RefusesItems}
use Rattle.pg_interval_2.specs.Postgres.{IsPostgresBadName}
use Rattle.pg_interval_2.specs.inside.PostgresParts.{IsPostgres}
use Rattle.pg_interval_2.specs.inside.Tallies.{AnswersCounts}
use Rattle.pg_interval_2.specs.UnitNames.{postgres_names}
use Rattle.pg_interval_2.specs.declared.reading.items.Misread.TheVariants.{BadName, NoItems}
use Rattle.pg_interval_2.specs.declared.interval.Interval.{Interval}
use Rattle.pg_interval_2.specs.declared.error.ParseError.{ParseError}
use Rattle.pg_interval_2.specs.declared.error.ParseError.TheVariants.{InvalidInterval, BadUnit, InvalidYearMonth, InvalidDay, InvalidTime}
use Rattle.pg_interval_2.specs.inside.ItemReading.{verdict, Unspelled}
use Rattle.pg_interval_2.proofs.Answering.{answers_err, answers_ok}
use Rattle.pg_interval_2.proofs.BadNames.{no_shape_at_bad_name}
use Rattle.pg_interval_2.proofs.ItemEnds.{nothing_spelled}
use Rattle.pg_interval_2.proofs.PostgresCounts.{are_names}
use Rattle.pg_interval_2.proofs.Turning.{turned_none}

spelled : (text bytes : List ℕ) (answer : Result Interval ParseError) → bytes ≡ text → AnswersItems postgres_names false bytes answer
    → (counts : List Count) × IsPostgres text counts × AnswersCounts counts answer
spelled text bytes answer same found = (
  found.0,
  subst (λ (l : List ℕ). IsPostgres l found.0) same found.1,
  subst (λ (l : List Count). AnswersCounts l answer) (turned_none found.0) found.2,
)

bad_name : (text bytes : List ℕ) (at start end : ℕ) → bytes ≡ text → at ≡ 0 → IsMisread postgres_names at bytes (BadName start end)
    → IsPostgresBadName text start end
bad_name text bytes at start end same zero (s, e, bad, starts, ends) =
    let first : s ≡ start = omega arith in
    let last : e ≡ end = omega arith in
    subst (λ (l : List ℕ). IsPostgresBadName l start end) same (subst (λ (n : ℕ). IsPostgresBadName bytes start n) last
    (subst (λ (n : ℕ). IsPostgresBadName bytes n e) first bad))

no_items : (text bytes : List ℕ) (at : ℕ) → bytes ≡ text → IsMisread postgres_names at bytes NoItems
    → HasNoShape IsPostgres text × HasNoBadName postgres_names text
no_items text bytes at same none =
    nothing_spelled postgres_names are_names text (subst (λ (l : List ℕ). verdict postgres_names [] 0 (words l) ≡ Unspelled) same none)

-- what the reader answers of the whole text is what the text denotes, or why it denotes nothing
pub reads : (text bytes : List ℕ) (answer : Result Interval ParseError) → bytes ≡ text
    → IfOk answer (λ t. AnswersItems postgres_names false bytes (Ok t))
    → IfOk answer (λ t. Denotes IsPostgres text t)
reads text bytes (Ok t) same found = let of = spelled text bytes (Ok t) same found in
    answers_ok IsPostgres text of.0 of.1 (Ok t) of.2
reads text bytes (Err e) same found = tt

range : (text bytes : List ℕ) (e : ParseError) → bytes ≡ text → AnswersItems postgres_names false bytes (Err e)
    → Refuses IsPostgres IsPostgresBadName not_postgres text e
range text bytes e same found = let of = spelled text bytes (Err e) same found in
    answers_err IsPostgres IsPostgresBadName not_postgres text of.0 of.1 (Err e) of.2

pub refuses : (text bytes : List ℕ) (at : ℕ) (answer : Result Interval ParseError) → bytes ≡ text → at ≡ 0
    → IfErr answer (RefusesItems postgres_names false not_postgres at bytes)
    → IfErr answer (λ e. Refuses IsPostgres IsPostgresBadName not_postgres text e)
refuses text bytes at (Ok t) same zero why = tt
refuses text bytes at (Err (InvalidInterval m)) same zero why = let none = no_items text bytes at same why.0 in (none.0, none.1, why.1)
refuses text bytes at (Err (BadUnit start end)) same zero why = let bad = bad_name text bytes at start end same zero why in
    (λ counts shape. no_shape_at_bad_name postgres_names are_names text start end counts bad shape, bad)
refuses text bytes at (Err (InvalidYearMonth m)) same zero why = range text bytes (InvalidYearMonth m) same why
refuses text bytes at (Err (InvalidDay m)) same zero why = range text bytes (InvalidDay m) same why
refuses text bytes at (Err (InvalidTime m)) same zero why = range text bytes (InvalidTime m) same why
