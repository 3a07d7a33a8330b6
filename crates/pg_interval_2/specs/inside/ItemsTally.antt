-- What reading the items of bytes answers: cited by private contracts alone.
use Rattle.std.specs.Prelude.{◌≡◌, ℕ, ◌+◌, Bool, List, [], Result, Err}
use Rattle.scan_core.specs.Blanks.{words}
use Rattle.scan_core.specs.Count.{Count}
use Rattle.scan_core.specs.declared.share.Unit.{Unit as TimeUnit}
use Rattle.pg_interval_2.specs.declared.error.ParseError.{ParseError}
use Rattle.pg_interval_2.specs.declared.error.ParseError.TheVariants.{InvalidInterval, BadUnit, InvalidYearMonth, InvalidDay, InvalidTime}
use Rattle.pg_interval_2.specs.declared.interval.Interval.{Interval}
use Rattle.pg_interval_2.specs.declared.reading.items.Misread.{Misread}
use Rattle.pg_interval_2.specs.declared.reading.items.Misread.TheVariants as misread
use Rattle.pg_interval_2.specs.declared.reading.tally.Tally.{Tally}
use Rattle.pg_interval_2.specs.Postgres.{AreItems, IsBadName}
use Rattle.pg_interval_2.specs.inside.ItemReading.{verdict, Unspelled}
use Rattle.pg_interval_2.specs.inside.Tallies.{Tallies, AnswersCounts}
use Rattle.pg_interval_2.specs.Turned.{turned_counts}

-- the tally is of the counts of the items that the bytes are, turned or not
abbrev pub IsItemsTally : (TimeUnit → List (List ℕ)) → Bool → List ℕ → Tally → Type 0
IsItemsTally names turned bytes tally =
    (counts : List Count) × AreItems names (words bytes) counts
    × Tallies tally (turned_counts turned counts)

-- the bytes are no items
abbrev pub HasNoItems : (TimeUnit → List (List ℕ)) → List ℕ → Type 0
HasNoItems names bytes = (counts : List Count) → AreItems names (words bytes) counts → ⊥

-- no letters of the bytes are a bad name
abbrev pub HasNoBadName : (TimeUnit → List (List ℕ)) → List ℕ → Type 0
HasNoBadName names bytes = (start end : ℕ) → IsBadName names bytes start end → ⊥

-- why bytes from a place of the text on are no items
abbrev pub IsMisread : (TimeUnit → List (List ℕ)) → ℕ → List ℕ → Misread → Type 0
IsMisread names at bytes misread.NoItems = verdict names [] 0 (words bytes) ≡ Unspelled
IsMisread names at bytes (misread.BadName start end) =
    (s : ℕ) × (e : ℕ) × IsBadName names bytes s e × (start ≡ at + s) × (end ≡ at + e)

-- the answer to the counts of the items that the bytes are, turned or not
abbrev pub AnswersItems : (TimeUnit → List (List ℕ)) → Bool → List ℕ → Result Interval ParseError → Type 0
AnswersItems names turned bytes answer =
    (counts : List Count) × AreItems names (words bytes) counts
    × AnswersCounts (turned_counts turned counts) answer

-- why bytes from a place of the text on denote no interval; this is said of those that are no items
abbrev pub RefusesItems : (TimeUnit → List (List ℕ)) → Bool → List ℕ → ℕ → List ℕ → ParseError → Type 0
RefusesItems names turned not_items at bytes (InvalidInterval m) =
    IsMisread names at bytes misread.NoItems × (m.now ≡ not_items)
RefusesItems names turned not_items at bytes (BadUnit start end) =
    IsMisread names at bytes (misread.BadName start end)
RefusesItems names turned not_items at bytes (InvalidYearMonth m) =
    AnswersItems names turned bytes (Err (InvalidYearMonth m))
RefusesItems names turned not_items at bytes (InvalidDay m) =
    AnswersItems names turned bytes (Err (InvalidDay m))
RefusesItems names turned not_items at bytes (InvalidTime m) =
    AnswersItems names turned bytes (Err (InvalidTime m))
