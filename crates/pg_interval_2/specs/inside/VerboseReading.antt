-- What the reader of `postgres_verbose` texts answers: cited by private contracts alone.
use Rattle.std.specs.Prelude.{◌≡◌, ℕ, ◌+◌, Bool, true, false, not, IsTrue, List, [], ◌∷◌, ◌++◌, length, take, codes, Result, Err}
use Rattle.std.specs.List.{list_all}
use Rattle.scan_core.specs.Blanks.{is_blank, words}
use Rattle.scan_core.specs.Count.{Count}
use Rattle.pg_interval_2.specs.declared.error.ParseError.{ParseError}
use Rattle.pg_interval_2.specs.declared.error.ParseError.TheVariants.{InvalidInterval, BadUnit, InvalidYearMonth, InvalidDay, InvalidTime}
use Rattle.pg_interval_2.specs.declared.interval.Interval.{Interval}
use Rattle.pg_interval_2.specs.declared.reading.items.Misread.{Misread}
use Rattle.pg_interval_2.specs.declared.reading.items.Misread.TheVariants as misread
use Rattle.pg_interval_2.specs.Messages.{not_verbose}
use Rattle.pg_interval_2.specs.Postgres.{IsBadName}
use Rattle.pg_interval_2.specs.Turned.{turned_counts}
use Rattle.pg_interval_2.specs.UnitNames.{verbose_names}
use Rattle.pg_interval_2.specs.Verbose.{EndsInAgo}
use Rattle.pg_interval_2.specs.inside.VerboseParts.{ago_or_none, IsBody}
use Rattle.pg_interval_2.specs.inside.ItemReading.{verdict, Unspelled}
use Rattle.pg_interval_2.specs.inside.Tallies.{AnswersCounts}

-- the last byte isn't blank, where there is one, and else this holds
abbrev pub solid_behind : Bool → List ℕ → Bool
solid_behind t [] = t
solid_behind t (b ∷ bs) = solid_behind (not (is_blank b)) bs

-- no blank is at the end
abbrev pub ends_solid : List ℕ → Bool
ends_solid text = solid_behind true text

-- between two places of a text stand blanks alone
pub record AreBlanksBetween (text : List ℕ) (last end : ℕ) : Type 0 where
  pub blanks : List ℕ
  pub blank : IsTrue (list_all is_blank blanks)
  pub split : take end text ≡ take last text ++ blanks

-- the body of a text ends there, without blanks at its end, and behind it and blanks stands `ago` or nothing, and blanks
pub record IsEnding (text : List ℕ) (end : ℕ) (ago : Bool) : Type 0 where
  pub gap : List ℕ
  pub after : List ℕ
  pub blank_gap : IsTrue (list_all is_blank gap)
  pub blank_after : IsTrue (list_all is_blank after)
  pub split : text ≡ take end text ++ (gap ++ (ago_or_none ago ++ after))
  pub whole : ago ≡ false → EndsInAgo text → ⊥

-- the front of a text is blanks, an `@` and these bytes
pub record IsBehindAt (front before bytes : List ℕ) : Type 0 where
  pub blank : IsTrue (list_all is_blank before)
  pub split : front ≡ before ++ (64 ∷ bytes)

-- the answer to the counts of the body behind the `@`, turned or not
abbrev pub AnswersFront : List ℕ → Bool → Result Interval ParseError → Type 0
AnswersFront front ago answer =
    (before : List ℕ) × (bytes : List ℕ) × (counts : List Count) × IsBehindAt front before bytes
    × IsBody bytes counts × AnswersCounts (turned_counts ago counts) answer

-- why there is no body behind an `@`
abbrev pub IsFrontMisread : List ℕ → Misread → Type 0
IsFrontMisread front misread.NoItems =
    (before bytes : List ℕ) → IsBehindAt front before bytes
    → (verdict verbose_names [] 0 (words bytes) ≡ Unspelled) × (words bytes ≡ codes "0" ∷ [] → ⊥)
IsFrontMisread front (misread.BadName start end) =
    (before : List ℕ) × (bytes : List ℕ) × (from : ℕ) × (to : ℕ) × IsBehindAt front before bytes
    × IsBadName verbose_names bytes from to × (start ≡ length before + 1 + from)
    × (end ≡ length before + 1 + to)

-- why a front denotes no interval
abbrev pub RefusesFront : List ℕ → Bool → ParseError → Type 0
RefusesFront front ago (InvalidInterval m) =
    IsFrontMisread front misread.NoItems × (m.now ≡ not_verbose)
RefusesFront front ago (BadUnit start end) = IsFrontMisread front (misread.BadName start end)
RefusesFront front ago (InvalidYearMonth m) = AnswersFront front ago (Err (InvalidYearMonth m))
RefusesFront front ago (InvalidDay m) = AnswersFront front ago (Err (InvalidDay m))
RefusesFront front ago (InvalidTime m) = AnswersFront front ago (Err (InvalidTime m))
