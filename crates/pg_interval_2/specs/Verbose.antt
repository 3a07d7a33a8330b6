-- The `postgres_verbose` style (PostgreSQL's manual, section 8.5.5, "Interval Output"): `@`, items as in the `postgres` style or a
-- `0`, and perhaps `ago`, which turns each of their counts: `@ 1 year 2 mons -3 days 4 hours 5 mins 6 secs ago`.
use Rattle.std.specs.Prelude.{◌≡◌, ◌⊎◌, ℕ, ◌+◌, Bool, false, IsTrue, List, [], ◌∷◌, ◌++◌, length, codes, if◌then◌else◌}
use Rattle.std.specs.List.{list_all}
use Rattle.scan_core.specs.Blanks.{is_blank, words}
use Rattle.scan_core.specs.Count.{Count}
use Rattle.pg_interval_2.specs.Postgres.{AreItems, IsBadName}
use Rattle.pg_interval_2.specs.Turned.{turned_counts}
use Rattle.pg_interval_2.specs.UnitNames.{verbose_names}

-- the text is blanks, `@`, a body, `ago` or nothing, and blanks; each run of blanks may be empty
pub record IsFramed (text before body : List ℕ) (ago : Bool) : Type 0 where
  pub after : List ℕ
  pub blank_before : IsTrue (list_all is_blank before)
  pub blank_after : IsTrue (list_all is_blank after)
  pub joined : text ≡ before ++ (codes "@" ++ (body ++ ((if ago then codes "ago" else []) ++ after)))

-- The text is in `postgres_verbose` style and spells these counts: its body is `0`, which spells none, or items, whose counts `ago`
-- turns. Blanks stand around the body's words or not.
pub record IsVerbose (text : List ℕ) (counts : List Count) : Type 0 where
  pub before : List ℕ
  pub body : List ℕ
  pub ago : Bool
  pub body_counts : List Count
  pub framed : IsFramed text before body ago
  pub spelled : ((words body ≡ codes "0" ∷ []) × (body_counts ≡ []))
      ⊎ AreItems verbose_names (words body) body_counts
  pub counted : counts ≡ turned_counts ago body_counts

-- the text ends in `ago`, with blanks behind it or none
abbrev pub EndsInAgo : List ℕ → Type 0
EndsInAgo text =
    (front : List ℕ) × (after : List ℕ) × IsTrue (list_all is_blank after)
    × (text ≡ front ++ (codes "ago" ++ after))

-- Letters of a text, from start to end, that are a bad name of its body, which is what stands between the `@` and an `ago` at the
-- end where there is one: of `@ 1 dago` they are the `d`.
pub record IsVerboseBadName (text : List ℕ) (start end : ℕ) : Type 0 where
  pub before : List ℕ
  pub body : List ℕ
  pub ago : Bool
  pub from : ℕ
  pub to : ℕ
  pub framed : IsFramed text before body ago
  pub whole : ago ≡ false → EndsInAgo text → ⊥
  pub bad : IsBadName verbose_names body from to
  pub starts : start ≡ length before + 1 + from
  pub stops : end ≡ length before + 1 + to
