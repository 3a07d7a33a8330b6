-- The `postgres` style, PostgreSQL's own default (its manual, section 8.5.5, "Interval Output"): items with blanks between them,
-- each a number and the name of a unit, or a clock: `1 year 2 mons 3 days 04:05:06`. No unit is counted twice.
use Rattle.std.specs.Prelude.{◌≡◌, ◌≢◌, ◌⊎◌, ℕ, ◌+◌, ◌<◌, length, true, IsTrue, List, [], ◌∷◌, ◌++◌, All, AllPairs, Contains}
use Rattle.std.specs.List.{list_all}
use Rattle.std.specs.Char.{is_ascii_alphabetic}
use Rattle.scan_core.specs.Blanks.{is_blank, words, EndsWord, EndsInBlank}
use Rattle.scan_core.specs.Count.{Count}
use Rattle.scan_core.specs.Join.{IsJoin}
use Rattle.scan_core.specs.Number.{IsNumber}
use Rattle.scan_core.specs.declared.share.Unit.{Unit as TimeUnit}
use Rattle.pg_interval_2.specs.Clock.{IsClock}
use Rattle.pg_interval_2.specs.UnitNames.{postgres_names}

-- a number and the name of its unit, as two words or glued into one
pub record IsNamed (names : TimeUnit → List (List ℕ)) (item : List (List ℕ)) (c : Count)
    : Type 0 where
  pub number : List ℕ
  pub name : List ℕ
  pub digits : IsNumber true c.negative c.whole c.fraction number
  pub unit : Contains (names c.unit) name
  pub spelled : (item ≡ number ∷ name ∷ []) ⊎ (item ≡ (number ++ name) ∷ [])

-- an item: one count with its unit's name, or a clock
abbrev pub IsItem : (TimeUnit → List (List ℕ)) → List (List ℕ) → List Count → Type 0
IsItem names item counts =
    ((c : Count) × IsNamed names item c × (counts ≡ c ∷ []))
    ⊎ ((word : List ℕ) × IsClock word counts × (item ≡ word ∷ []))

-- the counts of all items, in order
abbrev pub all_counts : List (List Count) → List Count
all_counts [] = []
all_counts (counts ∷ more) = counts ++ all_counts more

-- the words are items, one after the other, with these counts and no unit twice
abbrev pub AreItems : (TimeUnit → List (List ℕ)) → List (List ℕ) → List Count → Type 0
AreItems names all counts =
    (items : List (List Count)) × IsJoin (IsItem names) all items × (counts ≡ all_counts items)
    × AllPairs (λ c d. c.unit ≢ d.unit) counts

-- the letters are a unit's name that no count before has the unit of
abbrev pub IsFreshName : (TimeUnit → List (List ℕ)) → List Count → List ℕ → Type 0
IsFreshName names counts letters =
    (unit : TimeUnit) × Contains (names unit) letters × All (λ c. c.unit ≢ unit) counts

-- Letters of a text, from start to end, that name no unit or one that was counted before: they stand behind a number, with
-- blanks between or none, and before these stand items, in which no unit is counted twice.
pub record IsBadName (names : TimeUnit → List (List ℕ)) (text : List ℕ) (start end : ℕ)
    : Type 0 where
  pub lead : List ℕ
  pub number : List ℕ
  pub blanks : List ℕ
  pub letters : List ℕ
  pub after : List ℕ
  pub counts : List Count
  pub c : Count
  pub items : AreItems names (words lead) counts
  pub closed : EndsInBlank lead
  pub digits : IsNumber true c.negative c.whole c.fraction number
  pub blank : IsTrue (list_all is_blank blanks)
  pub some : 0 < length letters
  pub ascii : IsTrue (list_all is_ascii_alphabetic letters)
  pub ends : EndsWord after
  pub bad : ¬ (IsFreshName names counts letters)
  pub split : text ≡ lead ++ (number ++ (blanks ++ (letters ++ after)))
  pub starts : start ≡ length lead + (length number + length blanks)
  pub stops : end ≡ start + length letters

-- the same for the names of the `postgres` style
abbrev pub IsPostgresBadName : List ℕ → ℕ → ℕ → Type 0
IsPostgresBadName = IsBadName postgres_names
