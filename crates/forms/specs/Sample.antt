-- The command `sample`: its words, its lines, which ask for intervals that a generator draws, and the line that it writes of their
-- replies. The generator is linear congruential modulo 2^64, with the multiplier and increment of Knuth's MMIX (The Art of Computer
-- Programming, volume 2, section 3.3.4).
use Rattle.std.specs.Prelude.{◌≡◌, ◌≢◌, ℕ, zero, suc, ◌+◌, ◌*◌, ◌/◌, ◌%◌, ◌^◌, ◌≤◌, ◌==◌, nat_eq, Bool, pos, ◌-ℤ◌, List, [], ◌∷◌, ◌++◌}
use Rattle.std.specs.Prelude.{length, codes, decimal, Option, if◌then◌else◌}
use Rattle.std.specs.Io.KnownBytes.{Appends}
use Rattle.std.specs.List.{starts_with}
use Rattle.pg_interval_2.specs.declared.interval.Interval.{Interval}
use Rattle.pg_interval_2.specs.declared.style.Style.{Style}
use Rattle.pg_interval_2.specs.declared.style.Style.TheVariants as style
use Rattle.pg_interval_2.specs.Styles.{style_text}
use Rattle.forms.specs.declared.form.Form.{Form}
use Rattle.forms.specs.declared.form.Form.TheVariants.{PgIso, Postgres, PgVerbose, PgSql, IsoStrict}
use Rattle.forms.specs.declared.run_end.RunEnd.{RunEnd}
use Rattle.forms.specs.declared.run_end.RunEnd.TheVariants.{Done, WriteFault, NoMemory}
use Rattle.forms.specs.Ends.{status_of}
use Rattle.forms.specs.Lines.{whole_lines}
use Rattle.forms.specs.Names.{name_of}
use Rattle.forms.specs.Outside.{Rose, AppendsFront}
use Rattle.forms.specs.Replies.{AreReplies}

-- the words are `sample`, a space and a count from 1 to 100_000 in decimal, without sign or leading zero
abbrev pub IsSample : List ℕ → ℕ → Type 0
IsSample words count = (1 ≤ count) × (count ≤ 100_000) × (words ≡ codes "sample " ++ decimal count)

-- the words are some, and don't ask for a sample
abbrev pub AreUnknown : List ℕ → Type 0
AreUnknown words = (words ≢ []) × ((count : ℕ) → IsSample words count → ⊥)

-- ---- the lines

-- the number behind another one
abbrev pub drawn_after : ℕ → ℕ
drawn_after x = (x * 6_364_136_223_846_793_005 + 1_442_695_040_888_963_407) % 2 ^ 64

-- the numbers of the generator: 1, and each behind the one before
unfoldable pub drawn : ℕ → ℕ
drawn zero = 1
drawn (suc j) = drawn_after (drawn j)

-- the interval of three numbers: at most 200 years, 10_000 days and 2^39 microseconds, to either side
unfoldable pub interval_of_draws : ℕ → ℕ → ℕ → Interval
interval_of_draws a b c = record {
  months = pos (a / 2 ^ 33 % 4801) -ℤ pos 2400;
  days = pos (b / 2 ^ 33 % 20_001) -ℤ pos 10_000;
  microseconds = pos (c / 2 ^ 24) -ℤ pos 549_755_813_888;
}

-- the interval of a line, whose index is from 0 on: of three numbers of its own
abbrev pub sample_interval : ℕ → Interval
sample_interval index =
    interval_of_draws (drawn (3 * index + 1)) (drawn (3 * index + 2)) (drawn (3 * index + 3))

-- four styles in turn
abbrev pub style_at : ℕ → Style
style_at number =
    if number == 0 then style.Iso
    else if number == 1 then style.Postgres
    else if number == 2 then style.Verbose
    else style.Sql

-- the form of a style
abbrev pub form_of : Style → Form
form_of style.Iso = PgIso
form_of style.Postgres = Postgres
form_of style.Verbose = PgVerbose
form_of style.Sql = PgSql
form_of style.IsoStrict = IsoStrict

-- the style that a line is read in, which changes with each line
abbrev pub style_from : ℕ → Style
style_from index = style_at (index % 4)

-- the style that a line is answered in, which changes with each four lines
abbrev pub style_to : ℕ → Style
style_to index = style_at (index / 4 % 4)

-- each tenth line has an `x` behind its text, which then is in no style
unfoldable pub mark_of : ℕ → List ℕ
mark_of index = if index % 10 == 9 then codes "x" else []

-- a line: the names of two forms, and the text of its interval in the first
unfoldable pub line_of : ℕ → Interval → List ℕ
line_of index t =
    name_of (form_of (style_from index)) ++ (codes " "
    ++ (name_of (form_of (style_to index)) ++ (codes " "
    ++ (style_text (style_from index) t ++ mark_of index))))

-- the first lines, in order
abbrev pub sample_lines : ℕ → List (List ℕ)
sample_lines zero = []
sample_lines (suc index) = sample_lines index ++ line_of index (sample_interval index) ∷ []

-- ---- what is told of the replies

-- a refusal begins so
abbrev pub is_refusal : List ℕ → Bool
is_refusal reply = starts_with nat_eq reply (codes "refused ")

-- how many of the replies are refusals
abbrev pub refusals : List (List ℕ) → ℕ
refusals [] = 0
refusals (reply ∷ more) = (if is_refusal reply then 1 else 0) + refusals more

-- how many of the replies are no refusals
abbrev pub answers : List (List ℕ) → ℕ
answers [] = 0
answers (reply ∷ more) = (if is_refusal reply then 0 else 1) + answers more

-- counts of lines, of replies that are no refusals, of refusals, and of all bytes of the replies
unfoldable pub told : ℕ → ℕ → ℕ → ℕ → List ℕ
told lines ok refused bytes =
    codes "lines " ++ (decimal lines
    ++ (codes " ok " ++ (decimal ok
    ++ (codes " refused " ++ (decimal refused
    ++ (codes " bytes " ++ (decimal bytes ++ codes "\n")))))))

-- the line tells of the replies to so many lines
pub record TellsOfSample (count : ℕ) (line : List ℕ) : Type 0 where
  pub replies : List ℕ
  pub answered : AreReplies (sample_lines count) replies
  pub counted :
      line ≡ told count (answers (whole_lines replies)) (refusals (whole_lines replies))
      (length replies)

-- What stands at each end, of what a sink held and holds, and of how many writes had failed and have.
--   Done        the sink gained the line that tells of the replies
--   WriteFault  a write failed; the sink gained a front of that line
--   NoMemory    nothing was written
abbrev pub SampleStands : ℕ → Option (List ℕ) → Option (List ℕ) → ℕ → ℕ → RunEnd → Type 0
SampleStands count old new before now Done =
    (line : List ℕ) × TellsOfSample count line × Appends old new line
SampleStands count old new before now WriteFault =
    Rose before now × ((line : List ℕ) × TellsOfSample count line × AppendsFront old new line)
SampleStands count old new before now NoMemory = new ≡ old
SampleStands count old new before now _ = ⊥

-- a sample ended so, and this is its status
abbrev pub SampleEndedWith : ℕ → Option (List ℕ) → Option (List ℕ) → ℕ → ℕ → ℕ → Type 0
SampleEndedWith count old new before now status =
    (end : RunEnd) × SampleStands count old new before now end × (status ≡ status_of end)
