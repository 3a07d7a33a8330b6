-- What answers lines with a text at a place, and how a line changes it.
use Rattle.std.specs.Prelude.{◌≡◌, ◌||◌, ℕ, Bool, false, List}
use Rattle.text_lines.specs.declared.place.Place.TheVariants.{Whole}
use Rattle.text_lines.specs.declared.texts.Texts.{Texts}
use Rattle.text_lines.specs.declared.columns.Columns.{Columns}
use Rattle.text_lines.specs.Outputs.{IsOutput}

-- no line after this one is the first, and a refusal is kept in mind
abbrev pub after_text : Texts → Bool → Texts
after_text s refused = record { from = s.from; to = s.to; first = false; refused = s.refused || refused }

-- a line, its output, and what answers the lines behind it: of a whole line's text
abbrev pub SaysText : Texts → List ℕ → List ℕ → Texts → Type 0
SaysText s line out t =
    (refused : Bool) × IsOutput s.from s.to Whole s.first line out refused × (t ≡ after_text s refused)

-- the same, of a text at a place of a line
abbrev pub after_column : Columns → Bool → Columns
after_column s refused = record {
  from = s.from;
  to = s.to;
  place = s.place;
  first = false;
  refused = s.refused || refused;
}

-- a line, its output, and what answers the lines behind it: of a text at a place of a line
abbrev pub SaysColumn : Columns → List ℕ → List ℕ → Columns → Type 0
SaysColumn s line out t =
    (refused : Bool) × IsOutput s.from s.to s.place s.first line out refused × (t ≡ after_column s refused)
