-- What a text denotes: the reader finds it, there is one, and no refusal then.
use Rattle.std.proofs.Common.{◌≡◌, ℕ, ◌≤◌, Bool, true, false, List, Option, Some, None, refl, sym, ◌∙◌, ap}
use Rattle.std.specs.Prelude.{option_map}
use Rattle.scan_core.specs.Count.{Count}
use Rattle.scan_core.specs.Sums.{fits}
use Rattle.scan_core.proofs.RoundingFacts.{rounded-le}
use Rattle.pg_interval_2.specs.Denotes.{Denotes, HasNoShape}
use Rattle.pg_interval_2.specs.declared.interval.Interval.{Interval}
use Rattle.xsd_duration.specs.Durations.{Spelling, SpellsDuration, counts_of}
use Rattle.xsd_duration.specs.Readings.{IsRefused}
use Rattle.xsd_duration.specs.declared.error.DurationError.{DurationError}
use Rattle.xsd_duration.specs.declared.error.DurationError.TheVariants.{Syntax, Range}
use Rattle.xsd_duration.specs.declared.reading.Numbers.{Numbers}
use Rattle.xsd_duration.specs.inside.Numbers.{interval_of, numbers_of, sums_within}
use Rattle.xsd_duration.specs.inside.Reading.{read_spelling}
use Rattle.xsd_duration.proofs.Counts.{same_some}
use Rattle.xsd_duration.proofs.Spellings.{spelling_exact, spelling_sound}
use Rattle.xsd_duration.proofs.SumFacts.{numbers_fit, numbers_misfit, numbers_sums, sums_of}

-- the reader finds a spelling of these counts
abbrev Finds : List ℕ → List Count → Type 0
Finds text counts = (v : Spelling) × (read_spelling text ≡ Some v) × (counts ≡ counts_of v)

finds : (text : List ℕ) (counts : List Count) → SpellsDuration text counts → Finds text counts
finds text counts h = (_, ap read_spelling h.2 ∙ spelling_exact h.0 h.1, h.3)

pub one_list : (text : List ℕ) (a b : List Count) → SpellsDuration text a → SpellsDuration text b → a ≡ b
one_list text a b p q =
    let v = finds text a p in
    let w = finds text b q in
    v.2 ∙ ap counts_of (same_some v.0 w.0 (sym v.1 ∙ w.1)) ∙ sym w.2

pub one_interval : (text : List ℕ) (a b : Interval) → Denotes SpellsDuration text a → Denotes SpellsDuration text b → a ≡ b
one_interval text a b p q = p.3 ∙ ap sums_of (one_list text p.0 q.0 p.1 q.1) ∙ sym q.3

never : {A : Type 0} (t : Bool) → t ≡ true → t ≡ false → A
never t p q = absurd (let e : true ≡ false = sym p ∙ q in cc)

pub one_refusal : (text : List ℕ) (a b : DurationError) → IsRefused text a → IsRefused text b → a ≡ b
one_refusal text Syntax Syntax p q = refl
one_refusal text Range Range p q = refl
one_refusal text Syntax Range p q = absurd (p q.0 q.1)
one_refusal text Range Syntax p q = absurd (q p.0 p.1)

pub no_refusal : (text : List ℕ) (t : Interval) (e : DurationError) → Denotes SpellsDuration text t → IsRefused text e → ⊥
no_refusal text t Syntax d r = r d.0 d.1
no_refusal text t Range d r =
    never (fits d.0) d.2 (ap fits (one_list text d.0 r.0 d.1 r.1) ∙ r.2)

-- ---- what the reader found

-- the numbers are those of a spelling of the text
abbrev Found : List ℕ → Numbers → Type 0
Found text numbers = (s : Spelling) × (read_spelling text ≡ Some s) × (numbers ≡ numbers_of s)

mapped : (o : Option Spelling) (numbers : Numbers) → Some numbers ≡ option_map numbers_of o
    → (s : Spelling) × (o ≡ Some s) × (numbers ≡ numbers_of s)
mapped None numbers h = cc
mapped (Some s) numbers h = (s, refl, same_some numbers (numbers_of s) h)

found : (text : List ℕ) (numbers : Numbers) → Some numbers ≡ option_map numbers_of (read_spelling text) → Found text numbers
found text numbers h = mapped (read_spelling text) numbers h

spelled_counts : (text : List ℕ) (s : Spelling) → read_spelling text ≡ Some s → SpellsDuration text (counts_of s)
spelled_counts text s h = let sound = spelling_sound text s h in (s, sound.0, sound.1, refl)

pub found_micros : (text : List ℕ) (numbers : Numbers) → Some numbers ≡ option_map numbers_of (read_spelling text)
    → numbers.clock.micros ≤ 1_000_000
found_micros text numbers h =
    let v = found text numbers h in
    rw v.2 (rounded-le 1_000_000 v.0.fraction (spelling_sound text v.0 v.1).0.fraction)

pub found_interval : (text : List ℕ) (numbers : Numbers) (t : Interval) → Some numbers ≡ option_map numbers_of (read_spelling text)
    → sums_within numbers ≡ true → t ≡ interval_of numbers → Denotes SpellsDuration text t
found_interval text numbers t h within is =
    let v = found text numbers h in
    let fit : sums_within (numbers_of v.0) ≡ true = ap sums_within (sym v.2) ∙ within in (
      counts_of v.0,
      spelled_counts text v.0 v.1,
      numbers_fit v.0 (spelling_sound text v.0 v.1).0 fit,
      is ∙ ap interval_of v.2 ∙ numbers_sums v.0 fit,
    )

pub found_range : (text : List ℕ) (numbers : Numbers) → Some numbers ≡ option_map numbers_of (read_spelling text)
    → (sums_within numbers ≡ true → ⊥) → IsRefused text Range
found_range text numbers h isnt =
    let v = found text numbers h in
    (counts_of v.0, spelled_counts text v.0 v.1, numbers_misfit v.0 (λ within. isnt (ap sums_within v.2 ∙ within)))

unmapped : (o : Option Spelling) (s : Spelling) → None ≡ option_map numbers_of o → o ≡ Some s → ⊥
unmapped None s h is = cc
unmapped (Some r) s h is = cc

pub found_none : (text : List ℕ) → None ≡ option_map numbers_of (read_spelling text) → HasNoShape SpellsDuration text
found_none text none counts h = let v = finds text counts h in unmapped (read_spelling text) v.0 none v.1
