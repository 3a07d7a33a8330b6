-- Answers to the goals of `asked::behind_forms`.
use Rattle.std.proofs.Common.{rules, ◌≡◌, ◌≤◌, ◌-◌, ℕ, length, drop, sym, subst, refl}
use Rattle.text_lines.specs.Asked.{BeginsPlace}
use Rattle.text_lines.specs.inside.Words.{IsPlaceText}
use Rattle.text_lines.specs.declared.place.Place.{Place}
use Rattle.text_lines.proofs.AskedWords.{lines_no_text, lines_not_nothing, text_not_nothing, one_place_text, place_begins, text_at_end}
use Rattle.text_lines.proofs.asked.behind_forms.Goals as goal

pub returns-in-Some-clause-lines : goal.returns-in-Some-clause-lines
returns-in-Some-clause-lines c = λ f t place. (
  λ same.
      let from : f ≡ c.args.from = cc in
      let to : t ≡ c.args.to = cc in
      let there : c.in-Some.place ≡ place = cc in
      (from, to, subst (λ (p : Place). IsPlaceText c.args.text.now p) there c.in-Some.ensures.found),
  λ is.
      let there : c.in-Some.place ≡ place = one_place_text c.args.text.now c.in-Some.place place c.in-Some.ensures.found is.2 in
      let from : f ≡ c.args.from = is.0 in
      let to : t ≡ c.args.to = is.1 in
      cc,
)

pub returns-then-not-begins_place-clause-text : goal.returns-then-not-begins_place-clause-text
returns-then-not-begins_place-clause-text c = λ f t start same.
    let from : f ≡ c.args.from = cc in
    let to : t ≡ c.args.to = cc in
    let there : length c.args.words.now - length c.args.text.now ≡ start = cc in
    let IsAt : ℕ → Type 0 = λ n. (n ≤ length c.args.words.now) × (c.args.text.now ≡ drop n c.args.words.now) in
    let at = subst IsAt there (text_at_end c.args.words.now c.args.text.now c.args.from c.args.to c.requires) in
    let free : BeginsPlace c.args.text.now → ⊥ = search rules in
    (from, to, at.0, at.1, free)

pub returns-then-not-begins_place-clause-lines : goal.returns-then-not-begins_place-clause-lines
returns-then-not-begins_place-clause-lines c = λ f t place. (
  λ same. absurd (lines_no_text f t c.args.from c.args.to place (length c.args.words.now - length c.args.text.now) (sym same)),
  λ is. let free : BeginsPlace c.args.text.now → ⊥ = search rules in absurd (free (place_begins c.args.text.now place is.2)),
)

pub returns-then-not-begins_place-clause-text_only : goal.returns-then-not-begins_place-clause-text_only
returns-then-not-begins_place-clause-text_only c = λ free. (
  length c.args.words.now - length c.args.text.now,
  refl,
  (text_at_end c.args.words.now c.args.text.now c.args.from c.args.to c.requires).1,
)

pub returns-then-not-begins_place-clause-nothing : goal.returns-then-not-begins_place-clause-nothing
returns-then-not-begins_place-clause-nothing c = (
  λ same. absurd (text_not_nothing c.args.from c.args.to (length c.args.words.now - length c.args.text.now) (sym same)),
  λ h. let free : BeginsPlace c.args.text.now → ⊥ = search rules in absurd (free h.0),
)

pub returns-in-Some-clause-text : goal.returns-in-Some-clause-text
returns-in-Some-clause-text c = λ f t start same. absurd (lines_no_text c.args.from c.args.to f t c.in-Some.place start same)

pub returns-in-Some-clause-text_only : goal.returns-in-Some-clause-text_only
returns-in-Some-clause-text_only c = λ free. absurd (free (place_begins c.args.text.now c.in-Some.place c.in-Some.ensures.found))

pub returns-in-Some-clause-nothing : goal.returns-in-Some-clause-nothing
returns-in-Some-clause-nothing c = (
  λ same. absurd (lines_not_nothing c.args.from c.args.to c.in-Some.place (sym same)),
  λ h. absurd (h.1 c.in-Some.place c.in-Some.ensures.found),
)

pub returns-in-None-clause-lines : goal.returns-in-None-clause-lines
returns-in-None-clause-lines c = λ f t place. (
  λ same. absurd (lines_not_nothing f t place same),
  λ is. absurd (c.in-None.ensures.none place is.2),
)

pub returns-in-None-clause-text : goal.returns-in-None-clause-text
returns-in-None-clause-text c = λ f t start same. absurd (text_not_nothing f t start same)
