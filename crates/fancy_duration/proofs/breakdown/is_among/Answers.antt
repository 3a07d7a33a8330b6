-- Answers to the goals of `breakdown::is_among`.
use Rattle.std.proofs.Common.{◌≡◌, refl, ◌∙◌, ap, nat_eq}
use denote.Enum.Declared.{tag_of}
use Rattle.std.specs.List.{list_any}
use Rattle.fancy_duration.specs.contracts.part.DurationPart.{the_type}
use Rattle.fancy_duration.specs.contracts.part.DurationPartPartialEq.TheImpl.{ghosts}
use Rattle.fancy_duration.specs.declared.part.DurationPart.{DurationPart}
use Rattle.fancy_duration.specs.declared.part.DurationPart.TheVariants.{Years, Months, Weeks, Days, Hours, Minutes, Seconds, Milliseconds}
use Rattle.fancy_duration.specs.declared.part.DurationPart.TheVariants.{Microseconds, Nanoseconds}
use Rattle.fancy_duration.specs.Parts.{is_part, rank_of}
use Rattle.fancy_duration.proofs.breakdown.is_among.Goals as goal

-- the derived `==` compares the places of the variants
tag_of-rank : (part : DurationPart) → tag_of the_type part ≡ rank_of part
tag_of-rank Years = refl
tag_of-rank Months = refl
tag_of-rank Weeks = refl
tag_of-rank Days = refl
tag_of-rank Hours = refl
tag_of-rank Minutes = refl
tag_of-rank Seconds = refl
tag_of-rank Milliseconds = refl
tag_of-rank Microseconds = refl
tag_of-rank Nanoseconds = refl

same_tests : (a b : DurationPart) → ghosts.eq a b ≡ is_part a b
same_tests a b = ap (λ n. nat_eq n (tag_of the_type b)) (tag_of-rank a) ∙ ap (λ n. nat_eq (rank_of a) n) (tag_of-rank b)

pub returns : goal.returns
returns c = c.contains.ensures.value ∙ (λ i. list_any (λ other. same_tests other c.args.part i) c.args.parts.now)
