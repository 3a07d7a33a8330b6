-- What the writers put is the written text.
use Rattle.std.proofs.Common.{true≢false, ◌≡◌, ◌≢◌, ℕ, zero, suc, ◌+◌, ◌*◌, ◌/◌, ◌%◌, ◌^◌, ◌<◌, ◌≤◌, ◌==◌, Bool, true, false, not, ◌||◌}
use Rattle.std.proofs.Common.{nat_eq, List, [], ◌∷◌, ◌++◌, length, decimal, codes, refl, sym, ◌∙◌, ap, arith, append_assoc, append-nil}
use Rattle.std.proofs.Common.{if◌then◌else◌}
use Rattle.std.specs.List.{join_with_byte}
use Rattle.std.proofs.lemmas.Bool.{ne_eqb}
use Rattle.std.proofs.lemmas.Nat.{div-add-mod'}
use Rattle.std.specs.Prelude.{⊤}
use Rattle.std.proofs.lemmas.Fmt.{length-decimal-le}
use Rattle.fancy_duration.specs.declared.part.DurationPart.{DurationPart}
use Rattle.fancy_duration.specs.declared.part.DurationPart.TheVariants.{Years, Months, Weeks, Days, Hours, Minutes, Seconds, Milliseconds}
use Rattle.fancy_duration.specs.declared.part.DurationPart.TheVariants.{Microseconds, Nanoseconds}
use Rattle.fancy_duration.specs.Parts.{all_parts, weight_of, unit_of}
use Rattle.fancy_duration.specs.Times.{nanos_of}
use Rattle.fancy_duration.specs.Written.{length_text, length_words}
use Rattle.fancy_duration.specs.inside.Writing.{count_behind, counts_behind, long_parts, short_parts, seconds_of}

-- counts are short
pub short_count : (n : ℕ) → n < 1_000 → length (decimal n) ≤ 3
short_count n h = length-decimal-le 3 n (omega arith) h (omega arith)

pub short_years : (n : ℕ) → n < 10 ^ 12 → length (decimal n) ≤ 12
short_years n h = length-decimal-le 12 n (omega arith) h (omega arith)

-- words, each behind a space
abbrev spaced : List (List ℕ) → List ℕ
spaced [] = []
spaced (word ∷ words) = 32 ∷ (word ++ spaced words)

joined : (word : List ℕ) (words : List (List ℕ)) → join_with_byte 32 (word ∷ words) ≡ word ++ spaced words
joined word [] = sym (append-nil word)
joined word (next ∷ words) = ap (λ (rest : List ℕ). word ++ (32 ∷ rest)) (joined next words)

-- the words behind a count, or behind none
abbrev behind : Bool → List (List ℕ) → List ℕ
behind true words = spaced words
behind false words = join_with_byte 32 words

none_more : (begun : Bool) (words : List (List ℕ)) → behind (begun || false) words ≡ behind begun words
none_more true words = refl
none_more false words = refl

some_more : (begun : Bool) (word : List ℕ) (words : List (List ℕ))
    → ((if begun then 32 ∷ [] else []) ++ word) ++ behind (begun || true) words ≡ behind begun (word ∷ words)
some_more true word words = refl
some_more false word words = sym (joined word words)

one_more : (begun : Bool) (n : ℕ) (part : DurationPart) (words : List (List ℕ))
    → count_behind begun n part ++ behind (begun || not (n == 0)) words
    ≡ behind begun ((if n == 0 then [] else ((decimal n ++ unit_of part) ∷ [])) ++ words)
unfolding count_behind
one_more begun n part words =
    elim (nat_eq n 0) as (λ t. nat_eq n 0 ≡ t → count_behind begun n part ++ behind (begun || not (n == 0)) words
    ≡ behind begun ((if n == 0 then [] else ((decimal n ++ unit_of part) ∷ [])) ++ words)) [
      | true ↦ λ e. simp e (none_more begun words)
      | false ↦ λ e. simp e (some_more begun (decimal n ++ unit_of part) words)
    ] refl

counts_are : (begun : Bool) (parts : List DurationPart) (left : ℕ)
    → counts_behind weight_of begun parts left ≡ behind begun (length_words parts left)
counts_are true [] left = refl
counts_are false [] left = refl
counts_are begun (part ∷ parts) left =
    let n = left / weight_of part in
    let rest = left % weight_of part in
    ap (λ (more : List ℕ). count_behind begun n part ++ more) (counts_are (begun || not (n == 0)) parts rest)
    ∙ one_more begun n part (length_words parts rest)

-- a length of whole seconds and nanoseconds below a second, by a part of whole seconds
cut : (part : DurationPart) (secs ns : ℕ) → weight_of part ≡ seconds_of part * 1_000_000_000 → ns < 1_000_000_000
    → ((secs * 1_000_000_000 + ns) / weight_of part ≡ secs / seconds_of part)
    × ((secs * 1_000_000_000 + ns) % weight_of part ≡ secs % seconds_of part * 1_000_000_000 + ns)
cut Years secs ns whole h = (omega arith, omega arith)
cut Months secs ns whole h = (omega arith, omega arith)
cut Weeks secs ns whole h = (omega arith, omega arith)
cut Days secs ns whole h = (omega arith, omega arith)
cut Hours secs ns whole h = (omega arith, omega arith)
cut Minutes secs ns whole h = (omega arith, omega arith)
cut Seconds secs ns whole h = (omega arith, omega arith)
cut Milliseconds secs ns whole h = absurd (omega (arith, whole))
cut Microseconds secs ns whole h = absurd (omega (arith, whole))
cut Nanoseconds secs ns whole h = absurd (omega (arith, whole))

-- what the parts leave of whole seconds, and whether a count stands behind them
abbrev seconds_after : List DurationPart → ℕ → ℕ
seconds_after [] secs = secs
seconds_after (part ∷ parts) secs = seconds_after parts (secs % seconds_of part)

abbrev begun_after : Bool → List DurationPart → ℕ → Bool
begun_after begun [] secs = begun
begun_after begun (part ∷ parts) secs = begun_after (begun || not (secs / seconds_of part == 0)) parts (secs % seconds_of part)

abbrev AreWhole : List DurationPart → Type 0
AreWhole [] = ⊤
AreWhole (part ∷ parts) = (weight_of part ≡ seconds_of part * 1_000_000_000) × AreWhole parts

in_seconds : (begun : Bool) (parts : List DurationPart) (secs ns : ℕ) → AreWhole parts → ns < 1_000_000_000
    → counts_behind weight_of begun (parts ++ short_parts) (secs * 1_000_000_000 + ns)
    ≡ counts_behind seconds_of begun parts secs ++ counts_behind weight_of (begun_after begun parts secs) short_parts
    (seconds_after parts secs * 1_000_000_000 + ns)
in_seconds begun [] secs ns whole h = refl
in_seconds begun (part ∷ parts) secs ns whole h =
    let n = secs / seconds_of part in
    let rest = secs % seconds_of part in
    let both = cut part secs ns whole.0 h in
    let first : counts_behind weight_of begun (part ∷ (parts ++ short_parts)) (secs * 1_000_000_000 + ns)
    ≡ count_behind begun n part ++ counts_behind weight_of (begun || not (n == 0)) (parts ++ short_parts) (rest * 1_000_000_000 + ns)
    = rw (both.0, both.1) refl in
    first
    ∙ ap (λ (more : List ℕ). count_behind begun n part ++ more) (in_seconds (begun || not (n == 0)) parts rest ns whole.1 h)
    ∙ sym (append_assoc (count_behind begun n part) (counts_behind seconds_of (begun || not (n == 0)) parts rest)
    (counts_behind weight_of (begun_after begun (part ∷ parts) secs) short_parts
    (seconds_after (part ∷ parts) secs * 1_000_000_000 + ns)))

not_none : (n : ℕ) → nat_eq (suc n) 0 ≡ false
not_none n = ne_eqb (suc n) 0 (λ e. omega (arith, e))

-- where no count stands behind the parts, they leave all
left_whole : (n d q : ℕ) → q ≡ n / d → q ≡ 0 → n % d ≡ n
left_whole n d q e none = omega (arith, div-add-mod' n d, ap (λ (k : ℕ). k * d) (sym e ∙ none))

none_begun : (parts : List DurationPart) (begun : Bool) (secs : ℕ) → begun_after begun parts secs ≡ false
    → (begun ≡ false) × (seconds_after parts secs ≡ secs)
none_begun [] begun secs e = (e, refl)
none_begun (part ∷ parts) begun secs e =
    let later = none_begun parts (begun || not (secs / seconds_of part == 0)) (secs % seconds_of part) e in
    let both = neither begun (secs / seconds_of part) later.0 in
    (both.0, later.1 ∙ left_whole secs (seconds_of part) (secs / seconds_of part) refl both.1)
  where
    neither : (begun : Bool) (n : ℕ) → (begun || not (n == 0)) ≡ false → (begun ≡ false) × (n ≡ 0)
    neither true n e = absurd (let h : true ≡ false = e in cc)
    neither false zero e = (refl, refl)
    neither false (suc n) e = absurd (true≢false (sym (ap not (not_none n)) ∙ e))

still_begun : (parts : List DurationPart) (secs : ℕ) → begun_after true parts secs ≡ true
still_begun [] secs = refl
still_begun (part ∷ parts) secs = still_begun parts (secs % seconds_of part)

begun_by_seconds : (secs : ℕ) (t : Bool) → begun_after false long_parts secs ≡ t → t ≡ not (secs == 0)
begun_by_seconds zero t e = sym e
begun_by_seconds (suc secs) true e = sym (ap not (not_none secs))
begun_by_seconds (suc secs) false e =
    let nothing : seconds_after long_parts (suc secs) ≡ 0 = omega arith in
    absurd (omega (arith, nothing, (none_begun long_parts false (suc secs) e).1))

-- the counts of whole seconds, then those below a second
pub pushed : (secs ns : ℕ) → ns < 1_000_000_000 → (nanos_of (secs, ns) ≢ 0)
    → counts_behind seconds_of false long_parts secs ++ counts_behind weight_of (not (secs == 0)) short_parts ns
    ≡ length_text (nanos_of (secs, ns))
unfolding length_text
pushed secs ns h some =
    let none_left : seconds_after long_parts secs * 1_000_000_000 + ns ≡ ns = omega arith in
    let e : nat_eq (nanos_of (secs, ns)) 0 ≡ false = ne_eqb (nanos_of (secs, ns)) 0 some in
    let whole : counts_behind weight_of false all_parts (secs * 1_000_000_000 + ns)
    ≡ join_with_byte 32 (length_words all_parts (secs * 1_000_000_000 + ns)) = counts_are false all_parts (secs * 1_000_000_000 + ns) in
    let split = in_seconds false long_parts secs ns (refl, (refl, (refl, (refl, (refl, (refl, (refl, tt))))))) h in
    let same = ap (λ (t : Bool). counts_behind seconds_of false long_parts secs
    ++ counts_behind weight_of t short_parts (seconds_after long_parts secs * 1_000_000_000 + ns))
    (begun_by_seconds secs (begun_after false long_parts secs) refl) in
    simp e (ap (λ (n : ℕ). counts_behind seconds_of false long_parts secs ++ counts_behind weight_of (not (secs == 0)) short_parts n)
    (sym none_left) ∙ sym same ∙ sym split ∙ whole)

pub pushed_nothing : (secs ns : ℕ) → secs ≡ 0 → ns ≡ 0 → codes "0" ≡ length_text (nanos_of (secs, ns))
unfolding length_text
pushed_nothing secs ns e f = rw (e, f) refl
