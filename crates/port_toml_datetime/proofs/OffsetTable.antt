-- The checks of an offset hold exactly for offsets.
use Rattle.std.proofs.Common.{◌≡◌, ℕ, ◌+◌, ◌*◌, ◌⊎◌, Bool, true, false, cond, List, [], ◌∷◌, ◌++◌, Option, Some, append-nil, codes, Result, Ok}
use Rattle.std.proofs.Common.{refl, sym, ◌∙◌, ap, subst, arith, inl, inr}
use Rattle.std.proofs.lemmas.Bool.Decides.{nat_tests}
use Rattle.scan_core.specs.Digits.{number_of}
use Rattle.port_toml_datetime.specs.declared.offset.Offset.{Offset}
use Rattle.port_toml_datetime.specs.declared.offset.Offset.TheVariants.{Z, Custom}
use Rattle.scan_core.specs.Number.{sign_text}
use Rattle.scan_core.specs.Shares.{signed}
use Rattle.port_toml_datetime.specs.Faults.{Fault}
use Rattle.port_toml_datetime.specs.Offsets.{IsNumericOffset}
use Rattle.port_toml_datetime.specs.inside.GrammarParts.{IsPerhapsOffset}
use Rattle.port_toml_datetime.specs.Tokens.{first_token, after_token, token, after, is_of, is_one_of}
use Rattle.port_toml_datetime.specs.Checks.{checked, numeric_offset_outcome, offset_outcome, end_row}
use Rattle.port_toml_datetime.proofs.TokenFacts.{run_sound}
use Rattle.port_toml_datetime.proofs.Marks.{mark_sound, end_sound, of_first}
use Rattle.port_toml_datetime.proofs.Rows.{same_ok, all_held, all_pass}
use Rattle.port_toml_datetime.proofs.FieldFacts.{is_length, two_made, field_run, field_last, most_of}

-- ---- behind the sign

abbrev IsSigned : Bool → List ℕ → Option Offset → Type 0
IsSigned negative text offset = (o : Offset) × IsNumericOffset (sign_text negative ++ text) o × (offset ≡ Some o)

numeric_offset_sound : (negative : Bool) (text : List ℕ) (offset : Option Offset) → numeric_offset_outcome negative text ≡ Ok offset
    → IsSigned negative text offset
unfolding numeric_offset_outcome
numeric_offset_sound negative text offset h =
    let held = all_held _ _ offset h in
    let a = held.all in
    let hour = run_sound text a.0 in
    let mark = mark_sound 58 (after_token text) refl refl a.1.0 in
    let minute = run_sound (after 2 text) a.1.1.0 in
    let w = a.1.1.1 in
    let last = end_sound (after 3 text) w.1.1.1.1.0 in
    let whole : after 2 text ≡ token 2 text = minute.joined ∙ ap (λ (l : List ℕ). token 2 text ++ l) last ∙ append-nil (token 2 text) in
    let split : text ≡ token 0 text ++ (58 ∷ token 2 text) = hour.joined
    ∙ ap (λ (l : List ℕ). token 0 text ++ l) (mark ∙ ap (λ (l : List ℕ). 58 ∷ l) whole) in
    subst (λ (o : Option Offset). IsSigned negative text o) (same_ok _ offset held.answered) (
      Custom (signed negative (60 * number_of (token 0 text) + number_of (token 2 text))),
      record {
        negative = negative;
        hour_text = token 0 text;
        minute_text = token 2 text;
        hour = number_of (token 0 text);
        minute = number_of (token 2 text);
        hours = two_made 23 (token 0 text) hour.digits w.0 w.1.1.0;
        minutes = two_made 59 (token 2 text) minute.digits w.1.0 w.1.1.1.0;
        joined = ap (λ (l : List ℕ). sign_text negative ++ l) split;
        value = refl;
      },
      refl,
    )

numeric_offset_exact : (text : List ℕ) (offset : Offset) (i : IsNumericOffset text offset)
    → numeric_offset_outcome i.negative (i.hour_text ++ (codes ":" ++ i.minute_text)) ≡ Ok (Some offset)
unfolding numeric_offset_outcome
numeric_offset_exact text offset i =
    let hour = field_run 2 0 23 i.hour_text (58 ∷ i.minute_text) i.hour i.hours (omega arith) refl in
    let minute = field_last 2 0 59 i.minute_text i.minute i.minutes (omega arith) in
    let second : after 2 (i.hour_text ++ (58 ∷ i.minute_text)) ≡ i.minute_text = ap after_token hour.follows in
    let third : after 3 (i.hour_text ++ (58 ∷ i.minute_text)) ≡ [] = ap after_token second ∙ minute.follows in
    all_pass _ _ (
      hour.is,
      (
        rw hour.follows refl,
        (
          rw second minute.is,
          (
            rw hour.first (is_length 2 i.hour_text i.hours.long),
            (
              rw (second, minute.first) (is_length 2 i.minute_text i.minutes.long),
              (
                rw hour.first (most_of 2 0 23 i.hour_text i.hour i.hours),
                (
                  rw (second, minute.first) (most_of 2 0 59 i.minute_text i.minute i.minutes),
                  (
                    rw third refl,
                    tt,
                  ),
                ),
              ),
            ),
          ),
        ),
      ),
    ) ∙ rw (hour.first, second, minute.first, i.value, i.hours.number, i.minutes.number) refl

-- ---- the whole offset

zulu : (b : ℕ) → is_one_of (codes "Zz+-") b ≡ true → is_one_of (codes "+-") b ≡ false → (b ≡ 90) ⊎ (b ≡ 122)
zulu b h k = grind (arith, nat_tests)

sign : (b : ℕ) → is_one_of (codes "+-") b ≡ true → (b ≡ 43) ⊎ (b ≡ 45)
sign b h = grind (arith, nat_tests)

-- the answer behind a byte that is a sign or isn't
abbrev outcome_if : Bool → ℕ → List ℕ → Result (Option Offset) Fault
outcome_if t b bs = cond {A = Result (Option Offset) Fault} t
    (numeric_offset_outcome (is_of (codes "-") (first_token (b ∷ bs))) (after_token (b ∷ bs)))
    (checked (end_row (after_token (b ∷ bs)) ∷ []) (Ok (Some Z)))

signed_is : (negative : Bool) (text : List ℕ) (offset : Option Offset) → IsSigned negative text offset
    → IsPerhapsOffset (sign_text negative ++ text) offset
signed_is negative text offset (o, is, e) = inr (o, inr is, e)

zulu_is : (b : ℕ) (bs : List ℕ) (offset : Option Offset) → (b ≡ 90) ⊎ (b ≡ 122) → bs ≡ [] → Some Z ≡ offset → IsPerhapsOffset (b ∷ bs) offset
zulu_is b bs offset (inl upper) last e = rw (upper, last) (inr (Z, inl (inl refl, refl), sym e))
zulu_is b bs offset (inr lower) last e = rw (lower, last) (inr (Z, inl (inr refl, refl), sym e))

behind_zulu : (b : ℕ) (bs : List ℕ) → (b ≡ 90) ⊎ (b ≡ 122) → after_token (b ∷ bs) ≡ bs
behind_zulu b bs (inl upper) = rw upper refl
behind_zulu b bs (inr lower) = rw lower refl

sign_if : (t : Bool) (b : ℕ) (bs : List ℕ) (offset : Option Offset) → is_one_of (codes "Zz+-") b ≡ true → is_one_of (codes "+-") b ≡ t
    → outcome_if t b bs ≡ Ok offset
    → IsPerhapsOffset (b ∷ bs) offset
sign_if true b bs offset h k a =
    elim (sign b k) [
      | inl plus ↦ let f = rw plus at a in rw plus (signed_is false bs offset (numeric_offset_sound false bs offset f))
      | inr minus ↦ let f = rw minus at a in rw minus (signed_is true bs offset (numeric_offset_sound true bs offset f))
    ]
sign_if false b bs offset h k a =
    let z = zulu b h k in
    let held = all_held (end_row (after_token (b ∷ bs)) ∷ []) _ offset a in
    let last = sym (behind_zulu b bs z) ∙ end_sound (after_token (b ∷ bs)) held.all.0 in
    zulu_is b bs offset z last (same_ok _ offset held.answered)

pub offset_sound : (text : List ℕ) (offset : Option Offset) → offset_outcome text ≡ Ok offset → IsPerhapsOffset text offset
unfolding offset_outcome
offset_sound [] offset h = let held = all_held _ _ offset h in inl (refl, sym (same_ok _ offset held.answered))
offset_sound (b ∷ bs) offset h =
    let held = all_held _ _ offset h in
    let some : is_one_of (codes "Zz+-") b ≡ true = sym (of_first (codes "Zz+-") b bs) ∙ held.all.0 in
    let is = of_first (codes "+-") b bs in
    let rest = rw is at held.answered in
    sign_if (is_one_of (codes "+-") b) b bs offset some refl rest

with_sign : (negative : Bool) (text : List ℕ) (answer : Result (Option Offset) Fault) → numeric_offset_outcome negative text ≡ answer
    → offset_outcome (sign_text negative ++ text) ≡ answer
unfolding offset_outcome checked
with_sign true text answer n = n
with_sign false text answer n = n

pub offset_exact : (text : List ℕ) (offset : Option Offset) → IsPerhapsOffset text offset → offset_outcome text ≡ Ok offset
unfolding offset_outcome checked
offset_exact text offset (inl none) = rw (none.0, none.1) refl
offset_exact text offset (inr (o, inl (inl upper, z), e)) = rw (upper, e, z) refl
offset_exact text offset (inr (o, inl (inr lower, z), e)) = rw (lower, e, z) refl
offset_exact text offset (inr (o, inr i, e)) = rw (e, i.joined)
    (with_sign i.negative (i.hour_text ++ (codes ":" ++ i.minute_text)) (Ok (Some o)) (numeric_offset_exact text o i))
