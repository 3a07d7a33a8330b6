-- What is read as a text in `sql_standard` style is one.
use Rattle.std.proofs.Common.{◌≡◌, ℕ, ◌==◌, cond, Bool, true, false, List, [], ◌∷◌, ◌++◌, Option, Some, None, option_map, refl, sym, ◌∙◌}
use Rattle.std.proofs.Common.{ap, subst, append_assoc, append-nil, inl, inr, codes, eqb-true}
use Rattle.std.proofs.lemmas.Bool.{ltb-true, leb-true}
use Rattle.std.proofs.lemmas.Option.{same_Some, cond_some, option_and_then_some}
use Rattle.scan_core.specs.Blanks.{EndsWord}
use Rattle.scan_core.specs.Digits.{AreSomeDigits}
use Rattle.pg_interval_2.specs.inside.ItemReading.{after_blanks}
use Rattle.pg_interval_2.specs.inside.Reading.{read_fraction}
use Rattle.pg_interval_2.specs.Sql.{IsSignOr}
use Rattle.pg_interval_2.specs.inside.SqlParts.{HasSeconds}
use Rattle.pg_interval_2.specs.inside.SqlReading.{SqlWord, YearMonth, Days, Time, seconds_counts, read_sign_or, read_field, short_seconds}
use Rattle.pg_interval_2.specs.inside.SqlReading.{read_seconds, read_perhaps_seconds, read_time, read_months, read_behind, closed_word}
use Rattle.pg_interval_2.specs.inside.SqlReading.{read_word}
use Rattle.pg_interval_2.proofs.ItemFacts.{ends_from}
use Rattle.scan_core.proofs.FrontFacts.{front_are_digits, front_and_after}
use Rattle.pg_interval_2.proofs.Numbers.{is_fraction, sign_if}
use Rattle.pg_interval_2.proofs.SqlSpelled.{governed}

-- ---- a sign and digits

sign_stands : (default : Bool) (bytes : List ℕ)
    → (sign : List ℕ) × IsSignOr default (read_sign_or default bytes).0 sign × (bytes ≡ sign ++ (read_sign_or default bytes).1)
sign_stands default [] = ([], governed default, refl)
sign_stands default (b ∷ bs) = sign_if (IsSignOr default) (b == 45) (b == 43) default b bs (inl refl) (λ h. inl refl) (governed default)
    (eqb-true b 45) (eqb-true b 43)

field_stands : (bytes : List ℕ) (r : List ℕ × List ℕ) → read_field bytes ≡ Some r → AreSomeDigits r.0 × (bytes ≡ r.0 ++ r.1)
unfolding read_field
field_stands bytes r h =
    let found = cond_some _ _ _ h in
    subst (λ (p : List ℕ × List ℕ). AreSomeDigits p.0 × (bytes ≡ p.0 ++ p.1)) found.1
    ((ltb-true 0 _ found.0, front_are_digits bytes), sym (front_and_after bytes))

-- ---- seconds

mapped_some : {A B P : Type 0} (f : A → B) (o : Option A) (y : B) → option_map f o ≡ Some y → ((x : A) → o ≡ Some x → f x ≡ y → P) → P
mapped_some f None y h k = cc
mapped_some f (Some x) y h k = k x refl (same_Some _ _ h)

-- seconds stand in front, or nothing
abbrev SecondsStand : Bool → List ℕ → Option (List ℕ × List ℕ) × List ℕ → Type 0
SecondsStand negative bytes r = (piece : List ℕ) × HasSeconds negative piece (seconds_counts negative r.0) × (bytes ≡ piece ++ r.1)

short_stand : (negative : Bool) (bs : List ℕ) (field : List ℕ × List ℕ) (r : (List ℕ × List ℕ) × List ℕ) → AreSomeDigits field.0
    → bs ≡ field.0 ++ field.1 → short_seconds field.0 (read_fraction field.1) ≡ Some r
    → SecondsStand negative (58 ∷ bs) (Some r.0, r.1)
short_stand negative bs field r digits split h =
    let found = cond_some _ _ _ h in
    let point = is_fraction field.1 in
    let fraction = read_fraction field.1 in
    subst (λ (q : (List ℕ × List ℕ) × List ℕ). SecondsStand negative (58 ∷ bs) (Some q.0, q.1)) found.1 (
      codes ":" ++ (field.0 ++ point.0),
      inr (record {
        seconds = field.0;
        fraction = fraction.0;
        tail = point.0;
        second_field = digits;
        point = point.1;
        short = leb-true _ 6 found.0;
        joined = refl;
        counted = refl;
      }),
      ap (λ (l : List ℕ). 58 ∷ l) (split ∙ ap (λ (l : List ℕ). field.0 ++ l) point.2 ∙ sym (append_assoc field.0 point.0 fraction.1)),
    )

colon_stands : (negative : Bool) (bs : List ℕ) (r : (List ℕ × List ℕ) × List ℕ) → read_seconds bs ≡ Some r
    → SecondsStand negative (58 ∷ bs) (Some r.0, r.1)
unfolding read_seconds
colon_stands negative bs r h =
    option_and_then_some _ (read_field bs) r h (λ field read last. let stands = field_stands bs field read in short_stand negative bs field
    r stands.0 stands.1 last)

seconds_if : (t negative : Bool) (b : ℕ) (bs : List ℕ) (r : Option (List ℕ × List ℕ) × List ℕ) → (t ≡ true → b ≡ 58)
    → cond t (option_map (λ r. (Some r.0, r.1)) (read_seconds bs)) (Some (None, b ∷ bs)) ≡ Some r → SecondsStand negative (b ∷ bs) r
seconds_if true negative b bs r colon h =
    let here = colon refl in
    mapped_some _ (read_seconds bs) r h (λ q read same. subst (λ (c : ℕ). SecondsStand negative (c ∷ bs) r) (sym here)
    (subst (SecondsStand negative (58 ∷ bs)) same (colon_stands negative bs q read)))
seconds_if false negative b bs r colon h = subst (SecondsStand negative (b ∷ bs)) (same_Some _ _ h) ([], inl (refl, refl), refl)

seconds_stand : (negative : Bool) (bytes : List ℕ) (r : Option (List ℕ × List ℕ) × List ℕ) → read_perhaps_seconds bytes ≡ Some r
    → SecondsStand negative bytes r
seconds_stand negative [] r h = subst (SecondsStand negative []) (same_Some _ _ h) ([], inl (refl, refl), refl)
seconds_stand negative (b ∷ bs) r h = seconds_if (b == 58) negative b bs r (eqb-true b 58) h

-- ---- a word

abbrev pub negative_of : SqlWord → Bool
negative_of (YearMonth negative years months) = negative
negative_of (Days negative days) = negative
negative_of (Time negative hours minutes seconds) = negative

-- what stands behind a word's sign
abbrev pub IsBody : SqlWord → List ℕ → Type 0
IsBody (YearMonth negative years months) body = AreSomeDigits years × AreSomeDigits months × (body ≡ years ++ (codes "-" ++ months))
IsBody (Days negative days) body = AreSomeDigits days × (body ≡ days ++ [])
IsBody (Time negative hours minutes seconds) body =
    AreSomeDigits hours × AreSomeDigits minutes × ((piece : List ℕ) × HasSeconds negative piece (seconds_counts negative seconds)
    × (body ≡ hours ++ (codes ":" ++ (minutes ++ piece))))

-- first digits and what follows them are the body of a word and what follows it
abbrev BodyStands : Bool → List ℕ → SqlWord × List ℕ → Type 0
BodyStands negative bytes r = (body : List ℕ) × IsBody r.0 body × (negative_of r.0 ≡ negative) × (bytes ≡ body ++ r.1)

months_stand : (negative : Bool) (digits bs : List ℕ) (r : SqlWord × List ℕ) → AreSomeDigits digits
    → read_months negative digits bs ≡ Some r
    → BodyStands negative (digits ++ (codes "-" ++ bs)) r
unfolding read_months
months_stand negative digits bs r field h =
    mapped_some _ (read_field bs) r h (λ months read same.
    let stands = field_stands bs months read in
    subst (BodyStands negative (digits ++ (codes "-" ++ bs))) same (
      digits ++ (codes "-" ++ months.0),
      (field, stands.0, refl),
      refl,
      ap (λ (l : List ℕ). digits ++ (codes "-" ++ l)) stands.1 ∙ sym (append_assoc digits (codes "-" ++ months.0) months.1),
    ))

time_stands : (negative : Bool) (digits bs : List ℕ) (r : SqlWord × List ℕ) → AreSomeDigits digits → read_time negative digits bs ≡ Some r
    → BodyStands negative (digits ++ (codes ":" ++ bs)) r
unfolding read_time
time_stands negative digits bs r field h =
    option_and_then_some _ (read_field bs) r h (λ minutes read last.
    mapped_some _ (read_perhaps_seconds minutes.1) r last (λ seconds found same.
    let stands = field_stands bs minutes read in
    let behind = seconds_stand negative minutes.1 seconds found in
    subst (BodyStands negative (digits ++ (codes ":" ++ bs))) same (
      digits ++ (codes ":" ++ (minutes.0 ++ behind.0)),
      (field, stands.0, (behind.0, behind.1, refl)),
      refl,
      ap (λ (l : List ℕ). digits ++ (codes ":" ++ l)) (stands.1 ∙ ap (λ (l : List ℕ). minutes.0 ++ l) behind.2
          ∙ sym (append_assoc minutes.0 behind.0 seconds.1)) ∙ sym (append_assoc digits (codes ":" ++ (minutes.0 ++ behind.0)) seconds.1),
    )))

days_stand : (negative : Bool) (digits bytes : List ℕ) (r : SqlWord × List ℕ) → AreSomeDigits digits
    → Some (Days negative digits, bytes) ≡ Some r
    → BodyStands negative (digits ++ bytes) r
days_stand negative digits bytes r field h =
    subst (BodyStands negative (digits ++ bytes)) (same_Some _ _ h)
    (digits ++ [], (field, refl), refl, ap (λ (l : List ℕ). l ++ bytes) (sym (append-nil digits)))

behind_if : (t u negative : Bool) (digits : List ℕ) (b : ℕ) (bs : List ℕ) (r : SqlWord × List ℕ) → AreSomeDigits digits
    → (t ≡ true → b ≡ 45)
    → (u ≡ true → b ≡ 58)
    → cond t (read_months negative digits bs) (cond u (read_time negative digits bs) (Some (Days negative digits, b ∷ bs))) ≡ Some r
    → BodyStands negative (digits ++ (b ∷ bs)) r
behind_if true u negative digits b bs r field minus colon h = subst (λ (c : ℕ). BodyStands negative (digits ++ (c ∷ bs)) r)
    (sym (minus refl)) (months_stand negative digits bs r field h)
behind_if false true negative digits b bs r field minus colon h =
    subst (λ (c : ℕ). BodyStands negative (digits ++ (c ∷ bs)) r) (sym (colon refl)) (time_stands negative digits bs r field h)
behind_if false false negative digits b bs r field minus colon h = days_stand negative digits (b ∷ bs) r field h

behind_stands : (negative : Bool) (digits bytes : List ℕ) (r : SqlWord × List ℕ) → AreSomeDigits digits
    → read_behind negative digits bytes ≡ Some r
    → BodyStands negative (digits ++ bytes) r
behind_stands negative digits [] r field h = days_stand negative digits [] r field h
behind_stands negative digits (b ∷ bs) r field h = behind_if (b == 45) (b == 58) negative digits b bs r field (eqb-true b 45)
    (eqb-true b 58) h

-- a word stands in front, and blanks behind it
pub record StandsWord (default : Bool) (bytes : List ℕ) (r : SqlWord × List ℕ) : Type 0 where
  pub sign : List ℕ
  pub body : List ℕ
  pub after : List ℕ
  pub signed : IsSignOr default (negative_of r.0) sign
  pub is : IsBody r.0 body
  pub ends : EndsWord after
  pub split : bytes ≡ (sign ++ body) ++ after
  pub behind : after_blanks after ≡ r.1

pub word_stands : (default : Bool) (bytes : List ℕ) (r : SqlWord × List ℕ) → read_word default bytes ≡ Some r → StandsWord default bytes r
unfolding read_word
word_stands default bytes r h =
    let sign = sign_stands default bytes in
    let signed = read_sign_or default bytes in
    option_and_then_some closed_word _ r h (λ word read closed.
    option_and_then_some (λ f. read_behind signed.0 f.0 f.1) (read_field signed.1) word read (λ field first second.
    let digits = field_stands signed.1 field first in
    let body = behind_stands signed.0 field.0 field.1 word digits.0 second in
    let ended = cond_some _ _ _ closed in
    subst (StandsWord default bytes) ended.1 (record {
      sign = sign.0;
      body = body.0;
      after = word.1;
      signed = subst (λ (negative : Bool). IsSignOr default negative sign.0) (sym body.2) sign.1;
      is = body.1;
      ends = ends_from word.1 ended.0;
      split = sign.2 ∙ ap (λ (l : List ℕ). sign.0 ++ l) (digits.1 ∙ body.3) ∙ sym (append_assoc sign.0 body.0 word.1);
      behind = refl;
    })))
