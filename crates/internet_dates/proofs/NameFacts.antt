-- Names are told by their three letters, and no two are the same.
use Rattle.std.proofs.Common.{◌≡◌, ℕ, zero, suc, ◌+◌, ◌-◌, ◌<◌, ◌≤◌, ◌&&◌, ◌==◌, Bool, true, false, cond, List, [], ◌∷◌, ◌++◌, length}
use Rattle.std.proofs.Common.{get_or, Some, refl, sym, ◌∙◌, ap, subst, inl, inr, arith}
use Rattle.std.specs.List.{list_all}
use Rattle.std.proofs.lemmas.Bool.{and_parts, eqb-true, cases_lt}
use Rattle.internet_dates.specs.Names.{day_names, month_names, IsDayName, IsMonthName}
use Rattle.internet_dates.specs.inside.Reading.{is_name, place_of, read_name, read_weekday, read_month}
use Rattle.internet_dates.proofs.Readers.{Sound, Exact, rest_parts, behind_sound, behind_exact}

-- ---- what is found is a name

abbrev is_three : List ℕ → Bool
is_three name = length name == 3

three_letters : (name : List ℕ) (a b c : ℕ) → is_three name ≡ true → is_name name a b c ≡ true → a ∷ b ∷ c ∷ [] ≡ name
three_letters [] a b c h t = absurd cc
three_letters (x ∷ []) a b c h t = absurd cc
three_letters (x ∷ y ∷ []) a b c h t = absurd cc
three_letters (x ∷ y ∷ z ∷ []) a b c h t =
    let parts = and_parts (a == x) ((b == y) && (c == z)) t in
    let more = and_parts (b == y) (c == z) parts.1 in
    rw (eqb-true a x parts.0, eqb-true b y more.0, eqb-true c z more.1) refl
three_letters (x ∷ y ∷ z ∷ w ∷ ws) a b c h t = let long = eqb-true (length (x ∷ y ∷ z ∷ w ∷ ws)) 3 h in absurd (omega (arith, long))

-- the place of three letters among names
pub record IsPlace (names : List (List ℕ)) (first a b c n : ℕ) : Type 0 where
  pub place : ℕ
  pub within : place < length names
  pub number : n ≡ first + place
  pub name : a ∷ b ∷ c ∷ [] ≡ get_or names place []

later : (name : List ℕ) (names : List (List ℕ)) (first a b c n : ℕ) → IsPlace names (suc first) a b c n
    → IsPlace (name ∷ names) first a b c n
later name names first a b c n p = let number = p.number in let within = p.within in
    record { place = suc p.place; within = omega (arith, within); number = omega (arith, number); name = p.name }

place_if : (t : Bool) (name : List ℕ) (names : List (List ℕ)) (first a b c n : ℕ) → is_name name a b c ≡ t → is_three name ≡ true
    → (place_of names (suc first) a b c ≡ Some n → IsPlace names (suc first) a b c n)
    → cond t (Some first) (place_of names (suc first) a b c) ≡ Some n → IsPlace (name ∷ names) first a b c n
place_if true name names first a b c n e h more found =
    let same : first ≡ n = cc in
    record { place = 0; within = omega arith; number = omega (arith, same); name = three_letters name a b c h e }
place_if false name names first a b c n e h more found = later name names first a b c n (more found)

place_sound : (names : List (List ℕ)) (first a b c n : ℕ) → list_all is_three names ≡ true → place_of names first a b c ≡ Some n
    → IsPlace names first a b c n
place_sound [] first a b c n all h = absurd cc
place_sound (name ∷ names) first a b c n all h =
    let parts = and_parts (is_three name) (list_all is_three names) all in
    place_if (is_name name a b c) name names first a b c n refl parts.0 (λ more. place_sound names (suc first) a b c n parts.1 more) h

abbrev pub IsNamed : List (List ℕ) → ℕ → List ℕ → ℕ → Type 0
IsNamed names first text n = (k : ℕ) × (k < length names) × (n ≡ first + k) × (text ≡ get_or names k [])

pub name_sound : (names : List (List ℕ)) (first : ℕ) → list_all is_three names ≡ true → Sound (IsNamed names first) (read_name names first)
name_sound names first all [] rest value h = absurd cc
name_sound names first all (a ∷ []) rest value h = absurd cc
name_sound names first all (a ∷ b ∷ []) rest value h = absurd cc
name_sound names first all (a ∷ b ∷ c ∷ bs) rest value h =
    let parts = rest_parts bs rest (place_of names first a b c) value h in
    let p = place_sound names first a b c value all parts.0 in
    (a ∷ b ∷ c ∷ [], (p.place, p.within, p.number, p.name), ap (λ (l : List ℕ). a ∷ b ∷ c ∷ l) parts.1)

-- ---- each name is found

abbrev pub AllBelow : (ℕ → Type 0) → ℕ → Type 0
AllBelow P zero = Unit {0}
AllBelow P (suc n) = P n × AllBelow P n

last_or_below : (n k : ℕ) → n < suc k → (k ≤ n → ⊥) → n < k
last_or_below n k h not = grind arith

pub below : (P : ℕ → Type 0) (k : ℕ) → AllBelow P k → (n : ℕ) → n < k → P n
below P zero all n h = absurd (omega (arith, h))
below P (suc k) all n h =
    elim (cases_lt n k) [
      | inl less ↦ below P k all.1 n less
      | inr least ↦ let same : k ≡ n = omega (arith, h, least) in subst P same all.0
    ]

abbrev IsFound : List (List ℕ) → ℕ → ℕ → Type 0
IsFound names first k = (rest : List ℕ) → read_name names first (get_or names k [] ++ rest) ≡ Some (first + k, rest)

days_found : AllBelow (IsFound day_names 0) 7
days_found = (λ r. refl, (λ r. refl, (λ r. refl, (λ r. refl, (λ r. refl, (λ r. refl, (λ r. refl, tt)))))))

months_found : AllBelow (IsFound month_names 1) 12
months_found = (
  λ r. refl,
  (
    λ r. refl,
    (
      λ r. refl,
      (
        λ r. refl,
        (
          λ r. refl,
          (λ r. refl, (λ r. refl, (λ r. refl, (λ r. refl, (λ r. refl, (λ r. refl, (λ r. refl, tt))))))),
        ),
      ),
    ),
  ),
)

pub weekday_exact : Exact IsDayName read_weekday
unfolding read_weekday
weekday_exact text rest value is = let same : 0 + value ≡ value = omega arith in
    rw is.1 (below (IsFound day_names 0) 7 days_found value is.0 rest ∙ ap (λ (n : ℕ). Some (n, rest)) same)

pub weekday_sound : Sound IsDayName read_weekday
unfolding read_weekday
weekday_sound bytes rest value h =
    let s = name_sound day_names 0 refl bytes rest value h in
    let n = s.1 in
    let number = n.2 in
    let same : value ≡ n.0 = omega (arith, number) in
    (s.0, (omega (arith, n.1, same), n.3 ∙ ap (λ (k : ℕ). get_or day_names k []) (sym same)), s.2)

month_at : Exact IsMonthName (read_name month_names 1)
month_at text rest value is =
    let k : ℕ = value - 1 in
    let some = is.0 in
    let most = is.1 in
    let back : 1 + k ≡ value = omega (arith, some) in
    let found = below (IsFound month_names 1) 12 months_found k (omega (arith, some, most)) rest in
    rw is.2 (found ∙ ap (λ (n : ℕ). Some (n, rest)) back)

month_from : Sound IsMonthName (read_name month_names 1)
month_from bytes rest value h =
    let s = name_sound month_names 1 refl bytes rest value h in
    let n = s.1 in
    let number = n.2 in
    let within = n.1 in
    let back : n.0 ≡ value - 1 = omega (arith, number) in
    (s.0, (omega (arith, number), omega (arith, number, within), n.3 ∙ ap (λ (k : ℕ). get_or month_names k []) back), s.2)

pub month_exact : (text rest : List ℕ) (value : ℕ) → IsMonthName text value → read_month (32 ∷ (text ++ rest)) ≡ Some (value, rest)
unfolding read_month
month_exact text rest value is = behind_exact 32 IsMonthName (read_name month_names 1) month_at text rest value is

pub month_sound : (bytes rest : List ℕ) (value : ℕ) → read_month bytes ≡ Some (value, rest)
    → (text : List ℕ) × IsMonthName text value × (bytes ≡ 32 ∷ (text ++ rest))
unfolding read_month
month_sound bytes rest value h = behind_sound 32 IsMonthName (read_name month_names 1) month_from bytes rest value h
