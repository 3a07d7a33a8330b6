-- Letters packed into one number: names of few letters are told by it.
use Rattle.std.proofs.Common.{◌≡◌, ℕ, ◌+◌, ◌*◌, ◌^◌, ◌<◌, inl, inr, Bool, true, false, ◌&&◌, ◌||◌, ◌==◌, List, [], ◌∷◌, length, refl, sym}
use Rattle.std.proofs.Common.{◌∙◌, ap, ap₂, arith, eqb-true}
use Rattle.std.proofs.Math.Nat.{mul-le-mul_right, pow-le-pow_right}
use Rattle.std.proofs.lemmas.Bool.{cases_lt, and_parts, ltb-true, eq-eqb}
use Rattle.std.proofs.lemmas.Slice.Eq.{bytes_eq-Decides}
use Rattle.std.specs.Char.{is_ascii_alphabetic}
use Rattle.std.specs.List.{list_all}
use Rattle.std.specs.Prelude.{bytes_eq, nat_lt}
use Rattle.scan_core.specs.Runs.{Knows, packed, packed_behind}
use Rattle.scan_core.proofs.PackedFacts.{letter_bounds, packed-ge, packed-lt}
use Rattle.scan_core.specs.declared.share.Unit.{Unit as TimeUnit}
use Rattle.scan_core.specs.declared.share.Unit.TheVariants.{Year, Month, Week, Day, Hour, Minute, Second}
use Rattle.pg_interval_2.specs.inside.NameSets.{is_packed, names_in, unit_packed}
use Rattle.pg_interval_2.specs.inside.NamedUnits.{is_one_of, unit_named}
use Rattle.pg_interval_2.specs.declared.reading.unit_names.NameSet.{NameSet}
use Rattle.pg_interval_2.specs.declared.reading.unit_names.NameSet.TheVariants.{Postgres, Verbose}
use Rattle.pg_interval_2.proofs.ItemFacts.{AreLetters}

-- ---- how great packed letters are

longer : (xs ys : List ℕ) → AreLetters xs → AreLetters ys → length xs < length ys → packed xs < packed ys
longer xs [] all more less = absurd (omega arith)
longer xs (y ∷ ys) all more less =
    let split = and_parts (is_ascii_alphabetic y) (list_all is_ascii_alphabetic ys) more in
    let above = packed-ge (0 * 256 + y) ys in
    let below = packed-lt 0 xs all in
    let some = mul-le-mul_right (256 ^ length ys) (letter_bounds y split.0).0 in
    let power = pow-le-pow_right {n = 256} (omega arith) {i = length xs} {j = length ys} (omega arith) in
    omega (arith, above, below, some, power)

same_packed : (m n : ℕ) (xs ys : List ℕ) → length xs ≡ length ys → AreLetters xs → AreLetters ys → packed_behind m xs ≡ packed_behind n ys
    → (m ≡ n) × (xs ≡ ys)
same_packed m n [] [] long all more h = (h, refl)
same_packed m n [] (y ∷ ys) long all more h = absurd (omega arith)
same_packed m n (x ∷ xs) [] long all more h = absurd (omega arith)
same_packed m n (x ∷ xs) (y ∷ ys) long all more h =
    let first = and_parts (is_ascii_alphabetic x) (list_all is_ascii_alphabetic xs) all in
    let second = and_parts (is_ascii_alphabetic y) (list_all is_ascii_alphabetic ys) more in
    let below = same_packed (m * 256 + x) (n * 256 + y) xs ys (omega arith) first.1 second.1 h in
    let a = letter_bounds x first.0 in
    let b = letter_bounds y second.0 in
    let heads : x ≡ y = omega (arith, below.0, a.1, b.1) in
    let tails = below.1 in
    (omega (arith, below.0, a.1, b.1), cc)

-- letters are known by their packed number
one_word : (xs ys : List ℕ) → AreLetters xs → AreLetters ys → packed xs ≡ packed ys → xs ≡ ys
one_word xs ys all more h =
    elim (cases_lt (length xs) (length ys)) [
      | inl less ↦ absurd (let apart = longer xs ys all more less in omega (arith, apart, h))
      | inr no_less ↦
          elim (cases_lt (length ys) (length xs)) [
            | inl great ↦ absurd (let apart = longer ys xs more all great in omega (arith, apart, h))
            | inr no_greater ↦ (same_packed 0 0 xs ys (omega (arith, no_less, no_greater)) all more h).1
          ]
    ]

-- ---- names

-- few letters
abbrev pub is_short : List ℕ → Bool
is_short name = list_all is_ascii_alphabetic name && nat_lt (packed name) (2 ^ 56)

same_tests : (t u : Bool) → (t ≡ true → u ≡ true) → (u ≡ true → t ≡ true) → t ≡ u
same_tests true u f g = sym (f refl)
same_tests false true f g = g refl
same_tests false false f g = refl

-- a short name is told by the packed number
named_so : (letters name : List ℕ) (value : ℕ) → AreLetters letters → is_short name ≡ true → Knows (2 ^ 56) value (packed letters)
    → (value == packed name) ≡ bytes_eq letters name
named_so letters name value all short (inl known) =
    let split = and_parts (list_all is_ascii_alphabetic name) (nat_lt (packed name) (2 ^ 56)) short in
    same_tests (value == packed name) (bytes_eq letters name)
    (λ h. (bytes_eq-Decides letters name).1 (one_word letters name all split.0 (sym known ∙ eqb-true value (packed name) h)))
    (λ h. eq-eqb value (packed name) (known ∙ ap packed ((bytes_eq-Decides letters name).0 h)))
named_so letters name value all short (inr great) =
    let split = and_parts (list_all is_ascii_alphabetic name) (nat_lt (packed name) (2 ^ 56)) short in
    let small = ltb-true (packed name) (2 ^ 56) split.1 in
    same_tests (value == packed name) (bytes_eq letters name)
    (λ h. absurd (let same = eqb-true value (packed name) h in omega (arith, great.0, small, same)))
    (λ h. absurd (let same = ap packed ((bytes_eq-Decides letters name).0 h) in omega (arith, great.1, small, same)))

one_of_so : (names : List (List ℕ)) (letters : List ℕ) (value : ℕ) → AreLetters letters → list_all is_short names ≡ true
    → Knows (2 ^ 56) value (packed letters)
    → is_packed value names ≡ is_one_of names letters
one_of_so [] letters value all short known = refl
one_of_so (name ∷ names) letters value all short known =
    let split = and_parts (is_short name) (list_all is_short names) short in
    ap₂ (λ (a b : Bool). a || b) (named_so letters name value all split.0 known) (one_of_so names letters value all split.1 known)

-- every name of a set is short
shorts : (names : NameSet) (unit : TimeUnit) → list_all is_short (names_in names unit) ≡ true
shorts Postgres Year = refl
shorts Postgres Month = refl
shorts Postgres Week = refl
shorts Postgres Day = refl
shorts Postgres Hour = refl
shorts Postgres Minute = refl
shorts Postgres Second = refl
shorts Verbose Year = refl
shorts Verbose Month = refl
shorts Verbose Week = refl
shorts Verbose Day = refl
shorts Verbose Hour = refl
shorts Verbose Minute = refl
shorts Verbose Second = refl

-- the unit that a word names is told by its packed number
pub unit_so : (names : NameSet) (letters : List ℕ) (value : ℕ) → AreLetters letters → Knows (2 ^ 56) value (packed letters)
    → unit_packed (names_in names) value ≡ unit_named (names_in names) letters
unfolding unit_packed unit_named
unit_so names letters value all known =
    let year = one_of_so (names_in names Year) letters value all (shorts names Year) known in
    let month = one_of_so (names_in names Month) letters value all (shorts names Month) known in
    let day = one_of_so (names_in names Day) letters value all (shorts names Day) known in
    let hour = one_of_so (names_in names Hour) letters value all (shorts names Hour) known in
    let minute = one_of_so (names_in names Minute) letters value all (shorts names Minute) known in
    let second = one_of_so (names_in names Second) letters value all (shorts names Second) known in
    rw (year, month, day, hour, minute, second) refl
