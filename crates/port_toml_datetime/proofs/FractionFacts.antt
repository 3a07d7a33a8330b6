-- The first nine digits of a fraction, filled with zeros.
use Rattle.std.proofs.Common.{◌≡◌, ℕ, ◌+◌, ◌-◌, ◌*◌, ◌^◌, ◌<◌, ◌≤◌, inl, inr, min, true, List, [], ◌∷◌, ◌++◌, length, get_or, take, drop}
use Rattle.std.proofs.Common.{replicate, codes, append-nil, append_assoc, refl, sym, ap, subst, ◌∙◌, arith, length-append}
use Rattle.std.proofs.lemmas.Bool.{cases_lt}
use Rattle.std.proofs.lemmas.List.{length-replicate, length-take-le, take-append-le, take-replicate, take_all, take_more, drop_more}
use Rattle.std.proofs.Math.Nat.{pow-le-pow_right}
use Rattle.std.proofs.Math.Seq.{take-append-add}
use Rattle.std.specs.Char.{digit_value, is_ascii_digit}
use Rattle.scan_core.specs.Digits.{AreDigits, number_of}
use Rattle.scan_core.specs.Fronts.{front_digits, after_digits}
use Rattle.scan_core.proofs.DigitFacts.{digit_is_alone, digits-append, digits-take, digits-zeros, digits_left, number_of-append}
use Rattle.scan_core.proofs.DigitFacts.{number_of-cons, number_of-lt, number_of-zeros}
use Rattle.scan_core.proofs.FrontFacts.{front_are_digits}
use Rattle.port_toml_datetime.specs.Times.{nanoseconds}
use Rattle.port_toml_datetime.proofs.TokenFacts.{digit_is}

abbrev pub nine : List ℕ → List ℕ
nine ds = take 9 (ds ++ codes "000000000")

nine_length : (ds : List ℕ) → length (nine ds) ≡ 9
nine_length ds = let l : length (ds ++ codes "000000000") ≡ length ds + 9 = rw length-append refl in
    length-take-le 9 (ds ++ codes "000000000") (omega arith)

nine_digits : (ds : List ℕ) → AreDigits ds → AreDigits (nine ds)
nine_digits ds all = digits-take 9 (ds ++ codes "000000000") (digits-append ds (codes "000000000") all (digits-zeros 9))

pub nine_short : (ds : List ℕ) → AreDigits ds → nanoseconds ds < 10 ^ 9
unfolding nanoseconds
nine_short ds all = let l = nine_length ds in rw l at (number_of-lt (nine ds) (nine_digits ds all))

-- digits and zeros behind them
number_filled : (ds : List ℕ) (k : ℕ) → number_of (ds ++ replicate k 48) ≡ number_of ds * 10 ^ k
number_filled ds k =
    let zeros : number_of (replicate k 48) ≡ 0 = ap number_of (sym (append-nil (replicate k 48))) ∙ number_of-zeros k [] in
    let long = length-replicate {A = ℕ} k 48 in
    number_of-append ds (replicate k 48) ∙ rw (zeros, long) (omega arith)

-- all digits where they are nine or fewer, and else the first nine
nine_split : (ds : List ℕ) (len : ℕ) → len ≡ min (length ds) 9 → nine ds ≡ take len ds ++ replicate (9 - len) 48
nine_split ds len e =
    elim (cases_lt (length ds) 9) [
      | inl few ↦
          let all : len ≡ length ds = omega (arith, e, few) in
          let left : 9 ≡ length ds + (9 - length ds) = omega (arith, few) in
          let front : take (length ds + (9 - length ds)) (ds ++ replicate 9 48) ≡ ds
          ++ take (9 - length ds) (replicate 9 48) = take-append-add ds (replicate 9 48) (9 - length ds) in
          ap (λ (n : ℕ). take n (ds ++ replicate 9 48)) left ∙ front
          ∙ rw (take-replicate {X = ℕ} (9 - length ds) 9 48 (omega arith), all, take_all (length ds) ds (omega arith)) refl
      | inr many ↦
          let nine_of : len ≡ 9 = omega (arith, e, many) in
          rw nine_of (take-append-le 9 ds (replicate 9 48) many ∙ sym (append-nil (take 9 ds)))
    ]

pub scaled : (ds : List ℕ) (len : ℕ) → len ≡ min (length ds) 9 → number_of (take len ds) * 10 ^ (9 - len) ≡ nanoseconds ds
unfolding nanoseconds
scaled ds len e = sym (ap number_of (nine_split ds len e) ∙ number_filled (take len ds) (9 - len))

-- one digit more of at most nine in front
pub record IsOneMore (bytes : List ℕ) (len v d : ℕ) : Type 0 where
  pub front : front_digits bytes ≡ take (len + 1) bytes ++ front_digits (drop (len + 1) bytes)
  pub rest : after_digits (drop len bytes) ≡ after_digits (drop (len + 1) bytes)
  pub next : 10 * v + d ≡ number_of (take (len + 1) bytes)
  pub small : 10 * v + d < 10 ^ 9

pub one_more : (bytes : List ℕ) (len v d : ℕ) → front_digits bytes ≡ take len bytes ++ front_digits (drop len bytes) → len < length bytes
    → len < 9 → is_ascii_digit (get_or bytes len 0) ≡ true
    → v ≡ number_of (take len bytes) → d ≡ get_or bytes len 0 - 48 → IsOneMore bytes len v d
one_more bytes len v d front within few is e f =
    let b : ℕ = get_or bytes len 0 in
    let digit = digit_is b is in
    let here = digit_is_alone b digit in
    let split = drop_more bytes len 0 within in
    let more_front : front_digits (drop len bytes) ≡ (b ∷ []) ++ front_digits (drop (len + 1) bytes) = ap front_digits split ∙ rw is refl in
    let all : AreDigits (take len bytes) = digits_left (take len bytes) (front_digits (drop len bytes))
    (subst AreDigits front (front_are_digits bytes)) in
    let long = length-take-le len bytes (omega (arith, within)) in
    let one : number_of (b ∷ []) ≡ digit_value b = number_of-cons b [] ∙ omega arith in
    let taken = take_more bytes len 0 within in
    let more : number_of (take (len + 1) bytes) ≡ number_of (take len bytes) * 10 ^ 1 + number_of (b ∷ []) = ap number_of taken
    ∙ number_of-append (take len bytes) (b ∷ []) in
    let front_small : number_of (take len bytes) < 10 ^ len = rw long at (number_of-lt (take len bytes) all) in
    let most : len ≤ 8 = omega (arith, few) in
    let bound : 10 ^ len ≤ 10 ^ 8 = pow-le-pow_right {n = 10} (omega arith) most in
    record {
      front = front ∙ ap (λ (l : List ℕ). take len bytes ++ l) more_front
          ∙ sym (append_assoc (take len bytes) (b ∷ []) (front_digits (drop (len + 1) bytes)))
          ∙ ap (λ (l : List ℕ). l ++ front_digits (drop (len + 1) bytes)) (sym taken);
      rest = ap after_digits split ∙ rw is refl;
      next = omega (arith, more, one, here, e, f);
      small = omega (arith, e, f, here, digit, front_small, bound);
    }

-- nine digits in front, or all that there are
pub scaled_front : (bytes : List ℕ) (len value : ℕ) → len ≡ min (length (front_digits bytes)) 9
    → value ≡ number_of (take len (front_digits bytes)) → value * 10 ^ (9 - len) ≡ nanoseconds (front_digits bytes)
scaled_front bytes len value e f = rw f (scaled (front_digits bytes) len e)

pub front_short : (bytes : List ℕ) → nanoseconds (front_digits bytes) < 10 ^ 9
front_short bytes = nine_short (front_digits bytes) (front_are_digits bytes)
