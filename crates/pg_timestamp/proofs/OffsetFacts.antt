-- The places of an offset's parts in a text that it begins.
use Rattle.std.proofs.Common.{◌≡◌, ℕ, ◌+◌, ◌*◌, ◌==◌, ◌||◌, Bool, true, false, cond, List, [], ◌∷◌, ◌++◌, append_assoc, get_or, take, drop}
use Rattle.std.proofs.Common.{refl, sym, ◌∙◌, ap, subst, inl, inr, arith, Option, Some, None, IfNone}
use Rattle.std.specs.Prelude.{ℤ}
use Rattle.std.proofs.lemmas.List.{take-append-drop}
use Rattle.scan_core.specs.Fronts.{NoDigitFirst, BeginsWithout}
use Rattle.scan_core.specs.Shares.{signed}
use Rattle.pg_timestamp.specs.Pieces.{IsMarkedPair}
use Rattle.pg_timestamp.specs.Timestamps.{IsMore, IsZoneOffset, IsPerhapsOffset, sign_of}
use Rattle.pg_timestamp.specs.inside.Places.{has_first, has_sign, is_point, more_front, after_more, IsOffsetAt, after_offset}
use Rattle.pg_timestamp.specs.inside.Places.{IsPerhapsOffsetAt, after_perhaps, EndsTime}
use Rattle.pg_timestamp.proofs.PieceFacts.{first_is, front_three, one_number}

-- ---- a further field

more_found : (piece rest : List ℕ) (n : ℕ) → IsMore piece n → (piece ≡ [] → has_first 58 rest ≡ false)
    → (more_front (piece ++ rest) ≡ piece) × (after_more (piece ++ rest) ≡ rest)
more_found piece rest n (inl h) e = let is = h.0 in let none = e is in rw (is, none) (refl, refl)
more_found piece rest n (inr (p, f, j)) e =
    let first : has_first 58 (piece ++ rest) ≡ true = rw j refl in
    rw first (front_three 58 0 59 piece rest n (p, f, j))

more_if : (t : Bool) (text : List ℕ) → cond t (take 3 text) [] ++ cond t (drop 3 text) text ≡ text
more_if true text = take-append-drop 3 text
more_if false text = refl

more_and_after : (text : List ℕ) → more_front text ++ after_more text ≡ text
more_and_after text = more_if (has_first 58 text) text

order_by : (t : Bool) (b : ℕ) (bs : List ℕ) → has_first 58 (b ∷ bs) ≡ t → cond t (take 3 (b ∷ bs)) [] ≡ []
    → more_front (cond t (drop 3 (b ∷ bs)) (b ∷ bs)) ≡ []
order_by true b bs s h = absurd cc
order_by false b bs s h = rw s refl

order_is : (text : List ℕ) → more_front text ≡ [] → more_front (after_more text) ≡ []
order_is [] h = refl
order_is (b ∷ bs) h = order_by (b == 58) b bs refl h

one_more : (piece : List ℕ) (m n : ℕ) → IsMore piece m → IsMore piece n → m ≡ n
one_more piece m n (inl h) (inl k) = h.1 ∙ sym k.1
one_more piece m n (inl h) (inr (q, g, k)) = absurd (let e = sym h.0 ∙ k in cc)
one_more piece m n (inr (p, f, j)) (inl k) = absurd (let e = sym k.0 ∙ j in cc)
one_more piece m n (inr p) (inr q) = one_number 58 58 0 59 piece m n p q

-- where there is no colon, no digits follow
pub no_more : (text : List ℕ) (n : ℕ) → has_first 58 text ≡ true → IsMore (more_front text) n → IsMarkedPair 58 0 59 (take 3 text) n
no_more [] n h m = absurd cc
no_more (b ∷ bs) n h (inl k) = absurd (let e : cond (has_first 58 (b ∷ bs)) (take 3 (b ∷ bs)) [] ≡ [] = k.0 in let f = rw h at e in cc)
no_more (b ∷ bs) n h (inr m) = rw h at m

pub none_more : {A : Type 0} (found : Option A) (text : List ℕ) → has_first 58 text ≡ true
    → IfNone found ((n : ℕ) → IsMarkedPair 58 0 59 (take 3 text) n → ⊥)
    → IfNone found ((n : ℕ) → IsMore (more_front text) n → ⊥)
none_more (Some x) text h e = tt
none_more None text h e = λ n m. e n (no_more text n h m)

-- ---- an offset

offset_found : (text rest : List ℕ) (seconds : ℤ) → IsZoneOffset text seconds → has_first 58 rest ≡ false
    → IsOffsetAt (text ++ rest) seconds × (after_offset (text ++ rest) ≡ rest)
offset_found text rest seconds o none =
    let s : List ℕ = o.second_text ++ rest in
    let m : List ℕ = o.minute_text ++ s in
    let whole : text ++ rest ≡ o.hour_text ++ m =
    ap (λ (l : List ℕ). l ++ rest) o.joined ∙ append_assoc o.hour_text (o.minute_text ++ o.second_text) rest
    ∙ ap (λ (l : List ℕ). o.hour_text ++ l) (append_assoc o.minute_text o.second_text rest) in
    let hour = front_three (sign_of o.negative) 0 24 o.hour_text m o.hour o.hours in
    let minute = more_found o.minute_text s o.minute o.minutes (λ e. let f = o.order e in rw f none) in
    let second = more_found o.second_text rest o.second o.seconds_are (λ e. none) in
    let one : drop 3 (text ++ rest) ≡ m = ap (λ (l : List ℕ). drop 3 l) whole ∙ hour.1 in
    let two : after_more (drop 3 (text ++ rest)) ≡ s = ap after_more one ∙ minute.1 in
    let H : List ℕ → Type 0 = λ l. IsMarkedPair (sign_of o.negative) 0 24 l o.hour in
    let M : List ℕ → Type 0 = λ l. IsMore l o.minute in
    let S : List ℕ → Type 0 = λ l. IsMore l o.second in (
      record {
        negative = o.negative;
        hour = o.hour;
        minute = o.minute;
        second = o.second;
        hours = subst H (sym (ap (λ (l : List ℕ). take 3 l) whole ∙ hour.0)) o.hours;
        minutes = subst M (sym (ap more_front one ∙ minute.0)) o.minutes;
        seconds_are = subst S (sym (ap more_front two ∙ second.0)) o.seconds_are;
        value = o.value;
      },
      ap after_more two ∙ second.1,
    )

-- the front of a text that the parts make
offset_front : (text : List ℕ) (seconds : ℤ) → IsOffsetAt text seconds → (front : List ℕ) × IsZoneOffset front seconds
    × (text ≡ front ++ after_offset text)
offset_front text seconds p =
    let a : List ℕ = drop 3 text in
    let b : List ℕ = after_more a in
    let tail : List ℕ = more_front a ++ more_front b in
    let second : tail ++ after_more b ≡ a =
    append_assoc (more_front a) (more_front b) (after_more b) ∙ ap (λ (l : List ℕ). more_front a ++ l) (more_and_after b)
    ∙ more_and_after a in
    let first : (take 3 text ++ tail) ++ after_more b ≡ text =
    append_assoc (take 3 text) tail (after_more b) ∙ ap (λ (l : List ℕ). take 3 text ++ l) second ∙ take-append-drop 3 text in (
      take 3 text ++ tail,
      record {
        negative = p.negative;
        hour_text = take 3 text;
        minute_text = more_front a;
        second_text = more_front b;
        hour = p.hour;
        minute = p.minute;
        second = p.second;
        hours = p.hours;
        minutes = p.minutes;
        seconds_are = p.seconds_are;
        order = order_is a;
        joined = refl;
        value = p.value;
      },
      sym first,
    )

pub same_sign : (a b : Bool) (piece : List ℕ) (m n : ℕ) → IsMarkedPair (sign_of a) 0 24 piece m → IsMarkedPair (sign_of b) 0 24 piece n → a ≡ b
same_sign true true piece m n p q = refl
same_sign false false piece m n p q = refl
same_sign true false piece m n (p, f, j) (q, g, k) = absurd (let first = ap (λ (l : List ℕ). get_or l 0 0) (sym j ∙ k) in omega
    (arith, first))
same_sign false true piece m n (p, f, j) (q, g, k) = absurd (let first = ap (λ (l : List ℕ). get_or l 0 0) (sym j ∙ k) in omega
    (arith, first))

one_offset : (text : List ℕ) (s t : ℤ) → IsOffsetAt text s → IsOffsetAt text t → s ≡ t
one_offset text s t p q =
    let sign : p.negative ≡ q.negative = same_sign p.negative q.negative (take 3 text) p.hour q.hour p.hours q.hours in
    let hour : p.hour ≡ q.hour = one_number (sign_of p.negative) (sign_of q.negative) 0 24 (take 3 text) p.hour q.hour p.hours q.hours in
    let minute : p.minute ≡ q.minute = one_more _ p.minute q.minute p.minutes q.minutes in
    let second : p.second ≡ q.second = one_more _ p.second q.second p.seconds_are q.seconds_are in
    let value : signed p.negative ((p.hour * 60 + p.minute) * 60 + p.second)
    ≡ signed q.negative ((q.hour * 60 + q.minute) * 60 + q.second) =
    rw (sign, hour, minute, second) refl in
    p.value ∙ value ∙ sym q.value

-- ---- an offset, or nothing

or_true : (t : Bool) → (t || true) ≡ true
or_true true = refl
or_true false = refl

sign_of_first : (negative : Bool) (text : List ℕ) → has_first (sign_of negative) text ≡ true → has_sign text ≡ true
sign_of_first true text h = rw h refl
sign_of_first false text h = rw h (or_true (has_first 45 text))

pub sign_seen : (text : List ℕ) (seconds : ℤ) → IsOffsetAt text seconds → has_sign text ≡ true
sign_seen text seconds o = sign_of_first o.negative text (first_is (sign_of o.negative) 0 24 o.hour text o.hours)

pub perhaps_found : (text rest : List ℕ) (offset : Option ℤ) → IsPerhapsOffset text offset → EndsTime rest
    → IsPerhapsOffsetAt (text ++ rest) offset × (after_perhaps (text ++ rest) ≡ rest)
perhaps_found text rest None h e = let none = e.sign in rw (h, none) (refl, refl)
perhaps_found text rest (Some seconds) o e =
    let found = offset_found text rest seconds o e.colon in
    let sign = sign_seen (text ++ rest) seconds found.0 in
    (found.0, rw sign found.1)

pub perhaps_front : (text : List ℕ) (offset : Option ℤ) → IsPerhapsOffsetAt text offset
    → (front : List ℕ) × IsPerhapsOffset front offset × (text ≡ front ++ after_perhaps text)
perhaps_front text None h = ([], refl, rw h refl)
perhaps_front text (Some seconds) o =
    let front = offset_front text seconds o in
    let sign = sign_seen text seconds o in
    (front.0, front.1, rw sign front.2)

pub one_perhaps : (text : List ℕ) (a b : Option ℤ) → IsPerhapsOffsetAt text a → IsPerhapsOffsetAt text b → a ≡ b
one_perhaps text None None h k = refl
one_perhaps text None (Some t) h k = absurd (let s = sign_seen text t k in let e = sym h ∙ s in cc)
one_perhaps text (Some s) None h k = absurd (let t = sign_seen text s h in let e = sym k ∙ t in cc)
one_perhaps text (Some s) (Some t) h k = ap (λ (z : ℤ). Some z) (one_offset text s t h k)

-- no digit and no point is in front of an offset
sign_ends : (negative : Bool) (rest : List ℕ) → NoDigitFirst (sign_of negative ∷ rest) × BeginsWithout is_point (sign_of negative ∷ rest)
sign_ends true rest = (refl, refl)
sign_ends false rest = (refl, refl)

offset_ends : (text rest : List ℕ) (seconds : ℤ) → IsZoneOffset text seconds → NoDigitFirst (text ++ rest)
    × BeginsWithout is_point (text ++ rest)
offset_ends text rest seconds o =
    let mark = o.hours in
    let P : List ℕ → Type 0 = λ l. NoDigitFirst l × BeginsWithout is_point l in
    let whole : text ++ rest ≡ sign_of o.negative ∷ ((mark.0 ++ (o.minute_text ++ o.second_text)) ++ rest) =
    ap (λ (l : List ℕ). l ++ rest) (o.joined ∙ ap (λ (l : List ℕ). l ++ (o.minute_text ++ o.second_text)) mark.2) in
    subst P (sym whole) (sign_ends o.negative ((mark.0 ++ (o.minute_text ++ o.second_text)) ++ rest))

pub perhaps_ends : (text rest : List ℕ) (offset : Option ℤ) → IsPerhapsOffset text offset → EndsTime rest
    → NoDigitFirst (text ++ rest) × BeginsWithout is_point (text ++ rest)
perhaps_ends text rest None h e = rw h (e.digit, e.point)
perhaps_ends text rest (Some seconds) o e = offset_ends text rest seconds o

-- the sign that a reader sees is that of the offset
sign_by : (seen negative : Bool) (text : List ℕ) (n : ℕ) → seen ≡ has_first 45 text → IsMarkedPair (sign_of negative) 0 24 (take 3 text) n
    → seen ≡ negative
sign_by seen true text n s m = s ∙ first_is 45 0 24 n text m
sign_by seen false [] n s (p, f, j) = absurd cc
sign_by seen false (b ∷ bs) n s (p, f, j) = let same : b ≡ 43 = cc in s ∙ rw same refl

pub sign_is : (text : List ℕ) (seen : Bool) (seconds : ℤ) → seen ≡ has_first 45 text → (o : IsOffsetAt text seconds)
    → IsMarkedPair (sign_of seen) 0 24 (take 3 text) o.hour
sign_is text seen seconds s o = let same = sign_by seen o.negative text o.hour s o.hours in rw same o.hours
