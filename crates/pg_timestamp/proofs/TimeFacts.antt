-- The places of a time's parts in a text that it begins.
use Rattle.std.proofs.Common.{◌≡◌, ℕ, ◌-◌, ◌*◌, ◌^◌, ◌<◌, ◌≤◌, ◌==◌, Bool, true, false, cond, List, [], ◌∷◌, ◌++◌, length, length-append}
use Rattle.std.proofs.Common.{append-nil, append_assoc, take, drop, replicate, refl, sym, ◌∙◌, ap, subst, inl, inr, arith, Option}
use Rattle.std.specs.Prelude.{ℤ}
use Rattle.std.proofs.Math.Nat.{pow-le-pow_right}
use Rattle.std.proofs.lemmas.Bool.{eqb-true}
use Rattle.std.proofs.lemmas.List.{take-append-drop}
use Rattle.scan_core.specs.Digits.{AreDigits, number_of}
use Rattle.scan_core.specs.Fronts.{front_digits, after_digits, NoDigitFirst, BeginsWithout}
use Rattle.scan_core.proofs.DigitFacts.{digits-append, digits-zeros, number_of-append, number_of-lt, number_of-zeros}
use Rattle.scan_core.proofs.FrontFacts.{front_of, after_of, front_are_digits, front_and_after}
use Rattle.scan_core.proofs.PaddedFacts.{length-zeros}
use Rattle.pg_timestamp.specs.Pieces.{IsMarkedPair}
use Rattle.pg_timestamp.specs.Timestamps.{IsMicrosFraction, IsTimeOfDay}
use Rattle.pg_timestamp.specs.declared.time.Time.{Time}
use Rattle.pg_timestamp.specs.inside.Places.{fraction_front, after_fraction, has_point, behind_point, AreTimeAt, after_time}
use Rattle.pg_timestamp.specs.inside.Places.{IsPerhapsOffsetAt, after_perhaps, is_point, EndsTime}
use Rattle.pg_timestamp.specs.inside.Micros.{AreMicros}
use Rattle.pg_timestamp.proofs.PieceFacts.{front_three, one_number}
use Rattle.pg_timestamp.proofs.OffsetFacts.{perhaps_found, perhaps_front, perhaps_ends, one_perhaps}

abbrev pub six : List ℕ → List ℕ
six digits = digits ++ replicate (6 - length digits) 48

pub scaled : (ds : List ℕ) → number_of ds * 10 ^ (6 - length ds) ≡ number_of (six ds)
scaled ds =
    let k : ℕ = 6 - length ds in
    let zeros : number_of (replicate k 48) ≡ 0 = ap number_of (sym (append-nil (replicate k 48))) ∙ number_of-zeros k [] in
    let long = length-zeros k in
    sym (number_of-append ds (replicate k 48) ∙ rw (zeros, long) (omega arith))

pub six_small : (ds : List ℕ) → AreDigits ds → length ds ≤ 6 → number_of (six ds) < 10 ^ 6
six_small ds digits short =
    let long : length (six ds) ≡ 6 = omega (arith, length-append ds (replicate (6 - length ds) 48), length-zeros (6 - length ds), short) in
    rw long at (number_of-lt (six ds) (digits-append ds (replicate (6 - length ds) 48) digits (digits-zeros (6 - length ds))))

pub six_digits_small : (ds : List ℕ) → AreDigits ds → length ds ≤ 6 → number_of ds < 10 ^ 6
six_digits_small ds d short =
    let bound : 10 ^ length ds ≤ 10 ^ 6 = pow-le-pow_right {n = 10} (omega arith) short in
    omega (arith, number_of-lt ds d, bound)

-- ---- a fraction

-- a point and digits behind it
pub fraction_made : (digits : List ℕ) (micros : ℕ) → AreDigits digits → (0 < length digits) × (length digits ≤ 6)
    → micros ≡ number_of (six digits)
    → IsMicrosFraction (46 ∷ digits) micros
fraction_made digits micros are bound value = inr (digits, bound, are, refl, value)

one_fraction : (text : List ℕ) (m n : ℕ) → IsMicrosFraction text m → IsMicrosFraction text n → m ≡ n
one_fraction text m n (inl h) (inl k) = h.1 ∙ sym k.1
one_fraction text m n (inl h) (inr (ds, bound, are, joined, value)) = absurd (let e = sym h.0 ∙ joined in cc)
one_fraction text m n (inr (ds, bound, are, joined, value)) (inl k) = absurd (let e = sym k.0 ∙ joined in cc)
one_fraction text m n (inr (ds, bound, are, joined, value)) (inr (es, limit, too, split, other)) =
    let same : ds ≡ es = cc in
    value ∙ ap (λ (l : List ℕ). number_of (six l)) same ∙ sym other

none_front : (rest : List ℕ) → BeginsWithout is_point rest → (fraction_front rest ≡ []) × (after_fraction rest ≡ rest)
none_front [] n = (refl, refl)
none_front (b ∷ bs) n = (rw n refl, rw n refl)

fraction_found : (text rest : List ℕ) (micros : ℕ) → IsMicrosFraction text micros → NoDigitFirst rest × BeginsWithout is_point rest
    → (fraction_front (text ++ rest) ≡ text) × (after_fraction (text ++ rest) ≡ rest)
fraction_found text rest micros (inl h) e = let none = none_front rest e.1 in let is = h.0 in rw is none
fraction_found text rest micros (inr (ds, bound, are, joined, value)) e =
    let front = front_of ds rest are e.0 in
    let after = after_of ds rest are e.0 in
    rw joined (ap (λ (l : List ℕ). 46 ∷ l) front, after)

front_if : (t : Bool) (b : ℕ) (bs : List ℕ) → cond t (b ∷ front_digits bs) [] ++ cond t (after_digits bs) (b ∷ bs) ≡ b ∷ bs
front_if true b bs = ap (λ (l : List ℕ). b ∷ l) (front_and_after bs)
front_if false b bs = refl

fraction_and_after : (text : List ℕ) → fraction_front text ++ after_fraction text ≡ text
fraction_and_after [] = refl
fraction_and_after (b ∷ bs) = front_if (b == 46) b bs

-- a point is in front, or none
pointed : (text : List ℕ) → has_point text ≡ true → (fraction_front text ≡ 46 ∷ front_digits (behind_point text))
    × (after_fraction text ≡ after_digits (behind_point text))
pointed [] h = absurd (let e = h in cc)
pointed (b ∷ bs) h = let is : b ≡ 46 = eqb-true b 46 h in rw is (refl, refl)

pub pointed_found : (text rest : List ℕ) (point : Bool) (micros : ℕ) → point ≡ has_point text → rest ≡ behind_point text → point ≡ true
    → AreMicros (front_digits rest) micros
    → IsMicrosFraction (fraction_front text) micros
pointed_found text rest point micros p r seen are =
    let parts = pointed text (sym p ∙ seen) in
    let front : fraction_front text ≡ 46 ∷ front_digits rest = parts.0 ∙ ap (λ (l : List ℕ). 46 ∷ front_digits l) (sym r) in
    let F : List ℕ → Type 0 = λ l. IsMicrosFraction l micros in
    subst F (sym front) (fraction_made (front_digits rest) micros (front_are_digits rest) are.0 are.1)

-- ---- a time

pub time_places : (text rest : List ℕ) (time : Time) → IsTimeOfDay text time → EndsTime rest → AreTimeAt (text ++ rest) time
    × (after_time (text ++ rest) ≡ rest)
time_places text rest time t e =
    let o : List ℕ = t.offset_text ++ rest in
    let s : List ℕ = t.fraction_text ++ o in
    let m : List ℕ = t.second_text ++ s in
    let h : List ℕ = t.minute_text ++ m in
    let hour = front_three 32 0 24 t.hour_text h time.hour t.hours in
    let minute = front_three 58 0 59 t.minute_text m time.minute t.minutes in
    let second = front_three 58 0 60 t.second_text s time.second t.seconds in
    let fraction = fraction_found t.fraction_text o time.micros t.fraction (perhaps_ends t.offset_text rest time.offset t.offset e) in
    let offset = perhaps_found t.offset_text rest time.offset t.offset e in
    let A : List ℕ → List ℕ = λ l. l ++ rest in
    let whole : text ++ rest ≡ t.hour_text ++ h =
    ap A t.joined ∙ append_assoc t.hour_text (t.minute_text ++ (t.second_text ++ (t.fraction_text ++ t.offset_text))) rest
    ∙ ap (λ (l : List ℕ). t.hour_text ++ l) (append_assoc t.minute_text (t.second_text ++ (t.fraction_text ++ t.offset_text)) rest
    ∙ ap (λ (l : List ℕ). t.minute_text ++ l) (append_assoc t.second_text (t.fraction_text ++ t.offset_text) rest
    ∙ ap (λ (l : List ℕ). t.second_text ++ l) (append_assoc t.fraction_text t.offset_text rest))) in
    let one : drop 3 (text ++ rest) ≡ h = ap (λ (l : List ℕ). drop 3 l) whole ∙ hour.1 in
    let two : drop 3 (drop 3 (text ++ rest)) ≡ m = ap (λ (l : List ℕ). drop 3 l) one ∙ minute.1 in
    let three : drop 3 (drop 3 (drop 3 (text ++ rest))) ≡ s = ap (λ (l : List ℕ). drop 3 l) two ∙ second.1 in
    let four : after_fraction (drop 3 (drop 3 (drop 3 (text ++ rest)))) ≡ o = ap after_fraction three ∙ fraction.1 in
    let H : List ℕ → Type 0 = λ l. IsMarkedPair 32 0 24 l time.hour in
    let M : List ℕ → Type 0 = λ l. IsMarkedPair 58 0 59 l time.minute in
    let S : List ℕ → Type 0 = λ l. IsMarkedPair 58 0 60 l time.second in
    let F : List ℕ → Type 0 = λ l. IsMicrosFraction l time.micros in
    let O : List ℕ → Type 0 = λ l. IsPerhapsOffsetAt l time.offset in (
      record {
        hours = subst H (sym (ap (λ (l : List ℕ). take 3 l) whole ∙ hour.0)) t.hours;
        minutes = subst M (sym (ap (λ (l : List ℕ). take 3 l) one ∙ minute.0)) t.minutes;
        seconds = subst S (sym (ap (λ (l : List ℕ). take 3 l) two ∙ second.0)) t.seconds;
        fraction = subst F (sym (ap fraction_front three ∙ fraction.0)) t.fraction;
        offset = subst O (sym four) offset.0;
      },
      ap after_perhaps four ∙ offset.1,
    )

-- the front of a text that the parts make
pub time_front : (text : List ℕ) (time : Time) → AreTimeAt text time → (front : List ℕ) × IsTimeOfDay front time
    × (text ≡ front ++ after_time text)
time_front text time p =
    let a : List ℕ = drop 3 text in
    let b : List ℕ = drop 3 a in
    let c : List ℕ = drop 3 b in
    let d : List ℕ = after_fraction c in
    let offset = perhaps_front d time.offset p.offset in
    let rest : List ℕ = after_perhaps d in
    let last : List ℕ = fraction_front c ++ offset.0 in
    let tail : List ℕ = take 3 b ++ last in
    let fourth : last ++ rest ≡ c =
    append_assoc (fraction_front c) offset.0 rest ∙ ap (λ (l : List ℕ). fraction_front c ++ l) (sym offset.2) ∙ fraction_and_after c in
    let third : tail ++ rest ≡ b = append_assoc (take 3 b) last rest ∙ ap (λ (l : List ℕ). take 3 b ++ l) fourth ∙ take-append-drop 3 b in
    let second : (take 3 a ++ tail) ++ rest ≡ a = append_assoc (take 3 a) tail rest ∙ ap (λ (l : List ℕ). take 3 a ++ l) third
    ∙ take-append-drop 3 a in
    let first : (take 3 text ++ (take 3 a ++ tail)) ++ rest ≡ text =
    append_assoc (take 3 text) (take 3 a ++ tail) rest ∙ ap (λ (l : List ℕ). take 3 text ++ l) second ∙ take-append-drop 3 text in (
      take 3 text ++ (take 3 a ++ tail),
      record {
        hour_text = take 3 text;
        minute_text = take 3 a;
        second_text = take 3 b;
        fraction_text = fraction_front c;
        offset_text = offset.0;
        hours = p.hours;
        minutes = p.minutes;
        seconds = p.seconds;
        fraction = p.fraction;
        offset = offset.1;
        joined = refl;
      },
      sym first,
    )

abbrev made : ℕ → ℕ → ℕ → ℕ → Option ℤ → Time
made h m s f o = record { hour = h; minute = m; second = s; micros = f; offset = o }

pub time_is : (a b : Time) → a.hour ≡ b.hour → a.minute ≡ b.minute → a.second ≡ b.second → a.micros ≡ b.micros → a.offset ≡ b.offset → a ≡ b
time_is a b h m s f o =
    let same : made a.hour a.minute a.second a.micros a.offset ≡ made b.hour b.minute b.second b.micros b.offset = rw
    (h, m, s, f, o) refl in same

pub one_time : (text : List ℕ) (a b : Time) → AreTimeAt text a → AreTimeAt text b → a ≡ b
one_time text a b p q =
    time_is a b (one_number 32 32 0 24 _ a.hour b.hour p.hours q.hours) (one_number 58 58 0 59 _ a.minute b.minute p.minutes q.minutes)
    (one_number 58 58 0 60 _ a.second b.second p.seconds q.seconds)
    (one_fraction (fraction_front (drop 3 (drop 3 (drop 3 text)))) a.micros b.micros p.fraction q.fraction)
    (one_perhaps (after_fraction (drop 3 (drop 3 (drop 3 text)))) a.offset b.offset p.offset q.offset)
