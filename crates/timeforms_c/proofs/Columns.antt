-- Arrays that are filled from the front, cell by cell.
use Rattle.std.proofs.Common.{◌≡◌, ℕ, ◌+◌, ◌-◌, ◌<◌, ◌≤◌, ◌⊎◌, min, List, [], ◌∷◌, ◌++◌, Result, map, length, take, drop, set, refl, sym}
use Rattle.std.proofs.Common.{◌∙◌, ap, subst, append_assoc, append-nil, suc, add-one, arith}
use Rattle.std.specs.Prelude.{ℤ, slice_index}
use Rattle.std.proofs.lemmas.List.{length-append, length-drop, length-map, map-append, take_at, set_split, drop_more}
use Rattle.std.proofs.lemmas.Slice.{drop-append-drop}
use Rattle.forms.specs.Replies.{IsAnswer}
use Rattle.forms.specs.declared.form.Form.{Form}
use Rattle.pg_interval_2.specs.declared.interval.Interval.{Interval}
use Rattle.pg_interval_2.specs.declared.style.Style.{Style}
use Rattle.forms.specs.form.Intervals.{FindsInterval}
use Rattle.timeforms_c.specs.Columns.{AnswersColumn, AreBetween, Fills, IsBeyond, IsCellAnswer, ReadsColumn, answer_code}
use Rattle.timeforms_c.specs.Columns.{answer_text, ends, joined, part_of}
use Rattle.timeforms_c.specs.inside.Cells.{PutsAnswer}

-- a filled array is as long as it was
pub fills_length : {A : Type 0} → (front old new : List A) → Fills front old new → length new ≡ length old
fills_length front old new h =
    let sum = ap length h.1 ∙ length-append front (drop (length front) old) in
    let behind = length-drop (length front) old in
    omega (arith, h.0)

-- a piece that is put behind what was filled is filled too
pub fills_put : {A : Type 0} → (front piece old new newer : List A) (at : ℕ) → Fills front old new → at ≡ length front
    → at + length piece ≤ length old
    → newer ≡ take at new ++ (piece ++ drop (at + length piece) new) → Fills (front ++ piece) old newer
fills_put {A} front piece old new newer at h place fits put =
    let sum = length-append front piece in
    let before : take at new ≡ front = ap (take at) h.1 ∙ take_at front (drop (length front) old) at (sym place) in
    let end : ℕ = at + length piece in
    let whole : end ≡ length (front ++ piece) = omega (arith, sum, place) in
    let behind : drop end new ≡ drop (length (front ++ piece)) old =
    ap (drop end) h.1 ∙ (drop-append-drop (length front) old front end (omega (arith, place)) refl ∙ ap (λ n. drop n old) whole) in (
      omega (arith, whole, fits),
      put ∙ (ap (λ (l : List A). l ++ (piece ++ drop end new)) before
          ∙ (ap (λ (l : List A). front ++ (piece ++ l)) behind ∙ sym (append_assoc front piece (drop (length (front ++ piece)) old)))),
    )

-- so is one value that is stored behind it
pub fills_set : {A : Type 0} → (front old new : List A) (value : A) (at : ℕ) → Fills front old new → at ≡ length front → at < length old
    → Fills (front ++ value ∷ []) old (set new at value)
fills_set front old new value at h place fits =
    let same = fills_length front old new h in
    fills_put front (value ∷ []) old new (set new at value) at h place (omega (arith, fits))
    (set_split new at value (omega (arith, same, fits)) ∙ ap (λ n. take at new ++ value ∷ drop n new) (sym (add-one at)))

-- what stands for one pair of offsets more
pub between_push : {A : Type 0} → (IsOf : ℕ → ℕ → A → Type 0) (offsets : List ℕ) (before : List A) (a : A) (start end : ℕ) (more : List ℕ)
    → AreBetween IsOf offsets before
    → drop (length before) offsets ≡ start ∷ (end ∷ more) → IsOf start end a → AreBetween IsOf offsets (before ++ a ∷ [])
between_push IsOf offsets [] a start end more h next is = (start, end, more, next, is, tt)
between_push IsOf offsets (b ∷ bs) a start end more (s, e, m, split, first, rest) next is =
    (s, e, m, split, first, between_push IsOf (e ∷ m) bs a start end more rest (sym (ap (drop (length (b ∷ bs))) split) ∙ next) is)

-- the offsets that are left begin with two neighbours
pub two_left : (offsets : List ℕ) (n d : ℕ) → n + 1 < length offsets
    → drop n offsets ≡ slice_index offsets n ∷ (slice_index offsets (n + 1) ∷ drop (n + 2) offsets)
two_left offsets n d more =
    drop_more offsets n 0 (omega (arith, more)) ∙ ap (λ (l : List ℕ). slice_index offsets n ∷ l)
    (drop_more offsets (n + 1) 0 more ∙ ap (λ i. slice_index offsets (n + 1) ∷ drop i offsets) (omega arith))

-- one text more stands behind those before it, and ends where all of them do
pub joined_push : (texts : List (List ℕ)) (text : List ℕ) → joined (texts ++ text ∷ []) ≡ joined texts ++ text
joined_push [] text = append-nil text
joined_push (t ∷ ts) text = ap (λ (l : List ℕ). t ++ l) (joined_push ts text) ∙ sym (append_assoc t (joined ts) text)

pub ends_push : (start : ℕ) (texts : List (List ℕ)) (text : List ℕ)
    → ends start (texts ++ text ∷ []) ≡ ends start texts ++ (start + length (joined texts) + length text) ∷ []
ends_push start [] text = ap (λ n. n ∷ []) (omega arith)
ends_push start (t ∷ ts) text =
    let sum = length-append t (joined ts) in
    ap (λ (l : List ℕ). (start + length t) ∷ l) (ends_push (start + length t) ts text
    ∙ ap (λ n. ends (start + length t) ts ++ n ∷ []) (omega (arith, sum)))

pub ends_length : (start : ℕ) (texts : List (List ℕ)) → length (ends start texts) ≡ length texts
ends_length start [] = refl
ends_length start (t ∷ ts) = ap suc (ends_length (start + length t) ts)

drop_same : (offsets : List ℕ) (done n : ℕ) → done ≡ n → drop n offsets ≡ drop done offsets
drop_same offsets done n same = ap (λ i. drop i offsets) (sym same)

-- the cells so far are answered, and the texts have so many bytes
pub record IsAnswered (from to : Form) (bytes offsets out_old out_new ends_old ends_new : List ℕ) (codes_old codes_new : List ℤ)
    (done written : ℕ) : Type 0 where
  pub answers : List (Result (List ℕ) ℤ)
  pub each : AreBetween (IsCellAnswer (IsAnswer from to) bytes) offsets answers
  pub count : done ≡ length answers
  pub texts : Fills (joined (map answer_text answers)) out_old out_new
  pub places : Fills (0 ∷ ends 0 (map answer_text answers)) ends_old ends_new
  pub codes : Fills (map answer_code answers) codes_old codes_new
  pub bytes_count : written ≡ length (joined (map answer_text answers))
  pub bound : written ≤ 2_147_483_647

-- at first no cell is
pub answered_none : (from to : Form) (bytes offsets out ends ends_new : List ℕ) (codes : List ℤ) → 0 < length ends → ends_new ≡ set ends 0 0
    → IsAnswered from to bytes offsets out out ends ends_new codes codes 0 0
answered_none from to bytes offsets out ends ends_new codes some put =
    record {
      answers = [];
      each = tt;
      count = refl;
      texts = (omega arith, refl);
      places = (omega (arith, some), put ∙ set_split ends 0 0 some);
      codes = (omega arith, refl);
      bytes_count = refl;
      bound = omega arith;
    }

-- and then the next one
pub answered_push : (from to : Form) (bytes offsets out_old out_new out_newer ends_old ends_new ends_newer : List ℕ)
    (codes_old codes_new codes_newer : List ℤ) (done written len room : ℕ) (code : ℤ)
    (answer : Result (List ℕ) ℤ)
    → IsAnswered from to bytes offsets out_old out_new ends_old ends_new codes_old codes_new done written
    → done + 1 < length offsets → done + 1 < length ends_old → done < length codes_old
    → room ≤ length out_old → room ≤ 2_147_483_647
    → IsCellAnswer (IsAnswer from to) bytes (slice_index offsets done) (slice_index offsets (done + 1)) answer
    → PutsAnswer answer written room out_new out_newer len code
    → codes_newer ≡ set codes_new done code
    → ends_newer ≡ set ends_new (done + 1) (written + len)
    → IsAnswered from to bytes offsets out_old out_newer ends_old ends_newer codes_old codes_newer (done + 1) (written + len)
answered_push from to bytes offsets out_old out_new out_newer ends_old ends_new ends_newer codes_old codes_new codes_newer done written len
    room code answer h more place slot within most is puts coded ended =
    let text : List ℕ = answer_text answer in
    let texts : List (List ℕ) = map answer_text h.answers in
    let pushed : map answer_text (h.answers ++ answer ∷ []) ≡ texts ++ text ∷ [] = map-append answer_text h.answers (answer ∷ []) in
    let codes : map answer_code (h.answers ++ answer ∷ []) ≡ map answer_code h.answers
    ++ answer_code answer ∷ [] = map-append answer_code h.answers (answer ∷ []) in
    let all : joined (map answer_text (h.answers ++ answer ∷ [])) ≡ joined texts ++ text = ap joined pushed ∙ joined_push texts text in
    let sum = length-append (joined texts) text in
    let counted = length-append h.answers (answer ∷ []) in
    let next = drop_same offsets done (length h.answers) h.count ∙ two_left offsets done 0 more in
    let ended_at : (0 ∷ ends 0 texts) ++ (written + len) ∷ [] ≡ 0 ∷ ends 0 (map answer_text (h.answers ++ answer ∷ [])) =
    ap (λ (l : List ℕ). 0 ∷ l) (ap (λ n. ends 0 texts ++ n ∷ []) (omega (arith, h.bytes_count, puts.count))
    ∙ (sym (ends_push 0 texts text) ∙ ap (ends 0) (sym pushed))) in
    let counts = ap suc (ends_length 0 texts ∙ length-map h.answers answer_text) in
    record {
      answers = h.answers ++ answer ∷ [];
      each = between_push (IsCellAnswer (IsAnswer from to) bytes) offsets h.answers answer _ _ _ h.each next is;
      count = omega (arith, counted, h.count);
      texts = subst (λ (l : List ℕ). Fills l out_old out_newer) (sym all)
          (fills_put (joined texts) text out_old out_new out_newer written h.texts h.bytes_count
          (omega (arith, puts.within, within)) puts.put);
      places =
          subst (λ (l : List ℕ). Fills l ends_old ends_newer) ended_at
          (subst (Fills ((0 ∷ ends 0 texts) ++ (written + len) ∷ []) ends_old) (sym ended)
          (fills_set (0 ∷ ends 0 texts) ends_old ends_new (written + len) (done + 1) h.places (omega (arith, counts, h.count)) place));
      codes =
          subst (λ (l : List ℤ). Fills l codes_old codes_newer) (sym codes)
          (subst (Fills (map answer_code h.answers ++ answer_code answer ∷ []) codes_old) (sym (coded ∙ ap (set codes_new done) puts.coded))
          (fills_set (map answer_code h.answers) codes_old codes_new (answer_code answer) done h.codes
          (h.count ∙ sym (length-map h.answers answer_code)) slot));
      bytes_count = let a = ap length all in omega (arith, a, sum, h.bytes_count, puts.count);
      bound = omega (arith, puts.within, puts.count, most);
    }

-- and the loop ends where a place is wanting, or the next answer is too long
pub answered_all : (from to : Form) (bytes offsets out_old out_new ends_old ends_new : List ℕ) (codes_old codes_new : List ℤ)
    (done written : ℕ)
    → IsAnswered from to bytes offsets out_old out_new ends_old ends_new codes_old codes_new done written
    → (length offsets ≤ done + 1) ⊎ ((length ends_old ≤ done + 1)
    ⊎ ((length codes_old ≤ done) ⊎ IsBeyond from to bytes (drop done offsets) (length out_old) written))
    → AnswersColumn from to bytes offsets out_old out_new ends_old ends_new codes_old codes_new done
answered_all from to bytes offsets out_old out_new ends_old ends_new codes_old codes_new done written h stops =
    let Stops : ℕ → Type 0 = λ n. (length offsets ≤ done + 1) ⊎
    ((length ends_old ≤ done + 1) ⊎ ((length codes_old ≤ done) ⊎ IsBeyond from to bytes (drop done offsets) (length out_old) n)) in
    record {
      answers = h.answers;
      each = h.each;
      count = h.count;
      texts = h.texts;
      places = h.places;
      codes = h.codes;
      bound = omega (arith, h.bytes_count, h.bound);
      stops = subst Stops h.bytes_count stops;
    }

-- without a place more there is no cell more
pub no_place : {X : Type 0} → (offsets ends codes count done : ℕ) → count ≡ min (min (offsets - 1) (ends - 1)) codes → count ≤ done
    → (offsets ≤ done + 1) ⊎ ((ends ≤ done + 1) ⊎ ((codes ≤ done) ⊎ X))
no_place offsets ends codes count done is all = grind arith

-- the cells so far are read
pub record AreRead (style : Style) (bytes offsets : List ℕ) (months_old months_new days_old days_new micros_old micros_new codes_old
    codes_new : List ℤ) (done : ℕ) : Type 0 where
  pub answers : List (Result Interval ℤ)
  pub each : AreBetween (IsCellAnswer (FindsInterval style) bytes) offsets answers
  pub count : done ≡ length answers
  pub months : Fills (map (part_of (λ t. t.months)) answers) months_old months_new
  pub days : Fills (map (part_of (λ t. t.days)) answers) days_old days_new
  pub micros : Fills (map (part_of (λ t. t.microseconds)) answers) micros_old micros_new
  pub codes : Fills (map answer_code answers) codes_old codes_new

-- at first none is
pub read_none : (style : Style) (bytes offsets : List ℕ) (months days micros codes : List ℤ)
    → AreRead style bytes offsets months months days days micros micros codes codes 0
read_none style bytes offsets months days micros codes =
    let empty : (xs : List ℤ) → Fills [] xs xs = λ xs. (omega arith, refl) in
    record { answers = []; each = tt; count = refl; months = empty months; days = empty days; micros = empty micros; codes = empty codes }

-- one answer more, seen by a part, fills one place more
fills_part : (see : Result Interval ℤ → ℤ) (answers : List (Result Interval ℤ)) (answer : Result Interval ℤ) (old new newer : List ℤ)
    (done : ℕ) → Fills (map see answers) old new → done ≡ length answers → done < length old
    → newer ≡ set new done (see answer) → Fills (map see (answers ++ answer ∷ [])) old newer
fills_part see answers answer old new newer done h count place put =
    subst (λ (l : List ℤ). Fills l old newer) (sym (map-append see answers (answer ∷ [])))
    (subst (Fills (map see answers ++ see answer ∷ []) old) (sym put)
    (fills_set (map see answers) old new (see answer) done h (count ∙ sym (length-map answers see)) place))

-- and then the next one
pub read_push : (style : Style) (bytes offsets : List ℕ) (months_old months_new months_newer days_old days_new days_newer micros_old
    micros_new micros_newer codes_old codes_new codes_newer : List ℤ) (done : ℕ)
    (answer : Result Interval ℤ)
    → AreRead style bytes offsets months_old months_new days_old days_new micros_old micros_new codes_old codes_new done
    → done + 1 < length offsets → done < length months_old → done < length days_old → done < length micros_old → done < length codes_old
    → IsCellAnswer (FindsInterval style) bytes (slice_index offsets done) (slice_index offsets (done + 1)) answer
    → months_newer ≡ set months_new done (part_of (λ t. t.months) answer)
    → days_newer ≡ set days_new done (part_of (λ t. t.days) answer)
    → micros_newer ≡ set micros_new done (part_of (λ t. t.microseconds) answer)
    → codes_newer ≡ set codes_new done (answer_code answer)
    → AreRead style bytes offsets months_old months_newer days_old days_newer micros_old micros_newer codes_old codes_newer (done + 1)
read_push style bytes offsets months_old months_new months_newer days_old days_new days_newer micros_old micros_new micros_newer codes_old
    codes_new codes_newer done answer h more month day micro slot is months days micros codes =
    let counted = length-append h.answers (answer ∷ []) in
    let next = drop_same offsets done (length h.answers) h.count ∙ two_left offsets done 0 more in
    record {
      answers = h.answers ++ answer ∷ [];
      each = between_push (IsCellAnswer (FindsInterval style) bytes) offsets h.answers answer _ _ _ h.each next is;
      count = omega (arith, counted, h.count);
      months = fills_part (part_of (λ t. t.months)) h.answers answer months_old months_new months_newer done h.months h.count month months;
      days = fills_part (part_of (λ t. t.days)) h.answers answer days_old days_new days_newer done h.days h.count day days;
      micros = fills_part (part_of (λ t. t.microseconds)) h.answers answer micros_old micros_new micros_newer done h.micros h.count micro
          micros;
      codes = fills_part answer_code h.answers answer codes_old codes_new codes_newer done h.codes h.count slot codes;
    }

no_place_read : (offsets months days micros codes count places done : ℕ) → places ≡ min (min (min months days) micros) codes
    → count ≡ min (offsets - 1) places → count ≤ done
    → (offsets ≤ done + 1) ⊎ ((months ≤ done) ⊎ ((days ≤ done) ⊎ ((micros ≤ done) ⊎ (codes ≤ done))))
no_place_read offsets months days micros codes count places done least is all = grind arith

-- and the loop ends where a place is wanting
pub read_all : (style : Style) (bytes offsets : List ℕ) (months_old months_new days_old days_new micros_old micros_new codes_old codes_new :
    List ℤ) (count places done : ℕ)
    → AreRead style bytes offsets months_old months_new days_old days_new micros_old micros_new codes_old codes_new done
    → places ≡ min (min (min (length months_old) (length days_old)) (length micros_old)) (length codes_old)
    → count ≡ min (length offsets - 1) places → count ≤ done
    → ReadsColumn style bytes offsets months_old months_new days_old days_new micros_old micros_new codes_old codes_new done
read_all style bytes offsets months_old months_new days_old days_new micros_old micros_new codes_old codes_new count places done h least is
    all = record {
      answers = h.answers;
      each = h.each;
      count = h.count;
      months = h.months;
      days = h.days;
      micros = h.micros;
      codes = h.codes;
      stops = no_place_read (length offsets) (length months_old) (length days_old) (length micros_old)
          (length codes_old) count places done least is all;
    }
