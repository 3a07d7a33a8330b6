-- A text has one sum.
use Rattle.std.proofs.Common.{◌≡◌, ℕ, ◌+◌, ◌*◌, ◌/◌, ◌%◌, ◌^◌, ◌<◌, ◌≤◌, List, refl, sym, ◌∙◌, ap, subst, arith}
use Rattle.fancy_duration.specs.Times.{nanos_of}
use Rattle.fancy_duration.specs.Sums.{SumsTo, total}
use Rattle.fancy_duration.specs.Meanings.{Denotes, IsTooBig}
use Rattle.fancy_duration.specs.inside.Reading.{items_of, capped}
use Rattle.fancy_duration.proofs.ItemLists.{items_unique, items_exist}

pub sum_unique : (text : List ℕ) (n : ℕ) → SumsTo text n → n ≡ total (items_of text)
sum_unique text n h = h.sum ∙ ap total (sym (items_unique h.items text h.all))

pub sum_exists : (text : List ℕ) → SumsTo text (total (items_of text))
sum_exists text = record { items = items_of text; all = items_exist text; sum = refl }

-- a sum that 128 bits hold, by its seconds
pub denotes : (text bytes : List ℕ) (nanos seconds beyond : ℕ) → bytes ≡ text
    → nanos ≡ capped (total (items_of bytes)) → seconds ≡ nanos / 1_000_000_000 → beyond ≡ nanos % 1_000_000_000
    → seconds < 2 ^ 64 → Denotes text (seconds, beyond)
denotes text bytes nanos seconds beyond e held whole rest fits =
    let sum : nanos ≡ capped (total (items_of text)) = held ∙ ap (λ b. capped (total (items_of b))) e in
    let exact : seconds * 1_000_000_000 + beyond ≡ total (items_of text) = omega arith in
    record {
      sums = let P : ℕ → Type 0 = SumsTo text in subst P (sym exact) (sum_exists text);
      seconds = omega arith;
      nanoseconds = omega arith;
    }

pub is_too_big : (text bytes : List ℕ) (nanos : ℕ) → bytes ≡ text
    → nanos ≡ capped (total (items_of bytes)) → 2 ^ 64 ≤ nanos / 1_000_000_000 → IsTooBig text
is_too_big text bytes nanos e held beyond =
    let sum : nanos ≡ capped (total (items_of text)) = held ∙ ap (λ b. capped (total (items_of b))) e in
    record { nanos = total (items_of text); sums = sum_exists text; beyond = omega arith }

pub not_too_big : (text bytes : List ℕ) (nanos : ℕ) → bytes ≡ text
    → nanos ≡ capped (total (items_of bytes)) → nanos / 1_000_000_000 < 2 ^ 64 → IsTooBig text → ⊥
not_too_big text bytes nanos e held fits big =
    let sum : nanos ≡ capped (total (items_of text)) = held ∙ ap (λ b. capped (total (items_of b))) e in
    let same : big.nanos ≡ total (items_of text) = sum_unique text big.nanos big.sums in
    let beyond : 2 ^ 64 ≤ big.nanos / 1_000_000_000 = big.beyond in
    absurd (omega arith)

pub denotes_unique : (text : List ℕ) (s t : ℕ × ℕ) → Denotes text s → Denotes text t → s ≡ t
denotes_unique text s t hs ht =
    let a : nanos_of s ≡ total (items_of text) = sum_unique text (nanos_of s) hs.sums in
    let b : nanos_of t ≡ total (items_of text) = sum_unique text (nanos_of t) ht.sums in
    let below : s.1 < 1_000_000_000 = hs.nanoseconds in
    let below' : t.1 < 1_000_000_000 = ht.nanoseconds in
    let secs : s.0 ≡ t.0 = omega arith in
    let nanos : s.1 ≡ t.1 = omega arith in
    λ i. (secs i, nanos i)

-- what 64 bits of seconds hold isn't too big
pub not_beyond : (text bytes : List ℕ) (nanos : ℕ) (times : ℕ × ℕ) → bytes ≡ text
    → nanos ≡ capped (total (items_of bytes)) → 2 ^ 64 ≤ nanos / 1_000_000_000 → Denotes text times
    → ⊥
not_beyond text bytes nanos times e held beyond h =
    let sum : nanos ≡ capped (total (items_of text)) = held ∙ ap (λ b. capped (total (items_of b))) e in
    let same : nanos_of times ≡ total (items_of text) = sum_unique text (nanos_of times) h.sums in
    let below : times.1 < 1_000_000_000 = h.nanoseconds in
    let fits : times.0 < 2 ^ 64 = h.seconds in
    absurd (omega arith)
