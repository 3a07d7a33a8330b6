-- Parts that may be left out, one behind another. Their readers always answer: a value, and what follows the part.
use Rattle.std.proofs.Common.{◌≡◌, ℕ, Option, Some, None, ◌+◌, ◌≤◌, ◌⊎◌, List, [], ◌++◌, length, refl, sym, ◌∙◌, ap, append_assoc}
use Rattle.std.proofs.Common.{length-append, arith, inl, inr}
use Rattle.iso8601.specs.Prefixes.{Begins}
use Rattle.iso8601.specs.inside.TimeReading.{read_both, or_zero}
use Rattle.iso8601.specs.Fields.{IsOrZero}
use Rattle.iso8601.proofs.Longest.{Sound, Exact}

-- What a part's reader does. It finds a part, comes as far as any part in front, and finds just the part where its end is marked.
pub record Optional {V : Type 0} (Is : List ℕ → V → Type 0) (read : List ℕ → V × List ℕ) (Stops : List ℕ → Type 0) : Type 0 where
  pub sound : (bytes : List ℕ) → Begins Is bytes (read bytes).0 (read bytes).1
  pub reach : (text rest : List ℕ) (value : V) → Is text value → length (read (text ++ rest)).1 ≤ length rest
  pub exact : (text rest : List ℕ) (value : V) → Is text value → Stops rest → read (text ++ rest) ≡ (value, rest)

-- the same under a stronger mark of the end
pub optional_when : {V : Type 0} (Is : List ℕ → V → Type 0) (read : List ℕ → V × List ℕ) (Stops Sooner : List ℕ → Type 0)
    → ((rest : List ℕ) → Sooner rest → Stops rest) → Optional Is read Stops → Optional Is read Sooner
optional_when Is read Stops Sooner sooner o = record {
  sound = o.sound;
  reach = o.reach;
  exact = λ text rest value is stops. o.exact text rest value is (sooner rest stops);
}

-- a part that is no longer than the bytes
pub shrinks : (bytes text rest : List ℕ) → bytes ≡ text ++ rest → length rest ≤ length bytes
shrinks bytes text rest h = let l : length bytes ≡ length text + length rest = rw (h, length-append) refl in omega arith

-- ---- what is read exactly, or nothing

zero_sound : (Is : List ℕ → ℕ → Type 0) (read : List ℕ → Option (ℕ × List ℕ)) → Sound Is read
    → (bytes : List ℕ) (o : Option (ℕ × List ℕ)) → read bytes ≡ o → Begins (IsOrZero Is) bytes (or_zero bytes o).0 (or_zero bytes o).1
zero_sound Is read sound bytes None h = ([], inl (refl, refl), refl)
zero_sound Is read sound bytes (Some r) h = let s = sound bytes r.1 r.0 h in (s.0, inr s.1, s.2)

zero_reach : (Is : List ℕ → ℕ → Type 0) (read : List ℕ → Option (ℕ × List ℕ)) → Sound Is read → Exact Is read
    → (text rest : List ℕ) (value : ℕ) → IsOrZero Is text value → length (or_zero (text ++ rest) (read (text ++ rest))).1 ≤ length rest
zero_reach Is read sound exact text rest value (inl none) =
    let s = zero_sound Is read sound rest (read rest) refl in
    rw none.0 (shrinks rest s.0 (or_zero rest (read rest)).1 s.2)
zero_reach Is read sound exact text rest value (inr is) = rw (exact text rest value is) (omega arith)

zero_exact : (Is : List ℕ → ℕ → Type 0) (read : List ℕ → Option (ℕ × List ℕ)) → Exact Is read
    → (text rest : List ℕ) (value : ℕ) → IsOrZero Is text value → read rest ≡ None
    → or_zero (text ++ rest) (read (text ++ rest)) ≡ (value, rest)
zero_exact Is read exact text rest value (inl none) stops = rw (none.0, none.1, stops) refl
zero_exact Is read exact text rest value (inr is) stops = rw (exact text rest value is) refl

pub zero_optional : (Is : List ℕ → ℕ → Type 0) (read : List ℕ → Option (ℕ × List ℕ)) → Sound Is read → Exact Is read
    → Optional (IsOrZero Is) (λ bytes. or_zero bytes (read bytes)) (λ rest. read rest ≡ None)
zero_optional Is read sound exact = record {
  sound = λ bytes. zero_sound Is read sound bytes (read bytes) refl;
  reach = zero_reach Is read sound exact;
  exact = zero_exact Is read exact;
}

-- ---- two parts in a row

-- a part and another behind it
pub record IsBoth {A B : Type 0} (IsA : List ℕ → A → Type 0) (IsB : List ℕ → B → Type 0) (text : List ℕ) (value : A × B) : Type 0 where
  pub first : List ℕ
  pub second : List ℕ
  pub is_first : IsA first value.0
  pub is_second : IsB second value.1
  pub joined : text ≡ first ++ second

-- the second part is empty, or its first byte ends the first part
abbrev pub Marks : {B : Type 0} → (List ℕ → B → Type 0) → (List ℕ → Type 0) → Type 0
Marks {B} IsB Stops = (text : List ℕ) (value : B) → IsB text value → (text ≡ []) ⊎ ((rest : List ℕ) → Stops (text ++ rest))

pub both_optional : {A B : Type 0} (IsA : List ℕ → A → Type 0) (IsB : List ℕ → B → Type 0) (ra : List ℕ → A × List ℕ)
    (rb : List ℕ → B × List ℕ) (StopsA StopsB : List ℕ → Type 0)
    → Optional IsA ra StopsA → Optional IsB rb StopsB → Marks IsB StopsA → ((rest : List ℕ) → StopsB rest → StopsA rest)
    → Optional (IsBoth IsA IsB) (read_both ra rb) StopsB
both_optional IsA IsB ra rb StopsA StopsB oa ob marks ends = record {
  sound = λ bytes.
      let a = oa.sound bytes in
      let b = ob.sound (ra bytes).1 in
      let split : bytes ≡ (a.0 ++ b.0) ++ (rb (ra bytes).1).1 = a.2 ∙ ap (λ (l : List ℕ). a.0 ++ l) b.2
      ∙ sym (append_assoc a.0 b.0 (rb (ra bytes).1).1) in
      (a.0 ++ b.0, record { first = a.0; second = b.0; is_first = a.1; is_second = b.1; joined = refl }, split);
  reach = λ text rest value is.
      let split : text ++ rest ≡ is.first ++ (is.second ++ rest) = ap (λ (l : List ℕ). l ++ rest) is.joined
      ∙ append_assoc is.first is.second rest in
      rw split (elim (marks is.second value.1 is.is_second) [
        | inl none ↦
            let all : is.second ++ rest ≡ rest = ap (λ (l : List ℕ). l ++ rest) none in
            let behind : length (ra (is.first ++ rest)).1 ≤ length rest = oa.reach is.first rest value.0 is.is_first in
            let b = ob.sound (ra (is.first ++ rest)).1 in
            rw all (let further = shrinks (ra (is.first ++ rest)).1 b.0 _ b.2 in omega arith)
        | inr marked ↦
            rw (oa.exact is.first (is.second ++ rest) value.0 is.is_first (marked rest)) (ob.reach is.second rest value.1 is.is_second)
      ]);
  exact = λ text rest value is stops.
      let split : text ++ rest ≡ is.first ++ (is.second ++ rest) = ap (λ (l : List ℕ). l ++ rest) is.joined
      ∙ append_assoc is.first is.second rest in
      let second = ob.exact is.second rest value.1 is.is_second stops in
      let marked : StopsA (is.second ++ rest) = elim (marks is.second value.1 is.is_second) [
        | inl none ↦ rw none (ends rest stops)
        | inr marked ↦ marked rest
      ] in
      rw (split, oa.exact is.first (is.second ++ rest) value.0 is.is_first marked, second) refl;
}

-- two parts mark an end where each of them does
pub both_marks : {A B : Type 0} (IsA : List ℕ → A → Type 0) (IsB : List ℕ → B → Type 0) (Stops : List ℕ → Type 0) → Marks IsA Stops
    → Marks IsB Stops → Marks (IsBoth IsA IsB) Stops
both_marks IsA IsB Stops ma mb text value b =
    elim (ma b.first value.0 b.is_first) [
      | inr marks ↦ inr (λ rest.
          let split : text ++ rest ≡ b.first ++ (b.second ++ rest) = ap (λ (x : List ℕ). x ++ rest) b.joined
          ∙ append_assoc b.first b.second rest in
          rw split (marks (b.second ++ rest)))
      | inl none ↦
          let only : text ≡ b.second = b.joined ∙ ap (λ (x : List ℕ). x ++ b.second) none in
          elim (mb b.second value.1 b.is_second) [
            | inl nothing ↦ inl (only ∙ nothing)
            | inr marks ↦ inr (λ rest. rw only (marks rest))
          ]
    ]
