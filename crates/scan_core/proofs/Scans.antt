-- Bytes that a scan has passed: one after the other, and all of a class that stand in front.
use Rattle.std.proofs.Common.{◌≡◌, ◌⊎◌, inl, inr, ℕ, ◌-◌, ◌≤◌, ◌&&◌, Bool, true, false, List, [], ◌∷◌, ◌++◌}
use Rattle.std.proofs.Common.{length, take, Option, Some, IfSome}
use Rattle.std.proofs.Common.{refl, sym, subst, ◌∙◌, ap, append_assoc, append-nil, length-append, arith}
use Rattle.std.proofs.lemmas.List.{take_all}
use Rattle.std.proofs.lemmas.List.Folds.{list_all-append}
use Rattle.std.specs.List.{list_all}
use Rattle.scan_core.specs.Blanks.{is_blank}
use Rattle.scan_core.specs.Fronts.{behind, leading}
use Rattle.scan_core.specs.Scanning.{Passes, Place, ahead, between, front_byte}
use Rattle.scan_core.proofs.FrontFacts.{behind_skips, leading_and_behind, leading_skips}

pub passes_none : (place : Place) → Passes [] place place
passes_none place = record { same = refl; at = omega arith; split = refl }

pub passes_more : (xs ys : List ℕ) (old mid new : Place) → Passes xs old mid → Passes ys mid new → Passes (xs ++ ys) old new
passes_more xs ys old mid new p q = record {
  same = q.same ∙ p.same;
  at = omega (arith, p.at, q.at, length-append xs ys);
  split = p.split ∙ ap (λ (l : List ℕ). xs ++ l) q.split ∙ sym (append_assoc xs ys (ahead new));
}

-- the byte that was in front was passed
pub front_passed : (b : ℕ) (passed : Option ℕ) (old new : Place) → passed ≡ front_byte (ahead old) → front_byte (ahead old) ≡ Some b
    → IfSome passed (λ byte. Passes (byte ∷ []) old new)
    → Passes (b ∷ []) old new
front_passed b passed old new is front passes = subst (λ (o : Option ℕ). IfSome o (λ byte. Passes (byte ∷ []) old new)) (is ∙ front) passes

pub one_passed : (b : ℕ) (old new : Place) → front_byte (ahead old) ≡ Some b
    → IfSome (front_byte (ahead old)) (λ byte. Passes (byte ∷ []) old new)
    → Passes (b ∷ []) old new
one_passed b old new front passes = front_passed b (front_byte (ahead old)) old new refl front passes

take_front : (xs ys : List ℕ) → take (length xs) (xs ++ ys) ≡ xs
take_front [] ys = refl
take_front (x ∷ xs) ys = ap (λ (l : List ℕ). x ∷ l) (take_front xs ys)

-- what was passed stands between the two places
pub between_passed : (bytes : List ℕ) (old new : Place) → Passes bytes old new → between old.at new.at new.text ≡ bytes
between_passed bytes old new p =
    let long : new.at - old.at ≡ length bytes = omega (arith, p.at) in
    let same = p.same in
    rw (long, same) (ap (λ (l : List ℕ). take (length bytes) l) p.split ∙ take_front bytes (ahead new))

-- bytes of a class were passed, the first of all that stand in front
pub record IsAmong (test : ℕ → Bool) (bytes : List ℕ) (old new : Place) : Type 0 where
  pub all : list_all test bytes ≡ true
  pub passed : Passes bytes old new
  pub front : leading test (ahead old) ≡ bytes ++ leading test (ahead new)
  pub rest : behind test (ahead old) ≡ behind test (ahead new)

pub among_none : (test : ℕ → Bool) (place : Place) → IsAmong test [] place place
among_none test place = record { all = refl; passed = passes_none place; front = refl; rest = refl }

both : (a b : Bool) → a ≡ true → b ≡ true → (a && (b && true)) ≡ true
both a b p q = rw (p, q) refl

leading_cons : (test : ℕ → Bool) (b : ℕ) (bytes rest : List ℕ) → test b ≡ true → bytes ≡ (b ∷ []) ++ rest
    → leading test bytes ≡ b ∷ leading test rest
leading_cons test b bytes rest h e = rw e (rw h refl)

behind_cons : (test : ℕ → Bool) (b : ℕ) (bytes rest : List ℕ) → test b ≡ true → bytes ≡ (b ∷ []) ++ rest
    → behind test bytes ≡ behind test rest
behind_cons test b bytes rest h e = rw e (rw h refl)

-- one more byte of the class
pub among_more : (test : ℕ → Bool) (bytes : List ℕ) (old mid new : Place) (b : ℕ) → IsAmong test bytes old mid → test b ≡ true
    → Passes (b ∷ []) mid new
    → IsAmong test (bytes ++ b ∷ []) old new
among_more test bytes old mid new b m h p = record {
  all = list_all-append test bytes (b ∷ []) ∙ both (list_all test bytes) (test b) m.all h;
  passed = passes_more bytes (b ∷ []) old mid new m.passed p;
  front = m.front ∙ ap (λ (l : List ℕ). bytes ++ l) (leading_cons test b (ahead mid) (ahead new) h p.split)
      ∙ sym (append_assoc bytes (b ∷ []) (leading test (ahead new)));
  rest = m.rest ∙ behind_cons test b (ahead mid) (ahead new) h p.split;
}

-- a space, if one was in front, and then the blanks behind it
pub blanks_behind_a_space : (space : Bool) (old mid new : Place) → (space ≡ true → Passes (32 ∷ []) old mid)
    → (space ≡ false → mid ≡ old)
    → ahead new ≡ behind is_blank (ahead mid)
    → Passes (leading is_blank (ahead mid)) mid new
    → (ahead new ≡ behind is_blank (ahead old)) × Passes (leading is_blank (ahead old)) old new
blanks_behind_a_space true old mid new passes other rest passed =
    let first = passes refl in
    let P : List ℕ → Type 0 = λ l. Passes l old new in (
      rest ∙ sym (behind_cons is_blank 32 (ahead old) (ahead mid) refl first.split),
      subst P (sym (leading_cons is_blank 32 (ahead old) (ahead mid) refl first.split))
          (passes_more (32 ∷ []) (leading is_blank (ahead mid)) old mid new first passed),
    )
blanks_behind_a_space false old mid new passes other rest passed =
    let same = other refl in (
      subst (λ (p : Place). ahead new ≡ behind is_blank (ahead p)) same rest,
      subst (λ (p : Place). Passes (leading is_blank (ahead p)) p new) same passed,
    )

-- any bytes of the class that were passed
pub among_of : (test : ℕ → Bool) (bytes : List ℕ) (old new : Place) → list_all test bytes ≡ true → Passes bytes old new
    → IsAmong test bytes old new
among_of test bytes old new all p = record {
  all = all;
  passed = p;
  front = ap (leading test) p.split ∙ leading_skips test bytes (ahead new) all;
  rest = ap (behind test) p.split ∙ behind_skips test bytes (ahead new) all;
}

-- where none of the class is left, all were passed
among_all : (test : ℕ → Bool) (bytes : List ℕ) (old new : Place) → IsAmong test bytes old new → leading test (ahead new) ≡ []
    → leading test (ahead old) ≡ bytes
among_all test bytes old new m none = m.front ∙ ap (λ (l : List ℕ). bytes ++ l) none ∙ append-nil bytes

pub record IsAll (test : ℕ → Bool) (bytes : List ℕ) (old new : Place) : Type 0 where
  pub front : leading test (ahead old) ≡ bytes
  pub rest : ahead new ≡ behind test (ahead old)
  pub all : list_all test bytes ≡ true
  pub passed : Passes bytes old new

pub all_passed : (test : ℕ → Bool) (bytes : List ℕ) (old new : Place) → IsAmong test bytes old new → leading test (ahead new) ≡ []
    → IsAll test bytes old new
all_passed test bytes old new m none = record {
  front = among_all test bytes old new m none;
  rest = sym (leading_and_behind test (ahead new)) ∙ ap (λ (l : List ℕ). l ++ behind test (ahead new)) none ∙ sym m.rest;
  all = m.all;
  passed = m.passed;
}

-- at most a given number of those in front
pub some_passed : (test : ℕ → Bool) (bytes : List ℕ) (old new : Place) (most : ℕ) → IsAmong test bytes old new
    → (length bytes ≡ most) ⊎ ((length bytes ≤ most) × (leading test (ahead new) ≡ [])) → take most (leading test (ahead old)) ≡ bytes
some_passed test bytes old new most m (inl full) =
    ap (take most) m.front ∙ ap (λ (n : ℕ). take n (bytes ++ leading test (ahead new))) (sym full)
    ∙ take_front bytes (leading test (ahead new))
some_passed test bytes old new most m (inr none) = ap (take most) (among_all test bytes old new m none.1) ∙ take_all most bytes none.0
