-- An input has one answer.
use Rattle.std.proofs.Common.{◌≡◌, ◌⊎◌, ℕ, suc, ◌+◌, ◌<◌, ◌≤◌, ◌==◌, true, false, true≢false, List, [], ◌∷◌, ◌++◌, length, All, AllPairs}
use Rattle.std.proofs.Common.{get_or, Result, Ok, Err, refl, sym, ◌∙◌, ap, subst, inl, inr, ⊎_elim, arith}
use Rattle.std.proofs.lemmas.Bool.Decides.{nat_tests}
use Rattle.std.proofs.lemmas.List.{get_or_default}
use Rattle.std.proofs.lemmas.List.Sorted.{All-permutation}
use Rattle.forms.specs.Answers.{Is, Then}
use Rattle.forms.specs.Forms.{Reads}
use Rattle.forms.specs.Lines.{lines}
use Rattle.forms.specs.declared.cause.Cause.{Cause}
use Rattle.forms.specs.declared.form.Form.{Form}
use Rattle.forms.specs.declared.form.Form.TheVariants.{Toml, Fancy}
use Rattle.forms.specs.declared.value.Value.{Value}
use Rattle.forms.specs.form.FileTime as file_time
use Rattle.whole_input.specs.Parts.{HasNo}
use Rattle.whole_input.specs.Numbered.{AreRead, IsFirstFault}
use Rattle.schedule_check.specs.Clashes.{IsNotAfter, IsOrderOf, Overlap, ClashAt, IsFirstClash, HasNoClash, slot_at}
use Rattle.schedule_check.specs.Slots.{ReadsAs, nanos_of, slot_of_length, IsSlotFrom, IsSlotOf, IsSlot}
use Rattle.schedule_check.specs.Checks.{IsSchedule, IsClashOf, Checks}
use Rattle.schedule_check.specs.declared.check_error.CheckError.{CheckError}
use Rattle.schedule_check.specs.declared.check_error.CheckError.TheVariants.{Refused, Clash, NoMemory}
use Rattle.schedule_check.specs.declared.fault.Fault.{Fault}
use Rattle.schedule_check.specs.declared.slot.Slot.{Slot}
use Rattle.schedule_check.proofs.Ordered.{starts_rise}
use Rattle.schedule_check.proofs.OneOrder.{one_order}
use Rattle.schedule_check.proofs.Slots.{all_proper}

-- a text stands for one value at most in each form
abbrev pub HasOneReading : Type 0
HasOneReading = (form : Form) (text : List ℕ) (a b : Result Value Cause) → Reads form text a → Reads form text b → a ≡ b

-- ---- one split

mark_is : (mark byte : ℕ) → mark ≡ byte → (byte == mark) ≡ false → ⊥
mark_is mark byte same not = let e : (byte == mark) ≡ true = grind (arith, nat_tests) in true≢false (sym e ∙ not)

split_one : (mark : ℕ) (f g b c : List ℕ) → HasNo mark f → HasNo mark g → f ++ mark ∷ b ≡ g ++ mark ∷ c → (f ≡ g) × (b ≡ c)
split_one mark [] [] b c nf ng h = (refl, cc)
split_one mark [] (y ∷ g) b c nf ng h = let e : mark ≡ y = cc in absurd (mark_is mark y e ng.0)
split_one mark (x ∷ f) [] b c nf ng h = let e : mark ≡ x = cc in absurd (mark_is mark x e nf.0)
split_one mark (x ∷ f) (y ∷ g) b c nf ng h = let tails : f ++ mark ∷ b ≡ g ++ mark ∷ c = cc in let rest =
    split_one mark f g b c nf.1 ng.1 tails in let first : x ≡ y = cc in (let same = rest.0 in cc, rest.1)

-- ---- one slot of a line

then_one : (f : Value → Result ℕ Cause) (v : Result Value Cause) (a b : Result ℕ Cause) → Then (Is f) v a → Then (Is f) v b → a ≡ b
then_one f (Ok x) a b h k = h ∙ sym k
then_one f (Err cause) a b h k = h ∙ sym k

as_one : HasOneReading → (form : Form) (f : Value → Result ℕ Cause) (text : List ℕ) (a b : Result ℕ Cause) → ReadsAs form f text a
    → ReadsAs form f text b → a ≡ b
as_one one form f text a b h k = then_one f k.0 a b (subst (λ (v : Result Value Cause). Then (Is f) v a)
    (one form text h.0 k.0 h.1 k.1) h.2) k.2

from_one : HasOneReading → (ticks : Result ℕ Cause) (length : List ℕ) (line : ℕ) (a b : Result Slot Fault) → IsSlotFrom ticks length line a
    → IsSlotFrom ticks length line b → a ≡ b
from_one one (Ok start) length line a b h k = h.2 ∙ (ap (slot_of_length line start) (as_one one Fancy nanos_of length h.0 k.0 h.1 k.1)
    ∙ sym k.2)
from_one one (Err cause) length line a b h k = h ∙ sym k

of_one : HasOneReading → (start length : List ℕ) (line : ℕ) (a b : Result Slot Fault) → IsSlotOf start length line a
    → IsSlotOf start length line b → a ≡ b
of_one one start length line a b h k =
    from_one one k.0 length line a b (subst (λ (t : Result ℕ Cause). IsSlotFrom t length line a)
    (as_one one Toml file_time.held start h.0 k.0 h.1 k.1) h.2) k.2

pub one_slot : HasOneReading → (text : List ℕ) (line : ℕ) (a b : Result Slot Fault) → IsSlot text line a → IsSlot text line b → a ≡ b
one_slot one text line a b (inl h) (inl k) = h.1 ∙ sym k.1
one_slot one text line a b (inl h) (inr k) = absurd (h.0 k.0 k.1 k.2)
one_slot one text line a b (inr h) (inl k) = absurd (k.0 h.0 h.1 h.2)
one_slot one text line a b (inr h) (inr k) =
    let parts = split_one 9 h.0 k.0 h.1 k.1 h.2.split.first k.2.split.first (sym h.2.split.joined ∙ k.2.split.joined) in
    of_one one k.0 k.1 line a b (subst (λ (l : List ℕ). IsSlotOf k.0 l line a) parts.1
    (subst (λ (s : List ℕ). IsSlotOf s h.1 line a) parts.0 h.3)) k.3

-- ---- one list of slots, and one first fault

ok_one : (a b : Slot) → ◌≡◌ {A = Result Slot Fault} (Ok a) (Ok b) → a ≡ b
ok_one a b h = cc

err_one : (a b : Fault) → ◌≡◌ {A = Result Slot Fault} (Err a) (Err b) → a ≡ b
err_one a b h = cc

never : (a : Slot) (b : Fault) → ◌≡◌ {A = Result Slot Fault} (Ok a) (Err b) → ⊥
never a b h = cc

pub read_one : HasOneReading → (n : ℕ) (texts : List (List ℕ)) (xs ys : List Slot) → AreRead IsSlot n texts xs → AreRead IsSlot n texts ys
    → xs ≡ ys
read_one one n [] xs ys h k = h ∙ sym k
read_one one n (text ∷ texts) xs ys h k =
    let first = ok_one h.0 k.0 (one_slot one text n (Ok h.0) (Ok k.0) h.2 k.2) in
    let rest = read_one one (n + 1) texts h.1 k.1 h.3 k.3 in
    let a = h.4 in let b = k.4 in
    cc

fault_one : HasOneReading → (n : ℕ) (before other : List (List ℕ)) (line line' : List ℕ) (after after' : List (List ℕ)) (xs ys : List Slot)
    (f g : Fault)
    → before ++ line ∷ after ≡ other ++ line' ∷ after' → AreRead IsSlot n before xs → AreRead IsSlot n other ys
    → IsSlot line (n + length before) (Err f) → IsSlot line' (n + length other) (Err g)
    → (length before ≡ length other) × (f ≡ g)
fault_one one n [] [] line line' after after' xs ys f g same h k bad bad' =
    let here : line ≡ line' = cc in
    (refl, err_one f g (one_slot one line' (n + 0) (Err f) (Err g) (subst (λ (l : List ℕ). IsSlot l (n + 0) (Err f)) here bad) bad'))
fault_one one n [] (text ∷ other) line line' after after' xs ys f g same h k bad bad' =
    let here : line ≡ text = cc in
    absurd (never k.0 f (one_slot one text n (Ok k.0) (Err f) k.2
    (subst (λ (l : List ℕ). IsSlot l n (Err f)) here (subst (λ (m : ℕ). IsSlot line m (Err f)) (omega arith) bad))))
fault_one one n (text ∷ before) [] line line' after after' xs ys f g same h k bad bad' =
    let here : line' ≡ text = cc in
    absurd (never h.0 g (one_slot one text n (Ok h.0) (Err g) h.2
    (subst (λ (l : List ℕ). IsSlot l n (Err g)) here (subst (λ (m : ℕ). IsSlot line' m (Err g)) (omega arith) bad'))))
fault_one one n (text ∷ before) (text' ∷ other) line line' after after' xs ys f g same h k bad bad' =
    let tails : before ++ line ∷ after ≡ other ++ line' ∷ after' = cc in
    let rest = fault_one one (n + 1) before other line line' after after' h.1 k.1 f g tails h.3 k.3
    (subst (λ (m : ℕ). IsSlot line m (Err f)) (omega arith) bad) (subst (λ (m : ℕ). IsSlot line' m (Err g)) (omega arith) bad') in
    (ap suc rest.0, rest.1)

one_fault : HasOneReading → (texts : List (List ℕ)) (n m : ℕ) (f g : Fault) → IsFirstFault IsSlot texts n f → IsFirstFault IsSlot texts m g
    → (n ≡ m) × (f ≡ g)
one_fault one texts n m f g h k =
    let both = fault_one one 1 h.before k.before h.line k.line h.after k.after h.values k.values f g (sym h.split ∙ k.split) h.read k.read
    (subst (λ (i : ℕ). IsSlot h.line i (Err f)) (let c = h.counted in omega (arith, c)) h.faulty)
    (subst (λ (i : ℕ). IsSlot k.line i (Err g)) (let c = k.counted in omega (arith, c)) k.faulty) in
    (let a = h.counted in let b = k.counted in let e = both.0 in omega (arith, a, b, e), both.1)

read_at : (n : ℕ) (before : List (List ℕ)) (line : List ℕ) (after : List (List ℕ)) (xs : List Slot)
    → AreRead IsSlot n (before ++ line ∷ after) xs → (s : Slot) × IsSlot line (n + length before) (Ok s)
read_at n [] line after xs h = (h.0, subst (λ (m : ℕ). IsSlot line m (Ok h.0)) (omega arith) h.2)
read_at n (text ∷ before) line after xs h = let rest = read_at (n + 1) before line after h.1 h.3 in
    (rest.0, subst (λ (m : ℕ). IsSlot line m (Ok rest.0)) (omega arith) rest.1)

not_both : HasOneReading → (texts : List (List ℕ)) (xs : List Slot) (n : ℕ) (f : Fault) → AreRead IsSlot 1 texts xs
    → IsFirstFault IsSlot texts n f → ⊥
not_both one texts xs n f read h =
    let good = read_at 1 h.before h.line h.after xs (subst (λ (l : List (List ℕ)). AreRead IsSlot 1 l xs) h.split read) in
    never good.0 f (one_slot one h.line n (Ok good.0) (Err f) (subst (λ (m : ℕ). IsSlot h.line m (Ok good.0))
    (let c = h.counted in omega (arith, c)) good.1) h.faulty)

-- ---- one order, and one first clash

schedule_one : HasOneReading → (input : List ℕ) (a b : List Slot) → IsSchedule input a → IsSchedule input b → a ≡ b
schedule_one one input a b h k =
    let same = read_one one 1 (lines input) h.slots k.slots h.read k.read in
    one_order (lines input) k.slots a b k.read (subst (λ (l : List Slot). IsOrderOf l a) same h.order) k.order

proper_order : (input : List ℕ) (ordered : List Slot) → IsSchedule input ordered → All (λ (s : Slot). s.start < s.end) ordered
proper_order input ordered h = All-permutation (λ (s : Slot). s.start < s.end) h.slots ordered h.order.same
    (all_proper 1 (lines input) h.slots h.read)

-- of two slots that clash with a later one the earlier clashes with the other, which then isn't the least
no_earlier : (slots : List Slot) (i k j : ℕ) → AllPairs IsNotAfter slots → All (λ (s : Slot). s.start < s.end) slots → i < k
    → ClashAt slots i j → ClashAt slots k j
    → ((a b : ℕ) → ClashAt slots a b → j ≤ b) → ⊥
no_earlier slots i k j order proper less first second least =
    let none : Slot = record { start = 0; end = 0; line = 0 } in
    let inside : k < length slots = let x = second.0 in let y = second.1 in omega (arith, x, y) in
    let up = starts_rise slots order i k none (omega arith) inside in
    let on = starts_rise slots order k j none (let x = second.0 in omega (arith, x)) second.1 in
    let own = proper k none inside in
    let later : (slot_at slots j).start < (slot_at slots i).end = first.2.1 in
    let last = least i k (less, inside, (omega (arith, up, own), omega (arith, on, later))) in
    let before = second.0 in
    omega (arith, last, before)

orders : (i k : ℕ) → (i < k) ⊎ ((i ≡ k) ⊎ (k < i))
orders i k = grind arith

pub clash_one : (slots : List Slot) (i j k l : ℕ) → AllPairs IsNotAfter slots → All (λ (s : Slot). s.start < s.end) slots
    → IsFirstClash slots i j → IsFirstClash slots k l → (i ≡ k) × (j ≡ l)
clash_one slots i j k l order proper h g =
    let low = h.least k l g.clash in
    let high = g.least i j h.clash in
    let same : j ≡ l = omega (arith, low, high) in
    let other : ClashAt slots k j = subst (λ (n : ℕ). ClashAt slots k n) (sym same) g.clash in (
      ⊎_elim
          (λ less. absurd (no_earlier slots i k j order proper less h.clash other h.least))
          (λ rest. ⊎_elim (λ equal. equal) (λ less. absurd (no_earlier slots k i j order proper less other h.clash h.least)) rest)
          (orders i k),
      same,
    )

clash_lines : (input : List ℕ) (ordered : List Slot) (a b c d : ℕ) → IsSchedule input ordered → IsClashOf ordered a b
    → IsClashOf ordered c d → (a ≡ c) × (b ≡ d)
clash_lines input ordered a b c d schedule h k =
    let same = clash_one ordered h.0 h.1 k.0 k.1 schedule.order.in_order (proper_order input ordered schedule) h.2 k.2 in
    (h.3 ∙ (ap (λ (n : ℕ). (slot_at ordered n).line) same.0 ∙ sym k.3), h.4 ∙ (ap (λ (n : ℕ). (slot_at ordered n).line) same.1 ∙ sym k.4))

-- ---- one answer

pub one_answer : HasOneReading → (input : List ℕ) (a b : Result (List Slot) CheckError) → Checks input a → Checks input b → a ≡ b
one_answer one input (Ok xs) (Ok ys) h k = ap Ok (schedule_one one input xs ys h.0 k.0)
one_answer one input (Ok xs) (Err (Refused m g)) h k = absurd (not_both one (lines input) h.0.slots m g h.0.read k)
one_answer one input (Ok xs) (Err (Clash c d)) h k = absurd (h.1 k.2.0 k.2.1
    (subst (λ (l : List Slot). ClashAt l k.2.0 k.2.1) (schedule_one one input k.0 xs k.1 h.0) k.2.2.clash))
one_answer one input (Err (Refused n f)) (Ok ys) h k = absurd (not_both one (lines input) k.0.slots n f k.0.read h)
one_answer one input (Err (Refused n f)) (Err (Refused m g)) h k = let same = one_fault one (lines input) n m f g h k in let a = same.0 in
    let b = same.1 in cc
one_answer one input (Err (Refused n f)) (Err (Clash c d)) h k = absurd (not_both one (lines input) k.1.slots n f k.1.read h)
one_answer one input (Err (Clash a b)) (Ok ys) h k = absurd (k.1 h.2.0 h.2.1
    (subst (λ (l : List Slot). ClashAt l h.2.0 h.2.1) (schedule_one one input h.0 ys h.1 k.0) h.2.2.clash))
one_answer one input (Err (Clash a b)) (Err (Refused m g)) h k = absurd (not_both one (lines input) h.1.slots m g h.1.read k)
one_answer one input (Err (Clash a b)) (Err (Clash c d)) h k =
    let same = clash_lines input k.0 a b c d k.1 (subst (λ (l : List Slot). IsClashOf l a b) (schedule_one one input h.0 k.0 h.1 k.1) h.2)
    k.2 in
    let x = same.0 in let y = same.1 in cc
one_answer one input (Err NoMemory) b h k = absurd h
one_answer one input a (Err NoMemory) h k = absurd k

-- ---- what is no clash

by_or_later : (m n : ℕ) → (m ≤ n) ⊎ (n < m)
by_or_later m n = grind arith

apart_by : (a b : Slot) → a.start ≤ b.start → b.start < b.end → (Overlap a b → ⊥) → a.end ≤ b.start
apart_by a b up own free = ⊎_elim (λ by. by) (λ later. absurd (free (omega (arith, up, own), later))) (by_or_later a.end b.start)

apart_or : (slots : List Slot) (i j : ℕ) (d : Slot) → AllPairs IsNotAfter slots → All (λ (s : Slot). s.start < s.end) slots
    → HasNoClash slots → i < j → j < length slots
    → ((get_or slots i d).end ≤ (get_or slots j d).start) × ((get_or slots j d).start < (get_or slots j d).end)
apart_or slots i j d order proper free less inside =
    let none : Slot = record { start = 0; end = 0; line = 0 } in
    let first = get_or_default slots i d none (omega arith) in
    let second = get_or_default slots j d none inside in
    let up = starts_rise slots order i j none (omega arith) inside in
    let own = proper j none inside in
    let told : (get_or slots i none).end ≤ (get_or slots j none).start = apart_by (get_or slots i none) (get_or slots j none) up own
    (λ clash. free i j (less, inside, clash)) in
    (rw (first, second) told, rw second own)

pub slots_apart : (input : List ℕ) (ordered : List Slot) → Checks input (Ok ordered) → AllPairs (λ (a b : Slot). a.end ≤ b.start) ordered
slots_apart input ordered h = λ i j d less inside. (apart_or ordered i j d h.0.order.in_order
    (proper_order input ordered h.0) h.1 less inside).0

pub ends_rise : (input : List ℕ) (ordered : List Slot) → Checks input (Ok ordered) → AllPairs (λ (a b : Slot). a.end < b.end) ordered
ends_rise input ordered h = λ i j d less inside.
    let both = apart_or ordered i j d h.0.order.in_order (proper_order input ordered h.0) h.1 less inside in
    let x = both.0 in let y = both.1 in
    omega (arith, x, y)
