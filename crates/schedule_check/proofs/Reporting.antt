-- Lemmas on the report's lines.
use Rattle.std.proofs.Common.{◌≡◌, ◌⊎◌, ℕ, zero, suc, ◌+◌, ◌<◌, List, [], ◌∷◌, ◌++◌, length, take, drop, get_or, Option, codes, decimal}
use Rattle.std.proofs.Common.{Result, Ok, Err, OnErr, refl, sym, ◌∙◌, ap, ⊎_elim, append_assoc, append-nil, arith}
use Rattle.forms.specs.Outside.{AppendsFront}
use Rattle.whole_input.specs.Outcomes.{GainsPart}
use Rattle.schedule_check.specs.Checks.{Checks}
use Rattle.schedule_check.specs.Reports.{Reports, slot_line, slot_lines, clash_line, fault_line, fault_text, report_of, report_status}
use Rattle.schedule_check.specs.declared.check_error.CheckError.{CheckError}
use Rattle.schedule_check.specs.declared.check_error.CheckError.TheVariants.{NoMemory}
use Rattle.schedule_check.specs.declared.fault.Fault.{Fault}
use Rattle.schedule_check.specs.declared.slot.Slot.{Slot}

-- a number and what stands behind it that were pushed, in front of a rest
pushed : (a b digits behind rest : List ℕ) → b ≡ a ++ (digits ++ behind) → b ++ rest ≡ a ++ (digits ++ (behind ++ rest))
pushed a b digits behind rest h =
    ap (λ (l : List ℕ). l ++ rest) h
    ∙ (append_assoc a (digits ++ behind) rest ∙ ap (λ (l : List ℕ). a ++ l) (append_assoc digits behind rest))

-- a first word in front of a rest
first_word : (a b word rest : List ℕ) → a ≡ [] → b ≡ a ++ word → b ++ rest ≡ word ++ rest
first_word a b word rest none h = ap (λ (l : List ℕ). l ++ rest) (h ∙ ap (λ (l : List ℕ). l ++ word) none)

pub slot_pushed : (s : Slot) (a b c d : List ℕ) → a ≡ [] → b ≡ a ++ (decimal s.start ++ codes " ") → c ≡ b ++ (decimal s.end ++ codes " ")
    → d ≡ c ++ (decimal s.line ++ codes "\n") → d ≡ slot_line s
unfolding slot_line
slot_pushed s a b c d ha hb hc hd =
    let third : List ℕ = decimal s.line ++ codes "\n" in
    let second : List ℕ = decimal s.end ++ (codes " " ++ third) in
    let first : List ℕ = decimal s.start ++ (codes " " ++ second) in
    hd
    ∙ (pushed b c (decimal s.end) (codes " ") third hc
    ∙ (pushed a b (decimal s.start) (codes " ") second hb ∙ ap (λ (l : List ℕ). l ++ first) ha))

pub clash_pushed : (first second : ℕ) (a b c d : List ℕ) → a ≡ [] → b ≡ a ++ codes "clash " → c ≡ b ++ (decimal first ++ codes " ")
    → d ≡ c ++ (decimal second ++ codes "\n") → d ≡ clash_line first second
unfolding clash_line
clash_pushed first second a b c d ha hb hc hd =
    let rest : List ℕ = decimal second ++ codes "\n" in
    hd
    ∙ (pushed b c (decimal first) (codes " ") rest hc ∙ first_word a b (codes "clash ") (decimal first ++ (codes " " ++ rest)) ha hb)

pub fault_pushed : (line : ℕ) (fault : Fault) (a b c d e : List ℕ) → a ≡ [] → b ≡ a ++ codes "line " → c ≡ b ++ (decimal line ++ codes " ")
    → d ≡ c ++ fault_text fault → e ≡ d ++ codes "\n" → e ≡ fault_line line fault
unfolding fault_line
fault_pushed line fault a b c d e ha hb hc hd he =
    let rest : List ℕ = fault_text fault ++ codes "\n" in
    he
    ∙ (ap (λ (l : List ℕ). l ++ codes "\n") hd
    ∙ (append_assoc c (fault_text fault) (codes "\n")
    ∙ (pushed b c (decimal line) (codes " ") rest hc ∙ first_word a b (codes "line ") (decimal line ++ (codes " " ++ rest)) ha hb)))

-- ---- all slots

next : (n : ℕ) → suc n + 1 ≡ suc (n + 1)
next n = omega arith

pub one_more_line : (slots : List Slot) (n : ℕ) (d : Slot) → n < length slots
    → slot_lines (take (n + 1) slots) ≡ slot_lines (take n slots) ++ slot_line (get_or slots n d)
one_more_line [] n d inside = absurd (omega arith)
one_more_line (s ∷ slots) zero d inside = append-nil (slot_line s)
one_more_line (s ∷ slots) (suc n) d inside =
    ap (λ (m : ℕ). slot_lines (take m (s ∷ slots))) (next n)
    ∙ (ap (λ (l : List ℕ). slot_line s ++ l) (one_more_line slots n d (omega arith))
    ∙ sym (append_assoc (slot_line s) (slot_lines (take n slots)) (slot_line (get_or slots n d))))

-- the lines of so many slots, and those of the others
lines_cut : (slots : List Slot) (n : ℕ) → slot_lines slots ≡ slot_lines (take n slots) ++ slot_lines (drop n slots)
lines_cut slots zero = refl
lines_cut [] (suc n) = refl
lines_cut (s ∷ slots) (suc n) =
    ap (λ (l : List ℕ). slot_line s ++ l) (lines_cut slots n) ∙ sym
    (append_assoc (slot_line s) (slot_lines (take n slots)) (slot_lines (drop n slots)))

-- a front of what waits and the lines of some slots is a front of what waits and all lines
pub front_of_lines : (a b : Option (List ℕ)) (before : List ℕ) (slots : List Slot) (n : ℕ) (d : Slot) → n < length slots
    → AppendsFront a b (before ++ (slot_lines (take n slots) ++ slot_line (get_or slots n d)))
    → AppendsFront a b (before ++ slot_lines slots)
front_of_lines a b before slots n d inside h =
    let last : List ℕ = slot_lines (drop (n + 1) slots) in
    let all : slot_lines slots ≡ (slot_lines (take n slots) ++ slot_line (get_or slots n d)) ++ last =
    lines_cut slots (n + 1) ∙ ap (λ (l : List ℕ). l ++ last) (one_more_line slots n d inside) in
    record {
      front = h.front;
      back = h.back ++ last;
      split = ap (λ (l : List ℕ). before ++ l) all
          ∙ (sym (append_assoc before (slot_lines (take n slots) ++ slot_line (get_or slots n d)) last)
          ∙ (ap (λ (l : List ℕ). l ++ last) h.split ∙ append_assoc h.front h.back last));
      written = h.written;
    }

-- a fact that holds holds where a call failed
pub on_err : {T E : Type 0} (P : Type 0) (r : Result T E) → P → OnErr r P
on_err P (Ok x) h = tt
on_err P (Err e) h = h

-- ---- the report

-- a front of what is written of an answer is one of the report on the input
pub gains_front : (input : List ℕ) (answer : Result (List Slot) CheckError) (a b : Option (List ℕ)) → (answer ≡ Err NoMemory)
    ⊎ Checks input answer → (answer ≡ Err NoMemory → ⊥)
    → AppendsFront a b (report_of answer) → GainsPart Reports input a b
gains_front input answer a b h some front =
    ⊎_elim (λ none. absurd (some none)) (λ checked. (report_of answer, report_status answer, (answer, checked, refl, refl), front)) h
