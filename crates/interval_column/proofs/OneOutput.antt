-- An input has one column or one first line with a fault, and so one output and one status.
use Rattle.std.proofs.Common.{◌≡◌, ◌↔◌, ◌⊎◌, ℕ, List, Option, Result, Ok, Err, refl, sym, ◌∙◌, ap, subst, inl, inr, arith}
use Rattle.std.specs.Prelude.{IsErr}
use Rattle.pg_interval_2.specs.declared.interval.Interval.{Interval}
use Rattle.pg_interval_2.specs.declared.style.Style.{Style}
use Rattle.forms.specs.Lines.{lines}
use Rattle.forms.specs.Ends.{Streams}
use Rattle.whole_input.specs.Numbered.{IsFirstFault}
use Rattle.forms.specs.Outside.{AppendsFront}
use Rattle.whole_input.specs.Outcomes.{EndedWhole, GainsPart, MeansStatus}
use Rattle.interval_column.specs.declared.fault.ColumnError.{ColumnError}
use Rattle.interval_column.specs.declared.fault.ColumnError.TheVariants.{Refused, NoMemory}
use Rattle.interval_column.specs.declared.fault.LineFault.{LineFault}
use Rattle.interval_column.specs.Columns.{IsColumn}
use Rattle.interval_column.specs.Lines.{HasFault, IsRead}
use Rattle.interval_column.specs.Output.{Tells, column_text, fault_line}
use Rattle.interval_column.specs.Readings.{IsColumnOf, ReadsColumn}
use Rattle.interval_column.proofs.LinesRead.{OneLine, read_one, one_fault, no_fault, first_is_fault}
use Rattle.interval_column.proofs.OneColumn.{one_column}

column_one : OneLine → (input : List ℕ) (a b : List Interval) → IsColumnOf input a → IsColumnOf input b → a ≡ b
column_one one input a b h k =
    one_column k.0 a b (subst (λ (l : List Interval). IsColumn l a) (read_one one 1 1 (lines input) h.0 k.0 h.1 k.1) h.2) k.2

pub not_both : OneLine → (input : List ℕ) (sorted : List Interval) → HasFault (lines input) → IsColumnOf input sorted → ⊥
not_both one input sorted fault h = no_fault one 1 (lines input) h.0 h.1 fault

refused_one : (n m : ℕ) (f g : LineFault) → n ≡ m → f ≡ g → ◌≡◌ {A = Result (List Interval) ColumnError} (Err (Refused n f))
    (Err (Refused m g))
refused_one n m f g same fault = cc

pub one_reading : OneLine → (input : List ℕ) (a b : Result (List Interval) ColumnError) → ReadsColumn input a → ReadsColumn input b → a ≡ b
one_reading one input (Ok xs) (Ok ys) h k = ap Ok (column_one one input xs ys h k)
one_reading one input (Ok xs) (Err (Refused m g)) h k = absurd (not_both one input xs (first_is_fault (lines input) m g k) h)
one_reading one input (Err (Refused n f)) (Ok ys) h k = absurd (not_both one input ys (first_is_fault (lines input) n f h) k)
one_reading one input (Err (Refused n f)) (Err (Refused m g)) h k = let same = one_fault one (lines input) n m f g h k in
    refused_one n m f g same.0 same.1
one_reading one input (Err NoMemory) b h k = absurd h
one_reading one input a (Err NoMemory) h k = absurd k

-- an input has one reading
abbrev pub OneReading : Type 0
OneReading = (input : List ℕ) (a b : Result (List Interval) ColumnError) → ReadsColumn input a → ReadsColumn input b → a ≡ b

ok_is : (a b : List Interval) → ◌≡◌ {A = Result (List Interval) ColumnError} (Ok a) (Ok b) → a ≡ b
ok_is a b h = cc

number_is : (n m : ℕ) (f g : LineFault) → ◌≡◌ {A = Result (List Interval) ColumnError} (Err (Refused n f)) (Err (Refused m g)) → n ≡ m
number_is n m f g h = cc

fault_is : (n m : ℕ) (f g : LineFault) → ◌≡◌ {A = Result (List Interval) ColumnError} (Err (Refused n f)) (Err (Refused m g)) → f ≡ g
fault_is n m f g h = cc

never : (a : List Interval) (n : ℕ) (f : LineFault) → ◌≡◌ {A = Result (List Interval) ColumnError} (Err (Refused n f)) (Ok a) → ⊥
never a n f h = cc

-- two lines about the same fault are equal
same_line : (n m : ℕ) (f g : LineFault) → n ≡ m → f ≡ g → fault_line n f ≡ fault_line m g
same_line n m f g same fault = cc

pub one_output : OneReading → (style : Style) (input a b : List ℕ) (s t : ℕ) → Tells style input a s → Tells style input b t → (a ≡ b)
    × (s ≡ t)
one_output one style input a b s t (inl (n, f, h, out, status)) (inl (m, g, k, out', status')) =
    let same = one input (Err (Refused n f)) (Err (Refused m g)) h k in
    (out ∙ (same_line n m f g (number_is n m f g same) (fault_is n m f g same) ∙ sym out'), status ∙ sym status')
one_output one style input a b s t (inl (n, f, h, out, status)) (inr (ys, k, out', status')) =
    absurd (never ys n f (one input (Err (Refused n f)) (Ok ys) h k))
one_output one style input a b s t (inr (xs, h, out, status)) (inl (m, g, k, out', status')) =
    absurd (never xs m g (one input (Err (Refused m g)) (Ok xs) k h))
one_output one style input a b s t (inr (xs, h, out, status)) (inr (ys, k, out', status')) =
    (out ∙ (ap (column_text style) (ok_is xs ys (one input (Ok xs) (Ok ys) h k)) ∙ sym out'), status ∙ sym status')

-- an input in which a line has a fault has no column
abbrev pub NotBoth : Type 0
NotBoth = (input : List ℕ) (sorted : List Interval) → HasFault (lines input) → IsColumnOf input sorted → ⊥

pub faulty_is_err : NotBoth → (input : List ℕ) (r : Result (List Interval) ColumnError) → (r ≡ Err NoMemory) ⊎ ReadsColumn input r
    → HasFault (lines input) → IsErr r
faulty_is_err not input (Ok xs) (inl none) fault = absurd (no_memory_is xs none)
  where
    no_memory_is : (xs : List Interval) → ◌≡◌ {A = Result (List Interval) ColumnError} (Ok xs) (Err NoMemory) → ⊥
    no_memory_is xs h = absurd (let other : Ok xs ≡ Err NoMemory = h in cc)
faulty_is_err not input (Ok xs) (inr h) fault = absurd (not input xs fault h)
faulty_is_err not input (Err e) h fault = refl

pub status_8 : NotBoth → (style : Style) (input out : List ℕ) (status : ℕ) → Tells style input out status → (status ≡ 8)
    ↔ HasFault (lines input)
status_8 not style input out status (inl (n, f, h, told, is)) = (λ same. first_is_fault (lines input) n f h, λ fault. is)
status_8 not style input out status (inr (xs, h, told, is)) = (
  λ same. absurd (omega (arith, same, is)),
  λ fault. absurd
      (not input xs fault h),
)

pub status_0 : NotBoth → (style : Style) (input out : List ℕ) (status : ℕ) → Tells style input out status → (status ≡ 0)
    ↔ (HasFault (lines input) → ⊥)
status_0 not style input out status (inl (n, f, h, told, is)) =
    (λ same. absurd (omega (arith, same, is)), λ none. absurd (none (first_is_fault (lines input) n f h)))
status_0 not style input out status (inr (xs, h, told, is)) = (λ same. λ fault. not input xs fault h, λ none. is)

-- ---- the same in another style that is equal

pub ended_as : (s t : Style) (limit : ℕ) (old new : Streams) (status : ℕ) → s ≡ t → EndedWhole (Tells s) limit old new status
    → EndedWhole (Tells t) limit old new status
ended_as s t limit old new status same h = subst (λ (style : Style). EndedWhole (Tells style) limit old new status) same h

pub means_as : (s t : Style) (limit : ℕ) (old new : Streams) (status : ℕ) → s ≡ t → MeansStatus (Tells s) limit old new status
    → MeansStatus (Tells t) limit old new status
means_as s t limit old new status same h = subst (λ (style : Style). MeansStatus (Tells style) limit old new status) same h

-- the line about a fault is what is told of the input
pub tells_fault : (style : Style) (input : List ℕ) (n : ℕ) (fault : LineFault) → IsFirstFault IsRead (lines input) n fault
    → Tells style input (fault_line n fault) 8
tells_fault style input n fault h = inl (n, fault, h, refl, refl)

pub fault_part : (style : Style) (input : List ℕ) (old new : Option (List ℕ)) (R : Type 0) (n m : ℕ) (fault other : LineFault) → n ≡ m
    → fault ≡ other → IsFirstFault IsRead (lines input) n fault
    → R × AppendsFront old new (fault_line m other) → R × GainsPart (Tells style) input old new
fault_part style input old new R n m fault other same alike h front = (
  front.0,
  (
    fault_line n fault,
    8,
    tells_fault style input n fault h,
    subst (AppendsFront old new) (sym (same_line n m fault other same alike)) front.1,
  ),
)
