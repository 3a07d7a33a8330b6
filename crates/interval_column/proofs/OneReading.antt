-- A line is read in one way.
use Rattle.std.proofs.Common.{◌≡◌, ◌&&◌, ℕ, Bool, true, false, true≢false, List, Some, None, Result, Ok, Err, refl, sym}
use Rattle.std.proofs.Common.{◌∙◌, ap, subst, inl, inr}
use Rattle.std.specs.Prelude.{IsTrue}
use Rattle.scan_core.specs.Count.{Count}
use Rattle.scan_core.specs.Sums.{total, fits, misfit, part_fits, first_false}
use Rattle.scan_core.specs.declared.share.Part.{Part}
use Rattle.scan_core.specs.declared.share.Part.TheVariants.{Months, Days, Micros}
use Rattle.pg_interval_2.specs.Styles.{Shape}
use Rattle.pg_interval_2.specs.declared.interval.Interval.{Interval}
use Rattle.pg_interval_2.specs.declared.style.Style.{Style}
use Rattle.interval_column.specs.declared.fault.LineFault.{LineFault}
use Rattle.interval_column.specs.declared.fault.LineFault.TheVariants.{Line, Syntax, Range}
use Rattle.interval_column.specs.Lines.{IsTextRead, IsLineRead}
use Rattle.interval_column.proofs.Labels.{one_entry}

-- the sums of the shares of counts
abbrev sum_of : List Count → Interval
sum_of counts = record { months = total Months counts; days = total Days counts; microseconds = total Micros counts }

-- a text spells one list of counts in a style
abbrev pub OneList : Type 0
OneList = (style : Style) (text : List ℕ) (a b : List Count) → Shape style text a → Shape style text b → a ≡ b

none_out : (a b c : Bool) (part : Part) → IsTrue (a && (b && c)) → first_false a b c ≡ Some part → ⊥
none_out true true true part h k = absurd (let other : None ≡ Some part = k in cc)
none_out true true false part h k = true≢false (sym h)
none_out true false c part h k = true≢false (sym h)
none_out false b c part h k = true≢false (sym h)

fits_or_not : (counts : List Count) (part : Part) → IsTrue (fits counts) → misfit counts ≡ Some part → ⊥
fits_or_not counts part h k = none_out (part_fits Months counts) (part_fits Days counts) (part_fits Micros counts) part h k

one_text : OneList → (style : Style) (text : List ℕ) (a b : Result Interval LineFault) → IsTextRead style text a → IsTextRead style text b
    → a ≡ b
one_text one style text (Ok t) (Ok u) h k = let same = ap sum_of (one style text h.0 k.0 h.1 k.1) in let x = h.3 in let y = k.3 in
    ap Ok (x ∙ (same ∙ sym y))
one_text one style text (Ok t) (Err Syntax) h k = absurd (k h.0 h.1)
one_text one style text (Ok t) (Err Range) h k =
    absurd (fits_or_not h.0 k.0 h.2 (ap misfit (one style text h.0 k.1.0 h.1 k.1.1) ∙ k.1.2))
one_text one style text (Err Syntax) (Ok u) h k = absurd (h k.0 k.1)
one_text one style text (Err Syntax) (Err Syntax) h k = refl
one_text one style text (Err Syntax) (Err Range) h k = absurd (h k.1.0 k.1.1)
one_text one style text (Err Range) (Ok u) h k =
    absurd (fits_or_not k.0 h.0 k.2 (ap misfit (one style text k.0 h.1.0 k.1 h.1.1) ∙ h.1.2))
one_text one style text (Err Range) (Err Syntax) h k = absurd (k h.1.0 h.1.1)
one_text one style text (Err Range) (Err Range) h k = refl
one_text one style text (Err Line) b h k = absurd h
one_text one style text a (Err Line) h k = absurd k

pub one_line : OneList → (line : List ℕ) (a b : Result Interval LineFault) → IsLineRead line a → IsLineRead line b → a ≡ b
one_line one line a b (inl h) (inl k) = h.1 ∙ sym k.1
one_line one line a b (inl h) (inr (style, text, entry, read)) = absurd (h.0 style text entry)
one_line one line a b (inr (style, text, entry, read)) (inl k) = absurd (k.0 style text entry)
one_line one line a b (inr (style, text, entry, read)) (inr (style', text', entry', read')) =
    let same = one_entry line style style' text text' entry entry' in
    one_text one style' text' a b (subst (λ (s : Style). IsTextRead s text' a) same.0
    (subst (λ (t : List ℕ). IsTextRead style t a) same.1 read)) read'
