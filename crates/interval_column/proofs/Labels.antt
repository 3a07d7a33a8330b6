-- Names in front of texts. Names have no space, so a whole has one name and one text at most.
use Rattle.std.proofs.Common.{◌≡◌, ◌==◌, ◌&&◌, ℕ, Bool, true, false, not, List, [], ◌∷◌, ◌++◌, codes, Some, None, Option, cond, refl, sym}
use Rattle.std.proofs.Common.{◌∙◌, ap, subst, inl, inr, true≢false, arith}
use Rattle.std.specs.Str.{bytes_eq}
use Rattle.std.specs.Option.{IfNone}
use Rattle.std.proofs.lemmas.Bool.Decides.{nat_tests}
use Rattle.pg_interval_2.specs.declared.style.Style.{Style}
use Rattle.pg_interval_2.specs.declared.style.Style.TheVariants as style
use Rattle.forms.specs.Names.{name_of, style_of}
use Rattle.forms.specs.declared.form.Form.{Form}
use Rattle.forms.specs.declared.form.Form.TheVariants.{FileTime, PgIso, Postgres, PgVerbose, PgSql, IsoStrict}
use Rattle.whole_input.specs.Parts.{HasNo}
use Rattle.interval_column.specs.Lines.{IsEntry, IsLabelled}
use Rattle.interval_column.specs.inside.Labels.{IsStyled, IsNotStyled, IsNoEntry}

-- ---- names have no space

is_other : ℕ → Bool
is_other byte = not (byte == 32)

abbrev has_no_space : List ℕ → Bool
has_no_space [] = true
has_no_space (byte ∷ bytes) = not (byte == 32) && has_no_space bytes

first_of : (p q : Bool) → (not p && q) ≡ true → (p ≡ false) × (q ≡ true)
first_of false q h = (refl, h)
first_of true q h = absurd (true≢false (sym h))

none_of : (bytes : List ℕ) → has_no_space bytes ≡ true → HasNo 32 bytes
none_of [] h = tt
none_of (byte ∷ bytes) h = let both = first_of (byte == 32) (has_no_space bytes) h in (both.0, none_of bytes both.1)

-- `_` stands for each other form, whose name is looked through by computing
is_spaceless : (form : Form) → has_no_space (name_of form) ≡ true
is_spaceless FileTime = refl
is_spaceless _ = refl

pub names_have_no_space : (form : Form) → HasNo 32 (name_of form)
names_have_no_space form = none_of (name_of form) (is_spaceless form)

-- ---- one word and one text

space_is : (byte : ℕ) → 32 ≡ byte → (byte == 32) ≡ false → ⊥
space_is byte same not = let e : (byte == 32) ≡ true = grind (arith, nat_tests) in true≢false (sym e ∙ not)

split_one : (u v s t : List ℕ) → HasNo 32 u → HasNo 32 v → u ++ 32 ∷ s ≡ v ++ 32 ∷ t → (u ≡ v) × (s ≡ t)
split_one [] [] s t a b h = (refl, cc)
split_one [] (y ∷ v) s t a b h = let e : 32 ≡ y = cc in absurd (space_is y e b.0)
split_one (x ∷ u) [] s t a b h = let e : 32 ≡ x = cc in absurd (space_is x e a.0)
split_one (x ∷ u) (y ∷ v) s t a b h =
    let tails : u ++ 32 ∷ s ≡ v ++ 32 ∷ t = cc in
    let rest = split_one u v s t a.1 b.1 tails in
    let first : x ≡ y = cc in
    (let same = rest.0 in cc, rest.1)

no_space_inside : (v t : List ℕ) → HasNo 32 (v ++ 32 ∷ t) → ⊥
no_space_inside [] t h = true≢false h.0
no_space_inside (y ∷ v) t h = no_space_inside v t h.1

pub one_label : (whole u v s t : List ℕ) → HasNo 32 u → HasNo 32 v → IsLabelled whole u s → IsLabelled whole v t → (u ≡ v) × (s ≡ t)
one_label whole u v s t a b (inl h) (inl k) = (sym h.0 ∙ k.0, h.1 ∙ sym k.1)
one_label whole u v s t a b (inl h) (inr k) = absurd (no_space_inside v t (subst (HasNo 32) (sym h.0 ∙ k) a))
one_label whole u v s t a b (inr h) (inl k) = absurd (no_space_inside u s (subst (HasNo 32) (sym k.0 ∙ h) b))
one_label whole u v s t a b (inr h) (inr k) = split_one u v s t a b (sym h ∙ k)

-- ---- one style a name

abbrev style_named : List ℕ → Option Style
style_named name =
    cond (bytes_eq name (codes "PgIso")) (Some style.Iso)
    (cond (bytes_eq name (codes "Postgres")) (Some style.Postgres)
    (cond (bytes_eq name (codes "PgVerbose")) (Some style.Verbose)
    (cond (bytes_eq name (codes "PgSql")) (Some style.Sql)
    (cond (bytes_eq name (codes "IsoStrict")) (Some style.IsoStrict) None))))

pub none_is_no_some : {T : Type 0} (x : T) → ◌≡◌ {A = Option T} None (Some x) → ⊥
none_is_no_some x h = absurd (let other : None ≡ Some x = h in cc)

style_is : (form : Form) (s : Style) → style_of form ≡ Some s → style_named (name_of form) ≡ Some s
style_is PgIso s h = h
style_is Postgres s h = h
style_is PgVerbose s h = h
style_is PgSql s h = h
style_is IsoStrict s h = h
style_is _ s h = absurd (none_is_no_some s h)

pub some_is : (s t : Style) → ◌≡◌ {A = Option Style} (Some s) (Some t) → s ≡ t
some_is s t h = cc

pub one_style : (f g : Form) (s t : Style) → style_of f ≡ Some s → style_of g ≡ Some t → name_of f ≡ name_of g → s ≡ t
one_style f g s t h k same = some_is s t (sym (style_is f s h) ∙ (ap style_named same ∙ style_is g t k))

pub one_entry : (line : List ℕ) (s t : Style) (a b : List ℕ) → IsEntry line s a → IsEntry line t b → (s ≡ t) × (a ≡ b)
one_entry line s t a b h k =
    let both = one_label line (name_of h.form) (name_of k.form) a b (names_have_no_space h.form)
    (names_have_no_space k.form) h.labelled k.labelled in
    (one_style h.form k.form s t h.named k.named both.0, both.1)

-- ---- what readers of names answer

abbrev form_in : Form → Option Form → Form
form_in other (Some form) = form
form_in other None = other

-- the word names no form
pub no_form : (whole word rest : List ℕ) → HasNo 32 word → IsLabelled whole word rest → ((form : Form) → word ≡ name_of form → ⊥)
    → IsNotStyled whole
no_form whole word rest h labelled none s text is =
    none is.form (one_label whole word (name_of is.form) rest text h (names_have_no_space is.form) labelled is.labelled).0

-- the word names a form that is no interval form
pub no_style : (whole word rest : List ℕ) (form : Form) → HasNo 32 word → IsLabelled whole word rest → word ≡ name_of form
    → style_of form ≡ None → IsNotStyled whole
no_style whole word rest form h labelled named none s text is =
    let same = (one_label whole word (name_of is.form) rest text h (names_have_no_space is.form) labelled is.labelled).0 in
    none_is_no_some s (sym (unstyled form none) ∙ (ap style_named (sym named ∙ same) ∙ style_is is.form s is.named))
  where
    unstyled : (form : Form) → style_of form ≡ None → style_named (name_of form) ≡ None
    unstyled PgIso h = h
    unstyled Postgres h = h
    unstyled PgVerbose h = h
    unstyled PgSql h = h
    unstyled IsoStrict h = h
    unstyled _ h = refl

pub styled_entry : (line text : List ℕ) (s : Style) (rest : List ℕ) → text ≡ line → IsEntry line s rest → IsStyled text s rest
styled_entry line text s rest same e = record {
  form = e.form;
  named = e.named;
  labelled = subst (λ (l : List ℕ). IsLabelled l (name_of e.form) rest) (sym same) e.labelled;
}

pub if_none_map : {T : Type 0} (r : Option T) (P Q : Type 0) → (P → Q) → IfNone r P → IfNone r Q
if_none_map None P Q f h = f h
if_none_map (Some x) P Q f h = tt

pub not_styled : (line text : List ℕ) → text ≡ line → IsNotStyled text → IsNoEntry line
not_styled line text same none s rest e = none s rest (styled_entry line text s rest same e)
