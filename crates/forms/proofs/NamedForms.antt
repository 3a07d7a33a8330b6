-- A name is one form's.
use Rattle.std.proofs.Common.{◌≡◌, ◌≢◌, ◌↔◌, ℕ, Bool, true, false, cond, List, [], ◌∷◌, Option, Some, None, refl, sym, ◌∙◌, ap, subst}
use Rattle.std.specs.List.{list_all}
use Rattle.std.proofs.lemmas.Bool.{and_parts}
use Rattle.std.specs.Str.{bytes_eq}
use Rattle.forms.specs.declared.form.Form.{Form}
use Rattle.forms.specs.declared.form.Form.TheVariants.{FileTime, IsoDateTime, IsoDate, IsoDuration, Toml, Fancy, PgIso, Postgres, PgVerbose}
use Rattle.forms.specs.declared.form.Form.TheVariants.{PgSql, IsoStrict, Unix, PgTimestamp, HttpDate, MailDate, XsdDuration}
use Rattle.forms.specs.Names.{name_of}

-- all forms
abbrev pub forms : List Form
forms =
    FileTime ∷ IsoDateTime ∷ IsoDate ∷ IsoDuration ∷ Toml ∷ Fancy ∷ PgIso ∷ Postgres ∷ PgVerbose ∷ PgSql ∷ IsoStrict
    ∷ Unix ∷ PgTimestamp ∷ HttpDate ∷ MailDate ∷ XsdDuration ∷ []

-- the first of these forms with the name
abbrev form_named : List ℕ → List Form → Option Form
form_named name [] = None
form_named name (form ∷ more) = cond (bytes_eq name (name_of form)) (Some form) (form_named name more)

finds_form : (form : Form) → form_named (name_of form) forms ≡ Some form
finds_form FileTime = refl
finds_form IsoDateTime = refl
finds_form IsoDate = refl
finds_form IsoDuration = refl
finds_form Toml = refl
finds_form Fancy = refl
finds_form PgIso = refl
finds_form Postgres = refl
finds_form PgVerbose = refl
finds_form PgSql = refl
finds_form IsoStrict = refl
finds_form Unix = refl
finds_form PgTimestamp = refl
finds_form HttpDate = refl
finds_form MailDate = refl
finds_form XsdDuration = refl

pub one_form : (f g : Form) → name_of f ≡ name_of g → f ≡ g
one_form f g same =
    let both : Some f ≡ Some g = sym (finds_form f) ∙ (ap (λ (name : List ℕ). form_named name forms) same ∙ finds_form g) in cc

-- what is tested of the first of these forms with the name
tested_here : (test : Form → Bool) (g f : Form) (more : Option Form) (here : Bool) → cond here (Some g) more ≡ Some f → test g ≡ true
    → (more ≡ Some f → test f ≡ true) → test f ≡ true
tested_here test g f more true found here later = let same : g ≡ f = cc in subst (λ (h : Form). test h ≡ true) same here
tested_here test g f more false found here later = later found

tested : (test : Form → Bool) (name : List ℕ) (all : List Form) (f : Form) → form_named name all ≡ Some f → list_all test all ≡ true
    → test f ≡ true
tested test name [] f found h = absurd (let e : None ≡ Some f = found in cc)
tested test name (g ∷ more) f found h =
    let parts = and_parts (test g) (list_all test more) h in
    tested_here test g f (form_named name more) (bytes_eq name (name_of g)) found parts.0 (λ later. tested test name more f later parts.1)

-- what is tested of all forms is so of each
pub each : (test : Form → Bool) → list_all test forms ≡ true → (form : Form) → test form ≡ true
each test h form = tested test (name_of form) forms form (finds_form form) h

-- a name that is no form's
pub none_is_named : (name : List ℕ) → ((form : Form) → name ≢ name_of form) → (form : Form)
    → (None ≡ Some form) ↔ (name ≡ name_of form)
none_is_named name none form = (λ found. absurd (let other : None ≡ Some form = found in cc), λ named. absurd (none form named))
