-- The first letter of a name leaves few forms.
use Rattle.std.proofs.Common.{◌≡◌, ℕ, ◌==◌, false, List, ◌∷◌, ◌++◌, codes, Option, Some, None, refl, sym, ◌∙◌}
use Rattle.std.specs.Prelude.{IfNone}
use Rattle.std.proofs.lemmas.Bool.{eqb-false}
use Rattle.forms.specs.declared.form.Form.{Form}
use Rattle.forms.specs.declared.form.Form.TheVariants.{FileTime, IsoDateTime, IsoDate, IsoDuration, Toml, Fancy, PgIso, Postgres, PgVerbose}
use Rattle.forms.specs.declared.form.Form.TheVariants.{PgSql, IsoStrict, Unix, PgTimestamp, HttpDate, MailDate, XsdDuration}
use Rattle.forms.specs.inside.Reading.{behind, by_another, by_i, by_p, Begins, HasNoneOf, IsNamed}

-- no form's name is the first word
abbrev pub HasNone : List ℕ → Type 0
HasNone text = (form : Form) (rest : Option (List ℕ)) → IsNamed text form rest → ⊥

pub if_none : {X : Type 0} {A B : Type 0} (option : Option X) → (A → B) → IfNone option A → IfNone option B
if_none None turn h = turn h
if_none (Some x) turn h = h

-- a text begins with one byte
apart : (text : List ℕ) (a b : ℕ) (r s : List ℕ) → (a == b) ≡ false → text ≡ a ∷ r → text ≡ b ∷ s → ⊥
apart text a b r s other first second = eqb-false a b other (let e : a ∷ r ≡ b ∷ s = sym first ∙ second in cc)

pub none_by_p : (text : List ℕ) → Begins 80 text → HasNoneOf by_p text → HasNone text
none_by_p text first none FileTime rest named = apart text 80 70 first.0 (codes "ileTime" ++ behind rest) refl first.1 named
none_by_p text first none IsoDateTime rest named = apart text 80 73 first.0 (codes "soDateTime" ++ behind rest) refl first.1 named
none_by_p text first none IsoDate rest named = apart text 80 73 first.0 (codes "soDate" ++ behind rest) refl first.1 named
none_by_p text first none IsoDuration rest named = apart text 80 73 first.0 (codes "soDuration" ++ behind rest) refl first.1 named
none_by_p text first none Toml rest named = apart text 80 84 first.0 (codes "oml" ++ behind rest) refl first.1 named
none_by_p text first none Fancy rest named = apart text 80 70 first.0 (codes "ancy" ++ behind rest) refl first.1 named
none_by_p text first none PgIso rest named = none.0 rest named
none_by_p text first none Postgres rest named = none.1.0 rest named
none_by_p text first none PgVerbose rest named = none.1.1.0 rest named
none_by_p text first none PgSql rest named = none.1.1.1.0 rest named
none_by_p text first none IsoStrict rest named = apart text 80 73 first.0 (codes "soStrict" ++ behind rest) refl first.1 named
none_by_p text first none Unix rest named = apart text 80 85 first.0 (codes "nix" ++ behind rest) refl first.1 named
none_by_p text first none PgTimestamp rest named = none.1.1.1.1.0 rest named
none_by_p text first none HttpDate rest named = apart text 80 72 first.0 (codes "ttpDate" ++ behind rest) refl first.1 named
none_by_p text first none MailDate rest named = apart text 80 77 first.0 (codes "ailDate" ++ behind rest) refl first.1 named
none_by_p text first none XsdDuration rest named = apart text 80 88 first.0 (codes "sdDuration" ++ behind rest) refl first.1 named

pub none_by_i : (text : List ℕ) → Begins 73 text → HasNoneOf by_i text → HasNone text
none_by_i text first none FileTime rest named = apart text 73 70 first.0 (codes "ileTime" ++ behind rest) refl first.1 named
none_by_i text first none IsoDateTime rest named = none.0 rest named
none_by_i text first none IsoDate rest named = none.1.1.0 rest named
none_by_i text first none IsoDuration rest named = none.1.0 rest named
none_by_i text first none Toml rest named = apart text 73 84 first.0 (codes "oml" ++ behind rest) refl first.1 named
none_by_i text first none Fancy rest named = apart text 73 70 first.0 (codes "ancy" ++ behind rest) refl first.1 named
none_by_i text first none PgIso rest named = apart text 73 80 first.0 (codes "gIso" ++ behind rest) refl first.1 named
none_by_i text first none Postgres rest named = apart text 73 80 first.0 (codes "ostgres" ++ behind rest) refl first.1 named
none_by_i text first none PgVerbose rest named = apart text 73 80 first.0 (codes "gVerbose" ++ behind rest) refl first.1 named
none_by_i text first none PgSql rest named = apart text 73 80 first.0 (codes "gSql" ++ behind rest) refl first.1 named
none_by_i text first none IsoStrict rest named = none.1.1.1.0 rest named
none_by_i text first none Unix rest named = apart text 73 85 first.0 (codes "nix" ++ behind rest) refl first.1 named
none_by_i text first none PgTimestamp rest named = apart text 73 80 first.0 (codes "gTimestamp" ++ behind rest) refl first.1 named
none_by_i text first none HttpDate rest named = apart text 73 72 first.0 (codes "ttpDate" ++ behind rest) refl first.1 named
none_by_i text first none MailDate rest named = apart text 73 77 first.0 (codes "ailDate" ++ behind rest) refl first.1 named
none_by_i text first none XsdDuration rest named = apart text 73 88 first.0 (codes "sdDuration" ++ behind rest) refl first.1 named

pub none_by_another : (text : List ℕ) → (Begins 80 text → ⊥) → (Begins 73 text → ⊥) → HasNoneOf by_another text → HasNone text
none_by_another text p i none FileTime rest named = none.0 rest named
none_by_another text p i none IsoDateTime rest named = i (codes "soDateTime" ++ behind rest, named)
none_by_another text p i none IsoDate rest named = i (codes "soDate" ++ behind rest, named)
none_by_another text p i none IsoDuration rest named = i (codes "soDuration" ++ behind rest, named)
none_by_another text p i none Toml rest named = none.1.1.0 rest named
none_by_another text p i none Fancy rest named = none.1.0 rest named
none_by_another text p i none PgIso rest named = p (codes "gIso" ++ behind rest, named)
none_by_another text p i none Postgres rest named = p (codes "ostgres" ++ behind rest, named)
none_by_another text p i none PgVerbose rest named = p (codes "gVerbose" ++ behind rest, named)
none_by_another text p i none PgSql rest named = p (codes "gSql" ++ behind rest, named)
none_by_another text p i none IsoStrict rest named = i (codes "soStrict" ++ behind rest, named)
none_by_another text p i none Unix rest named = none.1.1.1.0 rest named
none_by_another text p i none PgTimestamp rest named = p (codes "gTimestamp" ++ behind rest, named)
none_by_another text p i none HttpDate rest named = none.1.1.1.1.0 rest named
none_by_another text p i none MailDate rest named = none.1.1.1.1.1.0 rest named
none_by_another text p i none XsdDuration rest named = none.1.1.1.1.1.1.0 rest named
