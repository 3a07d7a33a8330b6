-- The names of forms are UTF-8: their bytes are ASCII.
use Rattle.std.proofs.Common.{refl, ◌≡◌, ◌&&◌, ◌<◌, ℕ, Bool, true, ltb, List, [], ◌∷◌}
use Rattle.std.specs.Prelude.{IsUtf8}
use Rattle.std.proofs.lemmas.Bool.Decides.{Decides-by_and, Decides-ltb}
use Rattle.std.proofs.lemmas.Str.{IsUtf8-from_ascii}
use Rattle.std.proofs.lemmas.Str.Ascii.{IsAscii-from_all}
use Rattle.forms.specs.Names.{name_of}
use Rattle.forms.specs.declared.form.Form.{Form}
use Rattle.forms.specs.declared.form.Form.TheVariants.{FileTime}

abbrev all_ascii : List ℕ → Bool
all_ascii [] = true
all_ascii (b ∷ bs) = ltb b 128 && all_ascii bs

ascii_is_utf8 : (bytes : List ℕ) → all_ascii bytes ≡ true → IsUtf8 bytes
ascii_is_utf8 bytes h =
    IsUtf8-from_ascii bytes (IsAscii-from_all bytes ((Decides-by_and (λ b. ltb b 128) (λ b. b < 128) all_ascii (λ b. Decides-ltb b 128) refl
    (λ _ _. refl) bytes).0 h))

-- `_` stands for each other form, whose name is looked through by computing
name_is_ascii : (form : Form) → all_ascii (name_of form) ≡ true
name_is_ascii FileTime = refl
name_is_ascii _ = refl

pub name_is_utf8 : (form : Form) → IsUtf8 (name_of form)
name_is_utf8 form = ascii_is_utf8 (name_of form) (name_is_ascii form)
