-- A text of a file time is digits, with a plus before them or without, so it is ASCII.
use Rattle.std.proofs.Common.{◌≡◌, ◌⊎◌, ℕ, List, ◌++◌, codes, sym, subst, inl, inr, arith}
use Rattle.std.specs.Str.{IsAscii}
use Rattle.std.proofs.lemmas.Fmt.{IsAscii-from_digits}
use Rattle.std.proofs.lemmas.Str.Ascii.{IsAscii-cons}
use Rattle.nt_time.specs.Text.{IsTextOf}

signed_or_not : (text digits : List ℕ) → IsAscii digits → (text ≡ digits) ⊎ (text ≡ codes "+" ++ digits) → IsAscii text
signed_or_not text digits h (inl is) = subst IsAscii (sym is) h
signed_or_not text digits h (inr is) = subst IsAscii (sym is) (IsAscii-cons 43 digits (omega arith) h)

pub text_is_ascii : (text : List ℕ) (n : ℕ) → IsTextOf text n → IsAscii text
text_is_ascii text n h = signed_or_not text h.0 (IsAscii-from_digits h.0 h.1.1) h.3
