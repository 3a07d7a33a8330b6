-- What a search for a line feed finds.
use Rattle.std.proofs.Common.{◌≡◌, ℕ, zero, suc, ◌<◌, ◌≤◌, ◌==◌, List, [], ◌∷◌, ◌++◌, length, take, drop, ap, arith, eqb-true}
use Rattle.std.proofs.lemmas.Bool.{false_from_ne_true}
use Rattle.memchr.specs.Find.{Nowhere, Passes, is_byte}
use Rattle.forms.specs.inside.Pieces.{NoFeed}

-- no byte before a place is a line feed
pub no_feed_before : (bytes : List ℕ) (n : ℕ) → n ≤ length bytes → Nowhere (Passes (is_byte 10) bytes) 0 n → NoFeed (take n bytes)
no_feed_before bytes zero fits nowhere = tt
no_feed_before [] (suc n) fits nowhere = tt
no_feed_before (byte ∷ bytes) (suc n) fits nowhere = (
  false_from_ne_true (byte == 10) (nowhere 0 (omega arith) (omega arith)),
  no_feed_before bytes n (omega arith) (λ k low high. nowhere (suc k) (omega arith) (omega arith)),
)

-- where a byte was found the bytes are what stands before it, the byte and what follows
pub split_at : (found : ℕ) (bytes : List ℕ) (n : ℕ) → n < length bytes → Passes (is_byte found) bytes n
    → bytes ≡ take n bytes ++ (found ∷ drop (suc n) bytes)
split_at found [] n inside passes = absurd (omega arith)
split_at found (byte ∷ bytes) zero inside passes = ap (λ b. b ∷ bytes) (eqb-true byte found passes)
split_at found (byte ∷ bytes) (suc n) inside passes = ap (λ (l : List ℕ). byte ∷ l) (split_at found bytes n (omega arith) passes)
