-- The next reply that goes into a buffer: cited by private contracts alone.
use Rattle.std.specs.Prelude.{◌≡◌, ℕ, ◌+◌, ◌-◌, ◌≤◌, List, ◌++◌, codes, length, take, drop}
use Rattle.forms.specs.Buffers.{IsReplyLine}
use Rattle.forms.specs.inside.Pieces.{NoFeed}

-- the reply to the first whole line with its line feed, for which there is room, and what follows that line
pub record IsNext (bytes : List ℕ) (room : ℕ) (reply rest : List ℕ) : Type 0 where
  pub line : List ℕ
  pub part : NoFeed line
  pub first : bytes ≡ line ++ (codes "\n" ++ rest)
  pub answered : IsReplyLine reply line
  pub fits : length reply ≤ room

-- the next reply, of so many bytes, was put at a place of the buffer
pub record PutsNext (bytes old new : List ℕ) (at len : ℕ) (rest : List ℕ) : Type 0 where
  pub reply : List ℕ
  pub next : IsNext bytes (length old - at) reply rest
  pub count : len ≡ length reply
  pub put : new ≡ take at old ++ (reply ++ drop (at + length reply) old)
