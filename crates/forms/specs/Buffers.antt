-- Replies in a buffer: which lines at the front of some bytes have their replies there.
use Rattle.std.specs.Prelude.{◌≡◌, ◌⊎◌, ℕ, ◌-◌, ◌<◌, ◌≤◌, List, [], ◌∷◌, ◌++◌, codes, length, drop}
use Rattle.forms.specs.Lines.{lines, whole_lines}
use Rattle.forms.specs.Replies.{IsReply, AreReplies}

-- the reply to a line with the line feed that ends it
abbrev pub IsReplyLine : List ℕ → List ℕ → Type 0
IsReplyLine whole line = (out : List ℕ) × IsReply line out × (whole ≡ out ++ codes "\n")

-- the reply to the first whole line of the bytes, with its line feed, is longer than the room
pub record IsBeyond (bytes : List ℕ) (room : ℕ) : Type 0 where
  pub line : List ℕ
  pub more : List (List ℕ)
  pub reply : List ℕ
  pub first : whole_lines bytes ≡ line ∷ more
  pub answered : IsReplyLine reply line
  pub longer : room < length reply

-- there is no whole line, or there is no room for the reply to the first one
abbrev pub Stops : List ℕ → ℕ → Type 0
Stops bytes room = (whole_lines bytes ≡ []) ⊎ IsBeyond bytes room

-- Whole lines at the front of the bytes were used, and the replies to them were written at the front of the buffer; what stood behind
-- is as it was. Either they are all whole lines, or the reply to the next one is longer than the room that is left.
pub record AnswersInto (bytes old new : List ℕ) (used written : ℕ) : Type 0 where
  pub front : List ℕ
  pub rest : List ℕ
  pub replies : List ℕ
  pub split : bytes ≡ front ++ rest
  pub whole : lines front ≡ whole_lines front
  pub answered : AreReplies (whole_lines front) replies
  pub buffer : new ≡ replies ++ drop (length replies) old
  pub within : length replies ≤ length old
  pub stops : Stops rest (length old - length replies)
  pub used_len : used ≡ length front
  pub written_len : written ≡ length replies
