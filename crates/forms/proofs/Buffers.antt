-- Replies that are written one behind another into a buffer.
use Rattle.std.proofs.Common.{◌≡◌, ℕ, ◌+◌, ◌-◌, ◌<◌, ◌≤◌, List, [], ◌∷◌, ◌++◌, codes, length, take, drop, refl, sym, ◌∙◌, ap, subst, inl}
use Rattle.std.proofs.Common.{inr, append_assoc, append-nil, arith}
use Rattle.std.proofs.lemmas.List.{length-append, length-drop, take_at}
use Rattle.std.proofs.lemmas.Slice.{drop-append-drop}
use Rattle.scan_core.proofs.Joins.{join_push}
use Rattle.forms.specs.Lines.{lines, whole_lines}
use Rattle.forms.specs.Replies.{AreReplies}
use Rattle.forms.specs.Buffers.{IsReplyLine}
use Rattle.forms.specs.Buffers.{Stops, AnswersInto}
use Rattle.forms.specs.inside.Buffers.{PutsNext}
use Rattle.forms.specs.inside.Pieces.{NoFeed, IsEnded, AreWhole}
use Rattle.forms.proofs.LinePieces.{feed_whole, lines_behind, whole_lines_behind, part_not_whole}

-- the whole lines before the rest of some bytes have their replies at the front of the buffer
pub record IsFilled (bytes rest old new : List ℕ) (written : ℕ) : Type 0 where
  pub answered : List (List ℕ)
  pub front : List ℕ
  pub replies : List ℕ
  pub whole : AreWhole answered front
  pub split : bytes ≡ front ++ rest
  pub joined : AreReplies answered replies
  pub buffer : new ≡ replies ++ drop (length replies) old
  pub within : length replies ≤ length old
  pub count : written ≡ length replies

pub filled_none : (bytes old : List ℕ) → IsFilled bytes bytes old old 0
filled_none bytes old =
    record {
      answered = [];
      front = [];
      replies = [];
      whole = refl;
      split = refl;
      joined = refl;
      buffer = refl;
      within = omega arith;
      count = refl;
    }

-- a buffer is as long as it was
pub filled_length : (bytes rest old new : List ℕ) (written : ℕ) → IsFilled bytes rest old new written → length new ≡ length old
filled_length bytes rest old new written h =
    let sum = ap length h.buffer ∙ length-append h.replies (drop (length h.replies) old) in
    let behind = length-drop (length h.replies) old in
    omega (arith, h.within)

-- the next reply stands behind those before it
pub filled_put : (bytes rest old new newer after : List ℕ) (written len : ℕ) → IsFilled bytes rest old new written
    → PutsNext rest new newer written len after
    → IsFilled bytes after old newer (written + len)
filled_put bytes rest old new newer after written len h puts =
    let next = puts.next in
    let reply : List ℕ = puts.reply in
    let ended : List ℕ = next.line ++ codes "\n" in
    let end : ℕ = written + length reply in
    let same = filled_length bytes rest old new written h in
    let sum : length (h.replies ++ reply) ≡ end = let a = length-append h.replies reply in omega (arith, h.count) in
    let before : take written new ≡ h.replies = ap (take written) h.buffer
    ∙ take_at h.replies (drop (length h.replies) old) written (sym h.count) in
    let behind : drop end new ≡ drop (length (h.replies ++ reply)) old =
    ap (drop end) h.buffer ∙ (drop-append-drop (length h.replies) old h.replies end (omega (arith, h.count)) refl
    ∙ ap (λ n. drop n old) (sym sum)) in
    record {
      answered = h.answered ++ next.line ∷ [];
      front = h.front ++ ended;
      replies = h.replies ++ reply;
      whole = join_push IsEnded h.front ended h.answered next.line h.whole (next.part, refl);
      split = h.split ∙ (ap (λ (l : List ℕ). h.front ++ l) (next.first ∙ sym (append_assoc next.line (codes "\n") after))
          ∙ sym (append_assoc h.front ended after));
      joined = join_push IsReplyLine h.replies reply h.answered next.line h.joined next.answered;
      buffer = puts.put ∙ (ap (λ (l : List ℕ). l ++ (reply ++ drop end new)) before
          ∙ (ap (λ (l : List ℕ). h.replies ++ (reply ++ l)) behind
          ∙ sym (append_assoc h.replies reply (drop (length (h.replies ++ reply)) old))));
      within = omega (arith, next.fits, h.count, h.within);
      count = omega (arith, sum, puts.count);
    }

-- where no further reply goes in, the call is done
pub filled_all : (bytes rest old new : List ℕ) (used written room : ℕ) → IsFilled bytes rest old new written → room ≡ length new - written
    → Stops rest room → used ≡ length bytes - length rest
    → AnswersInto bytes old new used written
filled_all bytes rest old new used written room h left stops count =
    let same = filled_length bytes rest old new written h in
    let front : lines h.front ≡ h.answered ++ [] = ap lines (sym (append-nil h.front)) ∙ lines_behind h.answered h.front [] h.whole in
    let whole : whole_lines h.front ≡ h.answered ++ [] = ap whole_lines (sym (append-nil h.front))
    ∙ whole_lines_behind h.answered h.front [] h.whole in
    let room_left : room ≡ length old - length h.replies = omega (arith, h.count) in
    record {
      front = h.front;
      rest = rest;
      replies = h.replies;
      split = h.split;
      whole = front ∙ sym whole;
      answered = subst (λ (l : List (List ℕ)). AreReplies l h.replies) (sym (whole ∙ append-nil h.answered)) h.joined;
      buffer = h.buffer;
      within = h.within;
      stops = subst (Stops rest) room_left stops;
      used_len = let sum = ap length h.split ∙ length-append h.front rest in omega arith;
      written_len = h.count;
    }

-- without a line feed nothing is answered
pub stops_at_part : (bytes : List ℕ) (room : ℕ) → NoFeed bytes → Stops bytes room
stops_at_part bytes room part = inl (part_not_whole bytes part)

-- without room for the next reply nothing is answered
pub stops_at_long : (bytes line reply after : List ℕ) (room : ℕ) → NoFeed line → bytes ≡ line ++ (codes "\n" ++ after)
    → IsReplyLine reply line → room < length reply → Stops bytes room
stops_at_long bytes line reply after room part split answered long =
    inr (record {
      line = line;
      more = whole_lines after;
      reply = reply;
      first = ap whole_lines split ∙ feed_whole line after part;
      answered = answered;
      longer = long;
    })
