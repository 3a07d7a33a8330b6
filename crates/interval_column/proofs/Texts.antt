-- Lines that are made of labels, numbers and names.
use Rattle.std.proofs.Common.{◌≡◌, ℕ, ◌-◌, List, [], ◌++◌, length, flat_map, codes, decimal, Option, Some, None, refl, sym, ◌∙◌, ap}
use Rattle.std.proofs.Common.{append_assoc, append-nil}
use Rattle.std.specs.List.{slice_get}
use Rattle.std.specs.Option.{option_map}
use Rattle.std.proofs.lemmas.List.{length-map}
use Rattle.std.proofs.lemmas.Option.{slice_get-map}
use Rattle.pg_interval_2.specs.declared.interval.Interval.{Interval}
use Rattle.pg_interval_2.specs.declared.style.Style.{Style}
use Rattle.interval_column.specs.declared.fault.LineFault.{LineFault}
use Rattle.interval_column.specs.declared.ranked.Ranked.{Ranked}
use Rattle.interval_column.specs.Columns.{total_of}
use Rattle.interval_column.specs.Output.{column_text, count_line, end_lines, fault_line, fault_name, interval_line, sum_line}
use Rattle.interval_column.specs.inside.Ranks.{intervals_of}

-- a label and what was pushed behind it, in front of a rest
pushed : (a b label what rest : List ℕ) → b ≡ a ++ (label ++ what) → b ++ rest ≡ a ++ (label ++ (what ++ rest))
pushed a b label what rest h =
    ap (λ (l : List ℕ). l ++ rest) h
    ∙ (append_assoc a (label ++ what) rest ∙ ap (λ (l : List ℕ). a ++ l) (append_assoc label what rest))

pub fault_pushed : (line : ℕ) (fault : LineFault) (a b c d e : List ℕ) → a ≡ [] → b ≡ a ++ (codes "line " ++ decimal line)
    → c ≡ b ++ codes " refused "
    → d ≡ c ++ fault_name fault → e ≡ d ++ codes "\n" → e ≡ fault_line line fault
unfolding fault_line
fault_pushed line fault a b c d e ha hb hc hd he =
    let both : d ≡ b ++ (codes " refused " ++ fault_name fault) = hd
    ∙ (ap (λ (l : List ℕ). l ++ fault_name fault) hc ∙ append_assoc b (codes " refused ") (fault_name fault)) in
    let rest : List ℕ = codes " refused " ++ (fault_name fault ++ codes "\n") in
    he
    ∙ (pushed b d (codes " refused ") (fault_name fault) (codes "\n") both
    ∙ (pushed a b (codes "line ") (decimal line) rest hb ∙ ap (λ (l : List ℕ). l ++ (codes "line " ++ (decimal line ++ rest))) ha))

-- ---- the lines behind the intervals

next_text : (a b x : List ℕ) (rest : List ℕ) → b ≡ a ++ x → b ++ rest ≡ a ++ (x ++ rest)
next_text a b x rest h = ap (λ (l : List ℕ). l ++ rest) h ∙ append_assoc a x rest

pub four_pushed : (w x y z a b c d e : List ℕ) → a ≡ [] → b ≡ a ++ w → c ≡ b ++ x → d ≡ c ++ y → e ≡ d ++ z → e ≡ w ++ (x ++ (y ++ z))
four_pushed w x y z a b c d e ha hb hc hd he =
    he ∙ (next_text c d y z hd ∙ (next_text b c x (y ++ z) hc ∙
    (next_text a b w (x ++ (y ++ z)) hb ∙ ap (λ (l : List ℕ). l ++ (w ++ (x ++ (y ++ z)))) ha)))

first_alone : (ranks : List Ranked) (i : ℕ) (r : Ranked) → slice_get ranks i ≡ Some r → slice_get (intervals_of ranks) i ≡ Some r.interval
first_alone ranks i r h = slice_get-map (λ (x : Ranked). x.interval) ranks i ∙ ap (option_map (λ (x : Ranked). x.interval)) h

none_alone : (ranks : List Ranked) (i : ℕ) → slice_get ranks i ≡ None → slice_get (intervals_of ranks) i ≡ None
none_alone ranks i h = slice_get-map (λ (x : Ranked). x.interval) ranks i ∙ ap (option_map (λ (x : Ranked). x.interval)) h

as_many : (ranks : List Ranked) → length (intervals_of ranks) ≡ length ranks
as_many ranks = length-map ranks (λ (x : Ranked). x.interval)

-- what stands behind the intervals of a column
abbrev pub behind : Style → List Interval → List ℕ
behind style intervals =
    count_line (length intervals) ++ end_lines style (slice_get intervals 0) (slice_get intervals (length intervals - 1))
    (total_of intervals)

pub some_behind : (style : Style) (ranks : List Ranked) (least greatest : Ranked) (out : List ℕ) → slice_get ranks 0 ≡ Some least
    → slice_get ranks (length ranks - 1) ≡ Some greatest
    → out ≡ count_line (length ranks) ++ (interval_line style (codes "least ") least.interval
    ++ (interval_line style (codes "greatest ") greatest.interval ++ sum_line style (total_of (intervals_of ranks))))
    → out ≡ behind style (intervals_of ranks)
some_behind style ranks least greatest out first last is =
    let n = as_many ranks in
    let low = first_alone ranks 0 least first in
    let high = ap (λ (m : ℕ). slice_get (intervals_of ranks) (m - 1)) n ∙ first_alone ranks (length ranks - 1) greatest last in
    is
    ∙ (ap (λ (m : ℕ). count_line m ++ end_lines style (Some least.interval) (Some greatest.interval) (total_of (intervals_of ranks)))
    (sym n)
    ∙ (ap (λ (o : Option Interval). count_line (length (intervals_of ranks))
    ++ end_lines style o (Some greatest.interval) (total_of (intervals_of ranks))) (sym low)
    ∙ ap (λ (o : Option Interval). count_line (length (intervals_of ranks))
    ++ end_lines style (slice_get (intervals_of ranks) 0) o (total_of (intervals_of ranks))) (sym high)))

pub none_behind : (style : Style) (ranks : List Ranked) (out : List ℕ) → slice_get ranks 0 ≡ None → out ≡ count_line (length ranks)
    → out ≡ behind style (intervals_of ranks)
none_behind style ranks out none is =
    is ∙ (ap count_line (sym (as_many ranks))
    ∙ (sym (append-nil (count_line (length (intervals_of ranks))))
    ∙ ap (λ (o : Option Interval). count_line (length (intervals_of ranks))
    ++ end_lines style o (slice_get (intervals_of ranks) (length (intervals_of ranks) - 1)) (total_of (intervals_of ranks)))
    (sym (none_alone ranks 0 none))))

pub column_is : (style : Style) (intervals : List Interval) → column_text style intervals ≡ flat_map (interval_line style []) intervals
    ++ behind style intervals
unfolding column_text
column_is style intervals = refl

pub whole_column : (style : Style) (intervals : List Interval) (rest : List ℕ) → rest ≡ behind style intervals
    → flat_map (interval_line style []) intervals ++ rest ≡ column_text style intervals
whole_column style intervals rest is = ap (λ (l : List ℕ). flat_map (interval_line style []) intervals ++ l) is
    ∙ sym (column_is style intervals)
