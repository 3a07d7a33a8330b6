-- The lines of the sample: each is a line of ASCII, and the generator's numbers go on.
use Rattle.std.proofs.Common.{◌≡◌, ℕ, zero, suc, ◌+◌, ◌*◌, ◌/◌, ◌%◌, ◌^◌, ◌<◌, ◌&&◌, ◌==◌, not, Bool, true, false, cond, IsTrue, List, []}
use Rattle.std.proofs.Common.{◌∷◌, ◌++◌, codes, ℤ, pos, negsuc, neg_ℤ, ◌≤ℤ◌, FitsSigned, w32, w64, ◌-ℤ◌, append_assoc, refl, sym, ◌∙◌, ap}
use Rattle.std.proofs.Common.{subst, arith, add-one}
use Rattle.std.proofs.lemmas.Int.{ints}
use Rattle.std.proofs.lemmas.List.Folds.{list_all-append}
use Rattle.std.specs.List.{list_all}
use Rattle.std.specs.Prelude.{if◌then◌else◌}
use Rattle.scan_core.proofs.Joins.{join_push}
use Rattle.pg_interval_2.specs.Alphabet.{is_no_feed}
use Rattle.pg_interval_2.specs.Ranges.{IsInRange}
use Rattle.pg_interval_2.specs.Styles.{style_text}
use Rattle.pg_interval_2.specs.declared.interval.Interval.{Interval}
use Rattle.pg_interval_2.specs.declared.style.Style.{Style}
use Rattle.pg_interval_2.specs.declared.style.Style.TheVariants as style
use Rattle.forms.specs.Names.{name_of}
use Rattle.forms.specs.Sample.{drawn, drawn_after, form_of, interval_of_draws, line_of, mark_of, sample_interval, sample_lines, style_from}
use Rattle.forms.specs.Sample.{style_to}
use Rattle.forms.specs.inside.Pieces.{NoFeed, IsEnded, AreWhole}

-- ---- the generator

pub drawn_small : (j : ℕ) → drawn j < 2 ^ 64
unfolding drawn
drawn_small zero = omega arith
drawn_small (suc j) = omega arith

pub first_drawn : drawn 0 ≡ 1
unfolding drawn
first_drawn = refl

next_drawn : (j k x : ℕ) → k ≡ j + 1 → x ≡ drawn j → drawn_after x ≡ drawn k
unfolding drawn
next_drawn j k x place is = ap drawn_after is ∙ sym (ap drawn (place ∙ add-one j))

-- the three numbers of a line behind those before it
pub record AreDrawn (index a b c : ℕ) : Type 0 where
  pub first : a ≡ drawn (3 * index + 1)
  pub second : b ≡ drawn (3 * index + 2)
  pub third : c ≡ drawn (3 * index + 3)

pub are_drawn : (index x a b c : ℕ) → x ≡ drawn (3 * index) → a ≡ drawn_after x → b ≡ drawn_after a → c ≡ drawn_after b
    → AreDrawn index a b c
are_drawn index x a b c is ha hb hc =
    let first : a ≡ drawn (3 * index + 1) = ha ∙ next_drawn (3 * index) (3 * index + 1) x refl is in
    let second : b ≡ drawn (3 * index + 2) = hb ∙ next_drawn (3 * index + 1) (3 * index + 2) a (omega arith) first in
    let third : c ≡ drawn (3 * index + 3) = hc ∙ next_drawn (3 * index + 2) (3 * index + 3) b (omega arith) second in
    record { first = first; second = second; third = third }

pub drawn_on : (index a b c : ℕ) → AreDrawn index a b c → c ≡ drawn (3 * (index + 1))
drawn_on index a b c h = let place : 3 * index + 3 ≡ 3 * (index + 1) = omega arith in h.third ∙ ap drawn place

pub drawn_interval : (index a b c : ℕ) → AreDrawn index a b c → interval_of_draws a b c ≡ sample_interval index
drawn_interval index a b c h = rw (h.first, h.second, h.third) refl

between_32 : (z : ℤ) → neg_ℤ (pos 2147483648) ≤ℤ z → z ≤ℤ pos 2147483647 → FitsSigned w32 z
between_32 (pos n) low high = record { sfits = omega (arith, ints, high) }
between_32 (negsuc n) low high = record { sfits = omega (arith, ints, low) }

between_64 : (z : ℤ) → neg_ℤ (pos 9223372036854775808) ≤ℤ z → z ≤ℤ pos 9223372036854775807 → FitsSigned w64 z
between_64 (pos n) low high = record { sfits = omega (arith, ints, high) }
between_64 (negsuc n) low high = record { sfits = omega (arith, ints, low) }

months_fit : (x : ℕ) → FitsSigned w32 (pos (x % 4801) -ℤ pos 2400)
months_fit x = between_32 (pos (x % 4801) -ℤ pos 2400) (omega (arith, ints)) (omega (arith, ints))

days_fit : (x : ℕ) → FitsSigned w32 (pos (x % 20_001) -ℤ pos 10_000)
days_fit x = between_32 (pos (x % 20_001) -ℤ pos 10_000) (omega (arith, ints)) (omega (arith, ints))

micros_fit : (x : ℕ) → x < 2 ^ 64 → FitsSigned w64 (pos (x / 2 ^ 24) -ℤ pos 549_755_813_888)
micros_fit x small = between_64 (pos (x / 2 ^ 24) -ℤ pos 549_755_813_888) (omega (arith, ints)) (omega (arith, ints))

interval_in_range : (a b c : ℕ) → c < 2 ^ 64 → IsInRange (interval_of_draws a b c)
unfolding interval_of_draws
interval_in_range a b c small = record { months = months_fit (a / 2 ^ 33); days = days_fit (b / 2 ^ 33); microseconds = micros_fit c small }

pub sample_in_range : (index : ℕ) → IsInRange (sample_interval index)
sample_in_range index = interval_in_range (drawn (3 * index + 1)) (drawn (3 * index + 2)) (drawn (3 * index + 3))
    (drawn_small (3 * index + 3))

-- ---- tests that each byte of a line passes

pub each : (p : ℕ → Bool) (a b : List ℕ) → list_all p a ≡ true → list_all p b ≡ true → list_all p (a ++ b) ≡ true
each p a b h k = rw (list_all-append p a b, h, k) refl

each_mark : (p : ℕ → Bool) → list_all p (codes "x") ≡ true → (t : Bool) → list_all p (cond t (codes "x") []) ≡ true
each_mark p h true = h
each_mark p h false = refl

-- what holds of names, the mark and a space, and of a written text, holds of a line
pub each_of_line : (p : ℕ → Bool) → ((s : Style) → list_all p (name_of (form_of s)) ≡ true) → list_all p (codes " ") ≡ true
    → list_all p (codes "x") ≡ true
    → (index : ℕ) (t : Interval) → list_all p (style_text (style_from index) t) ≡ true → list_all p (line_of index t) ≡ true
unfolding line_of mark_of
each_of_line p names space mark index t text =
    let end : List ℕ = if index % 10 == 9 then codes "x" else [] in
    let marked : list_all p end ≡ true = each_mark p mark (index % 10 == 9) in
    let body = each p (codes " ") (style_text (style_from index) t ++ end) space
    (each p (style_text (style_from index) t) end text marked) in
    let second = each p (name_of (form_of (style_to index))) (codes " " ++ (style_text (style_from index) t ++ end))
    (names (style_to index)) body in
    let rest : List ℕ = name_of (form_of (style_to index)) ++ (codes " " ++ (style_text (style_from index) t ++ end)) in
    each p (name_of (form_of (style_from index))) (codes " " ++ rest) (names (style_from index)) (each p (codes " ") rest space second)

-- ---- a line has no line feed

not_and : (t rest : Bool) → (not t && rest) ≡ true → (t ≡ false) × (rest ≡ true)
not_and true rest h = absurd (let e : false ≡ true = h in cc)
not_and false rest h = (refl, h)

pub no_feed_each : (bytes : List ℕ) → list_all is_no_feed bytes ≡ true → NoFeed bytes
no_feed_each [] h = tt
no_feed_each (b ∷ bs) h = let parts = not_and (b == 10) (list_all is_no_feed bs) h in (parts.0, no_feed_each bs parts.1)

names_no_feed : (s : Style) → list_all is_no_feed (name_of (form_of s)) ≡ true
names_no_feed style.Iso = refl
names_no_feed style.Postgres = refl
names_no_feed style.Verbose = refl
names_no_feed style.Sql = refl
names_no_feed style.IsoStrict = refl

-- what the law of the crate below says of written texts
abbrev pub OneLineEach : Type 0
OneLineEach = (s : Style) (t : Interval) → IsInRange t → IsTrue (list_all is_no_feed (style_text s t))

line_no_feed : OneLineEach → (index : ℕ) → NoFeed (line_of index (sample_interval index))
line_no_feed one_line index =
    let t : Interval = sample_interval index in
    no_feed_each (line_of index t) (each_of_line is_no_feed names_no_feed refl refl index t
    (one_line (style_from index) t (sample_in_range index)))

-- one more line
pub whole_more : OneLineEach → (index : ℕ) (bytes line : List ℕ) (t : Interval) → AreWhole (sample_lines index) bytes
    → t ≡ sample_interval index → line ≡ line_of index t ++ codes "\n" → AreWhole (sample_lines (index + 1)) (bytes ++ line)
whole_more one_line index bytes line t whole is ended =
    let next : sample_lines (index + 1) ≡ sample_lines index ++ line_of index (sample_interval index) ∷ [] = ap sample_lines
    (add-one index) in
    let piece : IsEnded line (line_of index (sample_interval index))
    = (line_no_feed one_line index, ended ∙ ap (λ (u : Interval). line_of index u ++ codes "\n") is) in
    subst (λ (lines : List (List ℕ)). AreWhole lines (bytes ++ line)) (sym next)
    (join_push IsEnded bytes line (sample_lines index) (line_of index (sample_interval index)) whole piece)

-- ---- what is pushed

joined_on : (a b c x : List ℕ) → (a ++ (b ++ c)) ++ x ≡ a ++ (b ++ (c ++ x))
joined_on a b c x = append_assoc a (b ++ c) x ∙ ap (λ (l : List ℕ). a ++ l) (append_assoc b c x)

-- two pieces behind a text, and what follows them
pub pushed : (before after a b rest : List ℕ) → after ≡ before ++ (a ++ b) → after ++ rest ≡ before ++ (a ++ (b ++ rest))
pushed before after a b rest h = ap (λ (l : List ℕ). l ++ rest) h ∙ joined_on before a b rest

pub made_of_draws : (made : Interval) (m d u : ℤ) (a b c : ℕ) → made ≡ record { months = m; days = d; microseconds = u }
    → m ≡ pos (a / 2 ^ 33 % 4801) -ℤ pos 2400 → d ≡ pos (b / 2 ^ 33 % 20_001) -ℤ pos 10_000
    → u ≡ pos (c / 2 ^ 24) -ℤ pos 549_755_813_888 → made ≡ interval_of_draws a b c
unfolding interval_of_draws
made_of_draws made m d u a b c is me de ue = is ∙ rw (me, de, ue) refl

pub line_pushed : (index : ℕ) (t : Interval) (from to : Style) (text a b c d e f : List ℕ) → from ≡ style_from index → to ≡ style_to index
    → a ≡ [] → b ≡ a ++ (name_of (form_of from) ++ codes " ")
    → c ≡ b ++ (name_of (form_of to) ++ codes " ") → text ≡ style_text from t → d ≡ c ++ text → e ≡ d ++ mark_of index → f ≡ e ++ codes "\n"
    → f ≡ line_of index t ++ codes "\n"
unfolding line_of
line_pushed index t from to text a b c d e f hs hu ha hb hc ht hd he hf =
    let first : List ℕ = name_of (form_of from) in
    let second : List ℕ = name_of (form_of to) in
    let end : List ℕ = mark_of index ++ codes "\n" in
    let marked : e ++ codes "\n" ≡ d ++ end = ap (λ (l : List ℕ). l ++ codes "\n") he ∙ append_assoc d (mark_of index) (codes "\n") in
    let texted : d ++ end ≡ c ++ (text ++ end) = ap (λ (l : List ℕ). l ++ end) hd ∙ append_assoc c text end in
    let named : c ++ (text ++ end) ≡ b ++ (second ++ (codes " " ++ (text ++ end))) = pushed b c second (codes " ") (text ++ end) hc in
    let both : b ++ (second ++ (codes " " ++ (text ++ end))) ≡ a
    ++ (first ++ (codes " " ++ (second ++ (codes " " ++ (text ++ end))))) =
    pushed a b first (codes " ") (second ++ (codes " " ++ (text ++ end))) hb in
    let all : f ≡ first ++ (codes " " ++ (second ++ (codes " " ++ (text ++ end)))) =
    hf ∙ (marked ∙ (texted ∙ (named ∙ (both ∙ ap (λ (l : List ℕ). l ++ (first ++ (codes " " ++ (second ++ (codes " " ++ (text ++ end))))))
    ha)))) in
    let body : List ℕ = style_text from t ++ mark_of index in
    let inner : (second ++ (codes " " ++ body)) ++ codes "\n" ≡ second ++ (codes " " ++ (style_text from t ++ end)) =
    joined_on second (codes " ") body (codes "\n") ∙ ap (λ (l : List ℕ). second ++ (codes " " ++ l))
    (append_assoc (style_text from t) (mark_of index) (codes "\n")) in
    let outer : (first ++ (codes " " ++ (second ++ (codes " " ++ body)))) ++ codes "\n" ≡ first
    ++ (codes " " ++ (second ++ (codes " " ++ (style_text from t ++ end)))) =
    joined_on first (codes " ") (second ++ (codes " " ++ body)) (codes "\n") ∙ ap (λ (l : List ℕ). first ++ (codes " " ++ l)) inner in
    let line : f ≡ (first ++ (codes " " ++ (second ++ (codes " " ++ body)))) ++ codes "\n" =
    all ∙ (ap (λ (l : List ℕ). first ++ (codes " " ++ (second ++ (codes " " ++ (l ++ end))))) ht ∙ sym outer) in
    subst (λ (s : Style). f ≡ (name_of (form_of s) ++ (codes " "
    ++ (name_of (form_of (style_to index)) ++ (codes " " ++ (style_text s t ++ mark_of index))))) ++ codes "\n") hs
    (subst (λ (u : Style). f ≡ (first ++ (codes " " ++ (name_of (form_of u) ++ (codes " " ++ body)))) ++ codes "\n") hu line)
