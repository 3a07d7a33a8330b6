-- The replies to the sample: each tenth is a refusal, and no other.
use Rattle.std.proofs.Common.{◌≡◌, ◌≢◌, ℕ, zero, suc, ◌+◌, ◌-◌, ◌/◌, ◌%◌, ◌&&◌, ◌==◌, Bool, true, false, IsTrue, List, [], ◌∷◌, ◌++◌, codes}
use Rattle.std.proofs.Common.{Some, Result, Ok, Err, refl, inl, sym, ◌∙◌, ap, subst, inr, arith, append-nil, take}
use Rattle.std.specs.Prelude.{nat_eq, ◌||◌, IsUtf8, if◌then◌else◌}
use Rattle.std.proofs.lemmas.Bool.{and_parts}
use Rattle.std.proofs.lemmas.Bool.Decides.{nat_tests}
use Rattle.std.proofs.lemmas.List.Folds.{list_all-append}
use Rattle.std.proofs.lemmas.Str.{IsUtf8-from_ascii}
use Rattle.std.specs.Char.{is_ascii_digit}
use Rattle.std.specs.Cmp.Lexicographic.{pointwise}
use Rattle.std.specs.List.{list_all, list_any}
use Rattle.scan_core.specs.Blanks.{is_blank}
use Rattle.scan_core.specs.Count.{Count}
use Rattle.scan_core.proofs.Joins.{join_push}
use Rattle.pg_interval_2.specs.Alphabet.{is_in_alphabet}
use Rattle.pg_interval_2.specs.Denotes.{Denotes, HasNoShape}
use Rattle.pg_interval_2.specs.Ranges.{IsInRange}
use Rattle.pg_interval_2.specs.Styles.{Shape, style_text}
use Rattle.pg_interval_2.specs.declared.interval.Interval.{Interval}
use Rattle.pg_interval_2.specs.declared.style.Style.{Style}
use Rattle.pg_interval_2.specs.declared.style.Style.TheVariants as style
use Rattle.forms.specs.declared.cause.Cause.{Cause}
use Rattle.forms.specs.declared.cause.Cause.TheVariants.{Syntax}
use Rattle.forms.specs.Lines.{whole_lines}
use Rattle.forms.specs.Names.{name_of, style_of}
use Rattle.forms.specs.Replies.{IsRequest, IsIntervalAnswer, IsAnswer, IsReply, AreReplies}
use Rattle.forms.specs.Buffers.{IsReplyLine}
use Rattle.forms.specs.Sample.{answers, form_of, is_refusal, line_of, mark_of, refusals, sample_interval, sample_lines, style_from}
use Rattle.forms.specs.Sample.{style_to}
use Rattle.forms.specs.inside.Pieces.{NoFeed, IsEnded, AreWhole}
use Rattle.forms.proofs.Requests.{whole}
use Rattle.forms.proofs.AsciiNames.{is_small, ascii, small_name}
use Rattle.forms.proofs.LinePieces.{whole_lines_behind}
use Rattle.forms.proofs.SampleLines.{OneLineEach, each_of_line, no_feed_each, sample_in_range}

-- what the laws of the crate below say of texts
pub record Texts : Type 0 where
  pub one_line : OneLineEach
  pub alphabet : (s : Style) (text : List ℕ) (counts : List Count) → Shape s text counts → IsTrue (list_all is_in_alphabet text)
  pub back : (s : Style) (t : Interval) → IsInRange t → Denotes (Shape s) (style_text s t) t

written_in : Texts → (s : Style) (t : Interval) → IsInRange t → list_all is_in_alphabet (style_text s t) ≡ true
written_in texts s t range = let d = texts.back s t range in texts.alphabet s (style_text s t) d.0 d.1

-- ---- a line is a request

either : (x y : Bool) {P : Type 0} → (x || y) ≡ true → (x ≡ true → P) → (y ≡ true → P) → P
either true y h f g = f refl
either false y h f g = g h

-- a byte that is one of some small ones
one_small : (letters : List ℕ) (b : ℕ) → list_all is_small letters ≡ true → list_any (λ l. l == b) letters ≡ true → is_small b ≡ true
one_small [] b all h = absurd (let e : false ≡ true = h in cc)
one_small (l ∷ more) b all h =
    let parts = and_parts (is_small l) (list_all is_small more) all in
    let first = parts.0 in
    either (l == b) (list_any (λ l. l == b) more) h (λ same. grind (arith, nat_tests)) (λ below. one_small more b parts.1 below)

in_small : (b : ℕ) → is_in_alphabet b ≡ true → is_small b ≡ true
in_small b h =
    either (is_blank b) _ h (λ blank. grind (arith, nat_tests)) (λ h.
    either (is_ascii_digit b) _ h (λ digit. grind (arith, nat_tests)) (λ h. one_small (codes "+-.:@PTYMWDHSacdeghimnorstuy") b refl h))

pub all_small : (bytes : List ℕ) → list_all is_in_alphabet bytes ≡ true → list_all is_small bytes ≡ true
all_small [] h = refl
all_small (b ∷ bs) h =
    let parts = and_parts (is_in_alphabet b) (list_all is_in_alphabet bs) h in
    let first = in_small b parts.0 in
    let rest = all_small bs parts.1 in
    rw (first, rest) refl

line_utf8 : Texts → (index : ℕ) (t : Interval) → IsInRange t → IsUtf8 (line_of index t)
line_utf8 texts index t range =
    IsUtf8-from_ascii (line_of index t)
    (ascii (line_of index t) (each_of_line is_small (λ s. small_name (form_of s)) refl refl index t
    (all_small (style_text (style_from index) t) (written_in texts (style_from index) t range))))

-- the text that a line asks for
abbrev text_of : ℕ → Interval → List ℕ
text_of index t = style_text (style_from index) t ++ mark_of index

spelled : (index : ℕ) (t : Interval) → line_of index t ≡ name_of (form_of (style_from index))
    ++ (codes " " ++ (name_of (form_of (style_to index)) ++ (codes " " ++ text_of index t)))
unfolding line_of
spelled index t = refl

asked : Texts → (index : ℕ) (t : Interval) → IsInRange t → IsRequest (line_of index t) (form_of (style_from index))
    (form_of (style_to index)) (text_of index t)
asked texts index t range = whole _ _ _ _ (record {
  tail = codes " " ++ text_of index t;
  utf8 = line_utf8 texts index t range;
  rest = inr refl;
  joined = spelled index t;
})

-- ---- its answer

same_style : (s : Style) → style_of (form_of s) ≡ Some s
same_style style.Iso = refl
same_style style.Postgres = refl
same_style style.Verbose = refl
same_style style.Sql = refl
same_style style.IsoStrict = refl

is_answer : (s u : Style) (text : List ℕ) (answer : Result (List ℕ) Cause) → IsIntervalAnswer s u text answer
    → IsAnswer (form_of s) (form_of u) text answer
unfolding IsAnswer
is_answer s u text answer h = inl (s, u, same_style s, same_style u, h)

and_false : (x : Bool) → (x && false) ≡ true → ⊥
and_false true h = let e : false ≡ true = h in cc
and_false false h = let e : false ≡ true = h in cc

-- with an `x` behind it, a text is in no style
no_shape : Texts → (s : Style) (text : List ℕ) → HasNoShape (Shape s) (text ++ codes "x")
no_shape texts s text counts h =
    let whole : list_all is_in_alphabet (text ++ codes "x") ≡ true = texts.alphabet s (text ++ codes "x") counts h in
    and_false (list_all is_in_alphabet text) (sym (list_all-append is_in_alphabet text (codes "x")) ∙ whole)

-- the reply to a line
abbrev reply_when : Bool → ℕ → List ℕ
reply_when tenth index = if tenth then codes "refused Syntax" else style_text (style_to index) (sample_interval index)

abbrev sample_reply : ℕ → List ℕ
sample_reply index = reply_when (index % 10 == 9) index

mark_is : (index : ℕ) (tenth : Bool) → (index % 10 == 9) ≡ tenth → mark_of index ≡ (if tenth then codes "x" else [])
unfolding mark_of
mark_is index tenth h = rw h refl

answered : Texts → (index : ℕ) (tenth : Bool) → (index % 10 == 9) ≡ tenth
    → IsReply (line_of index (sample_interval index)) (reply_when tenth index)
answered texts index true h =
    let t : Interval = sample_interval index in
    let text : text_of index t ≡ style_text (style_from index) t
    ++ codes "x" = ap (λ (l : List ℕ). style_text (style_from index) t ++ l) (mark_is index true h) in
    let none : HasNoShape (Shape (style_from index)) (text_of index t) = subst (HasNoShape (Shape (style_from index))) (sym text)
    (no_shape texts (style_from index) (style_text (style_from index) t)) in
    inr (
      form_of (style_from index),
      form_of (style_to index),
      text_of index t,
      Err Syntax,
      asked texts index t (sample_in_range index),
      is_answer (style_from index) (style_to index) (text_of index t) (Err Syntax) none,
      refl,
    )
answered texts index false h =
    let t : Interval = sample_interval index in
    let text : text_of index t ≡ style_text (style_from index) t = ap (λ (l : List ℕ). style_text (style_from index) t ++ l)
    (mark_is index false h) ∙ append-nil (style_text (style_from index) t) in
    let back : Denotes (Shape (style_from index)) (text_of index t) t = subst (λ (l : List ℕ). Denotes (Shape (style_from index)) l t)
    (sym text) (texts.back (style_from index) t (sample_in_range index)) in
    inr (
      form_of (style_from index),
      form_of (style_to index),
      text_of index t,
      Ok (style_text (style_to index) t),
      asked texts index t (sample_in_range index),
      is_answer (style_from index) (style_to index) (text_of index t)
          (Ok (style_text (style_to index) t)) (t, back, refl),
      refl,
    )

replied : Texts → (index : ℕ) → IsReply (line_of index (sample_interval index)) (sample_reply index)
replied texts index = answered texts index (index % 10 == 9) refl

-- ---- which replies are refusals

third_false : (a b rest : Bool) → (a && (b && (false && rest))) ≡ false
third_false true true rest = refl
third_false true false rest = refl
third_false false b rest = refl

false_true : false ≡ true → ⊥
false_true h = cc

not_f_when : (c : ℕ) (t : Bool) → nat_eq 102 c ≡ t → is_in_alphabet c ≡ true → t ≡ false
not_f_when c false e h = refl
not_f_when c true e h =
    let is : c ≡ 102 = grind (arith, nat_tests) in
    absurd (false_true (subst (λ (b : ℕ). is_in_alphabet b ≡ true) is h))

not_f : (c : ℕ) → is_in_alphabet c ≡ true → nat_eq 102 c ≡ false
not_f c h = not_f_when c (nat_eq 102 c) refl h

no_refusal : (bytes : List ℕ) → list_all is_in_alphabet bytes ≡ true → is_refusal bytes ≡ false
no_refusal [] h = refl
no_refusal (a ∷ []) h = third_false (nat_eq 114 a) false false
no_refusal (a ∷ b ∷ []) h = third_false (nat_eq 114 a) (nat_eq 101 b) false
no_refusal (a ∷ b ∷ c ∷ bytes) h =
    let first = and_parts (is_in_alphabet a) (list_all is_in_alphabet (b ∷ c ∷ bytes)) h in
    let second = and_parts (is_in_alphabet b) (list_all is_in_alphabet (c ∷ bytes)) first.1 in
    let third = and_parts (is_in_alphabet c) (list_all is_in_alphabet bytes) second.1 in
    rw (not_f c third.0) (third_false (nat_eq 114 a) (nat_eq 101 b) (pointwise nat_eq (codes "used ") (take 5 bytes)))

refused_when : Texts → (index : ℕ) (tenth : Bool) → is_refusal (reply_when tenth index) ≡ tenth
refused_when texts index true = refl
refused_when texts index false = no_refusal (style_text (style_to index) (sample_interval index))
    (written_in texts (style_to index) (sample_interval index) (sample_in_range index))

reply_no_feed : Texts → (index : ℕ) (tenth : Bool) → NoFeed (reply_when tenth index)
reply_no_feed texts index true = no_feed_each (codes "refused Syntax") refl
reply_no_feed texts index false = no_feed_each (style_text (style_to index) (sample_interval index))
    (texts.one_line (style_to index) (sample_interval index) (sample_in_range index))

-- ---- all replies

abbrev sample_replies : ℕ → List (List ℕ)
sample_replies zero = []
sample_replies (suc index) = sample_replies index ++ sample_reply index ∷ []

abbrev sample_output : ℕ → List ℕ
sample_output zero = []
sample_output (suc index) = sample_output index ++ (sample_reply index ++ codes "\n")

pub are_replies : Texts → (count : ℕ) → AreReplies (sample_lines count) (sample_output count)
are_replies texts zero = refl
are_replies texts (suc index) =
    join_push IsReplyLine (sample_output index) (sample_reply index ++ codes "\n") (sample_lines index)
    (line_of index (sample_interval index)) (are_replies texts index)
    (sample_reply index, replied texts index, refl)

are_whole : Texts → (count : ℕ) → AreWhole (sample_replies count) (sample_output count)
are_whole texts zero = refl
are_whole texts (suc index) =
    join_push IsEnded (sample_output index) (sample_reply index ++ codes "\n") (sample_replies index) (sample_reply index)
    (are_whole texts index)
    (reply_no_feed texts index (index % 10 == 9), refl)

output_lines : Texts → (count : ℕ) → whole_lines (sample_output count) ≡ sample_replies count
output_lines texts count =
    ap whole_lines (sym (append-nil (sample_output count))) ∙ (whole_lines_behind (sample_replies count) (sample_output count) []
    (are_whole texts count) ∙ append-nil (sample_replies count))

-- ---- how many of each kind

refusals_push : (xs : List (List ℕ)) (y : List ℕ) → refusals (xs ++ y ∷ []) ≡ refusals xs + (if is_refusal y then 1 else 0)
refusals_push [] y = omega arith
refusals_push (x ∷ xs) y = let below = refusals_push xs y in omega (arith, below)

answers_push : (xs : List (List ℕ)) (y : List ℕ) → answers (xs ++ y ∷ []) ≡ answers xs + (if is_refusal y then 0 else 1)
answers_push [] y = omega arith
answers_push (x ∷ xs) y = let below = answers_push xs y in omega (arith, below)

tenth_more : (index refused ok : ℕ) (tenth : Bool) → (index % 10 == 9) ≡ tenth → refused ≡ index / 10 → ok ≡ index - index / 10
    → (refused + (if tenth then 1 else 0) ≡ suc index / 10) × (ok + (if tenth then 0 else 1) ≡ suc index - suc index / 10)
tenth_more index refused ok true h r o = let last : index % 10 ≡ 9 =
    grind (arith, nat_tests) in (omega (arith, last, r), omega (arith, last, o))
tenth_more index refused ok false h r o = let last : index % 10 ≢ 9 =
    grind (arith, nat_tests) in (omega (arith, last, r), omega (arith, last, o))

counts : Texts → (count : ℕ) → (refusals (sample_replies count) ≡ count / 10) × (answers (sample_replies count) ≡ count - count / 10)
counts texts zero = (refl, refl)
counts texts (suc index) =
    let below = counts texts index in
    let kind : is_refusal (sample_reply index) ≡ (index % 10 == 9) = refused_when texts index (index % 10 == 9) in
    let more = tenth_more index (refusals (sample_replies index)) (answers (sample_replies index)) (index % 10 == 9) refl below.0 below.1 in (
      refusals_push (sample_replies index) (sample_reply index)
          ∙ (ap (λ (b : Bool). refusals (sample_replies index) + (if b then 1 else 0)) kind ∙ more.0),
      answers_push (sample_replies index) (sample_reply index) ∙
          (ap (λ (b : Bool). answers (sample_replies index) + (if b then 0 else 1)) kind ∙ more.1),
    )

pub tenth_refused : Texts → ((lines : List (List ℕ)) (a b : List ℕ) → AreReplies lines a → AreReplies lines b → a ≡ b)
    → (count : ℕ) (replies : List ℕ) → AreReplies (sample_lines count) replies
    → (refusals (whole_lines replies) ≡ count / 10) × (answers (whole_lines replies) ≡ count - count / 10)
tenth_refused texts one count replies h =
    let same : whole_lines replies ≡ sample_replies count = ap whole_lines
    (one (sample_lines count) replies (sample_output count) h (are_replies texts count)) ∙ output_lines texts count in
    let both = counts texts count in
    (ap refusals same ∙ both.0, ap answers same ∙ both.1)
