-- From what stands behind the `@` of a text up to the end of its body to what the text spells.
use Rattle.std.proofs.Common.{◌≡◌, ◌≢◌, ℕ, ◌+◌, ◌≤◌, ◌==◌, Bool, true, false, not, cond, List, [], ◌∷◌, ◌++◌, length, take, codes, Some}
use Rattle.std.proofs.Common.{Result, Ok, Err, IfErr, IfOk, refl, sym, ◌∙◌, ap, ap₂, subst, inl, inr, append_assoc, append-nil}
use Rattle.std.proofs.Common.{length-append, arith}
use Rattle.std.proofs.lemmas.Bool.Decides.{nat_tests}
use Rattle.std.specs.List.{list_all}
use Rattle.std.proofs.lemmas.Bool.{and_parts}
use Rattle.scan_core.specs.Blanks.{is_blank, words}
use Rattle.scan_core.specs.Count.{Count}
use Rattle.scan_core.specs.Fronts.{leading}
use Rattle.scan_core.specs.Scanning.{Place, Passes, ahead, front_byte}
use Rattle.scan_core.proofs.FrontFacts.{behind_skips, leading_passes}
use Rattle.scan_core.proofs.WordFacts.{ink, ink-words, weight, total_length}
use Rattle.pg_interval_2.specs.declared.interval.Interval.{Interval}
use Rattle.pg_interval_2.specs.declared.error.ParseError.{ParseError}
use Rattle.pg_interval_2.specs.declared.error.ParseError.TheVariants.{InvalidInterval, BadUnit, InvalidYearMonth, InvalidDay, InvalidTime}
use Rattle.pg_interval_2.specs.declared.reading.items.Misread.TheVariants.{BadName, NoItems}
use Rattle.pg_interval_2.specs.Denotes.{Denotes, HasNoShape, Refuses}
use Rattle.pg_interval_2.specs.Messages.{not_verbose}
use Rattle.pg_interval_2.specs.Postgres.{AreItems}
use Rattle.pg_interval_2.specs.Turned.{turned_counts}
use Rattle.pg_interval_2.specs.UnitNames.{verbose_names}
use Rattle.pg_interval_2.specs.Verbose.{IsFramed, IsVerbose, IsVerboseBadName, EndsInAgo}
use Rattle.pg_interval_2.specs.inside.VerboseParts.{ago_or_none, IsBody}
use Rattle.pg_interval_2.specs.inside.ItemReading.{after_blanks, verdict, Spelled, BadLetters, Unspelled}
use Rattle.pg_interval_2.specs.inside.ItemsTally.{AnswersItems, IsMisread, RefusesItems}
use Rattle.pg_interval_2.specs.inside.Tallies.{AnswersCounts}
use Rattle.pg_interval_2.specs.inside.VerboseReading.{solid_behind, ends_solid, IsEnding, IsBehindAt, AnswersFront, IsFrontMisread}
use Rattle.pg_interval_2.specs.inside.VerboseReading.{RefusesFront}
use Rattle.pg_interval_2.proofs.Answering.{answers_err, answers_ok}
use Rattle.pg_interval_2.proofs.BadNames.{bad_verdict, items_verdict}
use Rattle.pg_interval_2.proofs.Frames.{same_before, same_behind, one_frame, whole_words, words_before}
use Rattle.pg_interval_2.proofs.ItemFacts.{AreBlanks}
use Rattle.pg_interval_2.proofs.ItemWords.{words-blanks}
use Rattle.pg_interval_2.proofs.NoItems.{after_solid}
use Rattle.pg_interval_2.proofs.TextEnds.{solid-append, blanks_no_solid}
use Rattle.pg_interval_2.proofs.VerboseBadNames.{bad_after, bad_before, no_shape_at_bad}
use Rattle.pg_interval_2.proofs.VerboseCounts.{are_names, whole_text}

-- ---- a `0` alone

unweighed : (t : Bool) → ◌≡◌ {A = ℕ} (cond t 0 1) 0 → t ≡ true
unweighed true h = refl
unweighed false h = absurd (omega (arith, h))

no_ink : (bs : List ℕ) → ink bs ≡ 0 → AreBlanks bs
no_ink [] h = refl
no_ink (c ∷ cs) h =
    let first = unweighed (is_blank c) (omega (arith, h)) in
    let below = no_ink cs (omega (arith, h)) in
    rw (first, below) refl

no_more : (t : Bool) (bs : List ℕ) → AreBlanks bs → solid_behind t bs ≡ true → bs ≡ []
no_more t [] h solid = refl
no_more t (c ∷ cs) h solid =
    let split = and_parts (is_blank c) (list_all is_blank cs) h in
    let first = split.0 in
    let none : solid_behind t (c ∷ cs) ≡ false = rw first (blanks_no_solid cs split.1) in
    let clash : true ≡ false = sym solid ∙ none in cc

one_word : (b : ℕ) → is_blank b ≡ false → words (b ∷ []) ≡ codes "0" ∷ [] → b ∷ [] ≡ codes "0"
one_word b solid h = let first : words (b ∷ []) ≡ (b ∷ []) ∷ [] = rw solid refl in let same = sym first ∙ h in cc

-- bytes without blanks at their ends whose one word is `0`
only_zero : (t : Bool) (bytes : List ℕ) → ((b : ℕ) (bs : List ℕ) → bytes ≡ b ∷ bs → is_blank b ≡ false) → solid_behind t bytes ≡ true
    → words bytes ≡ codes "0" ∷ []
    → bytes ≡ codes "0"
only_zero t [] solid ends h = cc
only_zero t (b ∷ bs) solid ends h =
    let first = solid b bs refl in
    let total : ink (b ∷ bs) ≡ 1 = ink-words (b ∷ bs) ∙ ap total_length h in
    let one : weight b ≡ 1 = rw first refl in
    let none : bs ≡ [] = no_more (not (is_blank b)) bs (no_ink bs (omega (arith, total, one))) ends in
    ap (λ (l : List ℕ). b ∷ l) none ∙ one_word b first (ap (λ (l : List ℕ). words (b ∷ l)) (sym none) ∙ h)

-- ---- a scan behind the `@`

-- a scan has passed blanks, the `@` and blanks, and these bytes follow
pub record Passed (front bytes : List ℕ) (at : ℕ) : Type 0 where
  pub before : List ℕ
  pub gap : List ℕ
  pub blank_before : AreBlanks before
  pub blank_gap : AreBlanks gap
  pub split : front ≡ before ++ (64 ∷ (gap ++ bytes))
  pub place : at ≡ length before + 1 + length gap
  pub solid : (b : ℕ) (bs : List ℕ) → bytes ≡ b ∷ bs → is_blank b ≡ false

pub passed : (front : List ℕ) (s0 s1 s2 s3 : Place) → s0 ≡ record { text = front; at = 0 } → Passes (leading is_blank (ahead s0)) s0 s1
    → Passes (64 ∷ []) s1 s2 → Passes (leading is_blank (ahead s2)) s2 s3 → ahead s3 ≡ after_blanks (ahead s2)
    → Passed front (ahead s3) s3.at
passed front s0 s1 s2 s3 first a b c rest =
    let start : s0.at ≡ 0 = ap (λ (p : Place). p.at) first in
    let one = a.at in
    let two = b.at in
    let three = c.at in
    record {
      before = leading is_blank (ahead s0);
      gap = leading is_blank (ahead s2);
      blank_before = leading_passes is_blank (ahead s0);
      blank_gap = leading_passes is_blank (ahead s2);
      split = sym (ap ahead first) ∙ a.split ∙ ap (λ (l : List ℕ). leading is_blank (ahead s0) ++ l)
          (b.split ∙ ap (λ (l : List ℕ). 64 ∷ l) c.split);
      place = omega (arith, start, one, two, three);
      solid = λ d ds e. after_solid (ahead s2) d ds (sym rest ∙ e);
    }

front_at : (front bytes : List ℕ) (at : ℕ) (p : Passed front bytes at) → IsBehindAt front p.before (p.gap ++ bytes)
front_at front bytes at p = record { blank = p.blank_before; split = p.split }

pub passed_length : (front bytes : List ℕ) (at : ℕ) → Passed front bytes at → length bytes ≤ length front
passed_length front bytes at p =
    let whole = ap (λ (l : List ℕ). length l) p.split ∙ length-append p.before (64 ∷ (p.gap ++ bytes)) in
    let more = length-append p.gap bytes in
    omega (arith, whole, more)

-- no `@` stands behind the blanks in front
pub no_at : (front rest : List ℕ) → rest ≡ after_blanks front → front_byte rest ≢ Some 64 → IsFrontMisread front NoItems
no_at front rest is other before bytes at =
    let found : rest ≡ 64 ∷ bytes = is ∙ ap after_blanks at.split ∙ behind_skips is_blank before (64 ∷ bytes) at.blank in
    absurd (other (ap front_byte found))

pub zero_answer : (front bytes : List ℕ) (at : ℕ) (ago : Bool) (answer : Result Interval ParseError) → Passed front bytes at
    → bytes ≡ codes "0" → AnswersCounts [] answer
    → AnswersFront front ago answer
zero_answer front bytes at ago answer p zero answers =
    (p.before, p.gap ++ bytes, [], front_at front bytes at p, inl (words-blanks p.gap bytes p.blank_gap ∙ ap words zero, refl), answers)

items_answer : (front bytes : List ℕ) (at : ℕ) (ago : Bool) (answer : Result Interval ParseError) → Passed front bytes at
    → AnswersItems verbose_names ago bytes answer
    → AnswersFront front ago answer
items_answer front bytes at ago answer p (counts, items, answers) = (
  p.before,
  p.gap ++ bytes,
  counts,
  front_at front bytes at p,
  inr (subst (λ (all : List (List ℕ)). AreItems verbose_names all counts) (sym (words-blanks p.gap bytes p.blank_gap)) items),
  answers,
)

pub front_reads : (front bytes : List ℕ) (at : ℕ) (ago : Bool) (answer : Result Interval ParseError) → Passed front bytes at
    → IfOk answer (λ t. AnswersItems verbose_names ago bytes (Ok t))
    → IfOk answer (λ t. AnswersFront front ago (Ok t))
front_reads front bytes at ago (Ok t) p found = items_answer front bytes at ago (Ok t) p found
front_reads front bytes at ago (Err e) p found = tt

-- the bytes behind the `@` are these
same_bytes : (front bytes : List ℕ) (at : ℕ) (p : Passed front bytes at) (before more : List ℕ) → IsBehindAt front before more
    → words more ≡ words bytes
same_bytes front bytes at p before more h =
    let e = sym p.split ∙ h.split in
    let one = same_before p.before before (p.gap ++ bytes) more p.blank_before h.blank e in
    ap words (sym (same_behind p.before before (p.gap ++ bytes) more one e)) ∙ words-blanks p.gap bytes p.blank_gap

not_zero : (front bytes : List ℕ) (at : ℕ) → Passed front bytes at → ends_solid front ≡ true → (bytes ≡ codes "0" → ⊥)
    → words bytes ≡ codes "0" ∷ []
    → ⊥
not_zero front bytes at p ends other h =
    let whole : front ≡ (p.before ++ (64 ∷ p.gap)) ++ bytes = p.split ∙ sym (append_assoc p.before (64 ∷ p.gap) bytes) in
    let solid = sym (solid-append true (p.before ++ (64 ∷ p.gap)) bytes) ∙ ap ends_solid (sym whole) ∙ ends in
    other (only_zero (solid_behind true (p.before ++ (64 ∷ p.gap))) bytes p.solid solid h)

no_front_items : (front bytes : List ℕ) (at : ℕ) → Passed front bytes at → ends_solid front ≡ true → (bytes ≡ codes "0" → ⊥)
    → IsMisread verbose_names at bytes NoItems
    → IsFrontMisread front NoItems
no_front_items front bytes at p ends other h before more is =
    let same = same_bytes front bytes at p before more is in
    (ap (verdict verbose_names [] 0) same ∙ h, λ zero. not_zero front bytes at p ends other (sym same ∙ zero))

bad_front_name : (front bytes : List ℕ) (at start end : ℕ) → Passed front bytes at → IsMisread verbose_names at bytes (BadName start end)
    → IsFrontMisread front (BadName start end)
bad_front_name front bytes at start end p (s, e, bad, starts, stops) =
    let place = p.place in (
      p.before,
      p.gap ++ bytes,
      length p.gap + s,
      length p.gap + e,
      front_at front bytes at p,
      bad_before verbose_names p.gap bytes s e p.blank_gap bad,
      omega (arith, place, starts),
      omega (arith, place, stops),
    )

pub front_refuses : (front bytes : List ℕ) (at : ℕ) (ago : Bool) (answer : Result Interval ParseError) → Passed front bytes at
    → ends_solid front ≡ true → (bytes ≡ codes "0" → ⊥)
    → IfErr answer (RefusesItems verbose_names ago not_verbose at bytes)
    → IfErr answer (RefusesFront front ago)
front_refuses front bytes at ago (Ok t) p ends other why = tt
front_refuses front bytes at ago (Err (InvalidInterval m)) p ends other why = (no_front_items front bytes at p ends other why.0, why.1)
front_refuses front bytes at ago (Err (BadUnit start end)) p ends other why = bad_front_name front bytes at start end p why
front_refuses front bytes at ago (Err (InvalidYearMonth m)) p ends other why =
    items_answer front bytes at ago (Err (InvalidYearMonth m)) p why
front_refuses front bytes at ago (Err (InvalidDay m)) p ends other why = items_answer front bytes at ago (Err (InvalidDay m)) p why
front_refuses front bytes at ago (Err (InvalidTime m)) p ends other why = items_answer front bytes at ago (Err (InvalidTime m)) p why

-- ---- the whole text

abbrev frame : (text : List ℕ) (end : ℕ) (ago : Bool) (e : IsEnding text end ago) (before bytes : List ℕ)
    → IsBehindAt (take end text) before bytes
    → IsFramed text before (bytes ++ e.gap) ago
frame text end ago e before bytes at =
    let tail = e.gap ++ (ago_or_none ago ++ e.after) in
    record {
      after = e.after;
      blank_before = at.blank;
      blank_after = e.blank_after;
      joined = e.split ∙ ap (λ (l : List ℕ). l ++ tail) at.split ∙ append_assoc before (64 ∷ bytes) tail
          ∙ ap (λ (l : List ℕ). before ++ (64 ∷ l)) (sym (append_assoc bytes e.gap (ago_or_none ago ++ e.after)));
    }

body_gap : (bytes gap : List ℕ) (counts : List Count) → AreBlanks gap → IsBody bytes counts → IsBody (bytes ++ gap) counts
body_gap bytes gap counts blank (inl zero) = inl (words_before bytes gap blank ∙ zero.0, zero.1)
body_gap bytes gap counts blank (inr items) = inr (subst (λ (all : List (List ℕ)). AreItems verbose_names all counts)
    (sym (words_before bytes gap blank)) items)

spelled : (text : List ℕ) (end : ℕ) (ago : Bool) (answer : Result Interval ParseError) → IsEnding text end ago
    → AnswersFront (take end text) ago answer
    → (counts : List Count) × IsVerbose text counts × AnswersCounts counts answer
spelled text end ago answer e (before, bytes, counts, at, body, answers) = (
  turned_counts ago counts,
  record {
    before = before;
    body = bytes ++ e.gap;
    ago = ago;
    body_counts = counts;
    framed = frame text end ago e before bytes at;
    spelled = body_gap bytes e.gap counts e.blank_gap body;
    counted = refl;
  },
  answers,
)

bad_name : (text : List ℕ) (end : ℕ) (ago : Bool) (start stop : ℕ) → IsEnding text end ago
    → IsFrontMisread (take end text) (BadName start stop)
    → IsVerboseBadName text start stop
bad_name text end ago start stop e (before, bytes, from, to, at, bad, starts, stops) = record {
  before = before;
  body = bytes ++ e.gap;
  ago = ago;
  from = from;
  to = to;
  framed = frame text end ago e before bytes at;
  whole = e.whole;
  bad = bad_after verbose_names bytes e.gap from to e.blank_gap bad;
  starts = starts;
  stops = stops;
}

-- ---- no `@` stands behind the body

abbrev lacks_at : List ℕ → Bool
lacks_at bytes = list_all (λ b. not (b == 64)) bytes

at_within : (before rest : List ℕ) → lacks_at (before ++ (64 ∷ rest)) ≡ true → ⊥
at_within [] rest h = cc
at_within (b ∷ bs) rest h = at_within bs rest (and_parts (not (b == 64)) (lacks_at (bs ++ (64 ∷ rest))) h).1

split_at : (front tail before rest : List ℕ) → lacks_at tail ≡ true → front ++ tail ≡ before ++ (64 ∷ rest)
    → (bytes : List ℕ) × (front ≡ before ++ (64 ∷ bytes))
split_at [] tail before rest none e = absurd (at_within before rest (ap lacks_at (sym e) ∙ none))
split_at (f ∷ fs) tail [] rest none e = let heads : f ≡ 64 = cc in (fs, ap (λ (b : ℕ). b ∷ fs) heads)
split_at (f ∷ fs) tail (b ∷ bs) rest none e =
    let heads : f ≡ b = cc in
    let tails : fs ++ tail ≡ bs ++ (64 ∷ rest) = cc in
    let below = split_at fs tail bs rest none tails in
    (below.0, ap₂ (λ (c : ℕ) (cs : List ℕ). c ∷ cs) heads below.1)

blank_no_at : (b : ℕ) → is_blank b ≡ true → not (b == 64) ≡ true
blank_no_at b h = grind (arith, nat_tests)

blanks_lack : (blanks rest : List ℕ) → AreBlanks blanks → lacks_at rest ≡ true → lacks_at (blanks ++ rest) ≡ true
blanks_lack [] rest h none = none
blanks_lack (b ∷ bs) rest h none =
    let split = and_parts (is_blank b) (list_all is_blank bs) h in
    let first = blank_no_at b split.0 in
    rw first (blanks_lack bs rest split.1 none)

ago_lacks : (ago : Bool) (after : List ℕ) → lacks_at after ≡ true → lacks_at (ago_or_none ago ++ after) ≡ true
ago_lacks true after h = h
ago_lacks false after h = h

tail_lacks : (text : List ℕ) (end : ℕ) (ago : Bool) (e : IsEnding text end ago) → lacks_at (e.gap ++ (ago_or_none ago ++ e.after)) ≡ true
tail_lacks text end ago e =
    blanks_lack e.gap _ e.blank_gap (ago_lacks ago e.after (ap lacks_at (sym (append-nil e.after))
    ∙ blanks_lack e.after [] e.blank_after refl))

-- a frame of the text has its `@` before the end of the body, and its words behind it
framed_words :
    (text : List ℕ) (end : ℕ) (ago : Bool) (e : IsEnding text end ago) (before body : List ℕ) (turned : Bool)
    (f : IsFramed text before body turned) → (turned ≡ false → EndsInAgo text → ⊥)
    → (bytes : List ℕ) × IsBehindAt (take end text) before bytes × (words body ≡ words bytes)
framed_words text end ago e before body turned f whole =
    let found = split_at (take end text) (e.gap ++ (ago_or_none ago ++ e.after)) before (body ++ (ago_or_none turned ++ f.after))
    (tail_lacks text end ago e) (sym e.split ∙ f.joined) in
    let at : IsBehindAt (take end text) before found.0 = record { blank = f.blank_before; split = found.1 } in
    let same = one_frame text before before body (found.0 ++ e.gap) turned ago f (frame text end ago e before found.0 at) whole e.whole in (
      found.0,
      at,
      sym (whole_words turned body f.after f.blank_after) ∙ ap words same.whole
          ∙ whole_words ago (found.0 ++ e.gap) e.after e.blank_after ∙ words_before found.0 e.gap e.blank_gap,
    )

no_body : (body bytes : List ℕ) (counts : List Count) → words body ≡ words bytes → verdict verbose_names [] 0 (words bytes) ≡ Unspelled
    → (words bytes ≡ codes "0" ∷ [] → ⊥) → IsBody body counts
    → ⊥
no_body body bytes counts same judged other (inl zero) = other (sym same ∙ zero.0)
no_body body bytes counts same judged other (inr items) =
    let clash : Unspelled ≡ Spelled counts = sym judged ∙ ap (verdict verbose_names [] 0) (sym same)
    ∙ items_verdict verbose_names are_names (words body) counts items in cc

no_items : (text : List ℕ) (end : ℕ) (ago : Bool) → IsEnding text end ago → IsFrontMisread (take end text) NoItems
    → HasNoShape IsVerbose text × ((start stop : ℕ) → IsVerboseBadName text start stop → ⊥)
no_items text end ago e none = (
  λ counts h.
      let found = framed_words text end ago e h.before h.body h.ago h.framed (whole_text text counts h) in
      let judged = none h.before found.0 found.1 in
      no_body h.body found.0 h.body_counts found.2 judged.0 judged.1 h.spelled,
  λ start stop k.
      let found = framed_words text end ago e k.before k.body k.ago k.framed k.whole in
      let judged = none k.before found.0 found.1 in
      let clash : Unspelled ≡ BadLetters (total_length (words k.bad.lead) + length k.bad.number) k.bad.letters =
      sym judged.0 ∙ ap (verdict verbose_names [] 0) (sym found.2) ∙ bad_verdict verbose_names are_names k.body k.from k.to k.bad in cc,
)

-- ---- what the reader answers

-- what is answered of the whole text is what the text denotes, or why it denotes nothing
pub reads : (text : List ℕ) (end : ℕ) (ago : Bool) (answer : Result Interval ParseError) → IsEnding text end ago
    → IfOk answer (λ t. AnswersFront (take end text) ago (Ok t))
    → IfOk answer (λ t. Denotes IsVerbose text t)
reads text end ago (Ok t) e found = let of = spelled text end ago (Ok t) e found in
    answers_ok IsVerbose text of.0 of.1 (Ok t) of.2
reads text end ago (Err error) e found = tt

range : (text : List ℕ) (end : ℕ) (ago : Bool) (error : ParseError) → IsEnding text end ago → AnswersFront (take end text) ago (Err error)
    → Refuses IsVerbose IsVerboseBadName not_verbose text error
range text end ago error e found = let of = spelled text end ago (Err error) e found in
    answers_err IsVerbose IsVerboseBadName not_verbose text of.0 of.1 (Err error) of.2

pub refuses : (text : List ℕ) (end : ℕ) (ago : Bool) (answer : Result Interval ParseError) → IsEnding text end ago
    → IfErr answer (RefusesFront (take end text) ago)
    → IfErr answer (λ error. Refuses IsVerbose IsVerboseBadName not_verbose text error)
refuses text end ago (Ok t) e why = tt
refuses text end ago (Err (InvalidInterval m)) e why = let none = no_items text end ago e why.0 in (none.0, none.1, why.1)
refuses text end ago (Err (BadUnit start stop)) e why = let bad = bad_name text end ago start stop e why in
    (λ counts shape. no_shape_at_bad text start stop counts bad shape, bad)
refuses text end ago (Err (InvalidYearMonth m)) e why = range text end ago (InvalidYearMonth m) e why
refuses text end ago (Err (InvalidDay m)) e why = range text end ago (InvalidDay m) e why
refuses text end ago (Err (InvalidTime m)) e why = range text end ago (InvalidTime m) e why
