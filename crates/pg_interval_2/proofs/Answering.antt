-- From the tally's answer to what a reader answers, for any shape that gives a text one list of counts.
use Rattle.std.proofs.Common.{◌≡◌, ℕ, IsTrue, List, Some, None, Result, Ok, Err, IfOk, IfErr, IsErrAnd, refl, subst, sym, ◌∙◌, ap}
use Rattle.scan_core.specs.Count.{Count}
use Rattle.scan_core.specs.Sums.{fits, misfit}
use Rattle.scan_core.specs.declared.share.Part.{Part}
use Rattle.scan_core.specs.declared.share.Part.TheVariants.{Days, Micros, Months}
use Rattle.scan_core.proofs.SumFacts.{misfit-none}
use Rattle.pg_interval_2.specs.declared.interval.Interval.{Interval}
use Rattle.pg_interval_2.specs.declared.error.ParseError.{ParseError}
use Rattle.pg_interval_2.specs.declared.error.ParseError.TheVariants.{InvalidInterval, BadUnit, InvalidYearMonth, InvalidDay, InvalidTime}
use Rattle.pg_interval_2.specs.Denotes.{Denotes, HasNoShape, IsRange, IsRangeOf, Misfits, Refuses}
use Rattle.pg_interval_2.specs.inside.Tallies.{sum_of}
use Rattle.pg_interval_2.specs.inside.Tallies.{AnswersCounts}

-- a text has one list of counts
abbrev pub HasOneList : (List ℕ → List Count → Type 0) → Type 0
HasOneList Shape = (text : List ℕ) (a b : List Count) → Shape text a → Shape text b → a ≡ b

fits_or_not : (counts : List Count) (part : Part) → IsTrue (fits counts) → misfit counts ≡ Some part → ⊥
fits_or_not counts part fit misses = let none = (misfit-none counts).1 fit in let clash : None ≡ Some part = sym none ∙ misses in cc

-- what is answered is what the text denotes, or why it denotes nothing
pub answers_ok : (Shape : List ℕ → List Count → Type 0) (text : List ℕ) (counts : List Count) → Shape text counts
    → (result : Result Interval ParseError) → AnswersCounts counts result
    → IfOk result (λ t. Denotes Shape text t)
answers_ok Shape text counts shape (Ok t) answer = (counts, shape, answer.0, answer.1)
answers_ok Shape text counts shape (Err e) answer = tt

pub answers_err :
    (Shape : List ℕ → List Count → Type 0) (IsBadPlace : List ℕ → ℕ → ℕ → Type 0) (message text : List ℕ) (counts : List Count)
    → Shape text counts → (result : Result Interval ParseError) → AnswersCounts counts result
    → IfErr result (λ e. Refuses Shape IsBadPlace message text e)
answers_err Shape IsBadPlace message text counts shape (Ok t) answer = tt
answers_err Shape IsBadPlace message text counts shape (Err (InvalidInterval m)) answer = absurd answer
answers_err Shape IsBadPlace message text counts shape (Err (BadUnit start end)) answer = absurd answer
answers_err Shape IsBadPlace message text counts shape (Err (InvalidYearMonth m)) answer = ((counts, shape, answer.0), answer.1)
answers_err Shape IsBadPlace message text counts shape (Err (InvalidDay m)) answer = ((counts, shape, answer.0), answer.1)
answers_err Shape IsBadPlace message text counts shape (Err (InvalidTime m)) answer = ((counts, shape, answer.0), answer.1)

-- ---- from what is answered to what else it is, for a shape that gives a text one list of counts

-- what the text denotes is what is answered
pub all_from : (Shape : List ℕ → List Count → Type 0) (IsBad : List ℕ → ℕ → ℕ → Type 0) (message : List ℕ) → HasOneList Shape
    → (text : List ℕ) (result : Result Interval ParseError) → IfOk result (λ t. Denotes Shape text t)
    → IfErr result (λ e. Refuses Shape IsBad message text e) → (t : Interval) → Denotes Shape text t
    → result ≡ Ok t
all_from Shape IsBad message one text (Ok u) ok err t denotes =
    let same : sum_of ok.0 ≡ sum_of denotes.0 = ap sum_of (one text ok.0 denotes.0 ok.1 denotes.1) in
    ap (λ (v : Interval). Ok v) (ok.3 ∙ same ∙ sym denotes.3)
all_from Shape IsBad message one text (Err (InvalidInterval m)) ok err t denotes = absurd (err.0 denotes.0 denotes.1)
all_from Shape IsBad message one text (Err (BadUnit start end)) ok err t denotes = absurd (err.0 denotes.0 denotes.1)
all_from Shape IsBad message one text (Err (InvalidYearMonth m)) ok err t denotes =
    absurd (fits_or_not denotes.0 _ denotes.2 (ap misfit (one text denotes.0 err.0.0 denotes.1 err.0.1) ∙ err.0.2))
all_from Shape IsBad message one text (Err (InvalidDay m)) ok err t denotes =
    absurd (fits_or_not denotes.0 _ denotes.2 (ap misfit (one text denotes.0 err.0.0 denotes.1 err.0.1) ∙ err.0.2))
all_from Shape IsBad message one text (Err (InvalidTime m)) ok err t denotes =
    absurd (fits_or_not denotes.0 _ denotes.2 (ap misfit (one text denotes.0 err.0.0 denotes.1 err.0.1) ∙ err.0.2))

-- of two parts that don't fit first, one is the other
one_part : (Shape : List ℕ → List Count → Type 0) → HasOneList Shape → (text : List ℕ) (a b : Part) → Misfits Shape text a
    → Misfits Shape text b
    → a ≡ b
one_part Shape one text a b x y = let same : Some a ≡ Some b = sym x.2 ∙ ap misfit (one text x.0 y.0 x.1 y.1) ∙ y.2 in cc

is_range_of : (part other : Part) (e : ParseError) → part ≡ other → IsRangeOf part e → IsRangeOf other e
is_range_of part other e same h = subst (λ (p : Part). IsRangeOf p e) same h

-- where a part doesn't fit, the refusal is that part's
pub range_from : (Shape : List ℕ → List Count → Type 0) (IsBad : List ℕ → ℕ → ℕ → Type 0) (message : List ℕ) → HasOneList Shape
    → (text : List ℕ) (result : Result Interval ParseError) → IfOk result (λ t. Denotes Shape text t)
    → IfErr result (λ e. Refuses Shape IsBad message text e) → (part : Part) → Misfits Shape text part
    → IsErrAnd result (IsRangeOf part)
range_from Shape IsBad message one text (Ok u) ok err part misfits =
    absurd (fits_or_not ok.0 part ok.2 (ap misfit (one text ok.0 misfits.0 ok.1 misfits.1) ∙ misfits.2))
range_from Shape IsBad message one text (Err (InvalidInterval m)) ok err part misfits = absurd (err.0 misfits.0 misfits.1)
range_from Shape IsBad message one text (Err (BadUnit start end)) ok err part misfits = absurd (err.0 misfits.0 misfits.1)
range_from Shape IsBad message one text (Err (InvalidYearMonth m)) ok err part misfits =
    is_range_of Months part (InvalidYearMonth m) (one_part Shape one text Months part err.0 misfits) err.1
range_from Shape IsBad message one text (Err (InvalidDay m)) ok err part misfits =
    is_range_of Days part (InvalidDay m) (one_part Shape one text Days part err.0 misfits) err.1
range_from Shape IsBad message one text (Err (InvalidTime m)) ok err part misfits =
    is_range_of Micros part (InvalidTime m) (one_part Shape one text Micros part err.0 misfits) err.1

-- without a shape the refusal says so
pub none_from :
    (Shape : List ℕ → List Count → Type 0) (IsBad : List ℕ → ℕ → ℕ → Type 0) (message text : List ℕ) (result : Result Interval ParseError)
    → IfOk result (λ t. Denotes Shape text t) → IfErr result (λ e. Refuses Shape IsBad message text e) → HasNoShape Shape text
    → IsErrAnd result (λ e. ¬ (IsRange e))
none_from Shape IsBad message text (Ok u) ok err none = absurd (none ok.0 ok.1)
none_from Shape IsBad message text (Err (InvalidInterval m)) ok err none = λ range. range
none_from Shape IsBad message text (Err (BadUnit start end)) ok err none = λ range. range
none_from Shape IsBad message text (Err (InvalidYearMonth m)) ok err none = absurd (none err.0.0 err.0.1)
none_from Shape IsBad message text (Err (InvalidDay m)) ok err none = absurd (none err.0.0 err.0.1)
none_from Shape IsBad message text (Err (InvalidTime m)) ok err none = absurd (none err.0.0 err.0.1)

-- bad places leave a text without a shape, and it has one at most
pub record IsPlaces (Shape : List ℕ → List Count → Type 0) (IsBad : List ℕ → ℕ → ℕ → Type 0) : Type 0 where
  pub none : (text : List ℕ) (start end : ℕ) (counts : List Count) → IsBad text start end → Shape text counts → ⊥
  pub one : (text : List ℕ) (s e t f : ℕ) → IsBad text s e → IsBad text t f → (s ≡ t) × (e ≡ f)

-- where a bad place is, the refusal names it
pub bad_from : (Shape : List ℕ → List Count → Type 0) (IsBad : List ℕ → ℕ → ℕ → Type 0) (message : List ℕ) → IsPlaces Shape IsBad
    → (text : List ℕ) (result : Result Interval ParseError) → IfOk result (λ t. Denotes Shape text t)
    → IfErr result (λ e. Refuses Shape IsBad message text e) → (start end : ℕ) → IsBad text start end
    → result ≡ Err (BadUnit start end)
bad_from Shape IsBad message places text (Ok u) ok err start end bad = absurd (places.none text start end ok.0 bad ok.1)
bad_from Shape IsBad message places text (Err (InvalidInterval m)) ok err start end bad = absurd (err.1 start end bad)
bad_from Shape IsBad message places text (Err (BadUnit s e)) ok err start end bad = let same = places.one text s e start end err.1 bad in
    rw (same.0, same.1) refl
bad_from Shape IsBad message places text (Err (InvalidYearMonth m)) ok err start end bad =
    absurd (places.none text start end err.0.0 bad err.0.1)
bad_from Shape IsBad message places text (Err (InvalidDay m)) ok err start end bad = absurd (places.none text start end err.0.0 bad err.0.1)
bad_from Shape IsBad message places text (Err (InvalidTime m)) ok err start end bad =
    absurd (places.none text start end err.0.0 bad err.0.1)
