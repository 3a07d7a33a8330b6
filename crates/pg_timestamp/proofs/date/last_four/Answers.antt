-- Answers to the goals of `date::last_four`.
use Rattle.std.proofs.Common.{◌≡◌, ◌++◌, ◌∙◌, arith}
use Rattle.std.proofs.lemmas.List.{take-append-drop}
use Rattle.scan_core.specs.Digits.{number_of}
use Rattle.pg_timestamp.proofs.YearFacts.{four_last}
use Rattle.pg_timestamp.proofs.date.last_four.Goals as goal

pub digits_u32-requires-clause-digits : goal.digits_u32-requires-clause-digits
digits_u32-requires-clause-digits c =
    let front = c.split_at.ensures.front in
    let back = c.split_at.ensures.back in
    let long = c.split_at.ensures.back_len in
    let least = c.requires.least in
    let joined : c.split_at.result.0.now ++ c.split_at.result.1.now ≡ c.args.digits.now = rw (front, back) (take-append-drop _ _) in
    (four_last c.args.digits.now c.split_at.result.0.now c.split_at.result.1.now c.requires.digits joined (omega (arith, long, least))).0

pub unwrap-number-requires : goal.unwrap-number-requires
unwrap-number-requires c =
    let front = c.split_at.ensures.front in
    let back = c.split_at.ensures.back in
    let long = c.split_at.ensures.back_len in
    let least = c.requires.least in
    let joined : c.split_at.result.0.now ++ c.split_at.result.1.now ≡ c.args.digits.now = rw (front, back) (take-append-drop _ _) in
    let four = four_last c.args.digits.now c.split_at.result.0.now c.split_at.result.1.now c.requires.digits joined
    (omega (arith, long, least)) in
    c.digits_u32.ensures.fits.1 (let small = four.1 in omega (arith, small))

pub overflow_cast-result : goal.overflow_cast-result
overflow_cast-result c =
    let front = c.split_at.ensures.front in
    let back = c.split_at.ensures.back in
    let long = c.split_at.ensures.back_len in
    let least = c.requires.least in
    let joined : c.split_at.result.0.now ++ c.split_at.result.1.now ≡ c.args.digits.now = rw (front, back) (take-append-drop _ _) in
    let four = four_last c.args.digits.now c.split_at.result.0.now c.split_at.result.1.now c.requires.digits joined
    (omega (arith, long, least)) in
    let is : c.unwrap-number.result ≡ number_of c.split_at.result.1.now = rw c.unwrap-number.ensures at c.digits_u32.ensures.value in
    let small = four.1 in
    omega (arith, small, is)

pub returns : goal.returns
returns c =
    let front = c.split_at.ensures.front in
    let back = c.split_at.ensures.back in
    let long = c.split_at.ensures.back_len in
    let least = c.requires.least in
    let joined : c.split_at.result.0.now ++ c.split_at.result.1.now ≡ c.args.digits.now = rw (front, back) (take-append-drop _ _) in
    let four = four_last c.args.digits.now c.split_at.result.0.now c.split_at.result.1.now c.requires.digits joined
    (omega (arith, long, least)) in
    let is : c.unwrap-number.result ≡ number_of c.split_at.result.1.now = rw c.unwrap-number.ensures at c.digits_u32.ensures.value in
    is ∙ four.2
