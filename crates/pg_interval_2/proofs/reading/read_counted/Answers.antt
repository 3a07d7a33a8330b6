-- Answers to the goals of `reading::read_counted`.
use Rattle.pg_interval_2.specs.Styles.{IsBadPlace, Shape, not_in}
use Rattle.pg_interval_2.proofs.Answering.{all_from, bad_from, none_from, range_from}
use Rattle.pg_interval_2.proofs.OneList.{one_list, places}
use Rattle.pg_interval_2.proofs.reading.read_counted.Goals as goal

pub returns-clause-answers : goal.returns-clause-answers
returns-clause-answers g c =
    let s = c.args.style in
    let text = c.args.text.now in
    let result = c.read_style.result in
    let ok = c.read_style.ensures.ok in
    let err = c.read_style.ensures.err in
    record {
      ok = ok;
      all = all_from (Shape s) (IsBadPlace s) (not_in s) (one_list s) text result ok err;
      err = err;
      bad = bad_from (Shape s) (IsBadPlace s) (not_in s) (places s) text result ok err;
      range = range_from (Shape s) (IsBadPlace s) (not_in s) (one_list s) text result ok err;
      none = none_from (Shape s) (IsBadPlace s) (not_in s) text result ok err;
    }
