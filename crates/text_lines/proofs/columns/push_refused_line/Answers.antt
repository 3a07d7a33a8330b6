-- Answers to the goals of `columns::push_refused_line`.
use Rattle.std.proofs.Common.{◌++◌, List, ℕ, codes, ◌∙◌, ap, append_assoc}
use Rattle.text_lines.proofs.columns.push_refused_line.Goals as goal

pub returns : goal.returns
returns c = record {
  told = (
    c.split_end.result.0.now,
    c.split_end.result.1.now,
    c.split_end.ensures,
    c.push-2.ensures ∙ (ap (λ (l : List ℕ). l ++ c.as_bytes.result.now) c.push.ensures
        ∙ (append_assoc c.args.batch.now (codes "refused Line") c.as_bytes.result.now
        ∙ ap (λ (l : List ℕ). c.args.batch.now ++ (codes "refused Line" ++ l)) c.as_bytes.ensures.value)),
  );
}
