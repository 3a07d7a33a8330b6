-- Answers to the goals of `columns::push_line`.
use Rattle.std.proofs.Common.{◌≡◌, ◌+◌, ◌++◌, List, ℕ, codes, length, sym, ◌∙◌, ap, subst, rules}
use Rattle.std.proofs.lemmas.List.{length-take-le}
use Rattle.text_lines.specs.Outputs.{IsBeforeEnd}
use Rattle.text_lines.proofs.LineParts.{refused_whole, answered_there, around, around_sizes, front_there, back_there, put_around}
use Rattle.text_lines.proofs.OneOutput.{one_end}
use Rattle.text_lines.proofs.columns.push_line.Goals as goal

pub returns-in_default : goal.returns-in_default
returns-in_default c =
    let told = c.push_refused_line.ensures.told in
    let same = one_end c.split_mark.result.1.now told.0 told.1 c.split_end.result.0.now c.split_end.result.1.now told.2 c.split_end.ensures
    in
    let ended : IsBeforeEnd c.split_mark.result.1.now c.split_end.result.0.now told.1 = subst
    (λ (l : List ℕ). IsBeforeEnd c.split_mark.result.1.now l told.1) same.0 told.2 in (
      codes "refused Line" ++ told.1,
      refused_whole c.args.from c.args.to c.args.place c.args.first c.args.line.now c.split_mark.result.0.now c.split_mark.result.1.now
          c.split_end.result.0.now told.1 (search rules) c.split_mark.ensures ended c.in_default.ensures.none,
      told.3,
    )

pub slice_bounds-push-end-2 : goal.slice_bounds-push-end-2
slice_bounds-push-end-2 c =
    let parts = around c.args.place c.args.first c.args.line.now c.split_mark.result.0.now c.split_mark.result.1.now
    c.split_end.result.0.now c.split_end.result.1.now c.in-Some.before.now c.in-Some.text.now c.in-Some.field-0-2.now
    c.split_mark.ensures c.split_end.ensures c.in-Some.ensures.found in
    let sizes = around_sizes c.args.line.now c.split_mark.result.0.now c.split_mark.result.1.now c.in-Some.before.now c.in-Some.text.now
    c.in-Some.field-0-2.now parts.0 c.split_end.result.1.now parts.1 in
    sym (length-take-le (length c.split_mark.result.0.now + length c.in-Some.before.now) c.args.line.now sizes.0)

pub behind-back-requires : goal.behind-back-requires
behind-back-requires c =
    let parts = around c.args.place c.args.first c.args.line.now c.split_mark.result.0.now c.split_mark.result.1.now
    c.split_end.result.0.now c.split_end.result.1.now c.in-Some.before.now c.in-Some.text.now c.in-Some.field-0-2.now
    c.split_mark.ensures c.split_end.ensures c.in-Some.ensures.found in
    (around_sizes c.args.line.now c.split_mark.result.0.now c.split_mark.result.1.now c.in-Some.before.now c.in-Some.text.now
    c.in-Some.field-0-2.now parts.0 c.split_end.result.1.now parts.1).1

pub returns : goal.returns
returns c =
    let parts = around c.args.place c.args.first c.args.line.now c.split_mark.result.0.now c.split_mark.result.1.now
    c.split_end.result.0.now c.split_end.result.1.now c.in-Some.before.now c.in-Some.text.now c.in-Some.field-0-2.now
    c.split_mark.ensures c.split_end.ensures c.in-Some.ensures.found in
    let replied = c.push_reply_bytes-refused.ensures.reply in
    let front : List ℕ = c.split_mark.result.0.now in
    let before : List ℕ = c.in-Some.before.now in
    let there = front_there c.args.line.now c.split_mark.result.0.now c.split_mark.result.1.now c.in-Some.before.now c.in-Some.text.now
    c.in-Some.field-0-2.now parts.0 c.split_end.result.1.now parts.1 in
    let back : c.behind-back.result.now ≡ c.in-Some.field-0-2.now ++ parts.0 = c.behind-back.ensures
    ∙ back_there c.args.line.now c.split_mark.result.0.now c.split_mark.result.1.now c.in-Some.before.now c.in-Some.text.now
    c.in-Some.field-0-2.now parts.0 c.split_end.result.1.now parts.1 in
    let first = c.push-2.ensures ∙ ap (λ (l : List ℕ). c.args.batch.now ++ l) there in
    let third = c.push-3.ensures ∙ ap (λ (l : List ℕ). c.push_reply_bytes-refused.new.batch ++ l) back in (
      front ++ (before ++ (replied.0 ++ (c.in-Some.field-0-2.now ++ c.split_end.result.1.now))),
      answered_there c.args.from c.args.to c.args.place c.args.first c.args.line.now front c.split_mark.result.1.now
          c.split_end.result.0.now c.split_end.result.1.now before c.in-Some.text.now c.in-Some.field-0-2.now replied.0
          c.push_reply_bytes-refused.result (search rules) c.split_mark.ensures c.split_end.ensures c.in-Some.ensures.found replied.1,
      put_around c.args.line.now c.split_mark.result.0.now c.split_mark.result.1.now c.in-Some.before.now c.in-Some.text.now
          c.in-Some.field-0-2.now parts.0 c.split_end.result.1.now replied.0 c.args.batch.now c.push-2.new.self
          c.push_reply_bytes-refused.new.batch c.push-3.new.self c.push_feed.new.self parts.1 first replied.3 third c.push_feed.ensures,
    )
