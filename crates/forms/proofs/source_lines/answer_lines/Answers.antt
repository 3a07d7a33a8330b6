-- Answers to the goals of `source_lines::answer_lines`.
use Rattle.std.proofs.Common.{◌≡◌, ◌-◌, ◌^◌, ◌≤◌, ◌++◌, List, ℕ, [], length, take, drop, sym, ◌∙◌, rules, arith}
use Rattle.std.proofs.lemmas.Bool.Decides.{nat_tests}
use Rattle.std.proofs.lemmas.List.{nil_from_length}
use Rattle.std.proofs.KnownBytes.{Consumes-nil, Consumes-kept}
use Rattle.forms.specs.Ends.{Streams, streams}
use Rattle.forms.specs.Outputs.{cut}
use Rattle.forms.proofs.Cuts.{take_nil}
use Rattle.forms.proofs.Runs.{IsRunning, running-start, running-none, running-read, running-answered, ends-unread, ends-done}
use Rattle.forms.proofs.Runs.{ends-last_unwritten, ends-unwritten, ends-long}
use Rattle.forms.proofs.source_lines.answer_lines.Goals as goal

pub loop-room-init : goal.loop-room-init
loop-room-init g c =
    let kept : List ℕ = c.args.kept.now.items in
    let none : kept ≡ [] = nil_from_length kept (sym c.args.kept.now.ok.0 ∙ c.requires.empty) in
    record {
      running = (
        [],
        none ∙ sym (take_nil c.args.most),
        running-start _ c.args.answerer.now c.args.limit
            (streams g.S.Source.left g.S.Source.taken g.S.Source.faults g.K.Sink.held g.K.Sink.faults c.args.source.now c.args.sink.now),
      );
      empty = c.requires.waiting;
      kept = omega (arith, c.requires.empty);
      held = c.requires.room;
    }

pub returns-in-Ok-answer_last-clause-ended : goal.returns-in-Ok-answer_last-clause-ended
returns-in-Ok-answer_last-clause-ended g c =
    let old : Streams = streams g.S.Source.left g.S.Source.taken g.S.Source.faults g.K.Sink.held g.K.Sink.faults c.args.source.now
    c.args.sink.now in
    let new : Streams = streams g.S.Source.left g.S.Source.taken g.S.Source.faults g.K.Sink.held g.K.Sink.faults c.loop-room.source
    c.loop-room.sink in
    let read : Streams = streams g.S.Source.left g.S.Source.taken g.S.Source.faults g.K.Sink.held g.K.Sink.faults c.read.new.self
    c.loop-room.sink in
    let some : 1 ≤ c.loop-room.room = grind (arith, nat_tests) in
    let want : c.min-want.result ≤ c.loop-room.room = omega (arith, c.min-want.ensures) in
    let size : length c.read.new.buf ≡ c.min-want.result = search rules in
    let small : c.args.limit ≤ 2 ^ 62 = c.requires.limit in
    let same : c.deref.result.now ≡ take c.args.most c.loop-room.invariant.running.0 = cc in
    let ended : IsRunning (cut c.args.most g.A.AnswersLines.says) c.args.answerer.now c.loop-room.answerer c.args.limit c.loop-room.room old
    read c.loop-room.invariant.running.0 [] =
    running-none _ _ _ c.args.limit c.loop-room.room c.min-want.result old new (g.S.Source.left c.read.new.self)
    (g.S.Source.taken c.read.new.self) (g.S.Source.faults c.read.new.self) c.loop-room.invariant.running.0
    c.loop-room.invariant.running.2 small want (search rules) (search rules) c.in-Ok-eq0.ensures.cause.later in
    ends-done _ _ _ _ c.args.limit c.loop-room.room old read (g.K.Sink.held c.answer_last.new.sink)
    (g.K.Sink.faults c.answer_last.new.sink) c.loop-room.invariant.running.0 ended some (search rules)
    (c.in-Ok-answer_last.ensures.ok c.args.most c.loop-room.invariant.running.0 c.requires.most
    c.loop-room.invariant.running.2.answers.left same) c.in-Ok-answer_last.ensures.cause.later

pub returns-in-Err-answer_last-clause-ended : goal.returns-in-Err-answer_last-clause-ended
returns-in-Err-answer_last-clause-ended g c =
    let old : Streams = streams g.S.Source.left g.S.Source.taken g.S.Source.faults g.K.Sink.held g.K.Sink.faults c.args.source.now
    c.args.sink.now in
    let new : Streams = streams g.S.Source.left g.S.Source.taken g.S.Source.faults g.K.Sink.held g.K.Sink.faults c.loop-room.source
    c.loop-room.sink in
    let read : Streams = streams g.S.Source.left g.S.Source.taken g.S.Source.faults g.K.Sink.held g.K.Sink.faults c.read.new.self
    c.loop-room.sink in
    let some : 1 ≤ c.loop-room.room = grind (arith, nat_tests) in
    let want : c.min-want.result ≤ c.loop-room.room = omega (arith, c.min-want.ensures) in
    let size : length c.read.new.buf ≡ c.min-want.result = search rules in
    let small : c.args.limit ≤ 2 ^ 62 = c.requires.limit in
    let same : c.deref.result.now ≡ take c.args.most c.loop-room.invariant.running.0 = cc in
    let ended : IsRunning (cut c.args.most g.A.AnswersLines.says) c.args.answerer.now c.loop-room.answerer c.args.limit c.loop-room.room old
    read c.loop-room.invariant.running.0 [] =
    running-none _ _ _ c.args.limit c.loop-room.room c.min-want.result old new (g.S.Source.left c.read.new.self)
    (g.S.Source.taken c.read.new.self) (g.S.Source.faults c.read.new.self) c.loop-room.invariant.running.0
    c.loop-room.invariant.running.2 small want (search rules) (search rules) c.in-Ok-eq0.ensures.cause.later in
    ends-last_unwritten _ _ _ _ c.args.limit c.loop-room.room old read (g.K.Sink.held c.answer_last.new.sink)
    (g.K.Sink.faults c.answer_last.new.sink) c.loop-room.invariant.running.0 ended some (search rules)
    (c.in-Err-answer_last.ensures.err c.args.most c.loop-room.invariant.running.0 c.requires.most
    c.loop-room.invariant.running.2.answers.left same) c.in-Err-answer_last.ensures.cause.failed
    c.in-Err-answer_last.ensures.cause.later

pub returns-clause-ended : goal.returns-clause-ended
returns-clause-ended g c =
    let old : Streams = streams g.S.Source.left g.S.Source.taken g.S.Source.faults g.K.Sink.held g.K.Sink.faults c.args.source.now
    c.args.sink.now in
    let new : Streams = streams g.S.Source.left g.S.Source.taken g.S.Source.faults g.K.Sink.held g.K.Sink.faults c.loop-room.source
    c.loop-room.sink in
    ends-long _ _ _ c.args.limit c.loop-room.room old new c.loop-room.invariant.running.0 c.loop-room.invariant.running.2
    (grind (arith, nat_tests))

pub loop-room-preserved : goal.loop-room-preserved
loop-room-preserved g c =
    let old : Streams = streams g.S.Source.left g.S.Source.taken g.S.Source.faults g.K.Sink.held g.K.Sink.faults c.args.source.now
    c.args.sink.now in
    let new : Streams = streams g.S.Source.left g.S.Source.taken g.S.Source.faults g.K.Sink.held g.K.Sink.faults c.loop-room.source
    c.loop-room.sink in
    let read : Streams = streams g.S.Source.left g.S.Source.taken g.S.Source.faults g.K.Sink.held g.K.Sink.faults c.read.new.self
    c.loop-room.sink in
    let behind : List ℕ = drop c.min-want.result c.loop-room.piece in
    let piece : List ℕ = take c.min-within.result (c.read.new.buf ++ behind) in
    let some : 1 ≤ c.loop-room.room = grind (arith, nat_tests) in
    let want : c.min-want.result ≤ c.loop-room.room = omega (arith, c.min-want.ensures) in
    let size : length c.read.new.buf ≡ c.min-want.result = search rules in
    let small : c.args.limit ≤ 2 ^ 62 = c.requires.limit in
    let taken : IsRunning (cut c.args.most g.A.AnswersLines.says) c.args.answerer.now c.loop-room.answerer c.args.limit
    (c.loop-room.room - c.in-Ok.count) old read c.loop-room.invariant.running.0 piece =
    running-read _ _ _ c.args.limit c.loop-room.room c.min-want.result c.min-within.result c.in-Ok.count old new
    (g.S.Source.left c.read.new.self) (g.S.Source.taken c.read.new.self)
    (g.S.Source.faults c.read.new.self) c.loop-room.invariant.running.0 c.read.new.buf behind c.loop-room.invariant.running.2 small some
    want size (search rules) c.min-within.ensures c.in-Ok.ensures.bytes.0 (search rules) c.in-Ok.ensures.cause.later in
    let answered = c.in-Ok-answer_piece.ensures.ok c.loop-room.invariant.running.0 c.loop-room.invariant.running.2.answers.left
    c.loop-room.invariant.running.1 in
    record {
      running = (
        answered.0,
        answered.1,
        running-answered _ _ _ _ c.args.limit (c.loop-room.room - c.in-Ok.count) old read
            (g.K.Sink.held c.answer_piece.new.sink) (g.K.Sink.faults c.answer_piece.new.sink) c.loop-room.invariant.running.0 piece
            answered.0
            taken answered.2 c.in-Ok-answer_piece.ensures.cause.later,
      );
      empty = c.in-Ok-answer_piece.ensures.empty;
      kept = c.in-Ok-answer_piece.ensures.len;
      held = omega (arith, c.loop-room.invariant.held, c.answer_piece.ensures.room);
    }

pub returns-in-Err-answer_piece-clause-ended : goal.returns-in-Err-answer_piece-clause-ended
returns-in-Err-answer_piece-clause-ended g c =
    let old : Streams = streams g.S.Source.left g.S.Source.taken g.S.Source.faults g.K.Sink.held g.K.Sink.faults c.args.source.now
    c.args.sink.now in
    let new : Streams = streams g.S.Source.left g.S.Source.taken g.S.Source.faults g.K.Sink.held g.K.Sink.faults c.loop-room.source
    c.loop-room.sink in
    let read : Streams = streams g.S.Source.left g.S.Source.taken g.S.Source.faults g.K.Sink.held g.K.Sink.faults c.read.new.self
    c.loop-room.sink in
    let behind : List ℕ = drop c.min-want.result c.loop-room.piece in
    let piece : List ℕ = take c.min-within.result (c.read.new.buf ++ behind) in
    let some : 1 ≤ c.loop-room.room = grind (arith, nat_tests) in
    let want : c.min-want.result ≤ c.loop-room.room = omega (arith, c.min-want.ensures) in
    let size : length c.read.new.buf ≡ c.min-want.result = search rules in
    let small : c.args.limit ≤ 2 ^ 62 = c.requires.limit in
    let taken : IsRunning (cut c.args.most g.A.AnswersLines.says) c.args.answerer.now c.loop-room.answerer c.args.limit
    (c.loop-room.room - c.in-Ok.count) old read c.loop-room.invariant.running.0 piece =
    running-read _ _ _ c.args.limit c.loop-room.room c.min-want.result c.min-within.result c.in-Ok.count old new
    (g.S.Source.left c.read.new.self) (g.S.Source.taken c.read.new.self)
    (g.S.Source.faults c.read.new.self) c.loop-room.invariant.running.0 c.read.new.buf behind c.loop-room.invariant.running.2 small some
    want size (search rules) c.min-within.ensures c.in-Ok.ensures.bytes.0 (search rules) c.in-Ok.ensures.cause.later in
    ends-unwritten _ _ _ _ c.args.limit (c.loop-room.room - c.in-Ok.count) old read (g.K.Sink.held c.answer_piece.new.sink)
    (g.K.Sink.faults c.answer_piece.new.sink) c.loop-room.invariant.running.0 piece taken
    (c.in-Err-answer_piece.ensures.err c.loop-room.invariant.running.0 c.loop-room.invariant.running.2.answers.left
    c.loop-room.invariant.running.1) c.in-Err-answer_piece.ensures.cause.failed c.in-Err-answer_piece.ensures.cause.later

pub returns-in-Err-clause-ended : goal.returns-in-Err-clause-ended
returns-in-Err-clause-ended g c =
    let old : Streams = streams g.S.Source.left g.S.Source.taken g.S.Source.faults g.K.Sink.held g.K.Sink.faults c.args.source.now
    c.args.sink.now in
    let new : Streams = streams g.S.Source.left g.S.Source.taken g.S.Source.faults g.K.Sink.held g.K.Sink.faults c.loop-room.source
    c.loop-room.sink in
    let read : Streams = streams g.S.Source.left g.S.Source.taken g.S.Source.faults g.K.Sink.held g.K.Sink.faults c.read.new.self
    c.loop-room.sink in
    let some : 1 ≤ c.loop-room.room = grind (arith, nat_tests) in
    let small : c.args.limit ≤ 2 ^ 62 = c.requires.limit in
    let none = Consumes-kept _ _ _ [] (Consumes-nil (g.S.Source.left c.loop-room.source)) c.in-Err.ensures.bytes in
    let failed : IsRunning (cut c.args.most g.A.AnswersLines.says) c.args.answerer.now c.loop-room.answerer c.args.limit c.loop-room.room
    old read c.loop-room.invariant.running.0 [] =
    running-none _ _ _ c.args.limit c.loop-room.room 0 old new (g.S.Source.left c.read.new.self) (g.S.Source.taken c.read.new.self)
    (g.S.Source.faults c.read.new.self) c.loop-room.invariant.running.0 c.loop-room.invariant.running.2 small (omega arith) none
    (λ _. c.in-Err.ensures.count.err) c.in-Err.ensures.cause.later in
    ends-unread _ _ _ c.args.limit c.loop-room.room old read c.loop-room.invariant.running.0 failed some (search rules)
