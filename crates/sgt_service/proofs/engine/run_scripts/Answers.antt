use Rattle.std.proofs.Common.{List, ℕ, inr, subst}
use Rattle.sgt_names.specs.Device.{WritesFront}
use Rattle.sgt_service.proofs.Unreadable.{answer-unreadable}
use Rattle.sgt_service.proofs.engine.run_scripts.Goals as goal

pub returns-clause-front : goal.returns-clause-front
returns-clause-front g c =
    let answer = c.in_ok-answer.answer in
    let told = g.S.Source.tells c.args.reader.now in
    inr (
      answer.outcome,
      answer.text.items,
      c.in_ok-answer.ensures told c.in_ok-reading.ensures.read,
      subst (λ (text : List ℕ). WritesFront (g.W.Sink.holds c.args.writer.now) (g.W.Sink.holds c.write_all.new.writer)
          text) c.as_slice.ensures.value c.in-Err.ensures.err,
    )

pub returns-in-Ok-clause-unreadable : goal.returns-in-Ok-clause-unreadable
returns-in-Ok-clause-unreadable g c =
    let answer = c.in_ok-answer.answer in
    let told = g.S.Source.tells c.args.reader.now in
    answer-unreadable c.args.tries told answer.outcome answer.text.items
    (c.in_ok-answer.ensures told c.in_ok-reading.ensures.read)
