use Rattle.std.proofs.Common.{List, ℕ, inr, subst}
use Rattle.sgt_names.specs.Device.{WritesFront}
use Rattle.sgt_draw.proofs.engine.draw.Goals as goal

pub returns-clause-front : goal.returns-clause-front
returns-clause-front g c =
    let answer = c.in_ok-answer.answer in
    let told = g.R.Source.tells c.args.reader.now in
    inr (
      answer.outcome,
      answer.text.items,
      c.in_ok-answer.ensures told c.in_ok-audited.ensures.audited,
      subst (λ (text : List ℕ). WritesFront (g.W.Sink.holds c.args.writer.now) (g.W.Sink.holds c.write_all.new.writer)
          text) c.as_slice.ensures.value c.in-Err.ensures.err,
    )
