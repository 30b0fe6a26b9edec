use Rattle.std.proofs.Common.{List, ℕ, inr, subst}
use Rattle.std.specs.Io.KnownBytes.{Appends}
use Rattle.sgt_names.specs.Device.{WritesFront}
use Rattle.sgt_explain_logs.proofs.engine.explain_logs.Goals as goal

pub returns-in-Ok-clause-answer : goal.returns-in-Ok-clause-answer
returns-in-Ok-clause-answer g c told read = (
  c.in_ok-explanation.explanation.text.items,
  c.in_ok-explanation.ensures.answer told read,
  subst (λ (text : List ℕ). Appends (g.W.Sink.holds c.args.writer.now) (g.W.Sink.holds c.write_all.new.writer) text)
      c.as_slice.ensures.value c.in-Ok.ensures.ok,
)

pub returns-clause-front : goal.returns-clause-front
returns-clause-front g c told read =
    let e = c.in_ok-explanation.explanation in
    inr (
      e.explained.outcome,
      e.text.items,
      c.in_ok-explanation.ensures.answer told read,
      subst (λ (text : List ℕ). WritesFront (g.W.Sink.holds c.args.writer.now) (g.W.Sink.holds c.write_all.new.writer)
          text) c.as_slice.ensures.value c.in-Err.ensures.err,
    )
