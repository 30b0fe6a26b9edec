use Rattle.std.proofs.Common.{List, ℕ, inr, subst}
use Rattle.sgt_names.specs.Device.{WritesFront}
use Rattle.sgt_certify.proofs.Decided.{told-exact}
use Rattle.sgt_certify.proofs.engine.certify.Goals as goal

pub returns-in-Ok-clause-exact : goal.returns-in-Ok-clause-exact
returns-in-Ok-clause-exact g c =
    let told = g.R.Source.tells c.args.reader.now in
    told-exact told c.in_ok-answer.answer.text.items c.in_ok-answer.answer.outcome
    (c.in_ok-answer.ensures.answer told c.in_ok-taken.ensures.taken)

pub returns-clause-front : goal.returns-clause-front
returns-clause-front g c =
    let answer = c.in_ok-answer.answer in
    let told = g.R.Source.tells c.args.reader.now in
    inr (
      answer.outcome,
      answer.text.items,
      c.in_ok-answer.ensures.answer told c.in_ok-taken.ensures.taken,
      subst (λ (text : List ℕ). WritesFront (g.W.Sink.holds c.args.writer.now) (g.W.Sink.holds c.write_all.new.writer)
          text) c.as_slice.ensures.value c.in-Err.ensures.err,
    )
