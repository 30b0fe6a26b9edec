use Rattle.std.proofs.Common.{List, ℕ, inr, subst}
use Rattle.std.specs.Io.KnownBytes.{Appends}
use Rattle.sgt_names.specs.Device.{WritesFront}
use Rattle.sgt_check_kept.proofs.Exact.{told-answers, told-exact}
use Rattle.sgt_check_kept.proofs.engine.check_kept.Goals as goal

pub returns-in-Ok-clause-answer : goal.returns-in-Ok-clause-answer
returns-in-Ok-clause-answer g c =
    let told = g.R.Source.tells c.args.reader.now in
    let answer = c.in_ok-answer.answer in (
      answer.text.items,
      told-answers c.args.wanted c.args.options told c.in_ok-text.text answer.text.items answer.outcome
          c.in_ok-text.ensures.told c.in_ok-answer.ensures,
      subst (λ (text : List ℕ). Appends (g.W.Sink.holds c.args.writer.now) (g.W.Sink.holds c.write_all.new.writer)
          text) c.as_slice.ensures.value c.in-Ok.ensures.ok,
    )

pub returns-in-Ok-clause-exact : goal.returns-in-Ok-clause-exact
returns-in-Ok-clause-exact g c =
    let told = g.R.Source.tells c.args.reader.now in
    let answer = c.in_ok-answer.answer in
    told-exact c.args.wanted c.args.options told answer.text.items answer.outcome
    (told-answers c.args.wanted c.args.options told c.in_ok-text.text answer.text.items answer.outcome
    c.in_ok-text.ensures.told c.in_ok-answer.ensures)

pub returns-clause-front : goal.returns-clause-front
returns-clause-front g c =
    let told = g.R.Source.tells c.args.reader.now in
    let answer = c.in_ok-answer.answer in
    inr (
      answer.outcome,
      answer.text.items,
      told-answers c.args.wanted c.args.options told c.in_ok-text.text answer.text.items answer.outcome
          c.in_ok-text.ensures.told c.in_ok-answer.ensures,
      subst (λ (text : List ℕ). WritesFront (g.W.Sink.holds c.args.writer.now) (g.W.Sink.holds c.write_all.new.writer)
          text) c.as_slice.ensures.value c.in-Err.ensures.err,
    )
