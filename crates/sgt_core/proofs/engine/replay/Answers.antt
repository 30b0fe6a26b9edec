use Rattle.std.proofs.Common.{List, ℕ, ◌++◌, ap₂, inr, subst}
use Rattle.sgt_names.specs.Device.{WritesFront}
use Rattle.sgt_input.proofs.SitedLines.{none-begins}
use Rattle.sgt_core.proofs.OneInput.{events-kind}
use Rattle.sgt_core.proofs.PlayedLines.{none-played}
use Rattle.sgt_core.proofs.Unreadable.{answer-unreadable}
use Rattle.sgt_core.proofs.engine.replay.Goals as goal

pub returns-clause-front : goal.returns-clause-front
returns-clause-front g c =
    let answer = c.in_ok-answer.answer in
    let told = g.R.Source.tells c.args.reader.now in
    inr (
      answer.outcome,
      answer.text.items ++ answer.bundle.items,
      c.in_ok-answer.ensures told c.in_ok-stop.ensures.stops,
      subst (λ (text : List ℕ). WritesFront (g.W.Sink.holds c.args.writer.now)
          (g.W.Sink.holds c.write_both.new.writer) text)
          (ap₂ (λ (a b : List ℕ). a ++ b) c.as_slice.ensures.value c.as_slice-2.ensures.value) c.in-Err.ensures.err,
    )

pub returns-in-Ok-clause-unreadable : goal.returns-in-Ok-clause-unreadable
returns-in-Ok-clause-unreadable g c =
    let answer = c.in_ok-answer.answer in
    let told = g.R.Source.tells c.args.reader.now in
    answer-unreadable told answer.outcome (answer.text.items ++ answer.bundle.items)
    (c.in_ok-answer.ensures told c.in_ok-stop.ensures.stops)

pub read_lines-requires-clause-begins : goal.read_lines-requires-clause-begins
read_lines-requires-clause-begins g c = none-begins events-kind

pub read_lines-requires-clause-fresh : goal.read_lines-requires-clause-fresh
read_lines-requires-clause-fresh g c =
    none-played _ _ _ c.new-player.ensures.sites c.new-player.ensures.core c.new-player.ensures.text

pub answer_to-requires : goal.answer_to-requires
answer_to-requires g c = (g.R.Source.tells c.args.reader.now, c.in_ok-stop.ensures.stops)
