use Rattle.std.proofs.Common.{◌∙◌, ap, refl, sym, subst, arith, Some, None}
use Rattle.sgt_notation.specs.Lines.{Ahead}
use Rattle.sgt_history_text.specs.Built.{IsTaken}
use Rattle.sgt_history_text.specs.Reading.{IsStop}
use Rattle.sgt_history_text.proofs.Going.{goes-none, goes-line, stops-end, stops-line, stops-cut, stops-long}
use Rattle.sgt_notation.proofs.Texts.{spends_on, spends-none}
use Rattle.sgt_history_text.proofs.reading.read_lines.Goals as goal

pub lines-init : goal.lines-init
lines-init g c = (
  goes-none _ _ c.args.lines.now _ _ c.requires.none c.requires.no_moments
      (ap (λ (a : Ahead). a.held) c.requires.fresh),
  refl,
  spends-none _ _ _ (ap (λ (a : Ahead). a.reads) c.requires.fresh),
  omega (arith, ap (λ (a : Ahead). a.reads) c.requires.fresh),
)

pub returns-in-Some-clause-stops : goal.returns-in-Some-clause-stops
returns-in-Some-clause-stops g c =
    let gave = rw c.in-Ok-Line.field-0-is at c.in-Ok-Line.ensures.ok in
    let goes = c.lines.invariant.0 in
    let w = c.args.moments.now.wanted in
    let b = c.take_line.new.builder in
    let m = c.take_line.new.moments in
    let taken = subst (λ f. IsTaken w goes.lines goes.ids goes.h c.as_slice.result.now b m f) c.in-Some.is
    (c.in_ok-fault-in-Ok-Line.ensures w goes.lines goes.ids goes.h goes.built goes.moments) in
    stops-line _ _ _ _ _ _ goes (c.next_line-number.ensures goes.ids goes.h goes.built) _ b m _ c.in-Some.fault
    c.in-Ok-Line.ensures.line.0 c.in-Ok-Line.ensures.line.1 gave.gives
    (subst (λ l. IsTaken w goes.lines goes.ids goes.h l b m (Some c.in-Some.fault)) c.as_slice.ensures.value taken)

pub lines-preserved : goal.lines-preserved
lines-preserved g c =
    let gave = rw c.in-Ok-Line.field-0-is at c.in-Ok-Line.ensures.ok in
    let goes = c.lines.invariant.0 in
    let w = c.args.moments.now.wanted in
    let b = c.take_line.new.builder in
    let m = c.take_line.new.moments in
    let taken = subst (λ f. IsTaken w goes.lines goes.ids goes.h c.as_slice.result.now b m f) c.in_default.is
    (c.in_ok-fault-in-Ok-Line.ensures w goes.lines goes.ids goes.h goes.built goes.moments) in (
      goes-line _ _ _ _ _ _ _ _ _ goes c.in-Ok-Line.ensures.line.0 c.in-Ok-Line.ensures.line.1 gave.gives
          (subst (λ l. IsTaken w goes.lines goes.ids goes.h l b m None) c.as_slice.ensures.value taken),
      gave.quiet ∙ c.lines.invariant.1,
      spends_on _ _ _ _ _ _ c.lines.invariant.2 gave.spends,
      omega (arith, c.in-Ok-Line.ensures.asks, c.lines.invariant.3),
    )

pub returns-in-Ok-Cut-clause-stops : goal.returns-in-Ok-Cut-clause-stops
returns-in-Ok-Cut-clause-stops g c =
    let gave = rw c.in-Ok-Cut.field-0-is at c.in-Ok-Cut.ensures.ok in
    let goes = c.lines.invariant.0 in
    let w = c.args.moments.now.wanted in
    let b = c.take_line-in-Ok-Cut.new.builder in
    let m = c.take_line-in-Ok-Cut.new.moments in
    let fault = c.in_ok-fault-in-Ok-Cut.fault in
    let taken = subst (λ l. IsTaken w goes.lines goes.ids goes.h l b m fault) c.as_slice-in-Ok-Cut.ensures.value
    (c.in_ok-fault-in-Ok-Cut.ensures w goes.lines goes.ids goes.h goes.built goes.moments) in
    subst (λ s. IsStop w (g.R.Source.tells c.args.reader.now) b m s) (sym c.stop_with.ensures)
    (stops-cut _ _ _ _ _ _ goes (c.next_line-number.ensures goes.ids goes.h goes.built) _ b m _ fault
    c.in-Ok-Cut.ensures.line.0 c.in-Ok-Cut.ensures.line.1 gave.gives taken)

pub returns-in-Ok-TooLong-clause-stops : goal.returns-in-Ok-TooLong-clause-stops
returns-in-Ok-TooLong-clause-stops g c =
    let gave = rw c.in-Ok-TooLong.field-0-is at c.in-Ok-TooLong.ensures.ok in
    let goes = c.lines.invariant.0 in
    stops-long _ _ _ c.lines.builder c.lines.moments _ goes (c.next_line-number.ensures goes.ids goes.h goes.built) _
    _ gave.gives

pub returns-in-Ok-End-clause-stops : goal.returns-in-Ok-End-clause-stops
returns-in-Ok-End-clause-stops g c =
    let gave = rw c.in-Ok-End.field-0-is at c.in-Ok-End.ensures.ok in
    stops-end _ _ _ _ c.lines.builder c.lines.moments _ c.lines.invariant.0 gave.gives
