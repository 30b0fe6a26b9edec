use Rattle.std.proofs.Common.{subst, sym}
use Rattle.sgt_input.specs.Stopping.{IsStop}
use Rattle.sgt_input.proofs.Reader.{front-passed, line-passed, line-stops, next-passed, still-goes, stops-cut, stops-empty}
use Rattle.sgt_input.proofs.reading.read_lines.Goals as goal

pub lines-preserved-in-Some : goal.lines-preserved-in-Some
lines-preserved-in-Some g c =
    let old = c.lines.invariant in
    let new = front-passed g.T.Taker.begins (g.T.Taker.took c.lines.taker) (g.T.Taker.took c.take_front.new.self) _ _
    _ _ _ _ _ _ _ _ _ _
    c.held.ensures c.in-Some.is c.pass.ensures c.in_ok-n.ensures old.0 (old.1, old.2, old.3, old.4) in
    (new.0, new.1.0, new.1.1, new.1.2, new.1.3)

pub returns-then-not-branch-clause-stops : goal.returns-then-not-branch-clause-stops
returns-then-not-branch-clause-stops g c =
    let begins = g.T.Taker.begins in
    let front = g.T.Taker.took c.take_front.new.self in
    let goes =
    still-goes begins (g.T.Taker.took c.lines.taker) front _ _ _ _ _ c.in_default.not-Some c.in_ok-n.ensures
    c.lines.invariant.0 in
    subst (λ stop. IsStop begins (g.T.Taker.took c.take.new.self) (g.R.Source.tells c.args.reader.now) stop)
    (sym c.not_a_line.ensures)
    (line-stops begins front (g.T.Taker.took c.take.new.self) _ (g.R.Source.tells c.lines.reader) c.lines.lines _ _ _
    _ _
    c.held-in-lines.ensures c.held-in-Some-find_lf.ensures c.in-Some-find_lf.ensures.some c.if-n-le-MAX_LINE.true
    c.if-not-branch.true c.in_ok-take-in-Some-find_lf.ensures goes)

pub lines-preserved-then-n-le-MAX_LINE : goal.lines-preserved-then-n-le-MAX_LINE
lines-preserved-then-n-le-MAX_LINE g c =
    let begins = g.T.Taker.begins in
    let front = g.T.Taker.took c.take_front.new.self in
    let old = c.lines.invariant in
    let goes =
    still-goes begins (g.T.Taker.took c.lines.taker) front _ _ _ _ _ c.in_default.not-Some c.in_ok-n.ensures
    old.0 in
    let new = line-passed begins front (g.T.Taker.took c.take.new.self) _ _ _ _ _ _ _ _ _ _ _ _ _
    c.held-in-lines.ensures c.held-in-Some-find_lf.ensures c.in-Some-find_lf.ensures.some c.if-n-le-MAX_LINE.true
    c.if-not-branch.false c.pass-in-Some-find_lf.ensures c.in_ok-take-in-Some-find_lf.ensures goes (
      old.1,
      old.2,
      old.3,
      old.4,
    ) in
    (new.0, new.1.0, new.1.1, new.1.2, new.1.3)

pub lines-preserved : goal.lines-preserved
lines-preserved g c =
    let begins = g.T.Taker.begins in
    let front = g.T.Taker.took c.take_front.new.self in
    let old = c.lines.invariant in
    let goes =
    still-goes begins (g.T.Taker.took c.lines.taker) front _ _ _ _ _ c.in_default.not-Some c.in_ok-n.ensures
    old.0 in
    let gave = rw c.in-Ok-Line.field-0-is at c.in-Ok-Line.ensures.ok in
    let new = next-passed begins front (g.T.Taker.took c.take-in-Ok-Line.new.self) _ _ _ _ _ _ _ _ _ _ _
    gave c.as_slice.ensures.value c.if-not-branch-2.false c.in-Ok-Line.ensures.asks c.in_ok-take-in-Ok-Line.ensures
    goes (old.1, old.2, old.3, old.4) in
    (new.0, new.1.0, new.1.1, new.1.2, new.1.3)

pub returns-in-Ok-Cut-clause-stops : goal.returns-in-Ok-Cut-clause-stops
returns-in-Ok-Cut-clause-stops g c =
    let begins = g.T.Taker.begins in
    let front = g.T.Taker.took c.take_front.new.self in
    let goes =
    still-goes begins (g.T.Taker.took c.lines.taker) front _ _ _ _ _ c.in_default.not-Some c.in_ok-n.ensures
    c.lines.invariant.0 in
    let gave = rw c.in-Ok-Cut.field-0-is at c.in-Ok-Cut.ensures.ok in
    subst (λ stop. IsStop begins front (g.R.Source.tells c.args.reader.now) stop) (sym c.not_a_line-in-Ok-Cut.ensures)
    (stops-cut _ _ _ _ _ _ _ goes gave.gives)

pub returns-in-Ok-End-clause-stops : goal.returns-in-Ok-End-clause-stops
returns-in-Ok-End-clause-stops g c =
    let begins = g.T.Taker.begins in
    let front = g.T.Taker.took c.take_front.new.self in
    let goes =
    still-goes begins (g.T.Taker.took c.lines.taker) front _ _ _ _ _ c.in_default.not-Some c.in_ok-n.ensures
    c.lines.invariant.0 in
    let gave = rw c.in-Ok-End.field-0-is at c.in-Ok-End.ensures.ok in
    subst (λ stop. IsStop begins front (g.R.Source.tells c.args.reader.now) stop) (sym c.not_a_line-in-Ok-End.ensures)
    (stops-empty _ _ _ _ _ _ _ goes c.if-number-gt1.false gave.gives)
