use Rattle.std.proofs.Common.{◌≡◌, ◌-◌, take, drop, refl}
use Rattle.sgt_history.specs.Cut.{cut}
use Rattle.sgt_history_faults.proofs.Bounds.{line-is}
use Rattle.sgt_history_faults.proofs.GivenNext.{given-line, given-aborted}
use Rattle.sgt_history_faults.proofs.giving.give_line.Goals as goal

pub returns-then-not-commits : goal.returns-then-not-commits
returns-then-not-commits c =
    let l = c.line_at-end.result in
    let lines = c.args.history.now.lines.items in
    let ops = c.args.history.now.operations.items in
    let in_line = line-is lines c.args.line l c.args.begin ops ops c.line_at-end.ensures.is c.requires.begin refl in
    given-aborted (cut 0 lines ops) c.args.line _ c.args.given.now.items in_line c.if-not-commits.true c.requires.given

pub returns : goal.returns
returns c =
    let l = c.line_at-end.result in
    let lines = c.args.history.now.lines.items in
    let ops = c.args.history.now.operations.items in
    let in_line = line-is lines c.args.line l c.args.begin ops c.as_slice.result.now c.line_at-end.ensures.is
    c.requires.begin
    c.as_slice.ensures.value in
    given-line (cut 0 lines ops) c.args.line _ c.args.given.now.items c.take_given.new.given.items in_line
    c.if-not-commits.false c.requires.given
    c.in_ok-take_given.ensures
