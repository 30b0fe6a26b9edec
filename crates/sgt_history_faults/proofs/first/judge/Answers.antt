use Rattle.std.proofs.Common.{◌≡◌, ◌∙◌, sym, subst, length, arith}
use Rattle.std.proofs.lemmas.Option.{slice_get_within}
use Rattle.sgt_history.specs.Cut.{cut}
use Rattle.sgt_history_faults.proofs.Bounds.{length-cut}
use Rattle.sgt_history_faults.proofs.Ready.{ready}
use Rattle.sgt_history_faults.proofs.first.judge.Goals as goal

pub judged_by-requires : goal.judged_by-requires
judged_by-requires c =
    let h = cut 0 c.args.history.now.lines.items c.args.history.now.operations.items in
    let size = length-cut 0 c.args.history.now.lines.items c.args.history.now.operations.items in (
      h,
      ready h (length c.args.history.now.lines.items) _ _ _ _ _ size c.in_ok-collected.ensures.1
          c.in_ok-values.ensures.real
          c.in_ok-values.ensures.covered c.earlier-first.ensures.one c.earlier-first.ensures.other
          c.earlier-first.ensures.real,
    )

pub returns : goal.returns
returns c =
    let h = cut 0 c.args.history.now.lines.items c.args.history.now.operations.items in
    let size = length-cut 0 c.args.history.now.lines.items c.args.history.now.operations.items in
    c.judged_by.ensures h (ready h (length c.args.history.now.lines.items) _ _ _ _ _ size c.in_ok-collected.ensures.1
    c.in_ok-values.ensures.real
    c.in_ok-values.ensures.covered c.earlier-first.ensures.one c.earlier-first.ensures.other
    c.earlier-first.ensures.real)
