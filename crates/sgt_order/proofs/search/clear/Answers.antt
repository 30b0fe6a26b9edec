use Rattle.std.proofs.Common.{ap, ◌∙◌, arith, get_or, length, ◌<◌}
use Rattle.std.proofs.lemmas.Option.{slice_get-get_or}
use Rattle.sgt_arena.specs.declared.handle.Handle.{Handle}
use Rattle.sgt_order.specs.private.Search.{no_marks}
use Rattle.sgt_order.proofs.Marking.{marks_bare}
use Rattle.sgt_order.proofs.Moving.{among_next, among_none}
use Rattle.sgt_order.proofs.search.clear.Goals as goal

pub loop-handle-preserved : goal.loop-handle-preserved
loop-handle-preserved c =
    let n = c.loop-handle.handle-index in
    let h : Handle = get_or c.args.members.now n (record { index = 0; generation = 0 }) in
    let at = slice_get-get_or c.args.members.now n (record { index = 0; generation = 0 }) c.loop-handle-test.true in
    let within : h.index < length c.loop-handle.marks =
    omega (arith, c.requires.within n h at, c.loop-handle.auto.marks) in
    among_next c.args.members.now n h c.loop-handle.marks at within c.loop-handle.invariant

pub returns : goal.returns
returns c =
    marks_bare c.loop-handle.marks (among_none c.args.members.now c.loop-handle.handle-index c.loop-handle.marks
    (omega arith) c.loop-handle.invariant) ∙ ap no_marks c.loop-handle.auto.marks
