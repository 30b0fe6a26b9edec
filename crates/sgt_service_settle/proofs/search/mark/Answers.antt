use Rattle.std.proofs.Common.{◌∙◌, ap, Some, false}
use Rattle.std.proofs.lemmas.Option.{slice_get-get_or}
use Rattle.sgt_service_settle.proofs.Marking.{mark_new, mark_old}
use Rattle.sgt_service_settle.proofs.search.mark.Goals as goal

pub returns-in_ok-reserve : goal.returns-in_ok-reserve
returns-in_ok-reserve c =
    let bare = slice_get-get_or c.args.marks.now c.args.to false c.requires ∙ ap Some c.if-not-marks-to.true in
    rw c.push_reserved.ensures.items
    (rw c.reserve.ensures.items (mark_new c.args.marks.now c.args.stack.now.items c.args.to bare))

pub returns-else-not-marks-to : goal.returns-else-not-marks-to
returns-else-not-marks-to c =
    mark_old c.args.marks.now c.args.stack.now.items c.args.to
    (slice_get-get_or c.args.marks.now c.args.to false c.requires ∙ ap Some c.if-not-marks-to.false)
