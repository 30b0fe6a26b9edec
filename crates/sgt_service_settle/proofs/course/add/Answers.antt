use Rattle.std.proofs.lemmas.Result.{on_ok_weaker}
use Rattle.sgt_service_settle.proofs.Coursing.{read_added, change_added}
use Rattle.sgt_service_settle.proofs.course.add.Goals as goal

pub returns-then-deed : goal.returns-then-deed
returns-then-deed c =
    on_ok_weaker c.add_read.result
    (λ a done is. read_added done c.args.course.now c.args.deed.now c.add_read.new.course is c.if-deed.true a)
    c.add_read.ensures

pub returns-else-deed : goal.returns-else-deed
returns-else-deed c =
    on_ok_weaker c.add_change.result
    (λ a done is. change_added done c.args.course.now c.args.deed.now c.add_change.new.course is c.if-deed.false
    (c.requires.fits.change c.if-deed.false) a) c.add_change.ensures
