use Rattle.sgt_core_machine.specs.Machine.{parts_of}
use Rattle.sgt_core_machine.proofs.Redrafting.{slot_begun, slot_active}
use Rattle.sgt_core_machine.proofs.Finding.{not_true}
use Rattle.sgt_core_machine.proofs.Changing.{item_refuses}
use Rattle.sgt_core_machine.proofs.machine.Machine.free_slot.Goals as goal

pub returns-in-Err-clause-err : goal.returns-in-Err-clause-err
returns-in-Err-clause-err c = λ d s. c.in-Err.ensures.err d s c.args.site c.args.item

pub returns-then-not-has_item-clause-err : goal.returns-then-not-has_item-clause-err
returns-then-not-has_item-clause-err c = λ d s.
    let m = parts_of c.args.self.now in
    let slot = c.in-Ok.ensures.ok in
    item_refuses d c.args.tx (slot_begun m d c.args.tx _ s slot) (slot_active m d c.args.tx _ s slot) c.args.site
    c.args.item (c.in-Ok.ensures.closed d s)
    (λ known. not_true _ c.if-not-has_item.true ((c.has_item.ensures d s).1 known))

pub returns-clause-known : goal.returns-clause-known
returns-clause-known c = λ d s. (c.has_item.ensures d s).0 c.if-not-has_item.false
