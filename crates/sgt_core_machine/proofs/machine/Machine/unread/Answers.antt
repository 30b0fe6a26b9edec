use Rattle.std.proofs.Common.{refl, inl, inr}
use Rattle.sgt_core_machine.proofs.Finding.{not_true}
use Rattle.sgt_core_machine.proofs.machine.Machine.unread.Goals as goal

pub returns-then-has_item : goal.returns-then-has_item
returns-then-has_item c = λ d s. inl (refl, (c.has_item.ensures d s).0 c.if-has_item.true)

pub returns-else-has_item : goal.returns-else-has_item
returns-else-has_item c =
    λ d s. inr (refl, λ known. not_true _ c.if-has_item.false ((c.has_item.ensures d s).1 known))
