use Rattle.std.proofs.Common.{take}
use Rattle.sgt_core_machine.specs.Machine.{parts_of, Stands, GoesOn, IsSlotOf}
use Rattle.sgt_core_machine.specs.private.Whole.{GathersAll}
use Rattle.sgt_core_machine.proofs.machine.Machine.gather_all.Given as goal

abbrev pub invariant-loop-site : goal.invariant-loop-site
invariant-loop-site l = record {
  stands : Stands (parts_of l.self);
  slot : IsSlotOf (parts_of l.self) l.tx l.slot;
  gathered : GoesOn (λ c d. GathersAll c l.tx (take l.site-index l.sites) d) (parts_of l.fn.self) (parts_of l.self);
}
