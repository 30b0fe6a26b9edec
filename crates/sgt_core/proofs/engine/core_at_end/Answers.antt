use Rattle.std.proofs.Common.{Option, IfOk, refl, subst, sym}
use Rattle.sgt_core_machine.specs.Machine.{Parts}
use Rattle.sgt_core.specs.private.Playing.{IsCoreAtEnd}
use Rattle.sgt_core.proofs.engine.core_at_end.Goals as goal

pub returns-in-Some : goal.returns-in-Some
returns-in-Some c = subst (λ (o : Option Parts). IsCoreAtEnd o c.args.sites.items c.in-Some.core) (sym c.in-Some.is)
    refl

pub returns-in-None : goal.returns-in-None
returns-in-None c = subst (λ (o : Option Parts). IfOk c.core_of.result (IsCoreAtEnd o c.args.sites.items))
    (sym c.in-None.is) c.core_of.ensures
