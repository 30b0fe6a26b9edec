use Rattle.std.proofs.Common.{◌∙◌, subst}
use Rattle.sgt_core_machine.specs.Machine.{RefusesSites}
use Rattle.sgt_core.proofs.Running.{only-memory}
use Rattle.sgt_serve.proofs.opening.core_of.Goals as goal

pub unreachable-requires : goal.unreachable-requires
unreachable-requires c =
    only-memory c.args.sites.items c.in-Err.fault c.requires.each
    (subst (λ items. RefusesSites items c.in-Err.fault) (c.as_slice.ensures.value
    ∙ c.in_ok-items.ensures) c.in-Err.ensures.refused) c.in_default.not-Memory
