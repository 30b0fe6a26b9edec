use Rattle.std.proofs.Common.{◌∙◌}
use Rattle.sgt_core_machine.specs.Machine.{parts_of}
use Rattle.sgt_core_machine.proofs.Written.{sites_there, never_refused}
use Rattle.sgt_core_machine.proofs.driver.Core.cut.Goals as goal

pub new-requires-clause-some : goal.new-requires-clause-some
new-requires-clause-some c =
    let s = c.self.invariant in
    (sites_there (parts_of c.self.inside.machine) s.0 c.as_slice.result.now s.1 (c.as_slice.ensures.value
    ∙ c.in-Ok.ensures.finals s.0 s.1)).some

pub new-requires-clause-few : goal.new-requires-clause-few
new-requires-clause-few c =
    let s = c.self.invariant in
    (sites_there (parts_of c.self.inside.machine) s.0 c.as_slice.result.now s.1 (c.as_slice.ensures.value
    ∙ c.in-Ok.ensures.finals s.0 s.1)).few

pub unreachable-requires : goal.unreachable-requires
unreachable-requires c =
    let s = c.self.invariant in
    let sites = sites_there (parts_of c.self.inside.machine) s.0 c.as_slice.result.now s.1 (c.as_slice.ensures.value
    ∙ c.in-Ok.ensures.finals s.0 s.1) in
    never_refused c.as_slice.result.now c.in-Err.fault c.in-Err.ensures.refused sites.each c.in_default-fault.not-Memory
