use Rattle.std.proofs.Common.{ap, ◌∙◌, refl}
use Rattle.sgt_site.specs.State.{writers_of}
use Rattle.sgt_site.proofs.Keeps.{found_cell, found_known}
use Rattle.sgt_site.proofs.site.Site.writers.Goals as goal

pub returns-in-Some-clause-ok : goal.returns-in-Some-clause-ok
returns-in-Some-clause-ok c =
    let cell = found_cell _ _ _ _ _ _ _ c.self.invariant.0.each c.in-Some.ensures.found
    (rw c.as_slice.ensures.cells at c.index-as_slice-at.is) in
    rw (← c.self.view_is) (c.writers.ensures ∙ cell.1.writers
    ∙ ap (writers_of c.self.inside.log.installed c.self.inside.log.entries) cell.0)

pub returns-in-Some-clause-allowed : goal.returns-in-Some-clause-allowed
returns-in-Some-clause-allowed c =
    rw (← c.self.view_is) (found_known _ _ _ _ c.self.invariant.0.names_same c.in-Some.ensures.found)

pub returns-in-None-clause-refused : goal.returns-in-None-clause-refused
returns-in-None-clause-refused c =
    (refl, rw (← c.self.view_is, ← c.self.invariant.0.names_same) c.in-None.ensures.absent)
