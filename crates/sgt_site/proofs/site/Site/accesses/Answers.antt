use Rattle.std.proofs.Common.{ap, refl, subst, ◌∙◌}
use Rattle.sgt_site.specs.State.{IsVersionWritten, writers_of}
use Rattle.sgt_site.proofs.Keeps.{found_cell, found_known}
use Rattle.sgt_site.proofs.site.Site.accesses.Goals as goal

pub returns-in-Some-clause-writers : goal.returns-in-Some-clause-writers
returns-in-Some-clause-writers c =
    let cell = found_cell _ _ _ _ _ _ _ c.self.invariant.0.each c.in-Some.ensures.found
    (rw c.as_slice.ensures.cells at c.index-as_slice-at.is) in
    rw (← c.self.view_is) (c.accesses.ensures.writers ∙ cell.1.writers
    ∙ ap (writers_of c.self.inside.log.installed c.self.inside.log.entries) cell.0)

pub returns-in-Some-clause-written : goal.returns-in-Some-clause-written
returns-in-Some-clause-written c =
    let cell = found_cell _ _ _ _ _ _ _ c.self.invariant.0.each c.in-Some.ensures.found
    (rw c.as_slice.ensures.cells at c.index-as_slice-at.is) in
    let same = cell.1.writers ∙ ap (writers_of c.self.inside.log.installed c.self.inside.log.entries) cell.0 in
    rw (← c.self.view_is) (subst (λ ws. IsVersionWritten ws c.accesses.result.version_written) same
    c.accesses.ensures.written)

pub returns-in-Some-clause-readers : goal.returns-in-Some-clause-readers
returns-in-Some-clause-readers c =
    let cell = found_cell _ _ _ _ _ _ _ c.self.invariant.0.each c.in-Some.ensures.found
    (rw c.as_slice.ensures.cells at c.index-as_slice-at.is) in
    rw (← c.self.view_is, c.accesses.ensures.readers, ← cell.0) cell.1.readers

pub returns-in-Some-clause-once : goal.returns-in-Some-clause-once
returns-in-Some-clause-once c =
    let cell = found_cell _ _ _ _ _ _ _ c.self.invariant.0.each c.in-Some.ensures.found
    (rw c.as_slice.ensures.cells at c.index-as_slice-at.is) in
    rw c.accesses.ensures.readers cell.1.readers_once

pub returns-in-Some-clause-allowed : goal.returns-in-Some-clause-allowed
returns-in-Some-clause-allowed c =
    rw (← c.self.view_is) (found_known _ _ _ _ c.self.invariant.0.names_same c.in-Some.ensures.found)

pub returns-in-None-clause-refused : goal.returns-in-None-clause-refused
returns-in-None-clause-refused c =
    (refl, rw (← c.self.view_is, ← c.self.invariant.0.names_same) c.in-None.ensures.absent)
