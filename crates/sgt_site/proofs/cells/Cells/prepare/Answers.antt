use Rattle.std.proofs.Common.{ap, sym, length, ◌∙◌}
use Rattle.sgt_site.specs.private.Cells.{Contents}
use Rattle.sgt_site.proofs.Changes.{changed-items, items-rise}
use Rattle.sgt_site.proofs.Versions.{versions-changed}
use Rattle.sgt_site.proofs.cells.Cells.prepare.Goals as goal

pub invariant_of-self : goal.invariant_of-self
invariant_of-self c = record {
  rising = items-rise _ _
      (changed-items _ (λ d e room. ap (λ (f : Contents). f.item) room.0) _ _ c.prepare_all.ensures.same)
      c.self.invariant.rising;
  counted = c.self.invariant.counted
      ∙ sym (versions-changed _ (λ d e room. ap (λ (f : Contents). length f.writers) room.0) _ _
      c.prepare_all.ensures.same);
}

pub returns-clause-there : goal.returns-clause-there
returns-clause-there c = rw (← c.self.view_is) c.prepare_all.ensures.there
