use Rattle.std.proofs.Common.{◌∙◌}
use Rattle.sgt_site.proofs.Keeps.{names-values, finals-legal}
use Rattle.sgt_site.proofs.site.Site.final_values.Goals as goal

pub returns-in-Ok-clause-items : goal.returns-in-Ok-clause-items
returns-in-Ok-clause-items c = rw (c.in-Ok.ensures, c.as_slice.ensures.cells, ← c.self.view_is) (names-values _
    ∙ c.self.invariant.0.names_same)

pub returns-in-Ok-clause-values : goal.returns-in-Ok-clause-values
returns-in-Ok-clause-values c =
    rw (← c.self.view_is)
    (rw (c.in-Ok.ensures, c.as_slice.ensures.cells) (finals-legal _ _ _ _ c.self.invariant.0.each))
