use Rattle.std.proofs.Common.{◌∙◌}
use Rattle.sgt_site.proofs.Versions.{versions-logged}
use Rattle.sgt_site.proofs.site.Site.versions.Goals as goal

pub returns-clause-versions : goal.returns-clause-versions
returns-clause-versions c =
    let kept = c.self.invariant.0 in
    rw (← c.self.view_is) (c.versions.ensures ∙ versions-logged _ kept.site _ kept.names_same kept.each)
