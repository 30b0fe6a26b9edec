use Rattle.std.proofs.Common.{◌≡◌}
use Rattle.sgt_names.specs.Draft.{at_site}
use Rattle.sgt_site.proofs.SitePart.{may-whole, refuses-whole}
use Rattle.sgt_site.proofs.site.Site.why_unpledged.Goals as goal

pub returns-in-Err : goal.returns-in-Err
returns-in-Err c =
    let here : c.at.result.now ≡ at_site c.args.self.now.number c.args.draft.now.touched =
    rw (← c.self.view_is) c.at.ensures.part in
    refuses-whole c.args.self.now c.args.tx c.args.draft.now.touched _ here _ c.in-Err.ensures.refused

pub returns-in-Ok : goal.returns-in-Ok
returns-in-Ok c =
    let here : c.at.result.now ≡ at_site c.args.self.now.number c.args.draft.now.touched =
    rw (← c.self.view_is) c.at.ensures.part in
    may-whole c.args.self.now c.args.tx c.args.draft.now.touched _ here c.in-Ok.ensures.allowed
