use Rattle.std.proofs.Common.{◌≡◌, refl, subst}
use Rattle.sgt_names.specs.Draft.{at_site}
use Rattle.sgt_site.specs.Refused.{RefusesPledge}
use Rattle.sgt_site.specs.State.{SiteState}
use Rattle.sgt_site.proofs.SitePart.{may-near}
use Rattle.sgt_site.proofs.site.Site.pledge.Goals as goal

pub returns-then-not-try_pledge-clause-refused : goal.returns-then-not-try_pledge-clause-refused
returns-then-not-try_pledge-clause-refused c =
    subst (λ (s : SiteState). RefusesPledge s c.args.tx c.args.draft.now.touched
    c.why_unpledged-then-not-try_pledge.result) (c.if-not-try_pledge.ensures.not refl)
    c.why_unpledged-then-not-try_pledge.ensures

pub returns-clause-allowed : goal.returns-clause-allowed
returns-clause-allowed c =
    let here : at_site c.args.self.now.number c.touched_near.result.now
    ≡ at_site c.args.self.now.number c.args.draft.now.touched =
    rw (← c.try_pledge.view_is) c.touched_near.ensures.here in
    may-near c.args.self.now c.args.tx c.args.draft.now.touched _ here (c.if-not-try_pledge.ensures.may refl)
