use Rattle.std.proofs.Common.{ap, subst, sym, ◌∙◌}
use Rattle.std.specs.Prelude.{◌==◌}
use Rattle.sgt_names.specs.Draft.{AreRising, at_site}
use Rattle.sgt_names.specs.declared.draft.Touch.{Touch}
use Rattle.sgt_site.proofs.SitePart.{filter-again}
use Rattle.sgt_site.proofs.Nearby.{few-all}
use Rattle.sgt_site.proofs.near.touched_near.Goals as goal

pub returns-then-are_near-clause-here : goal.returns-then-are_near-clause-here
returns-then-are_near-clause-here c =
    ap (at_site c.args.site)
    (few-all c.touched.result.0.now c.touched.result.1.now _ c.touched.ensures.all
    (c.are_near.ensures c.if-are_near.true))

pub returns-then-are_near-clause-rising : goal.returns-then-are_near-clause-rising
returns-then-are_near-clause-rising c =
    subst AreRising
    (sym (few-all c.touched.result.0.now c.touched.result.1.now _ c.touched.ensures.all
    (c.are_near.ensures c.if-are_near.true)))
    c.touched.ensures.rising

pub returns-else-are_near-clause-here : goal.returns-else-are_near-clause-here
returns-else-are_near-clause-here c =
    ap (at_site c.args.site) c.at.ensures.part
    ∙ filter-again (λ (t : Touch). t.site == c.args.site) c.args.draft.now.touched
