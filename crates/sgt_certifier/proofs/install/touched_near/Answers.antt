use Rattle.std.proofs.Common.{List, sym, ap, subst}
use Rattle.sgt_names.specs.Draft.{AreRising}
use Rattle.sgt_names.specs.declared.draft.Touch.{Touch}
use Rattle.sgt_certifier.specs.Kept.{changed_at}
use Rattle.sgt_certifier.proofs.Changes.{changed_here}
use Rattle.sgt_edges.proofs.Touching.{few-all}
use Rattle.sgt_certifier.proofs.install.touched_near.Goals as goal

pub returns-then-are_near-clause-changed : goal.returns-then-are_near-clause-changed
returns-then-are_near-clause-changed c =
    ap (λ (ts : List Touch). changed_at ts c.args.site)
    (few-all c.touched.result.0.now c.touched.result.1.now _ c.touched.ensures.all
    (c.are_near.ensures c.if-are_near.true))

pub returns-then-are_near-clause-rising : goal.returns-then-are_near-clause-rising
returns-then-are_near-clause-rising c =
    subst AreRising
    (sym (few-all c.touched.result.0.now c.touched.result.1.now _ c.touched.ensures.all
    (c.are_near.ensures c.if-are_near.true)))
    c.touched.ensures.rising

pub returns-else-are_near-clause-changed : goal.returns-else-are_near-clause-changed
returns-else-are_near-clause-changed c = changed_here c.args.site c.args.draft.now.touched _ c.at.ensures.part
