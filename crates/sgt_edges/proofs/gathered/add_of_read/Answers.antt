use Rattle.sgt_edges.proofs.Gathers.{adds-both, read-parts}
use Rattle.sgt_edges.proofs.Once.{once-both, wr-rw-differ}
use Rattle.sgt_site.proofs.PendingReads.{ok-then}
use Rattle.sgt_edges.proofs.gathered.add_of_read.Goals as goal

pub in_front-before-requires-clause-known : goal.in_front-before-requires-clause-known
in_front-before-requires-clause-known c = c.requires.seen _ c.in-Some.is

pub in_front-before-requires-clause-by_version : goal.in_front-before-requires-clause-by_version
in_front-before-requires-clause-by_version c = c.requires.ordered.by_version

pub behind-after-requires-clause-known : goal.behind-after-requires-clause-known
behind-after-requires-clause-known c = c.requires.seen _ c.in-Some.is

pub returns-clause-all : goal.returns-clause-all
returns-clause-all c =
    ok-then c.add_after.result c.add_after.ensures.all
    (λ after s are. adds-both _ _ _ _ _ _ (read-parts s c.args.touch.now c.args.me c.in-Some.seen _ _
    c.in-Some.is (c.in_front-before.ensures.neighbours s c.args.touch.now.item are)
    (c.behind-after.ensures.neighbours s c.args.touch.now.item are)) c.in_ok-add_before.ensures.all after)

pub returns-clause-once : goal.returns-clause-once
returns-clause-once c =
    ok-then c.add_after.result c.add_after.ensures.once (λ after s are apart.
    once-both _ _ _ _ _ _ (read-parts s c.args.touch.now c.args.me c.in-Some.seen _ _ c.in-Some.is
    (c.in_front-before.ensures.neighbours s c.args.touch.now.item are)
    (c.behind-after.ensures.neighbours s c.args.touch.now.item are)) (wr-rw-differ c.args.touch.now c.args.me _ _)
    c.in_ok-add_before.ensures.all (c.in_ok-add_before.ensures.once (c.in_front-before.ensures.apart apart))
    (after (c.behind-after.ensures.apart apart)))
