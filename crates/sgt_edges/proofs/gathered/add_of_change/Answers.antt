use Rattle.sgt_edges.proofs.Gathers.{adds-both, change-parts}
use Rattle.sgt_edges.proofs.Once.{once-both, ww-rw-differ}
use Rattle.sgt_site.proofs.PendingReads.{ok-then}
use Rattle.sgt_edges.proofs.gathered.add_of_change.Goals as goal

pub returns-clause-all : goal.returns-clause-all
returns-clause-all c =
    ok-then c.add_readers.result c.add_readers.ensures.all
    (λ readers s are. adds-both _ _ _ _ _ _ (change-parts s c.args.touch.now c.args.me c.in-Some.change _ _
    c.in-Some.is (c.changes_before-before.ensures.before s c.args.touch.now.item are)
    (c.reads_before-readers.ensures.before s c.args.touch.now.item are))
    c.in_ok-add_before.ensures.all readers)

pub returns-clause-once : goal.returns-clause-once
returns-clause-once c = ok-then c.add_readers.result c.add_readers.ensures.once (λ readers s are writers_apart apart.
    once-both _ _ _ _ _ _ (change-parts s c.args.touch.now c.args.me c.in-Some.change _ _ c.in-Some.is
    (c.changes_before-before.ensures.before s c.args.touch.now.item are)
    (c.reads_before-readers.ensures.before s c.args.touch.now.item are))
    (ww-rw-differ c.args.touch.now c.args.me _ _)
    c.in_ok-add_before.ensures.all
    (c.in_ok-add_before.ensures.once (c.changes_before-before.ensures.apart writers_apart))
    (readers (c.reads_before-readers.ensures.apart apart)))
