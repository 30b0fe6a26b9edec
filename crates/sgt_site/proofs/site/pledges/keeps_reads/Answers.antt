use Rattle.std.proofs.Common.{All, subst, sym}
use Rattle.sgt_site.specs.private.Cells.{KeepsItem}
use Rattle.sgt_site.proofs.site.pledges.keeps_reads.Goals as goal

pub returns-then-all_logged-clause-kept : goal.returns-then-all_logged-clause-kept
returns-then-all_logged-clause-kept c =
    λ hit. subst (All (KeepsItem c.args.touched.now c.args.number)) c.items_of.ensures (c.all_kept.ensures.0 hit)

pub returns-then-all_logged-clause-differs : goal.returns-then-all_logged-clause-differs
returns-then-all_logged-clause-differs c =
    λ logged kept. c.all_kept.ensures.1 (subst (All (KeepsItem c.args.touched.now c.args.number))
    (sym c.items_of.ensures) kept)
