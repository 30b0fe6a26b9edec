use Rattle.std.proofs.Common.{◌+◌, ◌∙◌, sym, ap, subst, arith, take}
use Rattle.sgt_service_settle.specs.Settled.{AreEntriesCounted}
use Rattle.sgt_service_settle.proofs.Counting.{read_counted, other_counted}
use Rattle.sgt_service_settle.proofs.counts.counts_in.Goals as goal
use Rattle.sgt_service_settle.proofs.counts.counts_in.Goals.{then-is_read, else-is_read}

pub loop-place-preserved : goal.loop-place-preserved
loop-place-preserved c =
    let log = c.args.log.now.entries in
    let n = c.loop-place.place in
    let are = c.loop-place.invariant in
    elim c.if-is_read.branch [
      | then-is_read w ↦ record {
        counted =
            subst (λ d. AreEntriesCounted d (take (n + 1) log)) (sym w.counts-is)
            (read_counted log n c.at.result c.loop-place.counts c.at.ensures (sym c.is_read.ensures ∙ w.if-is_read.true)
            are.counted);
        all = ap (λ d. d.reads + d.others) w.counts-is ∙ omega (arith, are.all);
      }
      | else-is_read w ↦ record {
        counted =
            subst (λ d. AreEntriesCounted d (take (n + 1) log)) (sym w.counts-is)
            (other_counted log n c.at.result c.loop-place.counts c.at.ensures
            (sym c.is_read.ensures ∙ w.if-is_read.false) are.counted);
        all = ap (λ d. d.reads + d.others) w.counts-is ∙ omega (arith, are.all);
      }
    ]
