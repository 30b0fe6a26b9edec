use Rattle.std.proofs.Common.{◌≡◌, Ok, false, ap, arith, refl, rules, subst}
use Rattle.sgt_names.specs.Draft.{AreRising, DraftView}
use Rattle.sgt_names.proofs.Lists.{element_at}
use Rattle.sgt_service.specs.Operations.{op_fits}
use Rattle.sgt_service.proofs.Telling.{undone_at}
use Rattle.sgt_service.proofs.Doing.{does_next_at, does_stop_at}
use Rattle.sgt_service.proofs.Keeping.{counted_same, op_counts, reads_on, unfit_counts}
use Rattle.sgt_service.proofs.runner.Runner.apply_all.Goals as goal

pub loop-op-init : goal.loop-op-init
loop-op-init g c = record {
  named = search rules;
  share = search rules;
  begins = search rules;
  counts = counted_same c.args.active.now.draft.touched c.args.active.now.draft.touched c.args.seat.now.counts.items
      c.args.seat.now.counts.items refl refl;
  done = search rules;
}

pub loop-op-preserved : goal.loop-op-preserved
loop-op-preserved g c =
    let here = element_at c.as_slice-operations.result.now c.loop-op.op-index c.op-item.result
    (omega arith) c.op-item.is in
    let rising : AreRising c.apply.new.active.draft.touched =
    subst (λ (d : DraftView). AreRising d.touched) c.draft.ensures c.touched-touched.ensures.rising in
    record {
      named = search rules;
      share = search rules;
      begins = search rules;
      counts = reads_on _ _ _ _ _ _ c.loop-op.invariant.counts
          (op_counts c.op-item.result _ _ _ _ _ _ rising (c.in_ok-apply.ensures.does (ap Ok c.if-not-branch.false))
          c.in_ok-apply.ensures.counts);
      done = does_next_at c.as_slice-operations.result.now c.loop-op.op-index c.op-item.result _ _ _ _ _ _ here
          c.loop-op.invariant.done (search rules) (search rules);
    }

pub returns-in_err-apply-clause-counts : goal.returns-in_err-apply-clause-counts
returns-in_err-apply-clause-counts g c =
    reads_on _ _ _ _ _ _ c.loop-op.invariant.counts
    (counted_same _ _ _ _ c.in_err-apply.ensures.err.0 c.in_err-apply.ensures.err.1)

pub returns-then-not-branch-clause-counts : goal.returns-then-not-branch-clause-counts
returns-then-not-branch-clause-counts g c =
    let same = c.in_ok-apply.ensures.same (ap Ok c.if-not-branch.true) in
    let unfit : op_fits c.loop-op.active.draft.touched c.op-item.result ≡ false =
    cc (c.in_ok-apply.ensures.fits, c.if-not-branch.true) in
    let none = unfit_counts c.op-item.result _ _ _ unfit c.in_ok-apply.ensures.counts in
    reads_on _ _ _ _ _ _ c.loop-op.invariant.counts (counted_same _ _ _ _ same.0 none)

pub returns-then-not-branch-clause-does : goal.returns-then-not-branch-clause-does
returns-then-not-branch-clause-does g c =
    let here = element_at c.as_slice-operations.result.now c.loop-op.op-index c.op-item.result
    (omega arith) c.op-item.is in
    search (
      rules,
      does_stop_at c.as_slice-operations.result.now c.loop-op.op-index c.op-item.result _ _ _ _ here
          c.loop-op.invariant.done,
    )

pub returns-in_err-apply-clause-refused : goal.returns-in_err-apply-clause-refused
returns-in_err-apply-clause-refused g c =
    let op = c.op-item.result in
    let shown = c.as_slice-operations.result.now in
    let here = element_at shown c.loop-op.op-index op (omega arith) c.op-item.is in
    search (
      rules,
      undone_at c.args.self.now.service.now.names.items c.args.active.now.tx c.loop-op.active.tx
          c.args.script.now.operations shown c.loop-op.op-index op c.args.active.now.draft.touched
          c.loop-op.active.draft.touched c.args.reads.now.items c.loop-op.reads.items c.as_slice-operations.ensures here
          c.loop-op.invariant.done c.loop-op.invariant.named.0,
    )
