use Rattle.std.proofs.Common.{◌≡◌, Some, Err, sym, ap, ◌∙◌, arith}
use Rattle.std.proofs.lemmas.Result.{err_from_is_err_and}
use Rattle.sgt_names.proofs.Lists.{element_at}
use Rattle.sgt_serial.specs.declared.report.SerialFail.TheVariants.{Differs}
use Rattle.sgt_serial.specs.declared.report.SerialTx.{SerialTx}
use Rattle.sgt_serial.specs.Report.{run_of}
use Rattle.sgt_serial.specs.private.Values.{store_of}
use Rattle.sgt_serial.proofs.Running.{same-fail, turn-differs, turn-as_logged, turn-after, turn-runs}
use Rattle.sgt_serial.proofs.run.run_all.Goals as goal

pub run-requires : goal.run-requires
run-requires c = c.loop-tx.invariant.operations

pub returns-in_err-run_one-clause-differs : goal.returns-in_err-run_one-clause-differs
returns-in_err-run_one-clause-differs c tx s x e =
    let sites = c.args.sites.now in
    let order = c.args.order.now in
    let i = c.loop-tx.tx-index in
    let t = c.tx-item.result in
    let so_far = c.loop-tx.invariant in
    let at = element_at order i t (omega arith) c.tx-item.is in
    let own : c.in_ok-run.run' ≡ run_of sites t = c.in_ok-run.ensures in
    let passed = err_from_is_err_and c.from_residual-in_err-run_one.result c.from_residual-in_err-run_one.ensures.1 in
    let here =
    c.in_err-run_one.ensures.differs tx s x (same-fail c.in_err-run_one.field-0.0 (Differs tx s x)
    (ap Err (sym passed.2) ∙ sym passed.1 ∙ e)) in (
      t,
      here.0 ∙ ap (λ (r : SerialTx). Some r.tx) own,
      (
        i,
        at,
        so_far.as_logged,
        turn-differs sites order i t at (store_of c.args.store.now) (store_of c.loop-tx.store) c.in_ok-run.run'
            so_far.as_logged so_far.after own s x here.1,
      ),
    )

pub loop-tx-preserved : goal.loop-tx-preserved
loop-tx-preserved c =
    let sites = c.args.sites.now in
    let order = c.args.order.now in
    let i = c.loop-tx.tx-index in
    let t = c.tx-item.result in
    let first = store_of c.args.store.now in
    let now = store_of c.loop-tx.store in
    let run = c.in_ok-run.run' in
    let so_far = c.loop-tx.invariant in
    let at = element_at order i t (omega arith) c.tx-item.is in
    let own : run ≡ run_of sites t = c.in_ok-run.ensures in
    let ran = c.in_ok-run_one.ensures in
    record {
      operations = so_far.operations;
      runs = c.in_ok-push.ensures.items
          ∙ turn-runs sites order i t at first now run so_far.as_logged so_far.after own c.loop-tx.runs.items
          so_far.runs;
      as_logged = turn-as_logged sites order i t at first now run so_far.as_logged so_far.after own ran.reads
          ran.writes;
      after = λ s x. turn-after sites order i t at first now run so_far.as_logged so_far.after own
          (store_of c.run_one.new.store) s x (ran.after s x);
    }
