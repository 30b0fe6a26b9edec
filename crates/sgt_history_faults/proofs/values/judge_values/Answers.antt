use Rattle.std.proofs.Common.{◌≡◌, ◌-◌, arith, get_or}
use Rattle.std.proofs.lemmas.Option.{slice_get-get_or}
use Rattle.sgt_history_faults.specs.declared.giving.Given.{Given}
use Rattle.sgt_history_faults.proofs.GivenWhole.{others-next, faulty-at}
use Rattle.sgt_history_faults.proofs.values.judge_values.Goals as goal

pub loop-k-preserved : goal.loop-k-preserved
loop-k-preserved c =
    let d : Given = record { version = 0; item = 0; line = 0; place = 0; value = 0 } in
    let lt = c.loop-k-test.true in
    record {
      kept = λ l r p h. c.judge_value-first.ensures.kept l r p (c.loop-k.invariant.kept l r p h);
      covered = others-next c.args.given.now c.loop-k.k d c.loop-k.first c.judge_value-first.result c.loop-k.auto.k lt
          c.loop-k.invariant.covered
          c.judge_value-first.ensures.kept c.judge_value-first.ensures.covered;
      real = λ h all before. c.judge_value-first.ensures.real h
          (faulty-at h c.args.given.now c.loop-k.k d c.loop-k.auto.k lt all)
          (c.loop-k.invariant.real h all before);
    }
