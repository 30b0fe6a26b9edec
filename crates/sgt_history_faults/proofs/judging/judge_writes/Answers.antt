use Rattle.std.proofs.Common.{◌≡◌, subst, length, arith, false}
use Rattle.std.proofs.lemmas.List.{take_all}
use Rattle.sgt_history.specs.declared.history.Kind.TheVariants.{Read}
use Rattle.sgt_history_faults.specs.declared.touch.Touch.{Touch}
use Rattle.sgt_history_faults.specs.Group.{AreCovered}
use Rattle.sgt_history_faults.proofs.Grouped.{covered-next, contains_next}
use Rattle.sgt_history_faults.proofs.judging.judge_writes.Goals as goal

pub loop-write-preserved : goal.loop-write-preserved
loop-write-preserved c =
    let lt = c.loop-write-test.true in
    let d : Touch = record {
      version = 0;
      item = 0;
      line = 0;
      place = 0;
      kind = Read;
      commits = false;
      surpassed =
          false;
    } in
    record {
      kept = λ l r p h. c.judge_write-first.ensures.kept l r p (c.loop-write.invariant.kept l r p h);
      covered = covered-next c.args.writes.now c.args.writes.now c.loop-write.write-index d c.loop-write.first
          c.judge_write-first.result lt
          c.loop-write.invariant.covered c.judge_write-first.ensures.kept
          (λ flaw has. c.judge_write-first.ensures.covered c.args.writes.now flaw c.requires.writer
          (c.requires.writes c.loop-write.write-index d lt) has);
      real = λ h all before. c.judge_write-first.ensures.real h c.args.writes.now c.requires.writer
          (c.requires.writes c.loop-write.write-index d lt)
          (all _ (contains_next c.args.writes.now c.loop-write.write-index d lt))
          (c.loop-write.invariant.real h all before);
    }

pub returns-clause-covered : goal.returns-clause-covered
returns-clause-covered c =
    subst (λ xs. AreCovered c.args.writes.now xs c.loop-write.first)
    (take_all c.loop-write.write-index c.args.writes.now (omega arith)) c.loop-write.invariant.covered
