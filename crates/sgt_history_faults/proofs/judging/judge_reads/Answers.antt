use Rattle.std.proofs.Common.{◌≡◌, subst, length, arith, false, get_or}
use Rattle.std.proofs.lemmas.List.{take_all}
use Rattle.std.proofs.lemmas.Option.{slice_get-get_or}
use Rattle.sgt_history.specs.declared.history.Kind.TheVariants.{Read}
use Rattle.sgt_history_faults.specs.declared.touch.Touch.{Touch}
use Rattle.sgt_history_faults.specs.Group.{AreCovered}
use Rattle.sgt_history_faults.proofs.Grouped.{covered-next, contains_next, earlier-on, read-covered, read-faulty}
use Rattle.sgt_history_faults.proofs.judging.judge_reads.Goals as goal

pub loop-read-preserved : goal.loop-read-preserved
loop-read-preserved c =
    let lt = c.loop-read-test.true in
    let i = c.loop-read.read-index in
    let d : Touch = record {
      version = 0;
      item = 0;
      line = 0;
      place = 0;
      kind = Read;
      commits = false;
      surpassed =
          false;
    } in
    let e : Touch = get_or c.args.reads.now c.loop-read.read-index d in
    let at = slice_get-get_or c.args.reads.now c.loop-read.read-index d lt in
    let read = c.requires.kinds c.loop-read.read-index d lt in
    record {
      within = c.skip_earlier-at.ensures.within;
      earlier = λ k u le there. earlier-on c.args.writes.now c.skip_earlier-at.result e.line u.line
          (c.requires.reads c.loop-read.read-index k e u (omega arith) at there) c.skip_earlier-at.ensures.before;
      kept = λ l r p h. c.judge_foreign-first.ensures.kept l r p
          (c.judge_own-first.ensures.kept l r p (c.loop-read.invariant.kept l r p h));
      covered = covered-next c.args.writes.now c.args.reads.now c.loop-read.read-index d c.loop-read.first
          c.judge_foreign-first.result lt
          c.loop-read.invariant.covered
          (λ l r p h. c.judge_foreign-first.ensures.kept l r p (c.judge_own-first.ensures.kept l r p h))
          (read-covered c.args.writes.now e c.flaw_of-flaw.result c.judge_own-first.result
          c.judge_foreign-first.result read
          (c.flaw_of-flaw.ensures.exact e) (λ own. c.judge_own-first.ensures.covered (c.is_of_line.ensures.1 own))
          c.judge_foreign-first.ensures.kept c.judge_foreign-first.ensures.covered);
      real = λ h all before.
          let mine = all e (contains_next c.args.reads.now c.loop-read.read-index d lt) in
          c.judge_foreign-first.ensures.real h
          (read-faulty h c.args.writes.now e c.flaw_of-flaw.result read (c.flaw_of-flaw.ensures.exact e)
          c.flaw_of-flaw.ensures.foreign mine)
          (c.judge_own-first.ensures.real h c.args.writes.now
          (λ own. let w = c.is_of_line.ensures.0 own in (read, w.0, w.1, w.2)) mine
          (c.loop-read.invariant.real h all before));
    }

pub returns-clause-covered : goal.returns-clause-covered
returns-clause-covered c =
    subst (λ xs. AreCovered c.args.writes.now xs c.loop-read.first)
    (take_all c.loop-read.read-index c.args.reads.now (omega arith)) c.loop-read.invariant.covered
