use Rattle.std.proofs.Common.{◌≡◌, ◌∙◌, sym, subst, Some, None}
use Rattle.sgt_history.specs.Flaws.{rank_of}
use Rattle.sgt_history_faults.specs.Noted.{Covers, IsReal}
use Rattle.sgt_history_faults.specs.Touch.{AreTouches}
use Rattle.sgt_history_faults.specs.Group.{AreAllAlike}
use Rattle.sgt_history_faults.proofs.Whole.{all-alike, all-faulty}
use Rattle.sgt_history_faults.proofs.Decided.{touches-permuted, all-covered}
use Rattle.sgt_history_faults.proofs.first.judged_by.Goals as goal

pub judge_touches-requires-clause-alike : goal.judge_touches-requires-clause-alike
judge_touches-requires-clause-alike c =
    let h = c.requires.0 in
    let are =
    touches-permuted h c.args.touches.items c.sort_touches.new.touches.items c.sort_touches.ensures.permutation
    c.requires.1.touches_are in
    subst AreAllAlike (sym c.as_slice.ensures.value) (all-alike h c.sort_touches.new.touches.items are)

pub returns-in-Some : goal.returns-in-Some
returns-in-Some c = λ h ready.
    let are =
    touches-permuted h c.args.touches.items c.sort_touches.new.touches.items c.sort_touches.ensures.permutation
    ready.touches_are in
    let are' = subst (AreTouches h) (sym c.as_slice.ensures.value) are in
    record {
      faulty = subst (IsReal h) c.in-Some.is (c.judge_touches.ensures.real h (all-faulty h c.as_slice.result.now are')
          ready.real);
      first = λ line flaw place f. subst (λ one. Covers one line (rank_of flaw) place) c.in-Some.is
          (all-covered h c.as_slice.result.now are' c.args.before c.judge_touches.result c.judge_touches.ensures.covered
          c.judge_touches.ensures.kept ready.values ready.own line flaw place f);
    }

pub returns-in-None : goal.returns-in-None
returns-in-None c = λ h ready.
    let are =
    touches-permuted h c.args.touches.items c.sort_touches.new.touches.items c.sort_touches.ensures.permutation
    ready.touches_are in
    let are' = subst (AreTouches h) (sym c.as_slice.ensures.value) are in
    record {
      faultless = λ line flaw place f. subst (λ one. Covers one line (rank_of flaw) place) c.in-None.is
          (all-covered h c.as_slice.result.now are' c.args.before c.judge_touches.result c.judge_touches.ensures.covered
          c.judge_touches.ensures.kept ready.values ready.own line flaw place f);
      touches_are = are;
      ordered = c.sort_touches.ensures.sorted;
    }
