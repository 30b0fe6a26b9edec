use Rattle.std.proofs.Common.{◌≡◌, ◌∙◌, ◌+◌, ap, sym, subst, arith, length}
use Rattle.sgt_service_settle.specs.private.Acts.{AreActs, IsSortedAt}
use Rattle.sgt_service_settle.proofs.Rowing.{written_back}
use Rattle.sgt_service_settle.proofs.Acting.{AreByActorTo, acts_sorted, by_actor_next, by_actor_all}
use Rattle.sgt_service_settle.proofs.acts.acts_of.Goals as goal

pub loop-at-preserved : goal.loop-at-preserved
loop-at-preserved c =
    let items = c.args.items.now in
    let log = c.args.log.now in
    let old = c.loop-at.acts in
    let n = c.loop-at.at in
    let new = c.sort_at.new.acts in
    let long : length c.as_mut_slice.result.now ≡ length old.items = ap length c.as_mut_slice.ensures.value in
    let same : length new ≡ length c.as_mut_slice.result.now = c.sort_at.auto.acts in
    let back = written_back old.items new old.len (omega (arith, old.ok.0, same, long)) in
    let sorted : IsSortedAt old.items n new = rw c.as_mut_slice.ensures.value at c.in_ok-sort_at.ensures in
    record {
      long = ap length back ∙ (same ∙ (long ∙ c.loop-at.invariant.long));
      acts = subst (AreActs items log) (sym back)
          (acts_sorted items log n old.items new sorted c.loop-at.invariant.acts);
      sorted = subst (AreByActorTo (n + 1)) (sym back)
          (by_actor_next n old.items new sorted c.loop-at.invariant.sorted);
    }

pub returns-clause-sorted : goal.returns-clause-sorted
returns-clause-sorted c =
    by_actor_all c.loop-at.at c.loop-at.acts.items (omega (
      arith,
      c.loop-at-test.false,
      c.loop-at.invariant.long,
      c.in_ok-acts.ensures.long,
    )) c.loop-at.invariant.sorted
