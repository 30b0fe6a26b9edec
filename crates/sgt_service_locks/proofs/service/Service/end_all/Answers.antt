use Rattle.std.proofs.Common.{rules, ◌≡◌, ◌+◌, ◌++◌, ◌∙◌, subst, arith}
use Rattle.std.specs.Prelude.{vec_len}
use Rattle.sgt_names.specs.Draft.{at_site}
use Rattle.sgt_service_locks.specs.Counts.{AreCounted, only_at, with_others, blocks_of}
use Rattle.sgt_service_locks.specs.Guarded.{AwaitsInstalls, notes_at, notes_below}
use Rattle.sgt_service_locks.proofs.Counting.{gains_next, gains_all, block_none}
use Rattle.sgt_service_locks.proofs.Noting.{notes_next}
use Rattle.sgt_service_locks.proofs.service.Service.end_all.Goals as goal

pub loop-place-preserved : goal.loop-place-preserved
loop-place-preserved g c =
    let verdict = c.args.verdict in
    let touched = c.args.active.now.draft.touched in
    let seat = c.loop-place.seat in
    let here = c.number_at-here.ensures in
    let one = c.end_one.ensures in
    let counted = one.counted c.if-not-end_one.false in record {
      awaits = λ v. subst (λ n. AwaitsInstalls c.end_one.new.guarded.certifier c.args.active.now.tx touched (n + 1))
          here (one.awaits c.if-not-end_one.false v);
      step = one.step ∙ c.loop-place.invariant.step;
      share = (
        one.share.0 ∙ c.loop-place.invariant.share.0,
        one.share.1 ∙ c.loop-place.invariant.share.1,
        one.share.2
            ∙ c.loop-place.invariant.share.2,
      );
      begins = one.begins ∙ c.loop-place.invariant.begins;
      within = omega (arith, c.loop-place-test.true);
      history = notes_next verdict c.args.active.now c.loop-place.place c.args.guarded.now.certifier.history
          c.loop-place.guarded.certifier.history
          c.end_one.new.guarded.certifier.history c.loop-place.invariant.history
          (subst (λ n. c.end_one.new.guarded.certifier.history ≡ c.loop-place.guarded.certifier.history ++ notes_at
          verdict c.args.active.now n) here
          (one.history c.if-not-end_one.false));
      owed = search rules;
      kept = one.kept c.if-not-end_one.false ∙ c.loop-place.invariant.kept;
      counts = gains_next (blocks_of verdict touched) c.loop-place.place c.args.seat.now.counts.items
          seat.counts.items c.end_one.new.seat.counts.items
          c.loop-place.invariant.counts
          (subst (λ n. AreCounted (only_at n (with_others (blocks_of verdict touched n))) seat.counts.items
          c.end_one.new.seat.counts.items) here counted);
    }

pub returns-clause-ok : goal.returns-clause-ok
returns-clause-ok g c =
    let verdict = c.args.verdict in
    let touched = c.args.active.now.draft.touched in
    let past = c.loop-place-test.false in
    gains_all (blocks_of verdict touched) c.loop-place.place c.args.seat.now.counts.items c.loop-place.seat.counts.items
    (λ s above. block_none verdict (at_site s touched)
    (c.requires.sites s (omega (arith, above, past, c.args.self.now.sites.ok.0))))
    c.loop-place.invariant.counts

pub returns-clause-history : goal.returns-clause-history
returns-clause-history g c =
    let past = c.loop-place-test.false in
    let all : c.loop-place.place ≡ vec_len c.args.self.now.sites = omega (arith, past, c.loop-place.invariant.within) in
    subst (λ n. c.loop-place.guarded.certifier.history ≡ c.args.guarded.now.certifier.history ++ notes_below
    c.args.verdict c.args.active.now n) all
    c.loop-place.invariant.history
