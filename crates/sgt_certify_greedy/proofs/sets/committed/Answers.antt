use Rattle.std.proofs.Common.{ℕ, take, subst, inl, inr, Contains}
use Rattle.sgt_names.proofs.Places.{All-from_at, Contains-from_at}
use Rattle.sgt_names.proofs.Lists.{All_in, All-next, All-weaken, All-whole, element_at}
use Rattle.sgt_names.specs.declared.entry.Entry.TheVariants.{Commit}
use Rattle.sgt_certify_logs.specs.Witness.{IsIn}
use Rattle.sgt_certify_greedy.proofs.sets.committed.Goals as goal

pub loop-tx-preserved : goal.loop-tx-preserved
loop-tx-preserved c =
    let sites = c.args.sites.now in
    let old = c.loop-tx.found.items in
    let new = c.note_if.new.txs.items in
    let noted = c.in_ok-note_if.ensures in
    let at = element_at c.args.txs.now c.loop-tx.tx-index c.tx-item.result c.loop-tx-test.true c.tx-item.is in
    let P = λ (t : ℕ). IsIn sites (Commit t) in
    record {
      only = All-from_at P new (λ n t at_t.
          elim (noted.only t (Contains-from_at new n t at_t)) [
            | inl before ↦ All_in P old t c.loop-tx.invariant.only before
            | inr now ↦ subst P now.1 (c.stands_in-noted.ensures.0 now.0)
          ]);
      has = All-next (λ (t : ℕ). P t → Contains new t) c.args.txs.now c.loop-tx.tx-index c.tx-item.result at
          (λ is_in. noted.has (c.stands_in-noted.ensures.1 is_in))
          (All-weaken (λ (t : ℕ). P t → Contains old t) (λ (t : ℕ). P t
          → Contains new t) (take c.loop-tx.tx-index c.args.txs.now)
          (λ t h is_in. noted.kept t (h is_in)) c.loop-tx.invariant.has);
    }

pub returns-clause-has : goal.returns-clause-has
returns-clause-has c t has is_in =
    let P = λ (t : ℕ). IsIn c.args.sites.now (Commit t) → Contains c.loop-tx.found.items t in
    All_in P c.args.txs.now t
    (All-whole P c.args.txs.now c.loop-tx.tx-index c.loop-tx-test.false c.loop-tx.invariant.has) has is_in
