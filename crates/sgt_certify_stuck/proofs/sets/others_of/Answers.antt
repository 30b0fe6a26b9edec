use Rattle.std.proofs.Common.{◌≡◌, ◌∙◌, ℕ, false, inl, inr, sym, subst, Contains}
use Rattle.std.specs.BTreeSet.{BTreeSet, contains}
use Rattle.std.specs.Ordering.{nat_cmp}
use Rattle.std.proofs.lemmas.Bool.{cases_eq, true≢false}
use Rattle.sgt_names.proofs.Lists.{element_at}
use Rattle.sgt_names.proofs.Places.{Contains-from_at}
use Rattle.sgt_certify_stuck.specs.Apart.{HasTx}
use Rattle.sgt_certify_stuck.proofs.Elements.{at_more, each-in, cond-true}
use Rattle.sgt_certify_stuck.proofs.sets.others_of.Goals as goal
use Rattle.sgt_certify_stuck.proofs.sets.others_of.Goals.{then-not-contains+in_ok-insert, else-not-contains}
use Rattle.sgt_names.proofs.Elements.{nat_cmp-other}

pub loop-tx-preserved : goal.loop-tx-preserved
loop-tx-preserved c =
    let at = element_at c.args.txs.now c.loop-tx.tx-index c.tx-item.result c.loop-tx-test.true c.tx-item.is in
    elim c.if-not-contains.branch [
      | then-not-contains+in_ok-insert w ↦ record {
        has = at_more (λ (t : ℕ). contains nat_cmp c.args.met.now t ≡ false
            → HasTx c.if-not-contains.set t) c.args.txs.now c.loop-tx.tx-index c.tx-item.result at
            (λ _. subst (λ (s : BTreeSet ℕ). HasTx s c.tx-item.result) (sym w.set-is) w.in_ok-insert.ensures.updates.1)
            (λ k t lt at_k out. subst (λ (s : BTreeSet ℕ). HasTx s t) (sym w.set-is)
            (w.in_ok-insert.ensures.updates.0 t ∙ cond-true _ _ (c.loop-tx.invariant.has k t lt at_k out)));
        only = λ t has.
            elim (cases_eq c.tx-item.result t) [
              | inl same ↦ (
                subst (Contains c.args.txs.now) same
                    (Contains-from_at c.args.txs.now c.loop-tx.tx-index c.tx-item.result at),
                subst (λ (u : ℕ). contains nat_cmp c.args.met.now u ≡ false) same (sym c.contains.ensures
                    ∙ w.if-not-contains.true),
              )
              | inr ne ↦ c.loop-tx.invariant.only t
                  (sym (w.in_ok-insert.ensures.updates.2 t (nat_cmp-other c.tx-item.result t ne))
                  ∙ subst (λ (s : BTreeSet ℕ). HasTx s t) w.set-is has)
            ];
      }
      | else-not-contains w ↦ record {
        has = at_more (λ (t : ℕ). contains nat_cmp c.args.met.now t ≡ false
            → HasTx c.if-not-contains.set t) c.args.txs.now c.loop-tx.tx-index c.tx-item.result at
            (λ out. absurd (true≢false (sym w.if-not-contains.false ∙ c.contains.ensures ∙ out)))
            (λ k t lt at_k out. subst (λ (s : BTreeSet ℕ). HasTx s t) (sym w.set-is)
            (c.loop-tx.invariant.has k t lt at_k out));
        only = λ t has. c.loop-tx.invariant.only t (subst (λ (s : BTreeSet ℕ). HasTx s t) w.set-is has);
      }
    ]

pub returns-clause-has : goal.returns-clause-has
returns-clause-has c t has out =
    each-in (λ (u : ℕ). contains nat_cmp c.args.met.now u ≡ false
    → HasTx c.loop-tx.set u) c.args.txs.now c.loop-tx.tx-index
    c.loop-tx-test.false c.loop-tx.invariant.has t has out
