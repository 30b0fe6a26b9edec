use Rattle.std.proofs.Common.{inl, inr, ◌∙◌, sym, subst, Contains}
use Rattle.std.proofs.lemmas.Bool.{cases_eq}
use Rattle.sgt_names.proofs.Lists.{element_at}
use Rattle.sgt_names.proofs.Places.{Contains-from_at}
use Rattle.sgt_certify_stuck.specs.Apart.{HasTx}
use Rattle.sgt_certify_stuck.proofs.Elements.{at_more, each-in, cond-true}
use Rattle.sgt_names.proofs.Elements.{nat_cmp-other}
use Rattle.sgt_certify_stuck.proofs.sets.set_of.Goals as goal

pub loop-tx-preserved : goal.loop-tx-preserved
loop-tx-preserved c =
    let at = element_at c.args.txs.now c.loop-tx.tx-index c.tx-item.result c.loop-tx-test.true c.tx-item.is in
    let updates = c.in_ok-insert.ensures.updates in
    record {
      has = at_more (HasTx c.insert.new.self) c.args.txs.now c.loop-tx.tx-index c.tx-item.result at updates.1
          (λ k t lt at_k. updates.0 t ∙ cond-true _ _ (c.loop-tx.invariant.has k t lt at_k));
      only = λ t has.
          elim (cases_eq c.tx-item.result t) [
            | inl same ↦ subst (Contains c.args.txs.now) same
                (Contains-from_at c.args.txs.now c.loop-tx.tx-index c.tx-item.result at)
            | inr ne ↦ c.loop-tx.invariant.only t (sym (updates.2 t (nat_cmp-other c.tx-item.result t ne)) ∙ has)
          ];
    }

pub returns-clause-has : goal.returns-clause-has
returns-clause-has c =
    each-in (HasTx c.loop-tx.set) c.args.txs.now c.loop-tx.tx-index c.loop-tx-test.false c.loop-tx.invariant.has
