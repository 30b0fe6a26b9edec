use Rattle.std.proofs.Common.{◌≡◌, ◌<◌, ℕ, length, refl, sym, ◌∙◌, arith, subst, inl, inr, Some}
use Rattle.std.specs.Prelude.{slice_get}
use Rattle.std.proofs.lemmas.List.{length-set}
use Rattle.std.proofs.lemmas.Bool.{cases_order}
use Rattle.std.proofs.lemmas.Option.{same_Some, slice_get_read, slice_get_within}
use Rattle.sgt_core_machine.specs.declared.machine.Place.{Place}
use Rattle.sgt_core_machine.specs.private.Withdrawing.{IsOffered, IsPledgedBy}
use Rattle.sgt_core_machine.proofs.Withdrawals.{done_more, rest_more}
use Rattle.sgt_core_machine.proofs.withdrawing.offer_all.Goals as goal

pub loop-at-preserved : goal.loop-at-preserved
loop-at-preserved c =
    let now = c.loop-at.places.items in
    let old = c.args.places.now.items in
    let i = c.loop-at.at in
    let h = c.loop-at.invariant in
    let R = IsPledgedBy c.args.tx c.args.draft.now.touched in
    let long = h.long in
    let there : slice_get now i ≡ Some c.index_mut.result.now =
    slice_get_read now (length now) i c.index_mut.result.now refl (omega (arith, long, c.loop-at-test.true))
    c.index_mut.ensures.value in
    record {
      long = length-set now i c.offer.new.place ∙ long;
      done = done_more R old now i c.index_mut.result.now c.offer.new.place there h.done h.rest c.in-Ok.ensures.ok;
      rest = rest_more R old now i c.index_mut.result.now c.offer.new.place there h.done h.rest c.in-Ok.ensures.ok;
    }

pub returns-clause-ok : goal.returns-clause-ok
returns-clause-ok c =
    let h = c.loop-at.invariant in
    record {
      long = h.long;
      each = λ k p q at_p at_q. let lt = slice_get_within c.args.places.now.items k p at_p in
          h.done k p q (omega (arith, lt, c.loop-at-test.false)) at_p at_q;
    }

pub offer-requires : goal.offer-requires
offer-requires c =
    let now = c.loop-at.places.items in
    let i = c.loop-at.at in
    let h = c.loop-at.invariant in
    let long = h.long in
    let there : slice_get now i ≡ Some c.index_mut.result.now =
    slice_get_read now (length now) i c.index_mut.result.now refl (omega (arith, long, c.loop-at-test.true))
    c.index_mut.ensures.value in
    c.requires i c.index_mut.result.now (sym (h.rest i (omega arith)) ∙ there)

pub returns-in-Err-clause-offered : goal.returns-in-Err-clause-offered
returns-in-Err-clause-offered c =
    let old = c.args.places.now.items in
    let now = c.loop-at.places.items in
    let i = c.loop-at.at in
    let h = c.loop-at.invariant in
    let R = IsOffered c.args.tx in
    let long = h.long in
    let there : slice_get now i ≡ Some c.index_mut.result.now =
    slice_get_read now (length now) i c.index_mut.result.now refl (omega (arith, long, c.loop-at-test.true))
    c.index_mut.ensures.value in
    let done : (k : ℕ) (p q : Place) → k < i → slice_get old k ≡ Some p → slice_get now k ≡ Some q
    → R p q = λ k p q lt at_p at_q. (h.done k p q lt at_p at_q).offered in
    record {
      long = length-set now i c.offer.new.place ∙ long;
      each = λ k p q at_p at_q. elim (cases_order k i) [
        | inl is ↦ done_more R old now i c.index_mut.result.now c.offer.new.place there done h.rest
            c.in-Err.ensures.offered k p q (omega (arith, is)) at_p at_q
        | inr (inl lt) ↦ done_more R old now i c.index_mut.result.now c.offer.new.place there done h.rest
            c.in-Err.ensures.offered k p q (omega (arith, lt)) at_p at_q
        | inr (inr gt) ↦
            let same =
            rest_more R old now i c.index_mut.result.now c.offer.new.place there done h.rest
            c.in-Err.ensures.offered k (omega (arith, gt)) in
            subst (R p) (same_Some p q (sym at_p ∙ (sym same ∙ at_q))) (record { same = refl; pledge = inl refl })
      ];
    }
