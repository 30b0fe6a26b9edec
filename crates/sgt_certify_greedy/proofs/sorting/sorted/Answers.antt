use Rattle.std.proofs.Common.{◌<◌, ℕ, List, [], length, sym, ap, ◌∙◌, subst, arith, Contains}
use Rattle.std.proofs.lemmas.Bool.{eqb-true}
use Rattle.sgt_certify_greedy.specs.Pairs.{Leads}
use Rattle.sgt_certify_greedy.specs.Sorted.{Among}
use Rattle.sgt_certify_greedy.proofs.Rings.{ring-as}
use Rattle.sgt_certify_greedy.proofs.Elements.{without-fewer}
use Rattle.sgt_certify_greedy.proofs.Placing.{IsPlacing, all-placed, next-placed, none-placed}
use Rattle.sgt_names.proofs.Elements.{empty-length}
use Rattle.sgt_certify_greedy.proofs.sorting.sorted.Goals as goal

pub placing-init : goal.placing-init
placing-init c =
    none-placed (Leads c.args.pairs.now) c.args.txs.now _ _ c.in_ok-left.ensures.items c.new-order.ensures.items

pub placing-smaller : goal.placing-smaller
placing-smaller c =
    subst (λ (w : List ℕ). length w < length c.placing.left.items) (sym c.take_out.ensures)
    (without-fewer c.in-Some.tx c.placing.left.items
    (subst (λ (w : List ℕ). Contains w c.in-Some.tx) c.as_slice.ensures.value c.in-Some.ensures.some.0))

pub placing-preserved : goal.placing-preserved
placing-preserved c =
    let R = Leads c.args.pairs.now in
    let free = subst (λ (w : List ℕ). Contains w c.in-Some.tx × ((a : ℕ) → Contains w a → R a c.in-Some.tx → ⊥))
    c.as_slice.ensures.value c.in-Some.ensures.some in
    subst (λ (w : List ℕ). IsPlacing R c.args.txs.now w c.push.new.self.items) (sym c.take_out.ensures)
    (subst (IsPlacing R c.args.txs.now _) (sym c.in_ok-push.ensures.items)
    (next-placed R c.args.txs.now c.placing.left.items c.placing.order.items c.in-Some.tx c.placing.invariant free.0
    free.1))

pub returns-then-is_empty : goal.returns-then-is_empty
returns-then-is_empty c =
    all-placed (Leads c.args.pairs.now) c.args.txs.now c.placing.left.items c.placing.order.items c.placing.invariant
    (sym c.as_slice-rest.ensures.value
    ∙ empty-length c.as_slice-rest.result.now (eqb-true _ 0 (sym c.is_empty.ensures ∙ c.if-is_empty.true)))

pub cycle_in-requires-clause-led : goal.cycle_in-requires-clause-led
cycle_in-requires-clause-led c =
    subst (λ (w : List ℕ). (t : ℕ) → Contains w t → (a : ℕ) × Contains w a × Leads c.args.pairs.now a t)
    (c.as_slice.ensures.value ∙ sym c.as_slice-rest.ensures.value) c.in_default.ensures.none

pub returns : goal.returns
returns c =
    let R = Leads c.args.pairs.now in
    let inside = λ (t : ℕ) (has : Contains c.as_slice-rest.result.now t).
    c.placing.invariant.left_only t (subst (λ (w : List ℕ). Contains w t) c.as_slice-rest.ensures.value has) in
    ring-as (Among c.as_slice-rest.result.now R) (Among c.args.txs.now R) (λ a b h. (inside a h.0, inside b h.1, h.2))
    _ c.in_ok-cycle_in.ensures
