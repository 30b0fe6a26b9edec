use Rattle.std.proofs.Common.{◌≡◌, ◌≤◌, ◌++◌, ◌∷◌, List, [], length, map, refl, sym, ap, ◌∙◌, subst, arith, Some, true}
use Rattle.std.specs.Prelude.{slice_get, vec_capacity}
use Rattle.std.proofs.lemmas.List.{length-map, map-append}
use Rattle.std.proofs.lemmas.Option.{slice_get_within}
use Rattle.sgt_names.specs.Limits.{max_sites}
use Rattle.sgt_edges.specs.declared.edge.Edge.{Edge}
use Rattle.sgt_order.specs.SerializationGraph.{IsCycleThrough, AdmitRefuses}
use Rattle.sgt_certifier.specs.declared.call.Call.TheVariants as call
use Rattle.sgt_certifier.specs.declared.call.Decided.TheVariants as decided
use Rattle.sgt_certifier.specs.declared.ranking.Ruled.TheVariants.{Committed, Refused}
use Rattle.sgt_certifier.specs.Certifier.{State, committed, refused}
use Rattle.sgt_certifier.specs.Kept.{step_at, tx_at}
use Rattle.sgt_certifier.specs.Judged.{ruling_from}
use Rattle.sgt_certifier.specs.History.{Serves, tx_under}
use Rattle.sgt_certifier.proofs.Flags.{flag_at}
use Rattle.sgt_certifier.proofs.Numbered.{decided-few}
use Rattle.sgt_certifier.proofs.Judging.{parts_of, Parts, state_of, no_notes}
use Rattle.sgt_certifier.proofs.Deciding.{ready_of, offered, active_small, fresh_of, offered_of, walk_small, commits_serves, refuses_serves, committed_kept, refused_kept}
use Rattle.sgt_certifier.proofs.judge.Judge.decide_with.Goals as goal
use Rattle.sgt_certifier.proofs.judge.Judge.decide_with.Goals.{After-drop-cycle-inside-2}

pub tx_of-tx-requires : goal.tx_of-tx-requires
tx_of-tx-requires c =
    let p = parts_of c.self.inside in
    let ready = ready_of c.self.inside _ c.args.handle c.args.edges.now c.self.view_is c.self.invariant.good
    c.requires.may c.order-order.ensures.ordered in
    let small = active_small p c.args.handle c.self.invariant.good ready.may.active in
    omega (arith, small)

pub overflow_cast-number : goal.overflow_cast-number
overflow_cast-number c =
    let p = parts_of c.self.inside in
    let ready = ready_of c.self.inside _ c.args.handle c.args.edges.now c.self.view_is c.self.invariant.good
    c.requires.may c.order-order.ensures.ordered in
    let good = c.self.invariant.good in
    let few = decided-few (state_of p) (tx_under (state_of p) c.args.handle) good.sound good.ruled ready.may.idle
    ready.may.active.1 in
    omega (
      arith,
      few,
      c.len-number.ensures,
      ap length c.in_ok-reserve.ensures.items,
      length-map c.self.inside.rulings.items ruling_from,
    )

pub admit-requires : goal.admit-requires
admit-requires c =
    let p = parts_of c.self.inside in
    let ready = ready_of c.self.inside _ c.args.handle c.args.edges.now c.self.view_is c.self.invariant.good
    c.requires.may c.order-order.ensures.ordered in
    let here =
    slice_get_within p.flags c.args.handle.index true
    (flag_at p.before p.flags c.args.handle.index ready.may.active.1) in
    record {
      node = (ready.may.active.0, omega (arith, here, c.self.invariant.nodes));
      fresh = fresh_of p c.args.handle c.args.edges.now ready;
      edges = offered_of c.self.inside.graph p c.args.handle c.args.edges.now ready refl refl;
    }

-- ---- the transaction is committed

-- the parts then
abbrev committed_parts : goal.After-push_reserved → Parts
committed_parts c = record (parts_of c.self.inside) {
  generation = c.admit.new.self.generation;
  order = c.admit.new.self.order;
  edges =
      c.admit.new.self.edges;
  step = Some c.tx_of-tx.result;
  rulings =
      map ruling_from c.push_reserved.new.self.items;
  noted = c.reserve-2.new.self.items;
}

committed-noted : (c : goal.After-push_reserved) → c.reserve-2.new.self.items ≡ []
committed-noted c =
    let ready = ready_of c.self.inside _ c.args.handle c.args.edges.now c.self.view_is c.self.invariant.good
    c.requires.may c.order-order.ensures.ordered in
    c.in_ok-reserve-2.ensures.items ∙ c.self.invariant.closed ready.may.idle

committed-serves : (c : goal.After-push_reserved) → Serves (state_of (parts_of c.self.inside))
    (call.Decide c.args.handle c.args.edges.now (decided.Committed c.len-number.result)) (state_of (committed_parts c))
committed-serves c =
    let p = parts_of c.self.inside in
    let q = committed_parts c in
    let ready = ready_of c.self.inside _ c.args.handle c.args.edges.now c.self.view_is c.self.invariant.good
    c.requires.may c.order-order.ensures.ordered in
    let was = c.self.invariant.closed ready.may.idle in
    let count : c.len-number.result ≡ length p.rulings =
    omega (
      arith,
      c.len-number.ensures,
      c.reserve.new.self.ok,
      ap length c.in_ok-reserve.ensures.items,
      length-map c.self.inside.rulings.items ruling_from,
    ) in
    let rulings : q.rulings ≡ p.rulings ++ committed (tx_at p.before c.args.handle) ∷ [] =
    ap (map ruling_from) (c.push_reserved.ensures.items
    ∙ ap (λ z. z ++ Committed c.tx_of-tx.result ∷ []) c.in_ok-reserve.ensures.items)
    ∙ (map-append ruling_from c.self.inside.rulings.items (Committed c.tx_of-tx.result ∷ [])
    ∙ ap (λ t. p.rulings ++ committed t ∷ []) c.tx_of-tx.ensures) in
    commits_serves p q c.args.handle c.args.edges.now c.len-number.result ready count c.in-Ok.ensures.acyclic
    c.in-Ok.ensures.order refl refl c.in-Ok.ensures.window refl refl c.in-Ok.ensures.edges
    (ap Some c.tx_of-tx.ensures) rulings was (committed-noted c)

pub invariant_of-self-in-Ok : goal.invariant_of-self-in-Ok
invariant_of-self-in-Ok c =
    let sites_spare : max_sites ≤ vec_capacity c.reserve-2.new.self = omega (arith, c.in_ok-reserve-2.ensures.ok) in
    committed_kept (parts_of c.self.inside) (committed_parts c) c.args.handle c.args.edges.now c.len-number.result
    _ _ _ _ _ c.self.invariant (committed-serves c) refl (committed-noted c) (ap length c.in-Ok.ensures.nodes)
    sites_spare

pub returns-in-Ok-clause-ok : goal.returns-in-Ok-clause-ok
returns-in-Ok-clause-ok c = (
  record {
    reply = decided.Committed c.len-number.result;
    serves = subst (λ (v : State). Serves v
        (call.Decide c.args.handle c.args.edges.now (decided.Committed c.len-number.result))
        (state_of (committed_parts c))) c.self.view_is (committed-serves c);
    is = refl;
  },
  λ wanted. refl,
  λ wanted. refl,
)

pub returns-in-Ok-clause-unnoted : goal.returns-in-Ok-clause-unnoted
returns-in-Ok-clause-unnoted c = no_notes (Some c.tx_of-tx.result) c.reserve-2.new.self.items (committed-noted c)

-- ---- it is refused

pub walk_of-requires : goal.walk_of-requires
walk_of-requires c n e at =
    let p = parts_of c.self.inside in
    let ready = ready_of c.self.inside _ c.args.handle c.args.edges.now c.self.view_is c.self.invariant.good
    c.requires.may c.order-order.ensures.ordered in
    let cycle : IsCycleThrough (offered p c.args.edges.now) p.order c.args.handle c.in-Err-Cycle.cycle =
    subst (AdmitRefuses c.self.inside.graph c.args.handle c.args.edges.now) c.in-Err-Cycle.field-0-is
    c.in-Err-Cycle.ensures.fault in
    let small = walk_small p c.args.handle c.args.edges.now c.in-Err-Cycle.cycle ready cycle n e
    (subst (λ xs. slice_get xs n ≡ Some e) (c.as_slice.ensures ∙ c.in-Err-Cycle.cycle-is) at) in
    omega (arith, small)

pub refusal_if-requires : goal.refusal_if-requires
refusal_if-requires c n e at =
    let p = parts_of c.self.inside in
    let ready = ready_of c.self.inside _ c.args.handle c.args.edges.now c.self.view_is c.self.invariant.good
    c.requires.may c.order-order.ensures.ordered in
    let cycle : IsCycleThrough (offered p c.args.edges.now) p.order c.args.handle c.in-Err-Cycle.cycle =
    subst (AdmitRefuses c.self.inside.graph c.args.handle c.args.edges.now) c.in-Err-Cycle.field-0-is
    c.in-Err-Cycle.ensures.fault in
    let small = walk_small p c.args.handle c.args.edges.now c.in-Err-Cycle.cycle ready cycle n e
    (subst (λ xs. slice_get xs n ≡ Some e) (c.as_slice-2.ensures ∙ c.in-Err-Cycle.cycle-is) at) in
    omega (arith, small)

pub refusal_if-requires-2 : goal.refusal_if-requires-2
refusal_if-requires-2 c n e at =
    let p = parts_of c.self.inside in
    let ready = ready_of c.self.inside _ c.args.handle c.args.edges.now c.self.view_is c.self.invariant.good
    c.requires.may c.order-order.ensures.ordered in
    let cycle : IsCycleThrough (offered p c.args.edges.now) p.order c.args.handle c.in-Err-Cycle.cycle =
    subst (AdmitRefuses c.self.inside.graph c.args.handle c.args.edges.now) c.in-Err-Cycle.field-0-is
    c.in-Err-Cycle.ensures.fault in
    let small = walk_small p c.args.handle c.args.edges.now c.in-Err-Cycle.cycle ready cycle n e
    (subst (λ xs. slice_get xs n ≡ Some e) (c.as_slice-3.ensures ∙ c.in-Err-Cycle.cycle-is) at) in
    omega (arith, small)

-- the parts then
abbrev refused_parts : After-drop-cycle-inside-2 → Parts
refused_parts c = record (parts_of c.self.inside) {
  generation = c.admit.new.self.generation;
  order = c.admit.new.self.order;
  edges =
      c.admit.new.self.edges;
  step = Some c.tx_of-tx.result;
  rulings =
      map ruling_from c.push_reserved-2.new.self.items;
  noted = c.reserve-2.new.self.items;
}

refused-noted : (c : After-drop-cycle-inside-2) → c.reserve-2.new.self.items ≡ []
refused-noted c =
    let ready = ready_of c.self.inside _ c.args.handle c.args.edges.now c.self.view_is c.self.invariant.good
    c.requires.may c.order-order.ensures.ordered in
    c.in_ok-reserve-2.ensures.items ∙ c.self.invariant.closed ready.may.idle

refused-serves : (c : After-drop-cycle-inside-2) → Serves (state_of (parts_of c.self.inside))
    (call.Decide c.args.handle c.args.edges.now (decided.Refused c.len-number.result c.in_ok-walk.walk))
    (state_of (refused_parts c))
refused-serves c =
    let p = parts_of c.self.inside in
    let q = refused_parts c in
    let ready = ready_of c.self.inside _ c.args.handle c.args.edges.now c.self.view_is c.self.invariant.good
    c.requires.may c.order-order.ensures.ordered in
    let was = c.self.invariant.closed ready.may.idle in
    let count : c.len-number.result ≡ length p.rulings =
    omega (
      arith,
      c.len-number.ensures,
      c.reserve.new.self.ok,
      ap length c.in_ok-reserve.ensures.items,
      length-map c.self.inside.rulings.items ruling_from,
    ) in
    let cycle : IsCycleThrough (offered p c.args.edges.now) p.order c.args.handle c.in-Err-Cycle.cycle =
    subst (AdmitRefuses c.self.inside.graph c.args.handle c.args.edges.now) c.in-Err-Cycle.field-0-is
    c.in-Err-Cycle.ensures.fault in
    let walk_is = c.in_ok-walk.ensures ∙ ap (map (step_at c.self.inside.before)) (c.as_slice.ensures
    ∙ c.in-Err-Cycle.cycle-is) in
    let rulings : q.rulings ≡ p.rulings ++ refused (tx_at p.before c.args.handle) c.in_ok-walk.walk ∷ [] =
    ap (map ruling_from) (c.push_reserved-2.ensures.items
    ∙ ap (λ z. z ++ Refused c.tx_of-tx.result c.in_ok-walk.walk ∷ []) c.in_ok-reserve.ensures.items)
    ∙ (map-append ruling_from c.self.inside.rulings.items (Refused c.tx_of-tx.result c.in_ok-walk.walk ∷ [])
    ∙ ap (λ t. p.rulings ++ refused t c.in_ok-walk.walk ∷ []) c.tx_of-tx.ensures) in
    let same = c.in-Err-Cycle.ensures.err in
    refuses_serves p q c.args.handle c.args.edges.now c.in-Err-Cycle.cycle c.in_ok-walk.walk c.len-number.result
    ready count cycle walk_is refl refl same.generation refl refl same.order same.edges
    (ap Some c.tx_of-tx.ensures) rulings was (refused-noted c)

pub invariant_of-self-2 : goal.invariant_of-self-2
invariant_of-self-2 c =
    let sites_spare : max_sites ≤ vec_capacity c.reserve-2.new.self = omega (arith, c.in_ok-reserve-2.ensures.ok) in
    refused_kept (parts_of c.self.inside) (refused_parts c) c.args.handle c.args.edges.now c.in_ok-walk.walk
    c.len-number.result _ _ _ _ _ c.self.invariant (refused-serves c) refl (refused-noted c)
    (ap length c.in-Err-Cycle.ensures.err.transactions) sites_spare

-- the reply that is made of the slice of the cycle is that of the walk
same-reply : (c : After-drop-cycle-inside-2) (xs : List Edge) → xs ≡ c.as_slice.result.now
    → Some (decided.Refused c.len-number.result (map (step_at c.self.inside.before) xs))
    ≡ Some (decided.Refused c.len-number.result c.in_ok-walk.walk)
same-reply c xs same = ap (λ w. Some (decided.Refused c.len-number.result w))
    (ap (map (step_at c.self.inside.before)) same ∙ sym c.in_ok-walk.ensures)

pub returns-clause-ok : goal.returns-clause-ok
returns-clause-ok c = (
  record {
    reply = decided.Refused c.len-number.result c.in_ok-walk.walk;
    serves = subst (λ (v : State). Serves v
        (call.Decide c.args.handle c.args.edges.now (decided.Refused c.len-number.result c.in_ok-walk.walk))
        (state_of (refused_parts c))) c.self.view_is (refused-serves c);
    is = refl;
  },
  λ wanted. c.in_ok-reply.ensures wanted ∙ same-reply c _ (c.as_slice-2.ensures ∙ sym c.as_slice.ensures),
  λ wanted. c.in_ok-again.ensures wanted ∙ same-reply c _ (c.as_slice-3.ensures ∙ sym c.as_slice.ensures),
)

pub returns-clause-unnoted : goal.returns-clause-unnoted
returns-clause-unnoted c = no_notes (Some c.tx_of-tx.result) c.reserve-2.new.self.items (refused-noted c)
