use Rattle.std.proofs.Common.{◌≡◌, ◌+◌, ◌++◌, ◌∷◌, [], length, suc, refl, sym, ap, ◌∙◌, subst, arith, add-one, None, true}
use Rattle.std.proofs.lemmas.List.{length_push}
use Rattle.sgt_certifier.specs.Certifier.{State}
use Rattle.sgt_certifier.specs.History.{begin, IsAllowed, Serves}
use Rattle.sgt_certifier.specs.declared.call.Call.TheVariants as call
use Rattle.sgt_certifier.specs.declared.call.CertifierFault.TheVariants as fault
use Rattle.sgt_certifier.proofs.Flags.{flagged_long}
use Rattle.sgt_certifier.proofs.Replaying.{no_step}
use Rattle.sgt_certifier.proofs.Judging.{parts_of, Parts, state_of, begun_serves, begun_kept}
use Rattle.sgt_certifier.proofs.judge.Judge.begin.Goals as goal
use Rattle.sgt_certifier.proofs.judge.Judge.begin.Goals.{After-self-2-1}

pub overflow_add-self : goal.overflow_add-self
overflow_add-self c = let long = flagged_long c.self.inside.before c.self.inside.flags.items in
    omega (arith, long, c.self.invariant.running, c.in-Ok.ensures.fits, c.self.invariant.nodes)

-- the parts once the transaction is begun
abbrev begun_parts : After-self-2-1 → Parts
begun_parts c = record (parts_of c.self.inside) {
  begun = c.self.inside.begun + 1;
  generation = c.node.new.self.generation;
  flags =
      c.push_reserved.new.self.items;
  order = c.node.new.self.order;
  edges = c.node.new.self.edges;
}

may : (c : After-self-2-1) → IsAllowed (state_of (parts_of c.self.inside)) begin
may c = subst (λ (v : State). IsAllowed v begin) (sym c.self.view_is) c.in_ok-tx.ensures.ok

flags_are : (c : After-self-2-1) → c.push_reserved.new.self.items ≡ c.self.inside.flags.items ++ true ∷ []
flags_are c = c.push_reserved.ensures.items ∙ ap (λ z. z ++ true ∷ []) c.in_ok-reserve.ensures.items

serves : (c : After-self-2-1) → Serves (state_of (parts_of c.self.inside))
    (call.Begin c.in_ok-tx.tx c.in-Ok.handle) (state_of (begun_parts c))
serves c =
    let handle = c.in-Ok.ensures.handle in
    let tx_is = c.in_ok-tx.ensures.next ∙ ap (λ (v : State). suc v.begun) (sym c.self.view_is) in
    begun_serves (parts_of c.self.inside) (begun_parts c) c.in_ok-tx.tx c.in-Ok.handle (may c) c.self.invariant.window
    tx_is (handle.0 ∙ c.self.invariant.nodes) handle.1 (add-one c.self.inside.begun) refl c.node.ensures.window
    (flags_are c) refl c.node.ensures.order c.node.ensures.edges refl refl refl

pub invariant_of-self-2 : goal.invariant_of-self-2
invariant_of-self-2 c =
    let p = parts_of c.self.inside in
    let idle : p.step ≡ None = no_step (state_of p) (λ t. may c (fault.StepOpen t)) in
    begun_kept p (begun_parts c) c.in_ok-tx.tx c.in-Ok.handle _ _ _ _ _ _ c.self.invariant (serves c) idle (flags_are c)
    refl (ap length c.in-Ok.ensures.transactions ∙ length_push c.self.inside.graph.transactions c.in_ok-tx.tx) refl

pub returns-clause-ok : goal.returns-clause-ok
returns-clause-ok c =
    subst (λ (v : State). Serves v (call.Begin c.in_ok-tx.tx c.in-Ok.handle) (state_of (begun_parts c))) c.self.view_is
    (serves c)
