use Rattle.std.proofs.Common.{◌≡◌, ◌++◌, length, map, refl, sym, ap, ◌∙◌, subst, arith, add-one}
use Rattle.sgt_certifier.specs.declared.call.Call.TheVariants as call
use Rattle.sgt_certifier.specs.Certifier.{State, serial}
use Rattle.sgt_certifier.specs.History.{close, IsAllowed, Serves}
use Rattle.sgt_certifier.specs.Kept.{tx_at}
use Rattle.sgt_certifier.proofs.Judging.{parts_of, Parts, state_of, may_close, closed_serves, closed_kept}
use Rattle.sgt_certifier.proofs.judge.Judge.close.Goals as goal

-- the parts once the window is closed
abbrev closed_parts : goal.After-len → Parts
closed_parts c = record (parts_of c.self.inside) {
  before = c.self.inside.begun;
  generation = c.close.new.self.generation;
  flags =
      c.clear.new.self.items;
  past = c.push_all.new.past.items;
  order = c.close.new.self.order;
  edges =
      c.close.new.self.edges;
}

serves : (c : goal.After-len)
    → Serves (state_of (parts_of c.self.inside)) (call.Close c.len.result) (state_of (closed_parts c))
serves c =
    let p = parts_of c.self.inside in
    let q = closed_parts c in
    let allowed : IsAllowed (state_of p) close =
    subst (λ (v : State). IsAllowed v close) (sym c.self.view_is) c.in_ok-may_close.ensures.ok in
    let past : q.past ≡ p.past ++ map (tx_at p.before) p.order = c.push_all.ensures
    ∙ (ap (λ z. z ++ map (tx_at c.self.inside.before) c.order-2.result.now) c.in_ok-reserve.ensures.items
    ∙ ap (λ o. c.self.inside.past.items ++ map (tx_at c.self.inside.before) o) c.order-2.ensures.is) in
    let count : c.len.result ≡ length (serial (state_of p)) =
    omega (arith, c.len.ensures, c.push_all.new.past.ok, ap length past) in
    closed_serves p q c.len.result allowed count refl refl (c.in-Ok.ensures.window
    ∙ add-one c.self.inside.graph.generation) c.clear.ensures.items past c.in-Ok.ensures.empty.1
    c.in-Ok.ensures.empty.2 refl refl refl

pub invariant_of-self-2 : goal.invariant_of-self-2
invariant_of-self-2 c =
    closed_kept (parts_of c.self.inside) (closed_parts c) c.len.result _ _ _ _ _ c.self.invariant (serves c) refl refl
    c.clear.ensures.items refl (ap length c.in-Ok.ensures.empty.0)

pub returns-clause-ok : goal.returns-clause-ok
returns-clause-ok c =
    subst (λ (v : State). Serves v (call.Close c.len.result) (state_of (closed_parts c))) c.self.view_is (serves c)

pub unreachable-requires : goal.unreachable-requires
unreachable-requires c =
    let allowed : IsAllowed (state_of (parts_of c.self.inside)) close =
    subst (λ (v : State). IsAllowed v close) (sym c.self.view_is) c.in_ok-may_close.ensures.ok in
    let last = c.in_default.ensures.last.0 refl in
    omega (arith, (may_close (state_of (parts_of c.self.inside)) allowed).2, last)
