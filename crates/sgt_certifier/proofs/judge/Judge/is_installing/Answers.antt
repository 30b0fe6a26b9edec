use Rattle.std.proofs.Common.{◌≡◌, ◌-◌, map, sym, ap, ◌∙◌, subst, arith, Some, Contains}
use Rattle.sgt_arena.specs.declared.handle.Handle.{Handle}
use Rattle.sgt_certifier.specs.Certifier.{State}
use Rattle.sgt_certifier.specs.History.{IsInstalling}
use Rattle.sgt_certifier.specs.Kept.{tx_at}
use Rattle.sgt_certifier.proofs.Judging.{parts_of, state_of, open_place}
use Rattle.sgt_certifier.proofs.Transfer.{member_known, known_member, member_here}
use Rattle.sgt_certifier.proofs.judge.Judge.is_installing.Goals as goal

pub overflow_sub-index : goal.overflow_sub-index
overflow_sub-index c =
    let p = parts_of c.self.inside in
    let open_tx : p.step ≡ Some c.args.tx = c.in-Some.is
    ∙ ap Some (sym c.number.ensures.is ∙ (c.if-number.false ∙ c.number-2.ensures.is)) in
    let place = open_place p c.args.tx c.self.invariant.good open_tx in
    omega (arith, place.1, c.number-3.ensures.is)

pub overflow_sub-index-2 : goal.overflow_sub-index-2
overflow_sub-index-2 c =
    let p = parts_of c.self.inside in
    let open_tx : p.step ≡ Some c.args.tx = c.in-Some.is
    ∙ ap Some (sym c.number.ensures.is ∙ (c.if-number.false ∙ c.number-2.ensures.is)) in
    let place = open_place p c.args.tx c.self.invariant.good open_tx in
    omega (arith, place.1, c.number-3.ensures.is)

pub returns : goal.returns
returns c =
    let p = parts_of c.self.inside in
    let open_tx : p.step ≡ Some c.args.tx = c.in-Some.is
    ∙ ap Some (sym c.number.ensures.is ∙ (c.if-number.false ∙ c.number-2.ensures.is)) in
    let place = open_place p c.args.tx c.self.invariant.good open_tx in
    let before = c.self.inside.before in
    let graph = c.self.inside.graph in
    let here = member_here graph c.order-order.ensures.ordered in
    let h : Handle = record { index = c.number-3.result - before - 1; generation = c.generation-generation.result } in
    let is_tx : tx_at before h ≡ c.args.tx = omega (arith, place.1, c.number-3.ensures.is) in (
      λ told.
          let member =
          subst (Contains (map (tx_at before) graph.order)) is_tx
          (member_known before graph.generation graph.order h here (c.is_admitted.ensures.0 told)).1 in
          let mine : IsInstalling (state_of p) c.args.tx = (open_tx, member) in
          subst (λ (v : State). IsInstalling v c.args.tx) c.self.view_is mine,
      λ is_open.
          let mine : IsInstalling (state_of p) c.args.tx =
          subst (λ (v : State). IsInstalling v c.args.tx) (sym c.self.view_is) is_open in
          c.is_admitted.ensures.1
          (known_member before graph.generation graph.order h here c.generation-generation.ensures
          (subst (Contains (map (tx_at before) graph.order)) (sym is_tx) mine.1)),
    )
