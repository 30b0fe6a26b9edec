use Rattle.std.proofs.Common.{inl, inr, sym, ◌∙◌, subst, arith}
use Rattle.std.proofs.lemmas.Bool.{true≢false, lt-ltb}
use borrow.Author.Tests.{ltb-true}
use Rattle.sgt_certifier.specs.Certifier.{State}
use Rattle.sgt_certifier.specs.History.{IsKnown}
use Rattle.sgt_certifier.proofs.Judging.{parts_of, state_of}
use Rattle.sgt_certifier.proofs.Transfer.{member_known, known_member, member_here}
use Rattle.sgt_certifier.proofs.judge.Judge.is_known.Goals as goal

pub returns-then-is_admitted : goal.returns-then-is_admitted
returns-then-is_admitted c =
    let graph = c.self.inside.graph in
    let s = state_of (parts_of c.self.inside) in
    let here = member_here graph c.order-order.ensures.ordered in
    let known : IsKnown s c.args.node =
    inl (member_known c.self.inside.before graph.generation graph.order c.args.node here
    (c.is_admitted.ensures.0 c.if-is_admitted.true)) in (
      λ told. subst (λ (v : State). IsKnown v c.args.node) c.self.view_is known,
      λ k. c.if-is_admitted.true,
    )

pub returns-else-is_admitted : goal.returns-else-is_admitted
returns-else-is_admitted c =
    let graph = c.self.inside.graph in
    let s = state_of (parts_of c.self.inside) in
    let here = member_here graph c.order-order.ensures.ordered in (
      λ told.
          let older = ltb-true c.args.node.generation c.generation.result told in
          let mine : IsKnown s c.args.node = inr (omega (arith, older, c.generation.ensures)) in
          subst (λ (v : State). IsKnown v c.args.node) c.self.view_is mine,
      λ known.
          let mine : IsKnown s c.args.node = subst (λ (v : State). IsKnown v c.args.node) (sym c.self.view_is) known in
          elim mine [
            | inl now ↦ absurd
                (true≢false
                (sym (c.is_admitted.ensures.1
                (known_member c.self.inside.before graph.generation graph.order c.args.node here now.0 now.1))
                ∙ c.if-is_admitted.false))
            | inr older ↦ lt-ltb c.args.node.generation c.generation.result (omega (arith, older, c.generation.ensures))
          ],
    )
