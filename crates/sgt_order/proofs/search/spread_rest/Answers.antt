use Rattle.std.proofs.Common.{◌≡◌, ◌<◌, sym, ◌∙◌, Some, length, subst, inl, inr}
use Rattle.std.specs.Prelude.{slice_get}
use Rattle.sgt_order.specs.private.Search.{AreTargets, IsListed, IsMarked, Marked}
use Rattle.sgt_order.proofs.Covering.{from_listed, numbers_within}
use Rattle.sgt_order.proofs.Nodes.{targets_in}
use Rattle.sgt_order.proofs.Numbers.{are_numbers}
use Rattle.sgt_order.proofs.search.spread_rest.Goals as goal

pub mark_listed-requires : goal.mark_listed-requires
mark_listed-requires c =
    let dag = c.args.dag.now in
    let long = length c.args.marks.now in
    let targets = targets_in dag.nodes dag.order.items dag.edges.items dag.nodes.generation long _ c.in-Some.node.now
    c.requires.sound.holds c.requires.sound.forward c.requires.long (sym c.in-Some.ensures) in
    subst (λ es. AreTargets es long c.as_slice-in-Some.result.now) (sym c.as_slice-in-Some-2.ensures.value)
    (subst (λ ls. AreTargets dag.edges.items long ls) (sym c.as_slice-in-Some.ensures) targets)

pub note_listed-requires : goal.note_listed-requires
note_listed-requires c j n at =
    let dag = c.args.dag.now in
    let there = subst (λ ls. slice_get ls j ≡ Some n) c.as_slice-in-Some-3.ensures at in
    subst (λ es. n < length es) (sym c.as_slice-in-Some-4.ensures.value)
    (numbers_within dag.nodes dag.edges.items c.args.handle c.in-Some.node.now c.requires.sound.holds.lists
    (sym c.in-Some.ensures) j n there)

pub returns-clause-marked : goal.returns-clause-marked
returns-clause-marked c =
    let dag = c.args.dag.now in
    let node = c.in-Some.node.now in
    let old = c.args.marks.now in
    let new = c.mark_listed.new.marks in
    let lists =
    are_numbers dag.edges.items c.args.handle node.out.items
    (c.requires.sound.holds.lists c.args.handle node (sym c.in-Some.ensures)).is in
    let marked =
    subst (λ es. Marked (IsListed es c.as_slice-in-Some.result.now) old new) c.as_slice-in-Some-2.ensures.value
    c.mark_listed.ensures in
    from_listed dag.edges.items c.args.handle node.out.items old new lists
    (subst (λ ls. Marked (IsListed dag.edges.items ls) old new) c.as_slice-in-Some.ensures marked)

pub returns-clause-met : goal.returns-clause-met
returns-clause-met c i has =
    elim (c.note_listed.ensures i has) [
      | inl old ↦ let m = c.requires.met i old in (m.0, c.mark_listed.ensures.kept i m.0 m.1)
      | inr new ↦
          let edges = c.as_slice-in-Some-4.ensures.value ∙ sym c.as_slice-in-Some-2.ensures.value in
          let numbers = c.as_slice-in-Some-3.ensures ∙ sym c.as_slice-in-Some.ensures in
          let listed = subst (λ es. IsListed es c.as_slice-in-Some-3.result.now new.0) edges new.1 in
          subst (IsMarked c.mark_listed.new.marks) new.2
          (c.mark_listed.ensures.done new.0
          (subst (λ ls. IsListed c.as_slice-in-Some-2.result.now ls new.0) numbers listed))
    ]
