use Rattle.std.proofs.Common.{◌≡◌, ℕ, ◌<◌, length, slice_index, List, true, false, refl, sym, ◌∙◌, subst, arith, Contains, Some, drop, reverse, Vec, Global}
use Rattle.std.specs.Prelude.{slice_get}
use Rattle.std.proofs.lemmas.List.{get_or_read, length-set}
use Rattle.std.proofs.lemmas.Result.{IfOk-weaker}
use Rattle.sgt_graph.specs.Graph.{IsCycle}
use Rattle.sgt_graph.specs.Walks.{IsSource, IsTrail}
use Rattle.sgt_graph.proofs.Trails.{met-more, trail-push, turned-cycle, waiting-within}
use Rattle.sgt_graph.proofs.walking.cycle_back.Goals as goal

pub back-preserved : goal.back-preserved
back-preserved c =
    let waits = c.args.waits.now in
    let sources = c.args.sources.now in
    let here = c.back.here in
    let inv = c.back.invariant in
    let R : ℕ → ℕ → Type 0 = λ x y. IsSource waits sources y x in
    let within : here < length c.back.met.items = omega (arith, waiting-within waits here inv.1, inv.0) in
    let pushed = c.in_ok-push.ensures.items in (
      length-set c.back.met.items here true ∙ inv.0,
      c.requires.closed here inv.1,
      met-more c.back.met.items c.back.walk.items c.push.new.self.items here inv.2 pushed within,
      subst (λ (xs : List ℕ). IsTrail R xs (slice_index sources here)) (sym pushed)
          (trail-push R c.back.walk.items here (slice_index sources here) inv.3 (inv.1, refl)),
    )

pub turned-requires : goal.turned-requires
turned-requires c =
    let here = c.back.here in
    let inv = c.back.invariant in
    let within : here < length c.back.met.items = omega (arith, waiting-within c.args.waits.now here inv.1, inv.0) in
    let read = get_or_read c.back.met.items here c.index.result.now within c.index.ensures false in
    record {
      met = subst (λ (xs : List ℕ). Contains xs here) (sym c.as_slice.ensures.value)
          (inv.2 here (sym read ∙ c.back-test.false));
    }

pub returns : goal.returns
returns c =
    let walk = c.as_slice.result.now in
    let here = c.back.here in
    let waits = c.args.waits.now in
    let sources = c.args.sources.now in
    let trail = subst (λ (xs : List ℕ). IsTrail (λ x y. IsSource waits sources y x) xs here)
    (sym c.as_slice.ensures.value) c.back.invariant.3 in
    IfOk-weaker c.turned.result (λ (part : Vec ℕ Global). (at : ℕ) × (slice_get walk at ≡ Some here)
    × (part.items ≡ reverse (drop at walk)))
    (λ (cycle : Vec ℕ Global). IsCycle (IsSource waits sources) cycle.items)
    (λ part (at, there, is). subst (IsCycle (IsSource waits sources)) (sym is)
    (turned-cycle (IsSource waits sources) walk at here trail there))
    c.turned.ensures
