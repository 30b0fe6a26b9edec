use Rattle.std.proofs.Common.{refl, sym, arith, ◌∙◌, ap, Some, get_or, length, take, drop, ◌+◌, ◌-◌, ◌<◌, subst, ◌≡◌}
use Rattle.std.specs.Prelude.{is_some}
use Rattle.std.proofs.lemmas.Option.{slice_get-get_or}
use Rattle.sgt_names.proofs.Lists.{element_at}
use Rattle.sgt_arena.specs.declared.handle.Handle.{Handle}
use Rattle.sgt_order.proofs.Lists.{rest_at, rest_long}
use Rattle.sgt_order.proofs.Nodes.{placed_within}
use Rattle.sgt_order.proofs.Spreading.{Spreading, spread_skip, spread_next, spread_all}
use Rattle.sgt_order.proofs.search.spread_over.Goals as goal
use Rattle.sgt_order.proofs.search.spread_over.Goals.{then-is_some, else-is_some}
use Rattle.sgt_names.proofs.Elements.{is_some-none, is_some-some}

pub note_members-requires-clause-within : goal.note_members-requires-clause-within
note_members-requires-clause-within c p h at =
    let dag = c.args.dag.now in
    let there = rest_at c.deref.result.now dag.order.items c.args.first p h c.deref.ensures.value at in
    omega (arith, placed_within _ _ _ _ _ c.requires.sound.holds there, c.requires.long)

pub bounds-marks-handle : goal.bounds-marks-handle
bounds-marks-handle c =
    let dag = c.args.dag.now in
    let s = c.deref-2.result.now in
    let i = c.loop-handle.handle-index in
    let part = take (length s - c.args.first) (drop c.args.first s) in
    let h : Handle = get_or part i (record { index = 0; generation = 0 }) in
    let at = rest_at s dag.order.items c.args.first i h c.deref-2.ensures.value
    (slice_get-get_or part i (record { index = 0; generation = 0 }) c.loop-handle-test.true) in
    omega (arith, placed_within _ _ _ _ _ c.requires.sound.holds at, c.requires.long, c.loop-handle.auto.marks)

pub spread_from-requires-clause-node : goal.spread_from-requires-clause-node
spread_from-requires-clause-node c =
    let dag = c.args.dag.now in
    let s = c.deref-2.result.now in
    let i = c.loop-handle.handle-index in
    let part = take (length s - c.args.first) (drop c.args.first s) in
    let h : Handle = get_or part i (record { index = 0; generation = 0 }) in
    let at = rest_at s dag.order.items c.args.first i h c.deref-2.ensures.value
    (slice_get-get_or part i (record { index = 0; generation = 0 }) c.loop-handle-test.true) in
    let node = c.requires.sound.holds.placed _ h at in
    rw node.1 refl

pub loop-handle-preserved : goal.loop-handle-preserved
loop-handle-preserved c =
    let dag = c.args.dag.now in
    let s = c.deref-2.result.now in
    let i = c.loop-handle.handle-index in
    let n = c.args.first + i in
    let part = take (length s - c.args.first) (drop c.args.first s) in
    let h : Handle = get_or part i (record { index = 0; generation = 0 }) in
    let at = rest_at s dag.order.items c.args.first i h c.deref-2.ensures.value
    (slice_get-get_or part i (record { index = 0; generation = 0 }) c.loop-handle-test.true) in
    let within : h.index < length c.loop-handle.marks =
    omega (arith, placed_within _ _ _ _ _ c.requires.sound.holds at, c.requires.long, c.loop-handle.auto.marks) in
    let mark = element_at c.loop-handle.marks h.index c.index-marks-handle.result within c.index-marks-handle.is in
    let on : n + 1 ≡ c.args.first + (i + 1) = omega arith in
    elim c.if-is_some.branch [
      | then-is_some w ↦
          let had = is_some-some c.index-marks-handle.result (ap is_some c.index-marks-handle.is
          ∙ (sym c.is_some.ensures ∙ w.if-is_some.true)) in
          rw (w.marks-is, w.met-is) (record {
            spreading =
                subst (λ m. Spreading dag.order.items dag.edges.items m c.args.marks.now w.spread_from.new.marks) on
                (spread_next dag.nodes.generation dag.order.items dag.edges.items n c.args.marks.now
                c.loop-handle.marks w.spread_from.new.marks h had.0 c.requires.sound.forward at (mark
                ∙ ap Some had.1) w.spread_from.ensures.marked c.loop-handle.invariant.spreading);
            met = w.spread_from.ensures.met;
          })
      | else-is_some w ↦
          let bare = is_some-none c.index-marks-handle.result (ap is_some c.index-marks-handle.is
          ∙ (sym c.is_some.ensures ∙ w.if-is_some.false)) in
          rw (w.marks-is, w.met-is) (record {
            spreading =
                subst (λ m. Spreading dag.order.items dag.edges.items m c.args.marks.now c.loop-handle.marks) on
                (spread_skip dag.order.items dag.edges.items n c.args.marks.now c.loop-handle.marks h at (mark
                ∙ ap Some bare) c.loop-handle.invariant.spreading);
            met = c.loop-handle.invariant.met;
          })
    ]

pub returns : goal.returns
returns c =
    let s = c.deref-2.result.now in
    spread_all _ _ _ (c.args.first + c.loop-handle.handle-index) _ _ c.requires.sound.forward
    (omega (arith, rest_long s c.args.first, ap length c.deref-2.ensures.value, c.requires.first))
    c.loop-handle.invariant.spreading
