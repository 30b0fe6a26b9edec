use Rattle.std.proofs.Common.{sym, ◌∙◌, ap, Some, get_or, inl, inr, subst}
use Rattle.std.proofs.lemmas.Option.{slice_get-get_or}
use Rattle.sgt_names.proofs.Lists.{element_at}
use Rattle.sgt_arena.specs.declared.handle.Handle.{Handle}
use Rattle.sgt_order.specs.private.Search.{IsMarked}
use Rattle.sgt_order.proofs.search.note_members.Goals as goal
use Rattle.sgt_order.proofs.search.note_members.Goals.{then-is_some, else-is_some}
use Rattle.sgt_names.proofs.Elements.{is_some-some}

pub loop-handle-preserved : goal.loop-handle-preserved
loop-handle-preserved c =
    let h : Handle = get_or c.args.members.now c.loop-handle.handle-index (record { index = 0; generation = 0 }) in
    let at = slice_get-get_or c.args.members.now c.loop-handle.handle-index (record { index = 0; generation = 0 })
    c.loop-handle-test.true in
    let within = c.requires.within c.loop-handle.handle-index h at in
    elim c.if-is_some.branch [
      | then-is_some w ↦
          let had = is_some-some c.index-marks-handle.result (sym c.is_some.ensures ∙ w.if-is_some.true) in
          let there = element_at c.args.marks.now h.index c.index-marks-handle.result within c.index-marks-handle.is in
          rw w.met-is (λ i has.
          elim (w.set.ensures.none i has) [
            | inl old ↦ c.loop-handle.invariant i old
            | inr same ↦ subst (IsMarked c.args.marks.now) (sym same) (had.0, there ∙ ap Some had.1)
          ])
      | else-is_some w ↦ rw w.met-is c.loop-handle.invariant
    ]
