use Rattle.std.proofs.Common.{◌∙◌, List, sym, ap, subst, arith, add-one, set, ap₂, length}
use Rattle.std.specs.Prelude.{All, slice_get}
use Rattle.sgt_names.specs.DraftParts.{PartView, IsPart, PartsRise, touched_in, all_fit}
use Rattle.sgt_names.proofs.Lists.{element_at}
use Rattle.sgt_names.proofs.Parts.{roomed, roomed-at, roomed-set, roomed-length, roomed-touched, roomed-parts, roomed-fit, roomed-unfit, unfit_at, same_set, OnErr_all}
use Rattle.sgt_names.proofs.draft_parts.make_rooms.Goals as goal

pub returns-in_err-room-clause-same : goal.returns-in_err-room-clause-same
returns-in_err-room-clause-same c =
    let old = c.args.parts.now.items in
    let n = c.loop-at.at in
    let at = element_at c.loop-at.parts.items n c.index_mut.result.now (let long = ap length c.loop-at.invariant.0
    ∙ roomed-length old n in omega (arith, c.loop-at-test.true, long)) c.index_mut.ensures.value in
    ap touched_in (same_set c.loop-at.parts.items n c.index_mut.result.now c.room.new.self at
    c.in_err-room.ensures.err.0 ∙ c.loop-at.invariant.0) ∙ roomed-touched old n

pub returns-in_err-room-clause-parts : goal.returns-in_err-room-clause-parts
returns-in_err-room-clause-parts c = λ right.
    let old = c.args.parts.now.items in
    let n = c.loop-at.at in
    let at = element_at c.loop-at.parts.items n c.index_mut.result.now (let long = ap length c.loop-at.invariant.0
    ∙ roomed-length old n in omega (arith, c.loop-at-test.true, long)) c.index_mut.ensures.value in
    subst (λ (ps : List PartView). PartsRise ps × All IsPart ps)
    (sym (same_set c.loop-at.parts.items n c.index_mut.result.now c.room.new.self at c.in_err-room.ensures.err.0
    ∙ c.loop-at.invariant.0)) (roomed-parts old n right)

pub returns-in_err-room-clause-err : goal.returns-in_err-room-clause-err
returns-in_err-room-clause-err c =
    let old = c.args.parts.now.items in
    let n = c.loop-at.at in
    let q = c.index_mut.result.now in
    let at = element_at c.loop-at.parts.items n q (let long = ap length c.loop-at.invariant.0 ∙ roomed-length old n in
    omega (arith, c.loop-at-test.true, long)) c.index_mut.ensures.value in
    let there = sym (roomed-at old n) ∙ ap (λ (ps : List PartView). slice_get ps n) (sym c.loop-at.invariant.0) ∙ at in
    let none = unfit_at old n q there c.in_err-room.ensures.err.1 in
    OnErr_all c.from_residual.result (
      none,
      ap all_fit (same_set c.loop-at.parts.items n q c.room.new.self at c.in_err-room.ensures.err.0
          ∙ c.loop-at.invariant.0) ∙ roomed-unfit old n q there c.in_err-room.ensures.err.1 ∙ none,
    )

pub loop-at-preserved : goal.loop-at-preserved
loop-at-preserved c =
    let old = c.args.parts.now.items in
    let n = c.loop-at.at in
    let q = c.index_mut.result.now in
    let at = element_at c.loop-at.parts.items n q (let long = ap length c.loop-at.invariant.0 ∙ roomed-length old n in
    omega (arith, c.loop-at-test.true, long)) c.index_mut.ensures.value in
    let there = sym (roomed-at old n) ∙ ap (λ (ps : List PartView). slice_get ps n) (sym c.loop-at.invariant.0)
    ∙ at in (
      ap₂ (λ (ps : List PartView) (r : PartView). set ps n r) c.loop-at.invariant.0 c.in_ok-room.ensures.ok
          ∙ roomed-set old n q there ∙ ap (λ k. roomed k old) (sym (add-one n)),
      c.loop-at.invariant.1,
    )

pub returns-clause-same : goal.returns-clause-same
returns-clause-same c = ap touched_in c.loop-at.invariant.0 ∙ roomed-touched c.args.parts.now.items c.loop-at.at

pub returns-clause-parts : goal.returns-clause-parts
returns-clause-parts c =
    λ right. subst (λ (ps : List PartView). PartsRise ps × All IsPart ps) (sym c.loop-at.invariant.0)
    (roomed-parts c.args.parts.now.items c.loop-at.at right)

pub returns-clause-ok : goal.returns-clause-ok
returns-clause-ok c =
    ap all_fit c.loop-at.invariant.0
    ∙ roomed-fit c.args.parts.now.items c.loop-at.at (let end = c.loop-at-test.false in let same =
    c.len-at-end.ensures in omega (arith, end, same))
