use Rattle.std.proofs.Common.{◌≡◌, ◌∙◌, ap, subst, sym, refl, arith, Some}
use Rattle.std.specs.Prelude.{All, slice_get}
use Rattle.std.proofs.lemmas.Bool.{true≢false}
use Rattle.std.proofs.lemmas.List.{take_all}
use Rattle.std.proofs.lemmas.Option.{slice_get-get_or}
use Rattle.sgt_names.proofs.Lists.{All-next}
use Rattle.sgt_names.proofs.Places.{All_at}
use Rattle.sgt_notation.specs.declared.script.Op.{Op as AnOp}
use Rattle.sgt_service.specs.Input.{IsPlaced}
use Rattle.sgt_service.proofs.taking.are_placed.Goals as goal

pub returns-in_default : goal.returns-in_default
returns-in_default c = (
  λ told. absurd (true≢false (sym told)),
  λ all.
      let ops = c.as_slice-op-items.result.now in
      let n = c.loop-op.op-index in
      let op : AnOp = c.op-item.result in
      let here : slice_get ops n ≡ Some op = slice_get-get_or ops n op c.loop-op-test.true
      ∙ ap Some (sym c.op-item.is) in
      let each : All (IsPlaced c.args.sites.now) ops =
      subst (All (IsPlaced c.args.sites.now)) (sym c.as_slice-op-items.ensures) all in
      let none = rw c.in_default.is at c.place_of.ensures.none in
      absurd (none (All_at (IsPlaced c.args.sites.now) ops n op each here)),
)

pub loop-op-preserved : goal.loop-op-preserved
loop-op-preserved c =
    let ops = c.as_slice-op-items.result.now in
    let n = c.loop-op.op-index in
    let op : AnOp = c.op-item.result in
    let here : slice_get ops n ≡ Some op = slice_get-get_or ops n op c.loop-op-test.true ∙ ap Some (sym c.op-item.is) in
    All-next (IsPlaced c.args.sites.now) ops n op here (rw c.in-Some.is at c.place_of.ensures.some) c.loop-op.invariant

pub returns : goal.returns
returns c = (
  λ told. subst (All (IsPlaced c.args.sites.now)) (take_all c.loop-op.op-index c.as_slice-op-items.result.now
      (omega (arith, c.loop-op-test.false)) ∙ c.as_slice-op-items.ensures) c.loop-op.invariant,
  λ all. refl,
)
