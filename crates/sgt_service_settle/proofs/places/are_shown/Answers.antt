use Rattle.std.proofs.Common.{◌≡◌, ◌∙◌, ap, sym, subst, arith, inl, inr, Vec, Global}
use Rattle.std.specs.Prelude.{slice_get, All}
use Rattle.std.proofs.lemmas.Bool.{cases_lt}
use Rattle.std.proofs.lemmas.Option.{same_Some, slice_get_within}
use Rattle.sgt_names.proofs.Places.{All_at}
use Rattle.sgt_service_settle.specs.declared.link.Link.{Link as ALink}
use Rattle.sgt_service_settle.specs.private.Places.{IsShown}
use Rattle.sgt_names.proofs.Lists.{element_at}
use Rattle.sgt_service_settle.proofs.places.are_shown.Goals as goal

pub loop-at-preserved : goal.loop-at-preserved
loop-at-preserved c k n link low there = elim (cases_lt k c.loop-at.at) [
  | inl early ↦ c.loop-at.invariant k n link early there
  | inr late ↦
      let rows = c.args.rows.now in
      let at = c.loop-at.at in
      let own : Vec ALink Global = c.index-rows-at.result in
      let same : at ≡ k = omega (arith, late, low) in
      let is : own ≡ there.0 =
      same_Some own there.0 (sym (element_at rows at own c.loop-at-test.true c.index-rows-at.is)
      ∙ (ap (slice_get rows) same ∙ there.1)) in
      let shown : All (IsShown c.args.log.now) own.items =
      subst (All (IsShown c.args.log.now)) c.as_slice-in-loop-at.ensures.value
      (c.is_row_shown.ensures c.if-not-is_row_shown.false) in
      All_at (IsShown c.args.log.now) own.items n link shown
      (ap (λ (row : Vec ALink Global). slice_get row.items n) is ∙ there.2)
]

pub returns : goal.returns
returns c = λ yes k n link there.
    let low = slice_get_within c.args.rows.now k there.0 there.1 in
    c.loop-at.invariant k n link (omega (arith, low, c.loop-at-test.false)) there
