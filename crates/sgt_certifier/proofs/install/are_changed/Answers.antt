use Rattle.std.proofs.Common.{◌≡◌, ◌++◌, ◌∷◌, [], take, length, Some, sym, ◌∙◌, ap, subst, arith}
use Rattle.std.specs.Prelude.{slice_get}
use Rattle.std.proofs.lemmas.Bool.{true≢false, not-true, not-false}
use Rattle.std.proofs.lemmas.List.{length-take-le}
use Rattle.std.proofs.lemmas.Option.{same_Some, slice_get_within}
use Rattle.std.proofs.lemmas.Slice.Eq.{bytes_eq-Decides}
use Rattle.std.specs.Str.{bytes_eq}
use Rattle.sgt_names.proofs.Lists.{element_at, take_next}
use Rattle.sgt_certifier.specs.Kept.{changed_at}
use Rattle.sgt_certifier.proofs.Changes.{changed_hit, changed_miss, changed_place}
use Rattle.sgt_certifier.proofs.install.are_changed.Goals as goal
use Rattle.sgt_certifier.proofs.install.are_changed.Goals.{then-is_changed+else-met-items+else-ne, else-is_changed}

pub returns-then-met-items : goal.returns-then-met-items
returns-then-met-items c =
    let here = element_at c.args.touched.now c.loop-touch.touch-index c.touch-item.result c.loop-touch-test.true
    c.touch-item.is in
    let place = changed_place c.args.touched.now c.args.site c.loop-touch.touch-index c.touch-item.result here
    (sym c.is_changed.ensures ∙ c.if-is_changed.true) in
    let met = ap length c.loop-touch.invariant.met
    ∙ length-take-le c.loop-touch.met c.args.items.now c.loop-touch.invariant.within in (
      λ told. absurd (true≢false (sym told)),
      λ same.
          let within = slice_get_within (changed_at c.args.touched.now c.args.site) _ c.touch-item.result.item place in
          absurd (omega (arith, within, met, ap length same, c.if-met-items.true)),
    )

pub returns-then-ne : goal.returns-then-ne
returns-then-ne c =
    let here = element_at c.args.touched.now c.loop-touch.touch-index c.touch-item.result c.loop-touch-test.true
    c.touch-item.is in
    let place = changed_place c.args.touched.now c.args.site c.loop-touch.touch-index c.touch-item.result here
    (sym c.is_changed.ensures ∙ c.if-is_changed.true) in
    let met = ap length c.loop-touch.invariant.met
    ∙ length-take-le c.loop-touch.met c.args.items.now c.loop-touch.invariant.within in
    let seen = element_at c.args.items.now c.loop-touch.met c.index-items-met.result c.if-met-items.false
    c.index-items-met.is in (
      λ told. absurd (true≢false (sym told)),
      λ same.
          let other = not-true (bytes_eq c.index-items-met.result c.touch-item.result.item) (sym c.ne.ensures
          ∙ c.if-ne.true) in
          let there =
          subst (λ k. slice_get (changed_at c.args.touched.now c.args.site) k ≡ Some c.touch-item.result.item) met
          place in
          let item = same_Some c.index-items-met.result c.touch-item.result.item (sym seen
          ∙ (ap (λ xs. slice_get xs c.loop-touch.met) same ∙ there)) in
          absurd (true≢false (sym ((bytes_eq-Decides c.index-items-met.result c.touch-item.result.item).1 item)
          ∙ other)),
    )

pub loop-touch-preserved : goal.loop-touch-preserved
loop-touch-preserved c =
    let touched = c.args.touched.now in
    let items = c.args.items.now in
    let n = c.loop-touch.touch-index in
    let t = c.touch-item.result in
    let here = element_at touched n t c.loop-touch-test.true c.touch-item.is in
    elim c.if-is_changed.branch [
      | then-is_changed+else-met-items+else-ne w ↦
          let seen =
          element_at items c.loop-touch.met w.index-items-met.result w.if-met-items.false w.index-items-met.is in
          let item =
          (bytes_eq-Decides w.index-items-met.result t.item).0
          (not-false (bytes_eq w.index-items-met.result t.item) (sym w.ne.ensures ∙ w.if-ne.false)) in
          let next = changed_hit touched c.args.site n t here (sym c.is_changed.ensures ∙ w.if-is_changed.true) in
          let longer = take_next items c.loop-touch.met t.item (seen ∙ ap Some item) in
          record {
            met = next ∙ (ap (λ xs. xs ++ t.item ∷ []) c.loop-touch.invariant.met
                ∙ (sym longer ∙ ap (λ k. take k items) (sym w.met-is)));
            within = omega (arith, w.met-is, w.if-met-items.false);
          }
      | else-is_changed w ↦
          let next = changed_miss touched c.args.site n t here (sym c.is_changed.ensures ∙ w.if-is_changed.false) in
          record {
            met = next ∙ (c.loop-touch.invariant.met ∙ ap (λ k. take k items) (sym w.met-is));
            within = omega (arith, w.met-is, c.loop-touch.invariant.within);
          }
    ]
