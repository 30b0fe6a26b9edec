use Rattle.std.proofs.Common.{◌≡◌, ◌<◌, inl, inr, Some, sym, ap, ◌∙◌, arith}
use Rattle.std.specs.Prelude.{slice_get}
use Rattle.std.specs.BTreeMap.{get}
use Rattle.std.specs.Ordering.{nat_cmp}
use Rattle.std.proofs.lemmas.Bool.{cases_eq}
use Rattle.std.proofs.lemmas.Option.{same_Some, slice_get_within}
use Rattle.sgt_names.proofs.Lists.{element_at}
use Rattle.sgt_names.proofs.Places.{Contains_at}
use Rattle.sgt_names.proofs.Elements.{nat_cmp-other}
use Rattle.sgt_certify_stuck.proofs.onward.places_of.Goals as goal

pub loop-place-preserved : goal.loop-place-preserved
loop-place-preserved c =
    let updates = c.in_ok-insert.ensures.updates in
    let order = c.args.order.now in
    let n = c.loop-place.place in
    let tx = c.index-order-place.result in
    let at = element_at _ _ _ c.loop-place-test.true c.index-order-place.is in
    record {
      last = λ t i stands.
          elim (cases_eq tx t) [
            | inl same ↦
                let here : i ≡ n = same_Some i n (sym stands ∙ ap (λ u. get nat_cmp c.insert.new.self u) (sym same)
                ∙ updates.1) in (
                  omega (arith, here),
                  ap (slice_get order) here ∙ at
                      ∙ ap Some same,
                  λ j lt within at_j. absurd (omega (arith, here, lt, within)),
                )
            | inr ne ↦
                let before = c.loop-place.invariant.last t i (sym (updates.2 t (nat_cmp-other tx t ne)) ∙ stands) in
                let lt = before.0 in (
                  omega (arith, lt),
                  before.1,
                  λ j more within at_j.
                      elim (cases_eq j n) [
                        | inl last ↦ ne (same_Some tx t (sym at ∙ ap (slice_get order) (sym last) ∙ at_j))
                        | inr other ↦ before.2 j more (omega (arith, within, other)) at_j
                      ],
                )
          ];
      all = λ k t lt at_k.
          elim (cases_eq tx t) [
            | inl same ↦ (n, ap (λ u. get nat_cmp c.insert.new.self u) (sym same) ∙ updates.1)
            | inr ne ↦
                let earlier : k < n =
                elim (cases_eq k n) [
                  | inl last ↦ absurd (ne (same_Some tx t (sym at ∙ ap (slice_get order) (sym last) ∙ at_k)))
                  | inr other ↦ omega (arith, lt, other)
                ] in
                let found = c.loop-place.invariant.all k t earlier at_k in
                (found.0, updates.2 t (nat_cmp-other tx t ne) ∙ found.1)
          ];
    }

pub returns : goal.returns
returns c = record {
  last = λ t i stands.
      let is = c.loop-place.invariant.last t i stands in (
        is.1,
        λ j lt at_j.
            let within = slice_get_within c.args.order.now j t at_j in
            is.2 j lt (omega (arith, within, c.loop-place-test.false)) at_j,
      );
  all = λ t has.
      let at = Contains_at c.args.order.now t has in
      let within = slice_get_within c.args.order.now at.0 t at.1 in
      c.loop-place.invariant.all at.0 t (omega (arith, within, c.loop-place-test.false)) at.1;
}
