use Rattle.std.proofs.Common.{◌≡◌, ◌<◌, ◌⊎◌, ℕ, List, [], ◌∷◌, length, take, sym, refl, ap, ◌∙◌, subst, arith, inl, inr, Contains}
use Rattle.std.specs.Prelude.{slice_get}
use Rattle.std.proofs.lemmas.Bool.{cases_eq}
use Rattle.sgt_certify_greedy.specs.Pairs.{Leads}
use Rattle.sgt_certify_greedy.specs.Sorted.{Among}
use Rattle.sgt_certify_greedy.proofs.Elements.{without-fewer, without-has}
use Rattle.sgt_certify_greedy.proofs.Rings.{chain-more, ring-closed}
use Rattle.sgt_names.proofs.Elements.{contains-later}
use Rattle.sgt_certify_greedy.proofs.sorting.cycle_in.Goals as goal

pub back-init : goal.back-init
back-init c =
    let here = c.index-left-0.result in
    record {
      here = (0, c.requires.some, sym c.index-left-0.is);
      walk = ([], c.in_ok-walk.ensures.items, tt);
      met = λ t has.
          elim (cases_eq t here) [
            | inl same ↦ inl (subst (λ (w : List ℕ). Contains w t) (sym c.in_ok-walk.ensures.items) (
              0,
              omega arith,
              sym same,
            ))
            | inr other ↦ inr (subst (λ (w : List ℕ). Contains w t) (sym c.take_out.ensures)
                (without-has here _ t (subst (λ (w : List ℕ). Contains w t) (sym c.in_ok-unmet.ensures.items) has)
                other))
          ];
    }

pub unreachable-requires : goal.unreachable-requires
unreachable-requires c =
    let led = c.requires.led c.back.here c.back.invariant.here in
    c.in_default.ensures.none led.0 led.1 led.2

pub returns-in-Some-place : goal.returns-in-Some-place
returns-in-Some-place c =
    ring-closed (Among c.args.left.now (Leads c.args.pairs.now)) c.back.here c.in-Some.before c.in-Some-place.n
    c.back.walk.items c.insert.new.self.items c.back.invariant.walk (
      c.in-Some.ensures.some.0,
      c.back.invariant.here,
      c.in-Some.ensures.some.1,
    )
    (ap (λ (w : List ℕ). slice_get w c.in-Some-place.n) (sym c.as_slice.ensures.value) ∙ c.in-Some-place.ensures.some)
    (c.in_ok-insert.ensures.items ∙ ap (λ (w : List ℕ). c.in-Some.before ∷ w) c.truncate.ensures.items)

pub back-smaller : goal.back-smaller
back-smaller c =
    let is_unmet : Contains c.back.unmet.items c.in-Some.before =
    elim (c.back.invariant.met c.in-Some.before c.in-Some.ensures.some.0) [
      | inl met ↦ absurd
          (c.in_default-place.ensures.none
          (subst (λ (w : List ℕ). Contains w c.in-Some.before) (sym c.as_slice.ensures.value) met))
      | inr unmet ↦ unmet
    ] in
    subst (λ (w : List ℕ). length w < length c.back.unmet.items) (sym c.take_out-in-back.ensures)
    (without-fewer c.in-Some.before c.back.unmet.items is_unmet)

pub back-preserved : goal.back-preserved
back-preserved c =
    let before = c.in-Some.before in
    let items = c.in_ok-insert-2.ensures.items in
    record {
      here = c.in-Some.ensures.some.0;
      walk = chain-more (Among c.args.left.now (Leads c.args.pairs.now)) c.back.here before c.back.walk.items
          c.insert-in-back.new.self.items c.back.invariant.walk (
            c.in-Some.ensures.some.0,
            c.back.invariant.here,
            c.in-Some.ensures.some.1,
          ) items;
      met = λ t has.
          elim (cases_eq t before) [
            | inl same ↦ inl (subst (λ (w : List ℕ). Contains w t) (sym items) (0, omega arith, sym same))
            | inr other ↦
                elim (c.back.invariant.met t has) [
                  | inl met ↦ inl
                      (subst (λ (w : List ℕ). Contains w t) (sym items) (contains-later before c.back.walk.items t met))
                  | inr unmet ↦ inr (subst (λ (w : List ℕ). Contains w t) (sym c.take_out-in-back.ensures)
                      (without-has before c.back.unmet.items t unmet other))
                ]
          ];
    }
