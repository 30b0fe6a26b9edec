use Rattle.std.proofs.Common.{◌≡◌, Some, sym, ap, ◌∙◌, subst, arith}
use Rattle.std.specs.Prelude.{slice_get}
use Rattle.std.specs.declared.cmp.Ordering.TheVariants.{Less}
use Rattle.std.proofs.lemmas.Option.{get_or_from_slice_get, slice_get-get_or, slice_get_within}
use Rattle.sgt_names.specs.Draft.{place_of, place_cmp}
use Rattle.sgt_names.specs.declared.draft.Touch.{Touch}
use Rattle.sgt_names.proofs.Ranged.{above_from, each_more}
use Rattle.sgt_names.proofs.Touched.{place_total, place_exact, site_before}
use Rattle.sgt_names.proofs.touch_list.search_near.Goals as goal
use Rattle.sgt_names.proofs.touch_list.search_near.Goals.{then-number+in-Less, else-number}

pub returns-in-Equal-clause-found : goal.returns-in-Equal-clause-found
returns-in-Equal-clause-found c =
    let all = c.args.touched.now in
    let touch = c.index-touched-at.result in
    record {
      within = c.loop-at-test.true;
      is = λ a there. subst (λ (t : Touch). place_of t ≡ (c.args.site, c.args.item.now))
          (c.index-touched-at.is ∙ get_or_from_slice_get all c.loop-at.at a touch there)
          (place_exact (place_of touch) (c.args.site, c.args.item.now) (sym c.in-Equal.ensures));
    }

pub returns-in-Greater-clause-absent : goal.returns-in-Greater-clause-absent
returns-in-Greater-clause-absent c =
    let all = c.args.touched.now in
    let touch = c.index-touched-at.result in
    let there : slice_get all c.loop-at.at ≡ Some touch =
    slice_get-get_or all c.loop-at.at touch c.loop-at-test.true ∙ ap Some (sym c.index-touched-at.is) in
    record {
      within = c.loop-at.invariant.within;
      before = c.loop-at.invariant.before;
      after = above_from place_of place_cmp place_total all (c.args.site, c.args.item.now) c.loop-at.at touch c.requires
          there (sym c.in-Greater.ensures);
    }

pub loop-at-preserved : goal.loop-at-preserved
loop-at-preserved c =
    let all = c.args.touched.now in
    let touch = c.index-touched-at.result in
    let there : slice_get all c.loop-at.at ≡ Some touch =
    slice_get-get_or all c.loop-at.at touch c.loop-at-test.true ∙ ap Some (sym c.index-touched-at.is) in
    let less : place_cmp (place_of touch) (c.args.site, c.args.item.now) ≡ Less =
    elim c.if-number.branch [
      | then-number+in-Less w ↦ sym w.in-Less.ensures
      | else-number w ↦
          site_before (place_of touch) (c.args.site, c.args.item.now)
          (omega (arith, c.number.ensures.is, c.number-in-loop-at.ensures.is, w.if-number.false))
    ] in
    record {
      within = omega (arith, c.loop-at-test.true);
      before = each_more (λ (t : Touch). place_cmp (place_of t) (c.args.site, c.args.item.now) ≡ Less) all c.loop-at.at
          touch there less c.loop-at.invariant.before;
    }

pub returns-clause-absent : goal.returns-clause-absent
returns-clause-absent c = record {
  within = c.loop-at.invariant.within;
  before = c.loop-at.invariant.before;
  after = λ m a le at. let lt = slice_get_within c.args.touched.now m a at in
      absurd (omega (arith, c.loop-at-test.false, le, lt));
}
