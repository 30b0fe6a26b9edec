use Rattle.std.proofs.Common.{◌≡◌, refl, inl, inr, sym, ap, ◌∙◌, subst, arith}
use Rattle.std.specs.Prelude.{slice_get}
use Rattle.std.proofs.lemmas.Bool.{cases_lt, true≢false}
use Rattle.std.proofs.lemmas.Option.{same_Some, slice_get_within}
use Rattle.sgt_names.proofs.Places.{Contains_at, Contains-from_at}
use Rattle.sgt_names.proofs.Lists.{element_at}
use Rattle.sgt_certifier.specs.History.{Fits}
use Rattle.sgt_certifier.proofs.judge.Judge.has_unfit.Goals as goal

pub loop-edge-preserved : goal.loop-edge-preserved
loop-edge-preserved c n e lt at =
    let here = element_at c.args.edges.now c.loop-edge.edge-index c.edge-item.result c.loop-edge-test.true
    c.edge-item.is in
    elim (cases_lt n c.loop-edge.edge-index) [
      | inl early ↦ c.loop-edge.invariant n e early at
      | inr late ↦
          let last : n ≡ c.loop-edge.edge-index = omega arith in
          let same = same_Some c.edge-item.result e (sym here ∙ (ap (slice_get c.args.edges.now) (sym last) ∙ at)) in
          subst (Fits c.args.self.now c.args.handle) same (c.fits.ensures.0 c.if-not-fits.false)
    ]

pub returns-then-not-fits : goal.returns-then-not-fits
returns-then-not-fits c =
    let here = element_at c.args.edges.now c.loop-edge.edge-index c.edge-item.result c.loop-edge-test.true
    c.edge-item.is in
    let m = Contains-from_at c.args.edges.now c.loop-edge.edge-index c.edge-item.result here in
    record {
      unfit = (
        λ told. (
          m.0,
          c.edge-item.result,
          m.1,
          m.2,
          λ fit. true≢false (sym (c.fits.ensures.1 fit)
              ∙ c.if-not-fits.true),
        ),
        λ any. refl,
      );
      fit = λ f. absurd (true≢false f);
    }

pub returns : goal.returns
returns c = record {
  unfit = (
    λ told. absurd (true≢false (sym told)),
    λ any.
        let m = Contains_at c.args.edges.now any.1 (any.0, any.2, any.3) in
        absurd (any.4
        (c.loop-edge.invariant m.0 any.1 (omega (arith, slice_get_within c.args.edges.now m.0 any.1 m.1)) m.1)),
  );
  fit = λ f n e at. c.loop-edge.invariant n e (omega (arith, slice_get_within c.args.edges.now n e at)) at;
}
