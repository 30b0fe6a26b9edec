use Rattle.std.proofs.Common.{◌≡◌, ◌∙◌, ◌<◌, sym, subst, arith, inl, inr, get_or, length}
use Rattle.std.proofs.lemmas.Bool.{true≢false, cases_lt}
use Rattle.std.proofs.lemmas.Option.{slice_get-get_or}
use Rattle.sgt_service_agreement.specs.declared.counts.EntryCounts.{EntryCounts as Counted}
use Rattle.sgt_service_settle.specs.private.Sites.{IsFitAt}
use Rattle.sgt_service_settle.proofs.Fitting.{fit_at, unfit_at, counted_at}
use Rattle.sgt_names.proofs.Lists.{element_at}
use Rattle.sgt_certifier.proofs.Counting.{on-err}
use Rattle.sgt_service_settle.proofs.sites.first_unfit.Goals as goal

pub is_site_fit-requires-clause-there : goal.is_site_fit-requires-clause-there
is_site_fit-requires-clause-there c = omega (arith, c.in-Ok.ensures.1, c.loop-k-test.true, c.requires.there)

pub returns-then-not-fit-clause-ok : goal.returns-then-not-fit-clause-ok
returns-then-not-fit-clause-ok c =
    let none : Counted = record { reads = 0; others = 0 } in
    let k = c.loop-k.k in
    let low : k < length c.args.counts.now = omega (arith, c.requires.counts, c.loop-k-test.true) in
    let here = element_at c.args.sites.now k c.index-sites-k.result c.loop-k-test.true c.index-sites-k.is in
    let counted = slice_get-get_or c.args.counts.now k none low in
    let site = c.in-Ok.ensures.1 in (
      omega (arith, site, c.loop-k-test.true),
      unfit_at c.args.index.now c.args.sites.now c.args.counts.now k c.in-Ok.site c.index-sites-k.result
          (get_or c.args.counts.now k none) here counted site
          (λ fit. true≢false (sym (c.in_ok-fit.ensures.ok.1 fit) ∙ c.if-not-fit.true)),
      λ j lt. c.loop-k.invariant.fit j (omega (arith, lt, site)),
    )

pub loop-k-preserved : goal.loop-k-preserved
loop-k-preserved c = record {
  under = c.in_ok-fit.ensures.under;
  fit = λ j lt.
      let none : Counted = record { reads = 0; others = 0 } in
      let k = c.loop-k.k in
      let low : k < length c.args.counts.now = omega (arith, c.requires.counts, c.loop-k-test.true) in
      let here = element_at c.args.sites.now k c.index-sites-k.result c.loop-k-test.true c.index-sites-k.is in
      let counted = slice_get-get_or c.args.counts.now k none low in
      elim (cases_lt j k) [
        | inl early ↦ c.loop-k.invariant.fit j early
        | inr late ↦
            let same : k ≡ j = omega (arith, late, lt) in
            subst (IsFitAt c.args.index.now c.args.sites.now c.args.counts.now) same
            (fit_at c.args.index.now c.args.sites.now c.args.counts.now k c.in-Ok.site c.index-sites-k.result
            (get_or c.args.counts.now k none) here counted c.in-Ok.ensures.1
            (c.in_ok-fit.ensures.ok.0 c.if-not-fit.false))
      ];
}

pub returns-clause-ok : goal.returns-clause-ok
returns-clause-ok c k lt = c.loop-k.invariant.fit k (omega (arith, lt, c.loop-k-test.false))

pub returns-in_err-fit-clause-err : goal.returns-in_err-fit-clause-err
returns-in_err-fit-clause-err c =
    let none : Counted = record { reads = 0; others = 0 } in
    let k = c.loop-k.k in
    let low : k < length c.args.counts.now = omega (arith, c.requires.counts, c.loop-k-test.true) in
    let here = element_at c.args.sites.now k c.index-sites-k.result c.loop-k-test.true c.index-sites-k.is in
    let counted = slice_get-get_or c.args.counts.now k none low in
    on-err c.from_residual.result _ (
      k,
      c.loop-k-test.true,
      counted_at c.args.sites.now c.args.counts.now k c.in-Ok.site c.index-sites-k.result
          (get_or c.args.counts.now k none) here counted c.in-Ok.ensures.1 c.in_err-fit.ensures.err,
      λ j lt. c.loop-k.invariant.fit j lt,
    )
