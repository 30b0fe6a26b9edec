use Rattle.std.proofs.Common.{◌∙◌, sym, ap, subst, arith, inl, inr}
use Rattle.std.specs.Prelude.{slice_get}
use Rattle.std.proofs.lemmas.Bool.{true≢false}
use Rattle.std.proofs.lemmas.Option.{slice_get_within}
use Rattle.sgt_names.proofs.Places.{All-from_at}
use Rattle.sgt_service_agreement.specs.Agreed.{VersionsAgree}
use Rattle.sgt_service_settle.proofs.Lists.{before_or_here}
use Rattle.sgt_names.proofs.Lists.{element_at}
use Rattle.sgt_service_settle.proofs.versions.first_uncounted.Goals as goal

pub returns-then-not-agrees : goal.returns-then-not-agrees
returns-then-not-agrees c =
    let here = element_at c.args.sites.now c.loop-k.k c.index-sites-k.result c.loop-k-test.true c.index-sites-k.is in
    let site = c.in-Ok.ensures.1 in (
      (
        c.index-sites-k.result,
        ap (slice_get c.args.sites.now) site
            ∙ here,
        λ all. true≢false (sym (c.agrees.ensures.1 all) ∙ c.if-not-agrees.true),
      ),
      λ j s lt at. c.loop-k.invariant j s (omega (arith, lt, site)) at,
    )

pub loop-k-preserved : goal.loop-k-preserved
loop-k-preserved c j s low at =
    let here = element_at c.args.sites.now c.loop-k.k c.index-sites-k.result c.loop-k-test.true c.index-sites-k.is in
    elim (before_or_here c.args.sites.now c.loop-k.k j c.index-sites-k.result s here at low) [
      | inl early ↦ c.loop-k.invariant j s early at
      | inr last ↦ subst (VersionsAgree c.args.certifier.now.history) last.1 (c.agrees.ensures.0 c.if-not-agrees.false)
    ]

pub returns : goal.returns
returns c = All-from_at (VersionsAgree c.args.certifier.now.history) c.args.sites.now
    (λ n s at. c.loop-k.invariant n s (let low = slice_get_within c.args.sites.now n s at in
    omega (arith, low, c.loop-k-test.false)) at)
