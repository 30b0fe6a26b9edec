use Rattle.std.proofs.Common.{List, refl, sym, ◌∙◌, subst}
use Rattle.std.proofs.lemmas.Bool.{true≢false}
use Rattle.sgt_names.proofs.Lists.{element_at}
use Rattle.sgt_names.proofs.Places.{Contains-from_at}
use Rattle.sgt_names.specs.declared.entry.Entry.{Entry}
use Rattle.sgt_bundle.specs.declared.bundle.SiteLog.{SiteLog}
use Rattle.sgt_certify_stuck.specs.Onward.{EndsLeadOnward, EndsStand}
use Rattle.sgt_certify_stuck.proofs.Elements.{at_more, each-in}
use Rattle.sgt_certify_stuck.proofs.onward.all_ends_lead_onward.Goals as goal

pub returns-then-not-ends_lead_onward : goal.returns-then-not-ends_lead_onward
returns-then-not-ends_lead_onward c =
    let at = element_at _ _ _ c.loop-log-test.true c.log-item.is in (
      λ no. absurd (true≢false (sym no)),
      λ all.
          let here =
          all c.log-item.result (Contains-from_at c.args.sites.now c.loop-log.log-index c.log-item.result at) in
          absurd (true≢false (sym (c.ends_lead_onward.ensures.1
          (subst (λ (es : List Entry). EndsStand es c.args.places.now × EndsLeadOnward es c.args.places.now)
          (sym c.as_slice.ensures) here)) ∙ c.if-not-ends_lead_onward.true)),
    )

pub loop-log-preserved : goal.loop-log-preserved
loop-log-preserved c =
    at_more (λ (log : SiteLog). EndsStand log.entries c.args.places.now
    × EndsLeadOnward log.entries c.args.places.now) c.args.sites.now c.loop-log.log-index c.log-item.result
    (element_at _ _ _ c.loop-log-test.true c.log-item.is)
    (subst (λ (es : List Entry). EndsStand es c.args.places.now × EndsLeadOnward es c.args.places.now)
    c.as_slice.ensures (c.ends_lead_onward.ensures.0 c.if-not-ends_lead_onward.false))
    c.loop-log.invariant

pub returns : goal.returns
returns c = (
  λ _. each-in (λ (log : SiteLog). EndsStand log.entries c.args.places.now
      × EndsLeadOnward log.entries c.args.places.now) c.args.sites.now c.loop-log.log-index
      c.loop-log-test.false c.loop-log.invariant,
  λ _. refl,
)
