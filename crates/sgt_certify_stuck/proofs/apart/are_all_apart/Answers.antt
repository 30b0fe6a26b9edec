use Rattle.std.proofs.Common.{List, refl, sym, ◌∙◌, subst}
use Rattle.std.proofs.lemmas.Bool.{true≢false}
use Rattle.sgt_names.proofs.Lists.{element_at}
use Rattle.sgt_names.proofs.Places.{Contains-from_at}
use Rattle.sgt_names.specs.declared.entry.Entry.{Entry}
use Rattle.sgt_bundle.specs.declared.bundle.SiteLog.{SiteLog}
use Rattle.sgt_certify_stuck.specs.Apart.{AreApart}
use Rattle.sgt_certify_stuck.proofs.Elements.{at_more, each-in}
use Rattle.sgt_certify_stuck.proofs.apart.are_all_apart.Goals as goal

pub returns-then-not-branch : goal.returns-then-not-branch
returns-then-not-branch c =
    let at = element_at _ _ _ c.loop-log-test.true c.log-item.is in (
      λ no. absurd (true≢false (sym no)),
      λ all.
          let here =
          all c.log-item.result (Contains-from_at c.args.sites.now c.loop-log.log-index c.log-item.result at) in
          absurd (true≢false (sym (c.in_ok-are_apart.ensures.1
          (subst (λ (es : List Entry). AreApart es c.args.sources.now c.args.barred.now) (sym c.as_slice.ensures)
          here)) ∙ c.if-not-branch.true)),
    )

pub loop-log-preserved : goal.loop-log-preserved
loop-log-preserved c =
    at_more (λ (log : SiteLog). AreApart log.entries c.args.sources.now c.args.barred.now) c.args.sites.now
    c.loop-log.log-index c.log-item.result
    (element_at _ _ _ c.loop-log-test.true c.log-item.is)
    (subst (λ (es : List Entry). AreApart es c.args.sources.now c.args.barred.now) c.as_slice.ensures
    (c.in_ok-are_apart.ensures.0 c.if-not-branch.false))
    c.loop-log.invariant

pub returns : goal.returns
returns c = (
  λ _. each-in (λ (log : SiteLog). AreApart log.entries c.args.sources.now c.args.barred.now) c.args.sites.now
      c.loop-log.log-index
      c.loop-log-test.false c.loop-log.invariant,
  λ _. refl,
)
