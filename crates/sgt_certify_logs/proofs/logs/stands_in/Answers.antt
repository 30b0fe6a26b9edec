use Rattle.std.proofs.Common.{List, sym, refl, ◌∙◌, subst, Contains}
use Rattle.std.proofs.lemmas.Bool.{false≢true}
use Rattle.sgt_names.specs.declared.entry.Entry.{Entry}
use Rattle.sgt_names.proofs.Places.{Contains-from_at}
use Rattle.sgt_names.proofs.Lists.{All_in, All-next, All-whole, element_at}
use Rattle.sgt_bundle.specs.declared.bundle.SiteLog.{SiteLog}
use Rattle.sgt_certify_logs.proofs.logs.stands_in.Goals as goal

pub returns-then-has_entry : goal.returns-then-has_entry
returns-then-has_entry c =
    let at = element_at c.args.sites.now c.loop-log.log-index c.log-item.result c.loop-log-test.true c.log-item.is in
    let there = subst (λ (es : List Entry). Contains es c.args.entry.now) c.as_slice.ensures
    (c.has_entry.ensures.0 c.if-has_entry.true) in (
      λ _. (c.log-item.result, Contains-from_at c.args.sites.now c.loop-log.log-index c.log-item.result at, there),
      λ _. refl,
    )

pub loop-log-preserved : goal.loop-log-preserved
loop-log-preserved c =
    let at = element_at c.args.sites.now c.loop-log.log-index c.log-item.result c.loop-log-test.true c.log-item.is in
    All-next (λ (log : SiteLog). Contains log.entries c.args.entry.now
    → ⊥) c.args.sites.now c.loop-log.log-index c.log-item.result at
    (λ has. false≢true (sym c.if-has_entry.false
    ∙ c.has_entry.ensures.1 (subst (λ (es : List Entry). Contains es c.args.entry.now) (sym c.as_slice.ensures)
    has)))
    c.loop-log.invariant

pub returns : goal.returns
returns c =
    let P = λ (log : SiteLog). Contains log.entries c.args.entry.now → ⊥ in (
      λ h. absurd (false≢true h),
      λ (log, here, there). absurd
          (All_in P c.args.sites.now log (All-whole P c.args.sites.now c.loop-log.log-index c.loop-log-test.false
          c.loop-log.invariant) here there),
    )
