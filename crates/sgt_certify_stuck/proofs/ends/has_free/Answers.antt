use Rattle.std.proofs.Common.{sym, refl, ◌∙◌}
use Rattle.std.proofs.lemmas.Bool.{true≢false}
use Rattle.sgt_names.proofs.Places.{Contains-from_at}
use Rattle.sgt_names.proofs.Lists.{All_in, All-next, All-whole, element_at}
use Rattle.sgt_bundle.specs.declared.bundle.SiteLog.{SiteLog}
use Rattle.sgt_certify_stuck.specs.private.Ends.{IsFreeIn}
use Rattle.sgt_certify_stuck.proofs.ends.has_free.Goals as goal

pub returns-then-is_free_in : goal.returns-then-is_free_in
returns-then-is_free_in c =
    let at = element_at c.args.sites.now c.loop-log.log-index c.log-item.result c.loop-log-test.true c.log-item.is in (
      λ _. (
        c.log-item.result,
        Contains-from_at c.args.sites.now c.loop-log.log-index c.log-item.result at,
        c.is_free_in.ensures.0 c.if-is_free_in.true,
      ),
      λ _. refl,
    )

pub loop-log-preserved : goal.loop-log-preserved
loop-log-preserved c =
    let at = element_at c.args.sites.now c.loop-log.log-index c.log-item.result c.loop-log-test.true c.log-item.is in
    All-next (λ (log : SiteLog). IsFreeIn c.args.sites.now c.args.decided.now log
    → ⊥) c.args.sites.now c.loop-log.log-index c.log-item.result at
    (λ free. true≢false (sym (c.is_free_in.ensures.1 free) ∙ c.if-is_free_in.false))
    c.loop-log.invariant

pub returns : goal.returns
returns c =
    let P = λ (log : SiteLog). IsFreeIn c.args.sites.now c.args.decided.now log → ⊥ in (
      λ no. absurd (true≢false (sym no)),
      λ (log, here, free). absurd
          (All_in P c.args.sites.now log (All-whole P c.args.sites.now c.loop-log.log-index c.loop-log-test.false
          c.loop-log.invariant) here free),
    )
