use Rattle.std.proofs.Common.{refl, sym, ◌∙◌}
use Rattle.std.proofs.lemmas.Bool.{true≢false}
use Rattle.sgt_names.proofs.Places.{Contains-from_at}
use Rattle.sgt_names.proofs.Lists.{All_in, All-next, All-whole, element_at}
use Rattle.sgt_certify_stuck.specs.private.Ends.{IsLogShown}
use Rattle.sgt_certify_stuck.proofs.stuck.are_shown.Goals as goal

pub returns-then-not-shown : goal.returns-then-not-shown
returns-then-not-shown c =
    let at = element_at c.args.sites.now c.loop-log.log-index c.log-item.result c.loop-log-test.true c.log-item.is in (
      λ no. absurd (true≢false (sym no)),
      λ all. absurd (true≢false (sym (c.in_ok-shown.ensures.1 (all c.log-item.result
          (Contains-from_at c.args.sites.now c.loop-log.log-index c.log-item.result at))) ∙ c.if-not-shown.true)),
    )

pub loop-log-preserved : goal.loop-log-preserved
loop-log-preserved c =
    All-next (IsLogShown c.args.sites.now c.args.stuck.now c.args.decided.now) c.args.sites.now c.loop-log.log-index
    c.log-item.result
    (element_at c.args.sites.now c.loop-log.log-index c.log-item.result c.loop-log-test.true c.log-item.is)
    (c.in_ok-shown.ensures.0 c.if-not-shown.false) c.loop-log.invariant

pub returns : goal.returns
returns c =
    let P = IsLogShown c.args.sites.now c.args.stuck.now c.args.decided.now in (
      λ _ log here. All_in P c.args.sites.now log
          (All-whole P c.args.sites.now c.loop-log.log-index c.loop-log-test.false c.loop-log.invariant) here,
      λ _. refl,
    )
