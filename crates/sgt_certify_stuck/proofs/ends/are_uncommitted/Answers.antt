use Rattle.std.proofs.Common.{List, sym, refl, ◌∙◌, subst}
use Rattle.std.proofs.lemmas.Bool.{true≢false}
use Rattle.sgt_names.specs.declared.entry.Entry.{Entry}
use Rattle.sgt_names.proofs.Places.{Contains-from_at}
use Rattle.sgt_names.proofs.Lists.{All_in, All-next, All-whole, element_at}
use Rattle.sgt_bundle.specs.declared.bundle.SiteLog.{SiteLog}
use Rattle.sgt_certify_stuck.specs.private.Ends.{HasNoCommit}
use Rattle.sgt_certify_stuck.proofs.ends.are_uncommitted.Goals as goal

pub returns-then-not-has_no_commit : goal.returns-then-not-has_no_commit
returns-then-not-has_no_commit c =
    let at = element_at c.args.sites.now c.loop-log.log-index c.log-item.result c.loop-log-test.true c.log-item.is in (
      λ no. absurd (true≢false (sym no)),
      λ all.
          let none =
          all c.log-item.result (Contains-from_at c.args.sites.now c.loop-log.log-index c.log-item.result at) in
          absurd (true≢false
          (sym (c.has_no_commit.ensures.1 (subst (λ (es : List Entry). HasNoCommit es c.args.others.now)
          (sym c.as_slice.ensures) none)) ∙ c.if-not-has_no_commit.true)),
    )

pub loop-log-preserved : goal.loop-log-preserved
loop-log-preserved c =
    let at = element_at c.args.sites.now c.loop-log.log-index c.log-item.result c.loop-log-test.true c.log-item.is in
    All-next (λ (log : SiteLog). HasNoCommit log.entries c.args.others.now) c.args.sites.now c.loop-log.log-index
    c.log-item.result at
    (subst (λ (es : List Entry). HasNoCommit es c.args.others.now) c.as_slice.ensures
    (c.has_no_commit.ensures.0 c.if-not-has_no_commit.false))
    c.loop-log.invariant

pub returns : goal.returns
returns c =
    let P = λ (log : SiteLog). HasNoCommit log.entries c.args.others.now in (
      λ _ log here. All_in P c.args.sites.now log
          (All-whole P c.args.sites.now c.loop-log.log-index c.loop-log-test.false c.loop-log.invariant) here,
      λ _. refl,
    )
