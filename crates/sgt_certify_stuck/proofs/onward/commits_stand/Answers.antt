use Rattle.std.proofs.Common.{List, refl, sym, ◌∙◌, subst}
use Rattle.std.proofs.lemmas.Bool.{true≢false}
use Rattle.sgt_names.proofs.Lists.{element_at}
use Rattle.sgt_names.proofs.Places.{Contains_at, Contains-from_at}
use Rattle.sgt_names.specs.declared.entry.Entry.{Entry}
use Rattle.sgt_names.specs.declared.entry.Entry.TheVariants.{Commit}
use Rattle.sgt_bundle.specs.declared.bundle.SiteLog.{SiteLog}
use Rattle.sgt_certify_stuck.specs.Onward.{LogCommitsStand}
use Rattle.sgt_certify_stuck.proofs.Elements.{at_more, each-in}
use Rattle.sgt_certify_stuck.proofs.onward.commits_stand.Goals as goal

pub returns-then-not-log_commits_stand : goal.returns-then-not-log_commits_stand
returns-then-not-log_commits_stand c =
    let at = element_at _ _ _ c.loop-log-test.true c.log-item.is in
    let here = Contains-from_at c.args.sites.now c.loop-log.log-index c.log-item.result at in (
      λ no. absurd (true≢false (sym no)),
      λ stand.
          let all : LogCommitsStand c.log-item.result.entries c.args.places.now =
          λ k t at_k. stand t (c.log-item.result, here, Contains-from_at c.log-item.result.entries k (Commit t) at_k) in
          absurd (true≢false (sym (c.log_commits_stand.ensures.1
          (subst (λ (es : List Entry). LogCommitsStand es c.args.places.now) (sym c.as_slice.ensures) all))
          ∙ c.if-not-log_commits_stand.true)),
    )

pub loop-log-preserved : goal.loop-log-preserved
loop-log-preserved c =
    at_more (λ (log : SiteLog). LogCommitsStand log.entries c.args.places.now) c.args.sites.now c.loop-log.log-index
    c.log-item.result
    (element_at _ _ _ c.loop-log-test.true c.log-item.is)
    (subst (λ (es : List Entry). LogCommitsStand es c.args.places.now)
    c.as_slice.ensures (c.log_commits_stand.ensures.0 c.if-not-log_commits_stand.false))
    c.loop-log.invariant

pub returns : goal.returns
returns c = (
  λ _ t is.
      let at = Contains_at is.0.entries (Commit t) is.2 in
      each-in (λ (log : SiteLog). LogCommitsStand log.entries c.args.places.now) c.args.sites.now c.loop-log.log-index
      c.loop-log-test.false c.loop-log.invariant
      is.0 is.1 at.0 t at.1,
  λ _. refl,
)
