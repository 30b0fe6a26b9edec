use Rattle.std.proofs.Common.{◌≡◌, List, All, sym, subst}
use Rattle.sgt_bundle.specs.declared.certificate.Step.{Step}
use Rattle.sgt_explain_decisions.specs.Walks.{MayBePassed, LeadsTo, AreApart, IsFirstAgain}
use Rattle.sgt_explain_decisions.proofs.Walking.{is-cycle}
use Rattle.sgt_names.proofs.Elements.{ne-same}
use Rattle.sgt_explain_decisions.proofs.walks.flaw_of.Goals as goal

pub returns-in-Some-2-clause-some : goal.returns-in-Some-2-clause-some
returns-in-Some-2-clause-some c = λ placed.
    let ds = c.args.decisions.now in
    let number = c.args.refused.now.number in
    let tx = c.args.refused.now.tx in
    let between = c.before_last-between.ensures in
    let again = rw c.in-Some-2.is at c.in_ok-stop.ensures.some in (
      subst (LeadsTo c.args.walk.now) (ne-same c.in-Some.stop tx c.ne.result c.ne.ensures c.if-ne.false)
          c.in-Some.ensures.some,
      subst (All (λ (s : Step). MayBePassed ds number tx s.to)) between (c.in_default-flaw_between.ensures.none placed),
      subst (λ (ss : List Step). IsFirstAgain ss c.in-Some-2.stop) between again,
    )

pub returns-in-None-clause-none : goal.returns-in-None-clause-none
returns-in-None-clause-none c = λ placed.
    let ds = c.args.decisions.now in
    let number = c.args.refused.now.number in
    let tx = c.args.refused.now.tx in
    let between = c.before_last-between.ensures in
    let apart = rw c.in-None.is at c.in_ok-stop.ensures.none in
    is-cycle ds number tx c.args.walk.now
    (subst (LeadsTo c.args.walk.now) (ne-same c.in-Some.stop tx c.ne.result c.ne.ensures c.if-ne.false)
    c.in-Some.ensures.some)
    (subst (All (λ (s : Step). MayBePassed ds number tx s.to)) between (c.in_default-flaw_between.ensures.none placed))
    (subst AreApart between apart)
