use Rattle.std.proofs.Common.{List, subst}
use Rattle.std.proofs.lemmas.Bool.{true≢false}
use Rattle.sgt_names.proofs.Lists.{element_at}
use Rattle.sgt_names.proofs.Places.{Contains-from_at}
use Rattle.sgt_names.specs.declared.entry.Entry.{Entry}
use Rattle.sgt_bundle.specs.declared.bundle.SiteLog.{SiteLog}
use Rattle.sgt_certify_stuck.specs.private.Ends.{IsBehind, IsNext}
use Rattle.sgt_certify_stuck.proofs.Elements.{at_more}
use Rattle.sgt_certify_stuck.proofs.StuckSets.{behind-waits, nobody-waits}
use Rattle.sgt_certify_stuck.proofs.ends.waits.Goals as goal

pub returns-then-is_behind : goal.returns-then-is_behind
returns-then-is_behind c = record {
  yes = λ _. behind-waits c.args.sites.now c.log-item.result c.args.decided.now c.args.tx
      (Contains-from_at _ c.loop-log.log-index _ (element_at _ _ _ c.loop-log-test.true c.log-item.is))
      (subst (λ (es : List Entry). IsBehind es c.args.decided.now c.args.tx) c.as_slice.ensures
      (c.is_behind.ensures.yes c.if-is_behind.true));
  no = λ out. absurd (true≢false out);
}

pub loop-log-preserved : goal.loop-log-preserved
loop-log-preserved c =
    at_more (λ (log : SiteLog). IsNext log.entries c.args.decided.now c.args.tx) c.args.sites.now c.loop-log.log-index
    c.log-item.result
    (element_at _ _ _ c.loop-log-test.true c.log-item.is)
    (subst (λ (es : List Entry). IsNext es c.args.decided.now c.args.tx) c.as_slice.ensures
    (c.is_behind.ensures.no c.if-is_behind.false))
    c.loop-log.invariant

pub returns-clause-no : goal.returns-clause-no
returns-clause-no c _ =
    nobody-waits c.args.sites.now c.args.decided.now c.args.tx c.loop-log.log-index c.loop-log-test.false
    c.loop-log.invariant
