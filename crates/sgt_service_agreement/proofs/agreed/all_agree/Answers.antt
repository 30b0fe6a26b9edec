use Rattle.std.proofs.Common.{sym, refl}
use Rattle.std.proofs.lemmas.Bool.{true≢false}
use Rattle.sgt_names.specs.declared.entry.Holding.{Holding}
use Rattle.sgt_names.proofs.Lists.{element_at, All-next, All-whole}
use Rattle.sgt_service_agreement.specs.Agreed.{AgreesOn}
use Rattle.sgt_service_agreement.proofs.Agreeing.{one-fails}
use Rattle.sgt_service_agreement.proofs.agreed.all_agree.Goals as goal

pub returns-then-not-agrees_on : goal.returns-then-not-agrees_on
returns-then-not-agrees_on c =
    let at = element_at _ _ _ c.loop-holding-test.true c.holding-item.is in
    one-fails (λ (h : Holding). AgreesOn c.args.certifier.now.history c.args.site.now h.item) _ _ _ at
    (λ holds. true≢false (sym (c.if-not-agrees_on.ensures.1 holds)))

pub loop-holding-preserved : goal.loop-holding-preserved
loop-holding-preserved c =
    let at = element_at _ _ _ c.loop-holding-test.true c.holding-item.is in
    All-next (λ (h : Holding). AgreesOn c.args.certifier.now.history c.args.site.now h.item) _ _ _ at
    (c.if-not-agrees_on.ensures.0 refl) c.loop-holding.invariant

pub returns : goal.returns
returns c = (
  λ t. All-whole (λ (h : Holding). AgreesOn c.args.certifier.now.history c.args.site.now h.item) _ _
      c.loop-holding-test.false c.loop-holding.invariant,
  λ all. refl,
)
