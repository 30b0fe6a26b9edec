use Rattle.std.proofs.Common.{sym, ap, ◌∙◌, subst}
use Rattle.std.proofs.lemmas.Option.{none-some}
use Rattle.sgt_names.proofs.Lists.{IsSome-value}
use Rattle.sgt_bundle.specs.Certificate.{IsDecidedOnce}
use Rattle.sgt_bundle.specs.declared.certificate.Certificate.{Certificate}
use Rattle.sgt_certify_faults.specs.private.Asked.{AreDecidedAsAsked}
use Rattle.sgt_certify_faults.proofs.Odds.{decided-as_asked}
use Rattle.sgt_certify_faults.proofs.asked.decided_as_asked.Goals as goal

pub unreachable-requires : goal.unreachable-requires
unreachable-requires c =
    let are = decided-as_asked c.args.second c.args.bytes.now c.in_ok-askings.askings c.in_ok-askings.ensures in
    let some =
    IsSome-value c.in_ok-decided.field-0
    (c.in_ok-decided.ensures.once.1
    (subst IsDecidedOnce (sym (c.new.ensures ∙ c.in_ok-decisions.ensures)) are.once)) in
    none-some some.0 (sym c.in-None.is ∙ some.1)

pub returns : goal.returns
returns c =
    let are = decided-as_asked c.args.second c.args.bytes.now c.in_ok-askings.askings c.in_ok-askings.ensures in
    let same = rw c.in-Some.is at c.in_ok-decided.ensures.same in
    subst (AreDecidedAsAsked c.args.second c.args.bytes.now) (sym (ap (λ (d : Certificate). d.decisions) same
    ∙ (c.new.ensures ∙ c.in_ok-decisions.ensures))) are
