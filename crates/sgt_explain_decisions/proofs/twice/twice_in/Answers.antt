use Rattle.std.proofs.Common.{◌≢◌, take, take_all, subst, arith}
use Rattle.sgt_names.proofs.Lists.{element_at}
use Rattle.sgt_bundle.specs.Certificate.{decided_tx, IsDecidedOnce}
use Rattle.sgt_bundle.specs.declared.certificate.Decision.{Decision}
use Rattle.sgt_explain_decisions.specs.Placed.{IsFirstOn, IsUndecided}
use Rattle.sgt_explain_decisions.proofs.Doubling.{pairs-next, first-twice}
use Rattle.sgt_explain_decisions.proofs.twice.twice_in.Goals as goal

pub loop-number-preserved : goal.loop-number-preserved
loop-number-preserved c = λ placed.
    let ds = c.args.decisions.now in
    let n = c.loop-number.number in
    let d = c.index-decisions-number.result in
    pairs-next (λ (a b : Decision). decided_tx a ≢ decided_tx b) ds n d
    (element_at ds n d (omega arith) c.index-decisions-number.is)
    (subst (IsUndecided (take n ds)) c.tx.ensures (c.in_default.ensures.none ds placed))
    (c.loop-number.invariant placed)

pub returns-clause-none : goal.returns-clause-none
returns-clause-none c =
    λ placed. subst IsDecidedOnce
    (take_all c.loop-number.number c.args.decisions.now (omega (arith, c.loop-number-test.false)))
    (c.loop-number.invariant placed)

pub returns-in-Some-clause-some : goal.returns-in-Some-clause-some
returns-in-Some-clause-some c = λ placed.
    let ds = c.args.decisions.now in
    let n = c.loop-number.number in
    let d = c.index-decisions-number.result in
    let h = c.in-Some.ensures.some ds placed in
    first-twice ds c.in-Some.first n d (element_at ds n d (omega arith) c.index-decisions-number.is) h.0
    (subst (λ t. IsFirstOn ds t c.in-Some.first) c.tx.ensures h.1) (c.loop-number.invariant placed)
