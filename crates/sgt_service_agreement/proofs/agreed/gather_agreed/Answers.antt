use Rattle.sgt_service_agreement.proofs.Agreeing.{handed-on}
use Rattle.sgt_service_agreement.proofs.agreed.gather_agreed.Goals as goal

pub returns-in_err-gather-clause-refused : goal.returns-in_err-gather-clause-refused
returns-in_err-gather-clause-refused c =
    let history = c.args.certifier.now.history in
    let agree = c.agrees-agreed.ensures.0 c.if-not-agreed.false in
    handed-on c.from_residual.result history c.args.site.now c.args.tx c.args.draft.now.touched
    c.in_err-gather.field-0.0
    c.from_residual.ensures.1 agree c.in_err-gather.ensures.refused

pub returns-in_err-gather-clause-differs : goal.returns-in_err-gather-clause-differs
returns-in_err-gather-clause-differs c = λ none. absurd (none (c.agrees-agreed.ensures.0 c.if-not-agreed.false))

pub returns-clause-agreed : goal.returns-clause-agreed
returns-clause-agreed c = c.agrees-agreed.ensures.0 c.if-not-agreed.false

pub returns-clause-differs : goal.returns-clause-differs
returns-clause-differs c = λ none. absurd (none (c.agrees-agreed.ensures.0 c.if-not-agreed.false))
