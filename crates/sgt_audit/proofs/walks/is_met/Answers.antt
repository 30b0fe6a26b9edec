use Rattle.std.proofs.Common.{sym, ◌∙◌, eq-eqb}
use Rattle.std.proofs.lemmas.Bool.{true≢false}
use Rattle.sgt_audit.proofs.SiteStates.{number-is}
use Rattle.sgt_audit.proofs.walks.is_met.Goals as goal

pub returns : goal.returns
returns c items entries t =
    let ds = c.args.certificate.now.decisions in
    let from = c.args.edge.now.from in
    let to = c.args.edge.now.step.to in
    let first =
    number-is ds from c.number_of-first.result c.number_of-first.ensures.some c.number_of-first.ensures.none in
    let second =
    number-is ds to c.number_of-second.result c.number_of-second.ensures.some c.number_of-second.ensures.none in
    c.have_conflict.ensures ds items entries from to t first second (λ e. true≢false (sym (eq-eqb _ _ e)
    ∙ sym c.eq.ensures ∙ c.if-eq.false))
