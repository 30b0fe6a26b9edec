use Rattle.std.proofs.Common.{refl, sym, ap, subst, ◌∙◌}
use Rattle.std.specs.Prelude.{is_some}
use Rattle.std.proofs.lemmas.Bool.{le-ltb}
use Rattle.sgt_bundle.specs.declared.certificate.Certificate.{Certificate}
use Rattle.sgt_bundle.specs.declared.certificate.Decision.TheVariants.{Commit}
use Rattle.sgt_audit_decisions.specs.private.Table.{placed_at, IsTableOf}
use Rattle.sgt_audit_decisions.proofs.Loops.{answered-no}
use Rattle.sgt_audit_decisions.specs.private.Outcome.{rank_with}
use Rattle.sgt_audit_decisions.proofs.Outcomes.{commit-ranked}
use Rattle.sgt_audit_decisions.proofs.Found.{commits-before, committed-late}
use Rattle.sgt_audit_decisions.proofs.Tables.{missed, found-decision, only-there}
use Rattle.sgt_audit_decisions.proofs.decided.Decided.is_committed_before.Goals as goal

pub returns-then-placed-number : goal.returns-then-placed-number
returns-then-placed-number c =
    let ds = c.args.self.now.decisions in
    let p = c.in-Some.placed in
    let f = placed_at c.self.inside.table in
    let table =
    subst (λ (k : Certificate). IsTableOf k.decisions c.self.inside.table) c.self.view_is c.self.invariant in
    let d = found-decision ds f table c.args.tx p c.in-Some.ensures in
    commits-before ds c.args.tx p.number d.0 c.is_some.result c.args.number d.1 d.2
    (only-there ds f table c.args.tx p c.in-Some.ensures) c.if-placed-number.true
    (c.is_some.ensures ∙ ap is_some (c.rank.ensures ∙ ap rank_with (sym d.3)) ∙ commit-ranked d.0)

pub returns-else-placed-number : goal.returns-else-placed-number
returns-else-placed-number c =
    let ds = c.args.self.now.decisions in
    let p = c.in-Some.placed in
    let f = placed_at c.self.inside.table in
    let table =
    subst (λ (k : Certificate). IsTableOf k.decisions c.self.inside.table) c.self.view_is c.self.invariant in
    let d = found-decision ds f table c.args.tx p c.in-Some.ensures in
    rw (le-ltb p.number c.args.number c.if-placed-number.false) (
    answered-no (committed-late ds c.args.tx p.number d.0 d.1 d.2
    (only-there ds f table c.args.tx p c.in-Some.ensures) c.args.number c.if-placed-number.false))

pub returns-in-None : goal.returns-in-None
returns-in-None c =
    let table =
    subst (λ (k : Certificate). IsTableOf k.decisions c.self.inside.table) c.self.view_is c.self.invariant in
    let none = missed c.args.self.now.decisions (placed_at c.self.inside.table) table c.args.tx (sym c.in-None.ensures) in
    answered-no (λ (m, rank, lt, by). none m (Commit c.args.tx rank, by, refl))
