use Rattle.std.proofs.Common.{subst, sym}
use Rattle.sgt_bundle.specs.declared.certificate.Certificate.{Certificate}
use Rattle.sgt_audit_decisions.specs.private.Table.{placed_at, IsTableOf}
use Rattle.sgt_audit_decisions.proofs.Tables.{missed, found-decision}
use Rattle.sgt_audit_decisions.proofs.decided.Decided.number_of.Goals as goal

pub returns-in-Some-clause-some : goal.returns-in-Some-clause-some
returns-in-Some-clause-some c =
    let table =
    subst (λ (k : Certificate). IsTableOf k.decisions c.self.inside.table) c.self.view_is c.self.invariant in
    let d = found-decision c.args.self.now.decisions (placed_at c.self.inside.table) table c.args.tx c.in-Some.placed
    c.in-Some.ensures in
    (d.0, d.1, d.2)

pub returns-in-None-clause-none : goal.returns-in-None-clause-none
returns-in-None-clause-none c =
    let table =
    subst (λ (k : Certificate). IsTableOf k.decisions c.self.inside.table) c.self.view_is c.self.invariant in
    missed c.args.self.now.decisions (placed_at c.self.inside.table) table c.args.tx (sym c.in-None.ensures)
