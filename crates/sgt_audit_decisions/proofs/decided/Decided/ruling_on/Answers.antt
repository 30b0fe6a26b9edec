use Rattle.std.proofs.Common.{ℕ, IsTrue, sym, ap, ◌∙◌, subst}
use Rattle.sgt_bundle.specs.Certificate.{IsCommitted}
use Rattle.sgt_bundle.specs.declared.certificate.Certificate.{Certificate}
use Rattle.sgt_audit_decisions.specs.Decided.{IsFound}
use Rattle.sgt_audit_decisions.specs.private.Table.{placed_at, IsTableOf}
use Rattle.sgt_audit_decisions.specs.private.Outcome.{rank_with}
use Rattle.sgt_audit_decisions.proofs.Found.{rank-found, suiting-found, no-ruling}
use Rattle.sgt_audit_decisions.proofs.Tables.{missed, found-decision, only-there}
use Rattle.sgt_audit_decisions.proofs.Outcomes.{rank-same, suits-by}
use Rattle.sgt_audit_decisions.proofs.decided.Decided.ruling_on.Goals as goal

pub returns-in-Some : goal.returns-in-Some
returns-in-Some c =
    let ds = c.args.self.now.decisions in
    let e = c.args.entry.now in
    let p = c.in-Some.placed in
    let f = placed_at c.self.inside.table in
    let table =
    subst (λ (k : Certificate). IsTableOf k.decisions c.self.inside.table) c.self.view_is c.self.invariant in
    let d = found-decision ds f table c.tx.result p c.in-Some.ensures in
    let only = only-there ds f table c.tx.result p c.in-Some.ensures in
    let ranked = rank-found ds c.tx.result p.number d.0 c.rank.result d.1 d.2 only (c.rank.ensures
    ∙ ap rank_with (sym d.3) ∙ rank-same d.0) in
    record {
      number = (d.0, d.1, d.2 ∙ c.tx.ensures);
      rank = subst (λ tx. IsFound (λ rank. (m : ℕ) × IsCommitted ds m tx rank) c.rank.result) c.tx.ensures ranked;
      suiting = suiting-found ds c.tx.result p.number d.0 d.1 d.2 only e c.suits.result c.told_if.result
          (sym c.tx.ensures) (suits-by e d.0 p.outcome (IsTrue c.suits.result) d.3 c.suits.ensures)
          c.told_if.ensures.told c.told_if.ensures.untold;
    }

pub returns-in-None : goal.returns-in-None
returns-in-None c =
    let ds = c.args.self.now.decisions in
    let table =
    subst (λ (k : Certificate). IsTableOf k.decisions c.self.inside.table) c.self.view_is c.self.invariant in
    let none = missed ds (placed_at c.self.inside.table) table c.tx.result (sym c.in-None.ensures) in
    no-ruling ds c.args.entry.now c.no_ruling.result (λ n by. none n (by.0, by.1, by.2 ∙ sym c.tx.ensures))
    c.no_ruling.ensures
