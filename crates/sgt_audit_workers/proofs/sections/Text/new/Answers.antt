use Rattle.std.proofs.Common.{ap, arith, refl, subst, sym}
use Rattle.sgt_names.specs.Limits.{most_reads}
use Rattle.sgt_notation.specs.Lines.{Ahead, Spends}
use Rattle.sgt_audit_workers.proofs.Heads.{all-comes}
use Rattle.sgt_notation.proofs.Fronts.{spends_none}
use Rattle.sgt_audit_workers.proofs.sections.Text.new.Goals as goal

pub returns-clause-left : goal.returns-clause-left
returns-clause-left c first =
    let reads = ap (λ (a : Ahead). a.reads) c.in_ok-new.ensures in (
      sym (all-comes c.in_ok-new.field-0 first.told c.in_ok-new.ensures),
      subst (λ n. Spends most_reads first.told n first.told) (sym reads) (spends_none most_reads first.told),
    )

pub returns-clause-asked : goal.returns-clause-asked
returns-clause-asked c first = record {
  asks = omega (arith, ap (λ (a : Ahead). a.reads) c.in_ok-new.ensures);
  once =
      omega arith;
  fails = refl;
}
