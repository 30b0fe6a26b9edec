use Rattle.std.proofs.Common.{◌↔◌, IsTrue, List, subst}
use Rattle.sgt_bundle.specs.declared.certificate.Decision.{Decision}
use Rattle.sgt_audit.specs.Faults.{KeepsItself}
use Rattle.sgt_audit.specs.declared.faults.Fault.TheVariants as fault
use Rattle.sgt_audit_workers.proofs.Heads.{keeps-all}
use Rattle.sgt_audit_workers.proofs.rules.keeps_rules.Goals as goal

pub returns-then-ranks : goal.returns-then-ranks
returns-then-ranks g c =
    let ranks =
    subst (λ (ds : List Decision). IsTrue c.in_ok-ranks.ranks ↔ KeepsItself ds fault.Ranks)
    c.decisions-decisions.ensures.same (rw c.in_ok-ranks.was at c.join-ranks.ensures.first) in
    let walks = rw c.in_ok-walks.was at c.join-ranks.ensures.second in (
      λ is. keeps-all c.args.certificate.now.decisions (ranks.0 c.if-ranks.true) c.decisions-decisions.ensures.once
          (walks.0 is),
      λ all. walks.1 (all fault.WalkShape),
    )

pub returns-else-ranks : goal.returns-else-ranks
returns-else-ranks g c =
    let ranks =
    subst (λ (ds : List Decision). IsTrue c.in_ok-ranks.ranks ↔ KeepsItself ds fault.Ranks)
    c.decisions-decisions.ensures.same (rw c.in_ok-ranks.was at c.join-ranks.ensures.first) in (
      λ is. absurd (cc (is, c.if-ranks.false)),
      λ all. ranks.1 (all fault.Ranks),
    )
