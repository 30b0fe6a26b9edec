use Rattle.std.proofs.Common.{◌∷◌, ◌∙◌, ap, arith, sym}
use Rattle.sgt_audit_workers.proofs.Given.{first-out}
use Rattle.sgt_audit_workers.proofs.workers.first.Goals as goal

pub returns-clause-some : goal.returns-clause-some
returns-clause-some c = first-out _ _ (omega arith) c.remove.ensures.value
    ∙ ap (λ xs. c.remove.result ∷ xs) (sym c.remove.ensures.items)
