use Rattle.std.proofs.Common.{List, ℕ, subst}
use Rattle.sgt_audit_workers.specs.private.Judging.{IsFoundOf}
use Rattle.sgt_audit_workers.proofs.judging.read.Goals as goal

pub returns : goal.returns
returns c = subst (λ (line : List ℕ). IsFoundOf c.args.second line c.find-found.result) c.as_slice.ensures.value
    c.find-found.ensures
