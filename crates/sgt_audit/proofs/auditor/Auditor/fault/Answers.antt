use Rattle.std.proofs.Common.{subst, arith}
use Rattle.sgt_audit.specs.Fed.{HasRead, bundle_lines}
use Rattle.sgt_audit.proofs.Feeding.{found-verdict, known-none}
use Rattle.sgt_audit.proofs.auditor.Auditor.fault.Goals as goal

pub returns-in-Found-clause-first : goal.returns-in-Found-clause-first
returns-in-Found-clause-first k second c fed read long =
    found-verdict k.in-Found.first (bundle_lines second c fed)
    (subst (λ q. HasRead q (bundle_lines second c fed)) k.in-Found.is read) (omega (arith, long))

pub returns-in-Going-clause-none : goal.returns-in-Going-clause-none
returns-in-Going-clause-none k second c fed read going =
    known-none k.in-Going.field-0 k.in-Going.field-1 (bundle_lines second c fed)
    (subst (λ q. HasRead q (bundle_lines second c fed)) k.in-Going.is read)
