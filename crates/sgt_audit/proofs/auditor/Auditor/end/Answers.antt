use Rattle.std.proofs.Common.{subst, arith}
use Rattle.sgt_notation.specs.Spelling.{text_of_lines}
use Rattle.sgt_audit.specs.Fed.{HasRead, bundle_lines}
use Rattle.sgt_audit.proofs.Feeding.{end-judged, found-judged}
use Rattle.sgt_audit.proofs.auditor.Auditor.end.Goals as goal

pub returns-in-Going-clause-verdict : goal.returns-in-Going-clause-verdict
returns-in-Going-clause-verdict k second c fed read few =
    let lines = bundle_lines second c fed in
    k.verdict_on.ensures (text_of_lines lines)
    (end-judged k.in-Going.machine k.in-Going.line k.end.result lines
    (subst (λ q. HasRead q lines) k.in-Going.is read) (omega (arith, few))
    (λ s stands. k.end.ensures.ends s stands (omega arith)))

pub returns-in-Found-clause-verdict : goal.returns-in-Found-clause-verdict
returns-in-Found-clause-verdict k second c fed read few =
    let lines = bundle_lines second c fed in
    k.verdict_on-in-Found.ensures (text_of_lines lines)
    (found-judged k.in-Found.first lines (subst (λ q. HasRead q lines) k.in-Found.is read) (omega (arith, few)))
