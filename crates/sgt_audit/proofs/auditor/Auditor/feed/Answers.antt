use Rattle.std.proofs.Common.{◌∷◌, [], ◌++◌, sym, subst}
use Rattle.sgt_audit.specs.Fed.{HasRead, bundle_lines}
use Rattle.sgt_audit.proofs.Feeding.{fault-read, found-read}
use Rattle.sgt_audit.proofs.auditor.Auditor.feed.Goals as goal

pub returns-in-Ok-Some-clause-read : goal.returns-in-Ok-Some-clause-read
returns-in-Ok-Some-clause-read k second c fed read =
    let lines = bundle_lines second c fed in
    fault-read k.in-Going.machine k.in-Going.number lines k.args.line.now k.in-Ok-Some.fault k.requires
    (subst (λ q. HasRead q lines) k.in-Going.is read)
    (λ s stands. rw k.in-Ok-Some.field-0-is at (k.in-Ok-Some.ensures.follows s stands))

pub returns-in-Found-clause-read : goal.returns-in-Found-clause-read
returns-in-Found-clause-read k second c fed read =
    let lines = bundle_lines second c fed in
    subst (λ q. HasRead q (lines ++ k.args.line.now ∷ [])) (sym k.in-Found.is)
    (found-read k.in-Found.field-0 lines k.args.line.now (subst (λ q. HasRead q lines) k.in-Found.is read))
