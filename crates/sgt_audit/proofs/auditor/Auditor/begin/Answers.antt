use Rattle.std.proofs.Common.{false, refl, subst, ◌∙◌}
use Rattle.sgt_notation.specs.Spelling.{HasNoLf}
use Rattle.sgt_audit.specs.declared.machine.Progress.TheVariants as at
use Rattle.sgt_audit.specs.Faults.{headed}
use Rattle.sgt_audit.proofs.Feeding.{first-read, first-fault}
use Rattle.sgt_audit.proofs.auditor.Auditor.begin.Goals as goal

pub returns-in-Ok-None-clause-read : goal.returns-in-Ok-None-clause-read
returns-in-Ok-None-clause-read k =
    first-read k.args.second k.line.new.self k.as_slice.result.now k.args.certificate (k.as_slice.ensures.value
    ∙ k.in-Ok.ensures.text)
    (rw k.in-Ok-None.field-0-is at (k.in-Ok-None.ensures.follows (headed k.args.second) refl))

pub returns-in-Ok-Some-clause-read : goal.returns-in-Ok-Some-clause-read
returns-in-Ok-Some-clause-read k =
    first-fault k.args.second (record { alloc = k.args.alloc; keeps = false; progress = at.Headed k.args.second })
    k.as_slice.result.now k.args.certificate k.in-Ok-Some.fault refl
    (subst HasNoLf k.in-Ok.ensures.text k.in-Ok.ensures.one_line) (k.as_slice.ensures.value ∙ k.in-Ok.ensures.text)
    (λ s stands. rw k.in-Ok-Some.field-0-is at (k.in-Ok-Some.ensures.follows s stands))
