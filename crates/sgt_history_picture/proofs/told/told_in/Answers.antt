use Rattle.sgt_history_picture.specs.Told.{kind_text}
use Rattle.sgt_history_picture.proofs.Steps.{behind-from, behind-kind, kind-word}
use Rattle.sgt_history_picture.proofs.told.told_in.Goals as goal

pub returns-in_err-word-clause-none : goal.returns-in_err-word-clause-none
returns-in_err-word-clause-none c = rw c.from_residual-in_err-word.ensures (λ s is whole.
    let first = behind-from _ _ _ s c.in_ok-from.ensures.some.0 c.in_ok-from.ensures.some.1 is whole in
    c.in_err-word.ensures.none (kind_text s.kind) _ (kind-word s.kind) first.1)

pub returns-in_err-kind-clause-none : goal.returns-in_err-kind-clause-none
returns-in_err-kind-clause-none c = rw c.from_residual-in_err-kind.ensures (λ s is whole.
    let first = behind-from _ _ _ s c.in_ok-from.ensures.some.0 c.in_ok-from.ensures.some.1 is whole in
    let second = behind-kind _ _ _ s c.in_ok-word.ensures.some.0 c.in_ok-word.ensures.some.1 first.1 in
    c.in_err-kind.ensures.none s.kind second.0)

pub returns-in_err-to-clause-none : goal.returns-in_err-to-clause-none
returns-in_err-to-clause-none c = rw c.from_residual-in_err-to.ensures (λ s is whole.
    let first = behind-from _ _ _ s c.in_ok-from.ensures.some.0 c.in_ok-from.ensures.some.1 is whole in
    let second = behind-kind _ _ _ s c.in_ok-word.ensures.some.0 c.in_ok-word.ensures.some.1 first.1 in
    c.in_err-to.ensures.none s.to s.about is.1 second.1)
