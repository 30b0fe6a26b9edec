use Rattle.std.proofs.Common.{◌≡◌, ◌∙◌, subst, sym}
use Rattle.sgt_audit_workers.specs.declared.sections.State.TheVariants.{Open}
use Rattle.sgt_audit_workers.specs.private.Texts.{IsLeftIn}
use Rattle.sgt_audit_workers.proofs.Left.{opened-of}
use Rattle.sgt_audit_workers.proofs.long.take_open.Goals as goal

pub returns-clause-opened : goal.returns-clause-opened
returns-clause-opened c first now left is =
    let text = c.args.text.now in
    let same : text.state ≡ Open c.in-Open.bytes c.in-Open.stop = sym c.replace-state.ensures.value ∙ c.in-Open.is in
    opened-of first now _ left c.in-Open.bytes.items c.in-Open.stop
    (subst (IsLeftIn first text.lines text.most now left) same is) c.state_behind.ensures
