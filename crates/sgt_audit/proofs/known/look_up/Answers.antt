use Rattle.std.proofs.Common.{sym, subst, Some}
use Rattle.sgt_audit.specs.private.Known.{IsKnownLine}
use Rattle.sgt_audit.proofs.SiteStates.{known-none}
use Rattle.sgt_audit.proofs.known.look_up.Goals as goal

pub returns-in-Logged : goal.returns-in-Logged
returns-in-Logged c =
    subst (λ l. IsKnownLine c.args.certificate.now.decisions c.args.state.now l (Some c.look_up_entry.result))
    (sym c.in-Logged.is) c.look_up_entry.ensures

pub returns-in_default : goal.returns-in_default
returns-in_default c =
    known-none c.args.certificate.now.decisions c.args.state.now c.args.line.now c.in_default.not-Logged
