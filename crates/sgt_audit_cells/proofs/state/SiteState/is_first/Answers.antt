use Rattle.std.proofs.Common.{refl, subst}
use Rattle.sgt_names.specs.Entry.{tx_of}
use Rattle.sgt_audit_cells.specs.Tracks.{IsNumberOf}
use Rattle.sgt_audit_cells.proofs.Tracking.{record-of, undecided-new}
use Rattle.sgt_names.proofs.Elements.{none-unless_some}
use Rattle.sgt_audit_cells.proofs.state.SiteState.is_first.Goals as goal

pub returns-in_default : goal.returns-in_default
returns-in_default c ds items entries x t at on number =
    let none = subst (IsNumberOf ds (tx_of c.args.entry.now)) (none-unless_some c.args.number c.in_default.not-Some)
    number in
    (λ h. undecided-new ds items entries c.args.self.now t c.args.entry.now none, λ all. refl)

pub returns : goal.returns
returns c ds items entries x t at on number =
    let by = subst (IsNumberOf ds (tx_of c.args.entry.now)) c.in-Some.is number in
    let there = record-of ds items entries c.args.self.now t c.in-Some.number (tx_of c.args.entry.now) by in
    c.is_first.ensures there.0 _ entries x there.1 at on there.2.acts
