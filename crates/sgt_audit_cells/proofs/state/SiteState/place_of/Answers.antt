use Rattle.std.proofs.Common.{All, ◌≢◌, subst}
use Rattle.sgt_audit_cells.proofs.Entering.{none-map}
use Rattle.sgt_audit_cells.proofs.Tracking.{not-listed}
use Rattle.sgt_audit_cells.proofs.state.SiteState.place_of.Goals as goal

pub returns-in-None-checked-clause-none : goal.returns-in-None-checked-clause-none
returns-in-None-checked-clause-none c =
    none-map c.search.result (λ none ds items entries t here. not-listed ds items entries c.args.self.now t
    c.args.item.now (subst (All (λ d. d.name ≢ c.args.item.now)) c.as_slice-cells.ensures.value none) here)
    c.search.ensures.none
