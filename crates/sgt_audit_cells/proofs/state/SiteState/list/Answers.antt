use Rattle.std.proofs.Common.{refl, ap, ◌∙◌, ◌++◌, ◌∷◌, []}
use Rattle.sgt_audit_cells.proofs.Listing.{listed}
use Rattle.sgt_audit_cells.proofs.state.SiteState.list.Goals as goal

pub returns-clause-tracks : goal.returns-clause-tracks
returns-clause-tracks c ds items new t =
    listed ds items c.args.holding.now c.args.self.now _ new t (c.in_ok-push.ensures.items
    ∙ ap (λ d. c.args.self.now.cells.items ++ d ∷ []) c.fresh_cell.ensures) refl refl refl
