use Rattle.std.proofs.Common.{sym, ◌∙◌}
use Rattle.std.proofs.lemmas.Option.{none-some}
use Rattle.sgt_audit_cells.proofs.Entering.{placed-item}
use Rattle.sgt_audit_cells.proofs.state.SiteState.place_of_entry.Goals as goal

pub returns-in-Some : goal.returns-in-Some
returns-in-Some c ds items entries t =
    placed-item ds items entries c.args.self.now c.args.entry.now c.in-Some.item c.place_of.result t
    (sym c.item_in.ensures ∙ c.in-Some.is) c.place_of.ensures.some c.place_of.ensures.none

pub returns-in-None : goal.returns-in-None
returns-in-None c ds items entries t =
    λ x on listed. absurd (none-some x (sym (sym c.item_in.ensures ∙ c.in-None.is) ∙ on))
