use Rattle.std.proofs.Common.{refl, sym, ◌∙◌}
use Rattle.std.proofs.lemmas.Slice.Eq.{bytes_eq-Decides}
use Rattle.sgt_audit_cells.proofs.Tracking.{got}
use Rattle.sgt_audit_cells.proofs.cell.checked.Goals as goal

pub returns-then-eq : goal.returns-then-eq
returns-then-eq c =
    let cell = c.in_ok-cell.cell.now in (
      cell,
      got _ _ _ _ refl c.in_ok-cell.ensures.lookup.0 c.in_ok-cell.ensures.lookup.1,
      (bytes_eq-Decides cell.name c.args.item.now).0 (sym c.eq.ensures ∙ c.if-eq.true),
    )
