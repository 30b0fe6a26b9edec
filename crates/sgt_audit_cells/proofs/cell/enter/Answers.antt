use Rattle.std.proofs.Common.{sym, ap, ◌∙◌, ◌++◌, ◌∷◌, [], Some, ◌≡◌, get_or, subst, arith}
use Rattle.std.proofs.lemmas.Option.{get_or_from_slice_get}
use Rattle.sgt_names.specs.Log.{names}
use Rattle.sgt_audit_cells.specs.Cells.{IsCell}
use Rattle.sgt_audit_cells.specs.declared.cell.Cell.{Cell}
use Rattle.sgt_audit_cells.specs.private.Noted.{IsPlaceOf, noted}
use Rattle.sgt_audit_cells.proofs.Entering.{cell-there, past-cells, cells-ended}
use Rattle.sgt_audit_cells.proofs.Noted.{cells-entered, noted-cell, noted-name}
use Rattle.sgt_audit_cells.proofs.cell.enter.Goals as goal

pub returns-then-place-cells : goal.returns-then-place-cells
returns-then-place-cells c ds items entries once apart is on by =
    let cells = c.args.cells.now in
    let e = c.args.entry.now in
    let rank = c.args.rank in
    let place = c.in-Some.place in
    let there = cell-there ds items entries cells is e place (subst (IsPlaceOf (names items) e) c.in-Some.is on) in
    let d = there.0 in
    let read = c.index-cells-place.result in
    let at = get_or_from_slice_get cells place d d there.1 in
    let got = get_or_from_slice_get cells place d read there.1 in
    let old = is.each place read (omega (arith, c.if-place-cells.true)) in
    let own = there.2 ∙ ap (λ (x : Cell). Some x.name) (sym got) in
    let named = ap (λ (x : Cell). x.name) c.note.ensures ∙ noted-name (get_or cells place read) e rank in
    let new = subst (IsCell ds items (entries ++ e ∷ [])) (sym c.note.ensures)
    (noted-cell ds items entries (get_or cells place read) old e rank once own by) in
    cells-entered ds items entries cells place c.note.new.cell d e (omega (arith, c.if-place-cells.true)) is apart
    (there.2 ∙ ap (λ (x : Cell). Some x.name) (sym at)) (named ∙ ap (λ (x : Cell). x.name) (got ∙ sym at)) new

pub returns-else-place-cells : goal.returns-else-place-cells
returns-else-place-cells c ds items entries once apart are on by =
    let placed = subst (IsPlaceOf (names items) c.args.entry.now) c.in-Some.is on in
    absurd (past-cells ds items entries c.args.cells.now are c.args.entry.now c.in-Some.place placed
    c.if-place-cells.false)

pub returns-in_default : goal.returns-in_default
returns-in_default c ds items entries once apart are on by =
    cells-ended ds items entries c.args.cells.now are c.args.entry.now c.args.place c.in_default.not-Some on
