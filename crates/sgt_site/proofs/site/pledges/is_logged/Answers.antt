use Rattle.std.proofs.Common.{sym, ◌∙◌, subst}
use Rattle.std.proofs.lemmas.Bool.{eqb-true}
use Rattle.std.proofs.lemmas.Option.{same_Some}
use Rattle.sgt_site.specs.private.Cells.{InCells}
use Rattle.sgt_site.proofs.site.pledges.is_logged.Goals as goal

pub returns-in-Some : goal.returns-in-Some
returns-in-Some c = (
  λ hit at seen is. subst (InCells c.args.cells.now c.args.tx c.args.touch.now.item)
      (same_Some c.in-Some.seen seen (sym c.in-Some.is ∙ is))
      ((c.seen_by.ensures c.in-Some.seen).0 (c.is_same.ensures.0 hit)),
  λ logged. c.is_same.ensures.1
      ((c.seen_by.ensures c.in-Some.seen).1 (logged (eqb-true _ _ (sym c.if-eq.ensures)) c.in-Some.seen c.in-Some.is)),
)
