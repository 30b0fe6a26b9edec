use Rattle.std.proofs.Common.{ap}
use Rattle.sgt_names.specs.Entry.{item_of}
use Rattle.sgt_names.specs.Log.{names}
use Rattle.sgt_audit.proofs.SiteStates.{placed-at, placed-none, legal-at}
use Rattle.std.proofs.lemmas.Option.{none-some}
use Rattle.std.proofs.Common.{sym, ◌∙◌}
use Rattle.sgt_audit.proofs.tracked.is_legal.Goals as goal

pub returns-in-Some : goal.returns-in-Some
returns-in-Some c ds items entries k t listed =
    let e = c.args.entry.now in
    let at = placed-at (names items) e c.args.known.now.place c.in-Some.place c.in-Some.is (k.place items entries t) in
    legal-at items entries e _ _ _ c.has_value.result c.in-Some.place c.in-Read.is at
    (λ x on. c.has_value.ensures ds items entries x t on)

pub returns-in-None : goal.returns-in-None
returns-in-None c ds items entries k t listed =
    absurd (none-some _
    (sym (placed-none (names items) c.args.entry.now c.args.known.now.place c.in-None.is listed
    (k.place items entries t)) ∙ ap item_of c.in-Read.is))
