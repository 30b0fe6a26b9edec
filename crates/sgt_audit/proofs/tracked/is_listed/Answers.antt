use Rattle.std.proofs.Common.{sym, ap, ◌∙◌}
use Rattle.std.specs.Prelude.{is_some}
use Rattle.sgt_names.specs.Log.{names}
use Rattle.sgt_audit.proofs.SiteStates.{listed-there, listed-missing}
use Rattle.sgt_audit.proofs.tracked.is_listed.Goals as goal

pub returns-in-Some : goal.returns-in-Some
returns-in-Some c ds state items entries k t =
    listed-there (names items) c.args.entry.now c.args.known.now.place _ c.in-Some.is (k.place items entries t)

pub returns-in-None : goal.returns-in-None
returns-in-None c ds state items entries k t =
    listed-missing (names items) c.args.entry.now c.args.known.now.place c.is_none.result c.in-None.is
    (ap is_some (sym c.item_in.ensures) ∙ c.is_none.ensures) (k.place items entries t)
