use Rattle.std.proofs.Common.{◌++◌, ◌∷◌, [], sym, subst}
use Rattle.sgt_audit_cells.specs.Tracks.{TracksOpen}
use Rattle.sgt_bundle.proofs.InRange.{on_ok-anyway}
use Rattle.sgt_audit_cells.proofs.state.SiteState.enter.Goals as goal

pub returns-then-plain-clause-tracks : goal.returns-then-plain-clause-tracks
returns-then-plain-clause-tracks c ds items entries once apart listed among by ranked t =
    c.in_ok-enter_plain.ensures.tracks ds items entries once apart listed among by ranked
    (subst (λ rs. TracksOpen ds items entries (record c.args.self.now { records = rs })) (sym c.make_room.ensures) t)

pub returns-clause-tracks : goal.returns-clause-tracks
returns-clause-tracks c =
    on_ok-anyway c.keep_row.result (λ ds items entries once apart listed among by ranked t.
    subst (λ rs. TracksOpen ds items (entries ++ c.args.entry.now ∷ []) (record c.enter_plain.new.self {
      records =
          rs;
    })) (sym c.keep_row.ensures)
    (c.in_ok-enter_plain.ensures.tracks ds items entries once apart listed among by ranked
    (subst (λ rs. TracksOpen ds items entries (record c.args.self.now { records = rs })) (sym c.make_room.ensures) t)))
