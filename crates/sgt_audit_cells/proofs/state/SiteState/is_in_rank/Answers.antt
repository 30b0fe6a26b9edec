use Rattle.std.proofs.Common.{ap, sym, ◌∙◌, Some, arith}
use Rattle.std.proofs.lemmas.Option.{get_or_from_slice_get, slice_get_within}
use Rattle.sgt_audit_cells.proofs.Tracking.{cell-named, cell-of}
use Rattle.sgt_audit_cells.proofs.state.SiteState.is_in_rank.Goals as goal

pub returns-then-place-len : goal.returns-then-place-len
returns-then-place-len c ds items entries x once are t at on by =
    let found = cell-of ds items entries c.args.self.now t c.args.place x at in
    let same = c.index.ensures ∙ get_or_from_slice_get _ c.args.place found.0 c.index.result.now found.1 in
    let cell = cell-named ds items entries c.args.self.now t c.args.place c.index.result.now x (found.1
    ∙ ap Some (sym same)) at in
    c.is_in_rank.ensures ds items entries once are cell.1 (on ∙ ap Some cell.0) by

pub returns-else-place-len : goal.returns-else-place-len
returns-else-place-len c ds items entries x once are t at on by =
    let found = cell-of ds items entries c.args.self.now t c.args.place x at in
    absurd (omega (
      arith,
      slice_get_within _ c.args.place found.0 found.1,
      c.len.ensures,
      c.args.self.now.cells.ok.0,
      c.if-place-len.false,
    ))
