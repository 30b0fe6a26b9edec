use Rattle.std.proofs.Common.{List, All, take}
use Rattle.sgt_names.specs.declared.entry.Entry.{Entry}
use Rattle.sgt_names.specs.declared.entry.Holding.{Holding}
use Rattle.sgt_audit_cells.specs.Tracks.{TracksOpen}
use Rattle.sgt_audit.specs.Kept.{IsMet}
use Rattle.sgt_audit.proofs.walks.are_met.Given as goal

abbrev pub invariant-loop-edge : goal.invariant-loop-edge
invariant-loop-edge l = (items : List Holding) (entries : List Entry)
    → TracksOpen l.certificate.decisions items entries l.state → All (IsMet entries) (take l.edge-index l.edges)
