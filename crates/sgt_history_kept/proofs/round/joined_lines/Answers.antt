use Rattle.std.proofs.Common.{get_or}
use Rattle.std.proofs.lemmas.Option.{slice_get-get_or}
use Rattle.sgt_names.proofs.Places.{Contains-from_at}
use Rattle.sgt_graph.specs.declared.edge.Edge.{Edge}
use Rattle.sgt_history_kept.proofs.round.joined_lines.Goals as goal

pub loop-at-init : goal.loop-at-init
loop-at-init c = c.in_ok-joined.ensures c.args.edges.now

pub loop-at-preserved : goal.loop-at-preserved
loop-at-preserved c =
    let d : Edge = record { from = 0; to = 0 } in
    let edges = c.args.edges.now in
    let at = c.loop-at.at in
    c.note.ensures edges
    (Contains-from_at edges at (get_or edges at d) (slice_get-get_or edges at d c.loop-at-test.true))
    c.loop-at.invariant
