use Rattle.std.proofs.Common.{get_or}
use Rattle.std.proofs.lemmas.Option.{slice_get-get_or}
use Rattle.sgt_names.proofs.Lists.{All-next, All-whole}
use Rattle.sgt_graph.specs.declared.edge.Edge.{Edge}
use Rattle.sgt_history_kept.specs.Placed.{LeadsOn}
use Rattle.sgt_history_kept.proofs.places.all_lead_on.Goals as goal

pub loop-at-preserved : goal.loop-at-preserved
loop-at-preserved c =
    let d : Edge = record { from = 0; to = 0 } in
    let edges = c.args.edges.now in
    let at = c.loop-at.at in
    All-next (LeadsOn c.args.places.now) edges at (get_or edges at d)
    (slice_get-get_or edges at d c.loop-at-test.true) (c.leads_on.ensures c.if-not-leads_on.false)
    c.loop-at.invariant

pub returns : goal.returns
returns c = λ yes. All-whole (LeadsOn c.args.places.now) c.args.edges.now c.loop-at.at c.loop-at-test.false
    c.loop-at.invariant
