use Rattle.std.proofs.Common.{◌≡◌, ◌∙◌}
use Rattle.sgt_history_conflicts.proofs.Parting.{by-graph, three-parts}
use Rattle.sgt_history_conflicts.proofs.edges.pairs_of.Goals as goal

pub returns : goal.returns
returns c =
    let t = three-parts c.args.touches.now c.new-edges.result.items c.push_forward.new.pairs.items
    c.push_forward-2.new.pairs.items
    c.push_backward.new.pairs.items c.len-write_write.result c.len-with_reads.result c.new-edges.ensures.items
    c.in_ok-push_forward.ensures c.in_ok-push_forward-2.ensures c.in_ok-push_backward.ensures
    (c.len-write_write.ensures ∙ c.push_forward.new.pairs.ok.0) (c.len-with_reads.ensures
    ∙ c.push_forward-2.new.pairs.ok.0) in
    by-graph _ t.first t.second t.third
