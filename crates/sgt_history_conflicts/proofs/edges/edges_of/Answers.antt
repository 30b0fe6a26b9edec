use Rattle.std.proofs.Common.{◌≡◌}
use Rattle.sgt_history.specs.declared.named.Graph.TheVariants.{WriteWrite, WithReads, Whole}
use Rattle.sgt_history_conflicts.proofs.Parting.{by-graph, joins, edges-are, whole-edges}
use Rattle.sgt_history_conflicts.proofs.edges.edges_of.Goals as goal

pub put_lines-requires : goal.put_lines-requires
put_lines-requires c = joins c.args.touches.now c.args.pairs.edges.items (c.requires Whole)

pub returns : goal.returns
returns c = λ h by. by-graph _
    (edges-are h c.args.touches.now by WriteWrite c.args.pairs.edges.items c.put_lines.new.edges.items
    c.args.pairs.write_write c.put_lines.ensures
    (c.requires WriteWrite))
    (edges-are h c.args.touches.now by WithReads c.args.pairs.edges.items c.put_lines.new.edges.items
    c.args.pairs.with_reads c.put_lines.ensures
    (c.requires WithReads))
    (whole-edges h c.args.touches.now by c.args.pairs.edges.items c.put_lines.new.edges.items c.put_lines.ensures
    (c.requires Whole))
