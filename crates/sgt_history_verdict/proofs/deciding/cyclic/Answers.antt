use Rattle.std.proofs.Common.{◌∙◌, sym, subst}
use Rattle.sgt_history_conflicts.specs.Edges.{HasPairs}
use Rattle.sgt_history_verdict.proofs.Least.{edges-join, no-cycle-told, told-cycle-first}
use Rattle.sgt_history_verdict.proofs.deciding.cyclic.Goals as goal

pub shown_cycle-requires-clause-ends : goal.shown_cycle-requires-clause-ends
shown_cycle-requires-clause-ends c =
    let (h, found, least) = c.requires.found in
    edges-join h c.args.nodes c.args.edges c.args.graph c.edges_in.result.now found.conflicts found.size
    c.edges_in.ensures

pub unreachable-requires : goal.unreachable-requires
unreachable-requires c =
    let (h, found, least) = c.requires.found in
    no-cycle-told h c.args.edges c.args.graph c.edges_in.result.now found.conflicts c.edges_in.ensures _
    c.in_ok-cycle.ensures c.in_default.is least.has

pub returns : goal.returns
returns c = λ h by found least. record {
  faultless = by;
  pairs_are = subst (λ ts. HasPairs ts c.in_ok-pairs.pairs) c.as_slice.ensures.value c.in_ok-pairs.ensures;
  graph_is = least;
  cycle_is = told-cycle-first h c.args.edges c.args.graph c.edges_in.result.now found.conflicts c.edges_in.ensures _
      c.in-Some.cycle c.in_ok-cycle.ensures c.in-Some.is;
}
