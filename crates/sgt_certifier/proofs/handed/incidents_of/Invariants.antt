use Rattle.std.proofs.Common.{◌≡◌, map, take}
use Rattle.sgt_certifier.specs.Incident.{edge_of}
use Rattle.sgt_certifier.proofs.handed.incidents_of.Given as goal

abbrev pub invariant-loop-edge : goal.invariant-loop-edge
invariant-loop-edge l = map (edge_of l.node) l.incidents.items ≡ take l.edge-index l.edges
