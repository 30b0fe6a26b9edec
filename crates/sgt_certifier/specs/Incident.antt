-- The edges of one node, each by its other end.
use Rattle.std.specs.Prelude.{◌≡◌, ◌⊎◌, if◌then◌else◌}
use Rattle.sgt_arena.specs.declared.handle.Handle.{Handle}
use Rattle.sgt_edges.specs.declared.edge.Edge.{Edge}
use Rattle.sgt_certifier.specs.declared.handed.Incident.{Incident}

-- the edge has the node at an end
abbrev pub IsAt : Handle → Edge → Type 0
IsAt node e = (e.from ≡ node) ⊎ (e.to ≡ node)

-- the edge of the node that leads to or from the other end
abbrev pub edge_of : Handle → Incident → Edge
edge_of node i =
    if i.leads_out then record { from = node; to = i.other; label = i.label }
    else record { from = i.other; to = node; label = i.label }
