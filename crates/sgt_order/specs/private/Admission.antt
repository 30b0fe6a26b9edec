-- What an admission answers, said of a graph's parts.
use Rattle.std.specs.Prelude.{◌≡◌, ◌+◌, ◌<◌, ◌++◌, List, Any, Vec, length, vec_len}
use Rattle.std.specs.declared.alloc.Global.{Global}
use Rattle.sgt_arena.specs.declared.handle.Handle.{Handle}
use Rattle.sgt_edges.specs.declared.edge.Edge.{Edge}
use Rattle.sgt_order.specs.Graph.{IsAcyclic}
use Rattle.sgt_order.specs.declared.dag.Dag.{Dag}
use Rattle.sgt_order.specs.declared.fault.Admit.{Admit}
use Rattle.sgt_order.specs.declared.fault.Admit.TheVariants.{Cycle, Memory, Stale}
use Rattle.sgt_order.specs.SerializationGraph.{IsCycleThrough, Joins}
use Rattle.sgt_order.specs.private.Search.{in_window}
use Rattle.sgt_order.specs.private.Growth.{HaveRoom, HaveSpace}

-- an edge leads from h to a window before that of h
abbrev pub LeadsToOlder : Handle → List Edge → Type 0
LeadsToOlder h offered = Any (λ e. (e.from ≡ h) × (e.to.generation < h.generation)) offered

-- the edges once these are added
abbrev pub edges_with : Dag → Handle → List Edge → List Edge
edges_with dag h offered = dag.edges.items ++ in_window h offered

-- the room and the space that an admission needs are there
abbrev pub HasAllRoom : Dag → Vec Handle Global → Handle → List Edge → Type 0
HasAllRoom dag next h offered =
    HaveRoom dag next (vec_len dag.order + 1) (length (in_window h offered))
    × HaveSpace dag.nodes (in_window h offered)

-- why h isn't admitted
abbrev pub RefusesAdmission : Dag → Vec Handle Global → Handle → List Edge → Admit → Type 0
RefusesAdmission dag next h offered (Cycle walk) =
    IsCycleThrough (edges_with dag h offered) dag.order.items h walk
RefusesAdmission dag next h offered Stale = LeadsToOlder h offered
    × IsAcyclic (Joins (edges_with dag h offered))
RefusesAdmission dag next h offered Memory =
    IsAcyclic (Joins (edges_with dag h offered))
    → (LeadsToOlder h offered → ⊥) × (HasAllRoom dag next h offered → ⊥)
