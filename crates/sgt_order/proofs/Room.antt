-- The room for an admission, as contracts see it and as the parts have it.
use Rattle.std.proofs.Common.{◌≡◌, ℕ, ◌+◌, ◌-◌, ◌<◌, ◌≤◌, List, ◌++◌, length, Option, sym, ap, ◌∙◌, subst, arith, min, Vec, vec_len, vec_capacity}
use Rattle.std.specs.Prelude.{filter, slice_index, Result, Ok, Err, IfErr, Any}
use Rattle.std.specs.declared.alloc.Global.{Global}
use Rattle.sgt_arena.specs.declared.handle.Handle.{Handle}
use Rattle.sgt_edges.specs.declared.edge.Edge.{Edge}
use Rattle.sgt_order.specs.declared.dag.Dag.{Dag}
use Rattle.sgt_order.specs.declared.fault.Admit.{Admit}
use Rattle.sgt_order.specs.declared.fault.Admit.TheVariants.{Cycle, Memory, Stale}
use Rattle.sgt_order.specs.Graph.{IsAcyclic}
use Rattle.sgt_order.specs.SerializationGraph.{SerializationGraph, HasRoomFor, AdmitRefuses, IsCycleThrough, Joins, LeadsBack, present, is_present, leaves}
use Rattle.sgt_order.specs.private.Parts.{FitTogether, Lists, transactions_of, rooms_of}
use Rattle.sgt_order.specs.private.Rows.{RowsCover}
use Rattle.sgt_order.specs.private.Search.{IsAtRest, no_marks}
use Rattle.sgt_order.specs.private.Growth.{KeepsRoom, HaveRoom, HaveSpace}
use Rattle.sgt_order.specs.private.Admission.{HasAllRoom, LeadsToOlder, RefusesAdmission, edges_with}
use Rattle.sgt_order.proofs.Growing.{space_kept}
use Rattle.sgt_order.proofs.Sound.{same_long, sound_widened, space_from_seen, space_seen}

-- the edges of the graph's window
abbrev pub present_in : Dag → List Edge → List Edge
present_in dag offered = filter (is_present dag.nodes.generation) offered

-- what HasRoomFor says of the graph that is seen of these parts
pub record RoomSeen (dag : Dag) (next : Vec Handle Global) (offered : List Edge) : Type 0 where
  pub order : length dag.order.items < min (vec_capacity next) (vec_capacity dag.order)
  pub edges : length (present_in dag offered) ≤ vec_capacity dag.edges - vec_len dag.edges
  pub nodes : (h : Handle) → h.generation ≡ dag.nodes.generation → h.index < length (transactions_of dag.nodes)
      → length (filter (leaves h) (present_in dag offered)) ≤ slice_index (rooms_of dag.nodes) h.index

-- the same edges are of the window
same_window : (old new : Dag) (offered : List Edge) → new.nodes.generation ≡ old.nodes.generation
    → present_in new offered ≡ present_in old offered
same_window old new offered same = ap (λ (g : ℕ). filter (is_present g) offered) same

-- room stays
pub room_kept : (old new : Dag) (next next' : Vec Handle Global) (offered : List Edge)
    → Lists old.nodes old.edges.items → Lists new.nodes new.edges.items → KeepsRoom old new next next'
    → RoomSeen old next offered → RoomSeen new next' offered
room_kept old new next next' offered before after keeps room =
    let given = present_in old offered in
    let same = same_window old new offered keeps.nodes.same.generation in
    let space = space_from_seen old.nodes old.edges.items given before room.nodes in
    let listed = subst (Lists new.nodes) keeps.edges after in
    let still = space_kept old.nodes new.nodes old.edges.items given before listed keeps.nodes space in
    record {
      order = omega (arith, room.order, keeps.order_room, keeps.next_room, ap length keeps.order);
      edges = omega (
        arith,
        room.edges,
        keeps.edge_room,
        ap length keeps.edges,
        old.edges.ok,
        new.edges.ok,
        ap length same,
      );
      nodes = λ h window within. omega (
        arith,
        space_seen new.nodes given h still window within,
        ap (λ (z : List Edge). length (filter (leaves h) z)) same,
      );
    }

-- the room that was made is seen
pub room_made : (old new : Dag) (next : Vec Handle Global) (offered : List Edge)
    → new.nodes.generation ≡ old.nodes.generation → new.order.items ≡ old.order.items
    → HaveRoom new next (vec_len old.order + 1) (length (present_in old offered))
    → HaveSpace new.nodes (present_in old offered) → RoomSeen new next offered
room_made old new next offered window order room space =
    let same = same_window old new offered window in
    record {
      order = omega (arith, room.0, room.1, ap length order, old.order.ok, new.order.ok);
      edges = omega (arith, room.2, new.edges.ok, ap length same);
      nodes = λ h at within. omega (
        arith,
        space_seen new.nodes (present_in old offered) h space at within,
        ap (λ (z : List Edge). length (filter (leaves h) z)) same,
      );
    }

-- the room that is seen is there
pub room_there : (dag : Dag) (next : Vec Handle Global) (offered : List Edge) → Lists dag.nodes dag.edges.items
    → RoomSeen dag next offered → HaveRoom dag next (vec_len dag.order + 1) (length (present_in dag offered))
    × HaveSpace dag.nodes (present_in dag offered)
room_there dag next offered lists room = (
  (
    omega (arith, room.order, dag.order.ok),
    omega (arith, room.order, dag.order.ok),
    omega (arith, room.edges, dag.edges.ok),
  ),
  space_from_seen dag.nodes dag.edges.items (present_in dag offered) lists room.nodes,
)

-- at rest as before
pub rest_kept : (old new : Dag) (next next' : Vec Handle Global) (marks ms : List (Option Edge)) → IsAtRest old marks
    → KeepsRoom old new next next' → new.rows ≡ old.rows → Lists new.nodes new.edges.items → ms ≡ marks
    → IsAtRest new ms
rest_kept old new next next' marks ms rest keeps rows lists same =
    let listed = subst (Lists new.nodes) keeps.edges lists in
    let sound = sound_widened old.nodes new.nodes old.order.items old.edges.items rest.sound keeps.nodes listed in
    record {
      sound = subst (λ o. FitTogether new.nodes o new.edges.items) (sym keeps.order)
          (subst (λ es. FitTogether new.nodes old.order.items es) (sym keeps.edges) sound);
      rows = subst (λ rs. RowsCover rs new.edges.items) (ap (λ v. v.items) (sym rows))
          (subst (RowsCover old.rows.items) (sym keeps.edges) rest.rows);
      bare = same ∙ (rest.bare ∙ ap no_marks (sym (same_long old.nodes new.nodes keeps.nodes.same)));
    }

-- why a node isn't admitted, as a contract says it
pub refusal_seen : (dag : Dag) (next : Vec Handle Global) (graph : SerializationGraph) (h : Handle)
    (slice offered : List Edge) → edges_with dag h slice ≡ graph.edges ++ present graph offered
    → dag.order.items ≡ graph.order → (LeadsToOlder h slice → LeadsBack graph h offered)
    → (LeadsBack graph h offered → LeadsToOlder h slice) → (HasRoomFor graph offered → HasAllRoom dag next h slice)
    → (fault : Admit) → RefusesAdmission dag next h slice fault → AdmitRefuses graph h offered fault
refusal_seen dag next graph h slice offered edges order forth back room (Cycle walk) told =
    subst (λ o. IsCycleThrough (graph.edges ++ present graph offered) o h walk) order
    (subst (λ es. IsCycleThrough es dag.order.items h walk) edges told)
refusal_seen dag next graph h slice offered edges order forth back room Stale told =
    (forth told.0, subst (λ es. IsAcyclic (Joins es)) edges told.1)
refusal_seen dag next graph h slice offered edges order forth back room Memory told = λ acyclic.
    let not = told (subst (λ es. IsAcyclic (Joins es)) (sym edges) acyclic) in
    (λ b. not.0 (back b), λ r. not.1 (room r))

pub if_err_map : {T E : Type 0} (r : Result T E) (P Q : E → Type 0) → ((e : E) → P e → Q e) → IfErr r P → IfErr r Q
if_err_map (Ok x) P Q f told = tt
if_err_map (Err e) P Q f told = f e told

-- the same, of other edges and another window
pub older_same : (h : Handle) (xs ys : List Edge) (m n : ℕ) → xs ≡ ys → m ≡ n
    → Any (λ (e : Edge). (e.from ≡ h) × (e.to.generation < m)) xs
    → Any (λ (e : Edge). (e.from ≡ h) × (e.to.generation < n)) ys
older_same h xs ys m n same window any =
    subst (λ zs. Any (λ (e : Edge). (e.from ≡ h) × (e.to.generation < n)) zs) same
    (subst (λ k. Any (λ (e : Edge). (e.from ≡ h) × (e.to.generation < k)) xs) window any)
