-- What an order of all nodes of a history's conflicts comes to, and a cycle of them.
use Rattle.std.proofs.Common.{◌≡◌, ℕ, ◌≤◌, List, [], ◌∷◌, ◌++◌, length, take, Some, sym, subst, Contains}
use Rattle.std.specs.Prelude.{slice_get}
use Rattle.std.proofs.lemmas.Option.{slice_get_within}
use Rattle.sgt_names.proofs.Places.{Contains_at, Contains-from_at}
use Rattle.sgt_history.specs.declared.named.Conflict.{Conflict}
use Rattle.sgt_history.specs.declared.named.Conflict.TheVariants.{WriteWrite, WriteRead, ReadWrite}
use Rattle.sgt_history.specs.declared.named.Graph.{Graph}
use Rattle.sgt_history.specs.declared.named.Graph.TheVariants as graph
use Rattle.sgt_history.specs.Transaction.{Transaction, ArePositive}
use Rattle.sgt_history.specs.Serial.{IsCommitted, Serves}
use Rattle.sgt_history.specs.Conflicts.{HaveConflict, ConflictIn, Precedes, IsChain, IsCycle, HasCycle}
use Rattle.sgt_history.specs.Flaws.{IsFaultless}
use Rattle.sgt_history.proofs.Forward.{no-cycle}
use Rattle.sgt_history.proofs.Complete.{serves}
use Rattle.sgt_history_conflicts.specs.Edges.{AreEdgesOf}
use Rattle.sgt_graph.specs.declared.edge.Edge.{Edge}
use Rattle.sgt_graph.specs.Graph as nodes
use Rattle.sgt_history_verdict.specs.Verdict.{IsLeastFirst, committed_in}
use Rattle.sgt_history_verdict.proofs.Kept.{kept-among, kept-back, kept-from, kept_at, kept-both, kept-once, kept-place}

-- ---- cycles

chain-on : (R S : ℕ → ℕ → Type 0) → ((a b : ℕ) → R a b → S a b) → (a : ℕ) (bs : List ℕ) → nodes.IsChain R a bs
    → IsChain S a bs
chain-on R S f a [] h = tt
chain-on R S f a (b ∷ bs) h = (f a b h.0, chain-on R S f b bs h.1)

cycle-on : (R S : ℕ → ℕ → Type 0) → ((a b : ℕ) → R a b → S a b) → (cycle : List ℕ) → nodes.IsCycle R cycle
    → IsCycle S cycle
cycle-on R S f [] h = h
cycle-on R S f (a ∷ between) h = chain-on R S f a (between ++ a ∷ []) h

pub cycle-of : (h : List (Transaction ℕ ℕ)) (g : Graph) (edges : List Edge) → AreEdgesOf h g edges → (cycle : List ℕ)
    → nodes.IsCycle (nodes.Goes edges) cycle
    → IsCycle (ConflictIn h g) cycle
cycle-of h g edges are =
    cycle-on (nodes.Goes edges) (ConflictIn h g) (λ a b goes. are.sound (record { from = a; to = b }) goes)

precedes-of : (order : List ℕ) (a b : ℕ) → nodes.Precedes order a b → Precedes order a b
precedes-of order a b p = record { i = p.i; j = p.j; before = p.before; first_at = p.first_at; second_at = p.second_at }

pub order-excludes : (h : List (Transaction ℕ ℕ)) (g : Graph) (edges : List Edge) → AreEdgesOf h g edges
    → (count : ℕ) (order : List ℕ)
    → nodes.IsOrder count edges order → HasCycle h g → ⊥
order-excludes h g edges are count order o (cycle, is) =
    no-cycle order o.once (ConflictIn h g) (λ a b c. precedes-of order a b (o.onward a b (are.all a b c))) cycle is

-- ---- an order

pub committed-both : (h : List (Transaction ℕ ℕ)) (kind : Conflict) (a b x v w : ℕ) → HaveConflict h kind a b x v w
    → ((t : Transaction ℕ ℕ) × IsCommitted h a t) × ((u : Transaction ℕ ℕ) × IsCommitted h b u)
committed-both h WriteWrite a b x v w (apart, first, second, next) =
    ((first.t, first.is.committed), (second.t, second.is.committed))
committed-both h WriteRead a b x v w (apart, first, second, same) =
    ((first.t, first.is.committed), (second.t, second.is.committed))
committed-both h ReadWrite a b x v w (apart, first, second, next) =
    ((first.t, first.is.committed), (second.t, second.is.committed))

pub order-serves : (h : List (Transaction ℕ ℕ)) → ArePositive h → IsFaultless h → (edges : List Edge)
    → AreEdgesOf h graph.Whole edges → (order : List ℕ)
    → nodes.IsOrder (length h) edges order → Serves h (committed_in h order)
order-serves h positive faultless edges are order o =
    serves h positive faultless (committed_in h order) (record {
      committed = λ line in_it.
          let at = Contains_at (committed_in h order) line in_it in
          let r = kept-from h order at.0 line at.1 in
          (r.t, r.commits);
      all = λ line t c.
          let at = Contains_at order line (o.all line (slice_get_within h line t c.0)) in
          let r = kept_at h order at.0 line t at.1 c in
          Contains-from_at (committed_in h order) r.0 line r.1;
      once = kept-once h order o.once;
    }) (λ kind a b x v w c.
    let both = committed-both h kind a b x v w c in
    let p = o.onward a b (are.all a b (record { kind = kind; among = tt; x = x; v = v; w = w; conflict = c })) in
    let r = kept-both h order p.i p.j a b both.0.0 both.1.0 p.before p.first_at p.second_at both.0.1 both.1.1 in
    record { i = r.i; j = r.j; before = r.before; first_at = r.first_at; second_at = r.second_at })

-- ---- the least line first

pub order-least : (h : List (Transaction ℕ ℕ)) (edges : List Edge) → AreEdgesOf h graph.Whole edges → (order : List ℕ)
    → nodes.IsOrder (length h) edges order → IsLeastFirst h (committed_in h order)
order-least h edges are order o place line other at may =
    let k = kept-place h order place line at in
    let free : nodes.IsFree (length h) edges (take k.j order) other = record {
      node = slice_get_within h other may.t may.committed.0;
      left = λ among. may.left (subst (λ (xs : List ℕ). Contains xs other) (sym k.front)
          (kept-among h (take k.j order) other may.t may.committed among));
      behind = λ a goes.
          let c = are.sound (record { from = a; to = other }) goes in
          kept-back h (take k.j order) a (subst (λ (xs : List ℕ). Contains xs a) k.front (may.behind a c));
    } in
    (o.least k.j line k.at).least other free
