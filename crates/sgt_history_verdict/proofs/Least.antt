-- The least graph that has a cycle, and what a history is decided from.
use Rattle.std.proofs.Common.{◌≡◌, ℕ, zero, suc, ◌-◌, List, [], ◌∷◌, ◌++◌, Option, None, Some, Vec, Global, length, take, drop, sym, ap, ◌∙◌, subst, arith, All}
use Rattle.std.specs.Prelude.{slice_get}
use Rattle.std.proofs.lemmas.Option.{same_Some, slice_get_within}
use Rattle.std.proofs.lemmas.List.Elements.{All-take, All-drop}
use Rattle.sgt_names.proofs.Places.{All_at}
use Rattle.sgt_history.specs.declared.history.Line.{Line}
use Rattle.sgt_history.specs.declared.history.Operation.{Operation}
use Rattle.sgt_history.specs.declared.named.Graph.{Graph}
use Rattle.sgt_history.specs.declared.named.Graph.TheVariants.{WriteWrite, WithReads, Whole}
use Rattle.sgt_history.specs.Transaction.{Transaction, ArePositive, WritesPositive}
use Rattle.sgt_history.specs.Conflicts.{ConflictIn, HasCycle, IsChain, IsCycle}
use Rattle.sgt_history.specs.Cut.{cut}
use Rattle.sgt_history_conflicts.specs.declared.parts.Parts.{Parts}
use Rattle.sgt_history_conflicts.specs.Edges.{AreEdgesOf, HasEdges, part_of}
use Rattle.sgt_history_faults.proofs.Bounds.{length-cut}
use Rattle.sgt_history_faults.specs.declared.touch.Touch.{Touch}
use Rattle.sgt_history_faults.specs.Judged.{IsFaultlessBy}
use Rattle.sgt_graph.specs.declared.edge.Edge.{Edge}
use Rattle.sgt_graph.specs.First.{IsFirstCycle, TellsFirst}
use Rattle.sgt_graph.specs.Graph as nodes
use Rattle.sgt_history_verdict.specs.Decided.{IsDecidedFrom}
use Rattle.sgt_history_verdict.specs.Verdict.{IsBelow, IsFirstOf, IsLeastGraph, IsSerialBy}
use Rattle.sgt_history_verdict.proofs.Served.{cycle-of, order-excludes, order-least, order-serves}

-- the edges of a graph join nodes
pub edges-join : (h : List (Transaction ℕ ℕ)) (count : ℕ) (p : Parts) (g : Graph) (edges : List Edge) → HasEdges h p
    → length h ≡ count
    → edges ≡ part_of p g → All (nodes.JoinsNodes count) edges
edges-join h count p g edges has size is =
    subst (λ es. All (nodes.JoinsNodes count) es) (sym is) (subst (λ n. All (nodes.JoinsNodes n) (part_of p g)) size
    (has g).nodes)

pub found-cycle : (h : List (Transaction ℕ ℕ)) (p : Parts) (g : Graph) (edges : List Edge) → HasEdges h p
    → edges ≡ part_of p g → (cycle : List ℕ)
    → nodes.IsCycle (nodes.Goes edges) cycle → IsCycle (ConflictIn h g) cycle
found-cycle h p g edges has is cycle c = cycle-of h g edges (subst (AreEdgesOf h g) (sym is) (has g)) cycle c

pub none-found : (h : List (Transaction ℕ ℕ)) (p : Parts) (g : Graph) (edges : List Edge) → HasEdges h p
    → edges ≡ part_of p g → (count : ℕ) (order : List ℕ)
    → nodes.IsOrder count edges order → HasCycle h g → ⊥
none-found h p g edges has is count order o =
    order-excludes h g edges (subst (AreEdgesOf h g) (sym is) (has g)) count order o

-- a cycle of the graph is one of its edges
chain-edges : (R S : ℕ → ℕ → Type 0) → ((a b : ℕ) → R a b → S a b) → (a : ℕ) (bs : List ℕ) → IsChain R a bs
    → nodes.IsChain S a bs
chain-edges R S f a [] chain = tt
chain-edges R S f a (b ∷ bs) chain = (f a b chain.0, chain-edges R S f b bs chain.1)

cycle-edges : (R S : ℕ → ℕ → Type 0) → ((a b : ℕ) → R a b → S a b) → (cycle : List ℕ) → IsCycle R cycle
    → nodes.IsCycle S cycle
cycle-edges R S f [] is = is
cycle-edges R S f (a ∷ between) is = chain-edges R S f a (between ++ a ∷ []) is

pub edge-cycle : (h : List (Transaction ℕ ℕ)) (p : Parts) (g : Graph) (edges : List Edge) → HasEdges h p
    → edges ≡ part_of p g → (cycle : List ℕ)
    → IsCycle (ConflictIn h g) cycle → nodes.IsCycle (nodes.Goes edges) cycle
edge-cycle h p g edges has is cycle c =
    cycle-edges (ConflictIn h g) (nodes.Goes edges) (λ a b. (subst (AreEdgesOf h g) (sym is) (has g)).all a b) cycle c

pub first-cycle : (h : List (Transaction ℕ ℕ)) (p : Parts) (g : Graph) (edges : List Edge) → HasEdges h p
    → edges ≡ part_of p g → (cycle : List ℕ)
    → IsFirstCycle edges cycle → IsFirstOf h g cycle
first-cycle h p g edges has is cycle f = record {
  is = found-cycle h p g edges has is cycle f.is;
  first = λ other c. f.first other (edge-cycle h p g edges has is other c);
}

pub no-cycle-told : (h : List (Transaction ℕ ℕ)) (p : Parts) (g : Graph) (edges : List Edge) → HasEdges h p
    → edges ≡ part_of p g → (found : Option (Vec ℕ Global))
    → TellsFirst edges found → found ≡ None → HasCycle h g → ⊥
no-cycle-told h p g edges has is None none same (cycle, c) = none cycle (edge-cycle h p g edges has is cycle c)
no-cycle-told h p g edges has is (Some x) first same c = absurd cc

pub told-cycle-first : (h : List (Transaction ℕ ℕ)) (p : Parts) (g : Graph) (edges : List Edge) → HasEdges h p
    → edges ≡ part_of p g → (found : Option (Vec ℕ Global))
    (cycle : Vec ℕ Global) → TellsFirst edges found → found ≡ Some cycle → IsFirstOf h g cycle.items
told-cycle-first h p g edges has is found cycle first same =
    first-cycle h p g edges has is cycle.items (subst (TellsFirst edges) same first)

-- ---- by graph

pub least-first : (h : List (Transaction ℕ ℕ)) → HasCycle h WriteWrite → IsLeastGraph h WriteWrite
least-first h c = record { has = c; least = least }
  where
    least : (less : Graph) → IsBelow less WriteWrite → HasCycle h less → ⊥
    least WriteWrite b has = absurd b
    least WithReads b has = absurd b
    least Whole b has = absurd b

pub least-second : (h : List (Transaction ℕ ℕ)) → (HasCycle h WriteWrite → ⊥) → HasCycle h WithReads
    → IsLeastGraph h WithReads
least-second h one c = record { has = c; least = least }
  where
    least : (less : Graph) → IsBelow less WithReads → HasCycle h less → ⊥
    least WriteWrite b has = one has
    least WithReads b has = absurd b
    least Whole b has = absurd b

pub least-third : (h : List (Transaction ℕ ℕ)) → (HasCycle h WriteWrite → ⊥) → (HasCycle h WithReads → ⊥)
    → HasCycle h Whole → IsLeastGraph h Whole
least-third h one two c = record { has = c; least = least }
  where
    least : (less : Graph) → IsBelow less Whole → HasCycle h less → ⊥
    least WriteWrite b has = one has
    least WithReads b has = two has
    least Whole b has = absurd b

-- ---- an order

pub serial-by : (h : List (Transaction ℕ ℕ)) (count : ℕ) (touches : List Touch) (p : Parts) (edges : List Edge)
    (order : List ℕ) → IsDecidedFrom h count touches
    → HasEdges h p → edges ≡ part_of p Whole → nodes.IsOrder count edges order → IsSerialBy h order
serial-by h count touches p edges order from has is o =
    let are = subst (AreEdgesOf h Whole) (sym is) (has Whole) in
    let o' = subst (λ n. nodes.IsOrder n edges order) (sym from.size) o in
    record {
      serves = order-serves h from.positive from.faultless.faultless edges are order o';
      least = order-least h edges are order o';
    }

-- ---- a history that is kept

cut-positive : (begin : ℕ) (lines : List Line) (ops : List (Operation ℕ ℕ))
    → All (λ (u : Operation ℕ ℕ). WritesPositive u) ops → ArePositive (cut begin lines ops)
cut-positive begin [] ops all line place t o at there = absurd (omega (arith, slice_get_within [] line t at))
cut-positive begin (l ∷ ls) ops all zero place t o at there =
    let P : Operation ℕ ℕ → Type 0 = λ u. WritesPositive u in
    let part : List (Operation ℕ ℕ) = take (l.end - begin) (drop begin ops) in
    let same = same_Some (record { commits = l.commits; operations = part }) t at in
    All_at P part place o (All-take P (l.end - begin) (drop begin ops) (All-drop P begin ops all))
    (ap (λ (u : Transaction ℕ ℕ). slice_get u.operations place) same ∙ there)
cut-positive begin (l ∷ ls) ops all (suc line) place t o at there =
    cut-positive l.end ls ops all line place t o at there

pub decided-from : (lines : List Line) (ops : List (Operation ℕ ℕ)) (touches : List Touch)
    → All (λ (u : Operation ℕ ℕ). WritesPositive u) ops
    → IsFaultlessBy (cut 0 lines ops) touches → IsDecidedFrom (cut 0 lines ops) (length lines) touches
decided-from lines ops touches all by =
    record { size = length-cut 0 lines ops; positive = cut-positive 0 lines ops all; faultless = by }
