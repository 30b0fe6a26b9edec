-- The edges that the decisions of a history were handed, between transactions of all windows.
use Rattle.std.specs.Prelude.{ℕ, List, [], ◌∷◌, ◌++◌, Contains, ◌⊎◌}
use Rattle.sgt_edges.specs.declared.edge.Edge.{Edge}
use Rattle.sgt_certifier.specs.declared.call.Call.{Call}
use Rattle.sgt_certifier.specs.declared.call.Call.TheVariants as call
use Rattle.sgt_certifier.specs.Certifier.{State, serial}

-- the call decides with an edge from a to b; the calls before it begin its ends
abbrev pub HandsAt : List Call → Call → ℕ → ℕ → Type 0
HandsAt seen (call.Decide h edges reply) a b =
    (e : Edge) × Contains edges e × Contains seen (call.Begin a e.from)
    × Contains seen (call.Begin b e.to)
HandsAt seen _ a b = ⊥

-- one of the calls does, behind those that were seen
abbrev pub HandsFrom : List Call → List Call → ℕ → ℕ → Type 0
HandsFrom seen [] a b = ⊥
HandsFrom seen (c ∷ cs) a b = HandsAt seen c a b ⊎ HandsFrom (seen ++ c ∷ []) cs a b

-- some decision of the history was handed an edge from a to b
abbrev pub Hands : List Call → ℕ → ℕ → Type 0
Hands history a b = HandsFrom [] history a b

-- and both are committed
abbrev pub HandsCommitted : List Call → State → ℕ → ℕ → Type 0
HandsCommitted history s a b = Hands history a b × Contains (serial s) a × Contains (serial s) b
