-- Which transactions stand in a picture.
use Rattle.std.specs.Prelude.{◌≡◌, ◌⊎◌, ◌++◌, ◌==◌, ℕ, Bool, true, false, List, [], ◌∷◌, Option, Some, None, All, Contains, if◌then◌else◌, map, take}
use Rattle.std.specs.List.{filter, filter_map, flat_map, range_with_len}
use Rattle.sgt_bundle.specs.Certificate.{IsCommitted, decided_tx, is_refusal, with_rank}
use Rattle.sgt_bundle.specs.declared.certificate.Step.{Step}
use Rattle.sgt_bundle.specs.declared.certificate.Decision.{Decision}
use Rattle.sgt_bundle.specs.declared.certificate.Decision.TheVariants.{Commit, Refuse, Withdraw}
use Rattle.sgt_draw.specs.Node.{node}
use Rattle.sgt_draw.specs.declared.node.Fate.TheVariants.{Committed, Asked, Refused, Withdrawn, Neither}
use Rattle.sgt_draw.specs.declared.node.Node.{Node}

-- so many of each fate are drawn at most
abbrev pub most_drawn : ℕ
most_drawn = 200

-- the committed transactions whose ranks are below this one, by rank
abbrev pub ranked_below : ℕ → List Decision → List ℕ
ranked_below most decisions = flat_map (λ rank. filter_map (with_rank rank) decisions) (range_with_len 0 most)

-- the withdrawn ones in the order of their decisions
abbrev pub withdrawn_in : Decision → Option ℕ
withdrawn_in (Withdraw tx) = Some tx
withdrawn_in _ = None

-- where a step of a cycle leads, if it does not lead back
abbrev pub other_on : ℕ → Step → List Node
other_on tx step = if step.to == tx then [] else node Committed step.to ∷ []

-- a refused transaction, and in SVG the others on its cycle, in the order of its walk
abbrev pub cycle_nodes : Bool → ℕ → List Step → List Node
cycle_nodes true tx walk = node Refused tx ∷ []
cycle_nodes false tx walk = node Refused tx ∷ flat_map (other_on tx) walk

abbrev pub refused_nodes : Bool → Decision → List Node
refused_nodes is_dot (Refuse tx walk) = cycle_nodes is_dot tx walk
refused_nodes is_dot _ = []

-- of all that was decided: the committed transactions of the first ranks, the first refused ones, each with its cycle,
-- and the first withdrawn ones
abbrev pub all_nodes : Bool → List Decision → List Node
all_nodes is_dot decisions = map (node Committed) (ranked_below most_drawn decisions)
    ++ (flat_map (refused_nodes is_dot) (take most_drawn (filter is_refusal decisions))
    ++ map (node Withdrawn) (take most_drawn (filter_map withdrawn_in decisions)))

-- the first decision on a transaction: in a valid bundle the only one
abbrev pub decision_on : ℕ → List Decision → Option Decision
decision_on tx [] = None
decision_on tx (d ∷ decisions) = if decided_tx d == tx then Some d else decision_on tx decisions

-- a committed transaction stands there, and else committed ones alone
pub record AreAround (tx : ℕ) (decisions : List Decision) (nodes : List Node) : Type 0 where
  pub own : Contains nodes (node Asked tx)
  pub others : All (λ n. (n ≡ node Asked tx) ⊎ ((number : ℕ) × (rank : ℕ) × (n ≡ node Committed n.tx)
      × IsCommitted decisions number n.tx rank)) nodes

-- of one transaction: a refused one with its cycle, a committed one with others, any other alone
abbrev pub AreOne : Bool → ℕ → List Decision → Option Decision → List Node → Type 0
AreOne is_dot tx decisions (Some (Refuse t walk)) nodes = nodes ≡ cycle_nodes is_dot tx walk
AreOne is_dot tx decisions (Some (Commit t rank)) nodes = AreAround tx decisions nodes
AreOne is_dot tx decisions _ nodes = nodes ≡ node Neither tx ∷ []

abbrev pub AreWanted : Bool → Option ℕ → List Decision → List Node → Type 0
AreWanted is_dot None decisions nodes = nodes ≡ all_nodes is_dot decisions
AreWanted is_dot (Some tx) decisions nodes = AreOne is_dot tx decisions (decision_on tx decisions) nodes
