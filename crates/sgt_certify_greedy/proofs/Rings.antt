-- Chains of a relation, and how they close to a ring.
use Rattle.std.proofs.Common.{◌≡◌, ℕ, zero, suc, List, [], ◌∷◌, ◌++◌, take, Some, sym, ap, ◌∙◌, subst}
use Rattle.std.specs.Prelude.{slice_get}
use Rattle.std.proofs.lemmas.Option.{same_Some}
use Rattle.sgt_certify_logs.specs.Witness.{HasCycle, IsChain}
use Rattle.sgt_certify_greedy.specs.Sorted.{IsRing}

-- a chain up to one of its members
pub chain-front : (R : ℕ → ℕ → Type 0) (a : ℕ) (bs : List ℕ) (n b : ℕ) → IsChain R a bs → slice_get bs n ≡ Some b
    → IsChain R a (take n bs ++ b ∷ [])
chain-front R a [] n b chain at = absurd cc
chain-front R a (c ∷ cs) zero b chain at = (subst (R a) (same_Some c b at) chain.0, tt)
chain-front R a (c ∷ cs) (suc n) b chain at = (chain.0, chain-front R c cs n b chain.1 at)

-- a chain whose first follows one of its members
pub ring-closed : (R : ℕ → ℕ → Type 0) (here before n : ℕ) (walk made : List ℕ)
    → ((rest : List ℕ) × (walk ≡ here ∷ rest) × IsChain R here rest) → R before here → slice_get walk n ≡ Some before
    → made ≡ before ∷ take n walk → IsRing R made
ring-closed R here before n walk made (rest, is, chain) leads at made_so =
    subst (IsRing R) (sym made_so)
    (subst (λ (w : List ℕ). slice_get w n ≡ Some before → IsChain R before (take n w ++ before ∷ [])) (sym is)
    (λ at_rest. chain-front R before (here ∷ rest) n before (leads, chain) at_rest) at)

-- a chain with one more in front
pub chain-more : (R : ℕ → ℕ → Type 0) (here before : ℕ) (walk made : List ℕ)
    → ((rest : List ℕ) × (walk ≡ here ∷ rest) × IsChain R here rest) → R before here → made ≡ before ∷ walk
    → (rest : List ℕ) × (made ≡ before ∷ rest) × IsChain R before rest
chain-more R here before walk made (rest, is, chain) leads made_so =
    (here ∷ rest, made_so ∙ ap (λ (w : List ℕ). before ∷ w) is, (leads, chain))

-- a chain of a relation is one of each relation that follows from it
chain-as : (R S : ℕ → ℕ → Type 0) (turns : (a b : ℕ) → R a b → S a b) (a : ℕ) (bs : List ℕ) → IsChain R a bs
    → IsChain S a bs
chain-as R S turns a [] chain = tt
chain-as R S turns a (b ∷ bs) chain = (turns a b chain.0, chain-as R S turns b bs chain.1)

pub ring-as : (R S : ℕ → ℕ → Type 0) (turns : (a b : ℕ) → R a b → S a b) (xs : List ℕ) → IsRing R xs → IsRing S xs
ring-as R S turns [] ring = ring
ring-as R S turns (a ∷ between) ring = chain-as R S turns a (between ++ a ∷ []) ring

pub ring-cycle : (R : ℕ → ℕ → Type 0) (xs : List ℕ) → IsRing R xs → HasCycle R
ring-cycle R [] ring = absurd ring
ring-cycle R (a ∷ between) ring = (a, between, ring)
