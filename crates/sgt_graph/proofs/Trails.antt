-- Walks back along edges, to a cycle.
use Rattle.std.proofs.Common.{◌≡◌, ℕ, zero, suc, ◌+◌, ◌<◌, ◌⊎◌, Bool, true, false, List, [], ◌∷◌, ◌++◌, length, get_or, set, take, drop, reverse, Some, sym, ap, ◌∙◌, subst, arith, inl, inr, slice_index, Contains}
use Rattle.std.specs.Prelude.{slice_get}
use Rattle.std.proofs.lemmas.Bool.{cases_eq, cases_lt}
use Rattle.std.proofs.lemmas.List.{get_or_past, get_or-set_same, get_or-set_other, length-set, reverse-append, take_more}
use Rattle.std.proofs.lemmas.List.Elements.{Contains-append_left, Contains-get_or, Contains-push, Contains-push_cases}
use Rattle.std.proofs.lemmas.Option.{same_Some}
use Rattle.sgt_graph.specs.declared.edge.Edge.{Edge}
use Rattle.sgt_graph.specs.Graph.{Goes, IsChain, IsCycle}
use Rattle.sgt_graph.specs.Walks.{IsTrail}

-- ---- chains

pub chain-push : (R : ℕ → ℕ → Type 0) (a : ℕ) (xs : List ℕ) (b c : ℕ) → IsChain R a (xs ++ b ∷ []) → R b c
    → IsChain R a ((xs ++ b ∷ []) ++ c ∷ [])
chain-push R a [] b c (first, _) last = (first, (last, tt))
chain-push R a (x ∷ xs) b c (first, more) last = (first, chain-push R x xs b c more last)

pub trail-push : (R : ℕ → ℕ → Type 0) (xs : List ℕ) (here next : ℕ) → IsTrail R xs here → R here next
    → IsTrail R (xs ++ here ∷ []) next
trail-push R [] here next trail step = (step, tt)
trail-push R (x ∷ xs) here next trail step = chain-push R x xs here next trail step

-- the trail from a place on
chain-drop : (R : ℕ → ℕ → Type 0) (a : ℕ) (xs : List ℕ) (end n x : ℕ) → IsChain R a (xs ++ end ∷ [])
    → slice_get xs n ≡ Some x → IsChain R x (drop (suc n) xs ++ end ∷ [])
chain-drop R a [] end n x chain at = absurd cc
chain-drop R a (y ∷ ys) end zero x chain at = subst (λ (z : ℕ). IsChain R z (ys ++ end ∷ [])) (same_Some y x at) chain.1
chain-drop R a (y ∷ ys) end (suc n) x chain at = chain-drop R y ys end n x chain.1 at

pub trail-closed : (R : ℕ → ℕ → Type 0) (xs : List ℕ) (n x : ℕ) → IsTrail R xs x → slice_get xs n ≡ Some x
    → IsChain R x (drop (suc n) xs ++ x ∷ [])
trail-closed R [] n x trail at = absurd cc
trail-closed R (y ∷ ys) zero x trail at = subst (λ (z : ℕ). IsChain R z (ys ++ x ∷ [])) (same_Some y x at) trail
trail-closed R (y ∷ ys) (suc n) x trail at = chain-drop R y ys x n x trail at

-- a chain turned round
pub chain-reverse : (R : ℕ → ℕ → Type 0) (a : ℕ) (xs : List ℕ) (b : ℕ) → IsChain R a (xs ++ b ∷ [])
    → IsChain (λ x y. R y x) b (reverse xs ++ a ∷ [])
chain-reverse R a [] b (first, _) = (first, tt)
chain-reverse R a (x ∷ xs) b (first, more) =
    subst (λ (ys : List ℕ). IsChain (λ x y. R y x) b (ys ++ a ∷ [])) (sym (reverse-append (x ∷ []) xs))
    (chain-push (λ x y. R y x) b (reverse xs) x a (chain-reverse R x xs b more) first)

-- a cycle from its last node on
rotated : (R : ℕ → ℕ → Type 0) (xs : List ℕ) (a : ℕ) → IsChain R a (xs ++ a ∷ []) → IsCycle R (xs ++ a ∷ [])
rotated R [] a chain = chain
rotated R (x ∷ xs) a (first, more) = chain-push R x xs a x more first

split_from : (xs : List ℕ) (n x : ℕ) → slice_get xs n ≡ Some x → drop n xs ≡ x ∷ drop (suc n) xs
split_from [] n x at = absurd cc
split_from (y ∷ ys) zero x at = ap (λ z. z ∷ ys) (same_Some y x at)
split_from (y ∷ ys) (suc n) x at = split_from ys n x at

pub turned-cycle : (R : ℕ → ℕ → Type 0) (xs : List ℕ) (n x : ℕ) → IsTrail (λ a b. R b a) xs x
    → slice_get xs n ≡ Some x → IsCycle R (reverse (drop n xs))
turned-cycle R xs n x trail at =
    let back = chain-reverse (λ a b. R b a) x (drop (suc n) xs) x (trail-closed (λ a b. R b a) xs n x trail at) in
    subst (IsCycle R) (sym (ap reverse (split_from xs n x at) ∙ reverse-append (x ∷ []) (drop (suc n) xs)))
    (rotated R (reverse (drop (suc n) xs)) x back)

-- a cycle of other steps
pub chain-weaker : (R S : ℕ → ℕ → Type 0) → ((a b : ℕ) → R a b → S a b) → (a : ℕ) (xs : List ℕ) → IsChain R a xs
    → IsChain S a xs
chain-weaker R S weaker a [] chain = tt
chain-weaker R S weaker a (x ∷ xs) (first, more) = (weaker a x first, chain-weaker R S weaker x xs more)

pub cycle-weaker : (R S : ℕ → ℕ → Type 0) → ((a b : ℕ) → R a b → S a b) → (xs : List ℕ) → IsCycle R xs → IsCycle S xs
cycle-weaker R S weaker [] cycle = cycle
cycle-weaker R S weaker (a ∷ xs) cycle = chain-weaker R S weaker a (xs ++ a ∷ []) cycle

-- ---- nodes that wait

pub waiting-within : (waits : List ℕ) (v : ℕ) → 0 < slice_index waits v → v < length waits
waiting-within waits v some =
    elim (cases_lt v (length waits)) [
      | inl lt ↦ lt
      | inr past ↦ absurd (omega (arith, some, get_or_past waits v 0 past))
    ]

-- ---- the sources of nodes

-- an edge leads to the node from its source, which waits
abbrev pub IsLed : (waits : List ℕ) → List Edge → (sources : List ℕ) → ℕ → Type 0
IsLed waits edges sources v = Goes edges (slice_index sources v) v × (0 < slice_index waits (slice_index sources v))

-- so it is with each to which one of the first edges leads from a node that waits
pub record AreSources (waits : List ℕ) (edges : List Edge) (k : ℕ) (sources : List ℕ) : Type 0 where
  pub len : length sources ≡ length waits
  pub led : (a v : ℕ) → Goes (take k edges) a v → 0 < slice_index waits a → IsLed waits edges sources v

-- an edge among the first ones and the next one
goes-cases : (edges : List Edge) (k a v : ℕ) (d : Edge) → k < length edges → Goes (take (k + 1) edges) a v
    → Goes (take k edges) a v ⊎ (get_or edges k d ≡ record { from = a; to = v })
goes-cases edges k a v d lt goes =
    Contains-push_cases (take k edges) (get_or edges k d) (record { from = a; to = v })
    (subst (λ (es : List Edge). Contains es (record { from = a; to = v })) (take_more edges k d lt) goes)

pub sources-hit : (waits : List ℕ) (edges : List Edge) (k : ℕ) (sources : List ℕ) (d : Edge)
    → AreSources waits edges k sources → k < length edges
    → (get_or edges k d).to < length waits → 0 < slice_index waits (get_or edges k d).from
    → AreSources waits edges (k + 1) (set sources (get_or edges k d).to (get_or edges k d).from)
sources-hit waits edges k sources d so lt within some =
    let e = get_or edges k d in
    let new = set sources e.to e.from in
    let inside : e.to < length sources = omega (arith, within, so.len) in
    let here : slice_index new e.to ≡ e.from = get_or-set_same sources e.to e.from 0 inside in
    let at : IsLed waits edges new e.to = (
      subst (λ (a : ℕ). Goes edges a e.to) (sym here) (Contains-get_or edges k d lt),
      subst (λ (a : ℕ). 0 < slice_index waits a) (sym here) some,
    ) in
    record {
      len = length-set sources e.to e.from ∙ so.len;
      led = λ a v goes waits_for. elim (cases_eq v e.to) [
        | inl same ↦ subst (IsLed waits edges new) (sym same) at
        | inr other ↦
            let old : slice_index new v ≡ slice_index sources v = get_or-set_other sources e.to v e.from 0 other in
            let before : IsLed waits edges sources v = elim (goes-cases edges k a v d lt goes) [
              | inl among ↦ so.led a v among waits_for
              | inr this ↦ absurd (other (sym (ap (λ (x : Edge). x.to) this)))
            ] in
            subst (λ (a : ℕ). Goes edges a v × (0 < slice_index waits a)) (sym old) before
      ];
    }

pub sources-miss : (waits : List ℕ) (edges : List Edge) (k : ℕ) (sources : List ℕ) (d : Edge)
    → AreSources waits edges k sources → k < length edges
    → slice_index waits (get_or edges k d).from ≡ 0 → AreSources waits edges (k + 1) sources
sources-miss waits edges k sources d so lt none = record {
  len = so.len;
  led = λ a v goes waits_for. elim (goes-cases edges k a v d lt goes) [
    | inl among ↦ so.led a v among waits_for
    | inr this ↦ absurd (omega (arith, waits_for, none, ap (λ (x : Edge). slice_index waits x.from) this))
  ];
}

-- ---- nodes that are met

pub met-more : (met : List Bool) (walk more : List ℕ) (here : ℕ)
    → ((v : ℕ) → get_or met v false ≡ true → Contains walk v) → more ≡ walk ++ here ∷ []
    → here < length met → (v : ℕ) → get_or (set met here true) v false ≡ true → Contains more v
met-more met walk more here all is within v so =
    subst (λ (xs : List ℕ). Contains xs v) (sym is) (elim (cases_eq v here) [
      | inl same ↦ subst (Contains (walk ++ here ∷ [])) (sym same) (Contains-push walk here)
      | inr other ↦ Contains-append_left walk (here ∷ []) v (all v (sym (get_or-set_other met here v true false other)
          ∙ so))
    ])
