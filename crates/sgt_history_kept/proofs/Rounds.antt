-- While lines are checked to form a cycle.
use Rattle.std.proofs.Common.{◌≡◌, ℕ, Bool, true, false, zero, suc, ◌+◌, ◌<◌, ◌≤◌, List, [], ◌∷◌, ◌++◌, Option, Some, None, length, set, refl, sym, ap, ◌∙◌, subst, arith, inl, inr, ◌⊎◌, length-append}
use Rattle.std.specs.Prelude.{◌==◌, slice_get, Contains}
use Rattle.std.proofs.lemmas.Bool.{cases_eq, cases_lt, lt-ltb, le-ltb}
use Rattle.std.proofs.lemmas.Option.{same_Some, slice_get_within}
use Rattle.sgt_names.proofs.Lists.{back_at, front_at, within_at}
use Rattle.sgt_history.specs.Transaction.{Transaction}
use Rattle.sgt_history.specs.Conflicts.{IsChain, IsCycle}
use Rattle.sgt_graph.specs.declared.edge.Edge.{Edge}
use Rattle.sgt_graph.specs.Graph.{Goes}
use Rattle.sgt_history_kept.specs.declared.asked.Asked.{Asked}
use Rattle.sgt_history_kept.specs.Decided.{AreJoined, IsAskedBefore, IsKeptFrom}
use Rattle.sgt_history_time.specs.Steps.{StandsBefore}
use Rattle.sgt_history_verdict.specs.Steps.{place_behind}
use Rattle.sgt_history_verdict.proofs.Excluding.{chain-of}
use Rattle.sgt_names.proofs.Elements.{get-set_here, get_set_elsewhere}

-- ---- what is noted

pub joined-nil : (edges : List Edge) → AreJoined edges []
joined-nil edges from to at = absurd cc

pushed-none : (joined : List (Option ℕ)) (from to : ℕ) → slice_get (joined ++ None ∷ []) from ≡ Some (Some to)
    → slice_get joined from ≡ Some (Some to)
pushed-none [] zero to at = let no : None ≡ Some to = same_Some None (Some to) at in absurd cc
pushed-none [] (suc from) to at = absurd cc
pushed-none (x ∷ xs) zero to at = at
pushed-none (x ∷ xs) (suc from) to at = pushed-none xs from to at

pub joined-push : (edges : List Edge) (joined : List (Option ℕ)) → AreJoined edges joined
    → AreJoined edges (joined ++ None ∷ [])
joined-push edges joined are from to at = are from to (pushed-none joined from to at)

pub joined-note : (edges : List Edge) (joined : List (Option ℕ)) (from to : ℕ) → from < length joined
    → Contains edges (record { from = from; to = to }) → AreJoined edges joined
    → AreJoined edges (set joined from (Some to))
joined-note edges joined from to within in_it so x y at = elim (cases_eq x from) [
  | inl same ↦
      let f : slice_get (set joined from (Some to)) from ≡ Some (Some y) =
      ap (slice_get (set joined from (Some to))) (sym same) ∙ at in
      let is : to ≡ y =
      same_Some to y (same_Some (Some to) (Some y) (sym (get-set_here joined from (Some to) within) ∙ f)) in
      subst (λ (z : ℕ). Goes edges x z) is (subst (λ (z : ℕ). Goes edges z to) (sym same) in_it)
  | inr apart ↦ so x y (sym (get_set_elsewhere joined from x (Some to) apart) ∙ at)
]

-- ---- a cycle

pub not-empty : (n : ℕ) (r : Bool) → r ≡ (n == 0) → r ≡ false → 0 < n
not-empty n r is unlike = elim (cases_eq n 0) [
  | inl e ↦ let f : (n == 0) ≡ false = sym is ∙ unlike in let t : (n == 0) ≡ true = ap (λ k. k == 0) e in let g =
      sym t ∙ f in cc
  | inr other ↦ omega (arith, other)
]

-- of each of the first n places the line there stands in the relation to the next one
abbrev pub LeadsTo : (ℕ → ℕ → Type 0) → List ℕ → ℕ → Type 0
LeadsTo R cycle n = (place a b : ℕ) → place < n → slice_get cycle place ≡ Some a
    → slice_get cycle (place_behind place (length cycle)) ≡ Some b → R a b

pub leads-next : (R : ℕ → ℕ → Type 0) (cycle : List ℕ) (n a b : ℕ) → LeadsTo R cycle n → slice_get cycle n ≡ Some a
    → slice_get cycle (place_behind n (length cycle)) ≡ Some b → R a b → LeadsTo R cycle (n + 1)
leads-next R cycle n a b so at at' r place x y lt here there = elim (cases_lt place n) [
  | inl less ↦ so place x y less here there
  | inr ge ↦
      let same : n ≡ place = omega (arith, lt, ge) in
      let x_is : a ≡ x = same_Some a x (sym at ∙ ap (slice_get cycle) same ∙ here) in
      let y_is : b ≡ y = same_Some b y (sym at' ∙ ap (λ (k : ℕ). slice_get cycle (place_behind k (length cycle))) same
      ∙ there) in
      subst (λ (z : ℕ). R x z) y_is (subst (λ (z : ℕ). R z b) x_is r)
]

module _ (R : ℕ → ℕ → Type 0) (a : ℕ) (between : List ℕ) (n : ℕ) (all : length (a ∷ between) ≤ n)
    (so : LeadsTo R (a ∷ between) n) where
  abbrev cycle : List ℕ
  cycle = a ∷ between

  front-same : (i x : ℕ) → i < length cycle → slice_get (cycle ++ a ∷ []) i ≡ Some x → slice_get cycle i ≡ Some x
  front-same i x lt at =
      let here = within_at cycle i lt in
      here.1 ∙ sym (front_at cycle (a ∷ []) i here.0 here.1) ∙ at

  step : (i x y : ℕ) → slice_get (cycle ++ a ∷ []) i ≡ Some x → slice_get (cycle ++ a ∷ []) (suc i) ≡ Some y → R x y
  step i x y at at' =
      let size : length (cycle ++ a ∷ []) ≡ length cycle + 1 = length-append cycle (a ∷ []) in
      let lt : i < length cycle = omega (arith, slice_get_within (cycle ++ a ∷ []) (suc i) y at', size) in
      so i x y (omega (arith, lt, all)) (front-same i x lt at) (elim (cases_lt (i + 1) (length cycle)) [
        | inl less ↦
            let e : place_behind i (length cycle) ≡ i + 1 = rw (lt-ltb (i + 1) (length cycle) less) refl in
            let f : i + 1 ≡ suc i = omega arith in
            ap (slice_get cycle) (e ∙ f) ∙ front-same (suc i) y (omega (arith, less)) at'
        | inr last ↦
            let e : place_behind i (length cycle) ≡ 0 = rw (le-ltb (i + 1) (length cycle) last) refl in
            let end : suc i ≡ length cycle + 0 = omega (arith, lt, last) in
            ap (slice_get cycle) e ∙ sym (back_at cycle (a ∷ []) 0) ∙ ap (slice_get (cycle ++ a ∷ [])) (sym end) ∙ at'
      ])

  round-of : IsCycle R (a ∷ between)
  round-of = chain-of R a (between ++ a ∷ []) step

pub leads-round : (R : ℕ → ℕ → Type 0) (cycle : List ℕ) (n : ℕ) → 0 < length cycle → length cycle ≤ n
    → LeadsTo R cycle n → IsCycle R cycle
leads-round R [] n some all so = absurd (omega (arith, some))
leads-round R (a ∷ between) n some all so = round-of R a between n all so

-- a step of the edges or of what is asked
pub round-steps : (h : List (Transaction ℕ ℕ)) (lines : ℕ) (edges : List Edge) (a : Asked)
    → IsKeptFrom h lines edges a → (first second : ℕ)
    → Goes edges first second ⊎ IsAskedBefore a first second
    → StandsBefore h a.times.items a.sessions.items first second
round-steps h lines edges a from first second (inl goes) =
    inl (from.conflicts.sound (record { from = first; to = second }) goes)
round-steps h lines edges a from first second (inr asked) = inr asked

pub steps-cycle : (R S : ℕ → ℕ → Type 0) → ((x y : ℕ) → R x y → S x y) → (cycle : List ℕ) → IsCycle R cycle
    → IsCycle S cycle
steps-cycle R S f [] is = is
steps-cycle R S f (x ∷ between) is = go x (between ++ x ∷ []) is
  where
    go : (y : ℕ) (zs : List ℕ) → IsChain R y zs → IsChain S y zs
    go y [] chain = tt
    go y (z ∷ zs) chain = (f y z chain.0, go z zs chain.1)
