-- Which of several steps is told first.
use Rattle.std.proofs.Common.{◌≡◌, ◌≢◌, ℕ, ◌+◌, ◌<◌, ◌≤◌, ◌⊎◌, List, length, get_or, set, Option, None, Some, refl, sym, ap, ◌∙◌, subst, arith, inl, inr}
use Rattle.std.specs.Prelude.{slice_get}
use Rattle.std.proofs.lemmas.Bool.{cases_eq, cases_lt}
use Rattle.std.proofs.lemmas.List.{get_or-set_same, get_or-set_other, length-set}
use Rattle.std.proofs.lemmas.Option.{same_Some, slice_get_within, slice_get-get_or}
use Rattle.sgt_names.proofs.Places.{Contains_at, Contains-from_at}
use Rattle.sgt_history_faults.specs.declared.touch.Touch.{Touch}
use Rattle.sgt_graph.specs.declared.edge.Edge.{Edge}
use Rattle.sgt_history_verdict.specs.declared.step.Step.{Step}
use Rattle.sgt_history_verdict.specs.Steps.{AreBest, IsAlong, IsBest, IsOf, IsOfPairs, IsToldBefore, Leads, step_between}

-- ---- the order of steps

pub told-on : (ranks : List ℕ) (s t u : Step) → IsToldBefore ranks s t → IsToldBefore ranks t u → IsToldBefore ranks s u
told-on ranks s t u (inl a) (inl b) = inl (omega (arith, a, b))
told-on ranks s t u (inl a) (inr (b, more)) = inl (omega (arith, a, b))
told-on ranks s t u (inr (a, more)) (inl b) = inl (omega (arith, a, b))
told-on ranks s t u (inr (a, inl c)) (inr (b, inl d)) = inr (a ∙ b, inl (omega (arith, c, d)))
told-on ranks s t u (inr (a, inl c)) (inr (b, inr (d, le))) = inr (a ∙ b, inl (omega (arith, c, d)))
told-on ranks s t u (inr (a, inr (c, le))) (inr (b, inl d)) = inr (a ∙ b, inl (omega (arith, c, d)))
told-on ranks s t u (inr (a, inr (c, le))) (inr (b, inr (d, le'))) = inr (a ∙ b, inr (c ∙ d, omega (arith, le, le')))

-- ---- the best so far

of-same : (touches : List Touch) (pair : Edge) (s t : Step) → IsOf touches pair s → IsOf touches pair t → s ≡ t
of-same touches pair s t x y =
    let one = same_Some x.a y.a (sym x.first ∙ y.first) in
    let two = same_Some x.b y.b (sym x.second ∙ y.second) in
    x.is ∙ ap (λ u. step_between u x.b) one ∙ ap (step_between y.a) two ∙ sym y.is

module _ (touches : List Touch) (pairs : List Edge) (ranks : List ℕ) (Is : Step
    → Type 0) (n : ℕ) (pair : Edge) (step : Step)
    (at : slice_get pairs n ≡ Some pair) (of : IsOf touches pair step) where
  -- one of the first n + 1 pairs is one of the first n, or has this step
  next : (k : ℕ) (p : Edge) (t : Step) → k < n + 1 → slice_get pairs k ≡ Some p → IsOf touches p t
      → (k < n) ⊎ (t ≡ step)
  next k p t less there of_k = elim (cases_lt k n) [
    | inl earlier ↦ inl earlier
    | inr past ↦
        let k_is : k ≡ n = omega (arith, less, past) in
        let pair_is : p ≡ pair = same_Some p pair (sym there ∙ ap (slice_get pairs) k_is ∙ at) in
        inr (of-same touches pair t step (subst (λ q. IsOf touches q t) pair_is of_k) of)
  ]

  pub best-misses : (o : Option Step) → IsBest touches pairs ranks Is n o → (Is step → ⊥)
      → IsBest touches pairs ranks Is (n + 1) o
  best-misses None best not = λ k p t less there of_k is. elim (next k p t less there of_k) [
    | inl earlier ↦ best k p t earlier there of_k is
    | inr same ↦ not (subst Is same is)
  ]
  best-misses (Some s) best not = (
    best.0,
    best.1,
    λ k p t less there of_k is. elim (next k p t less there of_k) [
      | inl earlier ↦ best.2 k p t earlier there of_k is
      | inr same ↦ absurd (not (subst Is same is))
    ],
  )

  this : IsOfPairs touches pairs step
  this = (pair, Contains-from_at pairs n pair at, of)

  pub best-hits : (o : Option Step) (r : Step) → IsBest touches pairs ranks Is n o → Is step
      → (r ≡ step) ⊎ (o ≡ Some r) → IsToldBefore ranks r step
      → ((other : Step) → o ≡ Some other → IsToldBefore ranks r other) → IsBest touches pairs ranks Is (n + 1) (Some r)
  best-hits None r best is either told old =
      let same : r ≡ step = elim either [ inl e ↦ e | inr e ↦ absurd cc ] in (
        subst (IsOfPairs touches pairs) (sym same) this,
        subst Is (sym same) is,
        λ k p t less there of_k is_t. elim (next k p t less there of_k) [
          | inl earlier ↦ absurd (best k p t earlier there of_k is_t)
          | inr e ↦ subst (λ u. IsToldBefore ranks r u) (sym e) told
        ],
      )
  best-hits (Some s) r best is either told old = (
    elim either [
      | inl e ↦ subst (IsOfPairs touches pairs) (sym e) this
      | inr e ↦ subst (IsOfPairs touches pairs) (same_Some s r e) best.0
    ],
    elim either [ inl e ↦ subst Is (sym e) is | inr e ↦ subst Is (same_Some s r e) best.1 ],
    λ k p t less there of_k is_t. elim (next k p t less there of_k) [
      | inl earlier ↦ told-on ranks r s t (old s refl) (best.2 k p t earlier there of_k is_t)
      | inr e ↦ subst (λ u. IsToldBefore ranks r u) (sym e) told
    ],
  )

-- of all pairs
pub best-all : (touches : List Touch) (pairs : List Edge) (ranks : List ℕ) (Is : Step → Type 0) (s : Step)
    → IsBest touches pairs ranks Is (length pairs) (Some s)
    → (t : Step) → IsOfPairs touches pairs t → Is t → IsToldBefore ranks s t
best-all touches pairs ranks Is s best t (pair, in_it, of) is =
    let at = Contains_at pairs pair in_it in
    best.2 at.0 pair t (slice_get_within pairs at.0 pair at.1) at.1 of is

pub best-none : (touches : List Touch) (pairs : List Edge) (ranks : List ℕ) (Is : Step → Type 0)
    → IsBest touches pairs ranks Is (length pairs) None
    → (t : Step) → IsOfPairs touches pairs t → Is t → ⊥
best-none touches pairs ranks Is none t (pair, in_it, of) is =
    let at = Contains_at pairs pair in_it in
    none at.0 pair t (slice_get_within pairs at.0 pair at.1) at.1 of is

-- ---- by line

pub best-along : (touches : List Touch) (pairs : List Edge) (ranks : List ℕ) (behind : List (Option ℕ))
    (best : List (Option Step)) (a b : ℕ) (s : Step)
    → AreBest touches pairs ranks behind (length pairs) best → slice_get best a ≡ Some (Some s) → Leads s a b
    → IsOfPairs touches pairs s × ((t : Step) → IsOfPairs touches pairs t → Leads t s.from s.to
    → IsToldBefore ranks s t)
best-along touches pairs ranks behind best a b s are at leads =
    let here = are a (Some s) at in (
      here.0,
      λ t of on. best-all touches pairs ranks (IsAlong behind a) s here t of
          (on.0 ∙ leads.0, here.1.1 ∙ ap (λ x. Some (Some x)) (sym on.1)),
    )

module _ (touches : List Touch) (pairs : List Edge) (ranks : List ℕ) (behind : List (Option ℕ))
    (best : List (Option Step)) (n : ℕ) (pair : Edge) (step : Step)
    (at : slice_get pairs n ≡ Some pair) (of : IsOf touches pair step)
    (are : AreBest touches pairs ranks behind n best) where
  -- the step isn't along the lines, or none is kept of its line
  pub kept-none : ((line : ℕ) (o : Option Step) → slice_get best line ≡ Some o → IsAlong behind line step → ⊥)
      → AreBest touches pairs ranks behind (n + 1) best
  kept-none not line o there = best-misses touches pairs ranks (IsAlong behind line) n pair step at of o
      (are line o there) (not line o there)

  pub kept-one : (d : Option Step) (r : Step) → slice_get behind step.from ≡ Some (Some step.to)
      → step.from < length best
      → (r ≡ step) ⊎ (get_or best step.from d ≡ Some r) → IsToldBefore ranks r step
      → ((other : Step) → get_or best step.from d ≡ Some other → IsToldBefore ranks r other)
      → AreBest touches pairs ranks behind (n + 1) (set best step.from (Some r))
  kept-one d r along lt either told old line o there = elim (cases_eq line step.from) [
    | inl same ↦
        let before = are step.from (get_or best step.from d) (slice_get-get_or best step.from d lt) in
        let now = best-hits touches pairs ranks (IsAlong behind step.from) n pair step at of (get_or best step.from d)
        r before (refl, along) either told old in
        let new =
        slice_get-get_or (set best step.from (Some r)) step.from d
        (omega (arith, lt, length-set best step.from (Some r))) in
        let is : Some r ≡ o = same_Some (Some r) o (ap Some (sym (get_or-set_same best step.from (Some r) d lt))
        ∙ sym new ∙ ap (slice_get (set best step.from (Some r))) (sym same) ∙ there) in
        subst (λ x. IsBest touches pairs ranks (IsAlong behind line) (n + 1) x) is
        (subst (λ k. IsBest touches pairs ranks (IsAlong behind k) (n + 1) (Some r)) (sym same) now)
    | inr other ↦
        let within : line < length best = omega (
          arith,
          slice_get_within (set best step.from (Some r)) line o there,
          length-set best step.from (Some r),
        ) in
        let new =
        slice_get-get_or (set best step.from (Some r)) line d
        (omega (arith, within, length-set best step.from (Some r))) in
        let was : slice_get best line ≡ Some o = slice_get-get_or best line d within
        ∙ ap Some (sym (get_or-set_other best step.from line (Some r) d other)) ∙ sym new ∙ there in
        best-misses touches pairs ranks (IsAlong behind line) n pair step at of o (are line o was)
        (λ is. other (sym is.0))
  ]
