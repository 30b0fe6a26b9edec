-- The least conflicts along lines, by the pairs of touches.
use Rattle.std.proofs.Common.{◌≡◌, ℕ, ◌+◌, ◌<◌, ◌≤◌, List, [], ◌∷◌, ◌++◌, zero, suc, Option, Some, None, length, refl, sym, ap, ◌∙◌, subst, arith, inl, inr, ◌⊎◌, length-append}
use Rattle.std.specs.Prelude.{slice_get}
use Rattle.std.proofs.lemmas.Option.{same_Some, slice_get_within}
use Rattle.sgt_history.specs.declared.named.Graph.TheVariants.{Whole}
use Rattle.sgt_history.specs.Transaction.{Transaction}
use Rattle.sgt_history_faults.specs.Judged.{IsFaultlessBy}
use Rattle.sgt_history_faults.specs.declared.touch.Touch.{Touch}
use Rattle.sgt_graph.specs.declared.edge.Edge.{Edge}
use Rattle.sgt_history_conflicts.specs.Edges.{ArePairsOf}
use Rattle.sgt_history_verdict.specs.Between.{AreBestAlong, AreLeastAlong, IsLeastBetween}
use Rattle.sgt_history_verdict.specs.declared.step.Step.{Step}
use Rattle.sgt_history_verdict.specs.Steps.{AreBest, IsAlong, IsBest, Leads, place_behind}
use Rattle.sgt_history_verdict.proofs.Stepping.{leads-step, same-step, step-is}
use Rattle.sgt_history_verdict.proofs.Telling.{best-all, best-none}

-- of the steps that are along the lines those from this one lead to the one noted behind it
pub best-leads : (touches : List Touch) (pairs : List Edge) (ranks : List ℕ) (behind : List (Option ℕ)) (n a b : ℕ)
    (o : Option Step)
    → slice_get behind a ≡ Some (Some b) → IsBest touches pairs ranks (IsAlong behind a) n o
    → IsBest touches pairs ranks (λ s. Leads s a b) n o
best-leads touches pairs ranks behind n a b None noted best =
    λ k pair t less at of leads. best k pair t less at of (leads.0, noted ∙ ap (λ x. Some (Some x)) (sym leads.1))
best-leads touches pairs ranks behind n a b (Some s) noted best =
    let to : b ≡ s.to = same_Some b s.to (same_Some (Some b) (Some s.to) (sym noted ∙ best.1.1)) in (
      best.0,
      (best.1.0, sym to),
      λ k pair t less at of leads. best.2 k pair t less at of (leads.0, noted ∙ ap (λ x. Some (Some x)) (sym leads.1)),
    )

-- ---- while they are gathered

pushed-cases : (xs : List (Option Step)) (x y : Option Step) (k : ℕ) → slice_get (xs ++ x ∷ []) k ≡ Some y
    → (slice_get xs k ≡ Some y) ⊎ ((k ≡ length xs) × (y ≡ x))
pushed-cases [] x y zero at = inr (refl, sym (same_Some x y at))
pushed-cases [] x y (suc k) at = absurd (omega (arith, slice_get_within [] k y at))
pushed-cases (z ∷ xs) x y zero at = inl at
pushed-cases (z ∷ xs) x y (suc k) at = elim (pushed-cases xs x y k at) [
  | inl before ↦ inl before
  | inr last ↦ inr (omega (arith, last.0), last.1)
]

-- those of the first n lines
pub record AreBestTo (touches : List Touch) (pairs : List Edge) (ranks lines : List ℕ) (n : ℕ)
    (found : List (Option Step)) : Type 0 where
  pub size : length found ≡ n
  pub each : (place a b : ℕ) (o : Option Step) → slice_get found place ≡ Some o → slice_get lines place ≡ Some a
      → slice_get lines (place_behind place (length lines)) ≡ Some b
      → IsBest touches pairs ranks (λ s. Leads s a b) (length pairs) o

pub best_to-none : (touches : List Touch) (pairs : List Edge) (ranks lines : List ℕ) (found : List (Option Step))
    → found ≡ [] → AreBestTo touches pairs ranks lines 0 found
best_to-none touches pairs ranks lines found none = record {
  size = ap length none;
  each = λ place a b o at. absurd (omega (arith, slice_get_within found place o at, ap length none));
}

pub best_to-next : (touches : List Touch) (pairs : List Edge) (ranks lines : List ℕ) (n : ℕ)
    (found more : List (Option Step)) (o : Option Step) (a b : ℕ)
    → AreBestTo touches pairs ranks lines n found → more ≡ found ++ o ∷ [] → slice_get lines n ≡ Some a
    → slice_get lines (place_behind n (length lines)) ≡ Some b
    → IsBest touches pairs ranks (λ s. Leads s a b) (length pairs) o → AreBestTo touches pairs ranks lines (n + 1) more
best_to-next touches pairs ranks lines n found more o a b so pushed start end best = record {
  size = ap length pushed ∙ length-append found (o ∷ []) ∙ omega (arith, so.size);
  each = λ place c d p at at_c at_d. elim (pushed-cases found o p place (ap (λ xs. slice_get xs place) (sym pushed)
      ∙ at)) [
        | inl before ↦ so.each place c d p before at_c at_d
        | inr last ↦
            let here : place ≡ n = last.0 ∙ so.size in
            let a_is : a ≡ c = same_Some a c (sym start ∙ ap (slice_get lines) (sym here) ∙ at_c) in
            let b_is : b ≡ d =
            same_Some b d (sym end ∙ ap (λ k. slice_get lines (place_behind k (length lines))) (sym here) ∙ at_d) in
            subst (λ (x : Option Step). IsBest touches pairs ranks (λ s. Leads s c d) (length pairs) x) (sym last.1)
            (subst (λ (y : ℕ). IsBest touches pairs ranks (λ s. Leads s c y) (length pairs) o) b_is
            (subst (λ (x : ℕ). IsBest touches pairs ranks (λ s. Leads s x b) (length pairs) o) a_is best))
      ];
}

pub best_to-whole : (touches : List Touch) (pairs : List Edge) (ranks lines : List ℕ) (n : ℕ)
    (found : List (Option Step)) → length lines ≤ n → n ≤ length lines
    → AreBestTo touches pairs ranks lines n found → AreBestAlong touches pairs ranks lines found
best_to-whole touches pairs ranks lines n found all within so =
    record { size = omega (arith, so.size, all, within); each = so.each }

-- ---- of the history

module _ (h : List (Transaction ℕ ℕ)) (touches : List Touch) (by : IsFaultlessBy h touches) (pairs : List Edge)
    (are : ArePairsOf touches Whole pairs) where
  least-between : (ranks : List ℕ) (a b : ℕ) (o : Option Step)
      → IsBest touches pairs ranks (λ s. Leads s a b) (length pairs) o → IsLeastBetween h ranks a b o
  least-between ranks a b None best = λ conflict.
      let s = leads-step h touches by Whole pairs are a b conflict in
      best-none touches pairs ranks (λ s. Leads s a b) best s.0 s.1 s.2
  least-between ranks a b (Some s) best = (
    step-is h touches by Whole pairs are s best.0,
    best.1,
    λ t is leads.
        let u = same-step h touches by Whole pairs are t is in
        u.3 ranks s (best-all touches pairs ranks (λ s. Leads s a b) s best u.0 u.1 (u.2.0 ∙ leads.0, u.2.1 ∙ leads.1)),
  )

  pub least-along : (ranks lines : List ℕ) (found : List (Option Step)) → AreBestAlong touches pairs ranks lines found
      → AreLeastAlong h ranks lines found
  least-along ranks lines found so = record {
    size = so.size;
    each = λ place a b o at at_a at_b. least-between ranks a b o (so.each place a b o at at_a at_b);
  }
