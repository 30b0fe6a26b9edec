-- The walk of a refused transaction, as its last step and the steps before it.
use Rattle.std.proofs.Common.{◌≡◌, ◌≢◌, ℕ, ◌<◌, ◌≤◌, List, [], ◌∷◌, ◌++◌, length, option_map, Some, refl, sym, ap, ap₂, ◌∙◌, subst, arith, All, AllPairs}
use Rattle.std.specs.Prelude.{slice_get}
use Rattle.std.proofs.lemmas.List.{map-append, length-map}
use Rattle.std.proofs.lemmas.Option.{slice_get-map}
use Rattle.sgt_names.proofs.Places.{All-from_at, All_at, AllPairs-from_at, AllPairs_at}
use Rattle.sgt_names.proofs.Lists.{map_at}
use Rattle.sgt_bundle.specs.Certificate.{IsCommitted, IsCycle, stops}
use Rattle.sgt_bundle.specs.declared.certificate.Step.{Step}
use Rattle.sgt_bundle.specs.declared.certificate.Decision.{Decision}

pub push-one : {A : Type 0} (xs ys : List A) (x y : A) → xs ++ x ∷ [] ≡ ys ++ y ∷ [] → (xs ≡ ys) × (x ≡ y)
push-one [] [] x y e = (refl, cc)
push-one [] (b ∷ []) x y e = absurd cc
push-one [] (b ∷ c ∷ ys) x y e = absurd cc
push-one (a ∷ []) [] x y e = absurd cc
push-one (a ∷ c ∷ xs) [] x y e = absurd cc
push-one (a ∷ xs) (b ∷ ys) x y e =
    let head : a ≡ b = cc in
    let tail : xs ++ x ∷ [] ≡ ys ++ y ∷ [] = cc in
    let more = push-one xs ys x y tail in
    (ap₂ (λ z zs. z ∷ zs) head more.0, more.1)

-- where a step of the walk before its last one may lead
abbrev pub LeadsThrough : List Decision → ℕ → ℕ → Step → Type 0
LeadsThrough decisions number tx step =
    (step.to ≢ tx) × ((m : ℕ) × (rank : ℕ) × (m < number) × IsCommitted decisions m step.to rank)

module _ (decisions : List Decision) (number tx : ℕ) (walk between : List Step) (last : Step)
    (whole : walk ≡ between ++ last ∷ []) where
  stops-are : stops walk ≡ stops between ++ last.to ∷ []
  stops-are = ap stops whole ∙ map-append (λ (s : Step). s.to) between (last ∷ [])

  pub is-cycle : last.to ≡ tx → 1 ≤ length between → AllPairs (λ a b. a.to ≢ b.to) between
      → All (LeadsThrough decisions number tx) between → IsCycle decisions number tx walk
  is-cycle closed long apart through = record {
    between = stops between;
    long = omega (arith, length-map between (λ (s : Step). s.to));
    closed = stops-are ∙ ap (λ t. stops between ++ t ∷ []) closed;
    distinct = AllPairs-from_at (λ a b. a ≢ b) (stops between) (λ p q a b lt at_p at_q e.
        let s = map_at (λ (s : Step). s.to) between p a at_p in
        let t = map_at (λ (s : Step). s.to) between q b at_q in
        AllPairs_at (λ (a b : Step). a.to ≢ b.to) between p q s.0 t.0 apart lt s.1 t.1 (s.2 ∙ e ∙ sym t.2));
    others = All-from_at (λ a. a ≢ tx) (stops between) (λ n a at e.
        let s = map_at (λ (s : Step). s.to) between n a at in
        (All_at (LeadsThrough decisions number tx) between n s.0 through s.1).0 (s.2 ∙ e));
    earlier = All-from_at (λ a. (m : ℕ) × (rank : ℕ) × (m < number) × IsCommitted decisions m a rank) (stops between)
        (λ n a at.
        let s = map_at (λ (s : Step). s.to) between n a at in
        subst (λ t. (m : ℕ) × (rank : ℕ) × (m < number) × IsCommitted decisions m t rank) s.2
        (All_at (LeadsThrough decisions number tx) between n s.0 through s.1).1);
  }

  module _ (cycle : IsCycle decisions number tx walk) where
    ends : (stops between ≡ cycle.between) × (last.to ≡ tx)
    ends = push-one (stops between) cycle.between last.to tx (sym stops-are ∙ cycle.closed)

    pub cycle-closed : last.to ≡ tx
    cycle-closed = ends.1

    pub cycle-long : 1 ≤ length between
    cycle-long = omega (arith, cycle.long, ap length ends.0, length-map between (λ (s : Step). s.to))

    stop_at : (n : ℕ) (s : Step) → slice_get between n ≡ Some s → slice_get cycle.between n ≡ Some s.to
    stop_at n s at = ap (λ ts. slice_get ts n) (sym ends.0) ∙ slice_get-map (λ (s : Step). s.to) between n
        ∙ ap (λ o. option_map (λ (s : Step). s.to) o) at

    pub cycle-apart : AllPairs (λ a b. a.to ≢ b.to) between
    cycle-apart =
        AllPairs-from_at (λ (a b : Step). a.to ≢ b.to) between
        (λ p q a b lt at_p at_q. AllPairs_at (λ a b. a ≢ b) cycle.between p q a.to b.to cycle.distinct lt
        (stop_at p a at_p) (stop_at q b at_q))

    pub cycle-through : All (LeadsThrough decisions number tx) between
    cycle-through = All-from_at (LeadsThrough decisions number tx) between (λ n s at. (
      All_at (λ a. a ≢ tx) cycle.between n s.to cycle.others (stop_at n s at),
      All_at (λ a. (m : ℕ) × (rank : ℕ) × (m < number) × IsCommitted decisions m a rank) cycle.between n s.to
          cycle.earlier (stop_at n s at),
    ))

-- no walk without a step
pub no-walk : (decisions : List Decision) (number tx : ℕ) (walk : List Step) → walk ≡ []
    → IsCycle decisions number tx walk → ⊥
no-walk decisions number tx walk none cycle = nothing cycle.between tx (sym (ap stops none) ∙ cycle.closed)
  where
    nothing : (xs : List ℕ) (x : ℕ) → [] ≡ xs ++ x ∷ [] → ⊥
    nothing [] x e = cc
    nothing (y ∷ xs) x e = cc
