-- What a verdict and the steps of a cycle exclude.
use Rattle.std.proofs.Common.{◌≡◌, ℕ, suc, ◌+◌, ◌<◌, List, [], ◌∷◌, ◌++◌, Some, length, refl, sym, ap, ◌∙◌, subst, arith, inl, inr, length-append}
use Rattle.std.specs.Prelude.{◌↔◌, slice_get}
use Rattle.std.proofs.lemmas.Bool.{cases_lt}
use Rattle.std.proofs.lemmas.List.{length-map}
use Rattle.std.proofs.lemmas.Option.{same_Some, slice_get_within}
use Rattle.sgt_names.proofs.Lists.{back_at, front_at, map_at, within_at}
use Rattle.sgt_names.proofs.Places.{All_at}
use Rattle.sgt_history.specs.declared.named.Graph.{Graph}
use Rattle.sgt_history.specs.Transaction.{Transaction}
use Rattle.sgt_history.specs.Serial.{IsSerializable}
use Rattle.sgt_history.specs.Conflicts.{ConflictIn, IsChain, IsCycle}
use Rattle.sgt_history.proofs.Excluded.{fault-excludes}
use Rattle.sgt_history.proofs.Forward.{cycle-excludes}
use Rattle.sgt_history_verdict.specs.declared.deciding.Verdict.{Verdict}
use Rattle.sgt_history_verdict.specs.declared.deciding.Verdict.TheVariants as verdict
use Rattle.sgt_history_verdict.specs.declared.step.Step.{Step}
use Rattle.sgt_history_verdict.specs.Steps.{AreSteps, IsStep, lines_of, place_behind}
use Rattle.sgt_history_verdict.specs.Verdict.{IsSerial, IsVerdict, committed_in}
use Rattle.sgt_history_verdict.proofs.Stepping.{behind-last, behind-other}

pub exact : (h : List (Transaction ℕ ℕ)) (v : Verdict) → IsVerdict h v → IsSerial v ↔ IsSerializable h
exact h (verdict.Serial order) is = (λ serial. (committed_in h order.items, is.serves), λ s. tt)
exact h (verdict.Faulty f) is = (λ serial. absurd serial, λ s. fault-excludes h f.line f.flaw f.place is.faulty s)
exact h (verdict.Cyclic c) is =
    (λ serial. absurd serial, λ s. cycle-excludes h c.graph (c.cycle.items, is.cycle_is.is) s)

-- ---- steps

pub chain-of : (R : ℕ → ℕ → Type 0) (a : ℕ) (xs : List ℕ)
    → ((i x y : ℕ) → slice_get (a ∷ xs) i ≡ Some x → slice_get (a ∷ xs) (suc i) ≡ Some y → R x y) → IsChain R a xs
chain-of R a [] next = tt
chain-of R a (b ∷ bs) next = (next 0 a b refl refl, chain-of R b bs (λ i x y. next (suc i) x y))

conflict-of : (h : List (Transaction ℕ ℕ)) (g : Graph) (s : Step) → IsStep h g s → ConflictIn h g s.from s.to
conflict-of h g s is = record {
  kind = s.kind;
  among = is.among;
  x = s.item;
  v = s.from_version;
  w = s.to_version;
  conflict = is.conflict;
}

module _ (h : List (Transaction ℕ ℕ)) (g : Graph) (s : Step) (rest : List Step) (are : AreSteps h g (s ∷ rest)) where
  abbrev steps : List Step
  steps = s ∷ rest

  abbrev round : List ℕ
  round = lines_of steps ++ s.from ∷ []

  -- where one line stands, and the next
  at-line : (i x : ℕ) → i < length steps → slice_get round i ≡ Some x → (t : Step) × (slice_get steps i ≡ Some t)
      × (t.from ≡ x)
  at-line i x lt at =
      let size : length (lines_of steps) ≡ length steps = length-map steps (λ (u : Step). u.from) in
      let here = within_at (lines_of steps) i (omega (arith, lt, size)) in
      let same : here.0 ≡ x = same_Some here.0 x (sym (front_at (lines_of steps) (s.from ∷ []) i here.0 here.1) ∙ at) in
      map_at (λ (u : Step). u.from) steps i x (here.1 ∙ ap Some same)

  goes : (i x y : ℕ) → slice_get round i ≡ Some x → slice_get round (suc i) ≡ Some y → ConflictIn h g x y
  goes i x y at at' =
      let size : length (lines_of steps) ≡ length steps = length-map steps (λ (u : Step). u.from) in
      let all : length round ≡ length (lines_of steps) + 1 = length-append (lines_of steps) (s.from ∷ []) in
      let lt : i < length steps = omega (arith, slice_get_within round (suc i) y at', all, size) in
      let t = at-line i x lt at in
      let c = conflict-of h g t.0 (All_at (IsStep h g) steps i t.0 are.each t.1) in
      let leads : t.0.to ≡ y = elim (cases_lt (i + 1) (length steps)) [
        | inl less ↦
            let e : suc i ≡ place_behind i (length steps) = omega (arith, behind-other i (length steps) less) in
            let u = at-line (suc i) y (omega (arith, less)) at' in
            are.onward i t.0 u.0 t.1 (ap (slice_get steps) (sym e) ∙ u.1) ∙ u.2
        | inr last ↦
            let e : place_behind i (length steps) ≡ 0 = behind-last i (length steps) last in
            let end : suc i ≡ length (lines_of steps) + 0 = omega (arith, lt, last, size) in
            let first : s.from ≡ y = same_Some s.from y (sym (back_at (lines_of steps) (s.from ∷ []) 0)
            ∙ ap (slice_get round) (sym end) ∙ at') in
            are.onward i t.0 s t.1 (ap (slice_get steps) e) ∙ first
      ] in
      subst (λ z. ConflictIn h g x z) leads (subst (λ z. ConflictIn h g z t.0.to) t.2 c)

  pub steps-cycle : IsCycle (ConflictIn h g) (lines_of (s ∷ rest))
  steps-cycle = chain-of (ConflictIn h g) s.from (lines_of rest ++ s.from ∷ []) goes

pub steps-exclude : (h : List (Transaction ℕ ℕ)) (g : Graph) (steps : List Step) → AreSteps h g steps
    → IsSerializable h → ⊥
steps-exclude h g [] are s = absurd (omega (arith, are.some))
steps-exclude h g (t ∷ rest) are s = cycle-excludes h g (lines_of (t ∷ rest), steps-cycle h g t rest are) s
