-- Conflicts and sessions alone, without times.
use Rattle.std.proofs.Common.{◌≡◌, ℕ, List, [], Option, Some, length, refl, sym, ap, ◌∙◌, subst, arith, inl, inr}
use Rattle.std.specs.Prelude.{slice_get}
use Rattle.std.proofs.lemmas.Option.{slice_get_within}
use Rattle.sgt_history.specs.Conflicts.{IsCycle}
use Rattle.sgt_history.specs.Transaction.{Transaction}
use Rattle.sgt_graph.specs.declared.edge.Edge.{Edge}
use Rattle.sgt_history_kept.specs.declared.asked.Asked.{Asked}
use Rattle.sgt_history_kept.specs.declared.deciding.Kept.{Kept}
use Rattle.sgt_history_kept.specs.declared.deciding.Kept.TheVariants.{Serial, Cyclic}
use Rattle.sgt_history_kept.specs.Decided.{IsAskedAlone, IsFound, IsKept, IsKeptFrom}
use Rattle.sgt_history_kept.specs.FirstCycle.{IsFirstCycleOf}
use Rattle.sgt_history_kept.specs.Sooner.{IsCycleKeeping, NoneInSessions}
use Rattle.sgt_history_kept.proofs.Rounds.{steps-cycle}
use Rattle.sgt_history_time.proofs.Forward.{cycle-excludes}
use Rattle.sgt_history_time.specs.declared.times.Times.{Times}
use Rattle.sgt_history_time.specs.Serializable.{IsSerializableKeeping}
use Rattle.sgt_history_time.specs.Steps.{StandsBefore}

no-times : (times : List (Option Times)) → times ≡ [] → (line : ℕ) (x : Times) → slice_get times line ≡ Some (Some x)
    → ⊥
no-times times empty line x at =
    let size : length times ≡ 0 = ap length empty in
    absurd (omega (arith, slice_get_within times line (Some x) at, size))

step-with-times : (h : List (Transaction ℕ ℕ)) (times : List (Option Times)) (sessions : List (Option ℕ)) (x y : ℕ)
    → StandsBefore h [] sessions x y → StandsBefore h times sessions x y
step-with-times h times sessions x y (inl conflict) = inl conflict
step-with-times h times sessions x y (inr (inl earlier)) = inr (inl earlier)
step-with-times h times sessions x y (inr (inr before)) = absurd (no-times [] refl x before.a before.first_at)

module _ (h : List (Transaction ℕ ℕ)) (lines : ℕ) (edges : List Edge) (a alone : Asked) (are : IsAskedAlone a alone)
    (from : IsKeptFrom h lines edges a) where
  pub alone-from : IsKeptFrom h lines edges alone
  alone-from = record {
    size = from.size;
    positive = from.positive;
    faultless = from.faultless;
    conflicts = from.conflicts;
    timed = λ line x at. absurd (no-times alone.times.items are.times_are line x at);
    sessioned = λ line s at.
        from.sessioned line s (ap (λ (xs : List (Option ℕ)). slice_get xs line) (sym are.sessions_are) ∙ at);
  }

  pub first-alone : (cycle : List ℕ) → IsFirstCycleOf (StandsBefore h alone.times.items alone.sessions.items) cycle
      → IsFirstCycleOf (StandsBefore h [] a.sessions.items) cycle
  first-alone cycle first =
      subst (λ (ss : List (Option ℕ)). IsFirstCycleOf (StandsBefore h [] ss) cycle) are.sessions_are
      (subst (λ (ts : List (Option Times)). IsFirstCycleOf (StandsBefore h ts alone.sessions.items) cycle) are.times_are
      first)

  pub none-alone : IsSerializableKeeping h alone.times.items alone.sessions.items → NoneInSessions h a.sessions.items
  none-alone serial other is =
      cycle-excludes h alone.times.items alone.sessions.items alone-from.timed alone-from.sessioned other
      (subst (λ (ts : List (Option Times)). IsCycle (StandsBefore h ts alone.sessions.items) other) (sym are.times_are)
      (subst (λ (ss : List (Option ℕ)). IsCycle (StandsBefore h [] ss) other) (sym are.sessions_are) is)) serial

pub found-kept : (h : List (Transaction ℕ ℕ)) (a : Asked) → NoneInSessions h a.sessions.items → (k : Kept)
    → IsFound h a k → IsKept h a k
found-kept h a none (Serial order) is = is
found-kept h a none (Cyclic cycle) told = record { is = told.is; first = inr (none, told) }

-- the first cycle of conflicts and sessions alone is told
pub sooner-kept : (h : List (Transaction ℕ ℕ)) (a : Asked) (cycle : List ℕ)
    → IsFirstCycleOf (StandsBefore h [] a.sessions.items) cycle
    → IsCycleKeeping h a.times.items a.sessions.items cycle
sooner-kept h a cycle told = record {
  is = steps-cycle (StandsBefore h [] a.sessions.items) (StandsBefore h a.times.items a.sessions.items)
      (step-with-times h a.times.items a.sessions.items) cycle told.is;
  first = inl told;
}
