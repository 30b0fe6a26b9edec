-- The name of the steps that are told is right for the least graph that has a cycle.
use Rattle.std.proofs.Common.{◌≡◌, ◌≢◌, ℕ, zero, suc, ◌+◌, Bool, true, false, cond, List, [], ◌∷◌, Some, refl, sym, ap, ap₂, ◌∙◌, subst, arith, inl, inr, ◌⊎◌}
use Rattle.std.specs.Prelude.{slice_get, count_by}
use Rattle.std.proofs.lemmas.Bool.{cases_eq, eq-eqb, ne_eqb}
use Rattle.std.proofs.lemmas.List.Sums.{sum_by-cons}
use Rattle.std.proofs.lemmas.Option.{same_Some, slice_get_within}
use Rattle.sgt_names.proofs.Places.{All_at, All-from_at}
use Rattle.sgt_history.specs.declared.named.Conflict.{Conflict}
use Rattle.sgt_history.specs.declared.named.Conflict.TheVariants as conflict
use Rattle.sgt_history.specs.declared.named.Graph.{Graph}
use Rattle.sgt_history.specs.declared.named.Graph.TheVariants.{WriteWrite, WithReads, Whole}
use Rattle.sgt_history.specs.Transaction.{Transaction}
use Rattle.sgt_history.specs.Conflicts.{HasCycle, IsAmong}
use Rattle.sgt_history_verdict.specs.declared.anomaly.Anomaly.TheVariants.{G0, G1c}
use Rattle.sgt_history_verdict.specs.declared.step.Step.{Step}
use Rattle.sgt_history_verdict.specs.Named.{IsNameOf, is_read_write, is_write_read, named, named_by, read_writes, write_reads}
use Rattle.sgt_history_verdict.specs.Steps.{AreSteps, IsStep, lines_of}
use Rattle.sgt_history_verdict.specs.Verdict.{IsLeastGraph}
use Rattle.sgt_history_verdict.proofs.Excluding.{steps-cycle}
use Rattle.sgt_names.proofs.Elements.{bool_cases}

-- ---- counts

-- what one step adds to a count
abbrev weight : Bool → ℕ
weight b = cond b 1 0

none-counted : (p : Step → Bool) (steps : List Step) → ((place : ℕ) (s : Step) → slice_get steps place ≡ Some s
    → p s ≡ false) → count_by p steps ≡ 0
none-counted p [] none = refl
none-counted p (s ∷ rest) none =
    let here : weight (p s) ≡ weight false = ap weight (none 0 s refl) in
    let more : count_by p rest ≡ 0 = none-counted p rest (λ place t at. none (suc place) t at) in
    omega (arith, sum_by-cons (λ (t : Step). weight (p t)) s rest, here, more)

first-none : (p : Step → Bool) (s : Step) (rest : List Step) → count_by p (s ∷ rest) ≡ 0
    → (p s ≡ false) × (count_by p rest ≡ 0)
first-none p s rest none =
    let sum = sum_by-cons (λ (t : Step). weight (p t)) s rest in
    elim (bool_cases (p s)) [
      | inl counts ↦ let one : weight (p s) ≡ weight true = ap weight counts in absurd (omega (arith, sum, one, none))
      | inr not ↦ let nothing : weight (p s) ≡ weight false = ap weight not in (not, omega (arith, sum, nothing, none))
    ]

counted-none : (p : Step → Bool) (steps : List Step) → count_by p steps ≡ 0 → (place : ℕ) (s : Step)
    → slice_get steps place ≡ Some s → p s ≡ false
counted-none p [] none place s at = absurd (omega (arith, slice_get_within [] place s at))
counted-none p (t ∷ rest) none zero s at = ap p (sym (same_Some t s at)) ∙ (first-none p t rest none).0
counted-none p (t ∷ rest) none (suc place) s at = counted-none p rest (first-none p t rest none).1 place s at

-- ---- kinds of a graph

no-wr : (k : Conflict) → IsAmong WriteWrite k → is_write_read k ≡ false
no-wr conflict.WriteWrite a = refl
no-wr conflict.WriteRead a = absurd a
no-wr conflict.ReadWrite a = absurd a

no-rw : (k : Conflict) → IsAmong WriteWrite k → is_read_write k ≡ false
no-rw conflict.WriteWrite a = refl
no-rw conflict.WriteRead a = absurd a
no-rw conflict.ReadWrite a = absurd a

reads-no-rw : (k : Conflict) → IsAmong WithReads k → is_read_write k ≡ false
reads-no-rw conflict.WriteWrite a = refl
reads-no-rw conflict.WriteRead a = refl
reads-no-rw conflict.ReadWrite a = absurd a

only-ww : (k : Conflict) → IsAmong WithReads k → is_write_read k ≡ false → IsAmong WriteWrite k
only-ww conflict.WriteWrite a not = tt
only-ww conflict.WriteRead a not = absurd cc
only-ww conflict.ReadWrite a not = absurd a

only-reads : (k : Conflict) → is_read_write k ≡ false → IsAmong WithReads k
only-reads conflict.WriteWrite not = tt
only-reads conflict.WriteRead not = tt
only-reads conflict.ReadWrite not = absurd cc

-- ---- steps

-- steps whose kinds a graph has are steps of it, and a cycle of it
steps-has : (h : List (Transaction ℕ ℕ)) (g : Graph) (steps : List Step) → AreSteps h g steps → HasCycle h g
steps-has h g [] are = absurd (omega (arith, are.some))
steps-has h g (s ∷ rest) are = (lines_of (s ∷ rest), steps-cycle h g s rest are)

has-of : (h : List (Transaction ℕ ℕ)) (g k : Graph) (steps : List Step) → AreSteps h g steps
    → ((place : ℕ) (s : Step) → slice_get steps place ≡ Some s → IsAmong k s.kind) → HasCycle h k
has-of h g k steps are among = steps-has h k steps (record {
  some = are.some;
  each = All-from_at (IsStep h k) steps (λ place s at. record {
    among = among place s at;
    conflict =
        (All_at (IsStep h g) steps place s are.each at).conflict;
  });
  onward = are.onward;
})

-- ---- names

one-wr : (wr : ℕ) → wr ≢ 0 → named_by wr 0 ≡ G1c
one-wr wr some = rw (ne_eqb wr 0 some) refl

one-rw : (h : List (Transaction ℕ ℕ)) (wr rw_count : ℕ) → rw_count ≢ 0 → (HasCycle h WithReads → ⊥) → HasCycle h Whole
    → IsNameOf h (named_by wr rw_count)
one-rw h wr rw_count some none has = rw (ne_eqb rw_count 0 some) (elim (cases_eq rw_count 1) [
  | inl one ↦ rw (eq-eqb rw_count 1 one) (none, has)
  | inr other ↦ rw (ne_eqb rw_count 1 other) (none, has)
])

pub name-right : (h : List (Transaction ℕ ℕ)) (g : Graph) (steps : List Step) → AreSteps h g steps → IsLeastGraph h g
    → IsNameOf h (named steps)
name-right h WriteWrite steps are least =
    let wr_count =
    none-counted (λ (s : Step). is_write_read s.kind) steps
    (λ place s at. no-wr s.kind (All_at (IsStep h WriteWrite) steps place s are.each at).among) in
    let rw_count =
    none-counted (λ (s : Step). is_read_write s.kind) steps
    (λ place s at. no-rw s.kind (All_at (IsStep h WriteWrite) steps place s are.each at).among) in
    subst (IsNameOf h) (sym (ap₂ named_by wr_count rw_count)) least.has
name-right h WithReads steps are least =
    let among =
    λ (place : ℕ) (s : Step) (at : slice_get steps place ≡ Some s).
    (All_at (IsStep h WithReads) steps place s are.each at).among in
    let rw_count =
    none-counted (λ (s : Step). is_read_write s.kind) steps (λ place s at. reads-no-rw s.kind (among place s at)) in
    let none = least.least WriteWrite tt in
    let wr_some : write_reads steps ≢ 0 = λ nothing. none (has-of h WithReads WriteWrite steps are (λ place s at.
    only-ww s.kind (among place s at) (counted-none (λ (u : Step). is_write_read u.kind) steps nothing place s at))) in
    subst (IsNameOf h) (sym (ap (named_by (write_reads steps)) rw_count ∙ one-wr (write_reads steps) wr_some)) (
      none,
      least.has,
    )
name-right h Whole steps are least =
    let none = least.least WithReads tt in
    let rw_some : read_writes steps ≢ 0 = λ nothing. none (has-of h Whole WithReads steps are (λ place s at.
    only-reads s.kind (counted-none (λ (u : Step). is_read_write u.kind) steps nothing place s at))) in
    one-rw h (write_reads steps) (read_writes steps) rw_some none least.has
