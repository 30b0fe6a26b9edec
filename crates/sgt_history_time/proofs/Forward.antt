-- Orders that serve and keep what is asked, and the steps that go forward in them.
use Rattle.std.proofs.Common.{◌≡◌, ℕ, ◌<◌, List, Option, Some, refl, sym, ap, ◌∙◌, subst, arith, inl, inr, ◌⊎◌}
use Rattle.std.specs.Prelude.{slice_get, Contains}
use Rattle.sgt_names.proofs.Places.{Contains_at}
use Rattle.sgt_history.specs.declared.named.Conflict.{Conflict}
use Rattle.sgt_history.specs.declared.named.Graph.TheVariants.{Whole}
use Rattle.sgt_history.specs.Transaction.{Transaction, ArePositive}
use Rattle.sgt_history.specs.Serial.{IsCommitted, IsOrder}
use Rattle.sgt_history.specs.Conflicts.{ConflictIn, HaveConflict, IsCycle, Precedes}
use Rattle.sgt_history.specs.Flaws.{IsFaultless}
use Rattle.sgt_history.proofs.Complete.{serves}
use Rattle.sgt_history.proofs.Forward.{goes_forward, no-cycle}
use Rattle.sgt_history_time.specs.declared.times.Times.{Times}
use Rattle.sgt_history_time.specs.Kept.{IsBefore, IsEarlier, Keeps}
use Rattle.sgt_history_time.specs.Serializable.{AreOfCommitted, IsSerializableKeeping, ServesKeeping}
use Rattle.sgt_history_time.specs.Steps.{StandsBefore}

-- two lines of committed transactions
kept-precedes : {I V : Type 0} (h : List (Transaction I V)) (R : ℕ → ℕ → Type 0) (order : List ℕ) → IsOrder h order
    → Keeps R order → (a b : ℕ)
    → ((t : Transaction I V) × IsCommitted h a t) → ((t : Transaction I V) × IsCommitted h b t) → R a b
    → Precedes order a b
kept-precedes h R order ordered keeps a b first second r =
    let i = Contains_at order a (ordered.all a first.0 first.1) in
    let j = Contains_at order b (ordered.all b second.0 second.1) in
    record { i = i.0; j = j.0; before = keeps i.0 j.0 a b i.1 j.1 r; first_at = i.1; second_at = j.1 }

precedes-keeps : {I V : Type 0} (h : List (Transaction I V)) (R : ℕ → ℕ → Type 0) (order : List ℕ) → IsOrder h order
    → ((a b : ℕ) → R a b → Precedes order a b) → Keeps R order
precedes-keeps h R order ordered forward i j a b at at' r =
    let p = forward a b r in
    omega (arith, p.before, ordered.once i p.i a at p.first_at, ordered.once j p.j b at' p.second_at)

-- each step goes forward in an order that serves and keeps
pub goes-forward : {I V S : Type 0} (h : List (Transaction I V)) (times : List (Option Times))
    (sessions : List (Option S)) → AreOfCommitted h times → AreOfCommitted h sessions
    → (order : List ℕ) → ServesKeeping h times sessions order → (a b : ℕ) → StandsBefore h times sessions a b
    → Precedes order a b
goes-forward h times sessions timed sessioned order s a b (inl c) =
    goes_forward h order s.serves c.kind a b c.x c.v c.w c.conflict
goes-forward h times sessions timed sessioned order s a b (inr (inl e)) =
    kept-precedes h (IsEarlier sessions) order s.serves.ordered s.in_sessions a b (sessioned a e.session e.first_at)
    (sessioned b e.session e.second_at) e
goes-forward h times sessions timed sessioned order s a b (inr (inr e)) =
    kept-precedes h (IsBefore times) order s.serves.ordered s.in_time a b (timed a e.a e.first_at)
    (timed b e.b e.second_at) e

pub cycle-excludes : {I V S : Type 0} (h : List (Transaction I V)) (times : List (Option Times))
    (sessions : List (Option S)) → AreOfCommitted h times → AreOfCommitted h sessions
    → (cycle : List ℕ) → IsCycle (StandsBefore h times sessions) cycle → IsSerializableKeeping h times sessions → ⊥
cycle-excludes h times sessions timed sessioned cycle is (order, s) =
    no-cycle order s.serves.ordered.once (StandsBefore h times sessions)
    (goes-forward h times sessions timed sessioned order s) cycle is

-- where all go forward the order serves and keeps
pub serves-keeping : {S : Type 0} (h : List (Transaction ℕ ℕ)) (times : List (Option Times))
    (sessions : List (Option S)) → ArePositive h → IsFaultless h
    → (order : List ℕ) → IsOrder h order → ((a b : ℕ) → StandsBefore h times sessions a b → Precedes order a b)
    → ServesKeeping h times sessions order
serves-keeping h times sessions positive faultless order ordered forward = record {
  serves = serves h positive faultless order ordered
      (λ kind a b x v w c. forward a b (inl (record { kind = kind; among = tt; x = x; v = v; w = w; conflict = c })));
  in_time = precedes-keeps h (IsBefore times) order ordered (λ a b e. forward a b (inr (inr e)));
  in_sessions = precedes-keeps h (IsEarlier sessions) order ordered (λ a b e. forward a b (inr (inl e)));
}
