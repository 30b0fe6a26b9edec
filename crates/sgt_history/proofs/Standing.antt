-- The operations of committed transactions in the run of an order of them.
use Rattle.std.proofs.Common.{◌≡◌, ◌≢◌, ℕ, zero, suc, ◌+◌, ◌-◌, ◌<◌, ◌≤◌, List, Some, refl, sym, ap, ◌∙◌, subst, arith, inl, inr, length}
use Rattle.std.specs.Prelude.{slice_get}
use Rattle.std.proofs.lemmas.Bool.{cases_order}
use Rattle.std.proofs.lemmas.Option.{same_Some, slice_get_within}
use Rattle.sgt_names.proofs.Lists.{within_at}
use Rattle.sgt_names.proofs.Places.{Contains_at}
use Rattle.sgt_history.specs.declared.history.Operation.{Operation}
use Rattle.sgt_history.specs.Transaction.{Transaction}
use Rattle.sgt_history.specs.Serial.{IsOrder, run_of, IsWriteOf, NoneWrites, IsLastWritten}
use Rattle.sgt_history.specs.Conflicts.{IsOperation, Precedes}
use Rattle.sgt_history.proofs.Runs.{one_at}
use Rattle.sgt_history.proofs.Placed.{start_of, IsPlaced, in_run, earlier-before}

pub record Stands {I V : Type 0} (h : List (Transaction I V)) (order : List ℕ) (line : ℕ) (t : Transaction I V)
    (place : ℕ)
    (o : Operation I V) : Type 0 where
  pub i : ℕ
  pub p : ℕ
  pub placed : IsPlaced h order p i line t place o
  pub there : slice_get (run_of h order) p ≡ Some o

pub stands : {I V : Type 0} (h : List (Transaction I V)) (order : List ℕ) → IsOrder h order
    → (line place : ℕ) (t : Transaction I V) (o : Operation I V)
    → IsOperation h line place t o → Stands h order line t place o
stands h order ordered line place t o is =
    let at = Contains_at order line (ordered.all line t is.committed) in
    let placed : IsPlaced h order (start_of h order at.0 + place) at.0 line t place o =
    record { at = at.1; in_line = is.committed.0; there = is.there; is = refl } in
    record {
      i = at.0;
      p = start_of h order at.0 + place;
      placed = placed;
      there = in_run h order (start_of h order at.0 + place) at.0 line t place o placed;
    }

-- one line stands before another where the other doesn't have its operation first
pub precedes : {I V : Type 0} (h : List (Transaction I V)) (order : List ℕ)
    (l m : ℕ) (t : Transaction I V) (j : ℕ) (o : Operation I V) (t' : Transaction I V) (j' : ℕ) (o' : Operation I V)
    → l ≢ m → (a : Stands h order l t j o) → (b : Stands h order m t' j' o') → (b.p < a.p → ⊥) → Precedes order l m
precedes h order l m t j o t' j' o' apart a b not =
    elim (cases_order a.i b.i) [
      | inl e ↦ absurd (apart (one_at order a.i b.i l m e a.placed.at b.placed.at))
      | inr (inl lt) ↦ record { i = a.i; j = b.i; before = lt; first_at = a.placed.at; second_at = b.placed.at }
      | inr (inr gt) ↦ absurd (not (earlier-before h order b.p b.i m t' j' o' a.p a.i l t j o b.placed a.placed gt))
    ]

-- what stands in the run at a place of a transaction is that operation of it
pub own_at : {I V : Type 0} (h : List (Transaction I V)) (order : List ℕ) (i line : ℕ) (t : Transaction I V)
    → slice_get order i ≡ Some line → slice_get h line ≡ Some t
    → (r : ℕ) (w : Operation I V) → r < length t.operations
    → slice_get (run_of h order) (start_of h order i + r) ≡ Some w
    → slice_get t.operations r ≡ Some w
own_at h order i line t at in_line r w lt there =
    let own = within_at t.operations r lt in
    let here = in_run h order (start_of h order i + r) i line t r own.0
    (record { at = at; in_line = in_line; there = own.1; is = refl }) in
    own.1 ∙ ap Some (same_Some own.0 w (sym here ∙ there))

-- what a transaction wrote last before one of its operations is what was written last before it
pub own-last : {I V : Type 0} (h : List (Transaction I V)) (order : List ℕ) (p i line : ℕ) (t : Transaction I V)
    (j : ℕ) (o : Operation I V)
    → IsPlaced h order p i line t j o → (x : I) (v : ℕ) → IsLastWritten t.operations j x v
    → IsLastWritten (run_of h order) p x v
own-last h order p i line t j o s x v own =
    let start = start_of h order i in
    let len = slice_get_within t.operations j o s.there in
    record {
      last = start_of h order i + own.last;
      o = own.o;
      before = omega (arith, s.is, own.before);
      there = in_run h order (start_of h order i + own.last) i line t own.last own.o
          (record { at = s.at; in_line = s.in_line; there = own.there; is = refl });
      writes = own.writes;
      version_is = own.version_is;
      none = λ r w above below there writes.
          let r' = r - start_of h order i in
          let sum : r ≡ start_of h order i + r' = omega (arith, above) in
          let lt : r' < j = omega (arith, sum, below, s.is) in
          let at = own_at h order i line t s.at s.in_line r' w (omega (arith, lt, len))
          (ap (slice_get (run_of h order)) (sym sum) ∙ there) in
          own.none r' w (omega (arith, sum, above)) lt at writes;
    }
