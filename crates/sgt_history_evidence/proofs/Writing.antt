-- The lines that write, as faults have them and as they are looked for.
use Rattle.std.proofs.Common.{◌≡◌, ℕ, ◌<◌, ◌≤◌, true, false, Bool, List, Some, refl, sym, ap, ◌∙◌, subst, arith, inl, inr}
use Rattle.std.specs.Prelude.{slice_get}
use Rattle.std.proofs.lemmas.Option.{same_Some}
use Rattle.sgt_history.specs.declared.history.Operation.{Operation}
use Rattle.sgt_history.specs.declared.history.Kind.TheVariants.{Write}
use Rattle.sgt_history.specs.declared.named.Flaw.{Flaw}
use Rattle.sgt_history.specs.declared.named.Flaw.TheVariants.{Internal, Duplicate, AbortedRead, IntermediateRead}
use Rattle.sgt_history.specs.Transaction.{Transaction}
use Rattle.sgt_history.specs.Conflicts.{IsOperation, Writes}
use Rattle.sgt_history.specs.Serial.{IsLastWritten, NoneWrites}
use Rattle.sgt_history.specs.Flaws.{AbortedWrites, HasFlaw, IsFirstWriter, IsForeign, IsFaulty, IsFirstFault}
use Rattle.sgt_history.proofs.Runs.{one_version}
use Rattle.sgt_history_evidence.specs.Evidence.{IsAgainstOwn, IsSurpassed, IsEvidence}
use Rattle.sgt_history_evidence.specs.Writers.{WritesAs, WritesIn, IsFirstAs, IsLeastGreater}
use Rattle.sgt_history_evidence.specs.declared.evidence.Evidence.{Evidence}
use Rattle.sgt_history_evidence.specs.declared.evidence.Evidence.TheVariants.{Wrote, WritesLater}

pub committed-as : (h : List (Transaction ℕ ℕ)) (line x v : ℕ) → Writes h line x v → WritesAs true h x v line
committed-as h line x v w = record {
  t = w.t;
  in_line = w.is.committed.0;
  commits_is = w.is.committed.1;
  is = record { place = w.place; o = w.o; there = w.is.there; writes = w.writes; version_is = w.version_is };
}

pub as-committed : (h : List (Transaction ℕ ℕ)) (line x v : ℕ) → WritesAs true h x v line → Writes h line x v
as-committed h line x v w = record {
  place = w.is.place;
  t = w.t;
  o = w.is.o;
  is = record { committed = (w.in_line, w.commits_is); there = w.is.there };
  writes = w.is.writes;
  version_is = w.is.version_is;
}

pub aborted-as : (h : List (Transaction ℕ ℕ)) (line x v : ℕ) → AbortedWrites h line x v → WritesAs false h x v line
aborted-as h line x v w = record {
  t = w.t;
  in_line = w.in_line;
  commits_is = w.aborts;
  is = record { place = w.place; o = w.o; there = w.there; writes = w.writes; version_is = w.version_is };
}

-- the two first writers are one
pub one-writer : (h : List (Transaction ℕ ℕ)) (x v by line : ℕ) → IsFirstAs true h x v by → IsFirstWriter h line x v
    → line ≡ by
one-writer h x v by line first writer =
    omega (
      arith,
      first.first line (committed-as h line x v writer.writes),
      writer.first by (as-committed h by x v first.writes),
    )

-- what the line writes is in its operations
pub writes-in : (h : List (Transaction ℕ ℕ)) (line x v : ℕ) (t : Transaction ℕ ℕ) → slice_get h line ≡ Some t
    → Writes h line x v → WritesIn t.operations x v
writes-in h line x v t at w =
    let same : w.t ≡ t = same_Some w.t t (sym w.is.committed.0 ∙ at) in
    record {
      place = w.place;
      o = w.o;
      there = subst (λ (k : Transaction ℕ ℕ). slice_get k.operations w.place ≡ Some w.o) same w.is.there;
      writes = w.writes;
      version_is = w.version_is;
    }

-- the operation that has the fault is the one that stands there
pub flaw_there : (h : List (Transaction ℕ ℕ)) (line : ℕ) (flaw : Flaw) (place : ℕ) (t : Transaction ℕ ℕ)
    (o : Operation ℕ ℕ) → IsFaulty h line flaw place
    → IsOperation h line place t o → HasFlaw h line place t o flaw
flaw_there h line flaw place t o f is =
    let one : f.t ≡ t = same_Some f.t t (sym f.is.committed.0 ∙ is.committed.0) in
    let two : f.o ≡ o =
    same_Some f.o o (sym (subst (λ (k : Transaction ℕ ℕ). slice_get k.operations place ≡ Some f.o) one f.is.there)
    ∙ is.there) in
    subst (λ (k : Operation ℕ ℕ). HasFlaw h line place t k flaw) two
    (subst (λ (k : Transaction ℕ ℕ). HasFlaw h line place k f.o flaw) one f.has)

-- the evidence of the operation there, which is known by the fault
pub evidence_there : (h : List (Transaction ℕ ℕ)) (line : ℕ) (flaw f : Flaw) (place : ℕ) (t : Transaction ℕ ℕ)
    (o p : Operation ℕ ℕ) (e : Evidence) → flaw ≡ f → o ≡ p
    → IsFirstFault h line flaw place → IsOperation h line place t o
    → (IsOperation h line place t p → HasFlaw h line place t p f → IsEvidence h line place t p f e)
    → IsEvidence h line place t o flaw e
evidence_there h line flaw f place t o p e same one first is give =
    let has = subst (λ k. HasFlaw h line place t o k) same (flaw_there h line flaw place t o first.faulty is) in
    subst (λ k. IsEvidence h line place t o k e) (sym same)
    (subst (λ (q : Operation ℕ ℕ). IsEvidence h line place t q f e) (sym one)
    (give (subst (λ (q : Operation ℕ ℕ). IsOperation h line place t q) one is)
    (subst (λ (q : Operation ℕ ℕ). HasFlaw h line place t q f) one has)))

-- what stands in the line's transaction
pub stands_in : (h : List (Transaction ℕ ℕ)) (line place : ℕ) (t u : Transaction ℕ ℕ) (o : Operation ℕ ℕ)
    → IsOperation h line place t o → slice_get h line ≡ Some u
    → slice_get u.operations place ≡ Some o
stands_in h line place t u o is at =
    let same : t ≡ u = same_Some t u (sym is.committed.0 ∙ at) in
    subst (λ (k : Transaction ℕ ℕ). slice_get k.operations place ≡ Some o) same is.there
