-- An entry of a log agrees with the decisions or it doesn't, and a walk's steps are logged or they aren't.
use Rattle.std.proofs.Common.{◌≡◌, ◌≢◌, ℕ, ◌<◌, ◌≤◌, List, [], ◌∷◌, Some, None, refl, sym, ap, ◌∙◌, subst, inl, inr}
use Rattle.std.specs.Prelude.{slice_get, Contains}
use Rattle.std.proofs.lemmas.Bool.{cases_eq}
use Rattle.std.proofs.lemmas.Option.{same_Some}
use Rattle.sgt_names.specs.Name.{Name}
use Rattle.sgt_names.specs.Entry.{tx_of, Clash}
use Rattle.sgt_names.specs.Log.{Conflicts}
use Rattle.sgt_names.specs.declared.entry.Entry.{Entry}
use Rattle.sgt_names.specs.declared.entry.Entry.TheVariants as entry
use Rattle.sgt_names.specs.declared.entry.Kind.{Kind}
use Rattle.sgt_names.proofs.Lists.{option_cases}
use Rattle.sgt_names.proofs.Places.{Contains_at, Contains-from_at}
use Rattle.sgt_notation.proofs.Decidable.{Decidable, decidable-as, decidable-both, decidable-three, decidable-not, decidable-if, decidable-less, decidable-most, decidable-each, decidable-found}
use Rattle.sgt_notation.proofs.DecidableEntries.{decidable-end, decidable-clash, decidable-clashes}
use Rattle.sgt_bundle.specs.Certificate.{decided_tx, Suits, IsCommitted}
use Rattle.sgt_bundle.specs.Valid.{IsDecided, EndInOrder, RiseInRank, IsLogged, AreLogged}
use Rattle.sgt_bundle.specs.declared.certificate.Step.{Step}
use Rattle.sgt_bundle.specs.declared.certificate.Decision.{Decision}
use Rattle.sgt_bundle.specs.declared.certificate.Decision.TheVariants.{Commit, Refuse, Withdraw}
use Rattle.sgt_bundle.specs.declared.bundle.SiteLog.{SiteLog}

-- ---- decisions

decidable-suits : (e : Entry) (d : Decision) → Decidable (Suits e d)
decidable-suits (entry.Read tx x v) d = inl tt
decidable-suits (entry.Write tx x v) (Commit i rank) = inl tt
decidable-suits (entry.Add tx x v) (Commit i rank) = inl tt
decidable-suits (entry.Want tx x v) (Refuse i walk) = inl tt
decidable-suits (entry.WantAdd tx x v) (Refuse i walk) = inl tt
decidable-suits (entry.Commit tx) (Commit i rank) = inl tt
decidable-suits (entry.Refuse tx) (Refuse i walk) = inl tt
decidable-suits (entry.Withdraw tx) (Withdraw i) = inl tt
decidable-suits _ _ = inr (λ h. h)

-- a decision is that of the entry's transaction, and suits it
abbrev DecidesEntry : Entry → Decision → Type 0
DecidesEntry e d = (decided_tx d ≡ tx_of e) × Suits e d

decidable-decision : (e : Entry) (d : Decision) → Decidable (DecidesEntry e d)
decidable-decision e d = decidable-both (cases_eq (decided_tx d) (tx_of e)) (decidable-suits e d)

pub decidable-number : (ds : List Decision) (e : Entry) → Decidable ((number : ℕ) × IsDecided ds e number)
decidable-number ds e =
    decidable-as (λ h. (h.0, (h.1, h.2, h.3.0, h.3.1))) (λ h. (h.0, h.1.0, h.1.1, (h.1.2, h.1.3)))
    (decidable-found (λ n d. DecidesEntry e d) (λ n d. decidable-decision e d) ds)

pub decidable-in_order : (ds : List Decision) (e f : Entry) → Decidable (EndInOrder ds e f)
decidable-in_order ds e f =
    decidable-if (decidable-end e) (λ first. decidable-if (decidable-end f) (λ second.
    decidable-as (λ all m n h k. all m h.0 h.1 (h.2, h.3) n k.0 k.1 (k.2, k.3))
    (λ all m d at h n g there k. all m n (d, at, h.0, h.1) (g, there, k.0, k.1))
    (decidable-each (λ m d. DecidesEntry e d → (n : ℕ) (g : Decision) → slice_get ds n ≡ Some g → DecidesEntry f g
    → m ≤ n)
    (λ m d. decidable-if (decidable-decision e d) (λ h. decidable-each (λ n g. DecidesEntry f g
    → m ≤ n) (λ n g. decidable-if (decidable-decision f g) (λ k. decidable-most m n)) ds)) ds)))

-- a rank of the decision, where it commits the transaction
decidable-rank : (Q : ℕ → Type 0) → ((r : ℕ) → Decidable (Q r)) → (tx : ℕ) (d : Decision)
    → Decidable ((r : ℕ) → d ≡ Commit tx r → Q r)
decidable-rank Q each tx (Commit i s) = elim (cases_eq i tx) [
  | inl same ↦ decidable-as (λ q r e. let ranks : s ≡ r = cc in
      subst Q ranks q) (λ all. all s (ap (λ t. Commit t s) same)) (each s)
  | inr other ↦ inl (λ r e. absurd (other cc))
]
decidable-rank Q each tx (Refuse i walk) = inl (λ r e. absurd cc)
decidable-rank Q each tx (Withdraw i) = inl (λ r e. absurd cc)

-- ranks of two committed transactions, in order
decidable-ranked : (ds : List Decision) (a b : ℕ)
    → Decidable ((m n r s : ℕ) → IsCommitted ds m a r → IsCommitted ds n b s → r < s)
decidable-ranked ds a b =
    decidable-as (λ all m n r s h k. all m (Commit a r) h r refl n (Commit b s) k s refl)
    (λ all m d at r is n g there s same. all m n r s (at ∙ ap Some is) (there ∙ ap Some same))
    (decidable-each (λ m d. (r : ℕ) → d ≡ Commit a r → (n : ℕ) (g : Decision) → slice_get ds n ≡ Some g → (s : ℕ)
    → g ≡ Commit b s → r < s)
    (λ m d. decidable-rank (λ r. (n : ℕ) (g : Decision) → slice_get ds n ≡ Some g → (s : ℕ) → g ≡ Commit b s → r < s)
    (λ r. decidable-each (λ n g. (s : ℕ) → g ≡ Commit b s
    → r < s) (λ n g. decidable-rank (λ s. r < s) (λ s. decidable-less r s) b g) ds) a d) ds)

pub decidable-rise : (ds : List Decision) (e f : Entry) → Decidable (RiseInRank ds e f)
decidable-rise ds e f =
    decidable-as (λ all kind x m n r s clash apart h k. all (kind, x, clash) apart m n r s h k)
    (λ all clash apart m n r s h k. all clash.0 clash.1 m n r s clash.2 apart h k)
    (decidable-if (decidable-clashes e f) (λ clash. decidable-if (decidable-not (cases_eq (tx_of e) (tx_of f)))
    (λ apart. decidable-ranked ds (tx_of e) (tx_of f))))

-- ---- walks

decidable-conflicts : (es : List Entry) (kind : Kind) (x : Name) (a b : ℕ) → Decidable (Conflicts es kind x a b)
decidable-conflicts es kind x a b =
    decidable-as
    (λ h. let g = h.3 in record {
      p = h.0;
      q = g.0;
      e = h.1;
      f = g.1;
      before = g.3.0.0;
      first = h.2;
      second =
          g.2;
      from = g.3.0.1;
      to = g.3.0.2;
      apart = g.3.1.0;
      clash = g.3.1.1;
    })
    (λ (c : Conflicts es kind x a b). (
      c.p,
      c.e,
      c.first,
      (c.q, c.f, c.second, ((c.before, c.from, c.to), (c.apart, c.clash))),
    ))
    (decidable-found (λ p e. (q : ℕ) × (f : Entry) × (slice_get es q ≡ Some f)
    × (((p < q) × (tx_of e ≡ a) × (tx_of f ≡ b)) × ((a ≢ b) × Clash kind x e f)))
    (λ p e. decidable-found (λ q f. ((p < q) × (tx_of e ≡ a) × (tx_of f ≡ b)) × ((a ≢ b) × Clash kind x e f))
    (λ q f. decidable-both (decidable-three (decidable-less p q) (cases_eq (tx_of e) a) (cases_eq (tx_of f) b))
    (decidable-both (decidable-not (cases_eq a b)) (decidable-clash kind x e f))) es) es)

decidable-step : (sites : List SiteLog) (a : ℕ) (step : Step) → Decidable (IsLogged sites a step)
decidable-step sites a step = elim (option_cases (slice_get sites step.label.site)) [
  | inl none ↦ inr (λ h. let both : None ≡ Some h.0 = sym none ∙ h.1 in cc)
  | inr (log, at) ↦ decidable-as (λ c. (log, at, c))
      (λ h. subst (λ (l : SiteLog). Conflicts l.entries step.label.kind step.label.item a step.to)
      (same_Some h.0 log (sym h.1 ∙ at)) h.2)
      (decidable-conflicts log.entries step.label.kind step.label.item a step.to)
]

decidable-logged : (sites : List SiteLog) (a : ℕ) (walk : List Step) → Decidable (AreLogged sites a walk)
decidable-logged sites a [] = inl tt
decidable-logged sites a (step ∷ steps) =
    decidable-both (decidable-step sites a step) (decidable-logged sites step.to steps)

decidable-refusal : (sites : List SiteLog) (d : Decision)
    → Decidable ((tx : ℕ) (walk : List Step) → d ≡ Refuse tx walk → AreLogged sites tx walk)
decidable-refusal sites (Refuse tx walk) =
    decidable-as (λ logged i w e. let same : tx ≡ i = cc in let steps : walk ≡ w = cc in
    subst (AreLogged sites i) steps (subst (λ t. AreLogged sites t walk) same logged))
    (λ all. all tx walk refl) (decidable-logged sites tx walk)
decidable-refusal sites (Commit i rank) = inl (λ tx walk e. absurd cc)
decidable-refusal sites (Withdraw i) = inl (λ tx walk e. absurd cc)

-- each walk of these decisions is logged
abbrev pub WalksOf : List Decision → List SiteLog → Type 0
WalksOf ds logs = (tx : ℕ) (walk : List Step) → Contains ds (Refuse tx walk) → AreLogged logs tx walk

pub decidable-walks : (ds : List Decision) (sites : List SiteLog) → Decidable (WalksOf ds sites)
decidable-walks ds sites =
    decidable-as (λ all tx walk c. let at = Contains_at ds (Refuse tx walk) c in
    all at.0 (Refuse tx walk) at.1 tx walk refl)
    (λ all n d at tx walk is. all tx walk (Contains-from_at ds n (Refuse tx walk) (at ∙ ap Some is)))
    (decidable-each (λ n d. (tx : ℕ) (walk : List Step) → d ≡ Refuse tx walk
    → AreLogged sites tx walk) (λ n d. decidable-refusal sites d) ds)
