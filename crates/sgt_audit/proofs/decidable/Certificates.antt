-- A line spells a certificate or it doesn't, and a certificate keeps each of its rules or it doesn't.
use Rattle.std.proofs.Common.{◌≡◌, ◌≢◌, ℕ, ◌<◌, ◌≤◌, List, [], ◌∷◌, ◌++◌, length, Some, refl, sym, ap, ◌∙◌, subst, arith, inl, inr, ◌⊎◌, All, AllPairs}
use Rattle.std.proofs.lemmas.Bool.{cases_eq}
use Rattle.std.proofs.lemmas.List.{length-append}
use Rattle.sgt_notation.proofs.Decidable.{Decidable, decidable-as, decidable-both, decidable-not, decidable-less, decidable-most, decidable-All, decidable-AllPairs, decidable-each, decidable-found}
use Rattle.sgt_bundle.specs.Certificate.{decided_tx, IsCommitted, ranks, AreRanks, stops, IsCycle}
use Rattle.sgt_bundle.specs.Text.{certificate_text, IsCertificate}
use Rattle.sgt_bundle.specs.declared.certificate.Certificate.{Certificate}
use Rattle.sgt_bundle.specs.declared.certificate.Step.{Step}
use Rattle.sgt_bundle.specs.declared.certificate.Decision.{Decision}
use Rattle.sgt_bundle.specs.declared.certificate.Decision.TheVariants.{Commit, Refuse, Withdraw}
use Rattle.sgt_bundle.proofs.Answered.{read_or_refused, not_refused}
use Rattle.sgt_audit_decisions.proofs.Walks.{push-one}
use Rattle.sgt_audit.specs.declared.faults.Fault.{Fault}
use Rattle.sgt_audit.specs.declared.faults.Fault.TheVariants as fault
use Rattle.sgt_audit.specs.Faults.{KeepsItself}

pub decidable-certificate : (line : List ℕ)
    → Decidable ((c : Certificate) × IsCertificate c × (line ≡ certificate_text c))
decidable-certificate line = elim (read_or_refused line) [
  | inl read ↦ inl read
  | inr refused ↦ inr (λ c. not_refused line c.0 refused.0 c.1 c.2 refused.1 refused.2)
]

decidable-ranks : (rs : List ℕ) → Decidable (AreRanks rs)
decidable-ranks rs =
    decidable-as (λ both. record { below = both.0; apart = both.1 }) (λ (are : AreRanks rs). (are.below, are.apart))
    (decidable-both (decidable-All (λ r. r < length rs) (λ r. decidable-less r (length rs)) rs)
    (decidable-AllPairs (λ r s. r ≢ s) (λ r s. decidable-not (cases_eq r s)) rs))

-- the decision commits the transaction
decidable-commit : (a : ℕ) (d : Decision) → Decidable ((rank : ℕ) × (d ≡ Commit a rank))
decidable-commit a (Commit tx r) = decidable-as (λ e. (r, ap (λ t. Commit t r) e)) (λ h. let same = h.1 in
    cc) (cases_eq tx a)
decidable-commit a (Refuse tx walk) = inr (λ h. let same = h.1 in cc)
decidable-commit a (Withdraw tx) = inr (λ h. let same = h.1 in cc)

-- it was committed by an earlier decision
decidable-earlier : (ds : List Decision) (number a : ℕ)
    → Decidable ((m : ℕ) × (rank : ℕ) × (m < number) × IsCommitted ds m a rank)
decidable-earlier ds number a =
    decidable-as (λ h. (h.0, h.3.1.0, h.3.0, h.2 ∙ ap Some h.3.1.1)) (λ h. (h.0, Commit a h.1, h.3, (h.2, (h.1, refl))))
    (decidable-found (λ n d. (n < number) × ((rank : ℕ) × (d ≡ Commit a rank)))
    (λ n d. decidable-both (decidable-less n number) (decidable-commit a d)) ds)

-- ---- walks

-- a list, and what stands before its last element
unpushed : {A : Type 0} (xs : List A) → (xs ≡ []) ⊎ ((ys : List A) × (y : A) × (xs ≡ ys ++ y ∷ []))
unpushed [] = inl refl
unpushed (x ∷ xs) = inr (behind x xs (unpushed xs))
  where
    behind : {A : Type 0} (x : A) (xs : List A) → (xs ≡ []) ⊎ ((ys : List A) × (y : A) × (xs ≡ ys ++ y ∷ []))
        → (ys : List A) × (y : A) × (x ∷ xs ≡ ys ++ y ∷ [])
    behind x xs (inl none) = ([], x, ap (λ zs. x ∷ zs) none)
    behind x xs (inr (ys, y, e)) = (x ∷ ys, y, ap (λ zs. x ∷ zs) e)

module _ (ds : List Decision) (number tx : ℕ) (walk : List Step) where
  -- what is asked of the transactions between
  abbrev IsBetween : List ℕ → Type 0
  IsBetween between = ((1 ≤ length between) × AllPairs (λ a b. a ≢ b) between)
      × (All (λ a. a ≢ tx) between × All (λ a. (m : ℕ) × (rank : ℕ) × (m < number) × IsCommitted ds m a rank) between)

  decidable-between : (between : List ℕ) → Decidable (IsBetween between)
  decidable-between between =
      decidable-both
      (decidable-both (decidable-most 1 (length between))
      (decidable-AllPairs (λ a b. a ≢ b) (λ a b. decidable-not (cases_eq a b)) between))
      (decidable-both (decidable-All (λ a. a ≢ tx) (λ a. decidable-not (cases_eq a tx)) between)
      (decidable-All (λ a. (m : ℕ) × (rank : ℕ) × (m < number) × IsCommitted ds m a rank)
      (λ a. decidable-earlier ds number a) between))

  decidable-cycle : Decidable (IsCycle ds number tx walk)
  decidable-cycle = elim (unpushed (stops walk)) [
    | inl none ↦ inr (λ (cycle : IsCycle ds number tx walk). let size = length-append cycle.between (tx ∷ []) in
        let same = ap length (sym none ∙ cycle.closed) in absurd (omega arith))
    | inr (between, to, closed) ↦ decidable-as
        (λ both. record {
          between = between;
          long = both.1.0.0;
          closed = closed ∙ ap (λ t. between ++ t ∷ []) both.0;
          distinct = both.1.0.1;
          others = both.1.1.0;
          earlier = both.1.1.1;
        })
        (λ (cycle : IsCycle ds number tx walk).
        let same = push-one between cycle.between to tx (sym closed ∙ cycle.closed) in
        (same.1, subst IsBetween (sym same.0) ((cycle.long, cycle.distinct), (cycle.others, cycle.earlier))))
        (decidable-both (cases_eq to tx) (decidable-between between))
  ]

decidable-walk : (ds : List Decision) (number : ℕ) (d : Decision)
    → Decidable ((tx : ℕ) (walk : List Step) → d ≡ Refuse tx walk → IsCycle ds number tx walk)
decidable-walk ds number (Refuse tx walk) =
    decidable-as (λ cycle i w e. let same : tx ≡ i = cc in let steps : walk ≡ w = cc in
    subst (IsCycle ds number i) steps (subst (λ t. IsCycle ds number t walk) same cycle))
    (λ all. all tx walk refl) (decidable-cycle ds number tx walk)
decidable-walk ds number (Commit i rank) = inl (λ tx walk e. absurd cc)
decidable-walk ds number (Withdraw i) = inl (λ tx walk e. absurd cc)

-- each rule of a certificate by itself
pub decidable-itself : (ds : List Decision) (f : Fault) → Decidable (KeepsItself ds f)
decidable-itself ds fault.Ranks = decidable-ranks (ranks ds)
decidable-itself ds fault.DecidedTwice =
    decidable-AllPairs (λ d e. decided_tx d ≢ decided_tx e)
    (λ d e. decidable-not (cases_eq (decided_tx d) (decided_tx e))) ds
decidable-itself ds fault.WalkShape =
    decidable-as (λ all number tx walk at. all number (Refuse tx walk) at tx walk refl)
    (λ all number d at tx walk is. all number tx walk (at ∙ ap Some is))
    (decidable-each (λ number d. (tx : ℕ) (walk : List Step) → d ≡ Refuse tx walk
    → IsCycle ds number tx walk) (decidable-walk ds) ds)
decidable-itself ds _ = inl tt
