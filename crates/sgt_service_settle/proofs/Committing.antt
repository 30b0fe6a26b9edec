-- The table of commits, as it is written.
use Rattle.std.proofs.Common.{◌≡◌, ◌≢◌, ◌↔◌, ◌<◌, ◌+◌, ℕ, List, Option, Some, refl, sym, ap, ◌∙◌, subst, arith, inl, inr, length}
use Rattle.std.specs.Prelude.{slice_get, slice_set, map}
use Rattle.std.proofs.lemmas.Bool.{cases_eq, cases_lt}
use Rattle.std.proofs.lemmas.Option.{same_Some}
use Rattle.sgt_names.proofs.Places.{AllPairs_at}
use Rattle.sgt_bundle.specs.Certificate.{IsCommitted, IsDecidedOnce, decided_tx}
use Rattle.sgt_bundle.specs.declared.certificate.Decision.{Decision}
use Rattle.sgt_bundle.specs.declared.certificate.Decision.TheVariants.{Commit}
use Rattle.sgt_certifier.specs.Certifier.{State, Ruling, committed, refused, withdrawn, ranked, place_in, serial, certificate_of}
use Rattle.sgt_service_settle.specs.private.Index.{IsIn, AreCommits}
use Rattle.sgt_names.proofs.Elements.{get-slice_set_same, get-slice_set_other, get-mapped}
use Rattle.sgt_names.proofs.Lists.{map_at}

-- the commits of the first n decisions are in the table
abbrev pub AreNoted : List Decision → ℕ → List (Option ℕ) → Type 0
AreNoted decisions n commits = (tx number : ℕ)
    → IsIn commits tx number ↔ ((number < n) × ((rank : ℕ) × IsCommitted decisions number tx rank))

abbrev Apart : Decision → Decision → Type 0
Apart d e = decided_tx d ≢ decided_tx e

-- no other decision commits the transaction
once : (decisions : List Decision) → IsDecidedOnce decisions → (m n tx rank rank' : ℕ) → m < n
    → IsCommitted decisions m tx rank → IsCommitted decisions n tx rank' → ⊥
once decisions each m n tx rank rank' low first second =
    AllPairs_at Apart decisions m n (Commit tx rank) (Commit tx rank') each low first second refl

pub noted_next : (decisions : List Decision) (n tx rank : ℕ) (commits : List (Option ℕ)) → IsDecidedOnce decisions
    → IsCommitted decisions n tx rank → tx < length commits → AreNoted decisions n commits
    → AreNoted decisions (n + 1) (slice_set commits tx (Some n))
noted_next decisions n tx rank commits each here low noted t m =
    elim (cases_eq t tx) [
      | inl same ↦ (
        λ is.
            let set : slice_get (slice_set commits tx (Some n)) t ≡ Some (Some n) =
            ap (slice_get (slice_set commits tx (Some n))) same ∙ get-slice_set_same commits tx (Some n) low in
            let m_is : n ≡ m = same_Some n m (same_Some (Some n) (Some m) (sym set ∙ is)) in (
              omega (arith, m_is),
              (
                rank,
                subst (λ k. IsCommitted decisions k t rank) m_is
                    (subst (λ k. IsCommitted decisions n k rank) (sym same) here),
              ),
            ),
        λ known.
            let there : IsCommitted decisions m tx known.1.0 =
            subst (λ k. IsCommitted decisions m k known.1.0) same known.1.1 in
            let m_is : n ≡ m = elim (cases_lt m n) [
              | inl early ↦ absurd (once decisions each m n tx known.1.0 rank early there here)
              | inr late ↦ omega (arith, late, known.0)
            ] in
            ap (slice_get (slice_set commits tx (Some n))) same
            ∙ (get-slice_set_same commits tx (Some n) low ∙ ap (λ k. Some (Some k)) m_is),
      )
      | inr other ↦ (
        λ is. let known = (noted t m).0 (sym (get-slice_set_other commits tx t (Some n) other) ∙ is) in
            (omega (arith, known.0), known.1),
        λ known.
            let early : m < n = elim (cases_lt m n) [
              | inl early ↦ early
              | inr late ↦
                  let same : m ≡ n = omega (arith, late, known.0) in
                  let d : Commit t known.1.0 ≡ Commit tx rank =
                  same_Some (Commit t known.1.0) (Commit tx rank) (sym known.1.1
                  ∙ (ap (slice_get decisions) same ∙ here)) in
                  absurd (other (ap decided_tx d))
            ] in
            get-slice_set_other commits tx t (Some n) other ∙ (noted t m).1 (early, known.1),
      )
    ]

pub noted_other : (decisions : List Decision) (n : ℕ) (commits : List (Option ℕ))
    → ((tx rank : ℕ) → IsCommitted decisions n tx rank → ⊥) → AreNoted decisions n commits
    → AreNoted decisions (n + 1) commits
noted_other decisions n commits none noted t m = (
  λ is. let known = (noted t m).0 is in (omega (arith, known.0), known.1),
  λ known.
      elim (cases_lt m n) [
        | inl early ↦ (noted t m).1 (early, known.1)
        | inr late ↦
            let same : m ≡ n = omega (arith, late, known.0) in
            absurd (none t known.1.0 (subst (λ k. IsCommitted decisions k t known.1.0) same known.1.1))
      ],
)

-- ---- the decisions of a certificate

committed_of : (order : List ℕ) (rs : List Ruling) (n tx : ℕ) → slice_get rs n ≡ Some (committed tx)
    → (rank : ℕ) × IsCommitted (map (ranked order) rs) n tx rank
committed_of order rs n tx at = (place_in order tx, get-mapped (ranked order) rs n (committed tx) at)

ruling_is : (order : List ℕ) (r : Ruling) (tx rank : ℕ) → ranked order r ≡ Commit tx rank → r ≡ committed tx
ruling_is order (committed t) tx rank e = ap committed (ap decided_tx e)
ruling_is order (refused t walk) tx rank e = absurd cc
ruling_is order (withdrawn t) tx rank e = absurd cc

of_committed : (order : List ℕ) (rs : List Ruling) (n tx rank : ℕ) → IsCommitted (map (ranked order) rs) n tx rank
    → slice_get rs n ≡ Some (committed tx)
of_committed order rs n tx rank h =
    let p = map_at (ranked order) rs n (Commit tx rank) h in
    p.1 ∙ ap Some (ruling_is order p.0 tx rank p.2)

pub certified_commits : (s : State) (sites : ℕ) (commits : List (Option ℕ))
    → ((tx number : ℕ)
    → IsIn commits tx number ↔ ((rank : ℕ) × IsCommitted (certificate_of s sites).decisions number tx rank))
    → AreCommits s.rulings commits
certified_commits s sites commits is tx number = (
  λ i. let k = (is tx number).0 i in of_committed (serial s) s.rulings number tx k.0 k.1,
  λ by. (is tx number).1 (committed_of (serial s) s.rulings number tx by),
)
