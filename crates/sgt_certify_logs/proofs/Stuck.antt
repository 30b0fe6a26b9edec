-- Whoever is decided first outside a stuck set would have to be refused with no cycle.
use Rattle.std.proofs.Common.{◌≡◌, ℕ, zero, suc, ◌<◌, ◌≤◌, List, [], ◌∷◌, Some, refl, sym, ap, ◌∙◌, subst, arith, inl, inr, All, Any, Contains}
use Rattle.std.specs.Prelude.{slice_get}
use Rattle.std.proofs.lemmas.Bool.{cases_eq}
use Rattle.std.proofs.lemmas.Option.{same_Some}
use Rattle.std.proofs.lemmas.List.Elements.{All-from_recursion}
use Rattle.std.specs.List.{AllByRecursion}
use Rattle.sgt_names.proofs.Places.{All_at, All-from_at, Contains-from_at}
use Rattle.sgt_names.proofs.Lists.{All_in, Any_at, front_at}
use Rattle.sgt_notation.proofs.Decidable.{Decidable, decidable-Contains}
use Rattle.sgt_names.specs.Entry.{tx_of, IsEnd}
use Rattle.sgt_names.specs.declared.entry.Entry.{Entry}
use Rattle.sgt_names.specs.declared.entry.Entry.TheVariants as entry
use Rattle.sgt_bundle.specs.Parts.{Parts}
use Rattle.sgt_bundle.specs.Certificate.{decided_tx, IsCommitted, Suits, stops}
use Rattle.sgt_bundle.specs.Valid.{IsValid, AreLogged}
use Rattle.sgt_bundle.specs.declared.certificate.Decision.{Decision}
use Rattle.sgt_bundle.specs.declared.certificate.Decision.TheVariants.{Commit, Refuse, Withdraw}
use Rattle.sgt_bundle.specs.declared.certificate.Step.{Step}
use Rattle.sgt_bundle.specs.declared.bundle.SiteLog.{SiteLog}
use Rattle.sgt_certify_logs.specs.Certifiable.{AreCertifiable}
use Rattle.sgt_certify_logs.specs.Witness.{IsIn, HasEnd, IsFree, IsStuck}
use Rattle.sgt_certify_logs.proofs.Decisions.{Decides, one-number, ds, log_of, decided_in, ends-rise}

number_cases : (m n : ℕ) → Decidable (m ≡ n)
number_cases m n = cases_eq m n

contains_cases : (xs : List ℕ) (t : ℕ) → Decidable (Contains xs t)
contains_cases xs t = decidable-Contains number_cases xs t

-- what holds of a number where it holds of all smaller ones
by_smaller : (P : ℕ → Type 0) → ((n : ℕ) → ((m : ℕ) → m < n → P m) → P n) → (n : ℕ) → P n
by_smaller P step n = below n n (omega arith)
  where
    below : (top m : ℕ) → m ≤ top → P m
    below zero m le = step m (λ k lt. absurd (omega (arith, lt, le)))
    below (suc top) m le = step m (λ k lt. below top k (omega (arith, lt, le)))

-- what suits a refusal
refuse-suits : (t : ℕ) (d : Decision) → Suits (entry.Refuse t) d → (walk : List Step) × (d ≡ Refuse (decided_tx d) walk)
refuse-suits t (Commit i rank) suits = absurd suits
refuse-suits t (Refuse i walk) suits = (walk, refl)
refuse-suits t (Withdraw i) suits = absurd suits

-- who is committed by the decision is committed by the end that suits it
commit-end : (e : Entry) (d : Decision) (tx rank : ℕ) → d ≡ Commit tx rank → IsEnd e → Suits e d
    → e ≡ entry.Commit (tx_of e)
commit-end (entry.Commit t) d tx rank is end suits = refl
commit-end (entry.Refuse t) d tx rank is end suits = absurd (subst (Suits (entry.Refuse t)) is suits)
commit-end (entry.Withdraw t) d tx rank is end suits = absurd (subst (Suits (entry.Withdraw t)) is suits)
commit-end (entry.Read t x v) d tx rank is end suits = absurd end
commit-end (entry.Write t x v) d tx rank is end suits = absurd end
commit-end (entry.Add t x v) d tx rank is end suits = absurd end
commit-end (entry.Want t x v) d tx rank is end suits = absurd end
commit-end (entry.WantAdd t x v) d tx rank is end suits = absurd end

-- who stands on a walk of logged conflicts has an entry
walk-entries : (sites : List SiteLog) (t : ℕ) (walk : List Step) → AreLogged sites t walk
    → All (λ a. (e : Entry) × IsIn sites e × (tx_of e ≡ a)) (stops walk)
walk-entries sites t walk logged = All-from_recursion (λ a. (e : Entry) × IsIn sites e × (tx_of e ≡ a)) (stops walk)
    (each t walk logged)
  where
    each : (t : ℕ) (walk : List Step) → AreLogged sites t walk
        → AllByRecursion (λ a. (e : Entry) × IsIn sites e × (tx_of e ≡ a)) (stops walk)
    each t [] h = tt
    each t (s ∷ walk) h =
        let log = h.0.0 in
        let c = h.0.2 in (
          (
            c.f,
            (log, Contains-from_at sites s.label.site log h.0.1, Contains-from_at log.entries c.q c.f c.second),
            c.to,
          ),
          each s.to walk h.1,
        )

module _ (b : Parts) (valid : IsValid b) (decided : List ℕ) (stuck : IsStuck b.sites decided) where
  -- who has an entry has an end
  entry-end : (e : Entry) → IsIn b.sites e → HasEnd b.sites (tx_of e)
  entry-end e (log, here, there) =
      let ended = All_in (λ e. Any (λ f. IsEnd f × (tx_of f ≡ tx_of e)) log.entries) log.entries e
      (log_of b valid log here).formed.1 there in
      let at = Any_at (λ f. IsEnd f × (tx_of f ≡ tx_of e)) log.entries ended in
      (at.1, (log, here, Contains-from_at log.entries at.0 at.1 at.2), at.3.0, at.3.1)

  -- who is committed by a decision and has an entry is committed by a log
  entry-commits : (e : Entry) → IsIn b.sites e → (m rank : ℕ) → IsCommitted (ds b valid) m (tx_of e) rank
      → IsIn b.sites (entry.Commit (tx_of e))
  entry-commits e here m rank is =
      let end = entry-end e here in
      let by = decided_in b valid end.0 end.1 in
      let same = one-number (ds b valid) (tx_of e) by.0 m valid.once (
        by.1.0,
        by.1.1,
        by.1.2
            ∙ end.3,
      ) (Commit (tx_of e) rank, is, refl) in
      let d-is = same_Some by.1.0 (Commit (tx_of e) rank) (sym by.1.1 ∙ ap (slice_get (ds b valid)) same ∙ is) in
      let f-is = commit-end end.0 by.1.0 (tx_of e) rank d-is end.2 by.1.3 in
      subst (IsIn b.sites) (f-is ∙ ap entry.Commit end.3) end.1

  -- each decision on a transaction with an end is on one of the set
  all-decided : (n t : ℕ) → Decides (ds b valid) t n → HasEnd b.sites t → Contains decided t
  all-decided n = by_smaller (λ n. (t : ℕ) → Decides (ds b valid) t n → HasEnd b.sites t → Contains decided t) next n
    where
      next : (n : ℕ) → ((m : ℕ) → m < n → (t : ℕ) → Decides (ds b valid) t m → HasEnd b.sites t → Contains decided t)
          → (t : ℕ) → Decides (ds b valid) t n → HasEnd b.sites t → Contains decided t
      next n before t by end =
          elim (contains_cases decided t) [
            | inl already ↦ already
            | inr fresh ↦
                let free : IsFree b.sites decided t = record {
                  ends = end;
                  open_yet = fresh;
                  next = λ u h.
                      let rise = ends-rise b valid u t h in
                      let same = one-number (ds b valid) t rise.1 n valid.once rise.3 by in
                      before rise.0 (omega (arith, rise.4, same)) u rise.2 (
                        h.e,
                        (h.log, h.here, Contains-from_at h.log.entries h.p h.e h.first),
                        h.ends.0,
                        h.from,
                      );
                } in
                let answer = stuck.refused t free in
                let refused = decided_in b valid (entry.Refuse t) answer.0 in
                let shape = refuse-suits t refused.1.0 refused.1.3 in
                let is = refused.1.1 ∙ ap Some shape.1 ∙ ap (λ i. Some (Refuse i shape.0)) refused.1.2 in
                let same = one-number (ds b valid) t refused.0 n valid.once (
                  refused.1.0,
                  refused.1.1,
                  refused.1.2,
                ) by in
                let cycle = valid.cycles refused.0 t shape.0 is in
                let entries = walk-entries b.sites t shape.0 cycle.1 in
                absurd (answer.1 (record {
                  walk = shape.0;
                  between = cycle.0.between;
                  logged = cycle.1;
                  closed = cycle.0.closed;
                  through = All-from_at (λ a. Contains decided a × IsIn b.sites (entry.Commit a)) cycle.0.between
                      (λ k a at.
                      let earlier =
                      All_at (λ a. (m : ℕ) × (rank : ℕ) × (m < refused.0) × IsCommitted (ds b valid) m a rank)
                      cycle.0.between k a cycle.0.earlier at in
                      let met = All_at (λ a. (e : Entry) × IsIn b.sites e × (tx_of e ≡ a)) (stops shape.0) k a entries
                      (ap (λ xs. slice_get xs k) cycle.0.closed ∙ front_at cycle.0.between (t ∷ []) k a at) in
                      let lt : earlier.0 < n = omega (arith, earlier.2, same) in
                      let decides : Decides (ds b valid) a earlier.0 = (Commit a earlier.1, earlier.3, refl) in (
                        before earlier.0 lt a decides (subst (HasEnd b.sites) met.2 (entry-end met.0 met.1)),
                        subst (λ i. IsIn b.sites (entry.Commit i)) met.2
                            (entry-commits met.0 met.1 earlier.0 earlier.1
                            (subst (λ i. IsCommitted (ds b valid) earlier.0 i earlier.1) (sym met.2) earlier.3)),
                      ));
                }))
          ]

  none : ⊥
  none =
      let t = stuck.free.0 in
      let free = stuck.free.1 in
      let end = free.ends in
      let by = decided_in b valid end.0 end.1 in
      free.open_yet (all-decided by.0 t (by.1.0, by.1.1, by.1.2 ∙ end.3) end)

pub stuck-none : (sites : List SiteLog) (decided : List ℕ) → IsStuck sites decided → AreCertifiable sites → ⊥
stuck-none sites decided stuck (c, valid) = none (record { certificate = c; sites = sites }) valid decided stuck
