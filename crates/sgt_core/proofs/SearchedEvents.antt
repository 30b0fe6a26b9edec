-- The lines of events are finitely many too.
use Rattle.std.proofs.Common.{◌≡◌, ◌^◌, ℕ, List, refl, inl, inr}
use Rattle.sgt_names.specs.Name.{Name, IsName}
use Rattle.sgt_notation.specs.Events.{IsEventLine}
use Rattle.sgt_notation.specs.Spelling.{IsSite, IsTx, IsValue}
use Rattle.sgt_notation.specs.declared.event.Event.TheVariants.{Begin, Read, Put, Add, Gather, Decide, Install, Commit, Withdraw, Close}
use Rattle.sgt_notation.specs.declared.event.EventLine.{EventLine}
use Rattle.sgt_notation.specs.declared.event.EventLine.TheVariants.{One, ToDecide}
use Rattle.sgt_notation.proofs.Decidable.{Decidable, or_else, IsSearched, searched-below, searched-both}
use Rattle.sgt_input.proofs.SearchedSites.{searched-places, searched-sites}
use Rattle.sgt_notation.proofs.SearchedLines.{searched-names, searched-txs}

-- ---- their parts

abbrev Access : Type 0
Access = ℕ × (ℕ × Name)

abbrev IsAccess : Access → Type 0
IsAccess a = IsTx a.0 × (IsSite a.1.0 × IsName a.1.1)

searched-accesses : IsSearched Access IsAccess
searched-accesses = searched-both IsTx (λ (p : ℕ × Name). IsSite p.0 × IsName p.1) searched-txs searched-places

abbrev IsUpdate : Access × ℕ → Type 0
IsUpdate u = IsAccess u.0 × IsValue u.1

searched-updates : IsSearched (Access × ℕ) IsUpdate
searched-updates = searched-both IsAccess IsValue searched-accesses (searched-below (2 ^ 64))

abbrev IsVisit : ℕ × ℕ → Type 0
IsVisit v = IsTx v.0 × IsSite v.1

searched-visits : IsSearched (ℕ × ℕ) IsVisit
searched-visits = searched-both IsTx IsSite searched-txs searched-sites

abbrev read_of : Access → EventLine
read_of a = One (Read a.0 a.1.0 a.1.1)

abbrev put_of : Access × ℕ → EventLine
put_of u = One (Put u.0.0 u.0.1.0 u.0.1.1 u.1)

abbrev add_of : Access × ℕ → EventLine
add_of u = One (Add u.0.0 u.0.1.0 u.0.1.1 u.1)

abbrev install_of : ℕ × ℕ → EventLine
install_of v = One (Install v.0 v.1)

-- ---- one that is so is found, or there is none

module _ (Q : EventLine → Type 0) where
  -- none that is made so
  abbrev None_of : {A : Type 0} → (A → Type 0) → (A → EventLine) → Type 0
  None_of {A} Is make = ((a : A) × Is a × Q (make a)) → ⊥

  no-event : (Q (One Begin) → ⊥) → (Q (One Close) → ⊥) → None_of IsAccess read_of → None_of IsUpdate put_of
      → None_of IsUpdate add_of
      → None_of IsVisit install_of → None_of IsTx (λ tx. One (Commit tx)) → None_of IsTx (λ tx. One (Withdraw tx))
      → None_of IsTx (λ tx. ToDecide tx)
      → (e : EventLine) → IsEventLine e → Q e → ⊥
  no-event b z r p d i c a v (One Begin) is q = b q
  no-event b z r p d i c a v (One Close) is q = z q
  no-event b z r p d i c a v (One (Read tx s x)) is q = r ((tx, (s, x)), is, q)
  no-event b z r p d i c a v (One (Put tx s x value)) is q = p (((tx, (s, x)), value), is, q)
  no-event b z r p d i c a v (One (Add tx s x value)) is q = d (((tx, (s, x)), value), is, q)
  no-event b z r p d i c a v (One (Gather tx s)) is q = absurd is
  no-event b z r p d i c a v (One (Decide tx)) is q = absurd is
  no-event b z r p d i c a v (One (Install tx s)) is q = i ((tx, s), is, q)
  no-event b z r p d i c a v (One (Commit tx)) is q = c (tx, is, q)
  no-event b z r p d i c a v (One (Withdraw tx)) is q = a (tx, is, q)
  no-event b z r p d i c a v (ToDecide tx) is q = v (tx, is, q)

  event-found : ((e : EventLine) → Decidable (Q e)) → Decidable ((e : EventLine) × IsEventLine e × Q e)
  event-found each =
      or_else (each (One Begin)) (λ q. (One Begin, tt, q)) (λ b.
      or_else (each (One Close)) (λ q. (One Close, tt, q)) (λ z.
      or_else (searched-accesses (λ a. Q (read_of a)) (λ a. each (read_of a))) (λ r. (read_of r.0, r.1, r.2)) (λ reads.
      or_else (searched-updates (λ u. Q (put_of u)) (λ u. each (put_of u))) (λ r. (put_of r.0, r.1, r.2)) (λ p.
      or_else (searched-updates (λ u. Q (add_of u)) (λ u. each (add_of u))) (λ r. (add_of r.0, r.1, r.2)) (λ d.
      or_else (searched-visits (λ v. Q (install_of v)) (λ v. each (install_of v))) (λ r. (install_of r.0, r.1, r.2))
      (λ i.
      or_else (searched-txs (λ tx. Q (One (Commit tx))) (λ tx. each (One (Commit tx))))
      (λ r. (One (Commit r.0), r.1, r.2)) (λ c.
      or_else (searched-txs (λ tx. Q (One (Withdraw tx))) (λ tx. each (One (Withdraw tx))))
      (λ r. (One (Withdraw r.0), r.1, r.2)) (λ a.
      or_else (searched-txs (λ tx. Q (ToDecide tx)) (λ tx. each (ToDecide tx))) (λ r. (ToDecide r.0, r.1, r.2)) (λ v.
      inr (λ r. no-event b z reads p d i c a v r.0 r.1 r.2))))))))))

pub searched-events : IsSearched EventLine IsEventLine
searched-events Q each = event-found Q each
