-- What a valid certificate says of the entries of its logs.
use Rattle.std.proofs.Common.{◌≡◌, ◌≢◌, ℕ, ◌<◌, List, Some, sym, ap, ◌∙◌, subst, arith, inl, inr, Contains}
use Rattle.std.specs.Prelude.{slice_get}
use Rattle.std.proofs.lemmas.Bool.{cases_order}
use Rattle.std.proofs.lemmas.Option.{same_Some}
use Rattle.sgt_names.proofs.Places.{All_at, AllPairs_at, Contains_at}
use Rattle.sgt_names.proofs.Lists.{All_in}
use Rattle.sgt_names.specs.Entry.{tx_of, IsEnd}
use Rattle.sgt_names.specs.declared.entry.Entry.{Entry}
use Rattle.sgt_names.specs.declared.entry.Entry.TheVariants as entry
use Rattle.sgt_bundle.specs.Parts.{Parts}
use Rattle.sgt_bundle.specs.Certificate.{decided_tx, IsDecidedOnce, IsCommitted, Suits}
use Rattle.sgt_bundle.specs.Valid.{IsDecided, IsValidLog, IsValid, EndInOrder, RiseInRank}
use Rattle.sgt_bundle.specs.declared.certificate.Decision.{Decision}
use Rattle.sgt_bundle.specs.declared.certificate.Decision.TheVariants.{Commit, Refuse, Withdraw}
use Rattle.sgt_bundle.specs.declared.bundle.SiteLog.{SiteLog}
use Rattle.sgt_certify_logs.specs.Witness.{IsIn, EndsBefore, PrecedesCommitted}

-- the decision of this number is on the transaction
abbrev pub Decides : List Decision → ℕ → ℕ → Type 0
Decides ds tx number = (d : Decision) × (slice_get ds number ≡ Some d) × (decided_tx d ≡ tx)

pub one-number : (ds : List Decision) (tx m n : ℕ) → IsDecidedOnce ds → Decides ds tx m → Decides ds tx n → m ≡ n
one-number ds tx m n once a b =
    elim (cases_order m n) [
      | inl same ↦ same
      | inr (inl less) ↦ absurd (AllPairs_at (λ d e. decided_tx d ≢ decided_tx e) ds m n a.0 b.0 once less a.1 b.1
          (a.2 ∙ sym b.2))
      | inr (inr more) ↦ absurd (AllPairs_at (λ d e. decided_tx d ≢ decided_tx e) ds n m b.0 a.0 once more b.1 a.1
          (b.2 ∙ sym a.2))
    ]

-- what suits a commit, and what suits a refusal
commit-suits : (t : ℕ) (d : Decision) → decided_tx d ≡ t → Suits (entry.Commit t) d → (rank : ℕ) × (d ≡ Commit t rank)
commit-suits t (Commit i rank) is suits = (rank, ap (λ j. Commit j rank) is)
commit-suits t (Refuse i walk) is suits = absurd suits
commit-suits t (Withdraw i) is suits = absurd suits

module _ (b : Parts) (valid : IsValid b) where
  abbrev pub ds : List Decision
  ds = b.certificate.decisions

  pub log_of : (log : SiteLog) → Contains b.sites log → IsValidLog ds log
  log_of log here = All_in (IsValidLog ds) b.sites log valid.logs here

  -- an entry of a log is decided
  pub decided_at : (log : SiteLog) → Contains b.sites log → (p : ℕ) (e : Entry) → slice_get log.entries p ≡ Some e
      → (number : ℕ) × IsDecided ds e number
  decided_at log here p e at =
      All_at (λ e. (number : ℕ) × IsDecided ds e number) log.entries p e (log_of log here).agrees.decided at

  pub decided_in : (e : Entry) → IsIn b.sites e → (number : ℕ) × IsDecided ds e number
  decided_in e (log, here, there) = let at = Contains_at log.entries e there in decided_at log here at.0 e at.1

  -- who is committed by a log is committed by the certificate
  pub committed_in : (t : ℕ) → IsIn b.sites (entry.Commit t) → (rank : ℕ) × (number : ℕ) × IsCommitted ds number t rank
  committed_in t is =
      let by = decided_in (entry.Commit t) is in
      let c = commit-suits t by.1.0 by.1.2 by.1.3 in
      (c.0, by.0, by.1.1 ∙ ap Some c.1)

  -- ends stand in the order of their decisions
  pub ends-rise : (t u : ℕ) → EndsBefore b.sites t u → (m : ℕ) × (n : ℕ) × Decides ds t m × Decides ds u n × (m < n)
  ends-rise t u h =
      let valid_log = log_of h.log h.here in
      let m = decided_at h.log h.here h.p h.e h.first in
      let n = decided_at h.log h.here h.q h.f h.second in
      let le = AllPairs_at (EndInOrder ds) h.log.entries h.p h.q h.e h.f valid_log.agrees.in_order h.before h.first
      h.second h.ends.0 h.ends.1 m.0 n.0 m.1 n.1 in
      let apart =
      AllPairs_at (λ e f. IsEnd e → tx_of e ≢ tx_of f) h.log.entries h.p h.q h.e h.f valid_log.formed.0.closed
      h.before h.first h.second h.ends.0 in
      let ne : m.0 ≢ n.0 =
      λ same. apart (sym m.1.2
      ∙ ap decided_tx (same_Some m.1.0 n.1.0 (sym m.1.1 ∙ ap (slice_get ds) same ∙ n.1.1)) ∙ n.1.2) in
      (m.0, n.0, (m.1.0, m.1.1, m.1.2 ∙ h.from), (n.1.0, n.1.1, n.1.2 ∙ h.to), omega (arith, le, ne))

  -- conflicts of committed transactions rise in rank
  pub conflicts-rise : (t u : ℕ) → PrecedesCommitted b.sites t u
      → (r : ℕ) × (s : ℕ) × ((m : ℕ) × IsCommitted ds m t r) × ((n : ℕ) × IsCommitted ds n u s) × (r < s)
  conflicts-rise t u h =
      let a = committed_in t h.committed.0 in
      let c = committed_in u h.committed.1 in
      let g = h.conflict in
      let less = AllPairs_at (RiseInRank ds) h.log.entries g.p g.q g.e g.f (log_of h.log h.here).ranked g.before
      g.first g.second
      h.kind h.item a.1 c.1 a.0 c.0 g.clash (λ same. g.apart (sym g.from ∙ same ∙ g.to))
      (subst (λ i. IsCommitted ds a.1 i a.0) (sym g.from) a.2) (subst (λ i. IsCommitted ds c.1 i c.0) (sym g.to) c.2) in
      (a.0, c.0, (a.1, a.2), (c.1, c.2), less)
