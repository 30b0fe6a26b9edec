-- Numbers that rise along a relation can't rise round a cycle of it.
use Rattle.std.proofs.Common.{◌≡◌, ℕ, ◌<◌, List, [], ◌∷◌, ◌++◌, sym, arith, ◌∙◌}
use Rattle.std.proofs.lemmas.Option.{same_Some}
use Rattle.sgt_bundle.specs.Parts.{Parts}
use Rattle.sgt_bundle.specs.Certificate.{IsCommitted}
use Rattle.sgt_bundle.proofs.Ranks.{rank_of-committed}
use Rattle.sgt_bundle.specs.declared.bundle.SiteLog.{SiteLog}
use Rattle.sgt_certify_logs.specs.Certifiable.{AreCertifiable}
use Rattle.sgt_certify_logs.specs.Witness.{IsChain, HasCycle, EndsBefore, PrecedesCommitted, HaveEndsInACycle, HaveConflictsInACycle}
use Rattle.sgt_certify_logs.proofs.Decisions.{Decides, one-number, ends-rise, conflicts-rise}

-- a chain goes on by one more
pub chain-on : (R : ℕ → ℕ → Type 0) (between : List ℕ) (a b c : ℕ) → IsChain R a (between ++ b ∷ []) → R b c
    → IsChain R a ((between ++ b ∷ []) ++ c ∷ [])
chain-on R [] a b c h step = (h.0, (step, tt))
chain-on R (d ∷ ds) a b c h step = (h.0, chain-on R ds d b c h.1 step)

module _ (R : ℕ → ℕ → Type 0) (At : ℕ → ℕ → Type 0) (one : (a m n : ℕ) → At a m → At a n → m ≡ n)
    (rise : (a b : ℕ) → R a b → (m : ℕ) × (n : ℕ) × At a m × At b n × (m < n)) where
  chain-rises : (between : List ℕ) (a c : ℕ) → IsChain R a (between ++ c ∷ []) → (m : ℕ) × (n : ℕ) × At a m × At c n
      × (m < n)
  chain-rises [] a c h = rise a c h.0
  chain-rises (b ∷ bs) a c h =
      let first = rise a b h.0 in
      let more = chain-rises bs b c h.1 in
      let same = one b first.1 more.0 first.3 more.2 in
      (first.0, more.1, first.2, more.3, omega (arith, first.4, more.4, same))

  pub no-cycle : HasCycle R → ⊥
  no-cycle (a, between, h) =
      let all = chain-rises between a a h in
      let same = one a all.0 all.1 all.2 all.3 in
      absurd (omega (arith, all.4, same))

pub ends-no_cycle : (sites : List SiteLog) → HaveEndsInACycle sites → AreCertifiable sites → ⊥
ends-no_cycle sites cycle (c, valid) =
    let b : Parts = record { certificate = c; sites = sites } in
    no-cycle (EndsBefore sites) (Decides c.decisions) (λ a m n. one-number c.decisions a m n valid.once)
    (ends-rise b valid) cycle

pub conflicts-no_cycle : (sites : List SiteLog) → HaveConflictsInACycle sites → AreCertifiable sites → ⊥
conflicts-no_cycle sites cycle (c, valid) =
    let b : Parts = record { certificate = c; sites = sites } in
    no-cycle (PrecedesCommitted sites) (λ a r. (m : ℕ) × IsCommitted c.decisions m a r)
    (λ a r s f g. same_Some r s (sym (rank_of-committed c.decisions f.0 a r valid.once f.1)
    ∙ rank_of-committed c.decisions g.0 a s valid.once g.1))
    (conflicts-rise b valid) cycle
