-- Walks of logged conflicts from a transaction, and back to it.
use Rattle.std.specs.Prelude.{◌≡◌, ◌≢◌, ℕ, ◌≤◌, List, [], ◌∷◌, ◌++◌, length, All, AllPairs, Contains}
use Rattle.sgt_bundle.specs.Certificate.{stops}
use Rattle.sgt_bundle.specs.Valid.{AreLogged}
use Rattle.sgt_bundle.specs.declared.certificate.Step.{Step}
use Rattle.sgt_bundle.specs.declared.bundle.SiteLog.{SiteLog}
use Rattle.sgt_certify_greedy.specs.declared.walks.Reached.{Reached}

-- where a walk from the transaction leads
abbrev pub end_of : ℕ → List Step → ℕ
end_of tx [] = tx
end_of tx (s ∷ walk) = end_of s.to walk

-- conflicts lead from the transaction to the one that is reached, through these, each once
pub record IsPath (sites : List SiteLog) (through : List ℕ) (tx : ℕ) (r : Reached) : Type 0 where
  pub logged : AreLogged sites tx r.walk
  pub leads : end_of tx r.walk ≡ r.tx
  pub distinct : AllPairs (λ a b. a ≢ b) (stops r.walk)
  pub within : All (Contains through) (stops r.walk)

-- the transaction is reached
abbrev pub IsReached : List Reached → ℕ → Type 0
IsReached reached t = (r : Reached) × Contains reached r × (r.tx ≡ t)

-- conflicts lead from the transaction back to it, through others for which this holds, each once
pub record IsRound (sites : List SiteLog) (Through : ℕ → Type 0) (tx : ℕ) (walk : List Step) : Type 0 where
  pub between : List ℕ
  pub long : 1 ≤ length between
  pub closed : stops walk ≡ between ++ tx ∷ []
  pub distinct : AllPairs (λ a b. a ≢ b) between
  pub through : All Through between
  pub logged : AreLogged sites tx walk

-- no walk of logged conflicts leads from the transaction back to it through these
abbrev pub HasNoRound : List SiteLog → List ℕ → ℕ → Type 0
HasNoRound sites through tx = (walk : List Step) (between : List ℕ) → AreLogged sites tx walk
    → stops walk ≡ between ++ tx ∷ []
    → All (Contains through) between → ⊥
