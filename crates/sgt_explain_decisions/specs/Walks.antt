-- What is said of a walk that is no cycle.
use Rattle.std.specs.Prelude.{◌≡◌, ◌≢◌, ℕ, ◌+◌, ◌-◌, ◌<◌, ◌≤◌, List, [], ◌∷◌, ◌++◌, All, AllPairs, length, take, slice_get, codes, decimal, Some}
use Rattle.sgt_bundle.specs.Certificate.{IsCommitted, IsCycle}
use Rattle.sgt_bundle.specs.declared.certificate.Step.{Step}
use Rattle.sgt_bundle.specs.declared.certificate.Decision.{Decision}
use Rattle.sgt_bundle.specs.declared.certificate.Decision.TheVariants.{Refuse}
use Rattle.sgt_explain_decisions.specs.declared.walks.Flaw.{Flaw}
use Rattle.sgt_explain_decisions.specs.declared.walks.Flaw.TheVariants as flaw
use Rattle.sgt_explain_decisions.specs.declared.walks.Flawed.{Flawed}
use Rattle.sgt_explain_decisions.specs.Placed.{IsFirstOn, IsUndecided}
use Rattle.sgt_explain_decisions.specs.Told.{decision_text}

-- the decision of this number refuses the transaction, since this walk would close a cycle
abbrev pub IsRefusal : List Decision → (number tx : ℕ) → List Step → Type 0
IsRefusal decisions number tx walk = slice_get decisions number ≡ Some (Refuse tx walk)

-- ---- what is wrong with a walk

-- a decision before the one of this number commits the transaction
abbrev pub IsCommittedBefore : List Decision → (number tx : ℕ) → Type 0
IsCommittedBefore decisions number tx = (m : ℕ) × (rank : ℕ) × (m < number) × IsCommitted decisions m tx rank

-- a walk of the transaction, refused by the decision of this number, may lead through this one
abbrev pub MayBePassed : List Decision → (number tx : ℕ) → ℕ → Type 0
MayBePassed decisions number tx stop = (stop ≢ tx) × IsCommittedBefore decisions number stop

-- what is wrong with a step between, counted from 1, which leads to this transaction: that is the refused one, has no
-- decision, or the first decision on it doesn't commit it, or not before
abbrev pub IsFlawOfStep : List Decision → (number tx : ℕ) → (step stop : ℕ) → Flaw → Type 0
IsFlawOfStep decisions number tx step stop (flaw.Closed k) = (k ≡ step) × (stop ≡ tx)
IsFlawOfStep decisions number tx step stop (flaw.Undecided k a) = (k ≡ step) × (a ≡ stop) × (stop ≢ tx)
    × IsUndecided decisions stop
IsFlawOfStep decisions number tx step stop (flaw.NotBefore k m) = (k ≡ step) × (stop ≢ tx) × IsFirstOn decisions stop m
    × ((rank : ℕ) → IsCommitted decisions m stop rank → number ≤ m)
IsFlawOfStep decisions number tx step stop _ = ⊥

-- the steps between are all but the last
abbrev pub steps_between : List Step → List Step
steps_between walk = take (length walk - 1) walk

-- its last step leads to this transaction, and there are others before it
pub record LeadsTo (walk : List Step) (stop : ℕ) : Type 0 where
  pub long : 2 ≤ length walk
  pub last : Step
  pub there : slice_get walk (length walk - 1) ≡ Some last
  pub to : last.to ≡ stop

-- of the steps between the first with which something is wrong
pub record IsFirstFlaw (decisions : List Decision) (number tx : ℕ) (between : List Step) (f : Flaw) : Type 0 where
  pub place : ℕ
  pub step : Step
  pub there : slice_get between place ≡ Some step
  pub is : IsFlawOfStep decisions number tx (place + 1) step.to f
  pub before : All (λ s. MayBePassed decisions number tx s.to) (take place between)

abbrev pub AreApart : List Step → Type 0
AreApart steps = AllPairs (λ a b. a.to ≢ b.to) steps

-- of the steps between the first that leads to where an earlier one led
pub record IsFirstAgain (between : List Step) (stop : ℕ) : Type 0 where
  pub place : ℕ
  pub step : Step
  pub there : slice_get between place ≡ Some step
  pub to : step.to ≡ stop
  pub earlier : (m : ℕ) × (s : Step) × (m < place) × (slice_get between m ≡ Some s) × (s.to ≡ stop)
  pub before : AreApart (take place between)

-- the walk is too short; or else it doesn't lead back; or else something is wrong with a step between; or else two of
-- these lead to one transaction
abbrev pub IsFlaw : List Decision → (number tx : ℕ) → List Step → Flaw → Type 0
IsFlaw decisions number tx walk flaw.Short = length walk < 2
IsFlaw decisions number tx walk (flaw.Elsewhere a) = LeadsTo walk a × (a ≢ tx)
IsFlaw decisions number tx walk (flaw.Again a) = LeadsTo walk tx
    × All (λ s. MayBePassed decisions number tx s.to) (steps_between walk) × IsFirstAgain (steps_between walk) a
IsFlaw decisions number tx walk f = LeadsTo walk tx × IsFirstFlaw decisions number tx (steps_between walk) f

-- each refusal before the decision of this number has a cycle
abbrev pub HaveCycles : List Decision → ℕ → Type 0
HaveCycles decisions count = (number tx : ℕ) (walk : List Step) → number < count → IsRefusal decisions number tx walk
    → IsCycle decisions number tx walk

-- the first refusal whose walk is no cycle, and what is wrong with that
pub record IsFirstFlawed (decisions : List Decision) (f : Flawed) : Type 0 where
  pub walk : List Step
  pub refused : IsRefusal decisions f.number f.tx walk
  pub is : IsFlaw decisions f.number f.tx walk f.flaw
  pub before : HaveCycles decisions f.number

-- ---- how it is told

abbrev pub walk_shape_head : (number tx : ℕ) → List ℕ
walk_shape_head number tx = codes "WalkShape: the walk of refused transaction " ++ (decimal tx ++ (codes " (decision " ++ (decimal number
    ++ codes ") is no cycle\n")))

abbrev pub step_leads : (step stop : ℕ) → List ℕ
step_leads step stop = codes "step " ++ (decimal step ++ (codes " leads to " ++ (decimal stop ++ codes ", which isn't committed before: ")))

abbrev pub not_before_text : (step number : ℕ) → (stop : ℕ) → Decision → List ℕ
not_before_text step number stop d = step_leads step stop ++ (decision_text number d ++ codes "\n")

-- the flaw in words; of a transaction that isn't committed before, with its decision
abbrev pub TellsFlaw : List Decision → Flaw → List ℕ → Type 0
TellsFlaw decisions flaw.Short told = told ≡ codes "a walk has at least two steps\n"
TellsFlaw decisions (flaw.Elsewhere tx) told = told ≡ codes "its last step leads to " ++ (decimal tx ++ codes ", and not back to it\n")
TellsFlaw decisions (flaw.Closed step) told = told ≡ codes "step " ++ (decimal step ++ codes " leads back to it, and isn't the last\n")
TellsFlaw decisions (flaw.Undecided step tx) told = told ≡ codes "step " ++ (decimal step ++ (codes " leads to " ++ (decimal tx ++ codes ", which has no decision\n")))
TellsFlaw decisions (flaw.Again tx) told = told ≡ codes "two of its steps lead to " ++ (decimal tx ++ codes "\n")
TellsFlaw decisions (flaw.NotBefore step number) told = (stop : ℕ) (d : Decision) → IsFirstOn decisions stop number
    → slice_get decisions number ≡ Some d → told ≡ not_before_text step number stop d

abbrev pub walk_shape_rule : List ℕ
walk_shape_rule = codes "it has to lead through transactions that earlier decisions commit, each once, and back\n"

-- the first refusal is told whose walk is no cycle, and what is wrong with that
abbrev pub TellsWalk : List Decision → (old new : List ℕ) → Type 0
TellsWalk decisions old new = (f : Flawed) × IsFirstFlawed decisions f × (told : List ℕ)
    × TellsFlaw decisions f.flaw told
    × (new ≡ old ++ (walk_shape_head f.number f.tx ++ (told ++ walk_shape_rule)))
