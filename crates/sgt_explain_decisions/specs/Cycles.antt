-- The cycles of refused transactions, as they are told.
use Rattle.std.specs.Prelude.{◌≡◌, ℕ, ◌+◌, ◌<◌, List, [], ◌∷◌, ◌++◌, length, take, slice_get, All, codes, decimal, Option, Some, None, IfSome, IfNone}
use Rattle.sgt_names.specs.Entry.{IsIncrement}
use Rattle.sgt_bundle.specs.declared.certificate.Step.{Step}
use Rattle.sgt_bundle.specs.declared.certificate.Decision.{Decision}
use Rattle.sgt_bundle.specs.declared.certificate.Decision.TheVariants.{Refuse}
use Rattle.sgt_explain_lines.specs.declared.section.Logged.{Logged}
use Rattle.sgt_explain_lines.specs.Told.{conflict_text}
use Rattle.sgt_explain_decisions.specs.declared.sought.Sought.{Sought}
use Rattle.sgt_explain_decisions.specs.Sought.{found_of, begun_by, ended_by, last_stop}

-- ---- a step

-- the one stands before the other, and they aren't both increments
pub record AreInOrder (one other : Logged) : Type 0 where
  pub before : one.line < other.line
  pub apart : IsIncrement one.entry → IsIncrement other.entry → ⊥

-- two entries that show a step from this transaction: its own, and behind it that of the transaction that the step
-- leads to
pub record IsShownStep (sought : Sought) (from : ℕ) (step : Step) (one other : Logged) : Type 0 where
  pub first : begun_by step.label.kind (found_of sought step from) ≡ Some one
  pub second : ended_by step.label.kind (found_of sought step step.to) ≡ Some other
  pub order : AreInOrder one other

-- no two entries show it
abbrev pub IsUnshown : Sought → ℕ → Step → Type 0
IsUnshown sought from step = (one other : Logged) → IsShownStep sought from step one other → ⊥

-- the two entries that show it, if there are such
pub record Shows (sought : Sought) (from : ℕ) (step : Step) (shown : Option (Logged × Logged)) : Type 0 where
  pub some : IfSome shown (λ two. IsShownStep sought from step two.0 two.1)
  pub none : IfNone shown (IsUnshown sought from step)

abbrev pub step_text : ℕ → Step → Option (Logged × Logged) → List ℕ
step_text from step (Some two) = codes "  " ++ (conflict_text step.label.site step.label.item two.0 two.1 ++ codes "\n")
step_text from step None = codes "  " ++ (decimal from ++ (codes " to " ++ (decimal step.to ++ codes ": not shown by the lines before the fault\n")))

-- ---- cycles

-- step by step a walk from this transaction is told, each by two entries that show it, where there are such
abbrev pub TellsCycle : Sought → ℕ → List Step → List ℕ → Type 0
TellsCycle sought from [] told = told ≡ []
TellsCycle sought from (step ∷ walk) told = (shown : Option (Logged × Logged)) × (rest : List ℕ)
    × Shows sought from step shown × TellsCycle sought step.to walk rest
    × (told ≡ step_text from step shown ++ rest)

abbrev pub refusal_head : (number tx : ℕ) → List ℕ
refusal_head number tx = codes "transaction " ++ (decimal tx ++ (codes " was refused (decision " ++ (decimal number
    ++ codes "), since it would close a cycle:\n")))

-- a refusal is told with its cycle, and nothing of another decision
abbrev pub TellsRefusal : Sought → ℕ → Decision → List ℕ → Type 0
TellsRefusal sought number (Refuse tx walk) told = (cycle : List ℕ) × TellsCycle sought tx walk cycle
    × (told ≡ refusal_head number tx ++ cycle)
TellsRefusal sought number _ told = told ≡ []

-- all decisions from this number on
abbrev pub TellsCycles : Sought → ℕ → List Decision → List ℕ → Type 0
TellsCycles sought number [] told = told ≡ []
TellsCycles sought number (d ∷ decisions) told = (one : List ℕ) × (rest : List ℕ) × TellsRefusal sought number d one
    × TellsCycles sought (number + 1) decisions rest × (told ≡ one ++ rest)

-- ---- which step isn't shown

-- each of so many first steps of a walk is shown
abbrev pub AreShown : Sought → ℕ → List Step → ℕ → Type 0
AreShown sought tx walk count = (place : ℕ) (step : Step) → place < count → slice_get walk place ≡ Some step
    → (one : Logged) × (other : Logged) × IsShownStep sought (last_stop tx (take place walk)) step one other

-- the step at this place is the first that isn't shown
pub record IsFirstUnshown (sought : Sought) (tx : ℕ) (walk : List Step) (place : ℕ) : Type 0 where
  pub step : Step
  pub there : slice_get walk place ≡ Some step
  pub unshown : IsUnshown sought (last_stop tx (take place walk)) step
  pub before : AreShown sought tx walk place

-- the first step that isn't shown of the walk of a refusal, which has one that isn't shown
abbrev pub IsUnshownAt : Sought → Decision → ℕ → Type 0
IsUnshownAt sought d place = (tx : ℕ) × (walk : List Step) × (d ≡ Refuse tx walk) × IsFirstUnshown sought tx walk place

-- each step of its walk is shown, if it is a refusal
abbrev pub IsShownWhole : Sought → Decision → Type 0
IsShownWhole sought d = (tx : ℕ) (walk : List Step) → d ≡ Refuse tx walk → AreShown sought tx walk (length walk)

-- the decision of this number, and the place of a step: the first of all walks that isn't shown
pub record IsFirstUnmet (sought : Sought) (decisions : List Decision) (number place : ℕ) : Type 0 where
  pub decision : Decision
  pub there : slice_get decisions number ≡ Some decision
  pub unshown : IsUnshownAt sought decision place
  pub before : All (IsShownWhole sought) (take number decisions)
