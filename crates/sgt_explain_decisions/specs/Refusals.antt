-- What is said of the refusals of a yes.
use Rattle.std.specs.Prelude.{◌≡◌, ◌⊎◌, ◌≤◌, ◌<◌, ℕ, List, ◌++◌, codes, count_by, decimal, drop, take}
use Rattle.sgt_bundle.specs.Certificate.{is_refusal}
use Rattle.sgt_bundle.specs.declared.certificate.Decision.{Decision}
use Rattle.sgt_explain_decisions.specs.declared.sought.Sought.{Sought}
use Rattle.sgt_explain_decisions.specs.Cycles.{TellsCycles}
use Rattle.sgt_explain_decisions.specs.Fate.{AreSoughtIn}

-- each refusal is told with its cycle, by what the text has
abbrev pub TellsRefusals : List Decision → List ℕ → (old new : List ℕ) → Type 0
TellsRefusals decisions bytes old new = (sought : Sought) × AreSoughtIn decisions bytes sought
    × ((told : List ℕ) × TellsCycles sought 0 decisions told × (new ≡ old ++ told))

-- how many are told where not all are asked for
abbrev pub most_refusals : ℕ
most_refusals = 100

-- that there are so many more
abbrev pub more_refusals_text : ℕ → List ℕ
more_refusals_text more =
    codes "and " ++ (decimal more ++ codes " more: `sgt explain --all` shows the cycle of each refused transaction\n")

-- the first hundred refusals are those of the decisions before this number, and are told; and how many more there are
pub record TellsFront (decisions : List Decision) (bytes : List ℕ) (number : ℕ) (old new : List ℕ) : Type 0 where
  pub first : count_by is_refusal (take number decisions) ≡ most_refusals
  pub told : List ℕ
  pub each : TellsRefusals (take number decisions) bytes old told
  pub more : new ≡ told ++ more_refusals_text (count_by is_refusal (drop number decisions))

-- each of at most a hundred refusals is told, and of more the first hundred, and how many more there are
abbrev pub TellsFirstRefusals : List Decision → List ℕ → (old new : List ℕ) → Type 0
TellsFirstRefusals decisions bytes old new =
    ((count_by is_refusal decisions ≤ most_refusals) × TellsRefusals decisions bytes old new)
    ⊎ ((most_refusals < count_by is_refusal decisions) × ((number : ℕ) × TellsFront decisions bytes number old new))
