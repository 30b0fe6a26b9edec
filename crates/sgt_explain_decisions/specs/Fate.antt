-- What is said of the decision on one transaction.
use Rattle.std.specs.Prelude.{◌≡◌, ◌⊎◌, ℕ, List, ◌++◌, codes, length}
use Rattle.sgt_notation.specs.declared.SectionLine.{SectionLine}
use Rattle.sgt_bundle.specs.declared.certificate.Decision.{Decision}
use Rattle.sgt_bundle.specs.declared.certificate.Decision.TheVariants.{Commit, Refuse, Withdraw}
use Rattle.sgt_bundle.specs.declared.certificate.Step.{Step}
use Rattle.sgt_explain_lines.specs.Sited.{HasBefore}
use Rattle.sgt_explain_decisions.specs.declared.sought.Sought.{Sought}
use Rattle.sgt_explain_decisions.specs.Cycles.{TellsCycle}
use Rattle.sgt_explain_decisions.specs.Placed.{IsDecisionOn, IsFirstOn, IsUndecided}
use Rattle.sgt_explain_decisions.specs.Sought.{AreFound, AreFoundIn, WalksAreSought}
use Rattle.sgt_explain_decisions.specs.Told.{decision_text, no_decision_text}

-- what the walks of the decisions are about, found in the text
pub record AreSoughtIn (decisions : List Decision) (bytes : List ℕ) (sought : Sought) : Type 0 where
  pub found : AreFound sought
  pub walks : WalksAreSought sought decisions (length decisions)
  pub lines : (lines : List SectionLine) → HasBefore bytes 18446744073709551615 lines
      → AreFoundIn lines (length lines) sought

abbrev pub closing_words : List ℕ
closing_words = codes ", since it would close a cycle:\n"

-- a refusal goes on with its cycle
abbrev pub IsClosing : Sought → ℕ → List Step → List ℕ → Type 0
IsClosing sought tx walk told = (cycle : List ℕ) × TellsCycle sought tx walk cycle × (told ≡ closing_words ++ cycle)

-- why a decision is as it is: of a refusal its cycle, by what the text has
abbrev pub IsCause : List Decision → List ℕ → Decision → List ℕ → Type 0
IsCause decisions bytes (Refuse tx walk) told = (sought : Sought) × AreSoughtIn decisions bytes sought
    × IsClosing sought tx walk told
IsCause decisions bytes (Commit tx rank) told = told ≡ codes "\n"
IsCause decisions bytes (Withdraw tx) told = told ≡ codes "\n"

-- the first decision on the transaction is told, and why it is so; or that there is none, where there is none
abbrev pub TellsFate : List Decision → List ℕ → ℕ → (old new : List ℕ) → Type 0
TellsFate decisions bytes tx old new = (IsUndecided decisions tx × (new ≡ old ++ no_decision_text tx))
    ⊎ ((number : ℕ) × (decision : Decision) × (cause : List ℕ)
    × IsDecisionOn decisions tx number decision × IsFirstOn decisions tx number × IsCause decisions bytes decision cause
    × (new ≡ old ++ (decision_text number decision ++ cause)))
