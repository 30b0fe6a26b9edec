-- The rule that an answer names.
use Rattle.std.specs.Prelude.{◌≡◌, ◌≢◌, ◌⊎◌, ◌≤◌, ◌++◌, ◌∷◌, ℕ, List, Option, Some, codes, length}
use Rattle.sgt_page.specs.Answer.{IsCutAtLine}
use Rattle.sgt_page.specs.Verdict.{EndsSo, Lacks, SaysOfHistory, SaysOfLogs, rule_of_history, rule_of_logs}
use Rattle.sgt_page.specs.declared.verdict.OfHistory.{OfHistory}
use Rattle.sgt_page.specs.declared.verdict.OfLogs.{OfLogs}

-- words in front of a name, at the beginning of a line
abbrev pub naming : List ℕ
naming = codes "\n`sgt explain "

-- the answer has this name, behind the first such words and up to a backtick
pub record IsNamedBelow (answer name : List ℕ) : Type 0 where
  pub front : List ℕ
  pub rest : List ℕ
  pub there : answer ≡ front ++ (naming ++ (name ++ 96 ∷ rest))
  pub whole : Lacks 96 name
  pub first : (before behind : List ℕ) → answer ≡ before ++ (naming ++ behind) → length front ≤ length before

-- behind no such words a backtick ends a name
abbrev pub NamesNoneBelow : List ℕ → Type 0
NamesNoneBelow answer = (front behind : List ℕ) → answer ≡ front ++ (naming ++ behind) → Lacks 96 behind

-- not a rule is named, but a bundle that is to be explained
abbrev pub IsOfBundle : List ℕ → Type 0
IsOfBundle name = EndsSo name (codes "BUNDLE")

-- what the first line names
abbrev pub IsRuleOfFirst : List ℕ → Option (List ℕ) → Type 0
IsRuleOfFirst answer rule = (first : List ℕ) × (behind : List ℕ) × IsCutAtLine answer first behind
    × ((said : OfLogs) × SaysOfLogs first said × (rule ≡ rule_of_logs said))

-- the name below the verdict, where a rule has it; else what the verdict names
abbrev pub IsRuleOfLogs : List ℕ → Option (List ℕ) → Type 0
IsRuleOfLogs answer rule = ((name : List ℕ) × IsNamedBelow answer name × (IsOfBundle name → ⊥) × (rule ≡ Some name))
    ⊎ ((((name : List ℕ) × IsNamedBelow answer name × IsOfBundle name) ⊎ NamesNoneBelow answer)
    × IsRuleOfFirst answer rule)

abbrev pub IsRuleOfHistory : List ℕ → Option (List ℕ) → Type 0
IsRuleOfHistory answer rule = (first : List ℕ) × (behind : List ℕ) × IsCutAtLine answer first behind
    × ((said : OfHistory) × SaysOfHistory first said × (rule ≡ rule_of_history said))

-- the rule that the answer names, if it names one: of a history where the command is `check`
abbrev pub IsRuleIn : (command answer : List ℕ) → Option (List ℕ) → Type 0
IsRuleIn command answer rule = (command ≡ codes "check" → IsRuleOfHistory answer rule)
    × (command ≢ codes "check" → IsRuleOfLogs answer rule)
