-- What texts in a row are found to be.
use Rattle.std.specs.Prelude.{◌≡◌, ℕ, Bool, List, [], ◌∷◌, ◌++◌, All, Option, Some, None, IfSome, codes, decimal, count_by, sum_by, option_map}
use Rattle.sgt_names.specs.declared.entry.Holding.{Holding}
use Rattle.sgt_bundle.specs.Parts.{FitTogether, Parts}
use Rattle.sgt_bundle.specs.Certificate.{is_commit, is_refusal, is_withdrawal}
use Rattle.sgt_bundle.specs.Valid.{IsValid}
use Rattle.sgt_bundle.specs.Text.{Spells}
use Rattle.sgt_bundle.specs.declared.certificate.Decision.{Decision}
use Rattle.sgt_audit.specs.Faults.{fault_number, FirstFault}
use Rattle.sgt_audit_chain.specs.Break.{FirstBreak}
use Rattle.sgt_audit_chain.specs.Chain.{IsChain, values_behind}
use Rattle.sgt_audit_chain.specs.Serial.{ChainAgrees}
use Rattle.sgt_audit_chain.specs.Sums.{in_64_bits}
use Rattle.sgt_audit_chain.specs.declared.counts.Counts.{Counts}
use Rattle.sgt_audit_chain.specs.declared.faults.ChainFault.{ChainFault}
use Rattle.sgt_audit_chain.specs.declared.faults.ChainFault.TheVariants.{Invalid, Broken}
use Rattle.sgt_audit_chain.specs.declared.auditor.ChainAuditor.{ChainAuditor}

-- the texts, where they are told, spell these bundles, one by one
abbrev pub SpellEach : List (Option (List ℕ)) → List Parts → Type 0
SpellEach [] [] = Unit {0}
SpellEach (told ∷ more) (b ∷ bundles) = IfSome told (λ text. Spells text b)
    × SpellEach more bundles
SpellEach _ _ = ⊥

-- how many decisions of a kind these bundles have
abbrev pub total : (Decision → Bool) → List Parts → ℕ
total kind bundles = sum_by (λ b. count_by kind b.certificate.decisions) bundles

-- the counts of all their decisions
abbrev pub counts_of : List Parts → Counts
counts_of bundles = record {
  committed = in_64_bits (total is_commit bundles);
  refused = in_64_bits (total is_refusal bundles);
  withdrawn = in_64_bits (total is_withdrawal bundles);
}

-- a valid bundle behind these doesn't go on, first on this line
abbrev pub BreaksOff : List Parts → Parts → (line : ℕ) → Type 0
BreaksOff bundles b line = (left : List (List Holding)) × (values_behind bundles ≡ Some left)
    × ((n : ℕ) × FirstBreak left b.sites n × (line ≡ in_64_bits n))

-- a text behind those of a chain isn't that of one more bundle: it spells no valid one, and this is
-- its first fault; or it spells a valid one, and this is its first line that doesn't go on
abbrev pub HasFault : List (Option (List ℕ)) → List ℕ → (line : ℕ) → ChainFault → Type 0
HasFault told text line (Invalid fault) = FirstFault text line fault
HasFault told text line Broken = (bundles : List Parts) × SpellEach told bundles × IsChain bundles
    × ((b : Parts) × Spells text b × IsValid b × BreaksOff bundles b line)

-- its line, with the LF, of a file of this name
abbrev pub fault_text : ChainFault → List ℕ
fault_text (Invalid fault) = codes " F" ++ decimal (fault_number fault)
fault_text Broken = codes " C1"

abbrev pub no_text : (name : List ℕ) (line : ℕ) → ChainFault → List ℕ
no_text name line fault = codes "no " ++ (name ++ (codes " line " ++ (decimal line
    ++ (fault_text fault ++ codes "\n"))))

-- the line of a chain with these counts
abbrev pub yes_text : Counts → List ℕ
yes_text counts = codes "yes " ++ (decimal counts.committed ++ (codes " committed "
    ++ (decimal counts.refused ++ (codes " refused "
    ++ (decimal counts.withdrawn ++ codes " withdrawn\n")))))

-- what is kept is of these bundles, which are a chain
pub record KeepsOf (auditor : ChainAuditor) (bundles : List Parts) : Type 0 where
  pub chain : IsChain bundles
  pub fit : All FitTogether bundles
  pub left : option_map (λ left. left.items) auditor.left ≡ values_behind bundles
  pub counts : auditor.counts ≡ counts_of bundles

-- the texts that were audited, where they are told, spell the bundles of a chain
abbrev pub HasAudited : ChainAuditor → List (Option (List ℕ)) → Type 0
HasAudited auditor told = (bundles : List Parts) × SpellEach told bundles
    × KeepsOf auditor bundles

-- a valid bundle goes on, or this is its first line that doesn't
abbrev pub FollowsIn : ChainAuditor → List Parts → Parts → Option ℕ → Type 0
FollowsIn auditor bundles b None = KeepsOf auditor (bundles ++ b ∷ [])
FollowsIn auditor bundles b (Some line) = BreaksOff bundles b line

-- the texts spell bundles that are a chain: each is valid, and begins with the values that the one
-- before it ended with; and the committed transactions of all, run alone one after another, bundle by
-- bundle and by rank, give every read value and every final value that is recorded
pub record HoldsHeadline (told : List (Option (List ℕ))) : Type 0 where
  pub bundles : List Parts
  pub spelled : SpellEach told bundles
  pub chain : IsChain bundles
  pub serial : ChainAgrees bundles

-- the line is that of a chain of these texts
abbrev pub IsYes : List (Option (List ℕ)) → List ℕ → Type 0
IsYes told line = (bundles : List Parts) × SpellEach told bundles × IsChain bundles
    × (line ≡ yes_text (counts_of bundles))
