-- What is answered of bundles in a row.
use Rattle.std.specs.Prelude.{◌≡◌, ℕ, List, Option, IfSome}
use Rattle.std.specs.Io.KnownBytes.{Appends}
use Rattle.sgt_names.specs.Device.{WritesFront}
use Rattle.sgt_audit_chain.specs.Audited.{HasAudited, HasFault, HoldsHeadline, IsYes, no_text}
use Rattle.sgt_audit_chain.specs.declared.auditor.ChainAuditor.{ChainAuditor}
use Rattle.sgt_audit_chain.specs.declared.faults.ChainFault.{ChainFault}

-- a no was said of the file of this name, behind the texts that were audited: its first fault
abbrev pub SaysBroken : ChainAuditor → (name : List ℕ) (text written written' : Option (List ℕ)) → Type 0
SaysBroken auditor name text written written' = (line : ℕ) × (fault : ChainFault)
    × Appends written written' (no_text name line fault)
    × ((told : List (Option (List ℕ))) → HasAudited auditor told
    → IfSome text (λ bytes. HasFault told bytes line fault))

-- a front of such a no was written, and not all of it
abbrev pub WroteBrokenFront : (name : List ℕ) (written written' : Option (List ℕ)) → Type 0
WroteBrokenFront name written written' = (line : ℕ) × (fault : ChainFault)
    × WritesFront written written' (no_text name line fault)

-- a yes was said of the texts that were audited, and the headline holds of them
abbrev pub SaysChain : ChainAuditor → (written written' : Option (List ℕ)) → Type 0
SaysChain auditor written written' = (line : List ℕ) × Appends written written' line
    × ((told : List (Option (List ℕ))) → HasAudited auditor told
    → IsYes told line × HoldsHeadline told)

-- a front of such a yes was written, and not all of it
abbrev pub WroteChainFront : ChainAuditor → (written written' : Option (List ℕ)) → Type 0
WroteChainFront auditor written written' = (line : List ℕ) × WritesFront written written' line
    × ((told : List (Option (List ℕ))) → HasAudited auditor told → IsYes told line)
