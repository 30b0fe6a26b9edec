-- What is written of bytes that are a bundle's, or those of logs without a certificate.
use Rattle.std.specs.Prelude.{◌⊎◌, ℕ, List, Option, IfSome}
use Rattle.std.specs.Io.KnownBytes.{Appends}
use Rattle.sgt_explain.specs.Asked.{transaction_in}
use Rattle.sgt_explain.specs.Explained as bundle
use Rattle.sgt_explain.specs.declared.asked.Asked.{Asked}
use Rattle.sgt_explain.specs.declared.asked.Explained.{Explained}
use Rattle.sgt_explain_logs.specs.Explained.{AreLogs, IsFound}
use Rattle.sgt_explain_logs.specs.Explained as logs

-- of logs without a certificate it is the explanation of what `certify` answers, and of all else that of
-- the auditor's verdict; where a transaction is asked for, with what it did, and whether it was found
abbrev pub IsExplanation : Asked → (told : Option (List ℕ)) → Explained → (text : List ℕ) → Type 0
IsExplanation asked told ended text = (IfSome told (λ bytes. AreLogs bytes
    × IsFound bytes (transaction_in asked) ended.is_found) × logs.IsExplained told ended.outcome text)
    ⊎ (IfSome told (λ bytes. AreLogs bytes → ⊥) × bundle.IsExplainedOf asked told ended text)

-- that text was written
abbrev pub WroteExplanation : Asked → (told : Option (List ℕ)) → Explained → (old new : Option (List ℕ)) → Type 0
WroteExplanation asked told ended old new = (text : List ℕ) × IsExplanation asked told ended text
    × Appends old new text

-- nothing was written, or a front of such a text, and less than the whole
abbrev pub WroteExplanationFront : (told old new : Option (List ℕ)) → Type 0
WroteExplanationFront told old new = logs.WroteExplainedFront told old new ⊎ bundle.WroteExplainedFront told old new
