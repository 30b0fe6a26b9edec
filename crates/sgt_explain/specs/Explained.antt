-- What an explanation of an input writes.
use Rattle.std.specs.Prelude.{◌≡◌, ◌⊎◌, ℕ, List, [], ◌++◌, codes, Option, IfSome}
use Rattle.std.specs.Io.KnownBytes.{Appends}
use Rattle.sgt_names.specs.Device.{AppendsOrForgets, WritesFront}
use Rattle.sgt_names.specs.declared.outcome.Outcome.{Outcome}
use Rattle.sgt_names.specs.declared.outcome.Outcome.TheVariants as outcome
use Rattle.sgt_audit.specs.Verdict.{IsVerdict, text_of}
use Rattle.sgt_audit.specs.declared.verdict.Verdict.{Verdict}
use Rattle.sgt_audit.specs.declared.verdict.Verdict.TheVariants.{Yes, No}
use Rattle.sgt_audit.specs.declared.faults.Fault.TheVariants as fault
use Rattle.sgt_audit.specs.Faults.{FirstFault, bytes_of}
use Rattle.sgt_explain_lines.specs.Places.{TellsFormat, TellsLine, trailing_head, trailing_rule}
use Rattle.sgt_explain_lines.specs.Told.{read_text, final_text}
use Rattle.sgt_explain_lines.specs.declared.values.Misvalued.{Misvalued}
use Rattle.sgt_explain_decisions.specs.Told.{rank_order_text}
use Rattle.sgt_explain_steps.specs.Told.{walk_step_text}
use Rattle.sgt_explain_decisions.specs.declared.order.RanksShown.{RanksShown}
use Rattle.sgt_explain_steps.specs.declared.unmet.Unmet.{Unmet}
use Rattle.sgt_bundle.specs.declared.certificate.Certificate.{Certificate}
use Rattle.sgt_explain_certificate.specs.Ranks.{TellsRanks}
use Rattle.sgt_explain_decisions.specs.Twice.{TellsTwice}
use Rattle.sgt_explain_decisions.specs.Walks.{TellsWalk}
use Rattle.sgt_explain.specs.Asked.{IsFound, TellsAsked, TellsIfYes}
use Rattle.sgt_explain.specs.declared.asked.Asked.{Asked}
use Rattle.sgt_explain.specs.declared.asked.Explained.{Explained}
use Rattle.sgt_explain.specs.Certified.{TellsNoCertificate, SpellsCertificate, ShowsAgainstEnd, ShowsMisplaced, ShowsUnended}
use Rattle.sgt_explain.specs.Front.{IsFrontOf}
use Rattle.sgt_explain.specs.Lines.{ShowsFaulty, ShowsUnspelled, ShowsUnallowed, ShowsEnd, ShowsUnlisted, ShowsRepeating, ShowsCut}
use Rattle.sgt_explain.specs.Shown.{lines_before, decisions_before, ShowsRead, ShowsFinal, ShowsRanks}
use Rattle.sgt_explain.specs.Steps.{ShowsStep}

-- a yes is told as Yes, a no as No
abbrev pub outcome_of : Verdict → Outcome
outcome_of (Yes committed refused withdrawn) = outcome.Yes
outcome_of (No line f) = outcome.No

-- what a first fault adds to a text: its name, and the line that has it, with what the lines before
-- it have of that; of a read and of a final what is shown of its value, in words; of ranks and of a
-- step likewise
abbrev pub Tells : List ℕ → Verdict → (old new : List ℕ) → Type 0
Tells bytes (No line fault.Format) old new =
    ShowsFaulty (codes "Format: ") bytes line fault.Format old new
    × ((first : FirstFault bytes line fault.Format) → TellsFormat (bytes_of first.next) old new)
Tells bytes (No line fault.Notation) old new =
    ShowsFaulty (codes "Notation: ") bytes line fault.Notation old new
    × ShowsUnspelled bytes line old new
Tells bytes (No line fault.Certificate) old new = TellsNoCertificate bytes line old new
Tells bytes (No line fault.Ranks) old new = (first : FirstFault bytes line fault.Ranks)
    → (c : Certificate) → SpellsCertificate (bytes_of first.next) c
    → TellsRanks c.decisions old new
Tells bytes (No line fault.DecidedTwice) old new = (first : FirstFault bytes line fault.DecidedTwice)
    → (c : Certificate) → SpellsCertificate (bytes_of first.next) c
    → TellsTwice c.decisions old new
Tells bytes (No line fault.WalkShape) old new = (first : FirstFault bytes line fault.WalkShape)
    → (c : Certificate) → SpellsCertificate (bytes_of first.next) c
    → TellsWalk c.decisions old new
Tells bytes (No line fault.End) old new = (first : FirstFault bytes line fault.End)
    → ShowsAgainstEnd (decisions_before first.stage) (lines_before first.stage)
    (bytes_of first.next) line old new
Tells bytes (No line fault.DecisionOrder) old new =
    (first : FirstFault bytes line fault.DecisionOrder)
    → ShowsMisplaced (decisions_before first.stage) (lines_before first.stage)
    (bytes_of first.next) line old new
Tells bytes (No line fault.NotEnded) old new = (first : FirstFault bytes line fault.NotEnded)
    → ShowsUnended (decisions_before first.stage) (lines_before first.stage) old new
Tells bytes (No line fault.Section) old new =
    ShowsFaulty (codes "Section: ") bytes line fault.Section old new
    × ((first : FirstFault bytes line fault.Section)
    → ShowsUnallowed bytes (lines_before first.stage) (bytes_of first.next) line old new)
Tells bytes (No line fault.Trailing) old new =
    ShowsFaulty (codes "Trailing: ") bytes line fault.Trailing old new
    × ((first : FirstFault bytes line fault.Trailing)
    → TellsLine trailing_head line (bytes_of first.next) (trailing_rule line) old new)
Tells bytes (No line fault.Truncated) old new = (first : FirstFault bytes line fault.Truncated)
    → ShowsEnd (bytes_of first.next) line old new
Tells bytes (No line fault.Item) old new = (first : FirstFault bytes line fault.Item)
    → ShowsUnlisted (lines_before first.stage) (bytes_of first.next) line old new
Tells bytes (No line fault.Twice) old new = (first : FirstFault bytes line fault.Twice)
    → ShowsRepeating (lines_before first.stage) (bytes_of first.next) line old new
Tells bytes (No line fault.Block) old new = (first : FirstFault bytes line fault.Block)
    → ShowsCut (lines_before first.stage) (bytes_of first.next) line old new
Tells bytes (No line fault.ReadValue) old new = (first : FirstFault bytes line fault.ReadValue)
    → (tx : ℕ) × (shown : Misvalued)
    × ShowsRead (lines_before first.stage) (bytes_of first.next) tx shown
    × (new ≡ old ++ read_text tx shown)
Tells bytes (No line fault.Final) old new = (first : FirstFault bytes line fault.Final)
    → (shown : Misvalued)
    × ShowsFinal (lines_before first.stage) (bytes_of first.next) shown
    × (new ≡ old ++ final_text shown)
Tells bytes (No line fault.RankOrder) old new = (first : FirstFault bytes line fault.RankOrder)
    → (shown : RanksShown)
    × ShowsRanks (decisions_before first.stage) (lines_before first.stage)
    (bytes_of first.next) line shown × (new ≡ old ++ rank_order_text shown)
Tells bytes (No line fault.WalkStep) old new = (first : FirstFault bytes line fault.WalkStep)
    → (shown : Unmet)
    × ShowsStep (decisions_before first.stage) (lines_before first.stage)
    (bytes_of first.next) shown × (new ≡ old ++ walk_step_text shown)
Tells _ _ _ _ = Unit {0}

-- what a verdict on the bytes means is that, and behind it what is told of the transaction, if one
-- is asked for
pub record MeansOf (bytes : List ℕ) (asked : Asked) (v : Verdict) (meaning : List ℕ) : Type 0 where
  pub said : List ℕ
  pub more : List ℕ
  pub text : meaning ≡ said ++ more
  pub told : Tells bytes v [] said
  pub cycles : TellsIfYes bytes asked v [] said
  pub dealings : TellsAsked bytes v asked [] more

-- whatever is asked for
abbrev pub Means : List ℕ → Verdict → List ℕ → Type 0
Means bytes v meaning = (asked : Asked) × MeansOf bytes asked v meaning

-- the verdict on the bytes, and the front of them that it is told of
abbrev pub IsVerdictOn : Option (List ℕ) → Verdict → (front : List ℕ) → Type 0
IsVerdictOn told v front = IfSome told (λ bytes. IsVerdict bytes v × IsFrontOf bytes v front)

-- the text that an input is explained by: the line of the verdict on its bytes, and behind it what that
-- means, of the bytes up to the line with the first fault
abbrev pub IsExplained : Option (List ℕ) → Outcome → List ℕ → Type 0
IsExplained told ended text = (v : Verdict) × (front : List ℕ) × (meaning : List ℕ)
    × IsVerdictOn told v front × Means front v meaning
    × (ended ≡ outcome_of v) × (text ≡ text_of v ++ meaning)

-- a verdict explained by the front that it is told of, where this is asked for, and whether that has the transaction
-- that is
abbrev pub IsExplainedBy : Asked → (front : List ℕ) → Verdict → Explained → List ℕ → Type 0
IsExplainedBy asked front v ended text = (meaning : List ℕ) × MeansOf front asked v meaning
    × IsFound front v asked ended.is_found
    × (ended.outcome ≡ outcome_of v) × (text ≡ text_of v ++ meaning)

abbrev pub IsExplainedOf : Asked → Option (List ℕ) → Explained → List ℕ → Type 0
IsExplainedOf asked told ended text = (v : Verdict) × (front : List ℕ)
    × IsVerdictOn told v front × IsExplainedBy asked front v ended text

-- that was written
abbrev pub WroteExplainedBy : Asked → (front : List ℕ) → Verdict → Explained → (old new : Option (List ℕ)) → Type 0
WroteExplainedBy asked front v ended old new = (text : List ℕ) × IsExplainedBy asked front v ended text
    × Appends old new text

-- nothing was written, or a front of it, and less than the whole
abbrev pub WroteExplainedByFront : Asked → (front : List ℕ) → Verdict → (old new : Option (List ℕ)) → Type 0
WroteExplainedByFront asked front v old new = AppendsOrForgets old new []
    ⊎ ((ended : Explained) × (text : List ℕ) × IsExplainedBy asked front v ended text × WritesFront old new text)

abbrev pub WroteExplainedOf : Asked → (told : Option (List ℕ)) → Explained
    → (old new : Option (List ℕ)) → Type 0
WroteExplainedOf asked told ended old new = (text : List ℕ) × IsExplainedOf asked told ended text
    × Appends old new text

-- that text was written
abbrev pub WroteExplained : (told : Option (List ℕ)) → Outcome → (old new : Option (List ℕ))
    → Type 0
WroteExplained told ended old new = (text : List ℕ) × IsExplained told ended text
    × Appends old new text

-- nothing was written, or a front of the text that the input is explained by, and less than the
-- whole text
abbrev pub WroteExplainedFront : (told old new : Option (List ℕ)) → Type 0
WroteExplainedFront told old new = AppendsOrForgets old new []
    ⊎ ((ended : Outcome) × (text : List ℕ) × IsExplained told ended text × WritesFront old new text)
