-- The rules that are judged by the decisions that entries ask for are those that no certificate mends.
use Rattle.std.proofs.Common.{◌≡◌, ◌<◌, List, [], ◌∷◌, ◌++◌, Option, Some, None, subst, arith, inl, inr, All, Contains}
use Rattle.std.specs.Prelude.{◌↔◌}
use Rattle.std.proofs.lemmas.Bool.{cases_order}
use Rattle.std.proofs.lemmas.Option.{slice_get_within}
use Rattle.sgt_names.proofs.Places.{All-from_at}
use Rattle.sgt_names.specs.Limits.{max_sites}
use Rattle.sgt_names.specs.declared.entry.Entry.{Entry}
use Rattle.sgt_names.specs.declared.entry.Entry.TheVariants as entry
use Rattle.sgt_notation.specs.declared.SectionLine.{SectionLine}
use Rattle.sgt_notation.specs.declared.SectionLine.TheVariants.{Site, Initial, Logged, Final, End}
use Rattle.sgt_bundle.specs.Valid.{EndInOrder, RiseInRank}
use Rattle.sgt_bundle.specs.Text.{Begins}
use Rattle.sgt_bundle.specs.declared.certificate.Certificate.{Certificate}
use Rattle.sgt_bundle.specs.declared.certificate.Decision.{Decision}
use Rattle.sgt_bundle.specs.declared.certificate.Decision.TheVariants.{Refuse}
use Rattle.sgt_audit.specs.declared.faults.Fault.{Fault}
use Rattle.sgt_audit.specs.declared.faults.Fault.TheVariants as fault
use Rattle.sgt_audit.specs.declared.rules.Rules.TheVariants.{Asked}
use Rattle.sgt_audit.specs.Faults.{Keeps, entries_in, fault_number}
use Rattle.sgt_audit.specs.Reading.{Begun, IsBegun, lines_read}
use Rattle.sgt_audit.specs.Rules.{KeepsBy}
use Rattle.sgt_audit.specs.private.Judging.{JudgedLine, KeptBelow}
use Rattle.sgt_certify_faults.specs.Faults.{KeepsAlone, undecided}
use Rattle.sgt_certify_faults.specs.private.Judging.{IsJudged, TellsLineOdds, asked_for}
use Rattle.sgt_certify_faults.proofs.Broken.{begins-all}

-- ---- rules that are alike

-- every rule is kept, where those below 17 are, and those from there on
kept-alike : (rule other : Fault → Type 0) → ((f : Fault) → rule f ↔ other f)
    → ((f : Fault) → 16 < fault_number f → rule f) → KeptBelow rule 17 → (f : Fault) → other f
kept-alike rule other alike above kept f =
    elim (cases_order (fault_number f) 17) [
      | inl same ↦ (alike f).0 (above f (omega (arith, same)))
      | inr (inl less) ↦ (alike f).0 (kept f less)
      | inr (inr more) ↦ (alike f).0 (above f (omega (arith, more)))
    ]

judged-alike : (rule other : Fault → Type 0) → ((f : Fault) → rule f ↔ other f)
    → ((f : Fault) → 16 < fault_number f → rule f) → (o : Option Fault) → JudgedLine rule o → IsJudged other o
judged-alike rule other alike above None kept = kept-alike rule other alike above kept
judged-alike rule other alike above (Some f) breaks = record {
  broken = λ o. breaks.broken ((alike f).1 o);
  least = λ g lt. (alike g).0 (breaks.least g lt);
}

-- ---- where nothing is decided

nothing-rises : (entries : List Entry) (e : Entry) → All (λ f. RiseInRank [] f e) entries
nothing-rises entries e =
    All-from_at (λ f. RiseInRank [] f e) entries (λ n f at kind x i j r s clash apart first second. absurd
    (omega (arith, slice_get_within [] i _ first)))

nothing-in_order : (entries : List Entry) (e : Entry) → All (λ f. EndInOrder [] f e) entries
nothing-in_order entries e =
    All-from_at (λ f. EndInOrder [] f e) entries
    (λ n f at first second i j by other. absurd (omega (arith, slice_get_within [] i by.0 by.1)))

no-walks : (before : List SectionLine) → Keeps undecided before End fault.WalkStep
no-walks before logs len same tx walk in_it = absurd (none-in (Refuse tx walk) in_it)
  where
    none-in : (d : Decision) → Contains [] d → ⊥
    none-in d h = absurd (omega (arith, h.1))

-- a read is legal whatever is decided
reads-alike : (c d : Certificate) (before : List SectionLine) (e : Entry) → Keeps c before (Logged e) fault.ReadValue
    → Keeps d before (Logged e) fault.ReadValue
reads-alike c d before (entry.Read tx x v) kept = kept
reads-alike c d before (entry.Write tx x v) kept = tt
reads-alike c d before (entry.Add tx x v) kept = tt
reads-alike c d before (entry.Want tx x v) kept = tt
reads-alike c d before (entry.WantAdd tx x v) kept = tt
reads-alike c d before (entry.Commit tx) kept = tt
reads-alike c d before (entry.Refuse tx) kept = tt
reads-alike c d before (entry.Withdraw tx) kept = tt

-- ---- a line

module _ (c : Certificate) (before : List SectionLine) where
  abbrev pub Asks : SectionLine → Fault → Type 0
  Asks line f = KeepsBy Asked c before line f

  pub line-alike : (line : SectionLine) → TellsLineOdds c.decisions before line
      → (KeepsAlone before line fault.Section → Begins c.sites (before ++ line ∷ [])) → (f : Fault)
      → Asks line f ↔ KeepsAlone before line f
  line-alike (Site k) tells begins fault.Section = (λ kept. (c.sites, kept), begins)
  line-alike (Site k) tells begins f = (λ kept. kept, λ kept. kept)
  line-alike (Initial h) tells begins fault.Section = (λ kept. (c.sites, kept), begins)
  line-alike (Initial h) tells begins f = (λ kept. kept, λ kept. kept)
  line-alike (Logged e) tells begins fault.Section = (λ kept. (c.sites, kept), begins)
  line-alike (Logged e) tells begins fault.ReadValue =
      (reads-alike c undecided before e, reads-alike undecided c before e)
  line-alike (Logged e) tells begins fault.RankOrder = (λ kept. nothing-rises (entries_in before) e, λ kept. tt)
  line-alike (Logged e) tells begins fault.End =
      (λ kept. (tells.0 kept.0, kept.1), λ kept. (tells.1 kept.0, kept.1))
  line-alike (Logged e) tells begins fault.DecisionOrder =
      (λ kept. nothing-in_order (entries_in before) e, λ kept. tt)
  line-alike (Logged e) tells begins f = (λ kept. kept, λ kept. kept)
  line-alike (Final h) tells begins fault.Section = (λ kept. (c.sites, kept), begins)
  line-alike (Final h) tells begins f = (λ kept. kept, λ kept. kept)
  line-alike End tells begins fault.Section = (λ kept. (c.sites, kept), begins)
  line-alike End tells begins fault.WalkStep = (λ kept. no-walks before, λ kept. tt)
  line-alike End tells begins f = (λ kept. kept, λ kept. kept)

  -- nothing is asked beyond the final values
  nothing-above : (line : SectionLine) (f : Fault) → 16 < fault_number f → Asks line f
  nothing-above line fault.WalkStep lt = tt
  nothing-above (Site k) fault.Truncated lt = tt
  nothing-above (Initial h) fault.Truncated lt = tt
  nothing-above (Logged e) fault.Truncated lt = tt
  nothing-above (Final h) fault.Truncated lt = tt
  nothing-above End fault.Truncated lt = tt
  nothing-above (Site k) fault.Trailing lt = tt
  nothing-above (Initial h) fault.Trailing lt = tt
  nothing-above (Logged e) fault.Trailing lt = tt
  nothing-above (Final h) fault.Trailing lt = tt
  nothing-above End fault.Trailing lt = tt
  nothing-above line f lt = absurd (omega arith)

-- what is judged by the decisions that the entries ask for
pub judged-alone : (ds : List Decision) (b : Begun) (line : SectionLine) → b.sites ≡ max_sites → IsBegun b
    → TellsLineOdds ds (lines_read b) line → (o : Option Fault)
    → JudgedLine (KeepsBy Asked (asked_for ds) (lines_read b) line) o → IsJudged (KeepsAlone (lines_read b) line) o
judged-alone ds b line sites begun tells =
    judged-alike (KeepsBy Asked (asked_for ds) (lines_read b) line) (KeepsAlone (lines_read b) line)
    (line-alike (asked_for ds) (lines_read b) line tells (λ keeps.
    subst (λ n. Begins n (lines_read b ++ line ∷ [])) sites (begins-all b line begun sites keeps)))
    (nothing-above (asked_for ds) (lines_read b) line)
