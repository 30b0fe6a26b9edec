-- What a reason that was found shows of logs, and how it is told.
use Rattle.std.specs.Prelude.{◌≡◌, ℕ, ◌<◌, ◌≤◌, ◌^◌, List, ◌++◌, length, Contains, Some, slice_get}
use Rattle.std.specs.List.{flat_map}
use Rattle.sgt_names.specs.Limits.{max_sites}
use Rattle.sgt_names.specs.declared.outcome.Outcome.{Outcome}
use Rattle.sgt_names.specs.declared.outcome.Outcome.TheVariants.{Yes, No, Unreadable}
use Rattle.sgt_bundle.specs.declared.bundle.SiteLog.{SiteLog}
use Rattle.sgt_certify_logs.specs.Certifiable.{SpellsLogs}
use Rattle.sgt_certify_logs.specs.Steps.{IsConflictCycle, IsEndCycle}
use Rattle.sgt_certify_stuck.specs.Circles.{ShowsStuck, members_of}
use Rattle.sgt_certify_stuck.specs.Onward.{ConflictsFollow, EndsFollow}
use Rattle.sgt_certify_search.specs.declared.finding.Proof.{Proof}
use Rattle.sgt_certify_search.specs.declared.finding.Proof.TheVariants.{Ends, Conflicts, Stuck}
use Rattle.sgt_certify_search.specs.declared.finding.Reason.{Reason}
use Rattle.sgt_certify.specs.Answer.{refusal_text, IsCertified, IsFirst}
use Rattle.sgt_certify.specs.Lines.{conflict_line, end_line, line_of, tx_line, AreLeftLines, IsShownBy}
use Rattle.sgt_certify.specs.declared.refuting.Refusal.{Refusal}
use Rattle.sgt_certify.specs.declared.refuting.Refusal.TheVariants.{Order, Ranks, Walk}

-- the logs have the cycle, or the set is stuck in them; and the orders show that they have no reason
-- that is told before
abbrev pub Holds : List SiteLog → Proof → Type 0
Holds sites (Ends steps) = IsEndCycle sites steps.items
Holds sites (Conflicts cycle ends) = IsConflictCycle sites cycle.items
    × EndsFollow sites ends.items
Holds sites (Stuck set ends ranks) = ShowsStuck sites set × EndsFollow sites ends.items
    × ConflictsFollow sites ranks.items

-- which refusal it shows
abbrev pub refusal_by : Proof → Refusal
refusal_by (Ends steps) = Order
refusal_by (Conflicts cycle ends) = Ranks
refusal_by (Stuck set ends ranks) = Walk

-- the lines of its steps, or of the next ends behind its set
abbrev pub AreLinesBy : List SiteLog → Proof → List ℕ → Type 0
AreLinesBy sites (Ends steps) lines = lines ≡ flat_map (end_line sites) steps.items
AreLinesBy sites (Conflicts cycle ends) lines =
    lines ≡ flat_map (conflict_line sites) cycle.items
AreLinesBy sites (Stuck set ends ranks) lines =
    AreLeftLines sites (Contains (members_of set)) 0 sites lines

-- it holds of the logs, and this is what is told of it
abbrev pub Tells : List SiteLog → Proof → Refusal → List ℕ → Type 0
Tells sites proof refusal lines = Holds sites proof × (refusal ≡ refusal_by proof)
    × AreLinesBy sites proof lines

-- the bytes spell logs of as many sites as the reason says, and it holds of these
abbrev pub Passes : List ℕ → Reason → Type 0
Passes bytes reason = (sites : List SiteLog) × SpellsLogs bytes sites
    × (length sites ≡ reason.sites) × Holds sites reason.proof

-- the text is what is told of the reason, which passes
pub record IsToldBy (bytes : List ℕ) (reason : Reason) (text : List ℕ) : Type 0 where
  pub sites : List SiteLog
  pub logs : SpellsLogs bytes sites
  pub many : length sites ≡ reason.sites
  pub holds : Holds sites reason.proof
  pub lines : List ℕ
  pub lines_are : AreLinesBy sites reason.proof lines
  pub told : text ≡ refusal_text (refusal_by reason.proof) ++ lines

-- what is answered without a reason: with a yes a bundle; with a no the first reason that the logs
-- have, and transactions alone that show it
abbrev pub IsDecidedAnswer : List ℕ → Outcome → List ℕ → Type 0
IsDecidedAnswer bytes Yes text = IsCertified bytes text
IsDecidedAnswer bytes No text = (refusal : Refusal) × (sites : List SiteLog) × (txs : List ℕ)
    × SpellsLogs bytes sites × IsShownBy refusal sites txs × IsFirst refusal sites
    × (text ≡ refusal_text refusal ++ flat_map tx_line txs)
IsDecidedAnswer bytes Unreadable text = ⊥

-- the sites are no more than there may be, and the line of each entry has a number below 2^64
pub record AreNumbered (sites : List SiteLog) : Type 0 where
  pub few : length sites ≤ max_sites
  pub below : (site place : ℕ) (log : SiteLog) → slice_get sites site ≡ Some log
      → place < length log.entries → line_of sites site place < 2 ^ 64
