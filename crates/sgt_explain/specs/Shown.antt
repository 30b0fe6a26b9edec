-- What is shown of a line that gives an item another value than the item has there, and of one that
-- stands against the ranks.
use Rattle.std.specs.Prelude.{◌≡◌, ◌≢◌, ℕ, List, [], Option, Some, None, unwrap_or, Contains}
use Rattle.sgt_names.specs.Entry.{tx_of}
use Rattle.sgt_names.specs.Log.{value_in, value_at}
use Rattle.sgt_names.specs.declared.entry.Entry.TheVariants.{Read}
use Rattle.sgt_notation.specs.Spelling.{line_text}
use Rattle.sgt_notation.specs.declared.SectionLine.{SectionLine}
use Rattle.sgt_notation.specs.declared.SectionLine.TheVariants.{Logged, Final}
use Rattle.sgt_bundle.specs.Certificate.{IsCommitted}
use Rattle.sgt_bundle.specs.declared.certificate.Decision.{Decision}
use Rattle.sgt_audit.specs.Faults.{Stage, start, headed, within, complete, items_in, entries_in}
use Rattle.sgt_explain_lines.specs.Numbered.{open_site, numbered_items, numbered_entries}
use Rattle.sgt_explain_lines.specs.Values.{last_change, stated_as, HadUntil}
use Rattle.sgt_explain_lines.specs.declared.values.Misvalued.{Misvalued}
use Rattle.sgt_explain_decisions.specs.Against.{StandAgainst, IsFirstAgainst}
use Rattle.sgt_explain_decisions.specs.declared.order.RanksShown.{RanksShown}

-- the lines of sections that a text has before its first fault
abbrev pub lines_before : Stage → List SectionLine
lines_before start = []
lines_before (headed second) = []
lines_before (within second c before) = before
lines_before (complete second c before) = before

-- and the decisions
abbrev pub decisions_before : Stage → List Decision
decisions_before start = []
decisions_before (headed second) = []
decisions_before (within second c before) = c.decisions
decisions_before (complete second c before) = c.decisions

-- behind these lines the item has the value shown, and not the one that the line gives it; the
-- entry shown, with its line, is the last
-- that changes the item, and none is where its value is the initial one, which then the line shown
-- says; and the line shown up to which
-- the item had the value given is the last such, and none is shown where it never had it
pub record ShowsValue (before : List SectionLine) (shown : Misvalued) : Type 0 where
  pub site : shown.site ≡ unwrap_or (open_site before) 0
  pub value : value_at (items_in before) (entries_in before) shown.item ≡ Some shown.made.value
  pub other : shown.made.value ≢ shown.given
  pub by : shown.made.by ≡ last_change shown.item (numbered_entries before)
  pub listed : shown.made.by ≡ None
      → Contains (numbered_items before) (stated_as shown.made.listed shown.item shown.made.value)
  pub until : HadUntil (value_in (items_in before) shown.item)
      (numbered_entries before) shown.item shown.given shown.until

-- of a line that reads the value given
pub record ShowsRead (before : List SectionLine) (line : List ℕ) (tx : ℕ) (shown : Misvalued) : Type 0 where
  pub read : line ≡ line_text (Logged (Read tx shown.item shown.given))
  pub there : ShowsValue before shown

-- of a line that says the value given is the final one
pub record ShowsFinal (before : List SectionLine) (line : List ℕ) (shown : Misvalued) : Type 0 where
  pub final : line ≡ line_text (Final (record { item = shown.item; value = shown.given }))
  pub there : ShowsValue before shown

-- of the line of this number, which has an entry that stands against the ranks: an earlier entry of
-- its section, with its line, that it is
-- in conflict with, and whose transaction has no smaller rank; and both ranks, with the numbers of
-- the decisions
pub record ShowsRanks (decisions : List Decision) (before : List SectionLine) (line : List ℕ) (number : ℕ)
    (shown : RanksShown) : Type 0 where
  pub site : shown.site ≡ unwrap_or (open_site before) 0
  pub entry : line ≡ line_text (Logged shown.second.logged.entry)
  pub counted : shown.second.logged.line ≡ number
  pub among : Contains (numbered_entries before) shown.first.logged
  pub first : IsCommitted decisions shown.first.number
      (tx_of shown.first.logged.entry) shown.first.rank
  pub second : IsCommitted decisions shown.second.number
      (tx_of shown.second.logged.entry) shown.second.rank
  pub stand : StandAgainst shown.first shown.second shown.kind shown.item
  pub earlier : IsFirstAgainst decisions (numbered_entries before) shown.first.logged shown.second.logged.entry

-- ---- the parts of a line, for private clauses

abbrev pub read_in : SectionLine → Option (ℕ × List ℕ × ℕ)
read_in (Logged (Read tx x v)) = Some (tx, x, v)
read_in _ = None

abbrev pub final_in : SectionLine → Option (List ℕ × ℕ)
final_in (Final h) = Some (h.item, h.value)
final_in _ = None
