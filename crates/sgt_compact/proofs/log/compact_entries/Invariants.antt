use Rattle.std.proofs.Common.{◌≡◌, [], ◌++◌, drop}
use Rattle.sgt_compact.proofs.log.compact_entries.Given as goal

-- the items are numbered: there are no entries
abbrev pub invariant-loop-holding : goal.invariant-loop-holding
invariant-loop-holding l = l.entries ≡ []

-- the entries so far, and those that are left
abbrev pub invariant-loop-entry : goal.invariant-loop-entry
invariant-loop-entry l = l.entries ++ drop l.entry-index l.log.entries ≡ l.log.entries
