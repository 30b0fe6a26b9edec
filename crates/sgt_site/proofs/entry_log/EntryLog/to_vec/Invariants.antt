use Rattle.std.proofs.Common.{◌≡◌, take}
use Rattle.sgt_site.proofs.entry_log.EntryLog.to_vec.Given as goal

-- copied so far
abbrev pub invariant-loop-place : goal.invariant-loop-place
invariant-loop-place l = l.entries.items ≡ take l.place l.self.entries
