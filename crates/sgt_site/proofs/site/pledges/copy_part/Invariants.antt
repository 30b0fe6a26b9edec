use Rattle.std.proofs.Common.{◌≡◌, ◌+◌, ◌≤◌, ◌++◌, drop, length, vec_len, vec_capacity}
use Rattle.sgt_names.specs.Draft.{at_site}
use Rattle.sgt_site.proofs.site.pledges.copy_part.Given as goal

-- what is copied, and what is left to copy
abbrev pub invariant-loop-touch : goal.invariant-loop-touch
invariant-loop-touch l = record {
  copied : l.part.items ++ at_site l.number (drop l.touch-index l.near) ≡ at_site l.number l.near;
  room : vec_len l.part + length l.near ≤ vec_capacity l.part + l.touch-index;
}
