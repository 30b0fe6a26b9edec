use Rattle.std.proofs.Common.{take}
use Rattle.std.specs.Prelude.{Any}
use Rattle.sgt_edges.specs.private.Gathered.{AddsAll, AddsOnce, ReadersApart, FromReader}
use Rattle.sgt_edges.proofs.gathered.add_readers.Given as goal

-- the edges of those so far are added, each once
abbrev pub invariant-loop-r : goal.invariant-loop-r
invariant-loop-r l =
    AddsAll (λ e. Any (λ r. FromReader l.touch l.me r e) (take l.r-index l.readers)) l.fn.edges l.edges
    × (ReadersApart l.readers
    → AddsOnce (λ e. Any (λ r. FromReader l.touch l.me r e) (take l.r-index l.readers)) l.fn.edges l.edges)
