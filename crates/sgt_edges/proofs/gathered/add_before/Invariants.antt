use Rattle.std.proofs.Common.{take}
use Rattle.std.specs.Prelude.{Any}
use Rattle.sgt_edges.specs.private.Gathered.{AddsAll, AddsOnce, WritersApart, FromWriter}
use Rattle.sgt_edges.proofs.gathered.add_before.Given as goal

-- the edges of those so far are added, each once
abbrev pub invariant-loop-w : goal.invariant-loop-w
invariant-loop-w l =
    AddsAll (λ e. Any (λ w. FromWriter l.touch l.kind l.me w e) (take l.w-index l.writers)) l.fn.edges l.edges
    × (WritersApart l.writers
    → AddsOnce (λ e. Any (λ w. FromWriter l.touch l.kind l.me w e) (take l.w-index l.writers)) l.fn.edges l.edges)
