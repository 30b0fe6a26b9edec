use Rattle.std.proofs.Common.{take}
use Rattle.std.specs.Prelude.{Any}
use Rattle.sgt_edges.specs.private.Gathered.{AddsAll, AddsOnce, WritersApart, ToWriter}
use Rattle.sgt_edges.proofs.gathered.add_after.Given as goal

-- the edges of those so far are added, each once
abbrev pub invariant-loop-w : goal.invariant-loop-w
invariant-loop-w l =
    AddsAll (λ e. Any (λ w. ToWriter l.touch l.me w e) (take l.w-index l.writers)) l.fn.edges l.edges
    × (WritersApart l.writers
    → AddsOnce (λ e. Any (λ w. ToWriter l.touch l.me w e) (take l.w-index l.writers)) l.fn.edges l.edges)
