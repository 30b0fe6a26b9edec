use Rattle.std.proofs.Common.{◌≡◌, map}
use Rattle.sgt_input.proofs.sites.items_of.Given as goal

abbrev pub invariant-loop-site : goal.invariant-loop-site
invariant-loop-site l = l.items.items ≡ map (λ s. s.items) l.yielded
