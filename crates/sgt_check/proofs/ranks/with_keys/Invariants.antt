use Rattle.std.specs.Prelude.{All}
use Rattle.sgt_check.specs.Key.{HasEach, IsRanked}
use Rattle.sgt_check.proofs.ranks.with_keys.Given as goal

abbrev pub invariant-loop-number : goal.invariant-loop-number
invariant-loop-number l = All (IsRanked l.names) l.ranked.items × HasEach l.ranked.items l.number
