use Rattle.std.proofs.Common.{map}
use Rattle.std.specs.List.{range_with_len}
use Rattle.sgt_notation.specs.declared.event.Event.TheVariants.{Install}
use Rattle.sgt_serve.proofs.Ends.{Asked}
use Rattle.sgt_serve.proofs.ending.install_at.Given as goal

abbrev pub invariant-loop-number : goal.invariant-loop-number
invariant-loop-number l = Asked l.fn.core (map (Install l.tx) (range_with_len 0 l.number)) l.core
