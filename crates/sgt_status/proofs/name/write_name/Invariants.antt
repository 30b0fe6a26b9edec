use Rattle.std.specs.Fmt.{HasWritten, IsPlainFormatter}
use Rattle.sgt_status.specs.Shown.{shown}
use Rattle.sgt_status.proofs.name.write_name.Given as goal

abbrev pub invariant-loop-letter : goal.invariant-loop-letter
invariant-loop-letter g l =
    IsPlainFormatter l.fn.f → HasWritten g.W.Write.write_str_gives l.fn.f (shown l.yielded) l.f
