use Rattle.std.proofs.Common.{subst, sym}
use Rattle.sgt_names.specs.Limits.{max_line}
use Rattle.sgt_notation.specs.Lines.{IsLongerThan}
use Rattle.sgt_serve.proofs.talking.go_on.Goals as goal

pub stop_long-requires : goal.stop_long-requires
stop_long-requires g c = subst (IsLongerThan max_line) (sym c.held.ensures) c.in-TooLong.ensures
