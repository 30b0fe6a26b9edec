use Rattle.std.proofs.Common.{vec_len}
use Rattle.sgt_graph.proofs.components.Walk.leave.Given as goal

abbrev pub decreases-closing : goal.decreases-closing
decreases-closing l = vec_len l.self.open
