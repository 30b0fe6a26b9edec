use mathlib.Core.Bool.{false≢true}
use Rattle.std.proofs.Common.{sym, ◌∙◌}
use Rattle.sgt_order.proofs.search.closing_if.Goals as goal

pub returns-else-any-clause-none : goal.returns-else-any-clause-none
returns-else-any-clause-none c =
    λ n e at to marked. absurd (false≢true (sym c.if-any.false ∙ c.requires.any e.from.index marked))
