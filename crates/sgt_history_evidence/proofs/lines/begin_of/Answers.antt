use Rattle.std.proofs.Common.{◌-◌, arith}
use Rattle.sgt_names.proofs.Lists.{element_at}
use Rattle.sgt_history_evidence.proofs.Cutting.{begin-before}
use Rattle.sgt_history_evidence.proofs.lines.begin_of.Goals as goal

pub returns-else-line-eq0 : goal.returns-else-line-eq0
returns-else-line-eq0 c =
    let lines = c.args.history.now.lines.items in
    begin-before lines c.args.line c.index.result.now (omega (arith, c.if-line-eq0.false))
    (element_at lines (c.args.line - 1) c.index.result.now (omega (arith, c.requires)) c.index.ensures)
