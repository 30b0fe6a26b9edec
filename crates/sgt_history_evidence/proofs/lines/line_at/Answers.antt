use Rattle.std.proofs.Common.{◌≤◌, subst, sym}
use Rattle.sgt_names.proofs.Lists.{element_at}
use Rattle.sgt_history_faults.proofs.Bounds.{begin-most}
use Rattle.sgt_history_evidence.proofs.lines.line_at.Goals as goal

pub returns-clause-begin : goal.returns-clause-begin
returns-clause-begin c =
    let lines = c.args.history.now.lines.items in
    let low = begin-most lines c.args.line c.index.result.now c.args.history.now.rising
    (element_at lines c.args.line c.index.result.now c.requires.line c.index.ensures) in
    subst (λ n. n ≤ c.index.result.now.end) (sym c.requires.begin) low
