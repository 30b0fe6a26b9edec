use Rattle.std.proofs.Common.{◌≡◌, ℕ, subst, arith}
use Rattle.sgt_history_kept.specs.Decided.{Adds, IsInRows}
use Rattle.sgt_history_kept.proofs.Rows.{rows-next, rows-none}
use Rattle.sgt_history_kept.proofs.plain.push_rows.Goals as goal

pub loop-from-init : goal.loop-from-init
loop-from-init c = rows-none c.args.asked.now c.args.lines c.args.edges.now.items

pub loop-from-preserved : goal.loop-from-preserved
loop-from-preserved c =
    rows-next c.args.asked.now c.loop-from.from c.args.lines c.args.edges.now.items c.loop-from.edges.items
    c.push_row.new.edges.items c.loop-from.invariant c.in_ok-push_row.ensures

pub returns : goal.returns
returns c =
    let same : c.loop-from.from ≡ c.args.lines = omega (arith, c.loop-from-test.false, c.loop-from.auto.from-end) in
    subst (λ (n : ℕ). Adds (IsInRows c.args.asked.now n c.args.lines) c.args.edges.now.items c.loop-from.edges.items)
    same c.loop-from.invariant
