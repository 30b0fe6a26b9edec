use Rattle.std.proofs.Common.{◌≡◌, ℕ, subst, arith}
use Rattle.sgt_history_kept.specs.Decided.{Adds, IsInRow}
use Rattle.sgt_history_kept.proofs.Rows.{row-none}
use Rattle.sgt_history_kept.proofs.plain.push_row.Goals as goal

pub loop-to-init : goal.loop-to-init
loop-to-init c = row-none c.args.asked.now c.args.from c.args.edges.now.items

pub loop-to-preserved : goal.loop-to-preserved
loop-to-preserved c = c.in_ok-push_asked.ensures c.args.edges.now.items c.loop-to.invariant

pub returns : goal.returns
returns c =
    let same : c.loop-to.to ≡ c.args.lines = omega (arith, c.loop-to-test.false, c.loop-to.auto.to-end) in
    subst (λ (n : ℕ). Adds (IsInRow c.args.asked.now c.args.from n) c.args.edges.now.items c.loop-to.edges.items) same
    c.loop-to.invariant
