use Rattle.std.proofs.Common.{length, ap, arith, ◌∙◌}
use Rattle.sgt_explain.proofs.SeenLines.{front-is}
use Rattle.sgt_explain.proofs.shown.text_before.Goals as goal

pub returns : goal.returns
returns c = λ lines rest plain number e.
    let after = c.after_line-rest.ensures lines rest plain (omega (arith, number, c.saturating_sub.ensures)) e in
    let size = ap length after in
    let front = front-is c.args.bytes.now _ rest e in
    c.front_of.ensures (omega (arith, c.saturating_sub-2.ensures))
    ∙ front c.saturating_sub-2.result (omega (arith, size, c.saturating_sub-2.ensures))
