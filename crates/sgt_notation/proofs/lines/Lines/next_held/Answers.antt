use Rattle.std.proofs.Common.{List, ℕ, ◌≤◌, length, take, ap, sym, subst, ◌∙◌, arith}
use Rattle.sgt_notation.specs.Spelling.{line_text}
use Rattle.sgt_notation.proofs.Fronts.{passed-next}
use Rattle.sgt_notation.proofs.Short.{line-no_lf, line-short}
use Rattle.sgt_notation.proofs.lines.Lines.next_held.Goals as goal

pub returns-clause-some : goal.returns-clause-some
returns-clause-some c = λ limit told failures wide.
    let line = c.in_ok-line.line in
    let n = c.in_ok-line.n in
    let found = c.in_ok-line.ensures in
    let short = line-short line found.0 in
    let within : n ≤ length c.args.self.now.held = subst (λ (h : List ℕ). n ≤ length h) c.held.ensures found.1 in
    let front = ap (take n) (sym c.held.ensures) ∙ found.2 in (
      found.0,
      rw c.pass.ensures (passed-next limit n c.args.self.now told failures (line_text line)
          (line-no_lf line found.0) (omega arith) within front),
    )
