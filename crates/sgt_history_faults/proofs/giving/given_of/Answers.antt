use Rattle.std.proofs.Common.{◌≡◌, length, arith, subst}
use Rattle.sgt_history.specs.History.{closed_of}
use Rattle.sgt_history_faults.specs.Given.{AreGivenTo}
use Rattle.sgt_history_faults.proofs.Bounds.{begin-next}
use Rattle.sgt_history_faults.proofs.giving.given_of.Goals as goal

pub loop-line-preserved : goal.loop-line-preserved
loop-line-preserved c = record {
  begin = begin-next c.args.history.now.lines.items c.loop-line.line c.index.result.now (omega arith) c.index.ensures;
  given = c.in_ok-give_line.ensures;
}

pub returns : goal.returns
returns c =
    let all : c.loop-line.line ≡ length c.args.history.now.lines.items = omega arith in
    subst (λ n. AreGivenTo (closed_of c.args.history.now) n c.loop-line.given.items) all c.loop-line.invariant.given
