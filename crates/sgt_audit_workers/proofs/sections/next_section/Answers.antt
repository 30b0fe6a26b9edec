use Rattle.std.proofs.Common.{arith, subst, sym, ◌≡◌}
use Rattle.sgt_audit_workers.specs.Cut.{FailsDuly}
use Rattle.sgt_audit_workers.specs.Reads.{reader}
use Rattle.sgt_audit_workers.specs.private.Texts.{IsLeftIn, StateFails}
use Rattle.sgt_audit_workers.proofs.Left.{may-fail}
use Rattle.sgt_audit_workers.proofs.sections.next_section.Goals as goal

pub returns-in_default-clause-asked : goal.returns-in_default-clause-asked
returns-in_default-clause-asked g c first left is was =
    let old = reader (g.R.Source.tells c.args.source.now) (g.R.Source.failures c.args.source.now)
    (g.R.Source.asked c.args.source.now) in
    let now =
    reader (g.R.Source.tells c.read_piece-stop.new.reader) (g.R.Source.failures c.read_piece-stop.new.reader)
    (g.R.Source.asked c.read_piece-stop.new.reader) in
    let here = subst (IsLeftIn first c.args.text.now.lines c.args.text.now.most old left) c.requires is in
    let same : old.failures ≡ first.failures = subst (StateFails first old) c.requires was.fails in
    record {
      asks = omega (arith, was.asks, c.read_piece-stop.ensures.asks);
      once = omega (arith, c.read_piece-stop.ensures.once, same);
      fails = may-fail first old now c.args.text.now.lines.reads left c.read_piece-stop.result
          c.read_piece-stop.ensures.quiet
          (λ e. subst (λ o. FailsDuly c.args.text.now.lines.reads o old.failures now.failures old.asked now.asked)
          (sym here.0) (c.read_piece-stop.ensures.read_fault e))
          c.read_piece-stop.ensures.write_fault same was.asks here.1;
    }
