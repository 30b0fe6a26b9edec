use Rattle.std.proofs.Common.{Err, ap, arith, refl, subst, sym, ◌≡◌}
use Rattle.sgt_names.specs.declared.outcome.EngineFail.{EngineFail}
use Rattle.sgt_names.specs.declared.outcome.EngineFail.TheVariants.{ReadFault}
use Rattle.sgt_audit_workers.specs.Cut.{FailsDuly}
use Rattle.sgt_audit_workers.specs.Reads.{reader}
use Rattle.sgt_audit_workers.specs.private.Texts.{IsLeftIn, StateFails}
use Rattle.sgt_audit_workers.proofs.Left.{due-of, err-inj}
use Rattle.sgt_audit_workers.proofs.sections.read_line.Goals as goal

pub returns-in-Err-clause-asked : goal.returns-in-Err-clause-asked
returns-in-Err-clause-asked g c first left is was =
    let old = reader (g.R.Source.tells c.args.source.now) (g.R.Source.failures c.args.source.now)
    (g.R.Source.asked c.args.source.now) in
    let now = reader (g.R.Source.tells c.next_line.new.reader) (g.R.Source.failures c.next_line.new.reader)
    (g.R.Source.asked c.next_line.new.reader) in
    let here = subst (IsLeftIn first c.args.text.now.lines c.args.text.now.most old left) c.requires is in
    let same : old.failures ≡ first.failures = subst (StateFails first old) c.requires was.fails in
    record {
      asks = omega (arith, was.asks, c.next_line.ensures.asks);
      once = omega (arith, c.next_line.ensures.once, same);
      fails = due-of first old now c.args.text.now.lines.reads left c.in-Err.e
          (λ another. c.in-Err.ensures.quiet (λ e. another (err-inj c.in-Err.e ReadFault _ _ refl refl e)))
          (λ e. subst (λ o. FailsDuly c.args.text.now.lines.reads o old.failures now.failures old.asked now.asked)
          (sym here.0) (c.in-Err.ensures.read_fault (ap (λ (f : EngineFail). Err f) e)))
          (λ e. c.in-Err.ensures.write_fault (ap (λ (f : EngineFail). Err f) e)) same was.asks here.1;
    }
