use Rattle.std.proofs.Common.{◌++◌, List, length, map, ap, arith}
use Rattle.std.proofs.lemmas.Grind.{common_steps}
use Rattle.sgt_notation.specs.Spelling.{line_text, text_of_lines}
use Rattle.sgt_bundle.specs.Text.{sections_from}
use Rattle.sgt_core_machine.specs.declared.records.SiteRecord.{SiteRecord}
use Rattle.sgt_core_machine.specs.private.Records.{logs_in}
use Rattle.sgt_core_machine.proofs.records.push_records.Goals as goal

pub loop-kept-init : goal.loop-kept-init
loop-kept-init c =
    let same = c.into_iter-kept-iterator.ensures.into_iter_gives.0 in
    record {
      few = omega (arith, c.requires, ap (λ (rs : List SiteRecord). length rs) same);
      text = ap (λ (rs : List SiteRecord). c.args.out.now.items ++ text_of_lines
          (map line_text (sections_from 0 (logs_in rs)))) same;
    }

pub loop-kept-preserved : goal.loop-kept-preserved
loop-kept-preserved c = record {
  few = grind (arith, common_steps);
  text = grind (arith, common_steps);
}
