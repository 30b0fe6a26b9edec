use Rattle.std.proofs.Common.{◌∙◌, ◌++◌, ◌∷◌, [], ap, arith, length, length-append}
use Rattle.std.specs.Prelude.{slice_get}
use Rattle.sgt_certifier.specs.Counted.{or_nothing}
use Rattle.sgt_certifier.proofs.Counting.{row-pushed}
use Rattle.sgt_certifier.proofs.counts.Counts.open.Goals as goal

pub loop-row-preserved : goal.loop-row-preserved
loop-row-preserved c =
    let rows = c.loop-row.self.rows.items in
    let pushed = c.in_ok-push.ensures.items ∙ ap (λ row. rows ++ row ∷ []) c.new.ensures in
    record {
      same = λ s. ap (λ rs. or_nothing (slice_get rs s)) pushed ∙ row-pushed rows s ∙ c.loop-row.invariant.same s;
      long = let more = ap length pushed in let split = length-append rows ([] ∷ []) in
          omega (arith, more, split, c.loop-row.invariant.long);
      more = omega (arith, c.loop-row.invariant.more);
    }
