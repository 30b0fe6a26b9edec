use Rattle.std.proofs.Common.{List, arith, subst}
use Rattle.sgt_names.proofs.Lists.{element_at}
use Rattle.sgt_names.specs.Draft.{Touches}
use Rattle.sgt_names.specs.declared.draft.Touch.{Touch}
use Rattle.sgt_step.specs.private.Flags.{Marks}
use Rattle.sgt_step.proofs.Flags.{parts_all, parts_each, parts_hit, parts_kept}
use Rattle.sgt_step.proofs.touched.mark_parts.Goals as goal

pub loop-part-preserved : goal.loop-part-preserved
loop-part-preserved c =
    let ps = c.args.parts.now in
    let n = c.loop-part.part-index in
    let p = c.part-item.result in
    let flags = c.loop-part.flags in
    let new = c.mark_all.new.flags in
    let at = element_at ps n p c.loop-part-test.true c.part-item.is in
    let marks =
    subst (λ (ts : List Touch). Marks flags new (Touches ts)) c.touched.ensures.all c.mark_all.ensures.marks in
    record {
      long = c.mark_all.ensures.long;
      hit = parts_hit c.args.flags.now flags new ps n p at marks c.loop-part.invariant.hit;
      kept = parts_kept c.args.flags.now flags new ps n p at marks c.loop-part.invariant.kept;
      each = parts_each c.args.flags.now flags new ps n p at marks c.loop-part.invariant.each;
    }

pub returns : goal.returns
returns c = parts_all c.args.flags.now c.loop-part.flags c.args.parts.now c.loop-part.part-index
    (omega arith) c.loop-part.invariant.hit c.loop-part.invariant.kept c.loop-part.invariant.each

pub mark_all-requires-clause-long : goal.mark_all-requires-clause-long
mark_all-requires-clause-long c = c.loop-part.invariant.long
