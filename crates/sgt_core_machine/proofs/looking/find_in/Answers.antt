use Rattle.std.proofs.Common.{List, subst}
use Rattle.sgt_names.specs.declared.draft.Touch.{Touch}
use Rattle.sgt_edges.proofs.Touching.{few-all}
use Rattle.sgt_core_machine.specs.private.Looked.{IsFound}
use Rattle.sgt_core_machine.proofs.looking.find_in.Goals as goal

pub returns-then-are_near : goal.returns-then-are_near
returns-then-are_near c =
    subst (λ (ts : List Touch). IsFound ts (c.args.site, c.args.item) c.find_among.result)
    (few-all c.touched.result.0.now c.touched.result.1.now _ c.touched.ensures.all
    (c.are_near.ensures c.if-are_near.true)) c.find_among.ensures
