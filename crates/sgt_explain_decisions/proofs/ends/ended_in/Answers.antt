use Rattle.std.proofs.Common.{arith}
use Rattle.std.proofs.lemmas.List.Sorted.{All-permutation}
use Rattle.sgt_names.proofs.Lists.{element_at}
use Rattle.sgt_names.proofs.Places.{Contains-from_at}
use Rattle.sgt_explain_decisions.specs.Ends.{HasEnd}
use Rattle.sgt_explain_decisions.proofs.ends.ended_in.Goals as goal

pub loop-logged-preserved : goal.loop-logged-preserved
loop-logged-preserved c =
    let entries = c.args.entries.now in
    let i = c.loop-logged.logged-index in
    let l = c.logged-item.result in
    c.in_ok-add_end.ensures entries
    (Contains-from_at entries i l (element_at entries i l (omega arith) c.logged-item.is)) c.loop-logged.invariant

pub returns : goal.returns
returns c =
    All-permutation (HasEnd c.args.entries.now) c.loop-logged.ended.items c.sort.new.self.items
    c.in_ok-sort.ensures.permutation c.loop-logged.invariant
