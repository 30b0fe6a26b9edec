use Rattle.sgt_service_settle.proofs.Placing.{placed}
use Rattle.sgt_service_settle.proofs.acts.place_near.Goals as goal

pub returns-then-here : goal.returns-then-here
returns-then-here c at =
    placed c.args.items.now c.args.item c.args.near at c.requires (c.is_at-here.ensures c.if-here.true)

pub returns-then-behind : goal.returns-then-behind
returns-then-behind c at = placed c.args.items.now c.args.item c.saturating_add-next.result at c.requires
    (c.is_at-behind.ensures c.if-behind.true)
