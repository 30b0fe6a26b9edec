use Rattle.std.proofs.Common.{arith}
use Rattle.sgt_service_settle.proofs.ties.add_link.Goals as goal

pub push_at-requires : goal.push_at-requires
push_at-requires c = let within = ((c.place_near.ensures c.in-Some.at).0 c.in-Some.is).within in
    omega (arith, within, c.requires.long)

pub returns : goal.returns
returns c = record { item = (c.place_near.ensures c.in-Some.at).0 c.in-Some.is; pushed = c.in_ok-push_at.ensures }
