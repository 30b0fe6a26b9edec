use Rattle.sgt_bundle.proofs.Order.{by_rank-length, by_rank-at, rank-is_place}
use Rattle.sgt_bundle.proofs.laws.serial_order_is_by_rank.Goals as goal

pub returns-clause-length : goal.returns-clause-length
returns-clause-length c = by_rank-length

pub returns-clause-place : goal.returns-clause-place
returns-clause-place c = by_rank-at

pub returns-clause-ranked : goal.returns-clause-ranked
returns-clause-ranked c = rank-is_place
