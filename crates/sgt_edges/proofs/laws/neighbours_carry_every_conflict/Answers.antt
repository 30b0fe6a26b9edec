use Rattle.sgt_edges.proofs.Neighbours.{neighbours-carry, neighbour-edge}
use Rattle.sgt_edges.proofs.laws.neighbours_carry_every_conflict.Goals as goal

pub returns-clause-carry : goal.returns-clause-carry
returns-clause-carry c s touched me edges site fine have = neighbours-carry s touched me edges site fine have

pub returns-clause-edges : goal.returns-clause-edges
returns-clause-edges c s touched me x from to kind far near = neighbour-edge s touched me x from to kind far near
