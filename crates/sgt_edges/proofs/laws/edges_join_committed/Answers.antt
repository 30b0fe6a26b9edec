use Rattle.sgt_edges.proofs.Joined.{joins}
use Rattle.sgt_edges.proofs.laws.edges_join_committed.Goals as goal

pub returns : goal.returns
returns c s touched me x from to kind is = joins s touched me x from to kind is
