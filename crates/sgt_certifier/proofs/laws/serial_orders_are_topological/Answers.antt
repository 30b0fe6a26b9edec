use Rattle.sgt_certifier.proofs.Windows.{hands_topological, hands_acyclic}
use Rattle.sgt_certifier.proofs.laws.serial_orders_are_topological.Goals as goal

pub returns-clause-topological : goal.returns-clause-topological
returns-clause-topological c history s r = hands_topological history s r

pub returns-clause-acyclic : goal.returns-clause-acyclic
returns-clause-acyclic c history s r = hands_acyclic history s r
