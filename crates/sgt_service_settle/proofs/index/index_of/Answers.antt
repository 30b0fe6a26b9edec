use Rattle.sgt_service_settle.proofs.Linking.{whole_index}
use Rattle.sgt_service_settle.proofs.index.index_of.Goals as goal

pub returns-clause-index : goal.returns-clause-index
returns-clause-index c =
    whole_index c.args.certifier.now.history c.args.certifier.now.state.rulings _ c.in_ok-windows.ensures
    c.in_ok-commits.ensures c.history-history.ensures.is c.in_ok-sited.ensures.sited
