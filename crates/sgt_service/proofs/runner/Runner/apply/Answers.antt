use Rattle.std.proofs.Common.{rules}
use Rattle.sgt_service.proofs.Telling.{read_refuses}
use Rattle.sgt_service.proofs.runner.Runner.apply.Goals as goal

pub returns-in_err-value-in-Read-clause-refused : goal.returns-in_err-value-in-Read-clause-refused
returns-in_err-value-in-Read-clause-refused g c =
    rw c.in-Read.is (read_refuses c.args.self.now.service.now.names.items c.args.active.now.tx
    c.args.active.now.draft.touched c.in-Read.site c.in-Read.item c.from_residual-in_err-value-in-Read.result
    (search rules))
