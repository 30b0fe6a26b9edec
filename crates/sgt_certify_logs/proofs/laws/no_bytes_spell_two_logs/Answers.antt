use Rattle.sgt_certify_logs.proofs.Inserted.{logs-one}
use Rattle.sgt_certify_logs.proofs.laws.no_bytes_spell_two_logs.Goals as goal

pub returns : goal.returns
returns c = logs-one
