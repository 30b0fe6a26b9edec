use Rattle.sgt_audit.proofs.SomeVerdict.{some-verdict}
use Rattle.sgt_audit.proofs.laws.texts_have_verdicts.Goals as goal

pub returns : goal.returns
returns c = some-verdict
