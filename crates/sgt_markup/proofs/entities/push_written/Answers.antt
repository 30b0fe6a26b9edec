use Rattle.sgt_markup.proofs.Clean.{written-clean}
use Rattle.sgt_markup.proofs.entities.push_written.Goals as goal

pub returns-in_err-push_byte-clause-clean : goal.returns-in_err-push_byte-clause-clean
returns-in_err-push_byte-clause-clean c = written-clean c.args.text.now

pub returns-clause-clean : goal.returns-clause-clean
returns-clause-clean c = written-clean c.args.text.now
