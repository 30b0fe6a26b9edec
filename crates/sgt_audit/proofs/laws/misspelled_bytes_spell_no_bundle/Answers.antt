use Rattle.sgt_audit.proofs.Misspelled.{misspelled-none, none-misspelled}
use Rattle.sgt_audit.proofs.laws.misspelled_bytes_spell_no_bundle.Goals as goal

pub returns-clause-sound : goal.returns-clause-sound
returns-clause-sound c = misspelled-none

pub returns-clause-complete : goal.returns-clause-complete
returns-clause-complete c = none-misspelled
