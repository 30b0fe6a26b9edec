use Rattle.sgt_bundle.proofs.OneText.{bundle-one}
use Rattle.sgt_bundle.proofs.laws.no_bytes_spell_two_bundles.Goals as goal

pub returns : goal.returns
returns c = bundle-one
