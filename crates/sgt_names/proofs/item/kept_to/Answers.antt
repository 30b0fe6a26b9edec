use Rattle.sgt_names.proofs.Kept.{sixteen_kept}
use Rattle.sgt_names.proofs.item.kept_to.Goals as goal

pub returns : goal.returns
returns c = sixteen_kept c.args.len c.args.bytes.now c.told-bytes
