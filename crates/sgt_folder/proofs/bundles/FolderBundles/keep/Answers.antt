use Rattle.std.proofs.Common.{◌+◌}
use Rattle.sgt_folder.proofs.Kept.{keeps_memory, refusals_grow}
use Rattle.sgt_folder.proofs.bundles.FolderBundles.keep.Goals as goal

pub returns-else-is_ok-clause-memory : goal.returns-else-is_ok-clause-memory
returns-else-is_ok-clause-memory g c = λ e.
    let k = c.keep_under-kept.ensures in
    refusals_grow _ _ k.0 k.2 (keeps_memory (c.args.self.now.last + 1) c.args.text.now k.0 _ k.1 e)
