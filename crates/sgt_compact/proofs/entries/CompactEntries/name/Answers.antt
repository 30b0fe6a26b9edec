use Rattle.std.proofs.Common.{[], ◌∷◌}
use Rattle.sgt_compact_entry.proofs.Naming.{entries-kept}
use Rattle.sgt_compact.proofs.entries.CompactEntries.name.Goals as goal

pub returns : goal.returns
returns c =
    entries-kept c.self.inside.items.items c.push.new.self.items (c.args.item ∷ []) c.self.inside.entries.items c.args.self.now
    c.self.invariant c.in_ok-push.ensures.items c.self.view_is
