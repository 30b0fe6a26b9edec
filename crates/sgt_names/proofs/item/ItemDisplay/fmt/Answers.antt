use Rattle.std.proofs.Common.{sym, subst}
use Rattle.std.specs.Str.{IsUtf8}
use Rattle.sgt_names.proofs.Stored.{name-utf8}
use Rattle.sgt_names.proofs.item.ItemDisplay.fmt.Goals as goal

pub unreachable-requires : goal.unreachable-requires
unreachable-requires g c =
    c.in-Err.ensures.cases.0
    (subst IsUtf8 (sym c.as_bytes.ensures.bytes) (name-utf8 c.args.self.now c.as_bytes.ensures.name))
