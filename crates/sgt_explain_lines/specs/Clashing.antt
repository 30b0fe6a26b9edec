-- Two entries in no conflict.
use Rattle.sgt_names.specs.Name.{Name}
use Rattle.sgt_names.specs.Entry.{Clash}
use Rattle.sgt_names.specs.declared.entry.Entry.{Entry}
use Rattle.sgt_names.specs.declared.entry.Kind.{Kind}

-- the second entry is in no conflict with the first on the item, of whatever kind
abbrev pub InNoConflict : Name → Entry → Entry → Type 0
InNoConflict x e f = (kind : Kind) → Clash kind x e f → ⊥
