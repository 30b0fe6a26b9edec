-- What the laws of runs say of the items, the logs and the replies.
use Rattle.std.specs.Prelude.{◌≡◌, ◌↔◌, ◌==◌, ℕ, ◌≤◌, List, [], length, map, All, Contains, Option, Some, None, if◌then◌else◌}
use Rattle.std.specs.List.{filter_map}
use Rattle.sgt_names.specs.Limits.{max_sites}
use Rattle.sgt_names.specs.Name.{Name}
use Rattle.sgt_names.specs.Log.{Conflicts}
use Rattle.sgt_names.specs.declared.entry.Entry.{Entry}
use Rattle.sgt_names.specs.declared.entry.Entry.TheVariants.{Write, Add, Commit}
use Rattle.sgt_names.specs.declared.entry.Holding.{Holding}
use Rattle.sgt_names.specs.declared.entry.Kind.{Kind}
use Rattle.sgt_site.specs.State.{AreItems}
use Rattle.sgt_certifier.specs.Certifier.{Arc, Install, Ruling, committed, refused, withdrawn}
use Rattle.sgt_core_model.specs.Core.{CoreState}
use Rattle.sgt_core_model.specs.declared.reply.Reply.{Reply}
use Rattle.sgt_core_model.specs.declared.reply.Reply.TheVariants.{Fault}
use Rattle.sgt_core_model.specs.declared.reply.CoreFault.TheVariants as fault

-- an entry of a precedes and conflicts with one of b, in the log of some site
abbrev pub IsLoggedConflict : (ℕ → List Entry) → ℕ → ℕ → Type 0
IsLoggedConflict logs a b = (s : ℕ) × (kind : Kind) × (x : Name) × Conflicts (logs s) kind x a b

-- the item that the entry writes or adds to, if the entry is the transaction's
abbrev pub changed_item : ℕ → Entry → Option Name
changed_item tx (Write i x v) = if i == tx then Some x else None
changed_item tx (Add i x v) = if i == tx then Some x else None
changed_item tx _ = None

-- the items that the transaction changes in these entries, in their order
abbrev pub changed_by : ℕ → List Entry → List Name
changed_by tx entries = filter_map (changed_item tx) entries

-- the commit of the install's transaction stands in the log of its site, and its items are those
-- that the transaction changes there
pub record IsLoggedInstall (logs : ℕ → List Entry) (install : Install) : Type 0 where
  pub logged : Contains (logs install.site) (Commit install.tx)
  pub items : install.items ≡ changed_by install.tx (logs install.site)

-- the reply is no refusal
abbrev pub IsAnswer : Reply → Type 0
IsAnswer (Fault f) = ⊥
IsAnswer _ = Unit {0}

-- the reply is want of memory
abbrev pub IsMemory : Reply → Type 0
IsMemory (Fault fault.Memory) = Unit {0}
IsMemory _ = ⊥

-- the items that the core may be made of: those of one site at least, and of at most so many, each
-- with its items by rising name
pub record AreSites (items : List (List Holding)) : Type 0 where
  pub some : 1 ≤ length items
  pub few : length items ≤ max_sites
  pub each : All AreItems items

-- the decision, without the walk that a refusal shows
abbrev pub without_walk : Ruling → Ruling
without_walk (committed tx) = committed tx
without_walk (refused tx walk) = refused tx []
without_walk (withdrawn tx) = withdrawn tx

-- the two states have the same edges in some order, and the same decisions but for the walks of
-- refusals; nothing else differs
pub record AreAlike (c d : CoreState) : Type 0 where
  pub same : d ≡ record c { certifier = d.certifier }
  pub certifier : d.certifier
      ≡ record c.certifier { arcs = d.certifier.arcs; rulings = d.certifier.rulings }
  pub edges : (arc : Arc) → Contains c.certifier.arcs arc ↔ Contains d.certifier.arcs arc
  pub rulings : map without_walk c.certifier.rulings ≡ map without_walk d.certifier.rulings
