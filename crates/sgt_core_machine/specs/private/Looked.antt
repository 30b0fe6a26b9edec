-- What a transaction finds of an item in its draft, and why it isn't read at its site.
use Rattle.std.specs.Prelude.{◌≡◌, ◌⊎◌, ℕ, List, Option, Some, None, option_and_then, slice_get}
use Rattle.sgt_names.specs.Name.{Name}
use Rattle.sgt_names.specs.Draft.{Place as Spot, look_of, touched_at}
use Rattle.sgt_names.specs.declared.draft.Touch.{Touch}
use Rattle.sgt_site.specs.Refused.{IsHere}
use Rattle.sgt_site.specs.declared.fault.SiteFault.{SiteFault}
use Rattle.sgt_site.specs.declared.fault.SiteFault.TheVariants as site_fault
use Rattle.sgt_core_model.specs.declared.reply.CoreFault.{CoreFault}
use Rattle.sgt_core_model.specs.declared.reply.CoreFault.TheVariants as core_fault
use Rattle.sgt_core_machine.specs.declared.machine.Place.{Place}
use Rattle.sgt_core_machine.specs.declared.looking.Found.{Found}
use Rattle.sgt_core_machine.specs.declared.looking.Found.TheVariants.{Value, Nothing, NoValue}

-- this is found of an item that is touched so, or isn't
abbrev pub IsFoundOf : Option Touch → Found → Type 0
IsFoundOf touch (Value v) = option_and_then look_of touch ≡ Some v
IsFoundOf touch Nothing = touch ≡ None
IsFoundOf touch NoValue = option_and_then look_of touch ≡ None

-- this is found of the item at a place, where these are touched
abbrev pub IsFound : List Touch → Spot → Found → Type 0
IsFound touched p found = IsFoundOf (touched_at touched p) found

-- the item is at the site of this number
abbrev pub IsItemAt : List Place → ℕ → Name → Type 0
IsItemAt places s x = (p : Place) × (slice_get places s ≡ Some p) × IsHere p.site x

-- why an item isn't read: for want of memory where it is known, or because it isn't
abbrev pub IsWhy : Type 0 → CoreFault → Type 0
IsWhy Known f = ((f ≡ core_fault.Memory) × Known) ⊎ ((f ≡ core_fault.UnknownItem) × (Known → ⊥))

-- what a site may answer to a read of an item that it may give where it has it, and how the core
-- tells it
abbrev pub IsOfRead : SiteFault → Type 0
IsOfRead site_fault.UnknownItem = Unit {0}
IsOfRead site_fault.Memory = Unit {0}
IsOfRead _ = ⊥

abbrev pub read_fault : SiteFault → CoreFault
read_fault site_fault.Memory = core_fault.Memory
read_fault _ = core_fault.UnknownItem
