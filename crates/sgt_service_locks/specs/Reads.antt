-- What a read answers and keeps.
use Rattle.std.specs.Prelude.{◌≡◌, ℕ, List, [], ◌∷◌, ◌++◌, Option, Some, option_and_then}
use Rattle.sgt_names.specs.Name.{Name}
use Rattle.sgt_names.specs.Log.{value_at}
use Rattle.sgt_names.specs.declared.entry.Entry.TheVariants as entry
use Rattle.sgt_site.specs.State.{SiteState, version_at}
use Rattle.sgt_names.specs.Draft.{look_of, touched_at, change_at, ChangesOnly}
use Rattle.sgt_names.specs.declared.draft.Seen.{Seen}
use Rattle.sgt_names.specs.declared.draft.Touch.{Touch}
use Rattle.sgt_service_locks.specs.declared.active.Active.{Active}

-- what a transaction with this draft sees of an item without reading it at its site
abbrev pub look_in : List Touch → ℕ → Name → Option ℕ
look_in touched site x = option_and_then look_of (touched_at touched (site, x))

-- a draft has gained a read of the item alone
abbrev pub GainsRead : ℕ → Name → List Touch → List Touch → Type 0
GainsRead s x old new = (seen : Seen) × ChangesOnly old new (record {
  site = s;
  item = x;
  seen = Some seen;
  change = change_at old (s, x);
})

-- the same transaction, under its handle
abbrev pub IsOfActive : Active → Active → Type 0
IsOfActive old new = (new.tx ≡ old.tx) × (new.handle ≡ old.handle)

-- and its draft as it was
abbrev pub SameActive : Active → Active → Type 0
SameActive old new = IsOfActive old new × (new.draft.touched ≡ old.draft.touched)

-- a transaction has read the item at the site of this number, which logged this read for it; its
-- draft keeps the value and the version that the item had there,
-- and is as it was elsewhere
pub record ReadsAt (here : ℕ) (x : Name) (old new : Active) (before after : SiteState) : Type 0 where
  pub number : before.number ≡ here
  pub same : IsOfActive old new
  pub seen : Seen
  pub value : value_at before.items before.entries x ≡ Some seen.value
  pub version : seen.version ≡ version_at before.entries x
  pub logged : after
      ≡ record before { entries = before.entries ++ entry.Read old.tx x seen.value ∷ [] }
  pub kept : ChangesOnly old.draft.touched new.draft.touched (record {
    site = here;
    item = x;
    seen = Some seen;
    change = change_at old.draft.touched (here, x);
  })
