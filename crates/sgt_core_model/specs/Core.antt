-- The state of the core: the logs of its sites, the certifier, what the active transactions mean to
-- change, and the open step.
use Rattle.std.specs.Prelude.{◌≡◌, ◌⊎◌, ℕ, List, [], ◌∷◌, ◌++◌, length, map, Bool, true, false, ◌==◌, ◌||◌, Contains, Option, Some, None, if◌then◌else◌, unwrap_or, option_map, filter, find, slice_get}
use Rattle.std.specs.List.{list_any, list_all, range_with_len, enumerate_from, filter_map}
use Rattle.std.specs.Ordering.{nat_cmp, is_lt}
use Rattle.std.specs.Cmp.Lexicographic.{slice_cmp}
use Rattle.std.specs.Str.{bytes_eq}
use Rattle.sgt_names.specs.Name.{Name}
use Rattle.sgt_names.specs.Entry.{tx_of}
use Rattle.sgt_names.specs.Log.{value_at, value_with_any, Conflicts}
use Rattle.sgt_names.specs.declared.entry.Change.{Change}
use Rattle.sgt_names.specs.declared.entry.Entry.{Entry}
use Rattle.sgt_names.specs.declared.entry.Entry.TheVariants.{Read}
use Rattle.sgt_names.specs.declared.entry.Holding.{Holding}
use Rattle.sgt_site.specs.State.{change_entry, commit_block, refuse_block, withdraw_block}
use Rattle.sgt_bundle.specs.Parts.{Parts}
use Rattle.sgt_bundle.specs.declared.bundle.SiteLog.{SiteLog}
use Rattle.sgt_certifier.specs.Certifier.{State, Arc, opening, with_install, with_finished, certificate_of}

-- the step of a transaction, and the sites at which it is gathered
pub record OpenStep : Type 0 where
  pub tx : ℕ
  pub gathered : List ℕ

pub record CoreState : Type 0 where
  -- the items of each site, with their initial values
  pub items : List (List Holding)
  -- the entries of each site's log
  pub entries : ℕ → List Entry
  pub certifier : State
  -- what each transaction means to change at each site, by rising name
  pub changes : ℕ → ℕ → List (Name × Change)
  -- the open step, and the block that each site still gets of it once it is decided
  pub step : Option OpenStep
  pub due : ℕ → List Entry

-- sites with these items, and nothing has happened yet
abbrev pub fresh : List (List Holding) → CoreState
fresh items =
    record {
      items = items;
      entries = λ s. [];
      certifier = opening;
      changes = λ tx s. [];
      step = None;
      due = λ s. [];
    }

-- the numbers of the sites
abbrev pub sites_of : CoreState → List ℕ
sites_of c = range_with_len 0 (length c.items)

-- the items of a site. Where there is no site, there are none
abbrev pub items_in : Option (List Holding) → List Holding
items_in None = []
items_in (Some items) = items

abbrev pub items_at : CoreState → ℕ → List Holding
items_at c s = items_in (slice_get c.items s)

-- ---- private changes

-- the first name comes before the second, by their bytes
abbrev pub comes_before : Name → Name → Bool
comes_before x y = is_lt (slice_cmp nat_cmp x y)

-- what is meant to be done to the item
abbrev pub change_in : List (Name × Change) → Name → Option Change
change_in cs x =
    option_map (λ (d : Name × Change). d.1) (find (λ (d : Name × Change). bytes_eq d.0 x) cs)

-- the change at its place by name, in the stead of an earlier one of its item
abbrev pub put_in : Name × Change → List (Name × Change) → List (Name × Change)
put_in d cs =
    filter (λ (f : Name × Change). comes_before f.0 d.0) cs ++ d
    ∷ filter (λ (f : Name × Change). comes_before d.0 f.0) cs

-- ---- at one place

-- the function with another value at one place
abbrev pub changed_at : {A : Type 0} → ℕ → A → (ℕ → A) → ℕ → A
changed_at k a f n = if n == k then a else f n

-- these entries at one site, none elsewhere
abbrev pub only_at : ℕ → List Entry → ℕ → List Entry
only_at k es n = if n == k then es else []

-- these entries are added to the logs
abbrev pub with_entries : CoreState → (ℕ → List Entry) → CoreState
with_entries c more = record c { entries = λ s. c.entries s ++ more s }

-- the private change is kept
abbrev pub with_change : CoreState → ℕ → ℕ → Name → Change → CoreState
with_change c tx s x change =
    record c { changes = changed_at tx (changed_at s (put_in (x, change) (c.changes tx s)) (c.changes tx)) c.changes }

-- ---- what a transaction finds and touches

-- the value that the entry read of the item, if it is a read of the transaction
abbrev pub read_of : ℕ → Name → Entry → Option ℕ
read_of tx x (Read i y v) = if i == tx then (if bytes_eq y x then Some v else None) else None
read_of tx x _ = None

-- the value that the transaction has read of the item, if it has
abbrev pub seen : CoreState → ℕ → ℕ → Name → Option ℕ
seen c tx s x = slice_get (filter_map (read_of tx x) (c.entries s)) 0

-- what the transaction finds without the site: its private write, or else what it read with its
-- private increment behind it
abbrev pub look : CoreState → ℕ → ℕ → Name → Option ℕ
look c tx s x = value_with_any (seen c tx s x) (change_in (c.changes tx s) x)

abbrev pub is_some_change : List (Name × Change) → Bool
is_some_change [] = false
is_some_change (d ∷ ds) = true

-- the transaction has read at the site, or means to change an item there
abbrev pub touches : CoreState → ℕ → ℕ → Bool
touches c tx s = list_any (λ e. tx_of e == tx) (c.entries s) || is_some_change (c.changes tx s)

-- the sites that it touches, rising
abbrev pub touched : CoreState → ℕ → List ℕ
touched c tx = filter (touches c tx) (sites_of c)

-- ---- edges

-- private changes as the entries that they would be
abbrev pub as_changes : ℕ → List (Name × Change) → List Entry
as_changes tx cs = map (λ (d : Name × Change). change_entry tx d.0 d.1) cs

-- the log of the site, followed by what i means to change there
abbrev pub followed : CoreState → ℕ → ℕ → List Entry
followed c i s = c.entries s ++ as_changes i (c.changes i s)

-- a labelled edge of i: a conflict of i with a committed transaction, in the log of the site
-- followed by i's private changes.
-- (The committed ones are those of this window: an edge from an older one is left out, and none
-- leads back to one.)
pub record IsEdgeOf (c : CoreState) (i : ℕ) (arc : Arc) : Type 0 where
  pub ends : ((arc.from ≡ i) × Contains c.certifier.order arc.to)
      ⊎ ((arc.to ≡ i) × Contains c.certifier.order arc.from)
  pub conflict : Conflicts
      (followed c i arc.label.site) arc.label.kind arc.label.item arc.from arc.to

-- the list has just the edges of i
abbrev pub AreEdges : CoreState → ℕ → List Arc → Type 0
AreEdges c i arcs = (arc : Arc)
    → (Contains arcs arc → IsEdgeOf c i arc) × (IsEdgeOf c i arc → Contains arcs arc)

-- ---- blocks

-- the blocks that i gets at a site when it ends: none where it touches nothing
abbrev pub committed_block : CoreState → ℕ → ℕ → List Entry
committed_block c i s = if touches c i s then commit_block i (c.changes i s) else []

abbrev pub refused_block : CoreState → ℕ → ℕ → List Entry
refused_block c i s = if touches c i s then refuse_block i (c.changes i s) else []

abbrev pub withdrawn_block : CoreState → ℕ → ℕ → List Entry
withdrawn_block c i s = if touches c i s then withdraw_block i else []

abbrev pub is_empty : List Entry → Bool
is_empty [] = true
is_empty (e ∷ es) = false

-- no block of the open step is still due
abbrev pub is_written : CoreState → Bool
is_written c = list_all (λ s. is_empty (c.due s)) (sites_of c)

-- the step of i is closed, and i with it, if no block is still due
abbrev pub closed_if_written : CoreState → ℕ → CoreState
closed_if_written c i = if is_written c then record c {
  certifier = with_finished c.certifier i;
  step = None;
  due =
      λ s. [];
} else c

-- i was decided: the certifier is this one now, and these blocks are due
abbrev pub decided : CoreState → ℕ → State → (ℕ → List Entry) → CoreState
decided c i certifier due = closed_if_written (record c { certifier = certifier; due = due }) i

-- i is committed in this window
abbrev pub is_committed : CoreState → ℕ → Bool
is_committed c i = list_any (λ t. t == i) c.certifier.order

-- the install of i at the site is noted, with the items that it changes there, if i is committed
abbrev pub noted : CoreState → ℕ → ℕ → State
noted c i s = if is_committed c i then with_install c.certifier i s (map (λ (d : Name × Change). d.0) (c.changes i s))
    else c.certifier

-- the block due at the site is written
abbrev pub installed : CoreState → ℕ → ℕ → CoreState
installed c i s =
    closed_if_written
    (record (with_entries c (only_at s (c.due s))) {
      certifier = noted c i s;
      due = changed_at s [] c.due;
    }) i

-- ---- the bundle

-- the items with their values at the end of the log
abbrev pub finals_of : List Holding → List Entry → List Holding
finals_of items entries =
    map (λ h. record { item = h.item; value = unwrap_or (value_at items entries h.item) 0 }) items

abbrev pub site_log : List Holding → List Entry → SiteLog
site_log items entries =
    record { items = items; entries = entries; finals = finals_of items entries }

-- the logs with the certificate
abbrev pub bundle_of : CoreState → Parts
bundle_of c = record {
  certificate = certificate_of c.certifier (length c.items);
  sites = map (λ p. site_log p.1 (c.entries p.0)) (enumerate_from 0 c.items);
}
