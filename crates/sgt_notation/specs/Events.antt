-- How the lines of a replay are spelled: the sites that it starts from, and its events.
use Rattle.std.specs.Prelude.{◌≡◌, ℕ, ◌<◌, ◌≤◌, List, [], ◌∷◌, ◌++◌, length, map, codes, decimal, All, Result, Ok, Err}
use Rattle.std.specs.List.{join_with_byte}
use Rattle.std.specs.Ordering.{nat_cmp}
use Rattle.std.specs.Cmp.Lexicographic.{slice_cmp}
use Rattle.sgt_names.specs.Limits.{max_items}
use Rattle.sgt_names.specs.Name.{Name, IsName}
use Rattle.sgt_names.specs.Ordered.{IsRisingBy}
use Rattle.sgt_notation.specs.Reading.{Refuses, SpellsNone}
use Rattle.sgt_notation.specs.Spelling.{assignment, IsHolding, IsSite, IsTx, IsValue}
use Rattle.sgt_notation.specs.declared.event.Event.TheVariants.{Begin, Read, Put, Add, Gather, Decide, Install, Commit, Withdraw, Close}
use Rattle.sgt_notation.specs.declared.event.EventLine.{EventLine}
use Rattle.sgt_notation.specs.declared.event.EventLine.TheVariants.{One, ToDecide}
use Rattle.sgt_notation.specs.declared.event.SiteLine.{SiteLine}
use Rattle.sgt_notation.specs.declared.fault.NotationFault.{NotationFault}
use Rattle.sgt_notation.specs.declared.fault.NotationFault.TheVariants.{Memory}

-- ---- events

-- an item at a site
abbrev pub place : ℕ → Name → List ℕ
place s x = decimal s ++ (codes "." ++ x)

-- a transaction at an item of a site
abbrev pub access : ℕ → ℕ → Name → List ℕ
access tx s x = decimal tx ++ (codes "[" ++ place s x ++ codes "]")

-- the same, with a value for the item
abbrev pub update : ℕ → ℕ → Name → ℕ → List ℕ
update tx s x v = access tx s x ++ (codes "=" ++ decimal v)

-- a transaction at a site
abbrev pub visit : ℕ → ℕ → List ℕ
visit tx s = decimal tx ++ (codes "@" ++ decimal s)

-- the line of an event (of one that has none, no bytes)
abbrev pub event_text : EventLine → List ℕ
event_text (One Begin) = codes "b"
event_text (One (Read tx s x)) = codes "r" ++ access tx s x
event_text (One (Put tx s x v)) = codes "w" ++ update tx s x v
event_text (One (Add tx s x v)) = codes "d" ++ update tx s x v
event_text (One (Gather tx s)) = []
event_text (One (Decide tx)) = []
event_text (One (Install tx s)) = codes "i" ++ visit tx s
event_text (One (Commit tx)) = codes "c" ++ decimal tx
event_text (One (Withdraw tx)) = codes "a" ++ decimal tx
event_text (One Close) = codes "z"
event_text (ToDecide tx) = codes "v" ++ decimal tx

-- a line asks this: all but the two events of a step that `ToDecide` asks together
abbrev pub HasLine : EventLine → Type 0
HasLine (One (Gather tx s)) = ⊥
HasLine (One (Decide tx)) = ⊥
HasLine e = Unit {0}

-- an event that has a line, its numbers and names in their ranges
abbrev pub IsEventLine : EventLine → Type 0
IsEventLine (One Begin) = Unit {0}
IsEventLine (One (Read tx s x)) = IsTx tx × (IsSite s × IsName x)
IsEventLine (One (Put tx s x v)) = (IsTx tx × (IsSite s × IsName x)) × IsValue v
IsEventLine (One (Add tx s x v)) = (IsTx tx × (IsSite s × IsName x)) × IsValue v
IsEventLine (One (Gather tx s)) = ⊥
IsEventLine (One (Decide tx)) = ⊥
IsEventLine (One (Install tx s)) = IsTx tx × IsSite s
IsEventLine (One (Commit tx)) = IsTx tx
IsEventLine (One (Withdraw tx)) = IsTx tx
IsEventLine (One Close) = Unit {0}
IsEventLine (ToDecide tx) = IsTx tx

-- ---- sites

-- the words of a site's line: its number, and each of its items with its value
abbrev pub site_words : SiteLine → List (List ℕ)
site_words l = codes "site" ∷ decimal l.site ∷ map (λ h. assignment h.item h.value) l.items

-- the line of a site: its words, with one space between each two
abbrev pub site_text : SiteLine → List ℕ
site_text l = join_with_byte 32 (site_words l)

-- a site that a replay may start from: at most so many items, by rising name
pub record IsSiteLine (l : SiteLine) : Type 0 where
  pub site : IsSite l.site
  pub each : All IsHolding l.items
  pub room : length l.items ≤ max_items
  pub rising : IsRisingBy (λ h. h.item) (slice_cmp nat_cmp) l.items

-- What a reading of a site's line gives: the site that it spells; or L1 or L2, where it spells
-- none; or want of memory, where it
-- spells a site with some item.
abbrev pub ReadsSite : List ℕ → Result SiteLine NotationFault → Type 0
ReadsSite line (Ok l) = IsSiteLine l × (line ≡ site_text l)
ReadsSite line (Err Memory) = (l : SiteLine) × IsSiteLine l × (0 < length l.items)
    × (line ≡ site_text l)
ReadsSite line (Err e) = Refuses line e × SpellsNone IsSiteLine site_text line
