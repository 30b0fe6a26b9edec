-- Words of private clauses alone: parts of the line of an event, and of a site's line as it is
-- read.
use Rattle.std.specs.Prelude.{◌≡◌, ℕ, ◌-◌, ◌<◌, Bool, true, false, List, [], ◌∷◌, length, map, Option, Some, None, ◌==◌}
use Rattle.std.specs.List.{slice_split}
use Rattle.std.specs.Ordering.{nat_cmp}
use Rattle.std.specs.Cmp.Lexicographic.{slice_cmp}
use Rattle.std.specs.declared.cmp.Ordering.TheVariants.{Less}
use Rattle.sgt_names.specs.Limits.{max_items}
use Rattle.sgt_names.specs.declared.entry.Holding.{Holding}
use Rattle.sgt_names.specs.Name.{Name, IsName}
use Rattle.sgt_notation.specs.Events.{access, place, site_text, update, visit, IsSiteLine}
use Rattle.sgt_notation.specs.Spelling.{assignment, IsHolding, IsSite, IsTx, IsValue}
use Rattle.sgt_notation.specs.declared.event.SiteLine.{SiteLine}

-- ---- events

-- an item at a site
abbrev pub IsPlace : ℕ × Name → Type 0
IsPlace p = IsSite p.0 × IsName p.1

abbrev pub place_text : ℕ × Name → List ℕ
place_text p = place p.0 p.1

-- a transaction at such a place
abbrev pub IsAccess : ℕ × (ℕ × Name) → Type 0
IsAccess a = IsTx a.0 × IsPlace a.1

abbrev pub access_text : ℕ × (ℕ × Name) → List ℕ
access_text a = access a.0 a.1.0 a.1.1

-- the same, with a value
abbrev pub IsUpdate : (ℕ × (ℕ × Name)) × ℕ → Type 0
IsUpdate u = IsAccess u.0 × IsValue u.1

abbrev pub update_text : (ℕ × (ℕ × Name)) × ℕ → List ℕ
update_text u = update u.0.0 u.0.1.0 u.0.1.1 u.1

-- a transaction at a site
abbrev pub IsVisit : ℕ × ℕ → Type 0
IsVisit v = IsTx v.0 × IsSite v.1

abbrev pub visit_text : ℕ × ℕ → List ℕ
visit_text v = visit v.0 v.1

-- ---- sites

-- the parts of a text between spaces
abbrev pub words : List ℕ → List (List ℕ)
words text = slice_split (λ b. b == 32) text

-- the same of what stands behind a space, if there is one
abbrev pub words_behind : Option (List ℕ) → List (List ℕ)
words_behind None = []
words_behind (Some text) = words text

-- items with their values, as words
abbrev pub item_words : List Holding → List (List ℕ)
item_words hs = map (λ h. assignment h.item h.value) hs

-- the name may stand behind the last one, if there is one
abbrev pub IsBehind : Option Name → Name → Type 0
IsBehind None x = Unit {0}
IsBehind (Some y) x = slice_cmp nat_cmp y x ≡ Less

-- items that may stand behind that name, where so many more fit
abbrev pub MayFollow : Option Name → ℕ → List Holding → Type 0
MayFollow last room [] = Unit {0}
MayFollow last room (h ∷ hs) = IsHolding h × ((0 < room) × IsBehind last h.item)
    × MayFollow (Some h.item) (room - 1) hs

-- items that these words spell, and what was kept of them: all, or not all where there are some
pub record Keeps (all : List (List ℕ)) (items : List Holding) (kept : Bool) : Type 0 where
  pub hs : List Holding
  pub follow : MayFollow None max_items hs
  pub spelled : all ≡ item_words hs
  pub whole : kept ≡ true → items ≡ hs
  pub lost : kept ≡ false → 0 < length hs

-- the line spells a site of this number, and so much was kept of its items
abbrev pub KeepsSite : List ℕ → ℕ → List Holding → Bool → Type 0
KeepsSite line k items true = IsSiteLine (record { site = k; items = items })
    × (line ≡ site_text (record { site = k; items = items }))
KeepsSite line k items false = (l : SiteLine) × IsSiteLine l × (0 < length l.items)
    × (line ≡ site_text l)
