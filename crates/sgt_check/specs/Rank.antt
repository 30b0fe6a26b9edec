-- Which of two items stands first, by what these are named, and which of two conflicts is shown.
use Rattle.std.specs.Prelude.{◌≡◌, ◌⊎◌, ◌↔◌, ℕ, ◌<◌, ◌≤◌, ◌^◌, List, [], ◌∷◌, Some, slice_get, decimal}
use Rattle.json.specs.Json.{Json, number, string}
use Rattle.sgt_history.specs.declared.named.Conflict.{Conflict}
use Rattle.sgt_history_text.specs.Name.{IsItem, compact}
use Rattle.sgt_history_verdict.specs.Steps.{kind_place, rank_at}

-- ---- names

-- the first bytes stand before the second: they are a front of these, or have the lesser byte where they first differ
abbrev pub AreBytesBefore : List ℕ → List ℕ → Type 0
AreBytesBefore s [] = ⊥
AreBytesBefore [] (y ∷ t) = Unit {0}
AreBytesBefore (x ∷ s) (y ∷ t) = (x < y) ⊎ ((x ≡ y) × AreBytesBefore s t)

-- both are whole numbers, the first the lesser
pub record AreNumbersRising (a b : Json) : Type 0 where
  pub m : ℕ
  pub n : ℕ
  pub first : a ≡ number (decimal m)
  pub second : b ≡ number (decimal n)
  pub rises : m < n
  pub fits : n < 2 ^ 64

-- the first is a number, the second a string
pub record IsNumberBeforeString (a b : Json) : Type 0 where
  pub digits : List ℕ
  pub s : List ℕ
  pub first : a ≡ number digits
  pub second : b ≡ string s

-- both are strings, the first before the second by their bytes
pub record AreStringsRising (a b : Json) : Type 0 where
  pub s : List ℕ
  pub t : List ℕ
  pub first : a ≡ string s
  pub second : b ≡ string t
  pub rises : AreBytesBefore s t

-- the first name of an item stands before the second: numbers before strings, numbers by value, strings by bytes
abbrev pub IsNameBefore : Json → Json → Type 0
IsNameBefore a b = AreNumbersRising a b ⊎ (IsNumberBeforeString a b ⊎ AreStringsRising a b)

-- a rank is less than another exactly where its name stands before the other's; names that are equal are one
abbrev pub AreRanks : (texts : List (List ℕ)) → (ranks : List ℕ) → Type 0
AreRanks texts ranks = (i j : ℕ) (a b : Json) → slice_get texts i ≡ Some (compact a)
    → slice_get texts j ≡ Some (compact b) → IsItem a → IsItem b → (a ≡ b → i ≡ j)
    → rank_at ranks i < rank_at ranks j ↔ IsNameBefore a b

-- ---- conflicts

-- of two conflicts from one line to another the first is shown before the second, or is the same: by its kind (ww
-- before wr before rw), then by its item's name, then by the version that the first line wrote or read
abbrev pub IsShownBefore : Conflict → Json → (v : ℕ) → Conflict → Json → (w : ℕ) → Type 0
IsShownBefore k x v l y w = (kind_place k < kind_place l)
    ⊎ ((k ≡ l) × (IsNameBefore x y ⊎ ((x ≡ y) × (v ≤ w))))
