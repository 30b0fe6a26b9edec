-- By what names of items sort.
use Rattle.std.specs.Prelude.{◌≡◌, ◌⊎◌, ◌==◌, ℕ, ◌<◌, ◌≤◌, ◌^◌, true, false, cond, List, [], Some, slice_get, decimal, Contains}
use Rattle.json.specs.Json.{Json, null, boolean, number, string, array, object}
use Rattle.sgt_history_text.specs.Name.{IsItem, compact}
use Rattle.sgt_check.specs.Rank.{AreBytesBefore}
use Rattle.sgt_check.specs.declared.key.Key.{Key}
use Rattle.sgt_check.specs.declared.ranks.Ranked.{Ranked}

-- ---- escapes

-- the byte whose short escape has this letter
abbrev pub letter_byte : ℕ → ℕ
letter_byte l = cond (l == 98) 8 (cond (l == 102) 12 (cond (l == 110) 10 (cond (l == 114) 13 (cond (l == 116) 9 l))))

-- ---- keys

-- the key is that of the name: the value of a number, the bytes of a string
abbrev pub IsKeyOf : Json → Key → Type 0
IsKeyOf (number digits) key =
    (key.is_string ≡ false) × (digits ≡ decimal key.value) × (key.value < 2 ^ 64) × (key.bytes.items ≡ [])
IsKeyOf (string s) key = (key.is_string ≡ true) × (key.value ≡ 0) × (key.bytes.items ≡ s)
IsKeyOf null key = ⊥
IsKeyOf (boolean b) key = ⊥
IsKeyOf (array js) key = ⊥
IsKeyOf (object ms) key = ⊥

-- the first key is the lesser: that of a number is less than that of a string, those of numbers go by value, those of
-- strings by bytes
pub record IsKeyBefore (k l : Key) : Type 0 where
  pub here : ((k.is_string ≡ false) × (l.is_string ≡ true))
      ⊎ (((k.is_string ≡ l.is_string) × (k.value < l.value))
      ⊎ ((k.is_string ≡ l.is_string) × (k.value ≡ l.value) × AreBytesBefore k.bytes.items l.bytes.items))

-- so it is for the name of an item that this is the text of
abbrev pub IsKeyOfText : List ℕ → Key → Type 0
IsKeyOfText text key = (j : Json) → IsItem j → text ≡ compact j → IsKeyOf j key

-- it has the number of a text, and its key
abbrev pub IsRanked : List (List ℕ) → Ranked → Type 0
IsRanked texts r = (text : List ℕ) × (slice_get texts r.number ≡ Some text) × IsKeyOfText text r.key

-- the number below this one has one among them
abbrev pub HasEach : List Ranked → ℕ → Type 0
HasEach ranked count = (number : ℕ) → number < count → (r : Ranked) × Contains ranked r × (r.number ≡ number)

-- no key is less than one before it
abbrev pub AreRising : List Ranked → Type 0
AreRising ranked = (k l : ℕ) (a b : Ranked) → k ≤ l → slice_get ranked k ≡ Some a → slice_get ranked l ≡ Some b
    → IsKeyBefore b.key a.key → ⊥

-- the text has this number, one of these stands for it, and that one's place is its rank
pub record IsPlaced (ranked : List Ranked) (ranks : List ℕ) (number : ℕ) : Type 0 where
  pub place : ℕ
  pub r : Ranked
  pub there : slice_get ranked place ≡ Some r
  pub is : r.number ≡ number
  pub rank : slice_get ranks number ≡ Some place

-- so is the number of each of the first n of these, if it is below the count
abbrev pub ArePlaced : List Ranked → (ranks : List ℕ) → (count n : ℕ) → Type 0
ArePlaced ranked ranks count n = (k : ℕ) (r : Ranked) → k < n → slice_get ranked k ≡ Some r → r.number < count
    → IsPlaced ranked ranks r.number
