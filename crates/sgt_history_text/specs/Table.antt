-- Where the number of a text is looked for: in slots, from a place on that its hash gives, a limited number of tries;
-- texts that found no free slot there have theirs in a map besides.
use Rattle.std.specs.Prelude.{◌≡◌, ◌⊎◌, ℕ, suc, ◌+◌, ◌-◌, ◌*◌, ◌%◌, ◌^◌, ◌/◌, ◌<◌, List, [], ◌∷◌, ◌++◌, length, fold, Option, Some, slice_get, slice_index, take}
use Rattle.std.specs.Global.{Vec}
use Rattle.std.specs.Int.Bits.{bit_and, bit_xor}
use Rattle.std.specs.BTreeMap.{BTreeMap, get_by}
use Rattle.std.specs.Cmp.Lexicographic.{slice_cmp}
use Rattle.std.specs.Ordering.{nat_cmp}
use Rattle.sgt_history.specs.Serial.{StandOnce}
use Rattle.sgt_history_text.specs.declared.table.TheConstants.{TRIES, SEED, MULTIPLIER, STRIDE}
use Rattle.sgt_history_text.specs.declared.table.Place.{Place}
use Rattle.sgt_history_text.specs.declared.table.Place.TheVariants.{At, Free, Crowded}
use Rattle.sgt_history_text.specs.declared.table.Interned.{Interned}
use Rattle.sgt_history_text.specs.declared.table.Interned.TheVariants.{Old, New}

abbrev pub mixed : ℕ → ℕ → ℕ
mixed hash byte = (bit_xor hash byte * MULTIPLIER) % 2 ^ 64

-- a hash of all bytes but the last but one, and a stride behind it for each step of that one: texts that differ there
-- alone, as names that count up and end in a quotation mark, begin near one another
abbrev pub hashed : List ℕ → ℕ
hashed text = fold mixed (mixed SEED (slice_index text (length text - 1))) (take (length text - 2) text) / 2 ^ 32
    + STRIDE * slice_index text (length text - 2)

-- where the tries for a text begin
unfoldable pub start_of : List ℕ → ℕ
start_of [] = 0
start_of (byte ∷ []) = 0
start_of (first ∷ second ∷ more) = hashed (first ∷ second ∷ more)

-- the slot of a text at this try
abbrev pub probe : List ℕ → List ℕ → ℕ → ℕ
probe slots text try = bit_and (start_of text + try) (length slots - 1)

-- a slot has one more than the number of its text; 0 is free

-- the slot at the try is taken by some number
abbrev pub IsTaken : (slots text : List ℕ) → ℕ → Type 0
IsTaken slots text try = (number : ℕ) × (slice_get slots (probe slots text try) ≡ Some (suc number))

-- and that is of another text
pub record IsPassed (names : List (List ℕ)) (slots text : List ℕ) (try : ℕ) : Type 0 where
  pub number : ℕ
  pub known : number < length names
  pub taken : slice_get slots (probe slots text try) ≡ Some (suc number)
  pub other : slice_get names number ≡ Some text → ⊥

-- the number is met at some try, behind slots of other texts
pub record IsPlaced (names : List (List ℕ)) (slots text : List ℕ) (number : ℕ) : Type 0 where
  pub try : ℕ
  pub soon : try < TRIES
  pub there : slice_get slots (probe slots text try) ≡ Some (suc number)
  pub passed : (k : ℕ) → k < try → IsPassed names slots text k

-- a map from texts to numbers
abbrev pub More : Type 0
More = BTreeMap (Vec ℕ) ℕ

-- the number that the map has of a text
abbrev pub number_in : More → List ℕ → Option ℕ
number_in more text = get_by (λ (key : Vec ℕ). slice_cmp nat_cmp text key.items) more

-- it keeps the numbers of all other texts
abbrev pub KeepsOthers : (old new : More) → List ℕ → Type 0
KeepsOthers old new text = (other : List ℕ) → (other ≡ text → ⊥) → number_in new other ≡ number_in old other

-- no try meets a free slot, and the map has the number
pub record IsBesides (slots : List ℕ) (more : More) (text : List ℕ) (number : ℕ) : Type 0 where
  pub crowded : (try : ℕ) → try < TRIES → IsTaken slots text try
  pub there : number_in more text ≡ Some number

-- the slots have numbers below this one
abbrev pub AreKnown : ℕ → List ℕ → Type 0
AreKnown count slots = (slot number : ℕ) → slice_get slots slot ≡ Some (suc number) → number < count

-- the texts with numbers below this one are found
abbrev pub AreFound : ℕ → List (List ℕ) → List ℕ → More → Type 0
AreFound count names slots more = (number : ℕ) (text : List ℕ) → number < count → slice_get names number ≡ Some text
    → IsPlaced names slots text number ⊎ IsBesides slots more text number

-- each text has one number, and is found
pub record IsTable (names : List (List ℕ)) (slots : List ℕ) (more : More) : Type 0 where
  pub some : 0 < length slots
  pub few : length names < 2 ^ 32
  pub once : StandOnce names
  pub known : AreKnown (length names) slots
  pub found : AreFound (length names) names slots more

-- ---- what is told

abbrev pub IsNew : List (List ℕ) → List ℕ → Type 0
IsNew names text = (number : ℕ) → slice_get names number ≡ Some text → ⊥

-- where the tries for a text end
abbrev pub EndsAt : (names : List (List ℕ)) (slots text : List ℕ) → Place → Type 0
EndsAt names slots text (At number) = (slice_get names number ≡ Some text) × IsPlaced names slots text number
EndsAt names slots text (Free slot) = (try : ℕ) × (try < TRIES) × (slot ≡ probe slots text try)
    × (slice_get slots slot ≡ Some 0) × ((k : ℕ) → k < try → IsPassed names slots text k)
EndsAt names slots text Crowded = (k : ℕ) → k < TRIES → IsPassed names slots text k

-- the number of a text, which is among those before or is the next
abbrev pub IsInterned : (old : List (List ℕ)) (text : List ℕ) → Interned → (new : List (List ℕ)) → Type 0
IsInterned old text (Old number) new = (slice_get old number ≡ Some text) × (new ≡ old)
IsInterned old text (New number) new = (number ≡ length old) × (new ≡ old ++ text ∷ []) × IsNew old text
