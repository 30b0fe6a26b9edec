-- How the values of a block lie in its places.
use Rattle.std.specs.Prelude.{◌≡◌, ℕ, zero, suc, ◌<◌, ⊤, Option, Some, None}
use Rattle.std.specs.Prelude.{List, [], ◌∷◌, ◌++◌, take, drop, get_or}

-- how many places a block has
abbrev pub block_places : ℕ
block_places = 64

module _ {X : Type 0} where
  -- the values that are there
  abbrev pub somes : List (Option X) → List X
  somes [] = []
  somes (None ∷ cs) = somes cs
  somes (Some x ∷ cs) = x ∷ somes cs

  -- the place at the index holds a value
  abbrev pub IsFilled : List (Option X) → ℕ → Type 0
  IsFilled cs i = (x : X) × (get_or cs i None ≡ Some x)

  -- each of the first n places holds a value
  abbrev pub HoldsFirst : List (Option X) → ℕ → Type 0
  HoldsFirst cs n = (i : ℕ) → i < n → IsFilled cs i

  -- n places, the first of which hold the values
  unfoldable pub filled : List X → ℕ → List (Option X)
  filled xs zero = []
  filled [] (suc n) = None ∷ filled [] n
  filled (x ∷ xs) (suc n) = Some x ∷ filled xs n

  -- the values of the blocks, one block after another
  abbrev pub joined : List (List X) → List X
  joined [] = []
  joined (b ∷ bs) = b ++ joined bs

  -- the values lie in the blocks in their order, and fill each block before the next
  abbrev pub Laid : List (List X) → List X → Type 0
  Laid [] xs = xs ≡ []
  Laid (b ∷ bs) xs = (b ≡ take block_places xs) × Laid bs (drop block_places xs)

  -- the first n blocks are empty
  abbrev pub EmptyFirst : ℕ → List (List X) → Type 0
  EmptyFirst zero bs = ⊤
  EmptyFirst (suc n) [] = ⊤
  EmptyFirst (suc n) (b ∷ bs) = (b ≡ []) × EmptyFirst n bs

  -- every block is empty
  abbrev pub AllEmpty : List (List X) → Type 0
  AllEmpty [] = ⊤
  AllEmpty (b ∷ bs) = (b ≡ []) × AllEmpty bs
