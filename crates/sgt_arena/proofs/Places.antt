-- How the places of a block hold its values.
use Rattle.std.proofs.Common.{◌≡◌, ℕ, zero, suc, ◌+◌, ◌<◌, ◌≤◌, List, [], ◌∷◌, ◌++◌, length, take, drop, set, get_or, replicate, slice_get, Option, Some, None, refl, sym, ap, ◌∙◌, inl, inr, arith, length-append, length-drop, length-set}
use Rattle.std.proofs.lemmas.List.{length-replicate}
use Rattle.std.proofs.lemmas.Option.{slice_get_cases}
use Rattle.sgt_arena.specs.Places.{block_places, somes, filled, HoldsFirst, IsFilled}
use Rattle.sgt_arena.specs.Block.{IsBlock}
use Rattle.sgt_arena.specs.CellLends.{with_slots}
use Rattle.sgt_arena.specs.declared.cells.Cells.{Cells}
use Rattle.sgt_arena.specs.declared.block.Block.TheInside.{Inside}

module _ {X : Type 0} where
  -- the value at an index that is within the list
  pub value_of : (xs : List X) (i : ℕ) → i < length xs → (x : X) × (slice_get xs i ≡ Some x)
  value_of xs i lt = elim (slice_get_cases xs i).1 [ inl there ↦ (there.0, there.2) | inr past ↦ absurd (omega arith) ]

  -- a list that is cut shows in front of the cut and behind it what it showed
  pub before_cut : (m i : ℕ) (xs : List X) → i < m → slice_get (take m xs) i ≡ slice_get xs i
  before_cut zero i xs lt = absurd (omega arith)
  before_cut (suc m) i [] lt = refl
  before_cut (suc m) zero (x ∷ xs) lt = refl
  before_cut (suc m) (suc i) (x ∷ xs) lt = before_cut m i xs (omega arith)

  pub behind_cut : (m i j : ℕ) (xs : List X) → m + i ≡ j → slice_get (drop m xs) i ≡ slice_get xs j
  behind_cut zero i j xs e = let same : i ≡ j = omega arith in ap (slice_get xs) same
  behind_cut (suc m) i j [] e = refl
  behind_cut (suc m) i zero (x ∷ xs) e = absurd (omega arith)
  behind_cut (suc m) i (suc j) (x ∷ xs) e = behind_cut m i j xs (omega arith)

  -- a place that holds a value is one of the places
  pub holds_within : (cs : List (Option X)) (i : ℕ) (x : X) → get_or cs i None ≡ Some x → i < length cs
  holds_within [] i x e = cc
  holds_within (c ∷ cs) zero x e = omega arith
  holds_within (c ∷ cs) (suc i) x e = omega (arith, holds_within cs i x e)

  pub holds_long : (cs : List (Option X)) (n : ℕ) → HoldsFirst cs n → n ≤ length cs
  holds_long cs zero held = omega arith
  holds_long cs (suc n) held = let last = held n (omega arith) in omega (arith, holds_within cs n last.0 last.1)

  somes-filled : (xs : List X) (n : ℕ) → length xs ≤ n → somes (filled xs n) ≡ xs
  unfolding filled
  somes-filled [] zero le = refl
  somes-filled [] (suc n) le = somes-filled [] n (omega arith)
  somes-filled (x ∷ xs) zero le = absurd (omega arith)
  somes-filled (x ∷ xs) (suc n) le = ap (λ l. x ∷ l) (somes-filled xs n (omega arith))

  length-filled : (xs : List X) (n : ℕ) → length (filled xs n) ≡ n
  unfolding filled
  length-filled [] zero = refl
  length-filled [] (suc n) = let rest = length-filled [] n in omega arith
  length-filled (x ∷ xs) zero = refl
  length-filled (x ∷ xs) (suc n) = let rest = length-filled xs n in omega arith

  get_or-filled : (xs : List X) (n i : ℕ) → length xs ≤ n → get_or (filled xs n) i None ≡ slice_get xs i
  unfolding filled
  get_or-filled [] zero i le = refl
  get_or-filled [] (suc n) zero le = refl
  get_or-filled [] (suc n) (suc i) le = get_or-filled [] n i (omega arith)
  get_or-filled (x ∷ xs) zero i le = absurd (omega arith)
  get_or-filled (x ∷ xs) (suc n) zero le = refl
  get_or-filled (x ∷ xs) (suc n) (suc i) le = get_or-filled xs n i (omega arith)

  pub filled-empty : (n : ℕ) → filled {X = X} [] n ≡ replicate n None
  unfolding filled
  filled-empty zero = refl
  filled-empty (suc n) = ap (λ l. None ∷ l) (filled-empty n)

  filled-push : (xs : List X) (n : ℕ) (w : X) → length xs < n
      → set (filled xs n) (length xs) (Some w) ≡ filled (xs ++ w ∷ []) n
  unfolding filled
  filled-push xs zero w lt = absurd (omega arith)
  filled-push [] (suc n) w lt = refl
  filled-push (x ∷ xs) (suc n) w lt = ap (λ l. Some x ∷ l) (filled-push xs n w (omega arith))

  filled-set : (xs : List X) (n i : ℕ) (w : X) → i < length xs → length xs ≤ n
      → set (filled xs n) i (Some w) ≡ filled (set xs i w) n
  unfolding filled
  filled-set [] n i w lt le = absurd (omega arith)
  filled-set (x ∷ xs) zero i w lt le = absurd (omega arith)
  filled-set (x ∷ xs) (suc n) zero w lt le = refl
  filled-set (x ∷ xs) (suc n) (suc i) w lt le = ap (λ l. Some x ∷ l) (filled-set xs n i w (omega arith) (omega arith))

  filled-dropped : (xs : List X) (n : ℕ) → length xs ≤ n
      → replicate (length xs) None ++ drop (length xs) (filled xs n) ≡ replicate n None
  unfolding filled
  filled-dropped [] n le = filled-empty n
  filled-dropped (x ∷ xs) zero le = absurd (omega arith)
  filled-dropped (x ∷ xs) (suc n) le = ap (λ l. None ∷ l) (filled-dropped xs n (omega arith))

  -- a block by the values that its places hold
  pub is_block : (b : Inside X) (xs : List X) → (b.cells.at ≡ b.base.ptr) × (b.deed.at ≡ b.base.ptr)
      × (b.deed.len ≡ block_places) × (b.deed.alloc ≡ b.alloc) → b.len ≡ length xs → b.len ≤ block_places
      → b.cells.slots ≡ filled xs block_places → IsBlock b × (somes b.cells.slots ≡ xs)
  is_block b xs memory count fits places =
      let are : somes b.cells.slots ≡ xs = ap somes places ∙ somes-filled xs block_places (omega arith) in (
        record {
          memory = memory;
          count = (count ∙ sym (ap length are), fits);
          places = places
              ∙ ap (λ l. filled l block_places) (sym are);
        },
        are,
      )

module _ {X : Type 0} (b : Inside X) (h : IsBlock b) where
  few : length (somes b.cells.slots) ≤ block_places
  few = let count = h.count.0 in let fits = h.count.1 in omega arith

  pub places_long : length b.cells.slots ≡ block_places
  places_long = ap length h.places ∙ length-filled (somes b.cells.slots) block_places

  -- a place shows what the values show at its index
  pub place_shows : (i : ℕ) → get_or b.cells.slots i None ≡ slice_get (somes b.cells.slots) i
  place_shows i = ap (λ l. get_or l i None) h.places ∙ get_or-filled (somes b.cells.slots) block_places i few

  -- one value is written over
  pub item_written : (i : ℕ) (w : X) → i < length (somes b.cells.slots)
      → let d = record b { cells = with_slots b.cells (set b.cells.slots i (Some w)) } in
      IsBlock d × (somes d.cells.slots ≡ set (somes b.cells.slots) i w)
  item_written i w lt =
      let xs = somes b.cells.slots in let count = h.count.0 in let fits = h.count.1 in
      is_block (record b { cells = with_slots b.cells (set b.cells.slots i (Some w)) }) (set xs i w) h.memory
      (h.count.0 ∙ sym (length-set xs i w)) h.count.1
      (ap (λ l. set l i (Some w)) h.places ∙ filled-set xs block_places i w lt few)

  -- one value is written behind the others
  pub item_pushed : (w : X) (cells : Cells X) → b.len < block_places
      → (cells.at ≡ b.cells.at) × (cells.slots ≡ set b.cells.slots b.len (Some w))
      → let d = record b { len = b.len + 1; cells = cells } in
      IsBlock d × (somes d.cells.slots ≡ somes b.cells.slots ++ w ∷ [])
  item_pushed w cells room new =
      let xs = somes b.cells.slots in let count = h.count.0 in let more = length-append xs (w ∷ []) in
      is_block (record b { len = b.len + 1; cells = cells }) (xs ++ w ∷ []) (
        new.0 ∙ h.memory.0,
        h.memory.1,
        h.memory.2,
        h.memory.3,
      ) (omega arith) (omega arith)
      (new.1 ∙ (λ i. set (h.places i) (h.count.0 i) (Some w)) ∙ filled-push xs block_places w (omega arith))

  pub first_held : HoldsFirst b.cells.slots b.len
  first_held i lt = let count = h.count.0 in let x = value_of (somes b.cells.slots) i (omega arith) in
      (x.0, place_shows i ∙ x.1)

  -- all values are dropped
  pub items_dropped : (cells : Cells X)
      → (cells.at ≡ b.cells.at) × (cells.slots ≡ replicate b.len None ++ drop b.len b.cells.slots)
      → let d = record b { len = 0; cells = cells } in IsBlock d × (somes d.cells.slots ≡ [])
  items_dropped cells new =
      let xs = somes b.cells.slots in let count = h.count.0 in let fits = h.count.1 in
      is_block (record b { len = 0; cells = cells }) [] (new.0 ∙ h.memory.0, h.memory.1, h.memory.2, h.memory.3) refl
      (omega arith)
      (new.1 ∙ (λ i. replicate (h.count.0 i) None ++ drop (h.count.0 i) (h.places i))
      ∙ filled-dropped xs block_places few ∙ sym (filled-empty block_places))

-- the places where the first j values have been dropped
abbrev pub dropped : {X : Type 0} → ℕ → List (Option X) → List (Option X)
dropped j cs = replicate j None ++ drop j cs

module _ {X : Type 0} where
  pub length-dropped : (j : ℕ) (cs : List (Option X)) → j ≤ length cs → length (dropped j cs) ≡ length cs
  length-dropped j cs le = let none : Option X = None in
      omega (arith, length-append (replicate j none) (drop j cs), length-replicate j none, length-drop j cs)

  pub get_or-dropped : (j : ℕ) (cs : List (Option X)) → j < length cs → get_or (dropped j cs) j None ≡ get_or cs j None
  get_or-dropped j [] h = absurd (omega arith)
  get_or-dropped zero (c ∷ cs) h = refl
  get_or-dropped (suc j) (c ∷ cs) h = get_or-dropped j cs (omega arith)

  pub set-dropped : (j : ℕ) (cs : List (Option X)) → j < length cs → set (dropped j cs) j None ≡ dropped (suc j) cs
  set-dropped j [] h = absurd (omega arith)
  set-dropped zero (c ∷ cs) h = refl
  set-dropped (suc j) (c ∷ cs) h = ap (λ l. None ∷ l) (set-dropped j cs (omega arith))
