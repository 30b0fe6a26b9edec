-- What the fields of an arena hold.
use Rattle.std.proofs.Common.{if◌then◌else◌, Bool, None, inl, inr, ◌≡◌, ℕ, ◌+◌, ◌-◌, ◌*◌, ◌/◌, ◌%◌, ◌<◌, ◌≤◌, List, [], ◌∷◌, ◌++◌, length, set, get_or, replicate, slice_get, sym, ap, ◌∙◌, subst, arith, length-append, length-set}
use Rattle.std.proofs.lemmas.List.{get_or_default, length-replicate}
use Rattle.std.proofs.Math.Nat.{mod-lt}
use Rattle.std.proofs.lemmas.Nat.{div-add-mod'}
use Rattle.std.proofs.lemmas.Bool.{cases_eq, cases_lt, eq-eqb, ne_eqb, false≢true}
use Rattle.std.proofs.lemmas.Grind.{div_ceil_times}
use Rattle.std.specs.Int.{div_ceil}
use Rattle.std.proofs.lemmas.Option.{slice_get_past}
use Rattle.std.specs.Option.{IsSome}
use Rattle.std.specs.Vec.{with_item}
use Rattle.std.specs.declared.vec.Vec.{Vec}
use Rattle.std.specs.declared.alloc.Global.{Global}
use Rattle.sgt_arena.specs.Arena.{Arena as Window, get}
use Rattle.sgt_arena.specs.declared.handle.Handle.{Handle}
use Rattle.sgt_arena.specs.Places.{joined, Laid}
use Rattle.sgt_arena.specs.Inside.{IsArena}
use Rattle.sgt_arena.specs.declared.arena.Arena.TheInside.{Inside}
use Rattle.sgt_arena.proofs.Laid.{joined_is, laid_within, laid_get, laid_set, laid_push, laid_room, laid_index, laid_more}

module _ {X : Type 0} where
  -- an arena by the values that its blocks hold
  pub is_arena : (a : Inside X) (xs : List X) → Laid a.blocks.items xs → a.len ≡ length xs
      → length a.blocks.items ≤ 64 → IsArena a × (joined a.blocks.items ≡ xs)
  is_arena a xs laid count most =
      let are = joined_is a.blocks.items xs laid in (
        record { laid = subst (Laid a.blocks.items) (sym are) laid; count = count ∙ sym (ap length are); most = most },
        are,
      )

  -- the block and the place in it that an index is of
  pub place_of : (bs : List (List X)) (i : ℕ) → i < 64 * length bs → (i / 64 < length bs) × (i % 64 < 64)
      × (i ≡ 64 * (i / 64) + i % 64)
  place_of bs i lt = let low = mod-lt i {m = 64} (omega arith) in let parts = div-add-mod' i 64 in
      (omega arith, low, omega arith)

module _ {X : Type 0} (a : Inside X) (h : IsArena a) where
  pub len_within : a.len ≤ 4096
  len_within = let most = h.most in let count = h.count in let within =
      laid_within a.blocks.items (joined a.blocks.items) h.laid in omega arith

  -- an index shows what its place in its block shows, and nothing where there is no such block
  pub value_at : (i : ℕ) (b : List X) → i / 64 < length a.blocks.items → b ≡ get_or a.blocks.items (i / 64) b
      → slice_get b (i % 64) ≡ slice_get (joined a.blocks.items) i
  value_at i b lt is =
      let bs = a.blocks.items in let low = mod-lt i {m = 64} (omega arith) in let parts = div-add-mod' i 64 in
      ap (λ l. slice_get l (i % 64)) (is ∙ get_or_default bs (i / 64) b [] lt)
      ∙ laid_get bs (joined bs) (i / 64) (i % 64) i h.laid lt low (omega arith)

  pub no_value : (i : ℕ) → length a.blocks.items ≤ i / 64 → slice_get (joined a.blocks.items) i ≡ None
  no_value i past =
      let bs = a.blocks.items in let within = laid_within bs (joined bs) h.laid in let parts = div-add-mod' i 64 in
      let low = mod-lt i {m = 64} (omega arith) in
      slice_get_past (joined bs) i (omega arith)

  module _ (i : ℕ) (lt : i < a.len) where
    place : (i / 64 < length a.blocks.items) × (i % 64 < 64) × (i ≡ 64 * (i / 64) + i % 64)
    place = let count = h.count in let within = laid_within a.blocks.items (joined a.blocks.items) h.laid in
        place_of a.blocks.items i (omega arith)

    pub block_within : i / 64 < a.blocks.len
    block_within = let p = place.0 in let long = a.blocks.ok.0 in omega arith

    -- b is the block that holds the value
    module _ (b : List X) (is : b ≡ get_or a.blocks.items (i / 64) b) where
      is_block_of : b ≡ get_or a.blocks.items (i / 64) []
      is_block_of = is ∙ get_or_default a.blocks.items (i / 64) b [] place.0

      pub index_within : i % 64 < length b
      index_within =
          let p = place in let count = h.count in
          subst (λ l. i % 64 < length l) (sym is_block_of) (laid_index a.blocks.items (joined a.blocks.items) (i / 64)
          (i % 64) i h.laid p.0 p.1 p.2 (omega arith))

      pub value_is : slice_get b (i % 64) ≡ slice_get (joined a.blocks.items) i
      value_is = let p = place in ap (λ l. slice_get l (i % 64)) is_block_of
          ∙ laid_get a.blocks.items (joined a.blocks.items) (i / 64) (i % 64) i h.laid p.0 p.1 p.2

      -- it is written over
      pub value_written : (w : X) → let d = record a { blocks = with_item a.blocks (i / 64) (set b (i % 64) w) } in
          IsArena d × (joined d.blocks.items ≡ set (joined a.blocks.items) i w)
      value_written w =
          let p = place in let xs = joined a.blocks.items in
          is_arena (record a { blocks = with_item a.blocks (i / 64) (set b (i % 64) w) }) (set xs i w)
          (subst (λ l. Laid (set a.blocks.items (i / 64) (set l (i % 64) w)) (set xs i w)) (sym is_block_of)
          (laid_set a.blocks.items xs (i / 64) (i % 64) i w h.laid p.0 p.1 p.2))
          (h.count ∙ sym (length-set xs i w))
          (subst (λ k. k ≤ 64) (sym (length-set a.blocks.items (i / 64) (set b (i % 64) w))) h.most)

  -- where there is room, one value goes to the block that holds the first free place
  module _ (room : a.len < 64 * length a.blocks.items) where
    free : (a.len / 64 < length a.blocks.items) × (a.len % 64 < 64) × (a.len ≡ 64 * (a.len / 64) + a.len % 64)
    free = place_of a.blocks.items a.len room

    module _ (b : List X) (is : b ≡ get_or a.blocks.items (a.len / 64) b) where
      is_free_block : b ≡ get_or a.blocks.items (a.len / 64) []
      is_free_block = is ∙ get_or_default a.blocks.items (a.len / 64) b [] free.0

      pub block_has_room : length b < 64
      block_has_room = let p = free in
          subst (λ l. length l < 64) (sym is_free_block)
          (laid_room a.blocks.items (joined a.blocks.items) (a.len / 64) (a.len % 64) h.laid p.0 p.1 (sym h.count
          ∙ p.2))

      pub value_pushed : (w : X) → let d = record a {
        blocks = with_item a.blocks (a.len / 64) (b ++ w ∷ []);
        len =
            a.len + 1;
      } in IsArena d × (joined d.blocks.items ≡ joined a.blocks.items ++ w ∷ [])
      value_pushed w =
          let p = free in let xs = joined a.blocks.items in let count = h.count in let more =
          length-append xs (w ∷ []) in
          is_arena (record a { blocks = with_item a.blocks (a.len / 64) (b ++ w ∷ []); len = a.len + 1 }) (xs ++ w ∷ [])
          (subst (λ l. Laid (set a.blocks.items (a.len / 64) (l ++ w ∷ [])) (xs ++ w ∷ [])) (sym is_free_block)
          (laid_push a.blocks.items xs (a.len / 64) (a.len % 64) w h.laid p.0 p.1 (sym h.count ∙ p.2)))
          (omega arith) (subst (λ k. k ≤ 64) (sym (length-set a.blocks.items (a.len / 64) (b ++ w ∷ []))) h.most)

  -- what a contract sees of it
  abbrev pub seen : Window X
  seen = record {
    generation = a.generation;
    items = joined a.blocks.items;
    room =
        64 * length a.blocks.items - length (joined a.blocks.items);
  }

  -- after a write what a contract sees differs in the one value
  pub seen_written : (i : ℕ) (lt : i < a.len) (b : List X) (is : b ≡ get_or a.blocks.items (i / 64) b) (w : X)
      → let bs = set a.blocks.items (i / 64) (set b (i % 64) w) in let new : Window X =
      record { generation = a.generation; items = joined bs; room = 64 * length bs - length (joined bs) } in
      new ≡ record seen { items = set (joined a.blocks.items) i w }
  seen_written i lt b is w =
      let e = (value_written i lt b is w).1 in let blocks = length-set a.blocks.items (i / 64) (set b (i % 64) w) in
      let values = ap length e ∙ length-set (joined a.blocks.items) i w in
      λ k. record { generation = a.generation; items = e k; room = 64 * blocks k - values k }

  -- empty blocks are added
  pub blocks_added : (blocks : Vec (List X) Global) (n : ℕ) → blocks.items ≡ a.blocks.items ++ replicate n []
      → length a.blocks.items + n ≤ 64 → let d = record a { blocks = blocks } in
      IsArena d × (joined d.blocks.items ≡ joined a.blocks.items)
  blocks_added blocks n e most =
      let none : List X = [] in let long = ap length e ∙ length-append a.blocks.items (replicate n none) in
      let added = length-replicate n none in
      is_arena (record a { blocks = blocks }) (joined a.blocks.items)
      (subst (λ bs. Laid bs (joined a.blocks.items)) (sym e)
      (laid_more a.blocks.items (joined a.blocks.items) n h.laid)) h.count (omega arith)

  -- w blocks would hold more values than there are places now
  module _ (more w : ℕ) (fits : more ≤ 4096 - a.len) (is : w ≡ div_ceil (a.len + more) 64) (over : a.blocks.len < w)
    where
      ceil : (a.len + more ≤ w * 64) × (w * 64 < a.len + more + 64)
      ceil = subst (λ k. (a.len + more ≤ k * 64) × (k * 64 < a.len + more + 64)) (sym is)
          (div_ceil_times (a.len + more) 64 (omega arith))

      pub lacks : (length (joined a.blocks.items) + more ≤ 4096)
          × (64 * length a.blocks.items - length (joined a.blocks.items) < more)
      lacks = let c = ceil in let long = a.blocks.ok.0 in let within =
          laid_within a.blocks.items (joined a.blocks.items) h.laid in let count = h.count in let most = len_within in
          (omega arith, omega (arith, c.1))

      module _ (blocks : Vec (List X) Global) (e : blocks.items ≡ a.blocks.items ++ replicate (w - a.blocks.len) [])
        where
          pub wanted_added : let d = record a { blocks = blocks } in
              IsArena d × (joined d.blocks.items ≡ joined a.blocks.items)
          wanted_added = let c = ceil in let long = a.blocks.ok.0 in let most = len_within in
              blocks_added blocks (w - a.blocks.len) e (omega (arith, c.1))

          wanted_long : length blocks.items ≡ w
          wanted_long = let none : List X = [] in let long = a.blocks.ok.0 in ap length e
              ∙ omega (
                arith,
                length-append a.blocks.items (replicate (w - a.blocks.len) none),
                length-replicate (w - a.blocks.len) none,
              )

          pub room_kept : 64 * length a.blocks.items - length (joined a.blocks.items) ≤ 64 * length blocks.items - length
              (joined blocks.items)
          room_kept = let long = a.blocks.ok.0 in let now = wanted_long in let same = ap length wanted_added.1 in
              omega arith

          pub room_made : more ≤ 64 * length blocks.items - length (joined blocks.items)
          room_made = let c = ceil in let now = wanted_long in let same = ap length wanted_added.1 in let count =
              h.count in omega (arith, c.0)

module _ {X : Type 0} (s : Window X) (h : Handle) where
  pub get_is : h.generation ≡ s.generation → get s h ≡ slice_get s.items h.index
  get_is e = ap (λ (t : Bool). if t then slice_get s.items h.index else None) (eq-eqb h.generation s.generation e)

  pub get_tells : IsSome (get s h) → (h.generation ≡ s.generation) × (h.index < length s.items)
  get_tells some = elim (cases_eq h.generation s.generation) [
    | inl e ↦ elim (cases_lt h.index (length s.items)) [
      | inl lt ↦ (e, lt)
      | inr past ↦ absurd (false≢true (subst IsSome (get_is e ∙ slice_get_past s.items h.index past) some))
    ]
    | inr ne ↦ absurd
        (false≢true
        (subst IsSome (ap (λ (t : Bool). if t then slice_get s.items h.index else None)
        (ne_eqb h.generation s.generation ne)) some))
  ]
