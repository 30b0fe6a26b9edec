-- A block of memory that was allocated and holds no value.
use Rattle.std.specs.Prelude.{◌≡◌, ℕ, replicate, None}
use Rattle.sgt_arena.specs.declared.cells.Base.{Base}
use Rattle.sgt_arena.specs.declared.cells.Cells.{Cells}
use Rattle.sgt_arena.specs.declared.cells.Deed.{Deed}

module _ {X A : Type 0} where
  -- the cells and the deed are of one block at the base, with n places that hold nothing, from this
  -- allocator
  abbrev pub IsEmptyBlock : Base X → Cells X → Deed X A → ℕ → A → Type 0
  IsEmptyBlock base cells deed n alloc =
      (cells.at ≡ base.ptr) × (cells.slots ≡ replicate n None) × (deed.at ≡ base.ptr)
      × (deed.len ≡ n) × (deed.alloc ≡ alloc)
