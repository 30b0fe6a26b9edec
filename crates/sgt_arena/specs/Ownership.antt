-- What is owned of a block of memory whose places hold values of the row R, and what a `&` to it
-- lends.
use Rattle.std.specs.Prelude.{ℕ, ◌+◌, ◌*◌, ◌^◌, List, [], ◌∷◌, length, Option, Some, None}
use Rattle.std.specs.Mem.{type_size}
use base.Fraction.{full_share}
use base.Fml.{Lft, Fml, ftrue, ffalse, fsep, flt, froom}
use mir.Syntax.{Ty, ty_array}
use mir.Raw.{raw}
use denote.RattleType.{RattleType}
use denote.Memory.{lone, part_at, shared_of}
use denote.Sharing.{nothing, said, beside}
use denote.RawPtr.{Ptr, block_ptr, null_ptr}

module _ (R : RattleType) where
  -- the place that begins `o` bytes into the memory block `b`: its value, or room where nothing was
  -- written
  abbrev pub slot_owned : ℕ → ℕ → Option R.Denot → Fml
  slot_owned b o (Some x) = part_at R full_share x b o
  slot_owned b o None = froom (raw (lone R.mir)) b o

  -- places side by side, the first of which begins there
  abbrev pub row_owned : ℕ → ℕ → List (Option R.Denot) → Fml
  row_owned b o [] = ftrue
  row_owned b o (slot ∷ slots) = fsep (slot_owned b o slot) (row_owned b (o + type_size R) slots)

  -- a `&` to a place lends its value
  abbrev pub slot_lent : ℕ → ℕ → Option R.Denot → Lft → Fml
  slot_lent b o (Some x) = shared_of R x b o
  slot_lent b o None = nothing

  abbrev pub row_lent : ℕ → ℕ → List (Option R.Denot) → Lft → Fml
  row_lent b o [] = nothing
  row_lent b o (slot ∷ slots) = beside (slot_lent b o slot) (row_lent b (o + type_size R) slots)

  -- the places take fewer than 2 ^ 63 bytes, so that an offset into them fits a word
  abbrev pub are_small : List (Option R.Denot) → Fml
  are_small slots = flt (length slots * type_size R) (2 ^ 63)

  abbrev pub cells_owned : Ptr → List (Option R.Denot) → Fml
  cells_owned (block_ptr b o) slots = fsep (are_small slots) (row_owned b o slots)
  cells_owned null_ptr slots = ffalse

  abbrev pub cells_lent : Ptr → List (Option R.Denot) → Lft → Fml
  cells_lent (block_ptr b o) slots = beside (said (are_small slots)) (row_lent b o slots)
  cells_lent null_ptr slots = said ffalse

  -- what the allocator asks for, to take `n` places at `p` back
  abbrev pub deed_owned : (Ty → Ptr → Fml) → Ptr → ℕ → Fml
  deed_owned token p n = token (raw (ty_array (lone R.mir) n)) p
