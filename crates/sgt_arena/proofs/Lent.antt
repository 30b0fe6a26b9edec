-- A `&` to the places is made where one to a value is, and may be copied. Assumes `Logic`.
use Prim.Native.Nat.{ℕ, ◌+◌}
use Rattle.std.specs.Prelude.{List, [], ◌∷◌, Option, Some, None}
use Rattle.std.specs.Mem.{type_size}
use seplogic.Ra.Ura.{Ura}
use base.Fml.{Lft, Incl, ftrue, ffalse}
use types.Logic.{Logic}
use denote.RattleType.{RattleType, RowLaws}
use denote.Param.Laws.{Laws}
use denote.RawPtr.{Ptr, block_ptr, null_ptr}
use denote.Sharing.{ShrLaws, said}
use denote.SharingLaws.{beside_shr_laws, nothing_shr_laws, said_shr_laws}
use denote.Shares.{Shares-less}
use denote.Struct.Lending.{Lends, Lends-both, Lends-nothing, Lends-said, Lends-false}
use Rattle.sgt_arena.specs.Ownership.{slot_owned, row_owned, slot_lent, row_lent, are_small, cells_owned, cells_lent}

-- what is lent can be copied, and lent for less time
module _ (R : RattleType) (L : RowLaws R) where
  row_laws : (b o : ℕ) (slots : List (Option R.Denot)) → ShrLaws (row_lent R b o slots)
  row_laws b o [] = nothing_shr_laws
  row_laws b o (Some x ∷ slots) = beside_shr_laws (slot_lent R b o (Some x)) (row_lent R b (o + type_size R) slots)
      (L x b o) (row_laws b (o + type_size R) slots)
  row_laws b o (None ∷ slots) =
      beside_shr_laws (slot_lent R b o None) (row_lent R b (o + type_size R) slots) nothing_shr_laws
      (row_laws b (o + type_size R) slots)

  pub cells_laws : (p : Ptr) (slots : List (Option R.Denot)) → ShrLaws (cells_lent R p slots)
  cells_laws null_ptr slots = said_shr_laws ffalse tt
  cells_laws (block_ptr b o) slots =
      beside_shr_laws (said (are_small R slots)) (row_lent R b o slots) (said_shr_laws (are_small R slots) tt)
      (row_laws b o slots)

-- a borrow of what is owned gives what is lent
module _ {M : Type 1} {𝓤 : Ura M} (𝓛 : Logic 𝓤) (l : Lft) (R : RattleType) (L : Laws R) (shorter : Incl l R.lives) where
  of_slot : (b o : ℕ) (slot : Option R.Denot) → Lends 𝓛 (slot_owned R b o slot) (slot_lent R b o slot) l
  of_slot b o None = Lends-nothing 𝓛 (slot_owned R b o None) l
  of_slot b o (Some x) = λ κ tokens. Shares-less 𝓛 R R.lives l shorter (L.shares 𝓛) x κ tokens b o

  of_row : (b o : ℕ) (slots : List (Option R.Denot)) → Lends 𝓛 (row_owned R b o slots) (row_lent R b o slots) l
  of_row b o [] = Lends-nothing 𝓛 ftrue l
  of_row b o (slot ∷ slots) =
      let rest = o + type_size R in
      Lends-both 𝓛 (slot_owned R b o slot) (row_owned R b rest slots) (slot_lent R b o slot) (row_lent R b rest slots)
      l (of_slot b o slot) (of_row b rest slots)

  pub of_cells : (p : Ptr) (slots : List (Option R.Denot)) → Lends 𝓛 (cells_owned R p slots) (cells_lent R p slots) l
  of_cells null_ptr slots = Lends-false 𝓛 (said ffalse) l
  of_cells (block_ptr b o) slots =
      let small = are_small R slots in
      Lends-both 𝓛 small (row_owned R b o slots) (said small) (row_lent R b o slots) l (Lends-said 𝓛 small tt l)
      (of_row b o slots)
