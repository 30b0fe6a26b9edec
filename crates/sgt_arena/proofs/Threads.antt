-- The cells and the deed of a block may cross threads as the values and the allocator may.
use Rattle.std.specs.Prelude.{ℕ, ◌+◌, List, [], ◌∷◌, Option, Some, None}
use Rattle.std.specs.Mem.{type_size}
use base.Fraction.{full_share}
use base.Shift.{Keyless}
use denote.RattleType.{RattleType}
use denote.RawPtr.{Ptr, block_ptr, null_ptr}
use denote.Struct.Struct.{exits_of}
use denote.Struct.Owning.{shape, fields, to}
use denote.Param.Send.{IsSend, IsSync, Common, AllSend, part_keyless, owning_send, struct_send, struct_sync, sendable}
use Rattle.core.specs.declared.alloc.Allocator.{Ghosts}
use Rattle.std_alloc.proofs.SendSync.{FreesAnywhere, quiet}
use Rattle.sgt_arena.specs.Ownership.{row_owned, row_lent, cells_owned, cells_lent}
use Rattle.sgt_arena.specs.contracts.cells.Cells as cells
use Rattle.sgt_arena.specs.contracts.cells.Deed as deed

module _ (R : RattleType) where
  owned_anywhere : IsSend R → (p : Ptr) (slots : List (Option R.Denot)) → Keyless (cells_owned R p slots)
  owned_anywhere send null_ptr slots = tt
  owned_anywhere send (block_ptr b o) slots = (tt, row o slots)
    where
      row : (o : ℕ) (slots : List (Option R.Denot)) → Keyless (row_owned R b o slots)
      row o [] = tt
      row o (None ∷ slots) = (tt, row (o + type_size R) slots)
      row o (Some x ∷ slots) = (part_keyless R send full_share x b o, row (o + type_size R) slots)

  lent_anywhere : IsSync R → (p : Ptr) (slots : List (Option R.Denot)) → Common (cells_lent R p slots)
  lent_anywhere sync null_ptr slots κ = tt
  lent_anywhere sync (block_ptr b o) slots κ = (tt, row o slots κ)
    where
      row : (o : ℕ) (slots : List (Option R.Denot)) → Common (row_lent R b o slots)
      row o [] κ = tt
      row o (None ∷ slots) κ = (tt, row (o + type_size R) slots κ)
      row o (Some x ∷ slots) κ = (sync.shared x b o κ, row (o + type_size R) slots κ)

  pub cells_send : IsSend R → IsSend (cells.the_row R)
  cells_send send =
      let S = cells.the_type R in let all : AllSend (fields S) = (search sendable, tt) in
      owning_send S all (λ d. owned_anywhere send d.at d.slots)
      (λ k. quiet (to S) (exits_of k (fields S)) ((struct_send (shape S) all).leaving k))

  pub cells_sync : IsSync R → IsSync (cells.the_row R)
  cells_sync sync =
      let S = cells.the_type R in
      record {
        shared = λ d b o κ. (
          (struct_sync (shape S) (search sendable, tt)).shared (to S d) b o κ,
          lent_anywhere sync d.at d.slots κ,
        );
      }

  module _ (A : RattleType) (g : Ghosts A.Denot) where
    pub deed_send : FreesAnywhere A.Denot g → IsSend (deed.the_row R A g)
    deed_send free =
        let S = deed.the_type R A g in let all : AllSend (fields S) = (search sendable, tt) in
        owning_send S all (λ d. free.frees d.alloc _ d.at)
        (λ k. quiet (to S) (exits_of k (fields S)) ((struct_send (shape S) all).leaving k))

    pub deed_sync : IsSync (deed.the_row R A g)
    deed_sync = let S = deed.the_type R A g in
        record { shared = λ d b o κ. ((struct_sync (shape S) (search sendable, tt)).shared (to S d) b o κ, tt) }
