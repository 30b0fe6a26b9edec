-- One place comes out of a row of places and goes back, and a row of empty places is room for an array. Assumes
-- `Logic`.
use mathlib.Core.Path.{◌≡◌, refl, sym}
use Prim.Native.Nat.{ℕ, zero, suc, ◌+◌, ◌*◌, ◌<◌, ◌^◌}
use native.Mathlib.Omega.{arith}
use mathlib.Core.List.{List, [], ◌∷◌}
use lib.ListN.{length, get_or, set, replicate}
use seplogic.Ra.Ura.{Ura}
use mir.Syntax.{ty_array}
use base.Logic.{ent, sep, via, fst∗, snd∗}
use base.Fml.{Fml, Lft, ftrue, fsep, froom}
use types.Logic.{Logic, sem}
use types.Kit.{‵, ◌⊛◌, ◌$◌, ◌∵◌, !, qed, by, move, keep, use1, split, frame, rewrite, fsplit, fjoin, done}
use denote.Index.{place, place_is}
use Rattle.std.specs.Prelude.{Option, Some, None}
use Rattle.std.specs.Mem.{type_size}
use Rattle.core.proofs.mem.Param.{El, R, el_x, elτ}
use Rattle.core.proofs.ptr.Rows.{times_below, one_below}
use Rattle.sgt_arena.specs.Ownership.{slot_owned, row_owned, slot_lent, row_lent}

module _ (E : El) where
  abbrev pub sz : ℕ
  sz = type_size (R E)

  abbrev pub Slot : Type 0
  Slot = Option (el_x E)

  -- a row but for one of its places
  abbrev pub others : ℕ → ℕ → List Slot → ℕ → Fml
  others b o [] i = ftrue
  others b o (c ∷ cs) zero = row_owned (R E) b (o + sz) cs
  others b o (c ∷ cs) (suc i) = fsep (slot_owned (R E) b o c) (others b (o + sz) cs i)

-- the size of a place and the offset of one fit a word
pub offset_fits : (n s i : ℕ) → i < n → n * s < 2 ^ 63 → (s < 2 ^ 64) × (i * s < 2 ^ 64)
offset_fits n s i lt small = (
  omega (arith, one_below n s (2 ^ 63) (omega arith) small),
  omega (arith, times_below i n s (2 ^ 63) (omega arith) small),
)

module _ (E : El) {M : Type 1} {𝓤 : Ura M} (𝓛 : Logic 𝓤) (b : ℕ) where
  open 𝓛 use {H}

  abbrev s : ℕ
  s = sz E

  abbrev one : ℕ → Slot E → Fml
  one o c = slot_owned (R E) b o c

  abbrev row : ℕ → List (Slot E) → Fml
  row o cs = row_owned (R E) b o cs

  taken : (cs : List (Slot E)) (i o : ℕ) → i < length cs
      → ent 𝓤 (sem 𝓛 (row o cs)) (sep 𝓤 (sem 𝓛 (one (place s o i) (get_or cs i None))) (sem 𝓛 (others E b o cs i)))
  taken [] i o lt = absurd (omega arith)
  taken (c ∷ cs) zero o lt = qed 𝓛 (‵ (row o (c ∷ cs)) ∷ []) ∵ fsplit ! $ done !
  taken (c ∷ cs) (suc i) o lt =
      qed 𝓛 (‵ (row o (c ∷ cs)) ∷ []) ∵ fsplit ! $ move ! (1 ∷ []) $
      use1 𝓛 (‵ (one (place s (o + s) i) (get_or cs i None)) ⊛ ‵ (others E b (o + s) cs i))
      (taken cs i (o + s) (omega arith)) $ split ! $ frame ! $ move ! (1 ∷ 0 ∷ []) $ fjoin ! $ done !

  given_back : (cs : List (Slot E)) (i o : ℕ) (d : Slot E) → i < length cs
      → ent 𝓤 (sep 𝓤 (sem 𝓛 (one (place s o i) d)) (sem 𝓛 (others E b o cs i))) (sem 𝓛 (row o (set cs i d)))
  given_back [] i o d lt = absurd (omega arith)
  given_back (c ∷ cs) zero o d lt = qed 𝓛 (‵ (one o d) ∷ ‵ (row (o + s) cs) ∷ []) ∵ fjoin ! $ done !
  given_back (c ∷ cs) (suc i) o d lt =
      qed 𝓛 (‵ (one (place s (o + s) i) d) ∷ ‵ (others E b o (c ∷ cs) (suc i)) ∷ []) ∵ move ! (1 ∷ []) $ fsplit !
      $ frame ! $ move ! (1 ∷ 0 ∷ []) $ by ! (given_back cs i (o + s) d (omega arith))

  module _ (o : ℕ) (cs : List (Slot E)) (i : ℕ) (lt : i < length cs) where
    -- the place at an index, by its offset
    pub slot_out : ent 𝓤 (sem 𝓛 (row o cs))
        (sep 𝓤 (sem 𝓛 (one (i * s + o) (get_or cs i None))) (sem 𝓛 (others E b o cs i)))
    slot_out =
        qed 𝓛 (‵ (row o cs) ∷ []) ∵ use1 𝓛 (‵ (one (place s o i) (get_or cs i None)) ⊛ ‵ (others E b o cs i))
        (taken cs i o lt) $ split ! $
        rewrite ! 0 (λ (k : ℕ). ‵ (one k (get_or cs i None))) (place_is s o i) refl $ done !

    pub slot_in : (d : Slot E)
        → ent 𝓤 (sep 𝓤 (sem 𝓛 (one (i * s + o) d)) (sem 𝓛 (others E b o cs i))) (sem 𝓛 (row o (set cs i d)))
    slot_in d =
        qed 𝓛 (‵ (one (i * s + o) d) ∷ ‵ (others E b o cs i) ∷ []) ∵ rewrite ! 0 (λ (k : ℕ). ‵ (one k d))
        (sym (place_is s o i)) refl $ by ! (given_back cs i o d lt)

  module _ (κ : Lft) where
    seen : (cs : List (Slot E)) (i o : ℕ) → i < length cs
        → ent 𝓤 (sem 𝓛 (row_lent (R E) b o cs κ)) (sem 𝓛 (slot_lent (R E) b (place s o i) (get_or cs i None) κ))
    seen [] i o lt = absurd (omega arith)
    seen (c ∷ cs) zero o lt = fst∗ 𝓤 (sem 𝓛 (slot_lent (R E) b o c κ)) (sem 𝓛 (row_lent (R E) b (o + s) cs κ))
    seen (c ∷ cs) (suc i) o lt = let Rest = sem 𝓛 (row_lent (R E) b (o + s) cs κ) in
        via 𝓤 Rest (snd∗ 𝓤 (sem 𝓛 (slot_lent (R E) b o c κ)) Rest) (seen cs i (o + s) (omega arith))

    -- of a row that is lent, the place at an index is
    pub slot_seen : (o : ℕ) (cs : List (Slot E)) (i : ℕ) → i < length cs
        → ent 𝓤 (sem 𝓛 (row_lent (R E) b o cs κ)) (sem 𝓛 (slot_lent (R E) b (i * s + o) (get_or cs i None) κ))
    slot_seen o cs i lt =
        qed 𝓛 (‵ (row_lent (R E) b o cs κ) ∷ []) ∵ use1 𝓛 (‵ (slot_lent (R E) b (place s o i) (get_or cs i None) κ))
        (seen cs i o lt) $
        rewrite ! 0 (λ (k : ℕ). ‵ (slot_lent (R E) b k (get_or cs i None) κ)) (place_is s o i) refl $ done !

  -- room for an array is a row of empty places
  pub row_of_room : (n o : ℕ) → ent 𝓤 (H.room (ty_array (elτ E) n) b o) (sem 𝓛 (row o (replicate n None)))
  row_of_room zero o = qed 𝓛 (‵ (froom (ty_array (elτ E) 0) b o) ∷ []) ∵ keep ! [] $ done !
  row_of_room (suc n) o =
      qed 𝓛 (‵ (froom (ty_array (elτ E) (suc n)) b o) ∷ []) ∵ use1 𝓛
      (‵ (froom (elτ E) b o) ⊛ ‵ (froom (ty_array (elτ E) n) b (o + s))) (𝓛.laws.room_uncons (elτ E) n b o)
      $ split ! $
      use1 𝓛 (‵ (one o None)) (𝓛.laws.room-raw (elτ E) b o) $ frame ! $ by ! (row_of_room n (o + s))

  pub room_of_row : (n o : ℕ) → ent 𝓤 (sem 𝓛 (row o (replicate n None))) (H.room (ty_array (elτ E) n) b o)
  room_of_row zero o = 𝓛.laws.room_nil (elτ E) b o
  room_of_row (suc n) o =
      qed 𝓛 (‵ (row o (replicate (suc n) None)) ∷ []) ∵ fsplit ! $ use1 𝓛 (‵ (froom (elτ E) b o))
      (𝓛.laws.raw-room (elτ E) b o) $ move ! (1 ∷ []) $
      use1 𝓛 (‵ (froom (ty_array (elτ E) n) b (o + s))) (room_of_row n (o + s)) $ move ! (1 ∷ []) $ by !
      (𝓛.laws.room_cons (elτ E) n b o)
