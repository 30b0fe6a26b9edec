-- A transaction is withdrawn: pledges at the sites that it touches, and its block there.
use Rattle.std.specs.Prelude.{◌≡◌, ◌⊎◌, ℕ, List, ◌++◌, length, Option, Some, None, slice_get, slice_set}
use Rattle.sgt_names.specs.Draft.{Touches}
use Rattle.sgt_names.specs.declared.draft.Touch.{Touch}
use Rattle.sgt_arena.specs.declared.handle.Handle.{Handle}
use Rattle.sgt_site.specs.State.{IsPledged, withdraw_block}
use Rattle.sgt_certifier.specs.Certifier.{State}
use Rattle.sgt_certifier.specs.History.{IsAllowed, Serves, withdraw}
use Rattle.sgt_certifier.specs.declared.call.Call.TheVariants as call
use Rattle.sgt_core_machine.specs.Machine.{Parts}
use Rattle.sgt_core_machine.specs.declared.machine.Place.{Place}
use Rattle.sgt_core_machine.specs.declared.machine.Running.{Running}

-- the pledge of the transaction stands at the site, or what stood before; and nothing else changes
pub record IsOffered (tx : ℕ) (old new : Place) : Type 0 where
  pub same : new ≡ record old { site = record old.site { pledge = new.site.pledge } }
  pub pledge : (new.site.pledge ≡ old.site.pledge) ⊎ IsPledged new.site tx

pub record AreOffered (tx : ℕ) (old new : List Place) : Type 0 where
  pub long : length new ≡ length old
  pub each : (k : ℕ) (p q : Place) → slice_get old k ≡ Some p → slice_get new k ≡ Some q
      → IsOffered tx p q

-- the pledge stands where the transaction touches the site, and else what stood before
pub record IsPledgedBy (tx : ℕ) (touched : List Touch) (old new : Place) : Type 0 where
  pub offered : IsOffered tx old new
  pub hit : Touches touched old.site.number → IsPledged new.site tx
  pub miss : (Touches touched old.site.number → ⊥) → new.site.pledge ≡ old.site.pledge

pub record ArePledgedBy (tx : ℕ) (touched : List Touch) (old new : List Place) : Type 0 where
  pub long : length new ≡ length old
  pub each : (k : ℕ) (p q : Place) → slice_get old k ≡ Some p → slice_get new k ≡ Some q
      → IsPledgedBy tx touched p q

-- the block is written where the pledge of the transaction stood
pub record IsWithdrawn (tx : ℕ) (old new : Place) : Type 0 where
  pub pledged : IsPledged old.site tx
      → new ≡ record old {
        site = record old.site {
          entries = old.site.entries ++ withdraw_block tx;
          pledge = None;
        };
      }
  pub other : (IsPledged old.site tx → ⊥) → new ≡ old

pub record AreWithdrawn (tx : ℕ) (old new : List Place) : Type 0 where
  pub long : length new ≡ length old
  pub each : (k : ℕ) (p q : Place) → slice_get old k ≡ Some p → slice_get new k ≡ Some q
      → IsWithdrawn tx p q

-- the pledge of the transaction at this place of the table, which has this handle, stands wherever
-- it touches
pub record OffersAt (old new : List Place) (table : List (Option Running)) (slot tx : ℕ) (handle : Handle) : Type 0
  where
    pub running : Running
    pub there : slice_get table slot ≡ Some (Some running)
    pub handle_is : handle ≡ running.handle
    pub pledges : ArePledgedBy tx running.draft.touched old new

-- the certifier refuses no withdrawal of the transaction at this place of the table
abbrev pub MayWithdrawAt : State → List (Option Running) → ℕ → Type 0
MayWithdrawAt s table slot = (r : Running) → slice_get table slot ≡ Some (Some r)
    → IsAllowed s (withdraw r.handle)

-- the transaction at this place of the table is withdrawn
pub record WithdrawsAt (old new : Parts) (tx slot : ℕ) : Type 0 where
  pub handle : Handle
  pub pledged : List Place
  pub offers : OffersAt old.places pledged old.table slot tx handle
  pub places : AreWithdrawn tx pledged new.places
  pub number : ℕ
  pub serves : Serves old.certifier (call.Withdraw handle number) new.certifier
  pub is : new ≡ record old {
    places = new.places;
    certifier = new.certifier;
    table = slice_set old.table slot None;
  }
