-- What committed transactions did to each item of a site.
use Rattle.std.specs.Prelude.{◌≡◌, ◌<◌, ◌≤◌, ℕ, true, false, [], List, Option, Some, Contains, slice_get}
use Rattle.sgt_names.specs.Name.{Name}
use Rattle.sgt_names.specs.Entry.{tx_of, item_of, is_increment}
use Rattle.sgt_names.specs.declared.entry.Entry.{Entry}
use Rattle.sgt_names.specs.declared.entry.Holding.{Holding}
use Rattle.sgt_service_settle.specs.Settled.{is_read}
use Rattle.sgt_service_settle.specs.declared.deeds.Deed.{Deed}
use Rattle.sgt_service_settle.specs.declared.deeds.Track.{Track}
use Rattle.sgt_service_settle.specs.private.Words.{IsItemAt}
use Rattle.sgt_service_settle.specs.private.Index.{IsIn}

-- the operation at this place, by a transaction that the decision of this number commits, where the
-- item has this version
abbrev pub deed_of : Entry → ℕ → ℕ → ℕ → Deed
deed_of e number place version =
    record {
      tx = tx_of e;
      number = number;
      place = place;
      version = version;
      read = is_read e;
      increment =
          is_increment e;
    }

-- the one comes before the item's next version: a change before the version that it makes, a read
-- no later than the version that it met
pub record IsBefore (d : Deed) (version : ℕ) : Type 0 where
  pub read : d.read ≡ true → d.version ≤ version
  pub change : d.read ≡ false → d.version < version

-- a read is no increment
abbrev pub IsSound : Deed → Type 0
IsSound d = d.read ≡ true → d.increment ≡ false

-- the deeds stand at places before this one, and versions rise with places
pub record IsTrack (place : ℕ) (t : Track) : Type 0 where
  pub few : t.version ≤ place
  pub sound : (d : Deed) → Contains t.deeds.items d → IsSound d
  pub placed : (d : Deed) → Contains t.deeds.items d → d.place < place
  pub before : (d : Deed) → Contains t.deeds.items d → IsBefore d t.version
  pub ordered : (d e : Deed) → Contains t.deeds.items d → Contains t.deeds.items e
      → d.place < e.place → IsBefore d e.version

-- the deed of an operation is in the track of its item
pub record IsTracked (tracks : List Track) (at : ℕ) (e : Entry) (number place : ℕ) : Type 0 where
  pub track : Track
  pub at_track : slice_get tracks at ≡ Some track
  pub version : ℕ
  pub deed : Contains track.deeds.items (deed_of e number place version)

-- the tracks have the operations of committed transactions before this place of the log
pub record AreTracks (commits : List (Option ℕ)) (items : List Holding) (log : List Entry) (place : ℕ)
    (tracks : List Track)
    : Type 0 where
  pub each : (at : ℕ) (t : Track) → slice_get tracks at ≡ Some t → IsTrack place t
  pub all : (q number at : ℕ) (e : Entry) (x : Name) → q < place → slice_get log q ≡ Some e
      → item_of e ≡ Some x
      → IsIn commits (tx_of e) number → IsItemAt items x at → IsTracked tracks at e number q

abbrev pub AreBare : List Track → Type 0
AreBare tracks = (at : ℕ) (t : Track) → slice_get tracks at ≡ Some t
    → (t.deeds.items ≡ []) × (t.version ≡ 0)
