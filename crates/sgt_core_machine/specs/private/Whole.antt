-- A transaction is gathered wherever it touches, decided, and its blocks are written: what is so
-- between the parts.
use Rattle.std.specs.Prelude.{◌≡◌, ◌↔◌, ◌<◌, ◌≤◌, ℕ, Bool, true, List, [], ◌∷◌, length, map, filter, Contains, Some}
use Rattle.std.specs.List.{range_with_len}
use Rattle.sgt_names.specs.Draft.{Touches}
use Rattle.sgt_names.specs.declared.draft.Touch.{Touch}
use Rattle.sgt_notation.specs.declared.event.Event.TheVariants.{Gather, Install, Commit}
use Rattle.sgt_core_model.specs.declared.reply.Reply.{Reply}
use Rattle.sgt_core_model.specs.declared.reply.Reply.TheVariants.{Gathered, Installed, Fault}
use Rattle.sgt_core_model.specs.declared.reply.CoreFault.{CoreFault}
use Rattle.sgt_core_model.specs.declared.reply.CoreFault.TheVariants as fault
use Rattle.sgt_core_model.specs.Core.{CoreState, touches, touched}
use Rattle.sgt_core_model.specs.Step.{IsOtherOpen, gathered_in, IsRefused, IsAllowed, ServesAll, MayDecide}

-- the sites below this number that are touched, rising
abbrev pub AreTouched : List Touch → ℕ → List ℕ → Type 0
AreTouched touched count sites = (p : ℕ → Bool) → ((s : ℕ) → (p s ≡ true) ↔ Touches touched s)
    → sites ≡ filter p (range_with_len 0 count)

-- the transaction may be committed, and touches these sites
pub record IsWhole (c : CoreState) (tx : ℕ) (sites : List ℕ) : Type 0 where
  pub allowed : IsAllowed c (Commit tx)
  pub all : sites ≡ touched c tx

-- a whole commit is refused, or there is no memory for it
abbrev pub RefusesWhole : CoreState → ℕ → CoreFault → Type 0
RefusesWhole c tx fault.Memory = IsAllowed c (Commit tx)
RefusesWhole c tx f = IsRefused c (Commit tx) f

-- the transaction, of which no step was open, is gathered at these sites and no others
pub record GathersAll (old : CoreState) (tx : ℕ) (sites : List ℕ) (new : CoreState) : Type 0 where
  pub serves : ServesAll old (map (Gather tx) sites) (map (λ s. Gathered) sites) new
  pub same : new ≡ record old { step = new.step }
  pub alone : IsOtherOpen new tx → ⊥
  pub gathered : (s : ℕ) → Contains sites s ↔ Contains (gathered_in new.step) s

-- the transaction is decided, and its block is due at the site
pub record IsBlockDue (c : CoreState) (tx s : ℕ) : Type 0 where
  pub active : Contains c.certifier.active tx
  pub begun : tx ≤ c.certifier.begun
  pub alone : IsOtherOpen c tx → ⊥
  pub decided : c.certifier.step ≡ Some tx
  pub inside : s < length c.items
  pub touched : touches c tx s ≡ true
  pub due : c.due s ≡ [] → ⊥

-- its block is due at each of the sites, which are apart. Where there are none, its step may have
-- ended
abbrev pub AwaitsBlocks : CoreState → ℕ → List ℕ → Type 0
AwaitsBlocks c tx [] = Unit {0}
AwaitsBlocks c tx (s ∷ sites) = IsBlockDue c tx s
    × ((Contains sites s → ⊥) × AwaitsBlocks c tx sites)

-- the transaction is gathered at each of its sites and decided. After a verdict its blocks are due
-- there
abbrev pub DecidesWhole : CoreState → ℕ → List ℕ → Reply → CoreState → Type 0
DecidesWhole old tx sites (Fault f) new = MayDecide old tx (Fault f) new
DecidesWhole old tx sites verdict new = MayDecide old tx verdict new × AwaitsBlocks new tx sites

-- the blocks are written
abbrev pub InstallsAll : CoreState → ℕ → List ℕ → CoreState → Type 0
InstallsAll old tx sites new =
    ServesAll old (map (Install tx) sites) (map (λ s. Installed) sites) new
