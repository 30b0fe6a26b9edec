-- Sources and sinks over memory.
use Rattle.std.specs.Prelude.{◌≡◌, ℕ, ◌+◌, ◌-◌, ◌<◌, ◌^◌, List, ◌++◌, length, take, drop, min, Option, Some, option_map}

-- what contracts see of a source: the bytes that are left, how many it gives at a read at most, how
-- many more reads succeed where not
-- all do, how often it has failed, how often it was asked, and how many bytes the last read gave
pub record Supply : Type 0 where
  pub rest : List ℕ
  pub per_read : ℕ
  pub good : Option ℕ
  pub failures : ℕ
  pub asked : ℕ
  pub last : ℕ

-- the next read fails (a count of failures has an end, past which it doesn't)
abbrev pub MustFail : Supply → Type 0
MustFail s = (s.good ≡ Some 0) × (s.failures < 2 ^ 64 - 1)

-- a read gives n bytes: as many as it may, as are left and as there is room for
pub record Supplies (old new : Supply) (buffer buffer' : List ℕ) (n : ℕ) : Type 0 where
  pub size : n ≡ min (min (length old.rest) old.per_read) (length buffer)
  pub given : buffer' ≡ take n old.rest ++ drop n buffer
  pub left : new
      ≡ record old {
        rest = drop n old.rest;
        good = option_map (λ g. g - 1) old.good;
        asked = old.asked + 1;
        last = n;
      }

-- what contracts see of a sink: the bytes that it took, how many more it takes, and how often it
-- has failed
pub record Room : Type 0 where
  pub bytes : List ℕ
  pub room : ℕ
  pub failures : ℕ

-- the next write of these bytes fails
abbrev pub IsFull : Room → List ℕ → Type 0
IsFull s bytes = (s.room ≡ 0) × (0 < length bytes) × (s.failures < 2 ^ 64 - 1)

-- no room is left and no more failures are counted, so what comes is dropped
abbrev pub IsSpent : Room → Type 0
IsSpent s = (s.room ≡ 0) × (s.failures ≡ 2 ^ 64 - 1)

-- a write takes the first n of the bytes: as many as there are, and as there is room for
pub record Takes (old new : Room) (bytes : List ℕ) (n : ℕ) : Type 0 where
  pub size : n ≡ min (length bytes) old.room
  pub taken : new ≡ record old { bytes = old.bytes ++ take n bytes; room = old.room - n }
