-- What a reader of lines has ahead of it, what comes next of it, and what a call that asks for it
-- gives.
use Rattle.std.specs.Prelude.{◌≡◌, ◌≢◌, ◌<◌, ◌≤◌, ℕ, ◌+◌, ◌-◌, ◌*◌, ◌^◌, ◌⊎◌, ⊤}
use Rattle.std.specs.Prelude.{List, [], ◌∷◌, ◌++◌, length, take, drop, Option, Some, None, IfSome}
use Rattle.std.specs.Io.KnownBytes.{prepend_known, Consumes}
use Rattle.sgt_names.specs.Limits.{buffer_size, most_reads}
use Rattle.sgt_notation.specs.Spelling.{HasNoLf}
use Rattle.sgt_notation.specs.declared.lines.Next.{Next}
use Rattle.sgt_notation.specs.declared.lines.Next.TheVariants.{Line, Cut, TooLong, End}

-- the bytes that were read and not yet given out, and how many more reads it makes
pub record Ahead : Type 0 where
  pub held : List ℕ
  pub reads : ℕ

-- how many bytes may still come out
abbrev pub most_left : Ahead → ℕ
most_left ahead = ahead.reads * buffer_size + length ahead.held

-- so many of the held bytes are passed over
abbrev pub passed : ℕ → Ahead → Ahead
passed n ahead = record { held = drop n ahead.held; reads = ahead.reads }

-- all that comes: what is held, and then what the source has left
abbrev pub coming : Ahead → Option (List ℕ) → Option (List ℕ)
coming ahead told = prepend_known ahead.held told

-- ---- what comes next

-- the line that comes is longer than this: there are more bytes, with no LF up to there
abbrev pub IsLongerThan : ℕ → List ℕ → Type 0
IsLongerThan size bytes = (size < length bytes) × HasNoLf (take (size + 1) bytes)

-- What comes next of these bytes, which line it is, and what is left of them.
abbrev pub IsNext : ℕ → List ℕ → Next → List ℕ → List ℕ → Type 0
-- a line with its LF, which is left out
IsNext limit bytes Line line rest = HasNoLf line × (length line ≤ limit)
    × (bytes ≡ line ++ 10 ∷ rest)
-- the bytes after the last LF
IsNext limit bytes Cut line rest = HasNoLf line × (0 < length line) × (length line ≤ limit)
    × (bytes ≡ line) × (rest ≡ [])
-- a line that is longer than the limit. Some of its bytes stand in the line, the others are left
IsNext limit bytes TooLong line rest = IsLongerThan limit bytes × (bytes ≡ line ++ rest)
-- no bytes
IsNext limit bytes End line rest = (bytes ≡ []) × (line ≡ []) × (rest ≡ [])

-- the same, of bytes that are known
abbrev pub Gives : ℕ → Option (List ℕ) → Next → List ℕ → Option (List ℕ) → Type 0
Gives limit None next line new = ⊤
Gives limit (Some bytes) next line None = ⊥
Gives limit (Some bytes) next line (Some rest) = IsNext limit bytes next line rest

-- no byte is lost: what came is the line and then what comes now, where that is still known
abbrev pub Leaves : Option (List ℕ) → List ℕ → Option (List ℕ) → Type 0
Leaves None line new = ⊤
Leaves (Some bytes) line None = ⊤
Leaves (Some bytes) line (Some rest) = bytes ≡ line ++ rest

-- each read, of those that are gone, took a byte at least
abbrev pub Spends : ℕ → Option (List ℕ) → ℕ → Option (List ℕ) → Type 0
Spends reads None reads' new = ⊤
Spends reads (Some xs) reads' None = ⊥
Spends reads (Some xs) reads' (Some ys) = reads + length ys ≤ reads' + length xs

-- the same, but for the read that met the end
abbrev pub SpendsNext : Next → ℕ → Option (List ℕ) → ℕ → Option (List ℕ) → Type 0
SpendsNext Line reads old reads' new = Spends reads old reads' new
SpendsNext TooLong reads old reads' new = Spends reads old reads' new
SpendsNext Cut reads old reads' new = Spends reads old (reads' + 1) new
SpendsNext End reads old reads' new = Spends reads old (reads' + 1) new

-- what is held still is of the last read, and so is the LF of a line that came
abbrev pub IsOfLast : Next → (held last : ℕ) → Type 0
IsOfLast Line held last = held < last
IsOfLast Cut held last = held ≤ last
IsOfLast TooLong held last = held ≤ last
IsOfLast End held last = held ≤ last

-- ---- what a call gives

-- a reader of lines with its source: what is ahead of it, what the source tells, and how often that
-- has failed
pub record Stream : Type 0 where
  pub ahead : Ahead
  pub told : Option (List ℕ)
  pub failures : ℕ

abbrev pub stream : Ahead → Option (List ℕ) → ℕ → Stream
stream ahead told failures = record { ahead = ahead; told = told; failures = failures }

-- a call that told what comes next
pub record GaveNext (limit : ℕ) (old : Stream) (next : Next) (line : List ℕ) (new : Stream) : Type 0 where
  pub gives : Gives limit (coming old.ahead old.told) next line (coming new.ahead new.told)
  pub quiet : new.failures ≡ old.failures
  pub spends : SpendsNext next old.ahead.reads old.told new.ahead.reads new.told
  pub falls : next ≡ Line → most_left new.ahead < most_left old.ahead
  -- the end is met by a read that is counted
  pub ended : (next ≡ Cut) ⊎ (next ≡ End) → new.ahead.reads < old.ahead.reads
  pub unlimited : limit ≡ 2 ^ 64 - 1 → next ≢ TooLong

-- a read fault is due: the source failed between these counts of its failures; or it was asked as
-- often as lines may ask it, and each
-- read took a byte at least
abbrev pub ReadFaultIsDue : Option (List ℕ) → (failures failures' asked asked' : ℕ) → Type 0
ReadFaultIsDue told failures failures' asked asked' = (failures < failures')
    ⊎ ((asked' ≡ asked + most_reads) × IfSome told (λ bytes. most_reads ≤ length bytes))

-- the source failed, once, at a read that is counted
abbrev pub Failed : Stream → Stream → Type 0
Failed old new = (new.failures ≡ old.failures + 1) × (new.ahead.reads < old.ahead.reads)

-- no read is left, and each of those that were made took a byte at least
abbrev pub IsSpent : Stream → Stream → Type 0
IsSpent old new = (new.ahead.reads ≡ 0) × (new.failures ≡ old.failures)
    × Spends old.ahead.reads old.told 0 new.told

-- a call that met a failing read, or had no read left: all that was read stands in the line
pub record MetReadFault (old : Stream) (line : List ℕ) (new : Stream) : Type 0 where
  pub held : new.ahead.held ≡ []
  pub left : Leaves (coming old.ahead old.told) line (coming new.ahead new.told)
  pub cause : Failed old new ⊎ IsSpent old new

-- a call whose line would not grow, where the buffer that was passed had room for so many bytes
pub record WantedMemory (limit room : ℕ) (old : Stream) (line : List ℕ) (new : Stream) : Type 0 where
  pub left : Consumes (coming old.ahead old.told) (coming new.ahead new.told) line
  pub quiet : new.failures ≡ old.failures
  pub short : room < limit
  -- the line doesn't fit, by what was read of it
  pub read : IsLongerThan room (line ++ new.ahead.held)
  -- and so by what comes
  pub wanted : IfSome (coming old.ahead old.told) (IsLongerThan room)
