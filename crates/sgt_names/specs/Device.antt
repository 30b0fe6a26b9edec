-- What a reader tells over one read, and a writer over one write: of its bytes, and of how often it
-- has failed.
use Rattle.std.specs.Prelude.{◌≡◌, ◌≤◌, ◌<◌, ℕ, ◌+◌, List, ◌++◌, length, take, ⊤, Option, Some, None, Result, Ok, Err, if◌then◌else◌, nat_lt}
use Rattle.sgt_names.specs.declared.source.Flow.{Flow}
use Rattle.sgt_names.specs.declared.source.Flow.TheVariants.{Still, Flowing, Drained}
use Rattle.std.specs.Io.KnownBytes.{Consumes, Appends, IsAtEnd}

-- over a failure: what was told before is told still, or nothing is
abbrev pub KeepsOrForgets : Option (List ℕ) → Option (List ℕ) → Type 0
KeepsOrForgets None new = ⊤
KeepsOrForgets (Some xs) None = ⊤
KeepsOrForgets (Some xs) (Some ys) = ys ≡ xs

-- a read takes n bytes off the front and puts them into the front of the buffer; 0 only at the end,
-- or without room
abbrev pub TakesFront : {E : Type 0} → Option (List ℕ) → Option (List ℕ) → Result ℕ E → List ℕ
    → Type 0
TakesFront old new (Ok n) buffer = Consumes old new (take n buffer)
    × (n ≡ 0 → 0 < length buffer → IsAtEnd new)
TakesFront old new (Err e) buffer = KeepsOrForgets old new

-- a write puts the first n of the bytes behind those written before
abbrev pub PutsBehind : {E : Type 0} → Option (List ℕ) → Option (List ℕ) → Result ℕ E → List ℕ
    → Type 0
PutsBehind old new (Ok n) bytes = Appends old new (take n bytes)
PutsBehind old new (Err e) bytes = KeepsOrForgets old new

-- an Err alone raises the count of failures, by one
abbrev pub CountsFailures : {A E : Type 0} → Result A E → ℕ → ℕ → Type 0
CountsFailures (Ok a) old new = new ≡ old
CountsFailures (Err e) old new = new ≡ old + 1

-- over several writes: what was told before is told with these bytes behind it, or nothing is
abbrev pub AppendsOrForgets : Option (List ℕ) → Option (List ℕ) → List ℕ → Type 0
AppendsOrForgets None new bytes = ⊤
AppendsOrForgets (Some xs) None bytes = ⊤
AppendsOrForgets (Some xs) (Some ys) bytes = ys ≡ xs ++ bytes

-- a front of the bytes was written, and not all of them
abbrev pub WritesFront : Option (List ℕ) → Option (List ℕ) → List ℕ → Type 0
WritesFront old new bytes = (n : ℕ) × (n < length bytes) × AppendsOrForgets old new (take n bytes)

-- how many bytes a read gave
abbrev pub given_by : {E : Type 0} → Result ℕ E → ℕ
given_by (Ok n) = n
given_by (Err e) = 0

-- an Ok has at most so many bytes
abbrev pub AtMost : {E : Type 0} → Result ℕ E → ℕ → Type 0
AtMost (Ok n) most = n ≤ most
AtMost (Err e) most = ⊤

-- an Ok takes at least one byte of a slice that isn't empty
abbrev pub TakesSome : {E : Type 0} → Result ℕ E → ℕ → Type 0
TakesSome (Ok n) size = 0 < size → 0 < n
TakesSome (Err e) size = ⊤

-- how the bytes of a source come, once a read gave so many of those that it was asked for
abbrev pub flow_behind : Flow → (given wanted : ℕ) → Flow
flow_behind Still given wanted = Still
flow_behind Flowing given wanted = if nat_lt given wanted then Drained else Flowing
flow_behind Drained given wanted = if nat_lt given wanted then Drained else Flowing
