-- What happens at a pipe, added to what happened before.
use Rattle.std.specs.Prelude.{◌≡◌, ◌<◌, ℕ, ◌+◌, ◌-◌, ◌^◌, List, [], ◌∷◌, ◌++◌, length, take, Option, Result, Ok, Err}
use Rattle.std.specs.Io.KnownBytes.{Appends}
use Rattle.sgt_names.specs.Device.{AppendsOrForgets, KeepsOrForgets}
use Rattle.sgt_names.specs.Limits.{max_line, buffer_size}
use Rattle.sgt_pipe.specs.declared.history.Act.{Act}
use Rattle.sgt_pipe.specs.declared.history.Act.TheVariants.{Asks, Gives, Writes}

-- the bytes that were given
abbrev pub given_by : List ℕ → Act → List ℕ
given_by given (Gives bytes) = given ++ bytes.now
given_by given _ = given

-- the bytes that were written
abbrev pub written_by : List ℕ → Act → List ℕ
written_by written (Writes bytes) = written ++ bytes.now
written_by written _ = written

-- at each read, what was given and what was written before it
abbrev pub waits_by : (given written : List ℕ) → List (List ℕ × List ℕ) → Act → List (List ℕ × List ℕ)
waits_by given written waits Asks = waits ++ (given, written) ∷ []
waits_by given written waits _ = waits

-- ---- a call

-- a read gave the first n bytes of the buffer, or none
abbrev pub GivesSo : {E : Type 0} → Result ℕ E → List ℕ → (old new : List ℕ) → Type 0
GivesSo (Ok n) buffer old new = new ≡ old ++ take n buffer
GivesSo (Err e) buffer old new = new ≡ old

-- all of the bytes were written: so the writer tells it, and so the history
abbrev pub WritesAll : List ℕ → (told told' : Option (List ℕ)) → (written written' : List ℕ) → Type 0
WritesAll bytes told told' written written' = Appends told told' bytes
    × (written' ≡ written ++ bytes)

-- a write put the first n of the bytes behind those written before, or none
abbrev pub WritesSo : {E : Type 0} → Result ℕ E → List ℕ → (told told' : Option (List ℕ))
    → (written written' : List ℕ) → Type 0
WritesSo (Ok n) bytes told told' written written' =
    WritesAll (take n bytes) told told' written written'
WritesSo (Err e) bytes told told' written written' = KeepsOrForgets told told'
    × (written' ≡ written)

-- a front of the bytes was written, and not all of them
abbrev pub WritesPart : List ℕ → (told told' : Option (List ℕ)) → (written written' : List ℕ) → Type 0
WritesPart bytes told told' written written' = (n : ℕ) × (n < length bytes)
    × AppendsOrForgets told told' (take n bytes) × (written' ≡ written ++ take n bytes)

-- ---- what a place for bundles was handed

-- the bundles that it keeps, each with its number and its text: this one too, if the answer is a number
abbrev pub kept_by : {E : Type 0} → List (ℕ × List ℕ) → List ℕ → Result ℕ E → List (ℕ × List ℕ)
kept_by kept text (Ok number) = kept ++ (number, text) ∷ []
kept_by kept text (Err fault) = kept

-- ---- what an inbox shows

-- the bytes that came and weren't taken, and how many more reads it makes
pub record Held : Type 0 where
  pub held : List ℕ
  pub reads : ℕ

-- the room of an inbox: for a line and a read
abbrev pub inbox_room : ℕ
inbox_room = max_line + buffer_size

-- how many reads an inbox makes at most
abbrev pub all_reads : ℕ
all_reads = 2 ^ 64 - 1
