-- What is done in a folder to keep a bundle, call by call, and to begin.
use Rattle.std.specs.Prelude.{◌≡◌, ◌≢◌, ◌+◌, ℕ, List, [], ◌∷◌, ◌++◌, Option, Some, None, Result, Ok, Err, String, map, string_bytes}
use Rattle.sgt_folder.specs.Call.{Call, Came, make, store, link, sync, unlink, remove, name}
use Rattle.sgt_folder.specs.Name.{IsGreatest}
use Rattle.sgt_folder.specs.declared.fault.FolderFault.{FolderFault}
use Rattle.sgt_folder.specs.declared.fault.FolderFault.TheVariants.{Memory, Taken}

-- the files of the first n places beside a number's name were tried, and each was there
pub data Tries (number : ℕ) : ℕ → List Call → Type 0 where
  none : Tries number 0 []
  more : {n : ℕ} {calls : List Call} → Tries number n calls
      → Tries number (n + 1) (calls ++ (make number n, Err Taken) ∷ [])

-- a new file was made beside it, in the first place where none was; or a try failed; or there was one in each of the
-- thousand places
pub data Makes (number : ℕ) : List Call → Came → Type 0 where
  made : {n : ℕ} {calls : List Call} → Tries number n calls
      → Makes number (calls ++ (make number n, Ok tt) ∷ []) (Ok tt)
  failed : {n : ℕ} {calls : List Call} {fault : FolderFault} → Tries number n calls → fault ≢ Taken
      → Makes number (calls ++ (make number n, Err fault) ∷ []) (Err fault)
  full : {calls : List Call} → Tries number 1000 calls → Makes number calls (Err Taken)

-- the text was stored, then linked under the number's name, and then the folder's names were stored. What fails is the
-- last that is done, and a name that was given is taken away again
pub data Names (number : ℕ) (text : List ℕ) : List Call → Came → Type 0 where
  named : Names number text ((store text, Ok tt) ∷ (link number, Ok tt) ∷ (sync, Ok tt) ∷ []) (Ok tt)
  unstored : {fault : FolderFault} → Names number text ((store text, Err fault) ∷ []) (Err fault)
  unlinked : {fault : FolderFault}
      → Names number text ((store text, Ok tt) ∷ (link number, Err fault) ∷ []) (Err fault)
  unsynced : {fault : FolderFault} (came : Came) → Names number text
      ((store text, Ok tt) ∷ (link number, Ok tt) ∷ (sync, Err fault) ∷ (unlink number, came) ∷ []) (Err fault)

-- the text was kept under the number's name: a new file was made beside it, the text was named, and the new file was
-- taken away; or it was not kept, and has no name
pub data Keeps (number : ℕ) (text : List ℕ) : List Call → Result ℕ FolderFault → Type 0 where
  kept : {made named : List Call} (came : Came) → Makes number made (Ok tt) → Names number text named (Ok tt)
      → Keeps number text (made ++ (named ++ (remove, came) ∷ [])) (Ok number)
  unnamed : {made named : List Call} {fault : FolderFault} (came : Came) → Makes number made (Ok tt)
      → Names number text named (Err fault) → Keeps number text (made ++ (named ++ (remove, came) ∷ [])) (Err fault)
  unmade : {made : List Call} {fault : FolderFault} → Makes number made (Err fault) → Keeps number text made (Err fault)

-- how many of the calls told that a growth was refused
abbrev pub refusal_of : Came → ℕ
refusal_of (Err Memory) = 1
refusal_of _ = 0

abbrev pub refusals_of : List Call → ℕ
refusals_of [] = 0
refusals_of (call ∷ calls) = refusal_of call.1 + refusals_of calls

-- the folder told its next name, or none
abbrev pub Tells : {A : Type 0} → List Call → Result (Option (String A)) FolderFault → List Call → Type 0
Tells calls (Ok (Some text)) calls' = calls' ≡ calls ++ (name (string_bytes text), Ok tt) ∷ []
Tells calls (Ok None) calls' = calls' ≡ calls
Tells calls (Err fault) calls' = calls' ≡ calls

-- these names were told, one behind the other
abbrev pub telling : List (List ℕ) → List Call
telling names = map (λ (text : List ℕ). (name text, Ok tt)) names

-- the folder's names were told, and this is the greatest number of a bundle among them; a new file could be made
-- beside the next number's name, and was taken away
pub record Opens (calls : List Call) (greatest : ℕ) : Type 0 where
  pub names : List (List ℕ)
  pub made : List Call
  pub is_greatest : IsGreatest names greatest
  pub makes : Makes (greatest + 1) made (Ok tt)
  pub are : calls ≡ telling names ++ (made ++ (remove, Ok tt) ∷ [])
