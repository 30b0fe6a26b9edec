-- The calls of a folder.
use Rattle.std.specs.Prelude.{ℕ, List, Result}
use Rattle.sgt_folder.specs.declared.fault.FolderFault.{FolderFault}

-- what a folder is asked: a new file beside the name of a number, in a place there; this text stored in it; the
-- number's name for it; the folder's names stored; the number's name taken away; the new file taken away; and the next
-- name in the folder, which is this one
pub data Step : Type 0 where
  make : (number at : ℕ) → Step
  store : (text : List ℕ) → Step
  link : (number : ℕ) → Step
  sync : Step
  unlink : (number : ℕ) → Step
  remove : Step
  name : (text : List ℕ) → Step

-- what came of it
abbrev pub Came : Type 0
Came = Result (Unit {0}) FolderFault

-- what it is asked, and what it answers
abbrev pub Call : Type 0
Call = Step × Came
