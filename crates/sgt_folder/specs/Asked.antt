-- A call, behind those before it.
use Rattle.std.specs.Prelude.{List, [], ◌∷◌, ◌++◌}
use Rattle.sgt_folder.specs.Call.{Call, Step, make, store, link, sync, unlink, remove, name}
use Rattle.sgt_folder.specs.declared.call.Ask.{Ask}
use Rattle.sgt_folder.specs.declared.call.Ask.TheVariants.{Make, Store, Link, Sync, Unlink, Remove, Name}
use Rattle.sgt_folder.specs.declared.call.FolderCall.{FolderCall}

abbrev pub step_of : Ask → Step
step_of (Make number at) = make number at
step_of (Store text) = store text.now
step_of (Link number) = link number
step_of Sync = sync
step_of (Unlink number) = unlink number
step_of Remove = remove
step_of (Name text) = name text.now

abbrev pub called : List Call → FolderCall → List Call
called calls call = calls ++ (step_of call.ask, call.answer) ∷ []
