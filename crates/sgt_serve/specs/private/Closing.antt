-- The end of a talk.
use Rattle.std.specs.Prelude.{◌≡◌, ◌⊎◌, ℕ, ◌+◌, List, [], ◌∷◌, ◌++◌, Result, Ok, Err}
use Rattle.sgt_pipe.specs.declared.handed.KeepFault.{KeepFault}
use Rattle.sgt_pipe.specs.declared.handed.KeepFault.TheVariants as keep
use Rattle.sgt_bundle.specs.Text.{text_of}
use Rattle.sgt_core_model.specs.Core.{CoreState, bundle_of}
use Rattle.sgt_serve.specs.declared.last.Last.{Last}
use Rattle.sgt_serve.specs.declared.last.Last.TheVariants.{Done, Memory, Unwritten}
use Rattle.sgt_courses.specs.Course.{Numbered}
use Rattle.sgt_serve.specs.Ended.{EndsSo}
use Rattle.sgt_serve.specs.Place.{Kept}
use Rattle.sgt_serve.specs.Talk.{handed_texts}

-- what becomes of a bundle that isn't kept
abbrev pub lost_by : KeepFault → Last
lost_by keep.Memory = Memory
lost_by keep.Refused = Unwritten

-- the bundle of the state is kept; or there is no memory for it: a growth is refused here, or the
-- place tells just that; or the place refuses it
abbrev pub HandsOut : Last → CoreState → (kept kept' : Kept) → Type 0
HandsOut Done c kept kept' = (c.certifier.active ≡ []) × (number : ℕ)
    × (kept'.items ≡ kept.items ++ (number, text_of (bundle_of c)) ∷ [])
    × (kept'.answers ≡ kept.answers ++ Ok number ∷ []) × (kept'.refused ≡ kept.refused)
HandsOut Memory c kept kept' = (kept'.items ≡ kept.items)
    × (((kept'.answers ≡ kept.answers) × (kept'.refused ≡ kept.refused + 1))
    ⊎ ((kept'.answers ≡ kept.answers ++ Err keep.Memory ∷ []) × (kept'.refused ≡ kept.refused)))
HandsOut Unwritten c kept kept' = (kept'.items ≡ kept.items)
    × (kept'.answers ≡ kept.answers ++ Err keep.Refused ∷ []) × (kept'.refused ≡ kept.refused)

-- the last bundle fares so, and is kept if it is
abbrev pub ClosesSo : Last → CoreState → (kept kept' : Kept) → Type 0
ClosesSo fared c kept kept' = (last : List Numbered) × (said : List (Result ℕ KeepFault))
    × (refused : ℕ) × EndsSo fared c last said refused
    × (kept'.items ≡ kept.items ++ handed_texts last) × (kept'.answers ≡ kept.answers ++ said)
    × (kept'.refused ≡ kept.refused + refused)
