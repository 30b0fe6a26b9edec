-- A line is answered by a core that stands for states of the model.
use Rattle.std.specs.Prelude.{◌≡◌, ℕ, ◌+◌, List, ◌++◌, Result}
use Rattle.sgt_pipe.specs.declared.handed.KeepFault.{KeepFault}
use Rattle.sgt_pipe.specs.declared.handed.KeepFault.TheVariants as keep
use Rattle.sgt_core_model.specs.Core.{CoreState}
use Rattle.sgt_core_machine.specs.Machine.{Parts, StandsFor}
use Rattle.sgt_core_model.specs.declared.reply.CoreFault.{CoreFault}
use Rattle.sgt_core_model.specs.declared.reply.CoreFault.TheVariants as core_fault
use Rattle.sgt_courses.specs.declared.answer.Answer.{Answer}
use Rattle.sgt_courses.specs.declared.answer.CutFault.{CutFault}
use Rattle.sgt_courses.specs.declared.answer.CutFault.TheVariants as cut_fault
use Rattle.sgt_courses.specs.Course.{MayTake, Numbered}
use Rattle.sgt_serve.specs.Place.{Kept, PlaceSays}
use Rattle.sgt_serve.specs.Talk.{handed_texts}

-- what the place answered in between, where a line is answered so, and how many growths were refused
abbrev pub Says : Answer → (kept kept' : Kept) → Type 0
Says answer kept kept' = (said : List (Result ℕ KeepFault)) × (refused : ℕ)
    × PlaceSays answer said refused × (kept'.answers ≡ kept.answers ++ said)
    × (kept'.refused ≡ kept.refused + refused)

-- from each state that the core stood for, the line is answered so, and its bundles are kept
abbrev pub Takes : (old : Parts) → List ℕ → Answer → (kept kept' : Kept) → (new : Parts) → Type 0
Takes old line answer kept kept' new = ((c : CoreState) → StandsFor old c
    → (d : CoreState) × (handed : List Numbered) × MayTake c line answer handed d
    × (kept'.items ≡ kept.items ++ handed_texts handed) × StandsFor new d)
    × Says answer kept kept'

-- how it is told that there is no bundle
abbrev pub cut_fault_of : CoreFault → CutFault
cut_fault_of core_fault.ActiveLeft = cut_fault.ActiveLeft
cut_fault_of _ = cut_fault.Memory

-- how many growths were refused where there is no bundle for that
abbrev pub refused_for : CoreFault → ℕ
refused_for core_fault.ActiveLeft = 0
refused_for _ = 1

-- how it is told that the bundle isn't kept
abbrev pub uncut_by : KeepFault → CutFault
uncut_by keep.Memory = cut_fault.Memory
uncut_by keep.Refused = cut_fault.Unwritten
