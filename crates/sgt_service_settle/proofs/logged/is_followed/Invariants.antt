use Rattle.std.proofs.Common.{◌≡◌, ℕ, ◌<◌, Some}
use Rattle.std.specs.Prelude.{slice_get}
use Rattle.sgt_names.specs.Entry.{Clash}
use Rattle.sgt_service_settle.specs.declared.acts.Act.{Act as AnAct}
use Rattle.sgt_service_settle.proofs.logged.is_followed.Given as goal

abbrev pub invariant-loop-second : goal.invariant-loop-second
invariant-loop-second l = (m : ℕ) (b : AnAct) → m < l.second-index → slice_get l.acts m ≡ Some b
    → l.first.place < b.place → Clash l.kind l.item l.first.entry b.entry → ⊥
