use Rattle.std.proofs.Common.{◌≡◌, ℕ, ◌<◌, Some}
use Rattle.std.specs.Prelude.{slice_get}
use Rattle.sgt_names.specs.Entry.{Clash}
use Rattle.sgt_service_settle.specs.declared.acts.Act.{Act as AnAct}
use Rattle.sgt_service_settle.proofs.logged.are_between.Given as goal

abbrev pub invariant-loop-first : goal.invariant-loop-first
invariant-loop-first l = (n m : ℕ) (a b : AnAct) → n < l.first-index → slice_get l.from n ≡ Some a
    → slice_get l.to m ≡ Some b → a.place < b.place → Clash l.kind l.item a.entry b.entry → ⊥
