use Rattle.std.proofs.Common.{◌≡◌, ◌⊎◌, ℕ, [], take, Contains}
use Rattle.sgt_certifier.specs.declared.install.Prepared.{Prepared}
use Rattle.sgt_certifier.specs.Kept.{changed_at}
use Rattle.sgt_certifier.proofs.install.add_lists.Given as goal

abbrev pub invariant-loop-touch : goal.invariant-loop-touch
invariant-loop-touch l = record {
  each : (p : Prepared) → Contains l.lists.items p → p.items ≡ changed_at l.draft.touched p.site;
  kept : (p : Prepared) → Contains l.initial.lists.items p → Contains l.lists.items p;
  all : (s : ℕ) → (changed_at (take l.touch-index l.touched) s ≡ [])
      ⊎ Contains l.lists.items (record { site = s; items = changed_at l.draft.touched s });
}
