use Rattle.std.proofs.Common.{◌≡◌, ◌⊎◌, ℕ, [], take, Contains}
use Rattle.sgt_names.specs.DraftParts.{touched_in}
use Rattle.sgt_certifier.specs.declared.install.Prepared.{Prepared}
use Rattle.sgt_certifier.specs.Kept.{changed_at}
use Rattle.sgt_certifier.proofs.install.prepared_lists.Given as goal

abbrev pub invariant-loop-part : goal.invariant-loop-part
invariant-loop-part l = record {
  each : (p : Prepared) → Contains l.lists.items p → p.items ≡ changed_at l.draft.touched p.site;
  all : (s : ℕ) → (changed_at (touched_in (take l.part-index l.parts)) s ≡ [])
      ⊎ Contains l.lists.items (record { site = s; items = changed_at l.draft.touched s });
}
