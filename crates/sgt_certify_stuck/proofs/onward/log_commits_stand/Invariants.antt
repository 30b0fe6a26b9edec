use Rattle.std.proofs.Common.{◌≡◌, ℕ, ◌<◌, Some}
use Rattle.std.specs.Prelude.{slice_get}
use Rattle.sgt_names.specs.declared.entry.Entry.{Entry}
use Rattle.sgt_names.specs.declared.entry.Entry.TheVariants.{Commit}
use Rattle.sgt_certify_stuck.specs.Onward.{StandsAt}
use Rattle.sgt_certify_stuck.proofs.onward.log_commits_stand.Given as goal

abbrev pub invariant-loop-entry : goal.invariant-loop-entry
invariant-loop-entry l = (k : ℕ) (e : Entry) → k < l.entry-index → slice_get l.entries k ≡ Some e
    → (t : ℕ) → e ≡ Commit t → (place : ℕ) × StandsAt l.places t place
