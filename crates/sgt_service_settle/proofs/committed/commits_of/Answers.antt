use Rattle.std.proofs.Common.{◌≡◌, ◌↔◌, ℕ, sym, ap, subst, arith, length, List, Option}
use Rattle.sgt_bundle.specs.Certificate.{IsCommitted}
use Rattle.sgt_service_settle.specs.private.Index.{IsIn}
use Rattle.sgt_service_settle.proofs.Rowing.{written_back}
use Rattle.sgt_service_settle.proofs.committed.commits_of.Goals as goal

pub returns : goal.returns
returns c =
    let old = c.in_ok-commits.commits in
    let new = c.note_commits.new.commits in
    let same : length new ≡ length c.as_mut_slice.result.now = c.note_commits.auto.commits in
    let long : length c.as_mut_slice.result.now ≡ length old.items = ap length c.as_mut_slice.ensures.value in
    let back = written_back old.items new old.len (omega (arith, old.ok.0, same, long)) in
    let P : List (Option ℕ) → Type 0 = λ xs. (tx number : ℕ)
    → IsIn xs tx number ↔ ((rank : ℕ) × IsCommitted c.args.decisions.now number tx rank) in
    subst P (sym back) c.note_commits.ensures
