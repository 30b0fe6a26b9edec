-- Where the operations of a line stand.
use Rattle.std.proofs.Common.{◌≡◌, ℕ, suc, ◌+◌, ◌-◌, ◌<◌, List, Some, length, take, sym, subst, arith}
use Rattle.std.specs.Prelude.{slice_get}
use Rattle.std.proofs.lemmas.Option.{slice_get_within}
use Rattle.sgt_history.specs.declared.history.Line.{Line}
use Rattle.sgt_history.specs.declared.history.Operation.{Operation}
use Rattle.sgt_history.specs.Transaction.{Transaction}
use Rattle.sgt_history.specs.Cut.{cut, end_of}
use Rattle.sgt_history_faults.proofs.Bounds.{end_of-take}
pub use Rattle.sgt_history_faults.proofs.Bounds.{cut_at, length-cut}

pub begin-before : (lines : List Line) (n : ℕ) (l : Line) → 0 < n → slice_get lines (n - 1) ≡ Some l
    → l.end ≡ end_of 0 (take n lines)
begin-before lines n l some at =
    let same : suc (n - 1) ≡ n = omega (arith, some) in
    sym (subst (λ k. end_of 0 (take k lines) ≡ l.end) same (end_of-take 0 lines (n - 1) l at))

pub line-within : (lines : List Line) (ops : List (Operation ℕ ℕ)) (n : ℕ) (t : Transaction ℕ ℕ)
    → slice_get (cut 0 lines ops) n ≡ Some t → n < length lines
line-within lines ops n t at = omega (arith, slice_get_within (cut 0 lines ops) n t at, length-cut 0 lines ops)
