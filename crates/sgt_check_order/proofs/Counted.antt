-- How many lines commit.
use Rattle.std.proofs.Common.{◌≡◌, ℕ, ◌-◌, false, List, [], length, sym, ◌∙◌, append-nil}
use Rattle.std.specs.Prelude.{count_by}
use Rattle.sgt_history.specs.Cut.{cut}
use Rattle.sgt_history.specs.declared.history.Line.{Line}
use Rattle.sgt_history.specs.declared.history.Operation.{Operation}
use Rattle.sgt_check.proofs.Counted.{yes-cut}
use Rattle.sgt_check.specs.Text.{aborted_of, committed_of, counts_text}

pub counts-cut : (lines : List Line) (ops : List (Operation ℕ ℕ))
    → counts_text (count_by (λ (l : Line). l.commits) lines) (length lines - count_by (λ (l : Line). l.commits) lines)
    ≡ counts_text (committed_of (cut 0 lines ops)) (aborted_of (cut 0 lines ops))
counts-cut lines ops =
    sym (append-nil (counts_text (count_by (λ (l : Line). l.commits) lines)
    (length lines - count_by (λ (l : Line). l.commits) lines)))
    ∙ yes-cut (record { order = false }) (record { ids = []; items = []; values = [] }) lines ops []
    ∙ append-nil (counts_text (committed_of (cut 0 lines ops)) (aborted_of (cut 0 lines ops)))
