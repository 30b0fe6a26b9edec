-- The text of a yes, by the lines of a history.
use Rattle.std.proofs.Common.{◌≡◌, ℕ, zero, suc, ◌+◌, ◌-◌, Bool, true, false, List, [], ◌∷◌, ◌++◌, Option, Some, None, length, take, drop, cond, refl, sym, ap, ap₂, ◌∙◌, subst, codes}
use Rattle.std.specs.List.{flat_map}
use Rattle.std.specs.Prelude.{slice_get, count_by, if◌then◌else◌}
use Rattle.std.proofs.lemmas.List.Sums.{sum_by-cons}
use Rattle.sgt_history.specs.Cut.{cut}
use Rattle.sgt_history.specs.Transaction.{Transaction}
use Rattle.sgt_history.specs.declared.history.Line.{Line}
use Rattle.sgt_history.specs.declared.history.Operation.{Operation}
use Rattle.sgt_history_faults.proofs.Bounds.{length-cut}
use Rattle.sgt_history_verdict.specs.Verdict.{committed_in, with_committed}
use Rattle.sgt_check.specs.Text.{Spelling, aborted_of, committed_of, counts_text, id_line, order_part}
use Rattle.sgt_check.specs.Told.{commits_at, commits_in, id_part, ids_text, spelled, yes_text}
use Rattle.sgt_check.specs.declared.naming.Naming.{Naming}
use Rattle.sgt_check.specs.declared.options.Options.{Options}

committed-cut : (from : ℕ) (lines : List Line) (ops : List (Operation ℕ ℕ))
    → committed_of (cut from lines ops) ≡ count_by (λ (l : Line). l.commits) lines
committed-cut from [] ops = refl
committed-cut from (l ∷ ls) ops =
    let t : Transaction ℕ ℕ = record { commits = l.commits; operations = take (l.end - from) (drop from ops) } in
    sum_by-cons (λ (u : Transaction ℕ ℕ). cond u.commits 1 0) t (cut l.end ls ops)
    ∙ ap (λ n. cond l.commits 1 0 + n) (committed-cut l.end ls ops)
    ∙ sym (sum_by-cons (λ (k : Line). cond k.commits 1 0) l ls)

aborted-cut : (lines : List Line) (ops : List (Operation ℕ ℕ))
    → aborted_of (cut 0 lines ops) ≡ length lines - count_by (λ (l : Line). l.commits) lines
aborted-cut lines ops = ap₂ (λ m n. m - n) (length-cut 0 lines ops) (committed-cut 0 lines ops)

-- whether the transaction commits, if there is one
abbrev commits_of : Option (Transaction ℕ ℕ) → Bool
commits_of None = false
commits_of (Some t) = t.commits

commits-cut : (from : ℕ) (lines : List Line) (ops : List (Operation ℕ ℕ)) (n : ℕ)
    → commits_in (slice_get lines n) ≡ commits_of (slice_get (cut from lines ops) n)
commits-cut from [] ops n = refl
commits-cut from (l ∷ ls) ops zero = refl
commits-cut from (l ∷ ls) ops (suc n) = commits-cut l.end ls ops n

module _ (s : Spelling ℕ ℕ) where
  chosen : (t : Transaction ℕ ℕ) (line : ℕ) (rest : List ℕ) (b : Bool) → b ≡ t.commits
      → (if b then id_line s line else []) ++ flat_map (id_line s) rest ≡ flat_map (id_line s)
      (if t.commits then line ∷ rest else rest)
  chosen t line rest true is = rw (sym is) refl
  chosen t line rest false is = rw (sym is) refl

  part : (o : Option (Transaction ℕ ℕ)) (line : ℕ) (rest : List ℕ) (b : Bool) → b ≡ commits_of o
      → (if b then id_line s line else []) ++ flat_map (id_line s) rest ≡ flat_map (id_line s)
      (with_committed o line rest)
  part None line rest b is = rw is refl
  part (Some t) line rest b is = chosen t line rest b is

  ids-cut : (lines : List Line) (ops : List (Operation ℕ ℕ)) (order : List ℕ)
      → flat_map (id_part s lines) order ≡ flat_map (id_line s) (committed_in (cut 0 lines ops) order)
  ids-cut lines ops [] = refl
  ids-cut lines ops (line ∷ order) =
      ap (λ (text : List ℕ). id_part s lines line ++ text) (ids-cut lines ops order)
      ∙ part (slice_get (cut 0 lines ops) line) line (committed_in (cut 0 lines ops) order) (commits_at lines line)
      (commits-cut 0 lines ops line)

  order-cut : (b : Bool) (lines : List Line) (ops : List (Operation ℕ ℕ)) (order : List ℕ)
      → ids_text b s lines order ≡ order_part b s (committed_in (cut 0 lines ops) order)
  order-cut true lines ops order = ap (λ (text : List ℕ). codes "---\n" ++ text) (ids-cut lines ops order)
  order-cut false lines ops order = refl

pub yes-cut : (options : Options) (n : Naming) (lines : List Line) (ops : List (Operation ℕ ℕ)) (order : List ℕ)
    → yes_text options n lines order
    ≡ counts_text (committed_of (cut 0 lines ops)) (aborted_of (cut 0 lines ops)) ++ order_part options.order
    (spelled n) (committed_in (cut 0 lines ops) order)
yes-cut options n lines ops order =
    ap₂ (λ (c d : ℕ). counts_text c d ++ ids_text options.order (spelled n) lines order)
    (sym (committed-cut 0 lines ops)) (sym (aborted-cut lines ops))
    ∙ ap (λ (text : List ℕ). counts_text (committed_of (cut 0 lines ops)) (aborted_of (cut 0 lines ops)) ++ text)
    (order-cut (spelled n) options.order lines ops order)
