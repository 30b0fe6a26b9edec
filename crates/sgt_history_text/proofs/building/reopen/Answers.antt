use Rattle.std.proofs.Common.{◌≡◌, ◌∙◌, ◌<◌, ◌^◌, ℕ, List, All, ap, drop, take, length, subst, sym, arith}
use Rattle.sgt_history.specs.Cut.{EndWithin, cut, end_of}
use Rattle.sgt_history.specs.Transaction.{WritesPositive}
use Rattle.sgt_history.specs.declared.history.Operation.{Operation}
use Rattle.sgt_history_text.proofs.Reopened.{kept_all, kept_few, kept_lines, kept_within, none_behind}
use Rattle.sgt_history_text.proofs.building.reopen.Goals as goal

pub invariant_of-history : goal.invariant_of-history
invariant_of-history c =
    let h = c.args.history.now in
    let lines = h.lines.items in
    let ops = h.operations.items in
    let end = c.last_end-end.ensures ∙ ap (end_of 0) c.as_slice.ensures.value in
    let items = c.truncate.ensures.items ∙ ap (λ (n : ℕ). take n ops) end in
    let few = kept_few lines ops h.rising h.within in
    record {
      rising = h.rising;
      within = subst (λ (os : List (Operation ℕ ℕ)). EndWithin (length os) lines) (sym items)
          (kept_within lines ops h.rising h.within);
      positive = subst (λ (os : List (Operation ℕ ℕ)). All WritesPositive os) (sym items)
          (kept_all lines ops h.rising h.within WritesPositive h.positive);
      few = omega (arith, few, ap (λ (os : List (Operation ℕ ℕ)). length os) items, h.few);
      few_lines = h.few_lines;
    }

pub returns-clause-closed : goal.returns-clause-closed
returns-clause-closed c =
    let h = c.args.history.now in
    let end = c.last_end-end.ensures ∙ ap (end_of 0) c.as_slice.ensures.value in
    ap (cut 0 h.lines.items) (c.truncate.ensures.items ∙ ap (λ (n : ℕ). take n h.operations.items) end)
    ∙ kept_lines h.lines.items h.operations.items h.rising h.within

pub returns-clause-open : goal.returns-clause-open
returns-clause-open c =
    let h = c.args.history.now in
    let end = c.last_end-end.ensures ∙ ap (end_of 0) c.as_slice.ensures.value in
    ap (drop (end_of 0 h.lines.items)) (c.truncate.ensures.items ∙ ap (λ (n : ℕ). take n h.operations.items) end)
    ∙ none_behind h.lines.items h.operations.items h.rising h.within
