use Rattle.std.proofs.Common.{◌≡◌, ◌∙◌, ℕ, length, sym, subst}
use Rattle.sgt_history_kept.specs.Decided.{IsKeptFrom}
use Rattle.sgt_history_kept.specs.FirstCycle.{IsFirstCycleOf}
use Rattle.sgt_history_time.specs.Steps.{StandsBefore}
use Rattle.sgt_history_kept.proofs.deciding.checked_cycle.Goals as goal

pub returns : goal.returns
returns c = λ h from.
    let a = c.args.asked.now in
    let edges = c.args.edges.now in
    let labels = c.in-Some.field-0.labels in
    let same : length labels.keys.items ≡ c.args.lines = sym labels.keys.ok.0 ∙ sym c.len.ensures
    ∙ c.if-len-lines.false in
    subst (IsFirstCycleOf (StandsBefore h a.times.items a.sessions.items)) c.as_slice.ensures.value
    (c.in_ok-first.ensures c.if-not-first.false h
    (subst (λ (n : ℕ). IsKeptFrom h n edges a) (sym same) from))
