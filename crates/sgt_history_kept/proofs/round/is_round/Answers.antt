use Rattle.std.proofs.Common.{ℕ, List, Option, length, get_or, sym, subst, ◌⊎◌}
use Rattle.std.proofs.lemmas.Option.{slice_get-get_or}
use Rattle.sgt_graph.specs.Graph.{Goes}
use Rattle.sgt_history_kept.specs.Decided.{AreJoined, IsAskedBefore}
use Rattle.sgt_history_time.specs.Steps.{StandsBefore}
use Rattle.sgt_history_kept.proofs.Rounds.{leads-next, leads-round, not-empty, round-steps, steps-cycle}
use Rattle.sgt_history_kept.proofs.round.is_round.Goals as goal

pub loop-place-preserved : goal.loop-place-preserved
loop-place-preserved c =
    let edges = c.args.edges.now in
    let cycle = c.args.cycle.now in
    let a = c.args.asked.now in
    let place = c.loop-place.place in
    let joined = subst (λ (l : List (Option ℕ)). AreJoined edges l) (sym c.as_slice-in-loop-place.ensures.value)
    c.in_ok-joined.ensures in
    leads-next (λ x y. Goes edges x y ⊎ IsAskedBefore a x y) cycle place (get_or cycle place 0)
    c.line_behind-next.result c.loop-place.invariant
    (slice_get-get_or cycle place 0 c.loop-place-test.true) c.line_behind-next.ensures
    (c.leads.ensures c.if-not-leads.false edges joined)

pub returns : goal.returns
returns c = λ yes h lines from.
    let edges = c.args.edges.now in
    let cycle = c.args.cycle.now in
    let a = c.args.asked.now in
    let R : ℕ → ℕ → Type 0 = λ x y. Goes edges x y ⊎ IsAskedBefore a x y in
    let some = not-empty (length cycle) c.is_empty.result c.is_empty.ensures c.if-is_empty.false in
    steps-cycle R (StandsBefore h a.times.items a.sessions.items) (round-steps h lines edges a from) cycle
    (leads-round R cycle c.loop-place.place some c.loop-place-test.false c.loop-place.invariant)
