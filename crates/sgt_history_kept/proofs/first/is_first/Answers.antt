use Rattle.std.proofs.Common.{◌≡◌, ◌∙◌, ◌<◌, ℕ, get_or, length, subst}
use Rattle.std.proofs.lemmas.Option.{slice_get-get_or}
use Rattle.std.proofs.lemmas.Result.{IfOk-weaker}
use Rattle.sgt_history_kept.specs.Labels.{IsLabeled}
use Rattle.sgt_history_kept.proofs.FirstKept.{labels-on, step-within}
use Rattle.sgt_history_kept.proofs.Firsts.{first-told}
use Rattle.sgt_history_kept.proofs.Rounds.{not-empty}
use Rattle.sgt_history_time.specs.Steps.{StandsBefore}
use Rattle.sgt_history_kept.proofs.first.is_first.Goals as goal

pub returns : goal.returns
returns c =
    let cycle = c.args.cycle.now in
    let labels = c.args.labels.now in
    let edges = c.args.edges.now in
    let a = c.args.asked.now in
    let lines = length labels.keys.items in
    let some : 0 < length cycle = not-empty (length cycle) c.is_empty.result c.is_empty.ensures c.if-is_empty.false in
    let same : c.len.result ≡ lines = c.len.ensures ∙ labels.keys.ok.0 in
    let are = subst (λ (n : ℕ). (u : ℕ) → u < n → IsLabeled (get_or cycle 0 0) labels u) same
    (c.are_labeled.ensures c.if-not-are_labeled.false) in
    IfOk-weaker c.are_labels.result _ _ (λ holds fit yes h from.
    first-told (StandsBefore h a.times.items a.sessions.items) lines (get_or cycle 0 0) labels c.requires
    (step-within h lines edges a from) are (labels-on h lines edges a from labels (fit yes))
    cycle (slice_get-get_or cycle 0 0 some) (c.all_lead_home.ensures c.if-not-all_lead_home.false)
    (c.in_ok-round.ensures c.if-not-round.false h lines from))
    c.are_labels.ensures
