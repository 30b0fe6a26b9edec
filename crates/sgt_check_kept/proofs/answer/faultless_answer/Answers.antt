use Rattle.std.proofs.Common.{◌≡◌, ℕ, List, Vec, inl, inr, sym, ap, ap₂, ◌∙◌, subst}
use Rattle.std.proofs.lemmas.Result.{IfOk-weaker}
use Rattle.std.specs.Global.{Global}
use Rattle.sgt_history.specs.Cut.{cut}
use Rattle.sgt_history.specs.Conflicts.{HasCycle}
use Rattle.sgt_history.specs.declared.history.Line.{Line}
use Rattle.sgt_history.specs.declared.named.Graph.TheVariants.{Whole}
use Rattle.sgt_history_faults.specs.Judged.{IsFaultlessBy}
use Rattle.sgt_history_faults.specs.declared.touch.Touch.{Touch}
use Rattle.sgt_history_kept.specs.Sooner.{IsCycleKeeping}
use Rattle.sgt_history_verdict.proofs.Least.{decided-from}
use Rattle.sgt_history_verdict.specs.Decided.{IsDecidedFrom}
use Rattle.sgt_history_verdict.specs.Verdict.{committed_in}
use Rattle.sgt_names.specs.declared.outcome.Outcome.{Outcome}
use Rattle.sgt_check.proofs.Counted.{yes-cut}
use Rattle.sgt_check.specs.Told.{yes_text}
use Rattle.sgt_check_kept.specs.Decision.{IsAlone, IsDecision}
use Rattle.sgt_check_kept.specs.Told.{IsKeptTold}
use Rattle.sgt_check_kept.proofs.answer.faultless_answer.Goals as goal

pub decided-requires-clause-from : goal.decided-requires-clause-from
decided-requires-clause-from c =
    let lines = c.args.history.lines in
    let ops = c.args.history.operations.items in
    let h = cut 0 lines.items ops in (
      h,
      subst (λ (ts : List Touch). IsDecidedFrom h c.len.result ts) (sym c.as_slice.ensures.value)
          (subst (λ n. IsDecidedFrom h n c.args.touches.items) (sym (c.len.ensures ∙ lines.ok.0))
          (decided-from lines.items ops c.args.touches.items c.args.history.positive c.requires)),
    )

pub conflicts_answer-requires-clause-from : goal.conflicts_answer-requires-clause-from
conflicts_answer-requires-clause-from c =
    let lines = c.args.history.lines in
    let ops = c.args.history.operations.items in
    let h = cut 0 lines.items ops in
    let whole = decided-from lines.items ops c.args.touches.items c.args.history.positive c.requires in
    let from = subst (λ (ts : List Touch). IsDecidedFrom h c.len.result ts) (sym c.as_slice.ensures.value)
    (subst (λ n. IsDecidedFrom h n c.args.touches.items) (sym (c.len.ensures ∙ lines.ok.0)) whole) in (
      h,
      subst (λ n. IsDecidedFrom h n c.args.touches.items) (sym (c.len-in-Conflicting.ensures ∙ lines.ok.0)) whole,
      subst (IsAlone h) c.in-Conflicting.is (c.in_ok-order.ensures.alone h from),
    )

pub returns-in_ok-serial_text-in-Serial : goal.returns-in_ok-serial_text-in-Serial
returns-in_ok-serial_text-in-Serial c = λ are.
    let lines = c.args.history.lines in
    let ops = c.args.history.operations.items in
    let h = cut 0 lines.items ops in
    let s = c.args.setting.now in
    let whole = decided-from lines.items ops c.args.touches.items c.args.history.positive c.requires in
    let from = subst (λ (ts : List Touch). IsDecidedFrom h c.len.result ts) (sym c.as_slice.ensures.value)
    (subst (λ n. IsDecidedFrom h n c.args.touches.items) (sym (c.len.ensures ∙ lines.ok.0)) whole) in
    let serial = subst (IsDecision h s.asked) c.in-Serial.is (c.in_ok-order.ensures.kept h from are) in
    record {
      order = committed_in h c.in-Serial.order.items;
      keeps = serial.keeps;
      least = serial.least;
      text_is = c.in_ok-serial_text-in-Serial.ensures
          ∙ ap₂ (λ (ls : List Line) (order : List ℕ). yes_text c.args.options s.naming ls order)
          c.as_slice-in-Serial.ensures.value c.as_slice-in-Serial-2.ensures.value
          ∙ yes-cut c.args.options s.naming lines.items ops c.in-Serial.order.items;
    }

pub returns-in-Conflicting : goal.returns-in-Conflicting
returns-in-Conflicting c =
    let lines = c.args.history.lines in
    let ops = c.args.history.operations.items in
    let h = cut 0 lines.items ops in
    let whole = decided-from lines.items ops c.args.touches.items c.args.history.positive c.requires in
    let from = subst (λ n. IsDecidedFrom h n c.args.touches.items) (sym (c.len-in-Conflicting.ensures ∙ lines.ok.0))
    whole in
    IfOk-weaker c.conflicts_answer.result _ _ (λ a is are.
    subst (λ (o : Outcome). IsKeptTold c.args.options c.args.setting.now h o a.text.items) (sym is.0)
    (inr (inl (is.1 h from)))) c.conflicts_answer.ensures

pub returns-in_ok-links_text-in-Cyclic : goal.returns-in_ok-links_text-in-Cyclic
returns-in_ok-links_text-in-Cyclic c = λ are.
    let lines = c.args.history.lines in
    let ops = c.args.history.operations.items in
    let h = cut 0 lines.items ops in
    let asked = c.args.setting.now.asked in
    let whole = decided-from lines.items ops c.args.touches.items c.args.history.positive c.requires in
    let from = subst (λ (ts : List Touch). IsDecidedFrom h c.len.result ts) (sym c.as_slice.ensures.value)
    (subst (λ n. IsDecidedFrom h n c.args.touches.items) (sym (c.len.ensures ∙ lines.ok.0)) whole) in
    let alone = subst (IsAlone h) c.in-Cyclic.is (c.in_ok-order.ensures.alone h from) in
    let cycle = subst (IsDecision h asked) c.in-Cyclic.is (c.in_ok-order.ensures.kept h from are) in
    inr (inr (c.in_ok-links_text-in-Cyclic.ensures h
    (subst (IsFaultlessBy h) (sym c.as_slice-in-Cyclic.ensures.value) c.requires) alone
    (subst (IsCycleKeeping h asked.times.items asked.sessions.items)
    (sym c.as_slice-in-Cyclic-2.ensures.value) cycle)))
