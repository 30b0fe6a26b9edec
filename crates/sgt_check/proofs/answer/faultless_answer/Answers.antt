use Rattle.std.proofs.Common.{ℕ, List, Vec, sym, ap, ap₂, ◌∙◌}
use Rattle.std.specs.Global.{Global}
use Rattle.sgt_history.specs.History.{closed_of}
use Rattle.sgt_history.specs.declared.history.Line.{Line}
use Rattle.sgt_history_verdict.specs.Verdict.{committed_in}
use Rattle.sgt_check.specs.Told.{yes_text}
use Rattle.sgt_check.proofs.Counted.{yes-cut}
use Rattle.sgt_check.proofs.answer.faultless_answer.Goals as goal

pub returns-in-Serial : goal.returns-in-Serial
returns-in-Serial c =
    let history = c.args.history in
    let v = rw c.in-Serial.is at c.in_ok-verdict.ensures.verdict in
    let lines = c.as_slice.ensures.value ∙ ap (λ (ls : Vec Line Global). ls.items) c.in_ok-verdict.ensures.lines in
    record {
      order = committed_in (closed_of history) c.in-Serial.order.items;
      serves = v.serves;
      least = v.least;
      text_is = c.in_ok-serial_text-in-Serial.ensures
          ∙ ap₂ (λ (ls : List Line) (order : List ℕ). yes_text c.args.options c.args.naming.now ls order) lines
          c.as_slice-in-Serial.ensures.value
          ∙ yes-cut c.args.options c.args.naming.now history.lines.items history.operations.items
          c.in-Serial.order.items;
    }

pub unreachable-requires : goal.unreachable-requires
unreachable-requires c =
    let f = c.in-Faulty.field-0 in
    let first = rw c.in-Faulty.is at c.in_ok-verdict.ensures.verdict in
    c.requires.faultless f.line f.flaw f.place first.faulty
