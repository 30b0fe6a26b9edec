use Rattle.std.proofs.Common.{◌≡◌, arith, sym, ap, ◌∙◌}
use Rattle.std.specs.Prelude.{Some}
use Rattle.sgt_names.specs.Entry.{tx_of}
use Rattle.sgt_names.proofs.Lists.{element_at}
use Rattle.sgt_explain_lines.specs.Clashing.{InNoConflict}
use Rattle.sgt_explain_steps.proofs.Meetings.{stands-before, none-more, none-in}
use Rattle.sgt_explain_steps.proofs.entries.met_in.Goals as goal

pub loop-place-preserved : goal.loop-place-preserved
loop-place-preserved c =
    let entries = c.args.entries.now in
    let step = c.args.step.now in
    let here = c.index-entries-place.result in
    none-more (λ e f. tx_of e ≡ c.args.from → InNoConflict step.label.item e f) step.to entries c.loop-place.place here
    (element_at entries c.loop-place.place here (omega arith) c.index-entries-place.is)
    c.loop-place.invariant c.in_default.ensures.none

pub returns-in-Some : goal.returns-in-Some
returns-in-Some c =
    let entries = c.args.entries.now in
    let here = c.index-entries-place.result in
    let e = c.in-Some.ensures in
    record {
      there = record {
        clash = e.clash;
        from = e.from;
        to = e.to;
        order = stands-before entries c.loop-place.place c.in-Some.met.first c.in-Some.met.second e.among
            (element_at entries c.loop-place.place here (omega arith) c.index-entries-place.is
            ∙ ap Some (sym e.second));
      };
      none = tt;
    }

pub returns : goal.returns
returns c = record {
  there = tt;
  none = λ kind. none-in (λ e f. tx_of e ≡ c.args.from
      → InNoConflict c.args.step.now.label.item e f) c.args.entries.now kind c.args.step.now.label.item c.args.from
      c.args.step.now.to
      (λ e f no own clash. no own kind clash) (λ q f less at. c.loop-place.invariant q f (omega (arith, less)) at);
}
