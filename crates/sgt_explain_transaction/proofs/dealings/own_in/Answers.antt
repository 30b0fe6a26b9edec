use Rattle.std.proofs.Common.{◌≡◌, ◌≢◌, [], ◌++◌, ◌∙◌, ap, sym, length, arith, eqb-true, rules}
use Rattle.std.specs.List.{cons_option, filter}
use Rattle.std.proofs.lemmas.Bool.{eqb-false}
use Rattle.std.proofs.lemmas.List.{nil_from_length}
use Rattle.sgt_explain_transaction.specs.Dealings.{entry_from, is_own}
use Rattle.sgt_explain_transaction.proofs.Reading.{read-none, read-step, read-next, read-over, read-whole}
use Rattle.sgt_explain_transaction.proofs.Telling.{own-all, own-more}
use Rattle.sgt_explain_transaction.proofs.dealings.own_in.Goals as goal

pub loop-line-init : goal.loop-line-init
loop-line-init c = ([], read-none c.args.bytes.now c.args.end, search rules)

pub loop-line-preserved : goal.loop-line-preserved
loop-line-preserved c =
    let tx = c.args.tx in
    let line = c.loop-line.line in
    let so_far = c.loop-line.invariant in
    let found = c.entry_at-found.result in
    let site = c.entry_at-found.new.site in
    let behind = c.cut_line.result.1.now in
    let some : behind ≢ [] = λ none. eqb-false (length behind) 0 (sym c.is_empty.ensures
    ∙ c.if-is_empty.false) (ap length none) in
    let read = so_far.0 ++ cons_option (entry_from site line found) [] in (
      read,
      read-next c.args.bytes.now c.args.end line behind site read
          (read-step c.args.bytes.now c.args.end line c.loop-line.site site c.loop-line.rest.now
          c.cut_line.result.0.now behind so_far.0 found so_far.1 c.loop-line.auto.line c.loop-line-test.true
          (record {
            cuts = c.cut_line.ensures.cut;
            head = c.entry_at-found.ensures.head;
            section = c.entry_at-found.ensures.spelled;
          })) some,
      own-more tx c.loop-line.own.items c.push_from.new.own.items so_far.0 site line found so_far.2
          c.in_ok-push_from.ensures,
    )

pub returns-then-is_empty-clause-own : goal.returns-then-is_empty-clause-own
returns-then-is_empty-clause-own c =
    let line = c.loop-line.line in
    let so_far = c.loop-line.invariant in
    let found = c.entry_at-found.result in
    let site = c.entry_at-found.new.site in
    own-all c.args.tx c.push_from.new.own.items (so_far.0 ++ cons_option (entry_from site line found) [])
    (own-more c.args.tx c.loop-line.own.items c.push_from.new.own.items so_far.0 site line found so_far.2
    c.in_ok-push_from.ensures)

pub returns-then-is_empty-clause-all : goal.returns-then-is_empty-clause-all
returns-then-is_empty-clause-all c = λ lines before.
    let tx = c.args.tx in
    let line = c.loop-line.line in
    let so_far = c.loop-line.invariant in
    let found = c.entry_at-found.result in
    let site = c.entry_at-found.new.site in
    let behind = c.cut_line.result.1.now in
    let none : behind ≡ [] =
    nil_from_length behind (eqb-true (length behind) 0 (sym c.is_empty.ensures ∙ c.if-is_empty.true)) in
    let read = so_far.0 ++ cons_option (entry_from site line found) [] in
    own-more tx c.loop-line.own.items c.push_from.new.own.items so_far.0 site line found so_far.2
    c.in_ok-push_from.ensures
    ∙ ap (filter (is_own tx)) (read-over c.args.bytes.now c.args.end line behind site read c.loop-line.auto.line
    (read-step c.args.bytes.now c.args.end line c.loop-line.site site c.loop-line.rest.now
    c.cut_line.result.0.now behind so_far.0 found so_far.1 c.loop-line.auto.line c.loop-line-test.true (record {
      cuts = c.cut_line.ensures.cut;
      head = c.entry_at-found.ensures.head;
      section = c.entry_at-found.ensures.spelled;
    })) none lines before)

pub returns-clause-own : goal.returns-clause-own
returns-clause-own c =
    own-all c.args.tx c.loop-line.own.items c.loop-line.invariant.0 c.loop-line.invariant.2

pub returns-clause-all : goal.returns-clause-all
returns-clause-all c = λ lines before.
    let so_far = c.loop-line.invariant in
    so_far.2
    ∙ ap (filter (is_own c.args.tx)) (read-whole c.args.bytes.now c.args.end c.loop-line.line c.loop-line.rest.now
    c.loop-line.site so_far.0 so_far.1 (omega (arith, c.loop-line-test.false)) lines before)
