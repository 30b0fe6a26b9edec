use Rattle.std.proofs.Common.{◌≡◌, ◌≢◌, [], ◌++◌, ◌∙◌, ap, sym, length, arith, eqb-true}
use Rattle.std.specs.Prelude.{string_bytes}
use Rattle.std.specs.List.{cons_option}
use Rattle.std.proofs.lemmas.Bool.{eqb-false}
use Rattle.std.proofs.lemmas.List.{nil_from_length}
use Rattle.sgt_explain_transaction.specs.Dealings.{entry_from}
use Rattle.sgt_explain_transaction.proofs.Reading.{read-none, read-step, read-next, read-over, read-whole}
use Rattle.sgt_explain_transaction.proofs.Showing.{shows-none, shows-entry, shows-no_entry}
use Rattle.sgt_explain_transaction.proofs.conflicts.push_conflicts.Goals as goal
use Rattle.sgt_explain_transaction.proofs.conflicts.push_conflicts.Goals.{in-Some+in_ok-push_pairs, in_default}

pub loop-line-init : goal.loop-line-init
loop-line-init c = ([], read-none c.args.bytes.now c.args.end, shows-none (string_bytes c.args.out.now) 0)

pub loop-line-preserved : goal.loop-line-preserved
loop-line-preserved c =
    let line = c.loop-line.line in
    let so_far = c.loop-line.invariant in
    let found = c.entry_at.result in
    let site = c.entry_at.new.site in
    let behind = c.cut_line.result.1.now in
    let sorted = c.args.sorted.now in
    let old = string_bytes c.args.out.now in
    let mid = string_bytes c.loop-line.out in
    let some : behind ≢ [] = λ none. eqb-false (length behind) 0 (sym c.is_empty.ensures
    ∙ c.if-is_empty.false) (ap length none) in
    let read = so_far.0 ++ cons_option (entry_from site line found) [] in (
      read,
      read-next c.args.bytes.now c.args.end line behind site read
          (read-step c.args.bytes.now c.args.end line c.loop-line.site site c.loop-line.rest.now
          c.cut_line.result.0.now behind so_far.0 found so_far.1 c.loop-line.auto.line c.loop-line-test.true
          (record {
            cuts = c.cut_line.ensures.cut;
            head = c.entry_at.ensures.head;
            section = c.entry_at.ensures.spelled;
          })) some,
      elim c.match-entry_at.branch [
        | in-Some+in_ok-push_pairs w ↦ rw w.out-is (rw w.count-is
            (shows-entry sorted so_far.0 site line w.in-Some.entry found old mid _ 0 c.loop-line.count _ w.in-Some.is
            so_far.2 w.in_ok-push_pairs.ensures))
        | in_default w ↦ rw w.out-is (rw w.count-is
            (shows-no_entry sorted so_far.0 site line found old mid 0 c.loop-line.count w.in_default.is so_far.2))
      ],
    )

pub returns-then-is_empty : goal.returns-then-is_empty
returns-then-is_empty c =
    let line = c.loop-line.line in
    let so_far = c.loop-line.invariant in
    let found = c.entry_at.result in
    let site = c.entry_at.new.site in
    let behind = c.cut_line.result.1.now in
    let sorted = c.args.sorted.now in
    let old = string_bytes c.args.out.now in
    let mid = string_bytes c.loop-line.out in
    let none : behind ≡ [] =
    nil_from_length behind (eqb-true (length behind) 0 (sym c.is_empty.ensures ∙ c.if-is_empty.true)) in
    let read = so_far.0 ++ cons_option (entry_from site line found) [] in (
      read,
      read-over c.args.bytes.now c.args.end line behind site read c.loop-line.auto.line
          (read-step c.args.bytes.now c.args.end line c.loop-line.site site c.loop-line.rest.now
          c.cut_line.result.0.now behind so_far.0 found so_far.1 c.loop-line.auto.line c.loop-line-test.true
          (record {
            cuts = c.cut_line.ensures.cut;
            head = c.entry_at.ensures.head;
            section = c.entry_at.ensures.spelled;
          })) none,
      elim c.match-entry_at.branch [
        | in-Some+in_ok-push_pairs w ↦ rw w.out-is (rw w.count-is
            (shows-entry sorted so_far.0 site line w.in-Some.entry found old mid _ 0 c.loop-line.count _ w.in-Some.is
            so_far.2 w.in_ok-push_pairs.ensures))
        | in_default w ↦ rw w.out-is (rw w.count-is
            (shows-no_entry sorted so_far.0 site line found old mid 0 c.loop-line.count w.in_default.is so_far.2))
      ],
    )

pub returns-after-loop-line : goal.returns-after-loop-line
returns-after-loop-line c =
    let so_far = c.loop-line.invariant in (
      so_far.0,
      read-whole c.args.bytes.now c.args.end c.loop-line.line c.loop-line.rest.now c.loop-line.site so_far.0 so_far.1
          (omega (arith, c.loop-line-test.false)),
      so_far.2,
    )
