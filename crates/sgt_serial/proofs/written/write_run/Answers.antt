use Rattle.std.proofs.Common.{◌++◌, ◌∙◌, [], map, refl, sym, ap, subst, append_assoc, append-nil}
use Rattle.std.specs.Prelude.{ℕ, List, codes, decimal}
use Rattle.sgt_notation.specs.Spelling.{text_of_lines}
use Rattle.sgt_serial.specs.Report.{reads_of, writes_of, run_of}
use Rattle.sgt_serial.specs.Text.{operation_line, change_line, run_lines}
use Rattle.sgt_serial.specs.private.Written.{PassesOn, with_lf}
use Rattle.sgt_serial.proofs.Passing.{on-err, broken, broken-first, joined}
use Rattle.sgt_notation.proofs.Texts.{text-append}
use Rattle.sgt_serial.proofs.written.write_run.Goals as goal

pub returns-in_err-write_head-clause-err : goal.returns-in_err-write_head-clause-err
returns-in_err-write_head-clause-err g c =
    let holds = g.W.Sink.holds in
    let tx = c.args.tx in
    let logs = c.args.logs.now in
    on-err c.from_residual.result
    (broken-first (holds c.args.writer.now) (holds c.write_head.new.writer) c.args.out.now.items (with_lf (codes "t" ++ decimal tx))
    (text_of_lines (map (operation_line (codes "r") tx) (reads_of logs tx) ++ map (change_line tx) (writes_of logs tx)))
    (text_of_lines (run_lines (run_of logs tx))) c.in_err-write_head.ensures.err refl)

pub returns-in_err-write_reads-clause-err : goal.returns-in_err-write_reads-clause-err
returns-in_err-write_reads-clause-err g c =
    let holds = g.W.Sink.holds in
    let tx = c.args.tx in
    let logs = c.args.logs.now in
    let head = with_lf (codes "t" ++ decimal tx) in
    let reads = map (operation_line (codes "r") tx) (reads_of logs tx) in
    let changes = map (change_line tx) (writes_of logs tx) in
    on-err c.from_residual-in_err-write_reads.result
    (broken (holds c.args.writer.now) (holds c.write_head.new.writer) (holds c.write_reads.new.writer)
    c.args.out.now.items head c.write_head.new.out.items
    (text_of_lines reads) (text_of_lines changes) (text_of_lines (run_lines (run_of logs tx)))
    c.in_ok-write_head.ensures.ok c.in_err-write_reads.ensures.err
    (ap (λ t. head ++ t) (text-append reads changes)
    ∙ sym (append_assoc head (text_of_lines reads) (text_of_lines changes))))

pub returns-in_err-write_changes-clause-err : goal.returns-in_err-write_changes-clause-err
returns-in_err-write_changes-clause-err g c =
    let holds = g.W.Sink.holds in
    let tx = c.args.tx in
    let logs = c.args.logs.now in
    let head = with_lf (codes "t" ++ decimal tx) in
    let reads = map (operation_line (codes "r") tx) (reads_of logs tx) in
    let changes = map (change_line tx) (writes_of logs tx) in
    on-err c.from_residual-in_err-write_changes.result
    (broken-first (holds c.args.writer.now) (holds c.write_changes.new.writer) c.args.out.now.items
    ((head ++ text_of_lines reads) ++ text_of_lines changes) []
    (text_of_lines (run_lines (run_of logs tx)))
    (broken (holds c.args.writer.now) (holds c.write_reads.new.writer) (holds c.write_changes.new.writer)
    c.args.out.now.items (head ++ text_of_lines reads) c.write_reads.new.out.items
    (text_of_lines changes) [] ((head ++ text_of_lines reads) ++ text_of_lines changes)
    (joined (holds c.args.writer.now) (holds c.write_head.new.writer) (holds c.write_reads.new.writer)
    c.args.out.now.items head c.write_head.new.out.items (text_of_lines reads) c.write_reads.new.out.items
    c.in_ok-write_head.ensures.ok c.in_ok-write_reads.ensures.ok)
    c.in_err-write_changes.ensures.err (sym (append-nil ((head ++ text_of_lines reads) ++ text_of_lines changes))))
    (ap (λ t. head ++ t) (text-append reads changes)
    ∙ sym (append_assoc head (text_of_lines reads) (text_of_lines changes))
    ∙ sym (append-nil ((head ++ text_of_lines reads) ++ text_of_lines changes))))

pub returns-clause-ok : goal.returns-clause-ok
returns-clause-ok g c =
    let holds = g.W.Sink.holds in
    let tx = c.args.tx in
    let logs = c.args.logs.now in
    let head = with_lf (codes "t" ++ decimal tx) in
    let reads = map (operation_line (codes "r") tx) (reads_of logs tx) in
    let changes = map (change_line tx) (writes_of logs tx) in
    subst (λ (bytes : List ℕ). PassesOn (holds c.args.writer.now) (holds c.write_changes.new.writer)
    c.args.out.now.items bytes c.write_changes.new.out.items)
    (append_assoc head (text_of_lines reads) (text_of_lines changes)
    ∙ ap (λ t. head ++ t) (sym (text-append reads changes)))
    (joined (holds c.args.writer.now) (holds c.write_reads.new.writer) (holds c.write_changes.new.writer)
    c.args.out.now.items (head ++ text_of_lines reads) c.write_reads.new.out.items
    (text_of_lines changes) c.write_changes.new.out.items
    (joined (holds c.args.writer.now) (holds c.write_head.new.writer) (holds c.write_reads.new.writer)
    c.args.out.now.items head c.write_head.new.out.items (text_of_lines reads) c.write_reads.new.out.items
    c.in_ok-write_head.ensures.ok c.in_ok-write_reads.ensures.ok)
    c.in_ok-write_changes.ensures.ok)
