use Rattle.std.proofs.Common.{◌++◌, [], List, ℕ, sym, ◌∙◌, subst, append-nil}
use Rattle.sgt_names.specs.Device.{WritesFront}
use Rattle.std.specs.Io.KnownBytes.{Appends}
use Rattle.sgt_bundle.specs.declared.bundle.SiteLog.{SiteLog}
use Rattle.sgt_serial.specs.Report.{report_of}
use Rattle.sgt_serial.specs.Text.{report_text}
use Rattle.sgt_serial.specs.private.Grouped.{AreOperationsOf}
use Rattle.sgt_serial.proofs.Passing.{on-err, broken, broken-first, joined, written-all, written-front}
use Rattle.sgt_serial.proofs.Whole.{text_of_runs, text_of_finals, whole-text}
use Rattle.sgt_serial.proofs.written.Plan.write.Goals as goal

pub write_runs-requires-clause-of : goal.write_runs-requires-clause-of
write_runs-requires-clause-of g c =
    let plan = c.requires.1 in
    subst (λ (logs : List SiteLog). AreOperationsOf logs c.args.self.operations) (sym (c.as_slice-logs.ensures.value
    ∙ plan.sites)) plan.operations

pub returns-in_err-write_runs-clause-err : goal.returns-in_err-write_runs-clause-err
returns-in_err-write_runs-clause-err g c b plan =
    let holds = g.W.Sink.holds in
    let logs = c.as_slice-logs.result.now in
    let order = c.as_slice.result.now in
    let finals = c.args.self.finals.items in
    let held = c.args.self.out.items in
    let whole = whole-text b logs order finals (c.as_slice-logs.ensures.value ∙ plan.sites) (c.as_slice.ensures.value
    ∙ plan.order) plan.finals in
    on-err c.from_residual.result
    (subst (λ (h : List ℕ). WritesFront (holds c.args.writer.now) (holds c.write_runs.new.writer)
    (h ++ report_text (report_of b))) plan.empty
    (broken-first (holds c.args.writer.now) (holds c.write_runs.new.writer) held (text_of_runs logs order)
    (text_of_finals finals) (report_text (report_of b))
    c.in_err-write_runs.ensures.err (sym whole)))

pub returns-in_err-write_finals-clause-err : goal.returns-in_err-write_finals-clause-err
returns-in_err-write_finals-clause-err g c b plan =
    let holds = g.W.Sink.holds in
    let logs = c.as_slice-logs.result.now in
    let order = c.as_slice.result.now in
    let finals = c.as_slice-2.result.now in
    let held = c.args.self.out.items in
    let whole = whole-text b logs order finals (c.as_slice-logs.ensures.value ∙ plan.sites) (c.as_slice.ensures.value
    ∙ plan.order) (c.as_slice-2.ensures.value ∙ plan.finals) in
    on-err c.from_residual-in_err-write_finals.result
    (subst (λ (h : List ℕ). WritesFront (holds c.args.writer.now) (holds c.write_finals.new.writer)
    (h ++ report_text (report_of b))) plan.empty
    (broken (holds c.args.writer.now) (holds c.write_runs.new.writer) (holds c.write_finals.new.writer) held
    (text_of_runs logs order) c.write_runs.new.out.items
    (text_of_finals finals) [] (report_text (report_of b)) c.in_ok-write_runs.ensures.ok
    c.in_err-write_finals.ensures.err (sym whole
    ∙ sym (append-nil (text_of_runs logs order ++ text_of_finals finals)))))

pub returns-in_err-write_all-clause-err : goal.returns-in_err-write_all-clause-err
returns-in_err-write_all-clause-err g c b plan =
    let holds = g.W.Sink.holds in
    let logs = c.as_slice-logs.result.now in
    let order = c.as_slice.result.now in
    let finals = c.as_slice-2.result.now in
    let held = c.args.self.out.items in
    let whole = whole-text b logs order finals (c.as_slice-logs.ensures.value ∙ plan.sites) (c.as_slice.ensures.value
    ∙ plan.order) (c.as_slice-2.ensures.value ∙ plan.finals) in
    on-err c.from_residual-in_err-write_all.result
    (written-front (holds c.args.writer.now) (holds c.write_finals.new.writer) (holds c.write_all.new.writer) held
    (text_of_runs logs order ++ text_of_finals finals) c.write_finals.new.out.items
    (report_text (report_of b)) plan.empty whole
    (joined (holds c.args.writer.now) (holds c.write_runs.new.writer) (holds c.write_finals.new.writer) held
    (text_of_runs logs order) c.write_runs.new.out.items
    (text_of_finals finals) c.write_finals.new.out.items c.in_ok-write_runs.ensures.ok c.in_ok-write_finals.ensures.ok)
    (subst (λ (bytes : List ℕ). WritesFront (holds c.write_finals.new.writer) (holds c.write_all.new.writer) bytes)
    c.as_slice-3.ensures.value c.in_err-write_all.ensures.err))

pub returns-clause-ok : goal.returns-clause-ok
returns-clause-ok g c b plan =
    let holds = g.W.Sink.holds in
    let logs = c.as_slice-logs.result.now in
    let order = c.as_slice.result.now in
    let finals = c.as_slice-2.result.now in
    let held = c.args.self.out.items in
    let whole = whole-text b logs order finals (c.as_slice-logs.ensures.value ∙ plan.sites) (c.as_slice.ensures.value
    ∙ plan.order) (c.as_slice-2.ensures.value ∙ plan.finals) in
    written-all (holds c.args.writer.now) (holds c.write_finals.new.writer) (holds c.write_all.new.writer) held
    (text_of_runs logs order ++ text_of_finals finals) c.write_finals.new.out.items
    (report_text (report_of b)) plan.empty whole
    (joined (holds c.args.writer.now) (holds c.write_runs.new.writer) (holds c.write_finals.new.writer) held
    (text_of_runs logs order) c.write_runs.new.out.items
    (text_of_finals finals) c.write_finals.new.out.items c.in_ok-write_runs.ensures.ok c.in_ok-write_finals.ensures.ok)
    (subst (λ (bytes : List ℕ). Appends (holds c.write_finals.new.writer) (holds c.write_all.new.writer) bytes)
    c.as_slice-3.ensures.value c.in_ok-write_all.ensures.ok)
