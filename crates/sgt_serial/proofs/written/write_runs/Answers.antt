use Rattle.std.proofs.Common.{◌≤◌, ◌+◌, ◌∙◌, length, map, drop, refl, ap, arith}
use Rattle.std.proofs.Math.ListN.{drop_of_length-le}
use Rattle.sgt_names.proofs.Lists.{element_at, drop_next}
use Rattle.sgt_notation.specs.Spelling.{text_of_lines}
use Rattle.std.specs.List.{flat_map}
use Rattle.sgt_serial.specs.Report.{run_of}
use Rattle.sgt_serial.specs.Text.{run_lines}
use Rattle.sgt_serial.proofs.Passing.{on-err, passes-none, passes-more, passes-all, passes-front}
use Rattle.sgt_notation.proofs.Texts.{text-append}
use Rattle.sgt_serial.proofs.written.write_runs.Goals as goal

pub loop-tx-init : goal.loop-tx-init
loop-tx-init g c =
    let logs = c.args.logs.now in
    let xs = c.args.order.now in
    record {
      passed = passes-none (g.W.Sink.holds c.args.writer.now) c.args.out.now.items
          (text_of_lines (flat_map run_lines (map (run_of logs) xs)))
          (text_of_lines (flat_map run_lines (map (run_of logs) xs))) refl;
      capacity = omega arith;
      quiet = refl;
    }

pub loop-tx-preserved : goal.loop-tx-preserved
loop-tx-preserved g c =
    let holds = g.W.Sink.holds in
    let logs = c.args.logs.now in
    let xs = c.args.order.now in
    let i = c.loop-tx.tx-index in
    let x = c.tx-item.result in
    let at = element_at xs i x (omega arith) c.tx-item.is in
    let so_far = c.loop-tx.invariant in
    let call = c.in_ok-write_run.ensures in
    record {
      passed = passes-more (holds c.args.writer.now) (holds c.loop-tx.writer) (holds c.write_run.new.writer)
          c.args.out.now.items c.loop-tx.out.items c.write_run.new.out.items
          (text_of_lines (run_lines (run_of logs x)))
          (text_of_lines (flat_map run_lines (map (run_of logs) (drop i xs))))
          (text_of_lines (flat_map run_lines (map (run_of logs) (drop (i + 1) xs))))
          (text_of_lines (flat_map run_lines (map (run_of logs) xs)))
          (ap (λ ys. text_of_lines (flat_map run_lines (map (run_of logs) ys))) (drop_next xs i x at)
          ∙ text-append (run_lines (run_of logs x)) (flat_map run_lines (map (run_of logs) (drop (i + 1) xs))))
          so_far.passed call.ok;
      capacity = omega (arith, so_far.capacity, call.capacity);
      quiet = call.fails ∙ so_far.quiet;
    }

pub returns-in_err-write_run-clause-err : goal.returns-in_err-write_run-clause-err
returns-in_err-write_run-clause-err g c =
    let holds = g.W.Sink.holds in
    let logs = c.args.logs.now in
    let xs = c.args.order.now in
    let i = c.loop-tx.tx-index in
    let x = c.tx-item.result in
    let at = element_at xs i x (omega arith) c.tx-item.is in
    on-err c.from_residual.result
    (passes-front (holds c.args.writer.now) (holds c.loop-tx.writer) (holds c.write_run.new.writer)
    c.args.out.now.items c.loop-tx.out.items
    (text_of_lines (run_lines (run_of logs x))) (text_of_lines (flat_map run_lines (map (run_of logs) (drop i xs))))
    (text_of_lines (flat_map run_lines (map (run_of logs) (drop (i + 1) xs))))
    (text_of_lines (flat_map run_lines (map (run_of logs) xs)))
    (ap (λ ys. text_of_lines (flat_map run_lines (map (run_of logs) ys))) (drop_next xs i x at)
    ∙ text-append (run_lines (run_of logs x)) (flat_map run_lines (map (run_of logs) (drop (i + 1) xs))))
    c.loop-tx.invariant.passed c.in_err-write_run.ensures.err)

pub returns-clause-ok : goal.returns-clause-ok
returns-clause-ok g c =
    let holds = g.W.Sink.holds in
    let logs = c.args.logs.now in
    let xs = c.args.order.now in
    let i = c.loop-tx.tx-index in
    let end : length xs ≤ i = omega arith in
    passes-all (holds c.args.writer.now) (holds c.loop-tx.writer) c.args.out.now.items c.loop-tx.out.items
    (text_of_lines (flat_map run_lines (map (run_of logs) (drop i xs))))
    (text_of_lines (flat_map run_lines (map (run_of logs) xs)))
    (ap (λ ys. text_of_lines (flat_map run_lines (map (run_of logs) ys))) (drop_of_length-le xs end))
    c.loop-tx.invariant.passed
