use Rattle.std.proofs.Common.{◌≤◌, ◌+◌, ◌∙◌, length, map, drop, refl, ap, arith}
use Rattle.std.proofs.Math.ListN.{drop_of_length-le}
use Rattle.sgt_names.proofs.Lists.{element_at, drop_next}
use Rattle.sgt_notation.specs.Spelling.{text_of_lines}
use Rattle.sgt_serial.specs.Text.{final_line}
use Rattle.sgt_serial.specs.private.Written.{with_lf}
use Rattle.sgt_serial.proofs.Passing.{on-err, passes-none, passes-more, passes-all, passes-front}
use Rattle.sgt_serial.proofs.written.write_finals.Goals as goal

pub loop-value-init : goal.loop-value-init
loop-value-init g c =
    let xs = c.args.finals.now in
    record {
      passed = passes-none (g.W.Sink.holds c.args.writer.now) c.args.out.now.items (text_of_lines (map final_line xs))
          (text_of_lines (map final_line xs)) refl;
      capacity = omega arith;
      quiet = refl;
    }

pub loop-value-preserved : goal.loop-value-preserved
loop-value-preserved g c =
    let holds = g.W.Sink.holds in
    let xs = c.args.finals.now in
    let i = c.loop-value.value-index in
    let x = c.value-item.result in
    let at = element_at xs i x (omega arith) c.value-item.is in
    let so_far = c.loop-value.invariant in
    let call = c.in_ok-write_final.ensures in
    record {
      passed = passes-more (holds c.args.writer.now) (holds c.loop-value.writer) (holds c.write_final.new.writer)
          c.args.out.now.items c.loop-value.out.items c.write_final.new.out.items
          (with_lf (final_line x)) (text_of_lines (map final_line (drop i xs)))
          (text_of_lines (map final_line (drop (i + 1) xs))) (text_of_lines (map final_line xs))
          (ap (λ ys. text_of_lines (map final_line ys)) (drop_next xs i x at)) so_far.passed call.ok;
      capacity = omega (arith, so_far.capacity, call.capacity);
      quiet = call.fails ∙ so_far.quiet;
    }

pub returns-in_err-write_final-clause-err : goal.returns-in_err-write_final-clause-err
returns-in_err-write_final-clause-err g c =
    let holds = g.W.Sink.holds in
    let xs = c.args.finals.now in
    let i = c.loop-value.value-index in
    let x = c.value-item.result in
    let at = element_at xs i x (omega arith) c.value-item.is in
    on-err c.from_residual.result
    (passes-front (holds c.args.writer.now) (holds c.loop-value.writer) (holds c.write_final.new.writer)
    c.args.out.now.items c.loop-value.out.items
    (with_lf (final_line x)) (text_of_lines (map final_line (drop i xs)))
    (text_of_lines (map final_line (drop (i + 1) xs))) (text_of_lines (map final_line xs))
    (ap (λ ys. text_of_lines (map final_line ys)) (drop_next xs i x at)) c.loop-value.invariant.passed
    c.in_err-write_final.ensures.err)

pub returns-clause-ok : goal.returns-clause-ok
returns-clause-ok g c =
    let holds = g.W.Sink.holds in
    let xs = c.args.finals.now in
    let i = c.loop-value.value-index in
    let end : length xs ≤ i = omega arith in
    passes-all (holds c.args.writer.now) (holds c.loop-value.writer) c.args.out.now.items c.loop-value.out.items
    (text_of_lines (map final_line (drop i xs))) (text_of_lines (map final_line xs))
    (ap (λ ys. text_of_lines (map final_line ys)) (drop_of_length-le xs end)) c.loop-value.invariant.passed
