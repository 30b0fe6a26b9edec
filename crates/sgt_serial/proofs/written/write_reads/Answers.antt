use Rattle.std.proofs.Common.{sym, ap, subst, Vec, vec_capacity, ℕ, ◌≡◌, ◌≤◌, ◌<◌, ◌+◌, ◌∙◌, [], ◌∷◌, map, refl, arith}
use Rattle.std.specs.Prelude.{codes}
use Rattle.sgt_notation.specs.Spelling.{text_of_lines}
use Rattle.sgt_serial.specs.Report.{picked_of, read_at}
use Rattle.sgt_serial.specs.Text.{operation_line}
use Rattle.sgt_serial.proofs.Lines.{picked-none, picked_text}
use Rattle.sgt_serial.proofs.Passing.{on-err, passes-none, passes-more, passes-past, IsPassed, passes-all, passes-front}
use Rattle.sgt_serial.proofs.Spans.{by, text_in, text-next, text-none, text-all}
use Rattle.std.specs.declared.alloc.Global.{Global}
use Rattle.sgt_serial.specs.private.Reads.{read_by}
use Rattle.sgt_serial.proofs.Reading.{none-of}
use Rattle.sgt_serial.proofs.written.write_reads.Goals.{then-is_read+in_ok-write_read, else-is_read}
use Rattle.sgt_serial.proofs.written.write_reads.Goals as goal

pub loop-place-init : goal.loop-place-init
loop-place-init g c =
    let line = (operation_line (codes "r") c.args.tx) in
    let logs = c.args.logs.now in
    let o = c.args.operations.now in
    let from = c.span-span.result.from in
    let to = c.span-span.result.to in
    record {
      passed = passes-none (g.W.Sink.holds c.args.writer.now) c.args.out.now.items
          (text_in line read_at logs o from to) (text_of_lines (map line (picked_of read_at logs c.args.tx)))
          (text-all line read_at logs o c.args.tx from to (c.span-span.ensures.entries logs c.requires.of));
      capacity = omega arith;
      quiet = refl;
    }

pub loop-place-preserved : goal.loop-place-preserved
loop-place-preserved g c =
    let holds = g.W.Sink.holds in
    let line = (operation_line (codes "r") c.args.tx) in
    let logs = c.args.logs.now in
    let o = c.args.operations.now in
    let place = c.loop-place.place in
    let to = c.span-span.result.to in
    let whole = (text_of_lines (map line (picked_of read_at logs c.args.tx))) in
    let rest = text_in line read_at logs o place to in
    let more = text_in line read_at logs o (place + 1) to in
    let held = c.args.out.now.items in
    let first = holds c.args.writer.now in
    let so_far = c.loop-place.invariant in
    let within : place < to = omega arith in
    let start : place ≤ place = omega arith in
    record {
      passed = elim c.if-is_read.branch [
        | then-is_read+in_ok-write_read w ↦
            let own = w.read_at.ensures.0 in
            subst (λ writer. IsPassed first (holds writer) held c.if-is_read.out.items more whole) (sym w.writer-is)
            (subst (λ (out : Vec ℕ Global). IsPassed first (holds w.write_read.new.writer) held out.items more whole) (sym w.out-is)
            (passes-more first (holds c.loop-place.writer) (holds w.write_read.new.writer) held c.loop-place.out.items
            w.write_read.new.out.items (picked_text line (by line read_at logs o) (own ∷ [])) rest more whole
            (text-next line read_at logs o place to own within (w.read_at.ensures.1 place start)) so_far.passed
            (w.in_ok-write_read.ensures.ok own w.read_at.ensures.2)))
        | else-is_read w ↦
            let own = c.is_read.ensures.0 in
            subst (λ writer. IsPassed first (holds writer) held c.if-is_read.out.items more whole) (sym w.writer-is)
            (subst (λ (out : Vec ℕ Global). IsPassed first (holds c.loop-place.writer) held out.items more whole) (sym w.out-is)
            (passes-past first (holds c.loop-place.writer) held c.loop-place.out.items
            (picked_text line (by line read_at logs o) (own ∷ [])) rest more whole
            (text-next line read_at logs o place to own within (c.is_read.ensures.1 place start))
            (picked-none line (by line read_at logs o) own (none-of (read_by own) (sym c.is_read.ensures.2 ∙ w.if-is_read.false)))
            so_far.passed))
      ];
      capacity = elim c.if-is_read.branch [
        | then-is_read+in_ok-write_read w ↦
            let same = ap (λ (out : Vec ℕ Global). vec_capacity out) w.out-is in
            omega (arith, same, so_far.capacity, w.in_ok-write_read.ensures.capacity)
        | else-is_read w ↦
            let same = ap (λ (out : Vec ℕ Global). vec_capacity out) w.out-is in
            omega (arith, same, so_far.capacity)
      ];
      quiet = elim c.if-is_read.branch [
        | then-is_read+in_ok-write_read w ↦
            ap g.W.Sink.failures w.writer-is ∙ w.in_ok-write_read.ensures.fails ∙ so_far.quiet
        | else-is_read w ↦ ap g.W.Sink.failures w.writer-is ∙ so_far.quiet
      ];
    }

pub returns-in_err-write_read-clause-err : goal.returns-in_err-write_read-clause-err
returns-in_err-write_read-clause-err g c =
    let holds = g.W.Sink.holds in
    let line = (operation_line (codes "r") c.args.tx) in
    let logs = c.args.logs.now in
    let o = c.args.operations.now in
    let place = c.loop-place.place in
    let to = c.span-span.result.to in
    let found = c.read_at.ensures in
    let own = found.0 in
    let within : place < to = omega arith in
    let start : place ≤ place = omega arith in
    on-err c.from_residual.result
    (passes-front (holds c.args.writer.now) (holds c.loop-place.writer) (holds c.write_read.new.writer)
    c.args.out.now.items c.loop-place.out.items
    (picked_text line (by line read_at logs o) (own ∷ [])) (text_in line read_at logs o place to)
    (text_in line read_at logs o (place + 1) to)
    (text_of_lines (map line (picked_of read_at logs c.args.tx)))
    (text-next line read_at logs o place to own within (found.1 place start)) c.loop-place.invariant.passed
    (c.in_err-write_read.ensures.err own found.2))

pub returns-clause-ok : goal.returns-clause-ok
returns-clause-ok g c =
    let holds = g.W.Sink.holds in
    let line = (operation_line (codes "r") c.args.tx) in
    let logs = c.args.logs.now in
    let o = c.args.operations.now in
    let place = c.loop-place.place in
    let to = c.span-span.result.to in
    let end : place ≡ to = omega arith in
    passes-all (holds c.args.writer.now) (holds c.loop-place.writer) c.args.out.now.items c.loop-place.out.items
    (text_in line read_at logs o place to)
    (text_of_lines (map line (picked_of read_at logs c.args.tx))) (text-none line read_at logs o place to end)
    c.loop-place.invariant.passed
