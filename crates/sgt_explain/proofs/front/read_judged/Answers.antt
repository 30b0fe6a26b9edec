use Rattle.std.proofs.Common.{◌+◌, ◌∙◌, ◌++◌, ℕ, List, Result, length, take, drop, inr, refl, sym, ap, subst, arith, length-append, length-drop}
use Rattle.std.proofs.lemmas.List.{length-take, length-take-le}
use Rattle.std.proofs.lemmas.Result.{err_from_is_err_and}
use Rattle.std.specs.Io.KnownBytes.{prepend_known}
use Rattle.sgt_names.specs.Limits.{most_reads}
use Rattle.sgt_names.specs.declared.outcome.EngineFail.{EngineFail}
use Rattle.sgt_explain.specs.Watched.{IsBehind, MeetsFault}
use Rattle.sgt_explain.specs.declared.front.Front.{Front}
use Rattle.sgt_explain.proofs.Fronts.{behind-more, cut-reads, cut-told, cut-verdict, end-reads}
use Rattle.sgt_explain.proofs.Taken.{SameErr, came-front, came-many, came-more, leaves-failed}
use Rattle.sgt_explain.proofs.front.read_judged.Goals as goal

pub returns-in-Some-clause-verdict : goal.returns-in-Some-clause-verdict
returns-in-Some-clause-verdict g c =
    let told = g.R.Source.tells c.args.reader.now in
    let now = g.R.Source.tells c.reads.reader in
    let w = c.judge.new.self in
    let meets = subst (λ (t : List ℕ). MeetsFault t w.judged w.number c.in-Some.fault) c.as_slice.ensures.value
    (rw c.in-Some.is at c.in_ok-fault.ensures.judged) in
    cut-told (prepend_known c.args.text.items told) now c.reads.text.items c.cut.result.text.items w.judged w.number
    c.in-Some.fault c.cut.result.verdict
    (came-front c.args.text.items c.reads.text.items told now c.reads.invariant.told) meets c.cut.ensures.text
    c.cut.ensures.verdict

pub returns-in-Some-clause-front : goal.returns-in-Some-clause-front
returns-in-Some-clause-front g c =
    let w = c.judge.new.self in
    let meets = subst (λ (t : List ℕ). MeetsFault t w.judged w.number c.in-Some.fault) c.as_slice.ensures.value
    (rw c.in-Some.is at c.in_ok-fault.ensures.judged) in
    cut-verdict c.reads.text.items c.cut.result.text.items w.judged w.number c.in-Some.fault c.cut.result.verdict meets
    c.cut.ensures.text c.cut.ensures.verdict

pub returns-in-Some-clause-reads : goal.returns-in-Some-clause-reads
returns-in-Some-clause-reads g c =
    let w = c.judge.new.self in
    let meets = subst (λ (t : List ℕ). MeetsFault t w.judged w.number c.in-Some.fault) c.as_slice.ensures.value
    (rw c.in-Some.is at c.in_ok-fault.ensures.judged) in
    cut-reads g.R.Source.tells g.R.Source.asked g.R.Source.last c.args.text.items c.reads.text.items
    c.args.reader.now c.reads.reader c.reads.reads c.reads.invariant.asked c.reads.invariant.told c.reads.watch.seen
    w.judged w.number c.in-Some.fault c.reads.invariant.of_last (rw c.in-Some.is at c.in_ok-fault.ensures.passed) meets

pub returns-in_err-take_some-clause-reader : goal.returns-in_err-take_some-clause-reader
returns-in_err-take_some-clause-reader g c =
    let failed : Result Front EngineFail = c.from_residual-in_err-take_some.result in
    let told = err_from_is_err_and failed c.from_residual-in_err-take_some.ensures.1 in
    let same : SameErr c.take_some.result failed = rw c.in_err-take_some.was (rw told.1 (sym told.2)) in
    leaves-failed g.R.Source.tells g.R.Source.failures c.take_some.result failed
    c.args.reader.now c.reads.reader c.take_some.new.reader same c.reads.invariant.quiet
    c.take_some.ensures.quiet c.take_some.ensures.read_fault

pub returns-then-branch-eq0-clause-reads : goal.returns-then-branch-eq0-clause-reads
returns-then-branch-eq0-clause-reads g c =
    let tells = g.R.Source.tells in
    let inv = c.reads.invariant in
    let n = c.in_ok-take_some.field-0 in
    let came = take n c.take_some.new.buffer in
    let taken = c.in_ok-take_some.ensures.taken in
    let told = came-more c.args.text.items c.reads.text.items c.take_some.new.text.items came
    (tells c.args.reader.now) (tells c.reads.reader) (tells c.take_some.new.reader) inv.told taken.0 taken.1 in
    end-reads tells g.R.Source.asked g.R.Source.last c.args.text.items c.take_some.new.text.items c.args.reader.now
    c.take_some.new.reader (c.reads.reads + 1) (omega (arith, c.in_ok-take_some.ensures.asked, inv.asked)) told
    (taken.3 c.if-branch-eq0.true) c.end.ensures.reach
    (omega (arith, inv.counted, ap length taken.1, length-append c.reads.text.items came))

pub reads-preserved : goal.reads-preserved
reads-preserved g c =
    let tells = g.R.Source.tells in
    let inv = c.reads.invariant in
    let w = c.judge.new.self in
    let n = c.in_ok-take_some.field-0 in
    let came = take n c.take_some.new.buffer in
    let taken = c.in_ok-take_some.ensures.taken in
    let judged = rw c.in_default.is at c.in_ok-fault.ensures.judged in
    let seen = judged.1 ∙ ap length c.as_slice.ensures.value in
    let grown = ap length taken.1 ∙ length-append c.reads.text.items came in
    let buffer = c.take_some.new.buffer in
    let left = drop (length buffer) c.reads.buffer.items in
    let size = length-take-le n buffer taken.2 in
    record {
      told = came-more c.args.text.items c.reads.text.items c.take_some.new.text.items came
          (tells c.args.reader.now) (tells c.reads.reader) (tells c.take_some.new.reader) inv.told taken.0 taken.1;
      behind = subst (IsBehind w) (sym taken.1)
          (behind-more w c.reads.text.items came (subst (IsBehind w) c.as_slice.ensures.value judged.0));
      of_last = inr (
        omega (arith, seen, grown, size, c.in_ok-take_some.ensures.gave),
        omega (arith, inv.counted, seen),
      );
      asked = omega (arith, c.in_ok-take_some.ensures.asked, inv.asked);
      quiet = c.in_ok-take_some.ensures.quiet (λ e. cc) ∙ inv.quiet;
      counted = omega (arith, inv.counted, grown, size, c.if-branch-eq0.false);
      few = omega (arith, c.reads-test.true);
      room = omega (
        arith,
        inv.room,
        c.in_ok-take_some.ensures.same,
        ap length c.as_mut_slice.ensures.value,
        length-take c.reads.buffer.len (buffer ++ left),
        length-append buffer left,
        length-drop (length buffer) c.reads.buffer.items,
        c.reads.buffer.ok.0,
      );
    }

pub returns-clause-reader : goal.returns-clause-reader
returns-clause-reader g c =
    let inv = c.reads.invariant in
    record {
      due = λ is. inr (came-many c.args.text.items c.reads.text.items (g.R.Source.tells c.args.reader.now)
          (g.R.Source.tells c.reads.reader) most_reads inv.told (omega (arith, inv.counted, c.reads-test.false)));
      quiet = λ other. absurd (other refl);
    }
