use Rattle.std.proofs.Common.{◌≡◌, ◌+◌, ◌<◌, ◌≤◌, ◌∙◌, ◌++◌, ℕ, List, [], Option, Some, None, Result, length, take, drop, inl, inr, refl, sym, ap, subst, arith, append-nil, length-append, length-drop}
use Rattle.std.proofs.lemmas.List.{length-take, length-take-le}
use Rattle.std.proofs.lemmas.Result.{err_from_is_err_and}
use Rattle.std.specs.Io.KnownBytes.{Consumes, prepend_known}
use Rattle.sgt_names.specs.Limits.{max_line, most_reads}
use Rattle.sgt_names.specs.declared.outcome.EngineFail.{EngineFail}
use Rattle.sgt_notation.specs.Lines.{IsLongerThan}
use Rattle.sgt_certify.specs.Reach.{IsJudgedTo, IsWithinRoom}
use Rattle.sgt_certify.proofs.Judged.{nothing-judged}
use Rattle.sgt_certify_faults.specs.Faults.{IsFirstFault}
use Rattle.sgt_explain.proofs.Taken.{SameErr, came-all, came-front, came-many, came-more, leaves-failed}
use Rattle.sgt_explain_logs.specs.Taken.{IsCut}
use Rattle.sgt_explain_logs.specs.declared.taking.Logs.{Logs}
use Rattle.sgt_explain_logs.proofs.Cuts.{cut-more, uncut}
use Rattle.sgt_explain_logs.proofs.Readings.{cut-time, fault-alone, fault-read, judged-more, judged-now, more-time}
use Rattle.sgt_explain_logs.proofs.taking.read_logs.Goals as goal

nothing-came : (told : Option (List ℕ)) → Consumes told told []
nothing-came None = tt
nothing-came (Some xs) = refl

pub reads-init : goal.reads-init
reads-init g c =
    let text = c.args.text.items in
    record {
      told = ([], sym (append-nil text), nothing-came (g.R.Source.tells c.args.reader.now));
      cut = uncut _ _ refl refl;
      judged = subst (λ (n : ℕ). IsJudgedTo (take 0 text) n) (sym c.in_ok-early.ensures) (nothing-judged (take 0 text));
      of_last = inl refl;
      quiet = refl;
      counted = omega arith;
      few = omega arith;
      room = c.in_ok-buffer.ensures;
    }

pub advance-requires : goal.advance-requires
advance-requires g c = subst (IsCut c.reads.cut) (sym c.as_slice.ensures.value) c.reads.invariant.cut

pub fault_so_far-requires-clause-long : goal.fault_so_far-requires-clause-long
fault_so_far-requires-clause-long g c =
    let lines = c.advance.new.self.lines in
    subst (λ (t : List ℕ). lines + max_line < length t → IsLongerThan max_line (drop lines t))
    (c.as_slice.ensures.value ∙ sym c.as_slice-in-reads.ensures.value) c.advance.ensures.long

pub returns-in-Some-clause-read : goal.returns-in-Some-clause-read
returns-in-Some-clause-read g c =
    let told = g.R.Source.tells c.args.reader.now in
    let now = g.R.Source.tells c.reads.reader in
    let text = c.reads.text.items in
    let first = c.in-Some.first in
    fault-read (prepend_known c.args.text.items told) now text first
    (came-front c.args.text.items text told now c.reads.invariant.told)
    (λ more. subst (λ (t : List ℕ). IsFirstFault (t ++ more) first.line first.fault) c.as_slice-in-reads.ensures.value
    ((rw c.in-Some.is at c.in_ok-found.ensures.found) more))

pub returns-in-Some-clause-alone : goal.returns-in-Some-clause-alone
returns-in-Some-clause-alone g c =
    let first = c.in-Some.first in
    fault-alone c.reads.text.items first
    (λ more. subst (λ (t : List ℕ). IsFirstFault (t ++ more) first.line first.fault) c.as_slice-in-reads.ensures.value
    ((rw c.in-Some.is at c.in_ok-found.ensures.found) more))

pub returns-in-Some-clause-reads : goal.returns-in-Some-clause-reads
returns-in-Some-clause-reads g c =
    let told = g.R.Source.tells c.args.reader.now in
    let now = g.R.Source.tells c.reads.reader in
    let text = c.reads.text.items in
    let inv = c.reads.invariant in
    elim inv.of_last [
      | inl same ↦ inl same
      | inr (many, size, few, room) ↦
          inr (cut-time (prepend_known c.args.text.items told) now text c.reads.cut c.reads.early.judged many
          (g.R.Source.last c.reads.reader) inv.cut (came-front c.args.text.items text told now inv.told) inv.judged size few
          room)
    ]

pub returns-in_err-take_some-clause-reader : goal.returns-in_err-take_some-clause-reader
returns-in_err-take_some-clause-reader g c =
    let failed : Result Logs EngineFail = c.from_residual-in_err-take_some.result in
    let told = err_from_is_err_and failed c.from_residual-in_err-take_some.ensures.1 in
    let same : SameErr c.take_some.result failed = rw c.in_err-take_some.was (rw told.1 (sym told.2)) in
    leaves-failed g.R.Source.tells g.R.Source.failures c.take_some.result failed
    c.args.reader.now c.reads.reader c.take_some.new.reader same c.reads.invariant.quiet
    c.take_some.ensures.quiet c.take_some.ensures.read_fault

pub returns-then-branch-eq0-clause-read : goal.returns-then-branch-eq0-clause-read
returns-then-branch-eq0-clause-read g c =
    let tells = g.R.Source.tells in
    let came = take c.in_ok-take_some.field-0 c.take_some.new.buffer in
    let taken = c.in_ok-take_some.ensures.taken in
    came-all c.args.text.items c.take_some.new.text.items (tells c.args.reader.now) (tells c.take_some.new.reader)
    (came-more c.args.text.items c.reads.text.items c.take_some.new.text.items came (tells c.args.reader.now)
    (tells c.reads.reader) (tells c.take_some.new.reader) c.reads.invariant.told taken.0 taken.1)
    (taken.3 c.if-branch-eq0.true)

pub returns-then-branch-eq0-clause-reads : goal.returns-then-branch-eq0-clause-reads
returns-then-branch-eq0-clause-reads g c =
    let tells = g.R.Source.tells in
    let inv = c.reads.invariant in
    let n = c.in_ok-take_some.field-0 in
    let came = take n c.take_some.new.buffer in
    let taken = c.in_ok-take_some.ensures.taken in
    let cut = c.advance.new.self in
    let text = c.reads.text.items in
    let new = c.take_some.new.text.items in
    let early = c.fault_so_far.new.early in
    let same = c.as_slice-in-reads.ensures.value in
    let is = subst (IsCut cut) c.as_slice.ensures.value c.advance.ensures.cut in
    let room = subst (λ (t : List ℕ). IsWithinRoom early.judged cut.lines × (length t ≤ cut.lines + max_line)) same
    (rw c.in_default.is at c.in_ok-found.ensures.room) in
    let on : (before piece : List ℕ) → take cut.lines text ≡ before ++ piece → IsJudgedTo before c.reads.early.judged
    → IsJudgedTo (take cut.lines text) early.judged =
    λ before piece e all. subst (λ (t : List ℕ). IsJudgedTo (take cut.lines t) early.judged) same
    (rw c.in_default.is at (c.in_ok-found.ensures.judged before piece (ap (take cut.lines) same ∙ e) all)) in
    let judged =
    judged-now text c.reads.cut.lines cut.lines c.reads.early.judged early.judged c.advance.ensures.on on inv.judged in
    inr (more-time (prepend_known c.args.text.items (tells c.args.reader.now)) (tells c.take_some.new.reader) text came new
    cut early.judged (g.R.Source.last c.take_some.new.reader) is judged taken.1
    (length-take-le n c.take_some.new.buffer taken.2 ∙ sym c.in_ok-take_some.ensures.gave) room.1 room.0
    (came-front c.args.text.items new (tells c.args.reader.now) (tells c.take_some.new.reader)
    (came-more c.args.text.items text new came (tells c.args.reader.now) (tells c.reads.reader)
    (tells c.take_some.new.reader) inv.told taken.0 taken.1)))

pub reads-preserved : goal.reads-preserved
reads-preserved g c =
    let tells = g.R.Source.tells in
    let inv = c.reads.invariant in
    let n = c.in_ok-take_some.field-0 in
    let came = take n c.take_some.new.buffer in
    let taken = c.in_ok-take_some.ensures.taken in
    let cut = c.advance.new.self in
    let text = c.reads.text.items in
    let new = c.take_some.new.text.items in
    let early = c.fault_so_far.new.early in
    let same = c.as_slice-in-reads.ensures.value in
    let is = subst (IsCut cut) c.as_slice.ensures.value c.advance.ensures.cut in
    let room = subst (λ (t : List ℕ). IsWithinRoom early.judged cut.lines × (length t ≤ cut.lines + max_line)) same
    (rw c.in_default.is at c.in_ok-found.ensures.room) in
    let on : (before piece : List ℕ) → take cut.lines text ≡ before ++ piece → IsJudgedTo before c.reads.early.judged
    → IsJudgedTo (take cut.lines text) early.judged =
    λ before piece e all. subst (λ (t : List ℕ). IsJudgedTo (take cut.lines t) early.judged) same
    (rw c.in_default.is at (c.in_ok-found.ensures.judged before piece (ap (take cut.lines) same ∙ e) all)) in
    let judged =
    judged-now text c.reads.cut.lines cut.lines c.reads.early.judged early.judged c.advance.ensures.on on inv.judged in
    let grown = ap length taken.1 ∙ length-append text came in
    let size = length-take-le n c.take_some.new.buffer taken.2 in
    let buffer = c.take_some.new.buffer in
    let left = drop (length buffer) c.reads.buffer.items in
    record {
      told = came-more c.args.text.items text new came (tells c.args.reader.now) (tells c.reads.reader)
          (tells c.take_some.new.reader) inv.told taken.0 taken.1;
      cut = subst (IsCut cut) (sym taken.1) (cut-more cut text is came);
      judged = judged-more cut text came new early.judged is taken.1 judged;
      of_last = inr (
        length text,
        omega (arith, grown, size, c.in_ok-take_some.ensures.gave),
        room.1,
        omega (arith, room),
      );
      quiet = c.in_ok-take_some.ensures.quiet (λ e. cc) ∙ inv.quiet;
      counted = omega (arith, inv.counted, grown, size, c.if-branch-eq0.false);
      few = omega (arith, c.reads-test.true);
      room = omega (
        arith,
        inv.room,
        c.in_ok-take_some.ensures.same,
        ap length c.as_mut_slice.ensures.value,
        length-take c.reads.buffer.len (buffer ++ left),
        length-append buffer left,
        length-drop (length buffer) c.reads.buffer.items,
        c.reads.buffer.ok.0,
      );
    }

pub returns-clause-reader : goal.returns-clause-reader
returns-clause-reader g c =
    let inv = c.reads.invariant in
    record {
      due = λ is. inr (came-many c.args.text.items c.reads.text.items (g.R.Source.tells c.args.reader.now)
          (g.R.Source.tells c.reads.reader) most_reads inv.told (omega (arith, inv.counted, c.reads-test.false)));
      quiet = λ other. absurd (other refl);
    }
