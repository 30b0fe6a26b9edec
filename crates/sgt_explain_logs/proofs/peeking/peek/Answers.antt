use Rattle.std.proofs.Common.{◌++◌, ◌∙◌, List, ℕ, length, take, drop, ap, arith, subst, sym, length-append, length-drop}
use Rattle.std.proofs.lemmas.List.{length-take}
use Rattle.sgt_explain_logs.specs.Explained.{AreLogs, IsOpenHead}
use Rattle.sgt_explain_logs.proofs.Explanations.{refuted}
use Rattle.sgt_explain_logs.proofs.Heads.{told-other}
use Rattle.sgt_explain_logs.proofs.Opens.{consumed, peeked-more, told-peeked}
use Rattle.sgt_explain_logs.proofs.peeking.peek.Goals as goal

pub returns-then-not-is_open-clause-are : goal.returns-then-not-is_open-clause-are
returns-then-not-is_open-clause-are g c =
    told-other _ _ _ c.reads.invariant.came
    (λ are. refuted c.are_logs.result c.are_logs.ensures c.if-are_logs.false
    (subst AreLogs (sym c.as_slice.ensures.value) are))
    (λ more are. subst AreLogs c.as_slice-in-reads.ensures.value
    (c.is_open.ensures.closed c.if-not-is_open.true more
    (subst (λ (t : List ℕ). AreLogs (t ++ more)) (sym c.as_slice-in-reads.ensures.value) are)))

pub returns-then-are_logs-clause-none_behind : goal.returns-then-are_logs-clause-none_behind
returns-then-are_logs-clause-none_behind g c =
    told-peeked g.R.Source.tells g.R.Source.last c.args.reader.now c.reads.reader c.reads.text.items
    c.reads.invariant.came c.reads.invariant.peeked

pub returns-then-not-is_open-clause-none_behind : goal.returns-then-not-is_open-clause-none_behind
returns-then-not-is_open-clause-none_behind g c =
    told-peeked g.R.Source.tells g.R.Source.last c.args.reader.now c.reads.reader c.reads.text.items
    c.reads.invariant.came c.reads.invariant.peeked

pub returns-then-branch-eq0-clause-none_behind : goal.returns-then-branch-eq0-clause-none_behind
returns-then-branch-eq0-clause-none_behind g c =
    let tells = g.R.Source.tells in
    let n = c.in_ok-take_some.field-0 in
    let taken = c.in_ok-take_some.ensures.taken in
    let opened = subst IsOpenHead c.as_slice-in-reads.ensures.value (c.is_open.ensures.opened c.if-not-is_open.false) in
    told-peeked tells g.R.Source.last c.args.reader.now c.take_some.new.reader c.take_some.new.text.items
    (consumed (tells c.args.reader.now) (tells c.reads.reader) (tells c.take_some.new.reader) c.reads.text.items
    c.take_some.new.text.items (take n c.take_some.new.buffer) c.reads.invariant.came taken.0 taken.1)
    (peeked-more c.args.reader.now c.take_some.new.reader c.take_some.new.text.items c.reads.text.items
    c.take_some.new.buffer n (g.R.Source.last c.take_some.new.reader) opened taken.1 taken.2
    c.in_ok-take_some.ensures.gave)

pub reads-preserved : goal.reads-preserved
reads-preserved g c =
    let tells = g.R.Source.tells in
    let n = c.in_ok-take_some.field-0 in
    let buffer = c.take_some.new.buffer in
    let left = drop (length buffer) c.reads.buffer.items in
    let taken = c.in_ok-take_some.ensures.taken in
    let opened = subst IsOpenHead c.as_slice-in-reads.ensures.value (c.is_open.ensures.opened c.if-not-is_open.false) in
    record {
      came = consumed (tells c.args.reader.now) (tells c.reads.reader) (tells c.take_some.new.reader)
          c.reads.text.items c.take_some.new.text.items (take n buffer) c.reads.invariant.came taken.0 taken.1;
      peeked = peeked-more c.args.reader.now c.take_some.new.reader c.take_some.new.text.items c.reads.text.items
          buffer n (g.R.Source.last c.take_some.new.reader) opened taken.1 taken.2 c.in_ok-take_some.ensures.gave;
      quiet = c.in_ok-take_some.ensures.quiet (λ e. cc) ∙ c.reads.invariant.quiet;
      room = omega (
        arith,
        c.reads.invariant.room,
        c.in_ok-take_some.ensures.same,
        ap length c.as_mut_slice.ensures.value,
        length-take c.reads.buffer.len (buffer ++ left),
        length-append buffer left,
        length-drop (length buffer) c.reads.buffer.items,
        c.reads.buffer.ok.0,
      );
    }

pub returns-then-branch-eq0-clause-peeked : goal.returns-then-branch-eq0-clause-peeked
returns-then-branch-eq0-clause-peeked g c =
    let n = c.in_ok-take_some.field-0 in
    let taken = c.in_ok-take_some.ensures.taken in
    let opened = subst IsOpenHead c.as_slice-in-reads.ensures.value (c.is_open.ensures.opened c.if-not-is_open.false) in
    peeked-more c.args.reader.now c.take_some.new.reader c.take_some.new.text.items c.reads.text.items
    c.take_some.new.buffer n (g.R.Source.last c.take_some.new.reader) opened taken.1 taken.2
    c.in_ok-take_some.ensures.gave
