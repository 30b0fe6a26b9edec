use Rattle.std.proofs.Common.{◌∙◌, ◌≡◌, ◌<◌, ◌≤◌, ◌-◌, ◌+◌, [], ◌∷◌, ◌++◌, List, ℕ, ap, refl, sym, subst, arith, append_assoc, length, take, Err}
use Rattle.sgt_certify.proofs.Taken.{nothing-taken, held-taken, line-taken, cut-taken, end-taken, fault-taken, long-taken, spends_on}
use Rattle.std.proofs.lemmas.List.{length-append}
use Rattle.sgt_notation.specs.Lines.{Ahead}
use Rattle.sgt_certify.specs.Reach.{AreShort, IsJudgedTo, IsWithinRoom}
use Rattle.sgt_certify_faults.specs.Faults.{IsFirstFault}
use Rattle.sgt_certify.proofs.Judged.{cut-near, end-near, held-near, judged-on, long-near, nothing-judged}
use Rattle.sgt_certify.proofs.Reached.{line-kept, held-kept, few-kept, last-kept, last-kept_line, drop-few, long-further, long-behind, long-all, cut-further, cut-behind, cut-all, end-further, end-behind, end-all, fault-further, fault-behind, fault-all}
use Rattle.sgt_notation.proofs.Texts.{spends-none, fault-met}
use Rattle.sgt_certify.proofs.taking.take_lines.Goals as goal

pub lines-init : goal.lines-init
lines-init g c = (
  nothing-taken _ c.args.lines.now _ c.requires.none (ap (λ a. a.held) c.requires.fresh),
  refl,
  spends-none _ _ _ (ap (λ a. a.reads) c.requires.fresh),
  omega (arith, ap (λ a. a.reads) c.requires.fresh),
  subst AreShort (sym c.requires.none) tt,
  omega (arith, ap (λ a. a.reads) c.requires.fresh),
  omega (arith, ap (λ a. length a.held) c.requires.fresh),
  subst (λ n. IsJudgedTo c.args.text.now.items n) (sym c.in_ok-early.ensures) (nothing-judged c.args.text.now.items),
  omega (arith, ap length c.requires.none),
)

pub lines-preserved : goal.lines-preserved
lines-preserved g c =
    let gave = rw c.in-Ok-Line.field-0-is at c.in-Ok-Line.ensures.ok in
    let held = c.in_ok-take_held.ensures in
    let kept : length c.take_held.new.lines.held ≤ g.R.Source.last c.lines.reader =
    omega (arith, c.lines.invariant.6, drop-few held.0 c.lines.lines.held, ap (λ (a : Ahead). length a.held) held.1) in
    let reads = ap (λ (a : Ahead). a.reads) held.1 in
    let spent : 4294967295 ≤ c.take_held.new.lines.reads + length c.lines.text.items =
    omega (arith, c.lines.invariant.5, reads) in
    let text = c.take_held.new.text.items in
    let l = c.next.new.line.items in
    let after = c.push_line.new.text.items in
    let same = c.as_slice-so_far.ensures.value in
    let short = held-kept _ _ _ held.2 c.lines.invariant.4 held.3 in
    let judged : IsJudgedTo text c.look.new.self.judged =
    subst (λ (t : List ℕ). IsJudgedTo t c.look.new.self.judged) same (rw c.in_default.is at
    (c.in_ok-first.ensures.judged c.lines.text.items (take held.0 c.lines.lines.held) (same ∙ held.2)
    c.lines.invariant.7 (subst AreShort (sym same) short))) in
    let room = subst (λ (t : List ℕ). IsWithinRoom c.look.new.self.judged (length t)) same
    (rw c.in_default.is at c.in_ok-first.ensures.room) in
    let added = c.in_ok-push_line-in-Ok-Line.ensures
    ∙ ap (λ (t : List ℕ). (text ++ t) ++ 10 ∷ []) c.as_slice-whole.ensures.value in (
      line-taken _ _ _ _ _ _ _ (held-taken _ _ held.0 _ _ _ _ c.lines.invariant.0 held.1 held.2) gave.gives
          (c.in_ok-push_line-in-Ok-Line.ensures
          ∙ ap (λ (l : List ℕ). (c.take_held.new.text.items ++ l) ++ 10 ∷ []) c.as_slice-whole.ensures.value),
      gave.quiet ∙ c.lines.invariant.1,
      spends_on _ _ _ _ _ _ _ reads c.lines.invariant.2 gave.spends,
      omega (arith, c.in-Ok-Line.ensures.asks, c.lines.invariant.3, reads),
      line-kept _ _ _ _ _ _ held.2 c.lines.invariant.4 held.3 c.as_slice-whole.ensures.value c.in-Ok-Line.ensures.line.1
          c.in_ok-push_line-in-Ok-Line.ensures,
      few-kept c.take_held.new.lines.reads _ 4294967295 _ _ _ _ _ _ held.2 c.as_slice-whole.ensures.value
          c.in_ok-push_line-in-Ok-Line.ensures spent
          c.in-Ok-Line.ensures.few,
      last-kept_line c.take_held.new.lines.reads _ (length c.take_held.new.lines.held) _ _ _ _
          c.in-Ok-Line.ensures.reads c.in-Ok-Line.ensures.still
          (λ less. rw c.in-Ok-Line.field-0-is at c.in-Ok-Line.ensures.fresh less) c.in-Ok-Line.ensures.bounded kept,
      judged-on text (l ++ 10 ∷ []) after c.look.new.self.judged (added ∙ append_assoc text l (10 ∷ [])) judged,
      omega (
        arith,
        room,
        c.in-Ok-Line.ensures.line.1,
        ap length added,
        length-append (text ++ l) (10 ∷ []),
        length-append text l,
      ),
    )

pub returns-in-Ok-Cut-clause-taken : goal.returns-in-Ok-Cut-clause-taken
returns-in-Ok-Cut-clause-taken g c =
    let gave = rw c.in-Ok-Cut.field-0-is at c.in-Ok-Cut.ensures.ok in
    let held = c.in_ok-take_held.ensures in
    cut-taken _ _ _ _ _ _ _ (held-taken _ _ held.0 _ _ _ _ c.lines.invariant.0 held.1 held.2) gave.gives
    (c.in_ok-extend_from_slice-in-Ok-Cut.ensures.items
    ∙ ap (λ (l : List ℕ). c.take_held.new.text.items ++ l) c.as_slice-last.ensures.value)

pub returns-in-Ok-End-clause-taken : goal.returns-in-Ok-End-clause-taken
returns-in-Ok-End-clause-taken g c =
    let gave = rw c.in-Ok-End.field-0-is at c.in-Ok-End.ensures.ok in
    let held = c.in_ok-take_held.ensures in
    end-taken _ _ _ _ _ _ (held-taken _ _ held.0 _ _ _ _ c.lines.invariant.0 held.1 held.2) gave.gives

pub returns-in-Ok-TooLong-clause-taken : goal.returns-in-Ok-TooLong-clause-taken
returns-in-Ok-TooLong-clause-taken g c =
    let gave = rw c.in-Ok-TooLong.field-0-is at c.in-Ok-TooLong.ensures.ok in
    let held = c.in_ok-take_held.ensures in
    long-taken _ _ _ _ _ (held-taken _ _ held.0 _ _ _ _ c.lines.invariant.0 held.1 held.2) gave.gives

pub returns-in-Ok-Cut-clause-no_further : goal.returns-in-Ok-Cut-clause-no_further
returns-in-Ok-Cut-clause-no_further g c =
    let gave = rw c.in-Ok-Cut.field-0-is at c.in-Ok-Cut.ensures.ok in
    let held = c.in_ok-take_held.ensures in
    let mid = held-taken _ _ held.0 _ _ _ _ c.lines.invariant.0 held.1 held.2 in
    let short = held-kept _ _ _ held.2 c.lines.invariant.4 held.3 in
    cut-further _ _ _ _ _ _ mid gave.gives short

pub returns-in-Ok-Cut-clause-none_behind : goal.returns-in-Ok-Cut-clause-none_behind
returns-in-Ok-Cut-clause-none_behind g c =
    let gave = rw c.in-Ok-Cut.field-0-is at c.in-Ok-Cut.ensures.ok in
    let held = c.in_ok-take_held.ensures in
    let mid = held-taken _ _ held.0 _ _ _ _ c.lines.invariant.0 held.1 held.2 in
    let short = held-kept _ _ _ held.2 c.lines.invariant.4 held.3 in
    cut-behind _ _ _ _ _ _ _ mid gave.gives short

pub returns-in-Ok-Cut-clause-reads_all : goal.returns-in-Ok-Cut-clause-reads_all
returns-in-Ok-Cut-clause-reads_all g c =
    let gave = rw c.in-Ok-Cut.field-0-is at c.in-Ok-Cut.ensures.ok in
    let held = c.in_ok-take_held.ensures in
    let mid = held-taken _ _ held.0 _ _ _ _ c.lines.invariant.0 held.1 held.2 in
    cut-all _ _ _ _ _ _ mid gave.gives

pub returns-in-Ok-End-clause-no_further : goal.returns-in-Ok-End-clause-no_further
returns-in-Ok-End-clause-no_further g c =
    let gave = rw c.in-Ok-End.field-0-is at c.in-Ok-End.ensures.ok in
    let held = c.in_ok-take_held.ensures in
    let mid = held-taken _ _ held.0 _ _ _ _ c.lines.invariant.0 held.1 held.2 in
    let short = held-kept _ _ _ held.2 c.lines.invariant.4 held.3 in
    end-further _ _ _ _ _ _ mid gave.gives short

pub returns-in-Ok-End-clause-none_behind : goal.returns-in-Ok-End-clause-none_behind
returns-in-Ok-End-clause-none_behind g c =
    let gave = rw c.in-Ok-End.field-0-is at c.in-Ok-End.ensures.ok in
    let held = c.in_ok-take_held.ensures in
    let mid = held-taken _ _ held.0 _ _ _ _ c.lines.invariant.0 held.1 held.2 in
    let short = held-kept _ _ _ held.2 c.lines.invariant.4 held.3 in
    end-behind _ _ _ _ _ _ _ mid gave.gives short

pub returns-in-Ok-End-clause-reads_all : goal.returns-in-Ok-End-clause-reads_all
returns-in-Ok-End-clause-reads_all g c =
    let gave = rw c.in-Ok-End.field-0-is at c.in-Ok-End.ensures.ok in
    let held = c.in_ok-take_held.ensures in
    let mid = held-taken _ _ held.0 _ _ _ _ c.lines.invariant.0 held.1 held.2 in
    end-all _ _ _ _ _ _ mid gave.gives

pub returns-in-Ok-TooLong-clause-no_further : goal.returns-in-Ok-TooLong-clause-no_further
returns-in-Ok-TooLong-clause-no_further g c =
    let gave = rw c.in-Ok-TooLong.field-0-is at c.in-Ok-TooLong.ensures.ok in
    let held = c.in_ok-take_held.ensures in
    let mid = held-taken _ _ held.0 _ _ _ _ c.lines.invariant.0 held.1 held.2 in
    let short = held-kept _ _ _ held.2 c.lines.invariant.4 held.3 in
    let reads = ap (λ (a : Ahead). a.reads) held.1 in
    let grown = ap length held.2 in
    long-further _ _ _ _ _ _ mid gave.gives short c.in-Ok-TooLong.ensures.line.1
    (omega (
      arith,
      c.in-Ok-TooLong.ensures.asks,
      c.in-Ok-TooLong.ensures.few,
      c.lines.invariant.3,
      c.lines.invariant.5,
      reads,
      grown,
      length-append c.lines.text.items (take held.0 c.lines.lines.held),
    ))

pub returns-in-Ok-TooLong-clause-none_behind : goal.returns-in-Ok-TooLong-clause-none_behind
returns-in-Ok-TooLong-clause-none_behind g c =
    let gave = rw c.in-Ok-TooLong.field-0-is at c.in-Ok-TooLong.ensures.ok in
    let held = c.in_ok-take_held.ensures in
    let mid = held-taken _ _ held.0 _ _ _ _ c.lines.invariant.0 held.1 held.2 in
    let short = held-kept _ _ _ held.2 c.lines.invariant.4 held.3 in
    let kept =
    last-kept c.take_held.new.lines.reads _ (length c.take_held.new.lines.held) _ _ _ _
    c.in-Ok-TooLong.ensures.reads c.in-Ok-TooLong.ensures.still
    (λ less. rw c.in-Ok-TooLong.field-0-is at c.in-Ok-TooLong.ensures.fresh less) c.in-Ok-TooLong.ensures.bounded
    (omega (
      arith,
      c.lines.invariant.6,
      drop-few held.0 c.lines.lines.held,
      ap (λ (a : Ahead). length a.held) held.1,
    )) in
    long-behind _ _ _ _ _ _ _ mid gave.gives short c.in-Ok-TooLong.ensures.line.1 kept

pub returns-in-Ok-TooLong-clause-reads_all : goal.returns-in-Ok-TooLong-clause-reads_all
returns-in-Ok-TooLong-clause-reads_all g c =
    let gave = rw c.in-Ok-TooLong.field-0-is at c.in-Ok-TooLong.ensures.ok in
    let held = c.in_ok-take_held.ensures in
    let mid = held-taken _ _ held.0 _ _ _ _ c.lines.invariant.0 held.1 held.2 in
    long-all _ _ _ _ _ _ mid gave.gives

pub returns-in-Err-ReadFault-clause-reader : goal.returns-in-Err-ReadFault-clause-reader
returns-in-Err-ReadFault-clause-reader g c =
    let reads = ap (λ (a : Ahead). a.reads) c.in_ok-take_held.ensures.1 in
    record {
      due = λ same. fault-met _ _ _ _ _ _ _ _ c.lines.invariant.1 c.lines.invariant.2 reads
          (omega (arith, c.in-Err-ReadFault.ensures.asks, c.lines.invariant.3, reads))
          (c.in-Err-ReadFault.ensures.read_fault (ap Err c.in-Err-ReadFault.field-0-is));
      quiet = λ other. absurd (other refl);
    }

pub returns-in-Ok-Cut-clause-little_behind : goal.returns-in-Ok-Cut-clause-little_behind
returns-in-Ok-Cut-clause-little_behind g c =
    let gave = rw c.in-Ok-Cut.field-0-is at c.in-Ok-Cut.ensures.ok in
    let held = c.in_ok-take_held.ensures in
    let mid = held-taken _ _ held.0 _ _ _ _ c.lines.invariant.0 held.1 held.2 in
    let same = c.as_slice-so_far.ensures.value in
    let short = held-kept _ _ _ held.2 c.lines.invariant.4 held.3 in
    let judged : IsJudgedTo c.take_held.new.text.items c.look.new.self.judged =
    subst (λ (t : List ℕ). IsJudgedTo t c.look.new.self.judged) same (rw c.in_default.is at
    (c.in_ok-first.ensures.judged c.lines.text.items (take held.0 c.lines.lines.held) (same ∙ held.2)
    c.lines.invariant.7 (subst AreShort (sym same) short))) in
    let room = subst (λ (t : List ℕ). IsWithinRoom c.look.new.self.judged (length t)) same
    (rw c.in_default.is at c.in_ok-first.ensures.room) in
    cut-near _ _ _ _ _ _ _ _ mid gave.gives judged room

pub returns-in-Ok-End-clause-little_behind : goal.returns-in-Ok-End-clause-little_behind
returns-in-Ok-End-clause-little_behind g c =
    let gave = rw c.in-Ok-End.field-0-is at c.in-Ok-End.ensures.ok in
    let held = c.in_ok-take_held.ensures in
    let mid = held-taken _ _ held.0 _ _ _ _ c.lines.invariant.0 held.1 held.2 in
    let same = c.as_slice-so_far.ensures.value in
    let short = held-kept _ _ _ held.2 c.lines.invariant.4 held.3 in
    let judged : IsJudgedTo c.take_held.new.text.items c.look.new.self.judged =
    subst (λ (t : List ℕ). IsJudgedTo t c.look.new.self.judged) same (rw c.in_default.is at
    (c.in_ok-first.ensures.judged c.lines.text.items (take held.0 c.lines.lines.held) (same ∙ held.2)
    c.lines.invariant.7 (subst AreShort (sym same) short))) in
    let room = subst (λ (t : List ℕ). IsWithinRoom c.look.new.self.judged (length t)) same
    (rw c.in_default.is at c.in_ok-first.ensures.room) in
    end-near _ _ _ _ _ _ _ _ mid gave.gives judged room

pub returns-in-Ok-TooLong-clause-little_behind : goal.returns-in-Ok-TooLong-clause-little_behind
returns-in-Ok-TooLong-clause-little_behind g c =
    let gave = rw c.in-Ok-TooLong.field-0-is at c.in-Ok-TooLong.ensures.ok in
    let held = c.in_ok-take_held.ensures in
    let mid = held-taken _ _ held.0 _ _ _ _ c.lines.invariant.0 held.1 held.2 in
    let kept =
    last-kept c.take_held.new.lines.reads _ (length c.take_held.new.lines.held) _ _ _ _
    c.in-Ok-TooLong.ensures.reads c.in-Ok-TooLong.ensures.still
    (λ less. rw c.in-Ok-TooLong.field-0-is at c.in-Ok-TooLong.ensures.fresh less) c.in-Ok-TooLong.ensures.bounded
    (omega (
      arith,
      c.lines.invariant.6,
      drop-few held.0 c.lines.lines.held,
      ap (λ (a : Ahead). length a.held) held.1,
    )) in
    let same = c.as_slice-so_far.ensures.value in
    let short = held-kept _ _ _ held.2 c.lines.invariant.4 held.3 in
    let judged : IsJudgedTo c.take_held.new.text.items c.look.new.self.judged =
    subst (λ (t : List ℕ). IsJudgedTo t c.look.new.self.judged) same (rw c.in_default.is at
    (c.in_ok-first.ensures.judged c.lines.text.items (take held.0 c.lines.lines.held) (same ∙ held.2)
    c.lines.invariant.7 (subst AreShort (sym same) short))) in
    let room = subst (λ (t : List ℕ). IsWithinRoom c.look.new.self.judged (length t)) same
    (rw c.in_default.is at c.in_ok-first.ensures.room) in
    long-near _ _ _ _ _ _ _ _ mid gave.gives judged c.in-Ok-TooLong.ensures.line.1 kept room

pub returns-in-Some-clause-taken : goal.returns-in-Some-clause-taken
returns-in-Some-clause-taken g c =
    let held = c.in_ok-take_held.ensures in
    let first = c.in-Some.first in
    fault-taken _ _ c.take_held.new.text.items first.line first.fault
    (held-taken _ _ held.0 _ _ _ _ c.lines.invariant.0 held.1 held.2)
    (λ more. subst (λ (t : List ℕ). IsFirstFault (t ++ more) first.line first.fault) c.as_slice-so_far.ensures.value
    ((rw c.in-Some.is at c.in_ok-first.ensures.found) more))

pub returns-in-Some-clause-no_further : goal.returns-in-Some-clause-no_further
returns-in-Some-clause-no_further g c =
    let held = c.in_ok-take_held.ensures in
    fault-further _ _ _ _ (held-taken _ _ held.0 _ _ _ _ c.lines.invariant.0 held.1 held.2)
    (held-kept _ _ _ held.2 c.lines.invariant.4 held.3)
    (omega (
      arith,
      c.lines.invariant.3,
      c.lines.invariant.5,
      ap length held.2,
      length-append c.lines.text.items (take held.0 c.lines.lines.held),
    ))

pub returns-in-Some-clause-none_behind : goal.returns-in-Some-clause-none_behind
returns-in-Some-clause-none_behind g c =
    fault-behind _ _ c.lines.text.items c.lines.lines.held _ c.lines.invariant.0 c.lines.invariant.4
    c.lines.invariant.6

pub returns-in-Some-clause-little_behind : goal.returns-in-Some-clause-little_behind
returns-in-Some-clause-little_behind g c =
    held-near _ _ c.lines.text.items c.lines.lines.held c.lines.early.judged _ c.lines.invariant.0
    c.lines.invariant.7 c.lines.invariant.6 c.lines.invariant.8

pub returns-in-Some-clause-reads_all : goal.returns-in-Some-clause-reads_all
returns-in-Some-clause-reads_all g c =
    let held = c.in_ok-take_held.ensures in
    let first = c.in-Some.first in
    fault-all _ _ first.line first.fault (fault-taken _ _ c.take_held.new.text.items first.line first.fault
    (held-taken _ _ held.0 _ _ _ _ c.lines.invariant.0 held.1 held.2)
    (λ more. subst (λ (t : List ℕ). IsFirstFault (t ++ more) first.line first.fault) c.as_slice-so_far.ensures.value
    ((rw c.in-Some.is at c.in_ok-first.ensures.found) more)))
