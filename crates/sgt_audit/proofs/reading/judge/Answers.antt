use Rattle.std.proofs.Common.{true, ℕ, ◌≤◌, ◌-◌, List, length, sym, subst}
use Rattle.sgt_audit.specs.private.Ending.{EndsWith, IsKeeping, limit_of}
use Rattle.sgt_audit.specs.private.Stops.{IsStop}
use Rattle.sgt_audit.proofs.Begun.{none_behind}
use Rattle.sgt_audit.proofs.ReaderAtStage.{stop-judged, told-met}
use Rattle.sgt_audit.proofs.reading.judge.Goals as goal

pub returns-in-Ok-clause-judged : goal.returns-in-Ok-clause-judged
returns-in-Ok-clause-judged g c =
    (stop-judged _ _ _ _ _ _
    (subst (λ stop. IsStop (g.R.Source.tells c.args.reader.now) stop c.feed_lines.new.machine.progress
    c.feed_lines.new.line.items (g.R.Source.asked c.feed_lines.new.reader - g.R.Source.asked c.args.reader.now))
    c.in-Ok.is c.in_ok-number.ensures.stops)
    (λ s stands le.
    subst (λ (l : List ℕ). EndsWith s l c.in-Ok.number c.end.result) c.as_slice.ensures.value
    (c.end.ensures.ends s stands (subst (λ (l : List ℕ). length l ≤ limit_of s) (sym c.as_slice.ensures.value) le)))).0

pub returns-in-Ok-clause-all : goal.returns-in-Ok-clause-all
returns-in-Ok-clause-all g c =
    (stop-judged _ _ _ _ _ _
    (subst (λ stop. IsStop (g.R.Source.tells c.args.reader.now) stop c.feed_lines.new.machine.progress
    c.feed_lines.new.line.items (g.R.Source.asked c.feed_lines.new.reader - g.R.Source.asked c.args.reader.now))
    c.in-Ok.is c.in_ok-number.ensures.stops)
    (λ s stands le.
    subst (λ (l : List ℕ). EndsWith s l c.in-Ok.number c.end.result) c.as_slice.ensures.value
    (c.end.ensures.ends s stands (subst (λ (l : List ℕ). length l ≤ limit_of s) (sym c.as_slice.ensures.value) le)))).1

pub returns-in-Ok-clause-no_further : goal.returns-in-Ok-clause-no_further
returns-in-Ok-clause-no_further g c =
    (stop-judged _ _ _ _ _ _
    (subst (λ stop. IsStop (g.R.Source.tells c.args.reader.now) stop c.feed_lines.new.machine.progress
    c.feed_lines.new.line.items (g.R.Source.asked c.feed_lines.new.reader - g.R.Source.asked c.args.reader.now))
    c.in-Ok.is c.in_ok-number.ensures.stops)
    (λ s stands le.
    subst (λ (l : List ℕ). EndsWith s l c.in-Ok.number c.end.result) c.as_slice.ensures.value
    (c.end.ensures.ends s stands (subst (λ (l : List ℕ). length l ≤ limit_of s) (sym c.as_slice.ensures.value) le)))).2

pub returns-clause-no_further : goal.returns-clause-no_further
returns-clause-no_further g c = told-met _ _ _ _ (rw c.in-Err.is at c.in_ok-number.ensures.stops)

pub returns-in-Ok-clause-kept : goal.returns-in-Ok-clause-kept
returns-in-Ok-clause-kept g c asked =
    c.end.ensures.kept
    (c.in_ok-number.ensures.kept true (subst (λ b. IsKeeping b c.new-machine.result) asked c.new-machine.ensures.kept))

pub returns-in-Ok-clause-none_behind : goal.returns-in-Ok-clause-none_behind
returns-in-Ok-clause-none_behind g c =
    let began = c.in_ok-number.ensures.began in
    none_behind _ _ _ _
    (stop-judged _ _ _ _ _ _
    (subst (λ stop. IsStop (g.R.Source.tells c.args.reader.now) stop c.feed_lines.new.machine.progress
    c.feed_lines.new.line.items began.0) c.in-Ok.is began.1)
    (λ s stands le.
    subst (λ (l : List ℕ). EndsWith s l c.in-Ok.number c.end.result) c.as_slice.ensures.value
    (c.end.ensures.ends s stands (subst (λ (l : List ℕ). length l ≤ limit_of s) (sym c.as_slice.ensures.value)
    le)))).2 began.2

pub returns-clause-none_behind : goal.returns-clause-none_behind
returns-clause-none_behind g c =
    let began = c.in_ok-number.ensures.began in
    none_behind _ _ _ _ (told-met _ _ _ _ (rw c.in-Err.is at began.1)) began.2
