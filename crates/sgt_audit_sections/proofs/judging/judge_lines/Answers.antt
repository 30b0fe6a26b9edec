use Rattle.std.proofs.Common.{◌+◌, ◌∙◌, ◌++◌, ◌∷◌, [], ℕ, List, refl, sym, ap, subst, arith, length, take, drop, append_assoc}
use Rattle.std.proofs.lemmas.List.{append-nil, length-append, take-append-drop}
use Rattle.sgt_audit_decisions.proofs.Loops.{empty, refuted}
use Rattle.sgt_audit.proofs.NextStage.{empty-nil, truncated}
use Rattle.sgt_audit.specs.declared.faults.Fault.TheVariants as fault
use Rattle.sgt_audit_sections.specs.Sections.{alone}
use Rattle.sgt_audit_sections.specs.Judged.{IsUnderway}
use Rattle.sgt_audit_sections.specs.private.Feeding.{FedAlone}
use Rattle.sgt_audit_sections.proofs.OneSection.{ends, faulty, goes-on, is-whole, longer-rest, next, ready, stands, unspelled}
use Rattle.sgt_audit_sections.proofs.judging.judge_lines.Goals as goal

pub returns-in-Some-fault-clause-judged : goal.returns-in-Some-fault-clause-judged
returns-in-Some-fault-clause-judged c second read was more =
    let cert = c.args.certificate.now in
    let under = c.lines.invariant.underway second read was in
    let fed = rw c.in-Some.is at c.in_ok-n.ensures.fed in
    let with_fault =
    subst (FedAlone cert c.args.edges.now c.lines.alone c.feed_front.new.alone c.lines.rest.now c.in-Some.n)
    c.in-Some-fault.is fed in
    faulty second cert c.args.next.site c.requires.site read c.lines.rest.now c.lines.line c.lines.alone under
    c.args.edges.now c.feed_front.new.alone c.in-Some.n c.in_ok-n.ensures.second c.in-Some-fault.fault with_fault
    more

pub returns-then-is_behind-clause-judged : goal.returns-then-is_behind-clause-judged
returns-then-is_behind-clause-judged c s read was =
    let cert = c.args.certificate.now in
    let k = c.args.next.site in
    let few = c.requires.site in
    let rest = c.lines.rest.now in
    let line = c.lines.line in
    let a = c.lines.alone in
    let g = c.lines.invariant.underway s read was in
    let edges = c.args.edges.now in
    let new = c.feed_front.new.alone in
    let n = c.in-Some.n in
    let same = c.in_ok-n.ensures.second in
    let fed =
    subst (FedAlone cert edges a new rest n) c.in_default-fault.is (rw c.in-Some.is at c.in_ok-n.ensures.fed) in
    let behind =
    (c.is_behind.ensures cert (next s cert k few read rest line a g edges new n same fed)
    (stands s cert k few read rest line a g edges new n same fed)).0 c.if-is_behind.true in
    let none = sym c.behind-rest.ensures
    ∙ empty-nil c.behind-rest.result.now (empty _ _ c.is_empty.ensures c.if-not-is_empty.false) in
    is-whole s cert k few read rest line a g edges new n same fed behind c.requires.steps none

pub returns-then-is_behind-clause-ready : goal.returns-then-is_behind-clause-ready
returns-then-is_behind-clause-ready c s read was whole =
    let cert = c.args.certificate.now in
    let k = c.args.next.site in
    let few = c.requires.site in
    let rest = c.lines.rest.now in
    let line = c.lines.line in
    let a = c.lines.alone in
    let g = c.lines.invariant.underway s read was in
    let edges = c.args.edges.now in
    let new = c.feed_front.new.alone in
    let n = c.in-Some.n in
    let same = c.in_ok-n.ensures.second in
    let fed =
    subst (FedAlone cert edges a new rest n) c.in_default-fault.is (rw c.in-Some.is at c.in_ok-n.ensures.fed) in
    let behind =
    (c.is_behind.ensures cert (next s cert k few read rest line a g edges new n same fed)
    (stands s cert k few read rest line a g edges new n same fed)).0 c.if-is_behind.true in
    ready s cert k few read rest line a g edges new n same fed behind

pub lines-preserved : goal.lines-preserved
lines-preserved c =
    let cert = c.args.certificate.now in
    let k = c.args.next.site in
    let few = c.requires.site in
    let inv = c.lines.invariant in
    let rest = c.lines.rest.now in
    let line = c.lines.line in
    let a = c.lines.alone in
    let edges = c.args.edges.now in
    let new = c.feed_front.new.alone in
    let n = c.in-Some.n in
    let same = c.in_ok-n.ensures.second in
    let fed =
    subst (FedAlone cert edges a new rest n) c.in_default-fault.is (rw c.in-Some.is at c.in_ok-n.ensures.fed) in
    let size = ap length fed.cut ∙ length-append fed.line (10 ∷ drop n rest) in
    record {
      underway = λ s read was.
          let g = inv.underway s read was in
          let decides = c.is_behind.ensures cert (next s cert k few read rest line a g edges new n same fed)
          (stands s cert k few read rest line a g edges new n same fed) in
          let before = refuted c.is_behind.result decides c.if-is_behind.false in
          subst (λ (r : List ℕ). IsUnderway s cert k read r (line + 1) new) (sym c.behind-rest.ensures)
          (goes-on s cert k few read rest line a g edges new n same fed before);
      front = inv.front ++ take n rest;
      last = inv.last ∙ ap (λ (r : List ℕ). inv.front ++ r) (sym (take-append-drop n rest)
          ∙ ap (λ (r : List ℕ). take n rest ++ r) (sym c.behind-rest.ensures))
          ∙ sym (append_assoc inv.front (take n rest) c.behind-rest.result.now);
      counted = omega (arith, inv.counted, size, ap length c.behind-rest.ensures);
      later = omega (arith, inv.later);
      second = same ∙ inv.second;
    }

pub returns-then-rest-gt-MAX_LINE-clause-judged : goal.returns-then-rest-gt-MAX_LINE-clause-judged
returns-then-rest-gt-MAX_LINE-clause-judged c s read was more =
    let one = rw c.in_default.is at c.in_ok-n.ensures.none in
    unspelled s c.args.certificate.now c.args.next.site c.requires.site read c.lines.rest.now c.lines.line
    c.lines.alone (c.lines.invariant.underway s read was) more
    (longer-rest c.lines.rest.now more (omega (arith, c.if-rest-gt-MAX_LINE.true)) one)

pub returns-clause-judged : goal.returns-clause-judged
returns-clause-judged c s read was =
    let cert = c.args.certificate.now in
    let k = c.args.next.site in
    let under = c.lines.invariant.underway s read was in
    let one = rw c.in_default.is at c.in_ok-n.ensures.none in
    ends s cert k c.requires.site read c.lines.rest.now c.lines.line c.lines.alone under fault.Truncated one
    (truncated s cert (alone k under.own) c.lines.rest.now (omega (arith, c.if-rest-gt-MAX_LINE.false))) (λ same. cc)
