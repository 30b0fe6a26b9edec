use Rattle.std.proofs.Common.{List, ◌-◌, arith}
use Rattle.sgt_notation.specs.declared.SectionLine.{SectionLine}
use Rattle.sgt_explain_lines.specs.Sited.{HasLines}
use Rattle.sgt_explain_lines.proofs.Siting.{gone-none}
use Rattle.sgt_explain_decisions.proofs.Seeking.{unfound-found, unfound-in, any-found, any-keys, any-marked, line-next, line-gone, line-over, line-end, lines-all, not-empty, is-empty}
use Rattle.sgt_explain_decisions.proofs.sought.find_all.Goals as goal

pub loop-line-init : goal.loop-line-init
loop-line-init c = record {
  marked = c.requires.marked;
  found = unfound-found c.args.sought.now c.requires.unfound;
  keys = λ k some. some;
  gone = λ lines h. gone-none c.args.bytes.now 18446744073709551615 lines h;
  all = λ lines h. unfound-in lines c.args.sought.now c.requires.unfound;
}

pub loop-line-preserved : goal.loop-line-preserved
loop-line-preserved c =
    let bytes = c.args.bytes.now in
    let first = c.in_ok-rest.ensures.first in
    let behind = c.in_ok-rest.rest.now in
    let old = c.loop-line.sought in
    let new = c.find_first.new.sought in
    let any = c.in_ok-rest.ensures.any in
    let so_far = c.loop-line.invariant in
    let next = λ (lines : List SectionLine) (h : HasLines bytes 18446744073709551615 lines).
    line-next bytes 18446744073709551615 lines h c.loop-line.line c.loop-line.site c.find_first.new.site
    c.loop-line.rest.now first.text behind old new
    (so_far.gone lines h) (so_far.all lines h) (omega arith) (omega arith) first.cut first.head
    first.section in
    record {
      marked = any-marked old new c.args.classes.now any so_far.marked;
      found = any-found old new any so_far.found;
      keys = λ k some. any-keys old new any k (so_far.keys k some);
      gone = λ lines h. line-gone bytes 18446744073709551615 lines h c.loop-line.line behind c.find_first.new.site new
          (next lines h) (not-empty behind c.is_empty.result c.is_empty.ensures c.if-is_empty.false);
      all = λ lines h. (next lines h).all;
    }

pub returns-then-is_empty : goal.returns-then-is_empty
returns-then-is_empty c =
    let bytes = c.args.bytes.now in
    let first = c.in_ok-rest.ensures.first in
    let behind = c.in_ok-rest.rest.now in
    let old = c.loop-line.sought in
    let new = c.find_first.new.sought in
    let any = c.in_ok-rest.ensures.any in
    let so_far = c.loop-line.invariant in
    let next = λ (lines : List SectionLine) (h : HasLines bytes 18446744073709551615 lines).
    line-next bytes 18446744073709551615 lines h c.loop-line.line c.loop-line.site c.find_first.new.site
    c.loop-line.rest.now first.text behind old new
    (so_far.gone lines h) (so_far.all lines h) (omega arith) (omega arith) first.cut first.head
    first.section in
    record {
      found = any-found old new any so_far.found;
      keys = λ k some. any-keys old new any k (so_far.keys k some);
      lines = λ lines before. lines-all bytes 18446744073709551615 lines new (omega arith)
          (λ h. line-over bytes 18446744073709551615 lines h c.loop-line.line behind c.find_first.new.site new
          (omega arith) (next lines h)
          (is-empty behind c.is_empty.result c.is_empty.ensures c.if-is_empty.true)) before;
    }

pub returns-clause-lines : goal.returns-clause-lines
returns-clause-lines c = λ lines before.
    lines-all c.args.bytes.now 18446744073709551615 lines c.loop-line.sought (omega arith)
    (λ h. line-end c.args.bytes.now 18446744073709551615 lines h c.loop-line.line c.loop-line.sought
    (omega (arith, c.loop-line-test.false)) (c.loop-line.invariant.all lines h)) before
