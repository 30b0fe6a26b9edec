use Rattle.std.proofs.Common.{List, ℕ, arith, subst, sym}
use Rattle.std.proofs.lemmas.List.{take_rest}
use Rattle.sgt_explain_decisions.specs.Sought.{FindsFirst}
use Rattle.sgt_explain_decisions.proofs.Seeking.{front-first}
use Rattle.sgt_explain_decisions.proofs.sought.find_first.Goals as goal

pub returns-in-Some-clause-first : goal.returns-in-Some-clause-first
returns-in-Some-clause-first c =
    let found = rw c.in-Some.is at c.front_line.ensures in
    let bytes = c.args.bytes.now in
    let n = c.in-Some.n in
    subst (λ (behind : List ℕ). FindsFirst c.args.line bytes behind c.args.site.now c.find_read.new.site
    c.args.sought.now c.find_read.new.sought) (sym (take_rest bytes n))
    (front-first c.args.line c.args.site.now c.find_read.new.site n c.in-Some.read bytes
    c.args.sought.now c.find_read.new.sought (omega arith) found.0 found.2 c.in_ok-find_read.ensures.read)

pub returns-clause-first : goal.returns-clause-first
returns-clause-first c = record {
  text = c.cut_line.result.0.now;
  cut = c.cut_line.ensures.cut;
  head = c.find_in.ensures.head;
  section = c.in_ok-find_in.ensures.spelled;
}
