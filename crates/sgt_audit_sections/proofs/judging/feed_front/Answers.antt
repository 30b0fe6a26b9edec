use Rattle.std.proofs.Common.{List, ℕ, subst, arith, take}
use Rattle.sgt_notation.proofs.Short.{line-no_lf}
use Rattle.sgt_notation.specs.Spelling.{line_text}
use Rattle.sgt_audit.specs.Alone.{FollowsAlone}
use Rattle.sgt_audit_sections.proofs.OneSection.{cut-rest}
use Rattle.sgt_audit_sections.proofs.judging.feed_front.Goals as goal

pub returns-in-Some-clause-fed : goal.returns-in-Some-clause-fed
returns-in-Some-clause-fed c =
    let found = rw c.in-Some.is at c.front_line.ensures in
    record {
      line = line_text c.in-Some.line;
      one = line-no_lf c.in-Some.line found.0;
      within = found.1;
      cut = cut-rest c.args.bytes.now (line_text c.in-Some.line) c.in-Some.n found.2;
      follows = λ b s. c.in_ok-fault.ensures.follows found.0 b s;
    }

pub returns-in_ok-fault-in-Some-find_lf-clause-fed : goal.returns-in_ok-fault-in-Some-find_lf-clause-fed
returns-in_ok-fault-in-Some-find_lf-clause-fed c =
    let found = c.in-Some-find_lf.ensures.some in
    record {
      line = take c.in-Some-find_lf.n c.args.bytes.now;
      one = found.1;
      within = omega (arith, found.0);
      cut = found.2;
      follows =
          λ b s. subst (λ (l : List ℕ). FollowsAlone c.args.certificate.now c.args.edges.now b l c.next.new.self
          c.in_ok-fault-in-Some-find_lf.fault) c.front.ensures (c.in_ok-fault-in-Some-find_lf.ensures.follows b s);
    }
