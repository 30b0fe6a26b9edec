use Rattle.std.proofs.Common.{subst}
use Rattle.sgt_history_text.specs.Built.{IsAdded}
use Rattle.sgt_history_text.proofs.PlainLines.{line_alone, moments_alone}
use Rattle.sgt_history_text.proofs.reading.take_plain.Goals as goal

pub returns-in_default : goal.returns-in_default
returns-in_default c = λ w lines ids h built moments.
    let added = c.in_ok-new.ensures ids h built in rw c.in_default.is at added

pub returns-then-not-new : goal.returns-then-not-new
returns-then-not-new c = λ w lines ids h built moments.
    let told = c.in_ok-new.ensures ids h built in
    let found = rw c.in-Some.is at told in
    let added = subst (λ b. IsAdded ids h found.0 found.1 c.add_plain.new.builder b) c.if-not-new.true found.3 in (
      found.0,
      found.1,
      line_alone w c.args.moments.now lines h c.args.line.now moments c.if-moments.false
          c.if-moments-2.false found.0 found.1 found.2,
      added,
    )

pub returns : goal.returns
returns c = λ w lines ids h built moments.
    let told = c.in_ok-new.ensures ids h built in
    let found = rw c.in-Some.is at told in
    let added = subst (λ b. IsAdded ids h found.0 found.1 c.add_plain.new.builder b) c.if-not-new.false found.3 in (
      found.0,
      found.1,
      found.2,
      added.0,
      added.1,
      moments_alone w c.args.moments.now lines h c.args.line.now moments c.if-moments.false c.if-moments-2.false
          found.1,
    )
