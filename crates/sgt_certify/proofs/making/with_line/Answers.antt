use Rattle.sgt_certify.proofs.making.with_line.Goals as goal

pub returns-clause-made : goal.returns-clause-made
returns-clause-made c =
    let split = c.in-Some.ensures.some in
    record {
      front = c.in-Some.first.now;
      rest = c.in-Some.rest.now;
      first = split.0;
      one = c.requires;
      given = split.1;
      made = c.in_ok-made.ensures;
    }
