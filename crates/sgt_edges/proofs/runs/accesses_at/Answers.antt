use Rattle.std.proofs.Common.{◌∙◌, [], ap, sym, subst, length, arith, refl}
use Rattle.sgt_site.specs.State.{IsVersionWritten}
use Rattle.sgt_edges.proofs.Neighbours.{reader_below}
use Rattle.sgt_edges.proofs.Once.{no-readers, no-writers, no-versions, readers-apart, writers-apart}
use Rattle.sgt_edges.proofs.Slices.{none-written}
use Rattle.sgt_edges.proofs.Unlisted.{versions, no_readers, no_writers, no_versions}
use Rattle.sgt_edges.proofs.runs.accesses_at.Goals as goal

pub returns-in-Ok-clause-are : goal.returns-in-Ok-clause-are
returns-in-Ok-clause-are c = record {
  site = c.accesses.ensures.site;
  wrote = (
    c.in-Ok.ensures.writers,
    ap length c.in-Ok.ensures.writers
        ∙ versions c.args.site.now c.accesses.ensures.site c.args.item,
  );
  read = c.in-Ok.ensures.readers;
}

pub returns-in-Err-clause-are : goal.returns-in-Err-clause-are
returns-in-Err-clause-are c = record {
  site = c.accesses.ensures.site;
  wrote = (
    sym (no_writers c.args.site.now c.accesses.ensures.site c.args.item c.in-Err.ensures.refused.1),
    no_versions c.args.site.now c.accesses.ensures.site c.args.item c.in-Err.ensures.refused.1,
  );
  read = λ r. (
    λ has. absurd (omega (arith, has.1)),
    λ is. absurd (no_readers c.args.site.now c.accesses.ensures.site c.args.item c.in-Err.ensures.refused.1 r is),
  );
}

pub returns-in-Ok-clause-ordered : goal.returns-in-Ok-clause-ordered
returns-in-Ok-clause-ordered c = record {
  by_version = c.in-Ok.ensures.by_version;
  reached = λ r has.
      let most = reader_below c.args.site.now c.args.item c.accesses.ensures.site r ((c.in-Ok.ensures.readers r).0 has) in
      let many = ap length c.in-Ok.ensures.writers ∙ versions c.args.site.now c.accesses.ensures.site c.args.item in
      omega (arith, most, many);
}

pub returns-in-Err-clause-ordered : goal.returns-in-Err-clause-ordered
returns-in-Err-clause-ordered c = record {
  by_version = no-versions;
  reached = λ r has. absurd (omega (arith, has.1));
}

pub returns-in-Ok-clause-written : goal.returns-in-Ok-clause-written
returns-in-Ok-clause-written c =
    subst (λ ws. IsVersionWritten ws c.in-Ok.found.version_written) (sym c.in-Ok.ensures.writers)
    c.in-Ok.ensures.written

pub returns-in-Err-clause-written : goal.returns-in-Err-clause-written
returns-in-Err-clause-written c = none-written [] refl

pub returns-in-Ok-clause-writers_apart : goal.returns-in-Ok-clause-writers_apart
returns-in-Ok-clause-writers_apart c =
    λ own. rw c.in-Ok.ensures.writers (writers-apart c.args.site.now own c.accesses.ensures.site c.args.item)

pub returns-in-Err-clause-writers_apart : goal.returns-in-Err-clause-writers_apart
returns-in-Err-clause-writers_apart c = λ own. no-writers

pub returns-in-Ok-clause-readers_apart : goal.returns-in-Ok-clause-readers_apart
returns-in-Ok-clause-readers_apart c =
    λ own. readers-apart c.args.site.now own c.args.item _ c.in-Ok.ensures.readers c.in-Ok.ensures.once

pub returns-in-Err-clause-readers_apart : goal.returns-in-Err-clause-readers_apart
returns-in-Err-clause-readers_apart c = λ own. no-readers
