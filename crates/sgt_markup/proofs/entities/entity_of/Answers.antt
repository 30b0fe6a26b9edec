use Rattle.std.proofs.Common.{refl}
use Rattle.sgt_markup.proofs.Clean.{as-it-is}
use Rattle.sgt_markup.proofs.entities.entity_of.Goals as goal

pub returns-then-byte-eq60-clause-some : goal.returns-then-byte-eq60-clause-some
returns-then-byte-eq60-clause-some c = rw c.if-byte-eq60.true refl

pub returns-then-byte-eq62-clause-some : goal.returns-then-byte-eq62-clause-some
returns-then-byte-eq62-clause-some c = rw c.if-byte-eq62.true refl

pub returns-then-byte-eq38-clause-some : goal.returns-then-byte-eq38-clause-some
returns-then-byte-eq38-clause-some c = rw c.if-byte-eq38.true refl

pub returns-then-byte-eq34-clause-some : goal.returns-then-byte-eq34-clause-some
returns-then-byte-eq34-clause-some c = rw c.if-byte-eq34.true refl

pub returns-then-byte-eq39-clause-some : goal.returns-then-byte-eq39-clause-some
returns-then-byte-eq39-clause-some c = rw c.if-byte-eq39.true refl

pub returns-clause-none : goal.returns-clause-none
returns-clause-none c =
    as-it-is c.args.byte (
      c.if-byte-eq60.false,
      c.if-byte-eq62.false,
      c.if-byte-eq38.false,
      c.if-byte-eq34.false,
      c.if-byte-eq39.false,
    )
