use Rattle.std.proofs.Common.{rules}
use Rattle.sgt_notation.proofs.Numbers.{just_zero, not_empty, not_plus, not_zeros, parsed_or_not}
use Rattle.sgt_notation.proofs.number.find_value.Goals as goal

pub returns-then-is_empty : goal.returns-then-is_empty
returns-then-is_empty c = not_empty c.args.bytes.now (search rules)

pub returns-then-first-eq43 : goal.returns-then-first-eq43
returns-then-first-eq43 c = not_plus c.args.bytes.now c.if-first-eq43.true

pub returns-then-bytes-eq1 : goal.returns-then-bytes-eq1
returns-then-bytes-eq1 c = just_zero c.args.bytes.now c.if-first-eq48.true c.if-bytes-eq1.true

pub returns-else-bytes-eq1 : goal.returns-else-bytes-eq1
returns-else-bytes-eq1 c = not_zeros c.args.bytes.now c.if-first-eq48.true (search rules)

pub returns : goal.returns
returns c =
    rw c.ok.ensures.value (parsed_or_not c.args.bytes.now c.parse_u64.result c.parse_u64.ensures c.if-first-eq43.false
    c.if-first-eq48.false)
