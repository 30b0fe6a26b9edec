use Rattle.std.proofs.lemmas.Result.{IfOk-weaker}
use Rattle.sgt_history_text.proofs.Fronts.{row_items}
use Rattle.sgt_history_text.proofs.Seen.{row_object, row_scalar}
use Rattle.sgt_history_text.proofs.shallow.row.Goals as goal

pub returns-in-Some-Object-clause-read : goal.returns-in-Some-Object-clause-read
returns-in-Some-Object-clause-read c =
    let first = rw c.in-Some-Object.field-0-is at c.in-Some-Object.ensures.first in
    IfOk-weaker c.passed.result _ _
    (λ found h. row_object c.args.reader.now c.first_of.new.reader c.passed.new.reader first found h)
    c.passed.ensures.passes

pub returns-in-Some-Array-clause-read : goal.returns-in-Some-Array-clause-read
returns-in-Some-Array-clause-read c =
    let first = rw c.in-Some-Array.field-0-is at c.in-Some-Array.ensures.first in
    IfOk-weaker c.parts.result _ _
    (λ found h. row_items c.args.reader.now c.first_of.new.reader c.parts.new.reader first found h)
    c.parts.ensures.read

pub returns-in-Some-Scalar-clause-read : goal.returns-in-Some-Scalar-clause-read
returns-in-Some-Scalar-clause-read c =
    let first = rw c.in-Some-Scalar.field-0-is at c.in-Some-Scalar.ensures.first in
    row_scalar c.args.reader.now c.first_of.new.reader c.in-Some-Scalar.value first
