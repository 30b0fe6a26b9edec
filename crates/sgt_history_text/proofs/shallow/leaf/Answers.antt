use Rattle.std.proofs.Common.{refl}
use Rattle.std.proofs.lemmas.Result.{IfOk-weaker}
use Rattle.sgt_history_text.specs.Shallow.{leaf}
use Rattle.sgt_history_text.proofs.Fronts.{found_array, found_object}
use Rattle.sgt_history_text.proofs.shallow.leaf.Goals as goal

pub returns-in-Some-Object-clause-read : goal.returns-in-Some-Object-clause-read
returns-in-Some-Object-clause-read c =
    let first = rw c.in-Some-Object.field-0-is at c.in-Some-Object.ensures.first in
    IfOk-weaker c.passed.result _ _
    (λ found h. found_object c.args.reader.now c.first_of.new.reader c.passed.new.reader leaf (λ ms. refl) first
    found h) c.passed.ensures.passes

pub returns-in-Some-Array-clause-read : goal.returns-in-Some-Array-clause-read
returns-in-Some-Array-clause-read c =
    let first = rw c.in-Some-Array.field-0-is at c.in-Some-Array.ensures.first in
    IfOk-weaker c.passed-in-Some-Array.result _ _
    (λ found h. found_array c.args.reader.now c.first_of.new.reader c.passed-in-Some-Array.new.reader leaf
    (λ js. refl) first found h) c.passed-in-Some-Array.ensures.passes
