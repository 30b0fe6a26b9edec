use Rattle.std.proofs.Common.{Some, subst}
use Rattle.std.proofs.lemmas.Result.{IfOk-weaker}
use Rattle.sgt_history_text.specs.Shallow.{IsOpened}
use Rattle.sgt_history_text.proofs.Appended.{opens_array, replaced_array, replaced_object, replaced_scalar}
use Rattle.sgt_history_text.proofs.Objects.{opens_object}
use Rattle.sgt_history_text.proofs.putting.replace_operations.Goals as goal

pub returns-in_default-bracket-clause-put : goal.returns-in_default-bracket-clause-put
returns-in_default-bracket-clause-put c =
    let first = subst (λ r. IsOpened c.args.reader.now (Some r) c.opened.new.reader) c.in_default-bracket.is
    c.in-Some.ensures.opened in
    replaced_scalar c.args.reader.now c.opened.new.reader c.opened.new.reader c.args.builder.now
    c.forget_line.new.builder c.forget_line.new.builder c.forget_line.ensures first.0 (first.1, first.2)

pub returns-then-is_object-clause-put : goal.returns-then-is_object-clause-put
returns-then-is_object-clause-put c =
    let first = subst (λ r. IsOpened c.args.reader.now (Some r) c.opened.new.reader) c.in-Some-bracket.is
    c.in-Some.ensures.opened in
    let opens = opens_object c.args.reader.now c.opened.new.reader c.in-Some-bracket.is_object first
    c.if-is_object.true in
    IfOk-weaker c.pass_object.result _ _
    (λ found h. replaced_object c.args.reader.now c.opened.new.reader c.pass_object.new.reader c.args.builder.now
    c.forget_line.new.builder c.forget_line.new.builder c.forget_line.ensures opens found h)
    c.pass_object.ensures.passes

pub returns-clause-put : goal.returns-clause-put
returns-clause-put c =
    let first = subst (λ r. IsOpened c.args.reader.now (Some r) c.opened.new.reader) c.in-Some-bracket.is
    c.in-Some.ensures.opened in
    let opens = opens_array c.args.reader.now c.opened.new.reader c.in-Some-bracket.is_object first
    c.if-is_object.false in
    IfOk-weaker c.put_operations.result _ _
    (λ found h. replaced_array c.args.reader.now c.opened.new.reader c.put_operations.new.reader c.args.builder.now
    c.forget_line.new.builder c.put_operations.new.builder c.forget_line.ensures opens found h)
    c.put_operations.ensures.put
