use Rattle.sgt_history_text.proofs.Kept.{key_numbers}
use Rattle.sgt_history_text.proofs.PlainLines.{plain_found}
use Rattle.sgt_history_text.proofs.PlainPuts.{begun_there}
use Rattle.sgt_history_text.proofs.adding.add_plain.Goals as goal

pub push_operations_at-requires : goal.push_operations_at-requires
push_operations_at-requires c = c.in-Some.ensures.text.text.within

pub returns-then-not-ends_there : goal.returns-then-not-ends_there
returns-then-not-ends_there c = λ ids h built.
    let begun = begun_there ids h c.args.line.now _ _ _ (c.in_ok-place.ensures ids h built) in
    c.forget_line.ensures ids h begun.0 begun.1

pub returns : goal.returns
returns c = λ ids h built.
    let head = c.in-Some.ensures in
    let end = c.ends_there.ensures c.if-not-ends_there.false in
    let told = c.in_ok-place.ensures ids h built in
    let put = rw end.1 at told in
    let line = plain_found c.args.line.now _ _ put.ps _ _ c.in-Ok.ensures.cases.1 head put.each put.text end.2 in (
      head.name,
      record { commits = c.in-Some.commits; operations = put.ps },
      line,
      c.in_ok-new.ensures ids h put.ps head.name put.built (key_numbers 1 256 head.name head.is) head.text_is,
    )
