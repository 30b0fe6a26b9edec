use Rattle.std.proofs.Common.{◌∙◌, Some, subst}
use Rattle.sgt_history_text.specs.Shallow.{IsOpened}
use Rattle.sgt_history_text.proofs.Objects.{more_behind, no_members_first, none_first, opens_object, scalar_first}
use Rattle.sgt_history_text.proofs.line.parsed_text.Goals as goal

pub returns-in_default : goal.returns-in_default
returns-in_default c =
    λ ms e. none_first c.in_ok-reader.reader ms c.in_default.ensures.opened (c.in_ok-reader.ensures.ok ∙ e)

pub returns-in_default-bracket : goal.returns-in_default-bracket
returns-in_default-bracket c = λ ms e.
    let first = subst (λ r. IsOpened c.in_ok-reader.reader (Some r) c.opened.new.reader) c.in_default-bracket.is
    c.in-Some.ensures.opened in
    scalar_first c.in_ok-reader.reader c.opened.new.reader first.0 ms (first.1, first.2) (c.in_ok-reader.ensures.ok ∙ e)

pub returns-in_default-2 : goal.returns-in_default-2
returns-in_default-2 c = λ ms e.
    let first = subst (λ r. IsOpened c.in_ok-reader.reader (Some r) c.opened.new.reader) c.in-Some-bracket.is
    c.in-Some.ensures.opened in
    let opens =
    opens_object c.in_ok-reader.reader c.opened.new.reader c.in-Some-bracket.is_object first
    c.if-not-is_object.false in
    let none = rw c.in_default-2.is at c.in_ok-value.ensures.read in
    no_members_first c.in_ok-reader.reader c.opened.new.reader opens ms none (c.in_ok-reader.ensures.ok ∙ e)

pub returns-then-is_some : goal.returns-then-is_some
returns-then-is_some c = λ ms e.
    let first = subst (λ r. IsOpened c.in_ok-reader.reader (Some r) c.opened.new.reader) c.in-Some-bracket.is
    c.in-Some.ensures.opened in
    let opens =
    opens_object c.in_ok-reader.reader c.opened.new.reader c.in-Some-bracket.is_object first
    c.if-not-is_object.false in
    let read = rw c.in-Some-2.is at c.in_ok-value.ensures.read in
    more_behind c.in_ok-reader.reader c.opened.new.reader opens read.0 c.members.new.reader read.1 ms c.next.result
    c.next.new.self
    c.if-is_some.ensures c.next.ensures.value (c.in_ok-reader.ensures.ok ∙ e)
