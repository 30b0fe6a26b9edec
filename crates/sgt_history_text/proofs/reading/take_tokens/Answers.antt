use Rattle.std.proofs.Common.{◌∙◌, refl, subst}
use Rattle.json.specs.Json.{Json}
use Rattle.json.specs.Value.{value_view}
use Rattle.sgt_history.specs.Transaction.{Transaction, renamed_value}
use Rattle.sgt_history_text.specs.Built.{IsAdded}
use Rattle.sgt_history_text.specs.Members.{AreOperations, operations_in}
use Rattle.sgt_history_text.specs.Parsed.{IsMoment, LacksMoment, seen}
use Rattle.sgt_history_text.proofs.Kept.{key_numbers}
use Rattle.sgt_history_text.proofs.Solid.{head_back, head_on}
use Rattle.sgt_history_text.proofs.Spelled.{head_of_line, line_from, no_line}
use Rattle.sgt_history_text.proofs.Telling.{entry_session, entry_times, lacks, line_with, same_commits, session_numbers}
use Rattle.sgt_history_text.proofs.reading.take_tokens.Goals as goal

pub returns-in_default : goal.returns-in_default
returns-in_default c = λ w lines ids h built moments id t is.
    let none = rw c.in_default.is at c.in_ok-object.ensures in
    none is.line_is.members is.line_is.is_object

pub returns-then-not-object : goal.returns-then-not-object
returns-then-not-object c = λ w lines ids h built moments id t is.
    let read = rw c.in-Some.is at c.in_ok-object.ensures in
    let put = read.2.put ids h built in
    no_line c.args.line.now read.0 read.1 id t is.line_is put.0
    (subst (λ b. AreOperations (operations_in read.0) b put.0) c.if-not-object.true put.2)

pub returns-in_default-head : goal.returns-in_default-head
returns-in_default-head c = λ w lines ids h built moments id t is.
    let read = rw c.in-Some.is at c.in_ok-object.ensures in
    let v = value_view c.in-Some.object.members in
    c.in_default-head.ensures id t.commits
    (head_back read.0 v read.2.has id t.commits (head_of_line c.args.line.now read.0 read.1 id t is.line_is))

pub returns-in_default-moment : goal.returns-in_default-moment
returns-in_default-moment c = λ w lines ids h built moments id t is.
    let read = rw c.in-Some.is at c.in_ok-object.ensures in
    let v = value_view c.in-Some.object.members in
    let commits = c.in-Some-head.commits in
    let found : LacksMoment w commits v =
    subst (λ u. LacksMoment u commits v) moments.wanted_is c.in_default-moment.ensures in
    let same = same_commits v id (seen c.in-Some-head.id) t.commits commits
    (head_back read.0 v read.2.has id t.commits (head_of_line c.args.line.now read.0 read.1 id t is.line_is))
    c.in-Some-head.ensures in
    lacks c.args.line.now read.0 read.1 v read.2.has w id t commits same found is

pub to_vec-requires : goal.to_vec-requires
to_vec-requires c = key_numbers 1 256 (seen c.in-Some-head.id) c.in-Some-head.ensures.id_is

pub add_moment-requires : goal.add_moment-requires
add_moment-requires c =
    session_numbers (value_view c.in-Some.object.members) c.args.moments.now.wanted.sessions c.in-Some-head.commits
    (renamed_value seen c.in-Some-moment.moment.session) c.in-Some-moment.ensures.session_is

pub returns-then-branch : goal.returns-then-branch
returns-then-branch c = λ w lines ids h built moments.
    let read = rw c.in-Some.is at c.in_ok-object.ensures in
    let v = value_view c.in-Some.object.members in
    let id = seen c.in-Some-head.id in
    let commits = c.in-Some-head.commits in
    let m = c.in-Some-moment.moment in
    let put = read.2.put ids h built in
    let operations = subst (λ b. AreOperations (operations_in read.0) b put.0) c.if-not-object.false put.2 in
    let line = line_from c.args.line.now read.0 read.1 id commits put.0 (head_on read.0 v read.2.has id commits
    c.in-Some-head.ensures) operations in
    let t : Transaction Json Json = record { commits = commits; operations = put.0 } in
    let found : IsMoment w commits v m =
    subst (λ u. IsMoment u commits v m) moments.wanted_is c.in-Some-moment.ensures in
    let closed = c.in_ok-close_line.ensures ids h put.0 id put.1
    (key_numbers 1 256 id c.in-Some-head.ensures.id_is) (c.as_slice.ensures.value ∙ c.in_ok-text.ensures.text) in
    let added = subst (λ b. IsAdded ids h id t c.close_line.new.builder b) c.if-branch.true closed in (
      id,
      t,
      line,
      added.0,
      added.1,
      c.in_ok-add_moment.ensures w lines h c.args.line.now t moments
          (entry_times c.args.line.now read.0 read.1 v read.2.has w commits m found)
          (entry_session c.args.line.now read.0 read.1 v read.2.has w commits m found),
    )

pub returns : goal.returns
returns c = λ w lines ids h built moments.
    let read = rw c.in-Some.is at c.in_ok-object.ensures in
    let v = value_view c.in-Some.object.members in
    let id = seen c.in-Some-head.id in
    let commits = c.in-Some-head.commits in
    let m = c.in-Some-moment.moment in
    let put = read.2.put ids h built in
    let operations = subst (λ b. AreOperations (operations_in read.0) b put.0) c.if-not-object.false put.2 in
    let line = line_from c.args.line.now read.0 read.1 id commits put.0 (head_on read.0 v read.2.has id commits
    c.in-Some-head.ensures) operations in
    let t : Transaction Json Json = record { commits = commits; operations = put.0 } in
    let found : IsMoment w commits v m =
    subst (λ u. IsMoment u commits v m) moments.wanted_is c.in-Some-moment.ensures in
    let closed = c.in_ok-close_line.ensures ids h put.0 id put.1
    (key_numbers 1 256 id c.in-Some-head.ensures.id_is) (c.as_slice.ensures.value ∙ c.in_ok-text.ensures.text) in
    let added = subst (λ b. IsAdded ids h id t c.close_line.new.builder b) c.if-branch.false closed in
    (id, t, line_with c.args.line.now read.0 read.1 v read.2.has w commits m found id t refl line, added)
