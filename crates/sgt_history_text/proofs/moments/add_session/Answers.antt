use Rattle.std.proofs.Common.{sym, subst, Option, List, [], ◌∷◌, ◌++◌, ℕ, Bool}
use Rattle.sgt_history.specs.Transaction.{renamed_value}
use Rattle.sgt_history_text.specs.Built.{AreSessions}
use Rattle.sgt_history_text.specs.Moment.{with_entry}
use Rattle.sgt_history_text.specs.Parsed.{seen}
use Rattle.sgt_history_text.proofs.Entries.{sessions-push}
use Rattle.sgt_history_text.proofs.moments.add_session.Goals as goal

pub returns : goal.returns
returns c = λ entries s.
    let texts = c.number_given.new.names in
    let entry = renamed_value seen c.args.entry in
    subst (λ (b : Bool). AreSessions texts c.push.new.self.items (with_entry b entries entry))
    (sym c.if-not-wanted.false)
    (subst (λ (ns : List (Option ℕ)). AreSessions texts ns (entries ++ entry ∷ [])) (sym c.in_ok-push.ensures.items)
    (sessions-push c.args.names.now texts c.args.sessions.now.items entries c.in_ok-number.number entry s
    (c.in_ok-number.ensures s.names s.kept)))
