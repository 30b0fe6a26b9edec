use Rattle.std.proofs.lemmas.Result.{on_ok_weaker}
use Rattle.std.proofs.Common.{refl}
use Rattle.sgt_history.specs.Transaction.{renamed_value}
use Rattle.sgt_history_text.specs.Parsed.{seen}
use Rattle.sgt_history_text.proofs.Entries.{moments-push}
use Rattle.sgt_history_text.proofs.moments.add_moment.Goals as goal

pub returns : goal.returns
returns c = λ w lines h line t are times_are session_is.
    on_ok_weaker c.add_session.result
    (λ sessions. moments-push w c.args.moments.now _ lines h line t c.args.lent.now.times
    (renamed_value seen c.args.lent.now.session) are times_are session_is refl
    c.in_ok-add_times.ensures sessions) (c.add_session.ensures are.sessions are.sessions_are)
