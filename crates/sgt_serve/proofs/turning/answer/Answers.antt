use Rattle.std.proofs.Common.{List, ℕ, subst, sym, refl}
use Rattle.sgt_serve.specs.Place.{kept_at}
use Rattle.sgt_serve.specs.private.Turning.{Takes}
use Rattle.sgt_serve.proofs.Turns.{takes_reply}
use Rattle.sgt_serve.proofs.turning.answer.Goals as goal

pub returns-then-asks_cut : goal.returns-then-asks_cut
returns-then-asks_cut g c =
    subst (λ (line : List ℕ). Takes c.args.core.now line c.cut.result
    (kept_at (g.B.Bundles.handed c.args.bundles.now) c.args.refusals.now)
    (kept_at (g.B.Bundles.handed c.cut.new.bundles) c.cut.new.refusals) c.cut.new.core)
    (sym (c.asks_cut.ensures.0 c.if-asks_cut.true)) c.cut.ensures

pub returns-in-Ok : goal.returns-in-Ok
returns-in-Ok g c =
    takes_reply c.args.core.now c.reply_to-reply.new.core c.args.line.now c.in-Ok.event c.reply_to-reply.result _ _
    c.in-Ok.ensures.0 c.in-Ok.ensures.1 c.reply_to-reply.ensures refl refl c.note_reply.ensures
