use Rattle.std.proofs.Common.{◌∙◌, ap}
use Rattle.json.specs.Find.{get_member}
use Rattle.json.specs.Value.{members_view}
use Rattle.sgt_history_text.proofs.Gathered.{get-put}
use Rattle.sgt_history_text.proofs.members.put.Goals as goal

pub returns : goal.returns
returns c = λ other.
    ap (λ vs. get_member other (members_view vs)) c.in_ok-push.ensures.items
    ∙ get-put c.forget.new.members.items c.args.members.now.items c.args.name c.args.value c.forget.ensures other
