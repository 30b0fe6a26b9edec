use Rattle.std.proofs.Common.{◌≡◌, true, ◌<◌, ◌∙◌, length, ap, subst}
use Rattle.std.specs.Prelude.{IfSome, slice_get}
use Rattle.std.specs.Str.{bytes_eq}
use Rattle.json.specs.Find.{get_member}
use Rattle.json.specs.Value.{members_view}
use Rattle.sgt_history_text.proofs.Gathered.{get-forgotten}
use Rattle.sgt_history_text.proofs.members.forget.Goals as goal

pub returns-in-Some : goal.returns-in-Some
returns-in-Some c = λ other apart.
    let name = c.args.name.now in
    let at = c.in-Some.at in
    let here = subst (λ vs. (at < length vs) × IfSome (slice_get vs at) (λ m. bytes_eq m.0.now name ≡ true))
    c.as_slice.ensures.value c.in-Some.ensures in
    ap (λ vs. get_member other (members_view vs)) c.remove.ensures.items
    ∙ get-forgotten c.args.members.now.items at name here.0 here.1 other apart
