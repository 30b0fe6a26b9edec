use Rattle.std.proofs.Common.{◌≡◌, ◌≢◌, ℕ, [], List, ◌⊎◌, subst, sym}
use Rattle.std.specs.Prelude.{Ok}
use Rattle.sgt_audit_workers.specs.Reads.{reader}
use Rattle.sgt_audit_workers.specs.declared.cutting.Stop.TheVariants as stop
use Rattle.sgt_audit_workers.specs.private.Texts.{EndsHere, IsLeftIn}
use Rattle.sgt_audit_workers.proofs.Comes.{open-comes}
use Rattle.sgt_names.proofs.Elements.{if_ok_both}
use Rattle.sgt_audit_workers.proofs.engine.ends_here.Goals as goal

pub returns-in-Open-clause-ends : goal.returns-in-Open-clause-ends
returns-in-Open-clause-ends g c first left is =
    let now = reader (g.R.Source.tells c.args.source.now) (g.R.Source.failures c.args.source.now)
    (g.R.Source.asked c.args.source.now) in
    let text = c.args.text.now in
    let o = subst (IsLeftIn first text.lines text.most now left) c.in-Open.is is in
    if_ok_both c.is_empty_here.result _ _ _ c.is_empty_here.ensures.some c.is_empty_here.ensures.comes
    (λ ends same comes.
    subst (EndsHere left) (sym same)
    (open-comes first now text.lines text.most left c.in-Open.bytes.items c.in-Open.stop o
    (subst (λ (b : List ℕ). (b ≢ []) ⊎ (c.in-Open.stop ≡ Ok stop.Long)) c.as_slice.ensures.value comes)))
