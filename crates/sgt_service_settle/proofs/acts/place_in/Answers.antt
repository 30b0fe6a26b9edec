use Rattle.std.proofs.Common.{sym, ◌∙◌, subst}
use Rattle.std.proofs.lemmas.Option.{same_Some}
use Rattle.sgt_service_settle.specs.private.Words.{IsItemAt}
use Rattle.sgt_service_settle.proofs.acts.place_in.Goals as goal

pub returns-in-Some : goal.returns-in-Some
returns-in-Some c at =
    let item = c.in-Some.ensures in
    let found = c.place_near.ensures at in (
      λ is. (c.in-Some.item, sym item, found.0 is),
      λ k. found.1 (subst (λ x. IsItemAt c.args.items.now x at) (same_Some k.0 c.in-Some.item (sym k.1 ∙ sym item))
          k.2),
    )
