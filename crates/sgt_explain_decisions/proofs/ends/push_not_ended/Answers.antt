use Rattle.std.proofs.Common.{List, All, sym, subst, ap, ◌∙◌, ◌++◌}
use Rattle.std.specs.Prelude.{unwrap_or, string_bytes}
use Rattle.sgt_names.proofs.Places.{All_at}
use Rattle.sgt_names.specs.Entry.{tx_of}
use Rattle.sgt_explain_lines.proofs.Numbering.{on-ok}
use Rattle.sgt_explain_lines.specs.declared.section.Logged.{Logged}
use Rattle.sgt_explain_decisions.specs.Ends.{HasEnd, IsFirstUnended, TellsPlace, not_ended_head}
use Rattle.sgt_explain_decisions.specs.Placed.{IsUndecided}
use Rattle.sgt_names.proofs.Elements.{two-parts}
use Rattle.sgt_explain_decisions.proofs.ends.push_not_ended.Goals as goal

pub returns : goal.returns
returns c = λ placed decided lacking.
    let ds = c.args.decisions.now in
    let items = c.args.section.now.entries.items in
    let l = c.in-Some.logged in
    let found = subst (λ (ls : List Logged). IsFirstUnended ls l) c.as_slice-entries.ensures.value
    (rw c.in-Some.is at c.in_ok-logged.ensures.some) in
    let some = All_at (λ (k : Logged). IsUndecided ds (tx_of k.entry) → ⊥) items found.place l decided found.there in
    let head = c.in_ok-push_unended.ensures
    ∙ ap (λ s. string_bytes c.args.out.now ++ not_ended_head s l) c.site_number.ensures in
    on-ok c.push_place.result _ _ (λ more. (
      l,
      found,
      more.0,
      subst (λ (ls : List Logged). TellsPlace ds ls (tx_of l.entry) more.0) c.as_slice-entries.ensures.value
          (subst (λ t. TellsPlace ds c.as_slice-entries.result.now t more.0) c.tx.ensures more.1),
      two-parts _ _ _ _ _ head more.2,
    )) (c.push_place.ensures placed (λ none. some (subst (IsUndecided ds) c.tx.ensures none)))

pub returns-in_default : goal.returns-in_default
returns-in_default c = λ placed decided lacking.
    absurd (lacking (subst (λ (ls : List Logged). All (λ (k : Logged). HasEnd ls (tx_of k.entry)) ls)
    c.as_slice-entries.ensures.value (rw c.in_default.is at c.in_ok-logged.ensures.none)))
