use Rattle.std.proofs.Common.{◌++◌, ◌∷◌, [], ℕ, List, Ok, sym, ap, subst, ◌∙◌, string_bytes}
use Rattle.std.proofs.lemmas.List.{append-nil}
use Rattle.sgt_folder.specs.Call.{Call, name}
use Rattle.sgt_folder.specs.Keeping.{telling}
use Rattle.sgt_folder.specs.Name.{IsGreatest}
use Rattle.sgt_folder.proofs.Named.{greatest_none}
use Rattle.sgt_folder.proofs.Kept.{telling_more, tells_none, tells_some, then}
use Rattle.sgt_folder.proofs.bundles.greatest.Goals as goal

pub names-init : goal.names-init
names-init g c = ([], greatest_none, sym (append-nil _))

pub names-preserved : goal.names-preserved
names-preserved g c =
    let before = c.names.invariant in
    let text = string_bytes c.in-Some.name in (
      before.0 ++ text ∷ [],
      subst (λ (t : List ℕ). IsGreatest (before.0 ++ t ∷ []) c.behind-last.result) c.as_str.ensures.value
          (c.behind-last.ensures before.0 before.1),
      then _ _ _ (telling before.0) ((name text, Ok tt) ∷ []) before.2
          (tells_some _ _ c.in_ok-name.field-0 c.in-Some.name c.in-Some.is c.in_ok-name.ensures)
          ∙ ap (λ (l : List Call). c.args.asked.now.calls.items ++ l) (sym (telling_more before.0 text)),
    )

pub returns-in-None : goal.returns-in-None
returns-in-None g c =
    let before = c.names.invariant in
    (before.0, before.1, tells_none _ _ c.in_ok-name.field-0 c.in-None.is c.in_ok-name.ensures ∙ before.2)
