use Rattle.std.proofs.Common.{◌≡◌, ◌∷◌, [], Ok, Err, arith, rules}
use Rattle.std.proofs.lemmas.Grind.{common_steps}
use Rattle.sgt_folder.specs.Call.{store, link, sync, unlink}
use Rattle.sgt_folder.specs.Keeping.{named, unsynced}
use Rattle.sgt_folder.proofs.Kept.{then, unlinked_at, unstored_at}
use Rattle.sgt_folder.proofs.bundles.name_stored.Goals as goal

pub returns-in_err-store : goal.returns-in_err-store
returns-in_err-store g c =
    let e : c.from_residual.result ≡ Err c.in_err-store.field-0.0 = first_of (search rules, grind (arith, common_steps)) in (
      (store c.args.text.now, Err c.in_err-store.field-0.0) ∷ [],
      unstored_at c.args.number c.args.text.now c.in_err-store.field-0.0 _ e,
      c.in_err-store.ensures.notes,
    )

pub returns-in_err-link : goal.returns-in_err-link
returns-in_err-link g c =
    let e : c.from_residual-in_err-link.result ≡ Err c.in_err-link.field-0.0 = first_of (search rules, grind (arith, common_steps)) in (
      (store c.args.text.now, Ok tt) ∷ (link c.args.number, Err c.in_err-link.field-0.0) ∷ [],
      unlinked_at c.args.number c.args.text.now c.in_err-link.field-0.0 _ e,
      then _ _ _ ((store c.args.text.now, Ok tt) ∷ []) ((link c.args.number, Err c.in_err-link.field-0.0) ∷ []) c.in_ok-store.ensures.notes c.in_err-link.ensures.notes,
    )

pub returns-in-Ok : goal.returns-in-Ok
returns-in-Ok g c = (
  (store c.args.text.now, Ok tt) ∷ (link c.args.number, Ok tt) ∷ (sync, Ok tt) ∷ [],
  named,
  then _ _ _ ((store c.args.text.now, Ok tt) ∷ (link c.args.number, Ok tt) ∷ []) ((sync, Ok tt) ∷ [])
      (then _ _ _ ((store c.args.text.now, Ok tt) ∷ []) ((link c.args.number, Ok tt) ∷ []) c.in_ok-store.ensures.notes c.in_ok-link.ensures.notes)
      c.in-Ok.ensures.notes,
)

pub returns-in-Err : goal.returns-in-Err
returns-in-Err g c = (
  (store c.args.text.now, Ok tt) ∷ (link c.args.number, Ok tt) ∷ (sync, Err c.in-Err.fault) ∷ (unlink c.args.number, c.unlink.result) ∷ [],
  unsynced c.unlink.result,
  then _ _ _ ((store c.args.text.now, Ok tt) ∷ (link c.args.number, Ok tt) ∷ (sync, Err c.in-Err.fault) ∷ []) ((unlink c.args.number, c.unlink.result) ∷ [])
      (then _ _ _ ((store c.args.text.now, Ok tt) ∷ (link c.args.number, Ok tt) ∷ []) ((sync, Err c.in-Err.fault) ∷ [])
      (then _ _ _ ((store c.args.text.now, Ok tt) ∷ []) ((link c.args.number, Ok tt) ∷ []) c.in_ok-store.ensures.notes c.in_ok-link.ensures.notes)
      c.in-Err.ensures.notes)
      c.unlink.ensures.notes,
)
