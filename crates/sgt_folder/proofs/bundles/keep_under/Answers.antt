use Rattle.std.proofs.Common.{◌≡◌, ◌++◌, ◌∷◌, [], Ok, Err, arith, rules}
use Rattle.std.proofs.lemmas.Grind.{common_steps}
use Rattle.sgt_folder.specs.Call.{remove}
use Rattle.sgt_folder.proofs.Kept.{kept_at, then, unmade_at, unnamed_at}
use Rattle.sgt_folder.proofs.bundles.keep_under.Goals as goal

pub returns-in_err-make_beside : goal.returns-in_err-make_beside
returns-in_err-make_beside g c =
    let e : c.from_residual.result ≡ Err c.in_err-make_beside.field-0.0 = first_of (search rules, grind (arith, common_steps)) in
    let m = c.in_err-make_beside.ensures in
    (m.0, unmade_at c.args.number c.args.text.now m.0 c.in_err-make_beside.field-0.0 _ e m.1, m.2)

pub returns-in-Ok : goal.returns-in-Ok
returns-in-Ok g c =
    let e : c.name_stored-named.result ≡ Ok tt = first_of (cc, search rules) in
    let m = c.in_ok-make_beside.ensures in
    let n = c.name_stored-named.ensures in (
      m.0 ++ (n.0 ++ (remove, c.remove.result) ∷ []),
      kept_at c.args.number c.args.text.now m.0 n.0 c.remove.result _ e m.1 n.1,
      then _ _ _ m.0 (n.0 ++ (remove, c.remove.result) ∷ []) m.2 (then _ _ _ n.0 ((remove, c.remove.result) ∷ []) n.2 c.remove.ensures.notes),
    )

pub returns-in-Err : goal.returns-in-Err
returns-in-Err g c =
    let e : c.name_stored-named.result ≡ Err c.in-Err.fault = first_of (cc, search rules) in
    let m = c.in_ok-make_beside.ensures in
    let n = c.name_stored-named.ensures in (
      m.0 ++ (n.0 ++ (remove, c.remove.result) ∷ []),
      unnamed_at c.args.number c.args.text.now m.0 n.0 c.remove.result _ c.in-Err.fault e m.1 n.1,
      then _ _ _ m.0 (n.0 ++ (remove, c.remove.result) ∷ []) m.2 (then _ _ _ n.0 ((remove, c.remove.result) ∷ []) n.2 c.remove.ensures.notes),
    )
