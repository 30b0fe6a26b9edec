use Rattle.std.proofs.Common.{◌≡◌, ◌++◌, ◌∷◌, [], ℕ, max, sym, subst, rules, arith}
use Rattle.std.proofs.lemmas.Grind.{common_steps}
use Rattle.sgt_folder.specs.Name.{IsGreatest}
use Rattle.sgt_folder.proofs.Named.{greatest_with, greatest_without}
use Rattle.sgt_folder.proofs.bundles.behind.Goals as goal

pub returns-in-Some : goal.returns-in-Some
returns-in-Some c = λ names g.
    let e : c.max.result ≡ max c.in-Some.number c.args.last = first_of (search rules, grind (arith, common_steps)) in
    subst (λ (n : ℕ). IsGreatest (names ++ c.args.name.now ∷ []) n) (sym e)
    (greatest_with names c.args.name.now c.in-Some.number c.args.last g c.in-Some.ensures.some)

pub returns-in-None : goal.returns-in-None
returns-in-None c = λ names g. greatest_without names c.args.name.now c.args.last g c.in-None.ensures.none
