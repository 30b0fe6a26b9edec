-- A section that is not added.
use Rattle.std.proofs.Common.{◌≡◌, sym, subst}
use Rattle.std.specs.Prelude.{Result, Ok, Err, IfOk, OnErr}

-- where it was not judged nothing is to be shown
pub none_judged : {X E : Type 0} (r : Result X E) (e : E) (P : X → Type 0) → r ≡ Err e → IfOk r P
none_judged r e P is = subst (λ x. IfOk x P) (sym is) tt

pub one_judged : {X E : Type 0} (r : Result X E) (j : X) (P : X → Type 0) → r ≡ Ok j → P j → IfOk r P
one_judged r j P is holds = subst (λ x. IfOk x P) (sym is) holds

pub on_err : {X E : Type 0} (r : Result X E) (P : Type 0) → P → OnErr r P
on_err (Ok x) P holds = tt
on_err (Err e) P holds = holds
