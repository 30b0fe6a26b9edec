-- What was written is in its ranges.
use Rattle.std.proofs.Common.{◌≡◌, ℕ, ◌≤◌, List, ◌∷◌, length, take, sym, subst, arith, All}
use Rattle.std.specs.Prelude.{IfOk, OnOk, Result, Ok, Err}
use Rattle.std.proofs.lemmas.List.Elements.{All-cons}
use Rattle.sgt_names.specs.Limits.{max_sites}
use Rattle.sgt_names.proofs.Lists.{All-whole}
use Rattle.sgt_bundle.specs.Parts.{FitTogether, HasStepsWithin}
use Rattle.sgt_bundle.specs.Text.{IsBundle, IsDecision, IsLog}
use Rattle.sgt_bundle.specs.declared.certificate.Certificate.{Certificate}
use Rattle.sgt_bundle.specs.declared.certificate.Decision.{Decision}
use Rattle.sgt_bundle.specs.declared.certificate.Decision.TheVariants.{Commit, Refuse, Withdraw}
use Rattle.sgt_bundle.specs.declared.bundle.SiteLog.{SiteLog}

-- all of a loop's list, and one in front of them
pub all-behind : {X : Type 0} (P : X → Type 0) (whole : List X) (x : X) (xs : List X) (i : ℕ) → whole ≡ x ∷ xs → P x
    → length xs ≤ i → All P (take i xs) → All P whole
all-behind P whole x xs i is p past h = subst (All P) (sym is) (All-cons P x xs p (All-whole P xs i past h))

pub all-none : {X : Type 0} (P : X → Type 0) (xs : List X) → length xs ≡ 0 → All P xs
all-none P xs none i d within = absurd (omega arith)

-- what holds anyway holds at an Ok
pub on_ok-anyway : {T E P : Type 0} (r : Result T E) → P → OnOk r P
on_ok-anyway (Ok x) p = p
on_ok-anyway (Err e) p = tt

-- a fact of an Ok, beside two that hold at each Ok
pub if_ok-with : {T E P Q : Type 0} (F G : T → Type 0) (r : Result T E) → ((v : T) → F v → P → Q → G v) → IfOk r F
    → IfOk r (λ _. P) → IfOk r (λ _. Q) → IfOk r G
if_ok-with F G (Ok v) join f p q = join v f p q
if_ok-with F G (Err e) join f p q = tt

-- a decision in its ranges, whose steps are at the sites that there are
decision-within : (sites : ℕ) (d : Decision) → HasStepsWithin sites d → IsDecision max_sites d → IsDecision sites d
decision-within sites (Commit tx rank) within is = is
decision-within sites (Refuse tx walk) within is =
    (is.0, λ n d less. let step = is.1 n d less in (step.0, within n d less, step.2))
decision-within sites (Withdraw tx) within is = is

-- parts that fit together and were written
pub written-bundle : (c : Certificate) (logs : List SiteLog) → FitTogether (record { certificate = c; sites = logs })
    → All (IsDecision max_sites) c.decisions → All IsLog logs
    → IsBundle (record { certificate = c; sites = logs })
written-bundle c logs fit decisions is = record {
  certificate =
      (fit.shape.some, fit.shape.few, λ n d less. decision-within c.sites _ (fit.steps n d less) (decisions n d less));
  shape = fit.shape;
  logs = is;
}
