use Rattle.std.proofs.Common.{◌≡◌, ℕ, List, [], ◌∷◌, ◌++◌, Some, refl, sym, ap, ◌∙◌, subst, arith, inl, inr, Contains}
use Rattle.std.specs.Prelude.{slice_get}
use Rattle.std.proofs.lemmas.Option.{get_or_from_slice_get}
use Rattle.sgt_names.proofs.Places.{All_at}
use Rattle.sgt_bundle.specs.Valid.{IsLogged}
use Rattle.sgt_bundle.specs.declared.certificate.Step.{Step}
use Rattle.sgt_certify_greedy.specs.declared.walks.Reached.{Reached}
use Rattle.sgt_certify_greedy.specs.Pairs.{Leads}
use Rattle.sgt_certify_greedy.specs.Walks.{IsPath, IsReached}
use Rattle.sgt_certify_greedy.proofs.Walking.{no-round, round-from}
use Rattle.sgt_names.proofs.Elements.{contains-cases, contains-none}
use Rattle.sgt_certify_greedy.proofs.walks.walk_back.Goals as goal

only-one : (tx t : ℕ) → Contains (tx ∷ []) t → t ≡ tx
only-one tx t has = elim (contains-cases tx [] t has) [ inl same ↦ sym same | inr none ↦ absurd (contains-none t none) ]

pub returns-in-Some-clause-some : goal.returns-in-Some-clause-some
returns-in-Some-clause-some c =
    let sites = c.args.sites.now in
    let through = c.args.through.now in
    let reached = c.in_ok-reached.reached.items in
    let found = c.in-Some.ensures.some in
    let r = found.2.0 in
    let s = c.step_of-step.result in
    let at = subst (λ (rs : List Reached). slice_get rs c.in-Some.onward.place ≡ Some r) c.as_slice.ensures.value
    found.2.1 in
    let path = All_at (IsPath sites through c.args.tx) reached c.in-Some.onward.place r c.in_ok-reached.ensures.paths
    at in
    let logged = subst (λ (a : ℕ). IsLogged sites a s) (sym found.2.2) c.step_of-step.ensures.logged in
    let is_r : c.index.result.now ≡ r = c.index.ensures
    ∙ get_or_from_slice_get reached c.in-Some.onward.place r c.index.result.now at in
    round-from sites through c.args.tx r s c.in_ok-walk-in-Some.walk path logged (c.step_of-step.ensures.to
    ∙ only-one c.args.tx _ found.1)
    (c.in_ok-walk-in-Some.ensures ∙ ap (λ (w : List Step). w ++ s ∷ []) (c.as_slice-in-Some.ensures
    ∙ ap (λ (q : Reached). q.walk) is_r))

pub returns-clause-none : goal.returns-clause-none
returns-clause-none c =
    let reached = c.in_ok-reached.reached.items in
    no-round c.args.sites.now c.args.pairs.now c.args.through.now c.args.tx reached c.requires.pairs
    c.in_ok-reached.ensures.closed
    (λ a here leads. c.in-None.ensures.none a c.args.tx
    (subst (λ (rs : List Reached). IsReached rs a) (sym c.as_slice.ensures.value) here) leads (
      0,
      omega arith,
      refl,
    ))
    c.in_ok-reached.ensures.start
