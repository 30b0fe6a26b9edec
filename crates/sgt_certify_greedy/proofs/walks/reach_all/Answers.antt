use Rattle.std.proofs.Common.{◌≡◌, ◌<◌, ℕ, List, [], ◌∷◌, ◌++◌, Some, length, sym, ap, ap₂, ◌∙◌, subst, arith, inl, inr, Contains}
use Rattle.std.specs.Prelude.{slice_get}
use Rattle.std.proofs.lemmas.Option.{get_or_from_slice_get, slice_get_within}
use Rattle.sgt_bundle.specs.Valid.{IsLogged}
use Rattle.sgt_bundle.specs.declared.certificate.Step.{Step}
use Rattle.sgt_certify_greedy.specs.declared.walks.Reached.{Reached}
use Rattle.sgt_certify_greedy.specs.Sorted.{without}
use Rattle.sgt_certify_greedy.specs.Walks.{IsReached}
use Rattle.sgt_certify_greedy.proofs.Elements.{without-fewer}
use Rattle.sgt_certify_greedy.proofs.Walking.{next-reached, none-reached}
use Rattle.sgt_certify_greedy.proofs.walks.reach_all.Goals as goal

pub reaching-init : goal.reaching-init
reaching-init c =
    none-reached c.args.sites.now c.args.through.now c.args.tx c.push.new.self.items c.in_ok-unreached.unreached.items
    (c.in_ok-push.ensures.items
    ∙ ap₂ (λ (rs : List Reached) (w : List Step). rs ++ record { tx = c.args.tx; walk = w } ∷ [])
    c.new-reached.ensures.items (c.new-walk.ensures ∙ c.new-none.ensures.items))
    c.in_ok-unreached.ensures.items c.requires.other

pub index-requires : goal.index-requires
index-requires c =
    let found = c.in-Some.ensures.some in
    let at = subst (λ (rs : List Reached). slice_get rs c.in-Some.onward.place ≡ Some found.2.0)
    c.as_slice.ensures.value found.2.1 in
    let within = slice_get_within c.reaching.reached.items c.in-Some.onward.place found.2.0 at in
    omega (arith, within, c.reaching.reached.ok.0)

pub reaching-smaller : goal.reaching-smaller
reaching-smaller c =
    let wanted = subst (λ (w : List ℕ). Contains w c.in-Some.onward.pair.to) c.as_slice-in-reaching.ensures.value
    c.in-Some.ensures.some.1 in
    subst (λ (w : List ℕ). length w < length c.reaching.unreached.items) (sym c.take_out.ensures)
    (without-fewer c.in-Some.onward.pair.to c.reaching.unreached.items wanted)

pub reaching-preserved : goal.reaching-preserved
reaching-preserved c =
    let sites = c.args.sites.now in
    let reached = c.reaching.reached.items in
    let pair = c.in-Some.onward.pair in
    let place = c.in-Some.onward.place in
    let found = c.in-Some.ensures.some in
    let r = found.2.0 in
    let s = c.step_of-step.result in
    let at = subst (λ (rs : List Reached). slice_get rs place ≡ Some r) c.as_slice.ensures.value found.2.1 in
    let wanted = subst (λ (w : List ℕ). Contains w pair.to) c.as_slice-in-reaching.ensures.value found.1 in
    let to = c.step_of-step.ensures.to in
    let logged = subst (λ (a : ℕ). IsLogged sites a s) (sym found.2.2) c.step_of-step.ensures.logged in
    let is_r : c.index.result.now ≡ r = c.index.ensures ∙ get_or_from_slice_get reached place r c.index.result.now at in
    let walk : c.in_ok-walk.walk ≡ r.walk ++ s ∷ [] =
    c.in_ok-walk.ensures ∙ ap (λ (w : List Step). w ++ s ∷ []) (c.as_slice-in-Some.ensures
    ∙ ap (λ (q : Reached). q.walk) is_r) in
    next-reached sites c.args.through.now c.args.tx reached c.push-in-Some.new.self.items c.reaching.unreached.items
    c.take_out.new.txs.items r place s c.reaching.invariant at logged
    (subst (Contains c.reaching.unreached.items) (sym to) wanted)
    (c.in_ok-push-2.ensures.items
    ∙ ap₂ (λ (t : ℕ) (w : List Step). reached ++ record { tx = t; walk = w } ∷ []) (sym to) walk)
    (c.take_out.ensures ∙ ap (λ (t : ℕ). without t c.reaching.unreached.items) (sym to))

pub returns-clause-closed : goal.returns-clause-closed
returns-clause-closed c a b here leads has =
    elim (c.reaching.invariant.all b has) [
      | inl met ↦ met
      | inr rest ↦ absurd
          (c.in_default.ensures.none a b (subst (λ (rs : List Reached). IsReached rs a) (sym c.as_slice.ensures.value)
          here) leads
          (subst (λ (w : List ℕ). Contains w b) (sym c.as_slice-in-reaching.ensures.value) rest))
    ]
