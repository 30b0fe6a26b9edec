-- A transaction is gathered at a site, or its pledge there is given back.
use Rattle.std.proofs.Common.{◌≡◌, ◌<◌, ℕ, zero, suc, List, [], ◌∷◌, length, refl, sym, ◌∙◌, Option, Some, None, subst, ap}
use Rattle.std.specs.Prelude.{slice_get, slice_set}
use Rattle.std.proofs.lemmas.Option.{slice_get_within}
use Rattle.sgt_names.specs.Draft.{at_site}
use Rattle.sgt_site.specs.State.{SiteState, Pledge, IsPledged}
use Rattle.sgt_edges.specs.declared.edge.Edge.{Edge}
use Rattle.sgt_order.proofs.Lists.{set_same}
use Rattle.sgt_names.proofs.Elements.{get-slice_set_same}
use Rattle.sgt_step.proofs.Pledging.{given_before, stand_before, once_before}
use Rattle.sgt_core_machine.specs.declared.machine.Place.{Place}
use Rattle.sgt_core_machine.specs.declared.machine.Part.TheVariants.{Due}
use Rattle.sgt_core_machine.specs.declared.machine.Running.{Running}
use Rattle.sgt_core_machine.specs.Machine.{Parts}
use Rattle.sgt_core_machine.specs.Gathered.{GivesAt, GathersAt, step_with}

set_again : {A : Type 0} (xs : List A) (k : ℕ) (a b : A) → slice_set (slice_set xs k a) k b ≡ slice_set xs k b
set_again [] k a b = refl
set_again (x ∷ xs) zero a b = refl
set_again (x ∷ xs) (suc k) a b = ap (λ ys. x ∷ ys) (set_again xs k a b)

module _ (old mid last : List Place) (who : Option Running) (at tx : ℕ) (edges : List Edge)
    (g : GivesAt old mid who at tx edges) where
  abbrev pledged_place : Place
  pledged_place = record g.place { site = g.pledged }

  now_there : slice_get mid at ≡ Some pledged_place
  now_there = ap (λ ps. slice_get ps at) g.is
      ∙ get-slice_set_same old at pledged_place (slice_get_within old at g.place g.there)

  -- its block is due there
  due_there : ((p : Place) → slice_get mid at ≡ Some p → last ≡ slice_set mid at (record p { part = Due }))
      → last ≡ slice_set old at (record { site = g.pledged; part = Due })
  due_there due = due pledged_place now_there
      ∙ (ap (λ ps. slice_set ps at (record { site = g.pledged; part = Due })) g.is
      ∙ set_again old at pledged_place (record { site = g.pledged; part = Due }))

  -- or the sites are as before
  pub given_back_there : ((p : Place) → slice_get mid at ≡ Some p → IsPledged p.site tx
      → last ≡ slice_set mid at (record p { site = record p.site { pledge = None } })) → last ≡ old
  given_back_there back =
      let own : IsPledged g.pledged tx = (
        at_site g.place.site.number g.running.draft.touched,
        ap (λ (s : SiteState). s.pledge) g.pledge,
      ) in
      let site : record g.pledged { pledge = None } ≡ g.place.site =
      ap (λ (s : SiteState). record s { pledge = None }) g.pledge
      ∙ ap (λ (p : Option Pledge). record g.place.site { pledge = p }) (sym g.may.free) in
      back pledged_place now_there own
      ∙ (ap (λ ps. slice_set ps at (record g.place { site = record g.pledged { pledge = None } })) g.is
      ∙ (set_again old at pledged_place (record g.place { site = record g.pledged { pledge = None } })
      ∙ (ap (λ (s : SiteState). slice_set old at (record g.place { site = s })) site
      ∙ set_same old at g.place g.there)))

-- it is gathered
pub gathers_at : (m new : Parts) (mid : List Place) (who : Option Running) (slot at tx : ℕ) (edges : List Edge)
    → GivesAt m.places mid who at tx edges → slice_get m.table slot ≡ Some who
    → ((p : Place) → slice_get mid at ≡ Some p → new.places ≡ slice_set mid at (record p { part = Due }))
    → new ≡ record m { places = new.places; step = step_with m.step tx edges }
    → GathersAt m new tx slot at
gathers_at m new mid who slot at tx edges g runs due is = record {
  edges = edges;
  given = record {
    place = g.place;
    running = g.running;
    there = g.there;
    runs = runs ∙ ap Some g.runs;
    legal = g.legal;
    given = given_before g.place.site g.pledged g.running.draft.touched g.running.handle edges _ g.pledge g.edges_are;
    stand = stand_before g.place.site g.pledged g.running.draft.touched g.running.handle edges _ g.pledge g.edges_are;
    once = once_before g.place.site g.pledged g.running.draft.touched g.running.handle edges _ g.pledge g.edges_are;
  };
  pledge = record {
    place = g.place;
    running = g.running;
    there = g.there;
    runs = runs ∙ ap Some g.runs;
    may = g.may;
    is = due_there m.places mid new.places who at tx edges g due
        ∙ ap (λ (s : SiteState). slice_set m.places at (record { site = s; part = Due })) g.pledge;
  };
  is = is;
}
