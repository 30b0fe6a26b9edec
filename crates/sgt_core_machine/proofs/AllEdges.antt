-- A decision with the edges that were gathered of a transaction is one with all of its edges.
use Rattle.std.proofs.Common.{◌≡◌, ℕ, List, [], ◌∷◌, ◌++◌, refl, sym, ◌∙◌, ◌⊎◌, inl, inr, Contains, Some, subst, ap}
use Rattle.std.specs.Prelude.{true, All}
use Rattle.std.proofs.lemmas.List.Elements.{Contains-append_cases, Contains-append_left, Contains-append_right}
use Rattle.sgt_bundle.specs.declared.certificate.Step.{Step}
use Rattle.sgt_order.specs.Graph.{Leads, Reaches, placed}
use Rattle.sgt_edges.specs.declared.edge.Edge.{Edge}
use Rattle.sgt_certifier.specs.Certifier.{State, Arc, Joins, Walks, Commits, Refuses, committed, refused, serial}
use Rattle.sgt_certifier.specs.History.{IsNoted, arcs_of}
use Rattle.sgt_core_model.specs.Core.{CoreState, touches, AreEdges}
use Rattle.sgt_core_model.specs.Step.{gathered_in}
use Rattle.sgt_certifier.proofs.Members.{placed_old}
use Rattle.sgt_core_machine.specs.Machine.{Carries, AreGathered}
use Rattle.sgt_core_machine.proofs.Noting.{ruled_noted}
use Rattle.sgt_core_model.proofs.Kept.{IsKept}
use Rattle.sgt_core_model.proofs.Walks.{edge_site}
use Rattle.sgt_core_model.proofs.Edges.{edges_of, edges_are}
use Rattle.sgt_core_model.proofs.Reached.{reaches_alike, reaches-on}

-- where each edge is a walk, so is each walk
pub reaches_flat : (E F : ℕ → ℕ → Type 0) → ((a b : ℕ) → E a b → Reaches F a b) → (a b : ℕ) → Reaches E a b
    → Reaches F a b
reaches_flat E F each a b r = flat a r.0 b r.1
  where
    flat : (a : ℕ) (between : List ℕ) (b : ℕ) → Leads E a between b → Reaches F a b
    flat a [] b h = each a b h
    flat a (c ∷ cs) b h = reaches-on F a c b (each a c h.0) (flat c cs b h.1)

walks_more : (xs ys : List Arc) → ((arc : Arc) → Contains xs arc → Contains ys arc) → (a : ℕ) (walk : List Step)
    → Walks xs a walk → Walks ys a walk
walks_more xs ys more a [] h = tt
walks_more xs ys more a (step ∷ steps) h = (more _ h.0, walks_more xs ys more step.to steps h.1)

-- the model's certifier after the decision
abbrev pub all_committed : CoreState → ℕ → List ℕ → State
all_committed c tx places =
    record c.certifier {
      order = places;
      arcs = c.certifier.arcs ++ edges_of c tx;
      step = Some tx;
      rulings =
          c.certifier.rulings ++ committed tx ∷ [];
    }

abbrev pub all_refused : CoreState → ℕ → List Step → State
all_refused c tx walk = record c.certifier { step = Some tx; rulings = c.certifier.rulings ++ refused tx walk ∷ [] }

module _ (u : State) (c : CoreState) (k : IsKept c) (carries : Carries u c.certifier) (tx : ℕ) (edges : List Edge)
    (h : AreGathered u c tx edges)
    (everywhere : (t : ℕ) → touches c tx t ≡ true → Contains (gathered_in c.step) t) where
  are : AreEdges c tx (edges_of c tx)
  are = edges_are c tx k.sound

  abbrev Given : ℕ → ℕ → Type 0
  Given = Joins (u.arcs ++ arcs_of u edges)

  abbrev Own : ℕ → ℕ → Type 0
  Own = Joins (c.certifier.arcs ++ edges_of c tx)

  given_arc : (arc : Arc) → Contains (u.arcs ++ arcs_of u edges) arc → Contains (c.certifier.arcs ++ edges_of c tx) arc
  given_arc arc m = elim (Contains-append_cases u.arcs (arcs_of u edges) arc m) [
    | inl old ↦ Contains-append_left c.certifier.arcs (edges_of c tx) arc (carries.fewer arc old)
    | inr new ↦ Contains-append_right c.certifier.arcs (edges_of c tx) arc ((are arc).1 (h.own arc new))
  ]

  old_given : (a b : ℕ) → Joins u.arcs a b → Given a b
  old_given a b j = (j.0, Contains-append_left u.arcs (arcs_of u edges) _ j.1)

  new_given : (a b : ℕ) → Joins (arcs_of u edges) a b → Given a b
  new_given a b j = (j.0, Contains-append_right u.arcs (arcs_of u edges) _ j.1)

  own_lead : (a b : ℕ) → Own a b → Reaches Given a b
  own_lead a b j =
      let arc : Arc = record { from = a; to = b; label = j.0 } in
      elim (Contains-append_cases c.certifier.arcs (edges_of c tx) arc j.1) [
        | inl old ↦ reaches_alike (Joins u.arcs) Given old_given a b (carries.lead a b (j.0, old))
        | inr new ↦
            let is = (are arc).0 new in
            reaches_alike (λ x y. Joins u.arcs x y ⊎ Joins (arcs_of u edges) x y) Given
            (λ x y w. elim w [ inl o ↦ old_given x y o | inr n ↦ new_given x y n ]) a b
            (h.lead arc is (everywhere arc.label.site (edge_site c tx arc k.sound.walked k.sound.legal is).1))
      ]

  given_reaches : (a b : ℕ) → Reaches Given a b → Reaches Own a b
  given_reaches a b r = reaches_alike Given Own (λ x y j. (j.0, given_arc _ j.1)) a b r

  own_reaches : (a b : ℕ) → Reaches Own a b → Reaches Given a b
  own_reaches a b r = reaches_flat Own Given own_lead a b r

  same_order : c.certifier.order ≡ u.order
  same_order = ap (λ (st : State). st.order) carries.same

  module _ (none : (site : ℕ) → IsNoted c.certifier tx site
      → ⊥) (new : State) (d : Commits u tx (arcs_of u edges) new) where
    pub commits_all : Commits c.certifier tx (edges_of c tx) (all_committed c tx d.places)
    commits_all = record {
      free = λ r. d.free (own_reaches tx tx r);
      places = d.places;
      placed = (
        d.placed.0,
        λ a m. let w = d.placed.1 a (subst (λ o. Contains o a) same_order m) in
            (λ e. given_reaches tx a (w.0 e), λ r. w.1 (own_reaches tx a r)),
        d.placed.2 ∙ ap (λ o. placed d.placed.0 o tx) (sym same_order),
      );
      after = refl;
    }

    stays : (i : ℕ) → Contains (serial c.certifier) i → Contains (serial (all_committed c tx d.places)) i
    stays i m = elim (Contains-append_cases c.certifier.past c.certifier.order i m) [
      | inl early ↦ Contains-append_left c.certifier.past d.places i early
      | inr late ↦ Contains-append_right c.certifier.past d.places i
          (subst (λ ps. Contains ps i) (sym d.placed.2)
          (placed_old d.placed.0 u.order tx i (subst (λ o. Contains o i) same_order late)))
    ]

    pub committed_carries : Carries new (all_committed c tx d.places)
    committed_carries = record {
      noted = ruled_noted u c.certifier new (all_committed c tx d.places) tx carries.noted
          (ap (λ (st : State). st.step) d.after) refl none stays;
      same =
          ap (λ (st : State). record st {
            order = d.places;
            arcs = c.certifier.arcs ++ edges_of c tx;
            step =
                Some tx;
            rulings = st.rulings ++ committed tx ∷ [];
          }) carries.same
          ∙ sym (ap (λ (st : State). record st {
            arcs = c.certifier.arcs ++ edges_of c tx;
            installs =
                c.certifier.installs;
          }) d.after);
      fewer = λ arc m. given_arc arc (subst (λ (st : State). Contains st.arcs arc) d.after m);
      lead = λ a b j. subst (λ (st : State). Reaches (Joins st.arcs) a b) (sym d.after) (own_lead a b j);
    }

  module _ (none : (site : ℕ) → IsNoted c.certifier tx site → ⊥) (walk : List Step) (new : State)
      (d : Refuses u tx (arcs_of u edges) walk new) where
    pub refuses_all : Refuses c.certifier tx (edges_of c tx) walk (all_refused c tx walk)
    refuses_all = record {
      cycle = record {
        between = d.cycle.between;
        long = d.cycle.long;
        closed = d.cycle.closed;
        distinct = d.cycle.distinct;
        committed = subst (λ o. All (Contains o) d.cycle.between) (sym same_order) d.cycle.committed;
        steps = walks_more (u.arcs ++ arcs_of u edges) (c.certifier.arcs ++ edges_of c tx) given_arc tx walk
            d.cycle.steps;
      };
      after = refl;
    }

    pub refused_carries : Carries new (all_refused c tx walk)
    refused_carries = record {
      noted = ruled_noted u c.certifier new (all_refused c tx walk) tx carries.noted
          (ap (λ (st : State). st.step) d.after) refl none (λ j m. m);
      same =
          ap (λ (st : State). record st { step = Some tx; rulings = st.rulings ++ refused tx walk ∷ [] }) carries.same
          ∙ sym (ap (λ (st : State). record st { arcs = c.certifier.arcs; installs = c.certifier.installs }) d.after);
      fewer = λ arc m. carries.fewer arc (subst (λ (st : State). Contains st.arcs arc) d.after m);
      lead = λ a b j. subst (λ (st : State). Reaches (Joins st.arcs) a b) (sym d.after) (carries.lead a b j);
    }
