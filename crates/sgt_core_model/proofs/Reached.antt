-- Whether edges lead from one transaction to another, decided edge by edge.
use Rattle.std.proofs.Common.{◌≡◌, ℕ, Bool, false, List, [], ◌∷◌, ◌++◌, refl, sym, ◌⊎◌, inl, inr, subst, ap}
use Rattle.std.specs.Prelude.{◌==◌, ◌&&◌, ◌||◌}
use Rattle.std.specs.Bool.{Decides}
use Rattle.std.proofs.lemmas.Bool.{true≢false}
use Rattle.std.proofs.lemmas.Bool.Decides.{Decides-eqb, Decides-and, Decides-or, Decides-like}
use Rattle.sgt_order.specs.Graph.{Leads, Reaches, TellsReached}
use Rattle.sgt_certifier.specs.Certifier.{Arc, Joins}
use Rattle.sgt_certifier.proofs.Members.{cons_here}
use Rattle.sgt_names.proofs.Elements.{contains-cases, contains-later, contains-none}

-- ---- walks put together

module _ (E F : ℕ → ℕ → Type 0) (each : (a b : ℕ) → E a b → F a b) where
  leads_alike : (a : ℕ) (between : List ℕ) (b : ℕ) → Leads E a between b → Leads F a between b
  leads_alike a [] b h = each a b h
  leads_alike a (c ∷ cs) b h = (each a c h.0, leads_alike c cs b h.1)

  pub reaches_alike : (a b : ℕ) → Reaches E a b → Reaches F a b
  reaches_alike a b r = (r.0, leads_alike a r.0 b r.1)

module _ (edge : ℕ → ℕ → Type 0) where
  leads-on : (a : ℕ) (xs : List ℕ) (b : ℕ) (ys : List ℕ) (d : ℕ) → Leads edge a xs b → Leads edge b ys d
      → Leads edge a (xs ++ b ∷ ys) d
  leads-on a [] b ys d first second = (first, second)
  leads-on a (c ∷ cs) b ys d first second = (first.0, leads-on c cs b ys d first.1 second)

  pub reaches-on : (a b d : ℕ) → Reaches edge a b → Reaches edge b d → Reaches edge a d
  reaches-on a b d first second = (first.0 ++ b ∷ second.0, leads-on a first.0 b second.0 d first.1 second.1)

  -- a is b, or reaches it
  abbrev Comes : ℕ → ℕ → Type 0
  Comes a b = (a ≡ b) ⊎ Reaches edge a b

  comes-reaches : (a b d : ℕ) → Comes a b → Reaches edge b d → Reaches edge a d
  comes-reaches a b d first second = elim first [
    | inl is ↦ subst (λ c. Reaches edge c d) (sym is) second
    | inr more ↦ reaches-on a b d more second
  ]

  reaches-comes : (a b d : ℕ) → Reaches edge a b → Comes b d → Reaches edge a d
  reaches-comes a b d first second = elim second [
    | inl is ↦ subst (Reaches edge a) is first
    | inr more ↦ reaches-on a b d first more
  ]

-- ---- fewer edges

joins_more : (e : Arc) (es : List Arc) (a b : ℕ) → Joins es a b → Joins (e ∷ es) a b
joins_more e es a b j = (j.0, contains-later e es _ j.1)

leads_more : (e : Arc) (es : List Arc) (a : ℕ) (xs : List ℕ) (b : ℕ) → Leads (Joins es) a xs b
    → Leads (Joins (e ∷ es)) a xs b
leads_more e es a [] b h = joins_more e es a b h
leads_more e es a (c ∷ cs) b h = (joins_more e es a c h.0, leads_more e es c cs b h.1)

reaches_more : (e : Arc) (es : List Arc) (a b : ℕ) → Reaches (Joins es) a b → Reaches (Joins (e ∷ es)) a b
reaches_more e es a b r = (r.0, leads_more e es a r.0 b r.1)

comes_more : (e : Arc) (es : List Arc) (a b : ℕ) → Comes (Joins es) a b → Comes (Joins (e ∷ es)) a b
comes_more e es a b h = elim h [ inl is ↦ inl is | inr r ↦ inr (reaches_more e es a b r) ]

-- ---- with one more edge, what is reached is reached without it, or through it
abbrev Through : Arc → List Arc → ℕ → ℕ → Type 0
Through e es a b = Reaches (Joins es) a b ⊎ (Comes (Joins es) a e.from × Comes (Joins es) e.to b)

through-reaches : (e : Arc) (es : List Arc) (a b : ℕ) → Through e es a b → Reaches (Joins (e ∷ es)) a b
through-reaches e es a b h = elim h [
  | inl r ↦ reaches_more e es a b r
  | inr both ↦
      let step : Reaches (Joins (e ∷ es)) e.from e.to = ([], (e.label, cons_here e es)) in
      comes-reaches (Joins (e ∷ es)) a e.from b (comes_more e es a e.from both.0)
      (reaches-comes (Joins (e ∷ es)) e.from e.to b step (comes_more e es e.to b both.1))
]

-- the first step of a walk is the new edge, or an old one
first_step : (e : Arc) (es : List Arc) (a b : ℕ) → Joins (e ∷ es) a b → ((a ≡ e.from) × (b ≡ e.to)) ⊎ Joins es a b
first_step e es a b j = elim (contains-cases e es _ j.1) [
  | inl is ↦ inl (sym (ap (λ (x : Arc). x.from) is), sym (ap (λ (x : Arc). x.to) is))
  | inr old ↦ inr (j.0, old)
]

old_then : (e : Arc) (es : List Arc) (a c b : ℕ) → Joins es a c → Through e es c b → Through e es a b
old_then e es a c b j h =
    let step : Reaches (Joins es) a c = ([], j) in
    elim h [
      | inl r ↦ inl (reaches-on (Joins es) a c b step r)
      | inr both ↦ inr (inr (reaches-comes (Joins es) a c e.from step both.0), both.1)
    ]

new_then : (e : Arc) (es : List Arc) (b : ℕ) → Through e es e.to b → Through e es e.from b
new_then e es b h = elim h [
  | inl r ↦ inr (inl refl, inr r)
  | inr both ↦ inr (inl refl, both.1)
]

leads-through : (e : Arc) (es : List Arc) (a : ℕ) (xs : List ℕ) (b : ℕ) → Leads (Joins (e ∷ es)) a xs b
    → Through e es a b
leads-through e es a [] b h = elim (first_step e es a b h) [
  | inl new ↦ inr (inl new.0, inl (sym new.1))
  | inr old ↦ inl ([], old)
]
leads-through e es a (c ∷ cs) b h = elim (first_step e es a c h.0) [
  | inl new ↦ subst (λ t. Through e es t b) (sym new.0)
      (new_then e es b (subst (λ t. Through e es t b) new.1 (leads-through e es c cs b h.1)))
  | inr old ↦ old_then e es a c b old (leads-through e es c cs b h.1)
]

-- ---- the test

abbrev pub reaches : List Arc → ℕ → ℕ → Bool
reaches [] a b = false
reaches (e ∷ es) a b = reaches es a b || (((a == e.from) || reaches es a e.from) && ((e.to == b) || reaches es e.to b))

no_walk : (a : ℕ) (xs : List ℕ) (b : ℕ) → Leads (Joins []) a xs b → ⊥
no_walk a [] b h = contains-none _ h.1
no_walk a (c ∷ cs) b h = contains-none _ h.0.1

pub reaches-Decides : (arcs : List Arc) (a b : ℕ) → Decides (reaches arcs a b) (Reaches (Joins arcs) a b)
reaches-Decides [] a b = (λ e. absurd (true≢false (sym e)), λ r. absurd (no_walk a r.0 b r.1))
reaches-Decides (e ∷ es) a b =
    let before = Decides-or (a == e.from) (reaches es a e.from) (Decides-eqb a e.from) (reaches-Decides es a e.from) in
    let behind = Decides-or (e.to == b) (reaches es e.to b) (Decides-eqb e.to b) (reaches-Decides es e.to b) in
    Decides-like (reaches (e ∷ es) a b) (through-reaches e es a b) (λ r. leads-through e es a r.0 b r.1)
    (Decides-or (reaches es a b) (((a == e.from) || reaches es a e.from) && ((e.to == b) || reaches es e.to b))
    (reaches-Decides es a b)
    (Decides-and ((a == e.from) || reaches es a e.from) ((e.to == b) || reaches es e.to b) before behind))

-- the test tells who is reached
pub tells : (arcs : List Arc) (order : List ℕ) (i : ℕ) → TellsReached (Joins arcs) order i (reaches arcs i)
tells arcs order i a c = reaches-Decides arcs i a
