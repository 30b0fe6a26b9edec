-- Who reaches itself lies on a cycle that comes through nobody twice.
use Rattle.std.proofs.Common.{◌≡◌, ℕ, List, [], ◌∷◌, ◌++◌, refl, sym, arith, inl, inr, Contains, subst, ap}
use Rattle.std.specs.List.{AllByRecursion}
use Rattle.std.proofs.lemmas.Bool.{cases_eq}
use Rattle.std.proofs.lemmas.List.Elements.{Contains-append_cases}
use Rattle.sgt_names.proofs.Places.{PairsByRecursion, AllPairs-from_recursion, All-from_at, Contains-from_at}
use Rattle.sgt_order.specs.Graph.{Leads, Reaches}
use Rattle.sgt_bundle.specs.Certificate.{stops}
use Rattle.sgt_bundle.specs.declared.certificate.Step.{Step}
use Rattle.sgt_certifier.specs.Certifier.{State, Arc, Joins, Walks, IsWalk}
use Rattle.sgt_certifier.specs.Sound.{IsSoundCertifier, AreNew}
use Rattle.sgt_certifier.proofs.Members.{cons_here}
use Rattle.sgt_certifier.proofs.Replaying.{contains_cases}
use Rattle.sgt_names.proofs.Elements.{contains-cases, contains-later, contains-none}

-- ---- a walk that comes through nobody twice

abbrev pub AreDistinct : List ℕ → Type 0
AreDistinct [] = Unit {0}
AreDistinct (x ∷ xs) = (Contains xs x → ⊥) × AreDistinct xs

-- a walk from a to b, that comes through neither of them and through nobody twice
record IsSimple (edge : ℕ → ℕ → Type 0) (a b : ℕ) : Type 0 where
  pub between : List ℕ
  pub leads : Leads edge a between b
  pub distinct : AreDistinct (a ∷ between)
  pub short : Contains between b → ⊥

module _ (edge : ℕ → ℕ → Type 0) where
  -- cut off in front of a
  cut : (a b c : ℕ) (ys : List ℕ) → Leads edge c ys b → AreDistinct (c ∷ ys) → (Contains ys b → ⊥)
      → Contains (c ∷ ys) a → IsSimple edge a b
  cut a b c [] h d short m = elim (contains-cases c [] a m) [
    | inl is ↦ subst (λ t. IsSimple edge t b) is (record { between = []; leads = h; distinct = d; short = short })
    | inr none ↦ absurd (contains-none a none)
  ]
  cut a b c (y ∷ ys) h d short m = elim (contains-cases c (y ∷ ys) a m) [
    | inl is ↦ subst (λ t. IsSimple edge t b) is (record { between = y ∷ ys; leads = h; distinct = d; short = short })
    | inr later ↦ cut a b y ys h.1 d.1 (λ k. short (contains-later y ys b k)) later
  ]

  -- one step in front of such a walk
  step_before : (a c b : ℕ) → edge a c → (c ≡ b → ⊥) → IsSimple edge c b → IsSimple edge a b
  step_before a c b first other s =
      elim (contains_cases (c ∷ s.between) a) [
        | inl again ↦ cut a b c s.between s.leads s.distinct s.short again
        | inr fresh ↦ record {
          between = c ∷ s.between;
          leads = (first, s.leads);
          distinct = (fresh, s.distinct);
          short = λ m. elim (contains-cases c s.between b m) [ inl is ↦ other is | inr later ↦ s.short later ];
        }
      ]

  simple : (a : ℕ) (xs : List ℕ) (b : ℕ) → Leads edge a xs b → IsSimple edge a b
  simple a [] b h = record {
    between = [];
    leads = h;
    distinct = (λ c. contains-none a c, tt);
    short =
        λ c. contains-none b c;
  }
  simple a (c ∷ cs) b h =
      elim (cases_eq c b) [
        | inl is ↦ record {
          between = [];
          leads = subst (edge a) is h.0;
          distinct = (λ k. contains-none a k, tt);
          short = λ k. contains-none b k;
        }
        | inr other ↦ step_before a c b h.0 other (simple c cs b h.1)
      ]

distinct-pairs : (xs : List ℕ) → AreDistinct xs → PairsByRecursion (λ a b. a ≡ b → ⊥) xs
distinct-pairs [] d = tt
distinct-pairs (x ∷ xs) d = (others x xs d.0, distinct-pairs xs d.1)
  where
    others : (x : ℕ) (xs : List ℕ) → (Contains xs x → ⊥) → AllByRecursion (λ y. x ≡ y → ⊥) xs
    others x [] out = tt
    others x (y ∷ ys) out = (
      λ is. out (subst (Contains (y ∷ ys)) (sym is) (cons_here y ys)),
      others x ys (λ c. out (contains-later y ys x c)),
    )

-- ---- its steps

along : (arcs : List Arc) (a : ℕ) (xs : List ℕ) (b : ℕ) → Leads (Joins arcs) a xs b
    → (walk : List Step) × (stops walk ≡ xs ++ b ∷ []) × Walks arcs a walk
along arcs a [] b h = (record { label = h.0; to = b } ∷ [], refl, (h.1, tt))
along arcs a (c ∷ cs) b h =
    let r = along arcs c cs b h.1 in
    (record { label = h.0.0; to = c } ∷ r.0, ap (λ ts. c ∷ ts) r.1, (h.0.1, r.2))

-- ---- of a transaction with its new edges

module _ (s : State) (i : ℕ) (arcs : List Arc) (sound : IsSoundCertifier s) (out : Contains s.order i
    → ⊥) (fresh : AreNew s i arcs) where
  -- where an edge leads, but to i, is a committed transaction
  led_to : (a b : ℕ) → Joins (s.arcs ++ arcs) a b → (b ≡ i → ⊥) → Contains s.order b
  led_to a b j other = elim (Contains-append_cases s.arcs arcs _ j.1) [
    | inl was ↦ sound.to_order a b (j.0, was)
    | inr new ↦ elim (fresh _ new) [ inl from_i ↦ from_i.1 | inr to_i ↦ absurd (other to_i.0) ]
  ]

  no_loop : Joins (s.arcs ++ arcs) i i → ⊥
  no_loop j = elim (Contains-append_cases s.arcs arcs _ j.1) [
    | inl was ↦ out (sound.from_order i i (j.0, was))
    | inr new ↦ elim (fresh _ new) [ inl from_i ↦ out from_i.1 | inr to_i ↦ out to_i.1 ]
  ]

  all_led : (a : ℕ) (xs : List ℕ) (b : ℕ) → Leads (Joins (s.arcs ++ arcs)) a xs b → (Contains xs i → ⊥) → (x : ℕ)
      → Contains xs x → Contains s.order x
  all_led a [] b h other x m = absurd (contains-none x m)
  all_led a (c ∷ cs) b h other x m = elim (contains-cases c cs x m) [
    | inl is ↦ subst (Contains s.order) is
        (led_to a c h.0 (λ at_i. other (subst (Contains (c ∷ cs)) at_i (cons_here c cs))))
    | inr later ↦ all_led c cs b h.1 (λ k. other (contains-later c cs i k)) x later
  ]

  pub cycle : Reaches (Joins (s.arcs ++ arcs)) i i → (walk : List Step) × IsWalk s.order (s.arcs ++ arcs) i walk
  cycle ([], h) = absurd (no_loop h)
  cycle (c ∷ cs, h) =
      let rest = simple (Joins (s.arcs ++ arcs)) c cs i h.1 in
      let between = c ∷ rest.between in
      let leads : Leads (Joins (s.arcs ++ arcs)) i between i = (h.0, rest.leads) in
      let other : Contains between i → ⊥ = λ m. elim (contains-cases c rest.between i m) [
        | inl is ↦ no_loop (subst (Joins (s.arcs ++ arcs) i) is h.0)
        | inr later ↦ rest.short later
      ] in
      let steps = along (s.arcs ++ arcs) i between i leads in (
        steps.0,
        record {
          between = between;
          long = omega arith;
          closed = steps.1;
          distinct = AllPairs-from_recursion (λ a b. a ≡ b → ⊥) between (distinct-pairs between rest.distinct);
          committed =
              All-from_at (Contains s.order) between
              (λ n x at. all_led i between i leads other x (Contains-from_at between n x at));
          steps = steps.2;
        },
      )
