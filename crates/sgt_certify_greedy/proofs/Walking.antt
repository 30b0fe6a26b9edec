-- Conflicts lead on from a transaction, until no more are reached.
use Rattle.std.proofs.Common.{◌≡◌, ◌≢◌, ℕ, zero, suc, ◌<◌, ◌≤◌, List, [], ◌∷◌, ◌++◌, Some, length, refl, sym, ap, ◌∙◌, subst, arith, inl, inr, ◌⊎◌, All, AllPairs, Contains}
use Rattle.std.specs.Prelude.{slice_get}
use Rattle.std.proofs.lemmas.Bool.{cases_eq}
use Rattle.std.proofs.lemmas.Option.{same_Some}
use Rattle.std.proofs.lemmas.List.Elements.{All-push, Contains-append_left, Contains-push, Contains-push_cases}
use Rattle.sgt_names.proofs.Places.{All_at, All-from_at, AllPairs_at, AllPairs-from_at, Contains-from_at}
use Rattle.sgt_names.proofs.Lists.{All_in, All-weaken, heads, tails}
use Rattle.sgt_names.specs.Entry.{tx_of}
use Rattle.sgt_bundle.specs.Certificate.{stops}
use Rattle.sgt_bundle.specs.Valid.{AreLogged, IsLogged}
use Rattle.sgt_bundle.specs.declared.bundle.SiteLog.{SiteLog}
use Rattle.sgt_bundle.specs.declared.certificate.Step.{Step}
use Rattle.sgt_certify_greedy.specs.declared.pairs.Pair.{Pair}
use Rattle.sgt_certify_greedy.specs.declared.pairs.Rule.TheVariants.{Conflicts}
use Rattle.sgt_certify_greedy.specs.declared.walks.Reached.{Reached}
use Rattle.sgt_certify_greedy.specs.Pairs.{ArePairsOf, IsFollowed, IsPair, Leads}
use Rattle.sgt_certify_greedy.specs.Sorted.{without}
use Rattle.sgt_certify_greedy.specs.Walks.{end_of, HasNoRound, IsPath, IsReached, IsRound}
use Rattle.sgt_certify_greedy.proofs.Elements.{without-has, without-only}
use Rattle.sgt_certify_greedy.proofs.Placing.{pushed_at}
use Rattle.sgt_names.proofs.Elements.{contains-cases, contains-none}

-- ---- a walk with one more step

logged-push : (sites : List SiteLog) (a : ℕ) (walk : List Step) (s : Step) → AreLogged sites a walk
    → IsLogged sites (end_of a walk) s → AreLogged sites a (walk ++ s ∷ [])
logged-push sites a [] s logged step = (step, tt)
logged-push sites a (t ∷ walk) s logged step = (logged.0, logged-push sites t.to walk s logged.1 step)

end-push : (a : ℕ) (walk : List Step) (s : Step) → end_of a (walk ++ s ∷ []) ≡ s.to
end-push a [] s = refl
end-push a (t ∷ walk) s = end-push t.to walk s

stops-push : (walk : List Step) (s : Step) → stops (walk ++ s ∷ []) ≡ stops walk ++ s.to ∷ []
stops-push [] s = refl
stops-push (t ∷ walk) s = ap (λ ts. t.to ∷ ts) (stops-push walk s)

pairs-push : (R : ℕ → ℕ → Type 0) (xs : List ℕ) (y : ℕ) → AllPairs R xs → All (λ a. R a y) xs
    → AllPairs R (xs ++ y ∷ [])
pairs-push R xs y pairs last = AllPairs-from_at R (xs ++ y ∷ []) (λ p q a b lt at_p at_q.
    elim (pushed_at xs y p a at_p) [
      | inr behind ↦
          absurd (elim (pushed_at xs y q b at_q) [
            | inl front ↦ omega (arith, front.0, behind.0)
            | inr end ↦ omega (arith, end.0, behind.0)
          ])
      | inl front ↦
          elim (pushed_at xs y q b at_q) [
            | inl second ↦ AllPairs_at R xs p q a b pairs lt front.1 second.1
            | inr end ↦ subst (R a) end.1 (All_at (λ c. R c y) xs p a last front.1)
          ]
    ])

-- ---- all that is reached

pub record IsReaching (sites : List SiteLog) (through : List ℕ) (tx : ℕ) (reached : List Reached)
    (unreached : List ℕ) : Type 0 where
  pub paths : All (IsPath sites through tx) reached
  pub inside : All (λ (r : Reached). All (IsReached reached) (stops r.walk)) reached
  pub start : IsReached reached tx
  pub all : (u : ℕ) → Contains through u → IsReached reached u ⊎ Contains unreached u
  pub apart : (u : ℕ) → Contains unreached u → IsReached reached u → ⊥
  pub only : (u : ℕ) → Contains unreached u → Contains through u

pub none-reached : (sites : List SiteLog) (through : List ℕ) (tx : ℕ) (reached : List Reached) (unreached : List ℕ)
    → reached ≡ record { tx = tx; walk = [] } ∷ []
    → unreached ≡ through → (Contains through tx → ⊥) → IsReaching sites through tx reached unreached
none-reached sites through tx reached unreached is same other =
    let first : Reached = record { tx = tx; walk = [] } in
    subst (λ (rs : List Reached). IsReaching sites through tx rs unreached) (sym is)
    (subst (IsReaching sites through tx (first ∷ [])) (sym same) (record {
      paths = All-from_at (IsPath sites through tx) (first ∷ []) (λ n r at.
          elim (contains-cases first [] r (Contains-from_at (first ∷ []) n r at)) [
            | inl here ↦ subst (IsPath sites through tx) here (record {
              logged = tt;
              leads = refl;
              distinct = λ i j d lt within. absurd (omega arith);
              within = λ k d lt. absurd (omega arith);
            })
            | inr there ↦ absurd (contains-none r there)
          ]);
      inside = All-from_at (λ (r : Reached). All (IsReached (first ∷ [])) (stops r.walk)) (first ∷ []) (λ n r at.
          elim (contains-cases first [] r (Contains-from_at (first ∷ []) n r at)) [
            | inl here ↦ subst (λ (r : Reached). All (IsReached (first ∷ [])) (stops r.walk)) here
                (λ k d lt. absurd (omega arith))
            | inr there ↦ absurd (contains-none r there)
          ]);
      start = (first, (0, omega arith, refl), refl);
      all = λ u has. inr has;
      apart = λ u has (r, in_reached, is_u).
          elim (contains-cases first [] r in_reached) [
            | inl here ↦ other (subst (Contains through) (sym is_u ∙ sym (ap (λ (r : Reached). r.tx) here)) has)
            | inr there ↦ contains-none r there
          ];
      only = λ u has. has;
    }))

reached-kept : (reached : List Reached) (r : Reached) (u : ℕ) → IsReached reached u → IsReached (reached ++ r ∷ []) u
reached-kept reached r u (q, has, is) = (q, Contains-append_left reached (r ∷ []) q has, is)

path-on : (sites : List SiteLog) (through : List ℕ) (tx : ℕ) (reached : List Reached) (r next : Reached) (s : Step)
    → IsPath sites through tx r
    → All (IsReached reached) (stops r.walk) → IsLogged sites r.tx s → Contains through s.to
    → (IsReached reached s.to → ⊥)
    → next ≡ record { tx = s.to; walk = r.walk ++ s ∷ [] } → IsPath sites through tx next
path-on sites through tx reached r next s path inside logged within new is =
    subst (IsPath sites through tx) (sym is) (record {
      logged = logged-push sites tx r.walk s path.logged (subst (λ a. IsLogged sites a s) (sym path.leads) logged);
      leads = end-push tx r.walk s;
      distinct = subst (AllPairs (λ a b. a ≢ b)) (sym (stops-push r.walk s))
          (pairs-push (λ a b. a ≢ b) (stops r.walk) s.to path.distinct
          (All-weaken (IsReached reached) (λ a. a ≢ s.to) (stops r.walk)
          (λ a by same. new (subst (IsReached reached) same by)) inside));
      within = subst (All (Contains through)) (sym (stops-push r.walk s))
          (All-push (Contains through) (stops r.walk) s.to path.within within);
    })

pub next-reached : (sites : List SiteLog) (through : List ℕ) (tx : ℕ) (reached made : List Reached)
    (unreached less : List ℕ) (r : Reached) (n : ℕ) (s : Step)
    → IsReaching sites through tx reached unreached → slice_get reached n ≡ Some r → IsLogged sites r.tx s
    → Contains unreached s.to
    → made ≡ reached ++ record { tx = s.to; walk = r.walk ++ s ∷ [] } ∷ [] → less ≡ without s.to unreached
    → IsReaching sites through tx made less
next-reached sites through tx reached made unreached less r n s had at logged wanted made_so less_so =
    let next : Reached = record { tx = s.to; walk = r.walk ++ s ∷ [] } in
    let path = All_at (IsPath sites through tx) reached n r had.paths at in
    let inside = All_at (λ (q : Reached). All (IsReached reached) (stops q.walk)) reached n r had.inside at in
    let here : IsReached (reached ++ next ∷ []) s.to = (next, Contains-push reached next, refl) in
    subst (λ (rs : List Reached). IsReaching sites through tx rs less) (sym made_so)
    (subst (IsReaching sites through tx (reached ++ next ∷ [])) (sym less_so) (record {
      paths = All-push (IsPath sites through tx) reached next had.paths
          (path-on sites through tx reached r next s path inside logged (had.only s.to wanted) (had.apart s.to wanted)
          refl);
      inside = All-push (λ (q : Reached). All (IsReached (reached ++ next ∷ [])) (stops q.walk)) reached next
          (All-weaken (λ (q : Reached). All (IsReached reached) (stops q.walk))
          (λ (q : Reached). All (IsReached (reached ++ next ∷ [])) (stops q.walk)) reached
          (λ q all. All-weaken (IsReached reached) (IsReached (reached ++ next ∷ [])) (stops q.walk)
          (reached-kept reached next) all) had.inside)
          (subst (All (IsReached (reached ++ next ∷ []))) (sym (stops-push r.walk s))
          (All-push (IsReached (reached ++ next ∷ [])) (stops r.walk) s.to
          (All-weaken (IsReached reached) (IsReached (reached ++ next ∷ [])) (stops r.walk)
          (reached-kept reached next) inside) here));
      start = reached-kept reached next tx had.start;
      all = λ u has.
          elim (had.all u has) [
            | inl old ↦ inl (reached-kept reached next u old)
            | inr rest ↦
                elim (cases_eq u s.to) [
                  | inl same ↦ inl (subst (IsReached (reached ++ next ∷ [])) (sym same) here)
                  | inr other ↦ inr (without-has s.to unreached u rest other)
                ]
          ];
      apart = λ u has (q, in_made, is).
          let by = without-only s.to unreached u has in
          elim (Contains-push_cases reached next q in_made) [
            | inl old ↦ had.apart u by.0 (q, old, is)
            | inr new ↦ by.1 (sym is ∙ sym (ap (λ (r : Reached). r.tx) new))
          ];
      only = λ u has. had.only u (without-only s.to unreached u has).0;
    }))

-- ---- a walk that comes back, or that there is none

walk-long : (sites : List SiteLog) (through : List ℕ) (tx a b : ℕ) (walk : List Step) → end_of tx walk ≡ a → a ≢ b
    → b ≡ tx → 1 ≤ length (stops walk)
walk-long sites through tx a b [] leads apart back = absurd (apart (sym leads ∙ sym back))
walk-long sites through tx a b (t ∷ walk) leads apart back = omega arith

pub round-from : (sites : List SiteLog) (through : List ℕ) (tx : ℕ) (r : Reached) (s : Step) (made : List Step)
    → IsPath sites through tx r → IsLogged sites r.tx s
    → s.to ≡ tx → made ≡ r.walk ++ s ∷ [] → IsRound sites (Contains through) tx made
round-from sites through tx r s made path logged back is =
    subst (IsRound sites (Contains through) tx) (sym is) (record {
      between = stops r.walk;
      long = walk-long sites through tx r.tx s.to r.walk path.leads logged.2.apart back;
      closed = stops-push r.walk s ∙ ap (λ t. stops r.walk ++ t ∷ []) back;
      distinct = path.distinct;
      through = path.within;
      logged = logged-push sites tx r.walk s path.logged (subst (λ a. IsLogged sites a s) (sym path.leads) logged);
    })

pub logged-followed : (sites : List SiteLog) (a : ℕ) (s : Step) → IsLogged sites a s → IsFollowed Conflicts sites a s.to
logged-followed sites a s (log, here, c) = (
  record { from = a; to = s.to; site = s.label.site; first = c.p; second = c.q },
  record {
    log = log;
    e = c.e;
    f = c.f;
    here = here;
    before = c.before;
    first = c.first;
    second = c.second;
    from = c.from;
    to = c.to;
    paired = ((λ same. c.apart (sym c.from ∙ same ∙ c.to)), (s.label.kind, s.label.item, c.clash));
  },
  refl,
  refl,
)

module _ (sites : List SiteLog) (pairs : List Pair) (through : List ℕ) (tx : ℕ) (reached : List Reached)
    (exact : ArePairsOf Conflicts sites pairs)
    (closed : (a b : ℕ) → IsReached reached a → Leads pairs a b → Contains through b → IsReached reached b)
    (none : (a : ℕ) → IsReached reached a → Leads pairs a tx → ⊥) where
  from_reached : (a : ℕ) (walk : List Step) (between : List ℕ) → IsReached reached a → AreLogged sites a walk
      → stops walk ≡ between ++ tx ∷ []
      → ((k t : ℕ) → slice_get between k ≡ Some t → Contains through t) → ⊥
  from_reached a [] [] here logged ends within = absurd cc
  from_reached a [] (b ∷ bs) here logged ends within = absurd cc
  from_reached a (s ∷ walk) [] here logged ends within =
      none a here (subst (Leads pairs a) (heads _ _ _ _ ends) (exact.has a s.to (logged-followed sites a s logged.0)))
  from_reached a (s ∷ walk) (b ∷ bs) here logged ends within =
      let to = heads _ _ _ _ ends in
      from_reached s.to walk bs (closed a s.to here (exact.has a s.to (logged-followed sites a s logged.0))
      (subst (Contains through) (sym to) (within 0 b refl)))
      logged.1 (tails _ _ _ _ ends) (λ k t at. within (suc k) t at)

  pub no-round : IsReached reached tx → HasNoRound sites through tx
  no-round start walk between logged ends within =
      from_reached tx walk between start logged ends (λ k t at. All_at (Contains through) between k t within at)
