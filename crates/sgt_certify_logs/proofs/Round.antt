-- Steps that lead on, one by one.
use Rattle.std.proofs.Common.{◌≡◌, ℕ, ◌+◌, ◌<◌, suc, zero, List, [], ◌∷◌, ◌++◌, length, take, drop, Some, refl, sym, ap, ◌∙◌, subst, arith}
use Rattle.std.specs.Prelude.{slice_get}
use Rattle.std.proofs.lemmas.Option.{same_Some}
use Rattle.sgt_names.proofs.Lists.{take_next}
use Rattle.sgt_names.proofs.Places.{Contains-from_at, split_at}
use Rattle.sgt_names.specs.Entry.{tx_of}
use Rattle.sgt_names.specs.declared.entry.Entry.{Entry}
use Rattle.sgt_names.specs.declared.entry.Entry.TheVariants.{Commit}
use Rattle.sgt_bundle.specs.declared.bundle.SiteLog.{SiteLog}
use Rattle.sgt_certify_logs.specs.Steps.{IsConflictStep, IsEndStep, LeadFrom, LeadRound, StandsAt}
use Rattle.sgt_certify_logs.specs.Witness.{EndsBefore, HasCycle, IsChain, IsIn, PrecedesCommitted}
use Rattle.sgt_certify_logs.specs.declared.checks.ConflictStep.{ConflictStep}
use Rattle.sgt_certify_logs.specs.declared.checks.EndStep.{EndStep}

module _ {S : Type 0} (from to : S → ℕ) (Holds : S → Type 0) where
  -- the steps lead there and no further
  pub lead-more : (front : List S) (a b : ℕ) (s : S) → LeadFrom from to Holds a front b → from s ≡ b → Holds s
      → LeadFrom from to Holds a (front ++ s ∷ []) (to s)
  lead-more [] a b s h goes holds = (goes ∙ sym h, holds, refl)
  lead-more (t ∷ front) a b s h goes holds = (h.0, h.1, lead-more front (to t) b s h.2 goes holds)

  pub lead-parts : (front rest : List S) (a b c : ℕ) → LeadFrom from to Holds a front b
      → LeadFrom from to Holds a (front ++ rest) c
      → LeadFrom from to Holds b rest c
  lead-parts [] rest a b c h all = subst (λ x. LeadFrom from to Holds x rest c) h all
  lead-parts (t ∷ front) rest a b c h all = lead-parts front rest (to t) b c h.2 all.2

  -- the steps of a cycle are a cycle of what each of them shows
  module _ (R : ℕ → ℕ → Type 0) (shows : (s : S) → Holds s → R (from s) (to s)) where
    chain-from : (s : S) (steps : List S) (c : ℕ) → LeadFrom from to Holds (from s) (s ∷ steps) c
        → (between : List ℕ) × IsChain R (from s) (between ++ c ∷ [])
    chain-from s [] c h = ([], (subst (R (from s)) h.2 (shows s h.1), tt))
    chain-from s (t ∷ steps) c h =
        let goes : from t ≡ to s = h.2.0 in
        let more = chain-from t steps c (refl, h.2.1, h.2.2) in
        (to s ∷ more.0, (shows s h.1, subst (λ x. IsChain R x (more.0 ++ c ∷ [])) goes more.1))

    pub round-cycle : (steps : List S) → LeadRound from to Holds steps → HasCycle R
    round-cycle [] h = absurd h
    round-cycle (s ∷ steps) h = let c = chain-from s steps (from s) h in (from s, c.0, c.1)

-- ---- what steps show

stands-in : (sites : List SiteLog) (site place : ℕ) (e : Entry) → StandsAt sites site place e → IsIn sites e
stands-in sites site place e s =
    (s.log, Contains-from_at sites site s.log s.here, Contains-from_at s.log.entries place e s.there)

second-there : (sites : List SiteLog) (site p q : ℕ) (e f : Entry) (a : StandsAt sites site p e)
    (b : StandsAt sites site q f) → slice_get a.log.entries q ≡ Some f
second-there sites site p q e f a b =
    let one : b.log ≡ a.log = same_Some b.log a.log (sym b.here ∙ a.here) in
    subst (λ (log : SiteLog). slice_get log.entries q ≡ Some f) one b.there

pub end-step : (sites : List SiteLog) (s : EndStep) → IsEndStep sites s → EndsBefore sites s.from s.to
end-step sites s h = record {
  log = h.first.log;
  here = Contains-from_at sites s.first.site h.first.log h.first.here;
  p = s.first.entry;
  q = s.second;
  e = h.e;
  f = h.f;
  before = h.before;
  first = h.first.there;
  second = second-there sites s.first.site s.first.entry s.second h.e h.f h.first h.second;
  from = h.from;
  to = h.to;
  ends = h.ends;
}

pub conflict-step : (sites : List SiteLog) (s : ConflictStep) → IsConflictStep sites s
    → PrecedesCommitted sites s.from s.to
conflict-step sites s (h, (from_committed, to_committed)) = record {
  committed = (
    stands-in sites s.from_end.site s.from_end.entry (Commit s.from) from_committed,
    stands-in sites s.to_end.site s.to_end.entry (Commit s.to) to_committed,
  );
  log = h.first.log;
  here = Contains-from_at sites s.first.site h.first.log h.first.here;
  kind = s.kind;
  item = s.item;
  conflict = record {
    p = s.first.entry;
    q = s.second;
    e = h.e;
    f = h.f;
    before = h.before;
    first = h.first.there;
    second = second-there sites s.first.site s.first.entry s.second h.e h.f h.first h.second;
    from = h.from;
    to = h.to;
    apart = h.apart;
    clash = h.clash;
  };
}

-- ---- one step more, or one that doesn't hold

module _ {S : Type 0} (from to : S → ℕ) (Holds : S → Type 0) where
  pub lead-next : (steps : List S) (n a b : ℕ) (s : S) → slice_get steps n ≡ Some s
      → LeadFrom from to Holds a (take n steps) b → from s ≡ b → Holds s
      → LeadFrom from to Holds a (take (n + 1) steps) (to s)
  lead-next steps n a b s at h goes holds =
      subst (λ front. LeadFrom from to Holds a front (to s)) (sym (take_next steps n s at))
      (lead-more from to Holds (take n steps) a b s h goes holds)

  -- whoever stands at n of steps that lead round goes on from where those before it lead
  pub holds-at : (steps : List S) (n a b c : ℕ) (s : S) → slice_get steps n ≡ Some s
      → LeadFrom from to Holds a (take n steps) b
      → LeadFrom from to Holds a steps c → (from s ≡ b) × Holds s
  holds-at steps n a b c s at h all =
      let whole = subst (λ xs. LeadFrom from to Holds a xs c) (split_at steps n s at) all in
      let rest = lead-parts from to Holds (take n steps) (s ∷ drop (suc n) steps) a b c h whole in
      (rest.0, rest.1)

  -- all of them lead to one place
  pub lead-one : (steps : List S) (a b c : ℕ) → LeadFrom from to Holds a steps b → LeadFrom from to Holds a steps c
      → b ≡ c
  lead-one [] a b c h g = sym h ∙ g
  lead-one (s ∷ steps) a b c h g = lead-one steps (to s) b c h.2 g.2

  -- steps lead round exactly where they lead back to where the first begins
  pub round-from : (steps : List S) (a : ℕ) (s : S) → slice_get steps 0 ≡ Some s → from s ≡ a
      → LeadFrom from to Holds a steps a → LeadRound from to Holds steps
  round-from [] a s at is h = absurd cc
  round-from (t ∷ steps) a s at is h =
      let same : from t ≡ a = h.0 in
      subst (λ x. LeadFrom from to Holds x (t ∷ steps) x) (sym same) h

  pub from-round : (steps : List S) (a : ℕ) (s : S) → slice_get steps 0 ≡ Some s → from s ≡ a
      → LeadRound from to Holds steps → LeadFrom from to Holds a steps a
  from-round [] a s at is h = absurd h
  from-round (t ∷ steps) a s at is h =
      let one : t ≡ s = same_Some t s at in
      subst (λ x. LeadFrom from to Holds x (t ∷ steps) x) (ap from one ∙ is) h
