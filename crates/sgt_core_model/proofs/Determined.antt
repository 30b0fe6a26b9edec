-- But for want of memory, each event has one reply.
use Rattle.std.proofs.Common.{◌≡◌, ℕ, List, [], ◌∷◌, ◌++◌, map, refl, sym, ◌∙◌, ◌⊎◌, inl, inr, Option, Some, None, subst, ap}
use Rattle.std.proofs.lemmas.List.Elements.{Contains-append_cases, Contains-append_left, Contains-append_right}
use Rattle.std.proofs.lemmas.Option.{same_Some}
use Rattle.sgt_names.specs.Name.{Name}
use Rattle.sgt_names.specs.declared.entry.Entry.TheVariants as entry
use Rattle.sgt_names.proofs.Lists.{heads, tails}
use Rattle.sgt_order.specs.Graph.{Leads}
use Rattle.sgt_bundle.specs.Certificate.{stops}
use Rattle.sgt_bundle.specs.declared.certificate.Step.{Step}
use Rattle.sgt_certifier.specs.Certifier.{Arc, Joins, Walks}
use Rattle.sgt_notation.specs.declared.event.Event.{Event}
use Rattle.sgt_notation.specs.declared.event.Event.TheVariants.{Begin, Read, Put, Add, Gather, Decide, Install, Commit, Withdraw, Close}
use Rattle.sgt_core_model.specs.declared.reply.Reply.{Reply}
use Rattle.sgt_core_model.specs.declared.reply.Reply.TheVariants.{Begun, Value, Kept, Gathered, Yes, No, Installed, Withdrawn, Closed, Fault}
use Rattle.sgt_core_model.specs.declared.reply.CoreFault.{CoreFault}
use Rattle.sgt_core_model.specs.declared.reply.CoreFault.TheVariants as fault
use Rattle.sgt_core_model.specs.Core.{CoreState, with_entries, only_at, look, AreEdges}
use Rattle.sgt_core_model.specs.Step.{IsRefused, IsAllowed, Reads, CommitsAt, RefusesAt, Does, ServesAll, CommitsWith, MayStep}
use Rattle.sgt_core_model.specs.Runs.{IsMemory}
use Rattle.sgt_core_model.proofs.Faults.{one_refusal}

-- ---- a transaction isn't both committed and refused

no_end : (xs : List ℕ) (b : ℕ) → [] ≡ xs ++ b ∷ [] → ⊥
no_end [] b e = absurd cc
no_end (x ∷ xs) b e = absurd cc

-- the steps of a walk lead over where they stop
led : (arcs : List Arc) (a : ℕ) (between : List ℕ) (b : ℕ) (walk : List Step) → Walks arcs a walk
    → stops walk ≡ between ++ b ∷ [] → Leads (Joins arcs) a between b
led arcs a between b [] w e = absurd (no_end between b e)
led arcs a [] b (s ∷ []) w e = subst (Joins arcs a) (heads s.to b [] [] e) (s.label, w.0)
led arcs a [] b (s ∷ t ∷ ts) w e = absurd (let f : stops (t ∷ ts) ≡ [] = tails s.to b (stops (t ∷ ts)) [] e in cc)
led arcs a (x ∷ xs) b (s ∷ ss) w e =
    let to : s.to ≡ x = heads s.to x (stops ss) (xs ++ b ∷ []) e in
    let rest = led arcs s.to xs b ss w.1 (tails s.to x (stops ss) (xs ++ b ∷ []) e) in
    (subst (Joins arcs a) to (s.label, w.0), subst (λ y. Leads (Joins arcs) y xs b) to rest)

leads_in : (E F : ℕ → ℕ → Type 0) → ((a b : ℕ) → E a b → F a b) → (a : ℕ) (xs : List ℕ) (b : ℕ) → Leads E a xs b
    → Leads F a xs b
leads_in E F f a [] b h = f a b h
leads_in E F f a (c ∷ cs) b h = (f a c h.0, leads_in E F f c cs b h.1)

-- two lists of the edges have the same members
joins_same : (c : CoreState) (i : ℕ) (xs ys : List Arc) → AreEdges c i xs → AreEdges c i ys → (a b : ℕ)
    → Joins (c.certifier.arcs ++ xs) a b → Joins (c.certifier.arcs ++ ys) a b
joins_same c i xs ys ex ey a b j = elim (Contains-append_cases c.certifier.arcs xs _ j.1) [
  | inl was ↦ (j.0, Contains-append_left c.certifier.arcs ys _ was)
  | inr new ↦ (j.0, Contains-append_right c.certifier.arcs ys _ ((ey _).1 ((ex _).0 new)))
]

one_verdict : (c : CoreState) (i : ℕ) (new other : CoreState) → CommitsAt c i new → RefusesAt c i other → ⊥
one_verdict c i new other y n =
    let all = c.certifier.arcs ++ n.arcs in
    let w = n.refuses.cycle in
    let there = led all i w.between i n.walk w.steps w.closed in
    y.commits.free (
      w.between,
      leads_in (Joins all) (Joins (c.certifier.arcs ++ y.arcs)) (joins_same c i n.arcs y.arcs n.edges y.edges) i
          w.between i there,
    )

-- ---- one answer

one_value : (c : CoreState) (tx s : ℕ) (x : Name) (v w : ℕ) (found : Option ℕ) (new other : CoreState)
    → Reads c tx s x v found new → Reads c tx s x w found other → v ≡ w
one_value c tx s x v w (Some u) new other p q = p.0 ∙ sym q.0
one_value c tx s x v w None new other p q =
    let same = same_Some p.0 q.0 (sym p.1 ∙ q.1) in
    let states : new ≡ other = p.2 ∙ (ap (λ u. with_entries c (only_at s (entry.Read tx x u ∷ []))) same ∙ sym q.2) in
    same_Some v w (sym p.3 ∙ (ap (λ (d : CoreState). look d tx s x) states ∙ q.3))

one_answer : (c : CoreState) (event : Event) (r q : Reply) (new other : CoreState) → Does c event r new
    → Does c event q other → r ≡ q
one_answer c Begin (Begun a) (Begun b) new other p q = ap Begun (p.0 ∙ sym q.0)
one_answer c Begin (Begun a) _ new other p q = absurd q
one_answer c Begin _ _ new other p q = absurd p
one_answer c (Read tx s x) (Value v) (Value w) new other p q =
    ap Value (one_value c tx s x v w (look c tx s x) new other p q)
one_answer c (Read tx s x) (Value v) _ new other p q = absurd q
one_answer c (Read tx s x) _ _ new other p q = absurd p
one_answer c (Put tx s x v) Kept Kept new other p q = refl
one_answer c (Put tx s x v) Kept _ new other p q = absurd q
one_answer c (Put tx s x v) _ _ new other p q = absurd p
one_answer c (Add tx s x v) Kept Kept new other p q = refl
one_answer c (Add tx s x v) Kept _ new other p q = absurd q
one_answer c (Add tx s x v) _ _ new other p q = absurd p
one_answer c (Gather tx s) Gathered Gathered new other p q = refl
one_answer c (Gather tx s) Gathered _ new other p q = absurd q
one_answer c (Gather tx s) _ _ new other p q = absurd p
one_answer c (Decide tx) Yes Yes new other p q = refl
one_answer c (Decide tx) No No new other p q = refl
one_answer c (Decide tx) Yes No new other p q = absurd (one_verdict c tx new other p q)
one_answer c (Decide tx) No Yes new other p q = absurd (one_verdict c tx other new q p)
one_answer c (Decide tx) Yes _ new other p q = absurd q
one_answer c (Decide tx) No _ new other p q = absurd q
one_answer c (Decide tx) _ _ new other p q = absurd p
one_answer c (Install tx s) Installed Installed new other p q = refl
one_answer c (Install tx s) Installed _ new other p q = absurd q
one_answer c (Install tx s) _ _ new other p q = absurd p
one_answer c (Withdraw tx) Withdrawn Withdrawn new other p q = refl
one_answer c (Withdraw tx) Withdrawn _ new other p q = absurd q
one_answer c (Withdraw tx) _ _ new other p q = absurd p
one_answer c Close (Closed m) (Closed n) new other p q = ap Closed (p.0 ∙ sym q.0)
one_answer c Close (Closed m) _ new other p q = absurd q
one_answer c Close _ _ new other p q = absurd p
one_answer c (Commit tx) _ _ new other p q = absurd p

-- a commit's verdict is that of its decision, behind the same gathers
one_commit : (c : CoreState) (tx : ℕ) (sites : List ℕ) (rest : List Event) (r q : Reply) (rs qs : List Reply)
    (new other : CoreState)
    → ServesAll c (map (Gather tx) sites ++ Decide tx ∷ rest) (map (λ s. Gathered) sites ++ r ∷ rs) new
    → ServesAll c (map (Gather tx) sites ++ Decide tx ∷ rest) (map (λ s. Gathered) sites ++ q ∷ qs) other → r ≡ q
one_commit c tx [] rest r q rs qs new other a b = one_answer c (Decide tx) r q a.0 b.0 a.1.1 b.1.1
one_commit c tx (s ∷ ss) rest r q rs qs new other a b =
    let same : b.0 ≡ a.0 = b.1.1 ∙ sym a.1.1 in
    one_commit a.0 tx ss rest r q rs qs new other a.2
    (subst (λ (d : CoreState). ServesAll d (map (Gather tx) ss ++ Decide tx ∷ rest) (map (λ n. Gathered) ss ++ q ∷ qs)
    other) same b.2)

-- ---- one reply

-- what an allowed event does, a commit as a whole included
abbrev Goes : CoreState → Event → Reply → CoreState → Type 0
Goes c (Commit tx) r new = CommitsWith c tx r new
Goes c event r new = Does c event r new

abbrev IsOutcome : CoreState → Event → Reply → CoreState → Type 0
IsOutcome c event r new = ((f : CoreFault) × (r ≡ Fault f) × IsRefused c event f)
    ⊎ (IsAllowed c event × Goes c event r new)

outcome : (c : CoreState) (event : Event) (r : Reply) (new : CoreState) → MayStep c event r new → (IsMemory r → ⊥)
    → IsOutcome c event r new
outcome c event (Fault fault.Memory) new m out = absurd (out tt)
outcome c event (Fault f) new m out = inl (f, refl, m.0)
outcome c (Commit tx) r new m out = inr m
outcome c event r new m out = inr m

one_going : (c : CoreState) (event : Event) (r q : Reply) (new other : CoreState) → Goes c event r new
    → Goes c event q other → r ≡ q
one_going c (Commit tx) r q new other a b = one_commit c tx _ _ r q _ _ new other a b
one_going c event r q new other a b = one_answer c event r q new other a b

pub one_reply : (c : CoreState) (event : Event) (r q : Reply) (new other : CoreState) → MayStep c event r new
    → MayStep c event q other
    → (IsMemory r → ⊥) → (IsMemory q → ⊥) → r ≡ q
one_reply c event r q new other a b not_r not_q =
    elim (outcome c event r new a not_r) [
      | inl p ↦ elim (outcome c event q other b not_q) [
        | inl u ↦ p.1 ∙ (ap Fault (one_refusal c event p.0 u.0 p.2 u.2) ∙ sym u.1)
        | inr u ↦ absurd (u.0 p.0 p.2.0)
      ]
      | inr p ↦ elim (outcome c event q other b not_q) [
        | inl u ↦ absurd (p.0 u.0 u.2.0)
        | inr u ↦ one_going c event r q new other p.1 u.1
      ]
    ]
