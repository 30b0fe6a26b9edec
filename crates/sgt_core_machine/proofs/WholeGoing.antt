-- The machine goes through the parts of a whole commit.
use Rattle.std.proofs.Common.{◌≡◌, ◌<◌, ◌+◌, ℕ, suc, List, [], ◌∷◌, length, take, drop, refl, sym, ◌∙◌, arith, Contains, Option, Some, None, subst}
use Rattle.std.specs.Prelude.{slice_get}
use Rattle.sgt_names.proofs.Lists.{drop_next, take_next, within_at}
use Rattle.sgt_names.proofs.Places.{Contains-from_at}
use Rattle.sgt_notation.specs.declared.event.Event.TheVariants.{Gather, Decide, Install as Write, Commit}
use Rattle.sgt_core_model.specs.declared.reply.Reply.{Reply}
use Rattle.sgt_core_model.specs.declared.reply.Reply.TheVariants.{Gathered, Fault}
use Rattle.sgt_core_model.specs.declared.reply.CoreFault.{CoreFault}
use Rattle.sgt_core_model.specs.declared.reply.CoreFault.TheVariants as fault
use Rattle.sgt_core_model.specs.Core.{CoreState}
use Rattle.sgt_core_model.specs.Step.{IsAllowed, MayDecide, MayStep}
use Rattle.sgt_core_machine.specs.Machine.{Parts, StandsFor, Stands, GoesOn, IsSlotOf}
use Rattle.sgt_core_machine.specs.private.Installing.{verdict_of, IsAnotherDue}
use Rattle.sgt_core_machine.specs.private.Whole.{IsWhole, RefusesWhole, GathersAll, AwaitsBlocks, DecidesWhole, InstallsAll}
use Rattle.sgt_core_model.proofs.Cycles.{AreDistinct}
use Rattle.sgt_certifier.proofs.Members.{cons_here}
use Rattle.sgt_step.specs.declared.one_site.Ending.{Ending}
use Rattle.sgt_core_machine.proofs.Standing.{reached_kept}
use Rattle.sgt_core_machine.proofs.Redrafting.{active_slot}
use Rattle.sgt_core_machine.proofs.Installs.{undecided_by}
use Rattle.sgt_core_machine.proofs.Allowed.{gather_everywhere, decide_everywhere, install_place, install_everywhere}
use Rattle.sgt_core_machine.proofs.WholeCommits.{fresh_at, whole_commit, whole_decision, GatherGives, distinct, gathers_none, gather_gives, gather_next, decide_next, decide_gives, write_next, install_gives, commits_by, awaits_after, decision_of}

abbrev pub AreWhole : Parts → ℕ → List ℕ → Type 0
AreWhole m tx sites = (c : CoreState) → StandsFor m c → IsWhole c tx sites

-- some state that the machine stands for awaits these blocks
abbrev pub AreAwaited : Parts → ℕ → List ℕ → Type 0
AreAwaited m tx sites = (c : CoreState) × StandsFor m c × AwaitsBlocks c tx sites

-- ---- gathers

pub gathering_none : (m : Parts) (tx : ℕ) (sites : List ℕ) → AreWhole m tx sites
    → GoesOn (λ c d. GathersAll c tx [] d) m m
gathering_none m tx sites whole c s = (c, gathers_none c tx (reached_kept c s.reached) (whole c s).allowed, s)

-- what is allowed before the next part
module _ (first mid : Parts) (stands : Stands first) (tx : ℕ) (sites : List ℕ) (whole : AreWhole first tx sites)
    (slot : ℕ) (h : IsSlotOf mid tx slot) where
  pub gather_may : (i s : ℕ) → slice_get sites i ≡ Some s → GoesOn (λ c d. GathersAll c tx (take i sites) d) first mid
      → (d : CoreState) → StandsFor mid d → IsAllowed d (Gather tx s)
  gather_may i s at run =
      let c = stands.0 in
      let a = run c stands.1 in
      let w = whole c stands.1 in
      let k = reached_kept c stands.1.reached in
      let member = subst (λ xs. Contains xs s) w.all (Contains-from_at sites i s at) in
      let new = fresh_at sites i s (subst AreDistinct (sym w.all) (distinct c tx k w.allowed)) at in
      gather_everywhere mid a.0 a.2 tx slot h s (gather_next c tx k w.allowed a.0 (take i sites) s a.1 member new)

  pub decide_may : GoesOn (λ c d. GathersAll c tx sites d) first mid → (d : CoreState) → StandsFor mid d
      → IsAllowed d (Decide tx)
  decide_may run =
      let c = stands.0 in
      let a = run c stands.1 in
      let w = whole c stands.1 in
      decide_everywhere mid a.0 a.2 tx slot h
      (decide_next c tx (reached_kept c stands.1.reached) w.allowed a.0
      (subst (λ xs. GathersAll c tx xs a.0) w.all a.1))

module _ (first mid last : Parts) (tx : ℕ) (sites : List ℕ) (whole : AreWhole first tx sites) where
  module _ (i s : ℕ) (at : slice_get sites i ≡ Some s) (reply : Reply)
      (run : GoesOn (λ c d. GathersAll c tx (take i sites) d) first mid)
      (go : GoesOn (λ c d. MayStep c (Gather tx s) reply d) mid last) where
    gives : (c : CoreState) → StandsFor first c → (e : CoreState) × GatherGives c tx (take i sites) s reply e
        × StandsFor last e
    gives c st =
        let a = run c st in
        let b = go a.0 a.2 in
        let w = whole c st in
        let k = reached_kept c st.reached in
        let member = subst (λ xs. Contains xs s) w.all (Contains-from_at sites i s at) in
        let new = fresh_at sites i s (subst AreDistinct (sym w.all) (distinct c tx k w.allowed)) at in
        (b.0, gather_gives c tx k w.allowed a.0 (take i sites) s a.1 member new reply b.0 b.1, b.2)

    pub gathering_on : reply ≡ Gathered → GoesOn (λ c d. GathersAll c tx (take (i + 1) sites) d) first last
    gathering_on is c st =
        let r = gives c st in (
          r.0,
          subst (λ xs. GathersAll c tx xs r.0) (sym (take_next sites i s at))
              (subst (λ q. GatherGives c tx (take i sites) s q r.0) is r.1),
          r.2,
        )

    pub gathering_stops : (reply ≡ Gathered → ⊥) → GoesOn (λ c d. d ≡ record c { step = None }) first last
    gathering_stops out c st = let r = gives c st in (r.0, by_reply c r.0 reply out r.1, r.2)
      where
        by_reply : (c e : CoreState) (q : Reply) → (q ≡ Gathered → ⊥) → GatherGives c tx (take i sites) s q e
            → e ≡ record c { step = None }
        by_reply c e Gathered out h = absurd (out refl)
        by_reply c e q out h = h

  -- ---- the decision

  pub deciding : (reply : Reply) → GoesOn (λ c d. GathersAll c tx sites d) first mid
      → GoesOn (λ c d. MayStep c (Decide tx) reply d) mid last
      → GoesOn (λ c d. DecidesWhole c tx sites reply d) first last
  deciding reply run go c st =
      let a = run c st in
      let b = go a.0 a.2 in
      let w = whole c st in (
        b.0,
        subst (λ xs. DecidesWhole c tx xs reply b.0) (sym w.all)
            (decide_gives c tx (reached_kept c st.reached) w.allowed a.0
            (subst (λ xs. GathersAll c tx xs a.0) w.all a.1) reply b.0 b.1),
        b.2,
      )

  pub deciding_stops : (reply : Reply) → reply ≡ Fault fault.Memory
      → GoesOn (λ c d. d ≡ record c { step = None }) first last
      → GoesOn (λ c d. DecidesWhole c tx sites reply d) first last
  deciding_stops reply is stop c st =
      let a = stop c st in
      (a.0, subst (λ q. DecidesWhole c tx sites q a.0) (sym is) ((whole c st).allowed, a.1), a.2)

  -- ---- the whole

  pub committing : (verdict : Reply) → ((f : CoreFault) → verdict ≡ Fault f → ⊥)
      → GoesOn (λ c d. DecidesWhole c tx sites verdict d) first mid
      → ((c : CoreState) → StandsFor mid c → AwaitsBlocks c tx sites → (d : CoreState) × InstallsAll c tx sites d
      × StandsFor last d) → GoesOn (λ c d. MayStep c (Commit tx) verdict d) first last
  committing verdict out run go c st =
      let a = run c st in
      let w = whole c st in
      let b = go a.0 a.2 (awaits_after c a.0 tx sites verdict out a.1) in (
        b.0,
        commits_by c a.0 b.0 tx verdict out (subst (λ xs. DecidesWhole c tx xs verdict a.0) w.all a.1)
            (subst (λ xs. InstallsAll a.0 tx xs b.0) w.all b.1),
        b.2,
      )

pub committing_stops : (first last : Parts) (tx : ℕ) (sites : List ℕ) (f : CoreFault) (reply : Reply)
    → reply ≡ Fault f → GoesOn (λ c d. DecidesWhole c tx sites (Fault f) d) first last
    → GoesOn (λ c d. MayStep c (Commit tx) reply d) first last
committing_stops first last tx sites f reply is run c st =
    let a = run c st in
    (a.0, subst (λ q. MayStep c (Commit tx) q a.0) (sym is) (by_fault c a.0 f a.1), a.2)
  where
    by_fault : (c e : CoreState) (f : CoreFault) → MayDecide c tx (Fault f) e → MayStep c (Commit tx) (Fault f) e
    by_fault c e fault.Memory h = h
    by_fault c e f h = h

pub commit_refused : (m : Parts) (tx : ℕ) (f : CoreFault) (reply : Reply) → reply ≡ Fault f
    → ((c : CoreState) → StandsFor m c → RefusesWhole c tx f) → GoesOn (λ c d. MayStep c (Commit tx) reply d) m m
commit_refused m tx f reply is h c st =
    (c, subst (λ q. MayStep c (Commit tx) q c) (sym is) (whole_commit c tx f (h c st)), st)

pub decision_refused : (m : Parts) (tx : ℕ) (f : CoreFault) (reply : Reply) → reply ≡ Fault f
    → ((c : CoreState) → StandsFor m c → RefusesWhole c tx f) → GoesOn (λ c d. MayDecide c tx reply d) m m
decision_refused m tx f reply is h c st =
    (c, subst (λ q. MayDecide c tx q c) (sym is) (whole_decision c tx f (h c st)), st)

pub decision_made : (first last : Parts) (tx : ℕ) (sites : List ℕ) (reply : Reply)
    → GoesOn (λ c d. DecidesWhole c tx sites reply d) first last → GoesOn (λ c d. MayDecide c tx reply d) first last
decision_made first last tx sites reply run c st = let a = run c st in (a.0, decision_of c a.0 tx sites reply a.1, a.2)

-- after a verdict the blocks are awaited
pub awaiting : (first mid : Parts) (tx : ℕ) (sites : List ℕ) (verdict : Reply) → Stands first
    → ((f : CoreFault) → verdict ≡ Fault f → ⊥) → GoesOn (λ c d. DecidesWhole c tx sites verdict d) first mid
    → AreAwaited mid tx sites
awaiting first mid tx sites verdict stands out run =
    let a = run stands.0 stands.1 in (a.0, a.2, awaits_after stands.0 a.0 tx sites verdict out a.1)

-- ---- installs

-- some of the blocks are written, and the others still due
abbrev pub AreInstalling : Parts → Parts → ℕ → List ℕ → ℕ → Type 0
AreInstalling first last tx sites i = (c : CoreState) → StandsFor first c → AwaitsBlocks c tx sites
    → (d : CoreState) × InstallsAll c tx (take i sites) d × AwaitsBlocks d tx (drop i sites) × StandsFor last d

pub installing_none : (m : Parts) (tx : ℕ) (sites : List ℕ) → AreInstalling m m tx sites 0
installing_none m tx sites c st all = (c, refl, all, st)

pub installing_on : (first mid last : Parts) (tx : ℕ) (sites : List ℕ) (i s : ℕ) → slice_get sites i ≡ Some s
    → (reply : Reply) → AreInstalling first mid tx sites i
    → GoesOn (λ c d. MayStep c (Write tx s) reply d) mid last → AreInstalling first last tx sites (i + 1)
installing_on first mid last tx sites i s at reply run go c st all =
    let a = run c st all in
    let b = go a.0 a.3 in
    let due = subst (AwaitsBlocks a.0 tx) (drop_next sites i s at) a.2 in
    let r = install_gives c a.0 tx (take i sites) s (drop (i + 1) sites) a.1 due reply b.0 b.1 in
    (b.0, subst (λ xs. InstallsAll c tx xs b.0) (sym (take_next sites i s at)) r.0, r.1, b.2)

-- what is so of the next block, while some are awaited
module _ (first mid : Parts) (tx : ℕ) (sites : List ℕ) (some : AreAwaited first tx sites) (slot : ℕ)
    (h : IsSlotOf mid tx slot) (i s : ℕ) (at : slice_get sites i ≡ Some s) (run : AreInstalling first mid tx sites i)
  where
    state : (c : CoreState) × AwaitsBlocks c tx (s ∷ drop (i + 1) sites) × StandsFor mid c
    state = let a = run some.0 some.1 some.2 in
        (a.0, subst (AwaitsBlocks a.0 tx) (drop_next sites i s at) a.2, a.3)

    pub install_may : (verdict : Ending) → verdict_of mid.step ≡ Some verdict → (d : CoreState) → StandsFor mid d
        → IsAllowed d (Write tx s)
    install_may verdict v =
        install_everywhere mid state.0 state.2 tx slot h s (write_next state.0 tx s state.1.0) verdict v

    pub another_due : i + 1 < length sites → IsAnotherDue mid.places s
    another_due more =
        let next = within_at sites (i + 1) more in
        let rest : drop (i + 1) sites ≡ next.0 ∷ drop (i + 1 + 1) sites = drop_next sites (i + 1) next.0 next.1 in
        let awaits = subst (AwaitsBlocks state.0 tx) rest state.1.1.1 in
        let may = write_next state.0 tx next.0 awaits.0 in
        let p = install_place mid state.0 state.2 tx slot h next.0 may in
        record {
          other = next.0;
          apart = λ is. state.1.1.0 (subst (λ xs. Contains xs s) (sym rest)
              (subst (Contains (next.0 ∷ drop (i + 1 + 1) sites)) is (cons_here next.0 (drop (i + 1 + 1) sites))));
          place = p.0;
          there = p.1;
          due = p.2;
        }

-- whose blocks are awaited is active
pub awaited_slot : (m : Parts) (tx slot : ℕ) (sites : List ℕ) → tx ≡ suc (m.before + slot) → AreAwaited m tx sites
    → 0 < length sites → IsSlotOf m tx slot
awaited_slot m tx slot [] number some any = absurd (omega (arith, any))
awaited_slot m tx slot (s ∷ ss) number some any =
    active_slot m some.0 tx slot some.1 number some.2.0.begun some.2.0.active

pub no_verdict : (o : Option Ending) → ((v : Ending) → o ≡ Some v → ⊥) → o ≡ None
no_verdict None out = refl
no_verdict (Some v) out = absurd (out v refl)

-- none are before a verdict
pub none_awaited : (m : Parts) (tx : ℕ) (sites : List ℕ) → verdict_of m.step ≡ None → (c : CoreState) → StandsFor m c
    → AwaitsBlocks c tx sites → (d : CoreState) × InstallsAll c tx sites d × StandsFor m d
none_awaited m tx [] none c st all = (c, refl, st)
none_awaited m tx (s ∷ ss) none c st all =
    let e : Some tx ≡ None = sym all.0.decided ∙ undecided_by m c m.step none st.step in absurd cc
