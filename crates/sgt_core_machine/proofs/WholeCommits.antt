-- A transaction is gathered wherever it touches, decided, and its blocks are written.
use Rattle.std.proofs.Common.{◌≡◌, ◌<◌, ◌≤◌, ℕ, zero, suc, true, List, [], ◌∷◌, ◌++◌, length, map, take, refl, sym, ◌∙◌, arith, inl, inr, Contains, Option, Some, None, subst, ap, append_assoc}
use Rattle.std.specs.Prelude.{slice_get}
use Rattle.std.proofs.lemmas.Bool.{cases_eq}
use Rattle.std.proofs.lemmas.List.Elements.{Contains-append_cases, Contains-append_left, Contains-append_right}
use Rattle.sgt_names.proofs.Places.{Contains-from_at}
use Rattle.sgt_names.specs.declared.entry.Entry.{Entry}
use Rattle.sgt_certifier.specs.Certifier.{State}
use Rattle.sgt_certifier.proofs.Members.{cons_here, filter_member}
use Rattle.sgt_notation.specs.declared.event.Event.{Event}
use Rattle.sgt_notation.specs.declared.event.Event.TheVariants.{Gather, Decide, Install as Write, Commit}
use Rattle.sgt_core_model.specs.declared.reply.Reply.{Reply}
use Rattle.sgt_core_model.specs.declared.reply.Reply.TheVariants.{Yes, No, Gathered, Installed, Fault}
use Rattle.sgt_core_model.specs.declared.reply.CoreFault.{CoreFault}
use Rattle.sgt_core_model.specs.declared.reply.CoreFault.TheVariants as fault
use Rattle.sgt_core_model.specs.Core.{OpenStep, CoreState, sites_of, with_entries, only_at, changed_at, touches, touched, committed_block, refused_block, decided, noted, installed}
use Rattle.sgt_core_model.specs.Step.{StepIs, gathered_in, IsRefused, IsAllowed, ServesAll, MayDecide, MayStep}
use Rattle.sgt_core_machine.specs.private.Whole.{RefusesWhole, GathersAll, IsBlockDue, AwaitsBlocks, DecidesWhole, InstallsAll}
use Rattle.sgt_core_model.proofs.Kept.{IsKept}
use Rattle.sgt_core_model.proofs.Cycles.{AreDistinct}
use Rattle.sgt_core_model.proofs.LegalSteps.{cleared_there}
use Rattle.sgt_core_model.proofs.Runs.{is_active, at_most, none_open, idle, noted-step}
use Rattle.sgt_core_model.proofs.Committing.{append-all, in_range, range-distinct, filter-distinct, IsGoing, gather_allowed, decide_allowed, write_allowed, stays_open, noted_active, noted_begun, still_touched, some_block}
use Rattle.sgt_names.proofs.Elements.{map-push, contains-cases, contains-later, contains-none}

-- ---- lists

-- what stands at a place of a list of different numbers doesn't stand before it
pub fresh_at : (xs : List ℕ) (i s : ℕ) → AreDistinct xs → slice_get xs i ≡ Some s → Contains (take i xs) s → ⊥
fresh_at [] i s d at m = absurd cc
fresh_at (x ∷ xs) zero s d at m = contains-none s m
fresh_at (x ∷ xs) (suc i) s d at m = elim (contains-cases x (take i xs) s m) [
  | inl is ↦ d.0 (subst (Contains xs) (sym is) (Contains-from_at xs i s at))
  | inr later ↦ fresh_at xs i s d.1 at later
]

-- ---- refusals

pub whole_refused : (c : CoreState) (tx : ℕ) (f : CoreFault) → IsRefused c (Commit tx) f → RefusesWhole c tx f
whole_refused c tx fault.Memory r = absurd r.0
whole_refused c tx f r = r

-- a whole commit that is refused, or for which there is no memory, leaves the state
pub whole_commit : (c : CoreState) (tx : ℕ) (f : CoreFault) → RefusesWhole c tx f → MayStep c (Commit tx) (Fault f) c
whole_commit c tx fault.Memory r = (r, ap (λ o. record c { step = o }) (none_open c (r fault.StepOpen)))
whole_commit c tx f r = (r, refl)

pub whole_decision : (c : CoreState) (tx : ℕ) (f : CoreFault) → RefusesWhole c tx f → MayDecide c tx (Fault f) c
whole_decision c tx fault.Memory r = (r, ap (λ o. record c { step = o }) (none_open c (r fault.StepOpen)))
whole_decision c tx f r = (r, refl)

-- ---- one more site is gathered

-- after a gather, or want of memory for it
abbrev pub GatherGives : CoreState → ℕ → List ℕ → ℕ → Reply → CoreState → Type 0
GatherGives c tx done s Gathered e = GathersAll c tx (done ++ s ∷ []) e
GatherGives c tx done s reply e = e ≡ record c { step = None }

module _ (c : CoreState) (tx : ℕ) (k : IsKept c) (allowed : IsAllowed c (Commit tx)) where
  closed : c.step ≡ None
  closed = none_open c (allowed fault.StepOpen)

  going : (o : Option OpenStep) → (StepIs (λ t. t ≡ tx → ⊥) o → ⊥) → IsGoing (record c { step = o }) tx
  going o alone = record {
    active = is_active c (Commit tx) tx allowed refl;
    begun = at_most c.certifier.begun tx (λ lt. allowed fault.Unknown (tx, refl, lt));
    alone = alone;
  }

  pub distinct : AreDistinct (touched c tx)
  distinct = filter-distinct (touches c tx) (sites_of c) (range-distinct 0 (length c.items))

  inside : (s : ℕ) → Contains (touched c tx) s → s < length c.items
  inside s m = let r = in_range 0 (length c.items) s (filter_member (touches c tx) (sites_of c) s m).0 in
      omega (arith, r.1)

  hit : (s : ℕ) → Contains (touched c tx) s → touches c tx s ≡ true
  hit s m = (filter_member (touches c tx) (sites_of c) s m).1

  pub gathers_none : GathersAll c tx [] c
  gathers_none = record {
    serves = refl;
    same = refl;
    alone = subst (λ o. StepIs (λ t. t ≡ tx → ⊥) o → ⊥) (sym closed) (λ n. n);
    gathered =
        λ s. (
          λ m. absurd (contains-none s m),
          λ m. absurd (contains-none s (subst (λ o. Contains (gathered_in o) s) closed m)),
        );
  }

  module _ (o : Option OpenStep) (done : List ℕ) (h : GathersAll c tx done (record c { step = o })) where
    one_more : (s : ℕ) → IsAllowed (record c { step = o }) (Gather tx s)
        → GathersAll c tx (done ++ s ∷ []) (record c { step = Some (record { tx = tx; gathered = s ∷ gathered_in o }) })
    one_more s may =
        let e : CoreState = record c { step = Some (record { tx = tx; gathered = s ∷ gathered_in o }) } in
        record {
          serves = subst (λ (es : List Event). ServesAll c es (map (λ t. Gathered) (done ++ s ∷ [])) e)
              (sym (map-push (Gather tx) done s))
              (subst (λ (rs : List Reply). ServesAll c (map (Gather tx) done ++ Gather tx s ∷ []) rs e)
              (sym (map-push (λ (t : ℕ). Gathered) done s))
              (append-all c (map (Gather tx) done) (Gather tx s ∷ []) (map (λ t. Gathered) done) (Gathered ∷ [])
              (record c { step = o }) e h.serves (e, (may, refl), refl)));
          same = refl;
          alone = λ n. n refl;
          gathered = λ t. (
            λ m. elim (Contains-append_cases done (s ∷ []) t m) [
              | inl before ↦ contains-later s (gathered_in o) t ((h.gathered t).0 before)
              | inr last ↦ elim (contains-cases s [] t last) [
                | inl is ↦ subst (Contains (s ∷ gathered_in o)) is (cons_here s (gathered_in o))
                | inr none ↦ absurd (contains-none t none)
              ]
            ],
            λ m. elim (contains-cases s (gathered_in o) t m) [
              | inl is ↦ Contains-append_right done (s ∷ []) t (subst (Contains (s ∷ [])) is (cons_here s []))
              | inr before ↦ Contains-append_left done (s ∷ []) t ((h.gathered t).1 before)
            ],
          );
        }

    gather_may : (s : ℕ) → Contains (touched c tx) s → (Contains done s → ⊥)
        → IsAllowed (record c { step = o }) (Gather tx s)
    gather_may s m new = gather_allowed (record c { step = o }) tx s (going o h.alone) (record {
      inside = inside s m;
      touched = hit s m;
      fresh = λ n. new ((h.gathered s).1 n);
    })

    gather_by : (s : ℕ) → IsAllowed (record c { step = o }) (Gather tx s) → (reply : Reply) (e : CoreState)
        → MayStep (record c { step = o }) (Gather tx s) reply e
        → GatherGives c tx done s reply e
    gather_by s may Gathered e step = subst (GathersAll c tx (done ++ s ∷ [])) (sym step.1) (one_more s may)
    gather_by s may (Fault fault.Memory) e step = step.1
    gather_by s may (Fault f) e step = absurd (may f step.0.0)
    gather_by s may reply e step = absurd step.1

  pub gather_gives : (d : CoreState) (done : List ℕ) (s : ℕ) → GathersAll c tx done d → Contains (touched c tx) s
      → (Contains done s → ⊥) → (reply : Reply) (e : CoreState)
      → MayStep d (Gather tx s) reply e → GatherGives c tx done s reply e
  gather_gives d done s h m new reply e step =
      let g = subst (GathersAll c tx done) h.same h in
      gather_by d.step done g s (gather_may d.step done g s m new) reply e
      (subst (λ (x : CoreState). MayStep x (Gather tx s) reply e) h.same step)

  -- the gather at one more site is allowed
  pub gather_next : (d : CoreState) (done : List ℕ) (s : ℕ) → GathersAll c tx done d → Contains (touched c tx) s
      → (Contains done s → ⊥) → IsAllowed d (Gather tx s)
  gather_next d done s h m new =
      subst (λ (x : CoreState). IsAllowed x (Gather tx s)) (sym h.same)
      (gather_may d.step done (subst (GathersAll c tx done) h.same h) s m new)

  -- ---- the decision

  decide_may : (o : Option OpenStep) → GathersAll c tx (touched c tx) (record c { step = o })
      → IsAllowed (record c { step = o }) (Decide tx)
  decide_may o h = decide_allowed (record c { step = o }) tx (going o h.alone) (idle c k closed) (λ s m. let n =
      (h.gathered s).0 m in (own o s h.alone n, n))
    where
      own : (o : Option OpenStep) (s : ℕ) → (StepIs (λ i. i ≡ tx → ⊥) o → ⊥) → Contains (gathered_in o) s
          → StepIs (λ i. i ≡ tx) o
      own None s out m = absurd (contains-none s m)
      own (Some p) s out m = elim (cases_eq p.tx tx) [ inl is ↦ is | inr other ↦ absurd (out other) ]

  pub decide_next : (d : CoreState) → GathersAll c tx (touched c tx) d → IsAllowed d (Decide tx)
  decide_next d h =
      subst (λ (x : CoreState). IsAllowed x (Decide tx)) (sym h.same)
      (decide_may d.step (subst (GathersAll c tx (touched c tx)) h.same h))

-- the blocks are due at each of the sites
pub all_due : (c : CoreState) (tx : ℕ) (sites : List ℕ) → AreDistinct sites
    → ((s : ℕ) → Contains sites s → IsBlockDue c tx s) → AwaitsBlocks c tx sites
all_due c tx [] d each = tt
all_due c tx (s ∷ ss) d each =
    (each s (cons_here s ss), (d.0, all_due c tx ss d.1 (λ t m. each t (contains-later s ss t m))))

-- and still are after the decision, since the step stays open for them
pub due_decided : (c : CoreState) (tx : ℕ) (mid : State) (block : ℕ → List Entry) (sites : List ℕ)
    → AwaitsBlocks (record c { certifier = mid; due = block }) tx sites → AwaitsBlocks (decided c tx mid block) tx sites
due_decided c tx mid block [] h = tt
due_decided c tx mid block (s ∷ ss) h =
    let after : CoreState = record c { certifier = mid; due = block } in
    subst (λ (x : CoreState). AwaitsBlocks x tx (s ∷ ss)) (sym (stays_open after tx s h.0.inside h.0.due)) h

module _ (c : CoreState) (tx : ℕ) (k : IsKept c) (allowed : IsAllowed c (Commit tx)) where
  -- the transaction is decided, and its blocks are these
  due_blocks : (o : Option OpenStep) (mid : State) (block : ℕ → List Entry) → (StepIs (λ t. t ≡ tx → ⊥) o → ⊥)
      → mid.active ≡ c.certifier.active
      → mid.begun ≡ c.certifier.begun → mid.step ≡ Some tx → ((s : ℕ) → touches c tx s ≡ true → block s ≡ [] → ⊥)
      → AwaitsBlocks (record c { step = o; certifier = mid; due = block }) tx (touched c tx)
  due_blocks o mid block alone active begun step due =
      all_due (record c { step = o; certifier = mid; due = block }) tx (touched c tx) (distinct c tx k allowed)
      (λ s m. record {
        active = subst (λ xs. Contains xs tx) (sym active) (going c tx k allowed o alone).active;
        begun = subst (λ n. tx ≤ n) (sym begun) (going c tx k allowed o alone).begun;
        alone = alone;
        decided = step;
        inside = inside c tx k allowed s m;
        touched = hit c tx k allowed s m;
        due = due s (hit c tx k allowed s m);
      })

  decides_with : (o : Option OpenStep) (verdict : Reply) (e : CoreState)
      → GathersAll c tx (touched c tx) (record c { step = o })
      → ServesAll (record c { step = o }) (Decide tx ∷ []) (verdict ∷ []) e
      → ServesAll c (map (Gather tx) (touched c tx) ++ Decide tx ∷ [])
      (map (λ s. Gathered) (touched c tx) ++ verdict ∷ []) e
  decides_with o verdict e h last =
      append-all c (map (Gather tx) (touched c tx)) (Decide tx ∷ []) (map (λ s. Gathered) (touched c tx))
      (verdict ∷ []) (record c { step = o }) e h.serves last

  decide_by : (o : Option OpenStep) → GathersAll c tx (touched c tx) (record c { step = o })
      → IsAllowed (record c { step = o }) (Decide tx) → (reply : Reply) (e : CoreState)
      → MayStep (record c { step = o }) (Decide tx) reply e → DecidesWhole c tx (touched c tx) reply e
  decide_by o h may Yes e step =
      let v = step.1 in
      let mid : CoreState = record c { step = o } in
      let after = v.commits.after in (
        (allowed, decides_with o Yes e h (e, step, refl)),
        subst (λ (x : CoreState). AwaitsBlocks x tx (touched c tx)) (sym v.after)
            (due_decided mid tx v.certifier (committed_block mid tx) (touched c tx)
            (due_blocks o v.certifier (committed_block mid tx) h.alone (ap (λ (s : State). s.active) after)
            (ap (λ (s : State). s.begun) after) (ap (λ (s : State). s.step) after)
            (λ s hit. some_block (touches c tx s) _ _ hit))),
      )
  decide_by o h may No e step =
      let v = step.1 in
      let mid : CoreState = record c { step = o } in
      let after = v.refuses.after in (
        (allowed, decides_with o No e h (e, step, refl)),
        subst (λ (x : CoreState). AwaitsBlocks x tx (touched c tx)) (sym v.after)
            (due_decided mid tx v.certifier (refused_block mid tx) (touched c tx)
            (due_blocks o v.certifier (refused_block mid tx) h.alone (ap (λ (s : State). s.active) after)
            (ap (λ (s : State). s.begun) after) (ap (λ (s : State). s.step) after)
            (λ s hit. some_block (touches c tx s) _ _ hit))),
      )
  decide_by o h may (Fault fault.Memory) e step = (allowed, step.1)
  decide_by o h may (Fault f) e step = absurd (may f step.0.0)
  decide_by o h may reply e step = absurd step.1

  pub decide_gives : (d : CoreState) → GathersAll c tx (touched c tx) d → (reply : Reply) (e : CoreState)
      → MayStep d (Decide tx) reply e → DecidesWhole c tx (touched c tx) reply e
  decide_gives d h reply e step =
      let g = subst (GathersAll c tx (touched c tx)) h.same h in
      decide_by d.step g (decide_may c tx k allowed d.step g) reply e
      (subst (λ (x : CoreState). MayStep x (Decide tx) reply e) h.same step)

-- ---- the blocks are written

-- after a block is written the others are still due
still_due : (c : CoreState) (tx s : ℕ) → IsBlockDue c tx s → (ts : List ℕ) → (Contains ts s → ⊥) → AwaitsBlocks c tx ts
    → AwaitsBlocks (record (with_entries c (only_at s (c.due s))) {
      certifier = noted c tx s;
      due =
          changed_at s [] c.due;
    }) tx ts
still_due c tx s h [] out all = tt
still_due c tx s h (t ∷ ts) out all =
    let a = all.0 in (
      record {
        active = subst (λ xs. Contains xs tx) (sym (noted_active c tx s)) a.active;
        begun = subst (λ n. tx ≤ n) (sym (noted_begun c tx s)) a.begun;
        alone = a.alone;
        decided = noted-step c tx s ∙ a.decided;
        inside = a.inside;
        touched = still_touched c tx t (only_at s (c.due s) t) a.touched;
        due = λ e. a.due (sym (cleared_there s c.due t (λ is. out (subst (Contains (t ∷ ts)) is (cons_here t ts))))
            ∙ e);
      },
      (all.1.0, still_due c tx s h ts (λ m. out (contains-later t ts s m)) all.1.1),
    )

awaits_rest : (c : CoreState) (tx s : ℕ) → IsBlockDue c tx s → (ts : List ℕ) → (Contains ts s → ⊥)
    → AwaitsBlocks c tx ts → AwaitsBlocks (installed c tx s) tx ts
awaits_rest c tx s h [] out all = tt
awaits_rest c tx s h (t ∷ ts) out all =
    let mid : CoreState = record (with_entries c (only_at s (c.due s))) {
      certifier = noted c tx s;
      due =
          changed_at s [] c.due;
    } in
    let rest = still_due c tx s h (t ∷ ts) out all in
    subst (λ (x : CoreState). AwaitsBlocks x tx (t ∷ ts)) (sym (stays_open mid tx t rest.0.inside rest.0.due)) rest

write_by : (c : CoreState) (tx s : ℕ) → IsAllowed c (Write tx s) → (reply : Reply) (e : CoreState)
    → MayStep c (Write tx s) reply e → e ≡ installed c tx s
write_by c tx s may Installed e step = step.1
write_by c tx s may (Fault fault.Memory) e step = absurd step.1
write_by c tx s may (Fault f) e step = absurd (may f step.0.0)
write_by c tx s may reply e step = absurd step.1

-- a block that is due may be written
pub write_next : (c : CoreState) (tx s : ℕ) → IsBlockDue c tx s → IsAllowed c (Write tx s)
write_next c tx s a =
    write_allowed c tx s (record { active = a.active; begun = a.begun; alone = a.alone }) a.decided
    (record { inside = a.inside; touched = a.touched; due = a.due })

-- one more block is written
pub install_gives : (c d : CoreState) (tx : ℕ) (done : List ℕ) (s : ℕ) (rest : List ℕ) → InstallsAll c tx done d
    → AwaitsBlocks d tx (s ∷ rest)
    → (reply : Reply) (e : CoreState) → MayStep d (Write tx s) reply e → InstallsAll c tx (done ++ s ∷ []) e
    × AwaitsBlocks e tx rest
install_gives c d tx done s rest h all reply e step =
    let a = all.0 in
    let may = write_next d tx s a in
    let is : e ≡ installed d tx s = write_by d tx s may reply e step in (
      subst (λ (es : List Event). ServesAll c es (map (λ t. Installed) (done ++ s ∷ [])) e)
          (sym (map-push (Write tx) done s))
          (subst (λ (rs : List Reply). ServesAll c (map (Write tx) done ++ Write tx s ∷ []) rs e)
          (sym (map-push (λ (t : ℕ). Installed) done s))
          (append-all c (map (Write tx) done) (Write tx s ∷ []) (map (λ t. Installed) done) (Installed ∷ []) d e h (
            e,
            (may, is),
            refl,
          ))),
      subst (λ (x : CoreState). AwaitsBlocks x tx rest) (sym is) (awaits_rest d tx s a rest all.1.0 all.1.1),
    )

-- ---- the whole commit

-- a whole commit after whose decision the blocks were written
pub commits_by : (c mid new : CoreState) (tx : ℕ) (verdict : Reply) → ((f : CoreFault) → verdict ≡ Fault f → ⊥)
    → DecidesWhole c tx (touched c tx) verdict mid
    → InstallsAll mid tx (touched c tx) new → MayStep c (Commit tx) verdict new
commits_by c mid new tx (Fault f) out h all = absurd (out f refl)
commits_by c mid new tx verdict out h all =
    let sites = touched c tx in (
      h.0.0,
      subst (λ (es : List Event). ServesAll c es (map (λ s. Gathered) sites ++ verdict ∷ map (λ s. Installed) sites)
          new) (append_assoc (map (Gather tx) sites) (Decide tx ∷ []) (map (Write tx) sites))
          (subst (λ (rs : List Reply). ServesAll c ((map (Gather tx) sites ++ Decide tx ∷ []) ++ map (Write tx) sites)
          rs new) (append_assoc (map (λ s. Gathered) sites) (verdict ∷ []) (map (λ s. Installed) sites))
          (append-all c (map (Gather tx) sites ++ Decide tx ∷ []) (map (Write tx) sites)
          (map (λ s. Gathered) sites ++ verdict ∷ []) (map (λ s. Installed) sites) mid new h.0.1 all)),
    )

-- the blocks that are due after a verdict
pub awaits_after : (c mid : CoreState) (tx : ℕ) (sites : List ℕ) (verdict : Reply)
    → ((f : CoreFault) → verdict ≡ Fault f → ⊥) → DecidesWhole c tx sites verdict mid → AwaitsBlocks mid tx sites
awaits_after c mid tx sites (Fault f) out h = absurd (out f refl)
awaits_after c mid tx sites verdict out h = h.1

-- a decision as a whole, whatever the reply
pub decision_of : (c mid : CoreState) (tx : ℕ) (sites : List ℕ) (reply : Reply) → DecidesWhole c tx sites reply mid
    → MayDecide c tx reply mid
decision_of c mid tx sites (Fault f) h = h
decision_of c mid tx sites reply h = h.0
