-- The certifier's decision of a gathered transaction is one of the model.
use Rattle.std.proofs.Common.{◌≡◌, ◌+◌, arith, ℕ, suc, Bool, true, false, cond, List, [], refl, sym, ◌∙◌, ◌⊎◌, inl, inr, Contains, Option, Some, None, subst, ap}
use Rattle.std.specs.Prelude.{slice_set, Any}
use Rattle.sgt_names.specs.declared.entry.Entry.{Entry}
use Rattle.sgt_names.proofs.Lists.{Any_at, Any-from_at}
use Rattle.sgt_arena.specs.declared.handle.Handle.{Handle}
use Rattle.sgt_bundle.specs.declared.certificate.Step.{Step}
use Rattle.sgt_site.specs.State.{commit_block, refuse_block}
use Rattle.sgt_edges.specs.declared.edge.Edge.{Edge}
use Rattle.sgt_certifier.specs.Certifier.{State, Commits, Refuses, with_finished}
use Rattle.sgt_certifier.specs.History.{IsNoted, Serves as CertifierServes, tx_under, arcs_of}
use Rattle.sgt_certifier.specs.Judged.{Rules}
use Rattle.sgt_certifier.specs.Kept.{is_committed}
use Rattle.sgt_certifier.specs.declared.call.Call.TheVariants as call
use Rattle.sgt_certifier.specs.declared.call.Decided.{Decided}
use Rattle.sgt_certifier.specs.declared.call.Decided.TheVariants as verdict
use Rattle.sgt_certifier.proofs.Members.{placed_self, placed_old}
use Rattle.sgt_notation.specs.declared.event.Event.TheVariants.{Decide}
use Rattle.sgt_core_model.specs.declared.reply.Reply.{Reply}
use Rattle.sgt_core_model.specs.declared.reply.CoreFault.TheVariants as fault
use Rattle.sgt_core_machine.specs.declared.machine.Place.{Place}
use Rattle.sgt_core_machine.specs.declared.machine.Part.TheVariants.{Due}
use Rattle.sgt_core_machine.specs.declared.machine.Open.{Open}
use Rattle.sgt_core_machine.specs.declared.machine.Phase.{Phase}
use Rattle.sgt_core_machine.specs.declared.machine.Phase.TheVariants.{Gathering, Committed, Refused}
use Rattle.sgt_core_model.specs.Core.{CoreState, touches, committed_block, refused_block}
use Rattle.sgt_core_model.specs.Step.{IsOtherOpen, gathered_in, IsAllowed, MayStep}
use Rattle.sgt_core_machine.specs.Machine.{Parts, AwaitsInstall, AreGathered, IsPhase, IsStep, StandsFor, IsSlotOf}
use Rattle.sgt_core_machine.specs.private.Decided.{edges_by, edges_in, IsRuled, phase_after, reply_after, RulesAt, EndsAt}
use Rattle.sgt_core_model.proofs.Kept.{IsKept}
use Rattle.sgt_core_model.proofs.Edges.{edges_of, edges_are}
use Rattle.sgt_core_machine.proofs.Leading.{none_gathered}
use Rattle.sgt_core_model.proofs.Runs.{decide_idle, block_gathered, is_active}
use Rattle.sgt_core_machine.proofs.Standing.{reached_kept}
use Rattle.sgt_core_machine.proofs.Stepping.{step_own}
use Rattle.sgt_core_machine.proofs.AllEdges.{all_committed, all_refused, commits_all, committed_carries, refuses_all, refused_carries}
use Rattle.sgt_core_machine.proofs.Decisions.{IsDecision, decision_due, decision_ends}
use Rattle.sgt_core_machine.proofs.Noting.{none_of}
use Rattle.sgt_core_model.proofs.Committing.{no_block}

-- a decided step is the certifier's
pub ruled_step : (m : Parts) (c : CoreState) (o : Option Open) → IsStep m c o → IsRuled o
    → (q : Open) × (o ≡ Some q) × (c.certifier.step ≡ Some q.tx)
ruled_step m c None h r = absurd r
ruled_step m c (Some o) h r = (o, refl, by_phase o.phase h.2 r)
  where
    by_phase : (phase : Phase) → IsPhase m c o phase → (phase ≡ Committed) ⊎ (phase ≡ Refused)
        → c.certifier.step ≡ Some o.tx
    by_phase (Gathering edges) h r = elim r [ inl e ↦ cc | inr e ↦ cc ]
    by_phase Committed h r = h.0
    by_phase Refused h r = h.0

pub not_ruled : (m : Parts) (c : CoreState) (o : Option Open) → IsStep m c o → (IsRuled o → ⊥) → c.certifier.step ≡ None
not_ruled m c None h out = h.1
not_ruled m c (Some o) h out = by_phase o.phase h.2 out
  where
    by_phase : (phase : Phase) → IsPhase m c o phase → ((phase ≡ Committed) ⊎ (phase ≡ Refused) → ⊥)
        → c.certifier.step ≡ None
    by_phase (Gathering edges) h out = h.0
    by_phase Committed h out = absurd (out (inl refl))
    by_phase Refused h out = absurd (out (inr refl))

module _ (m : Parts) (c : CoreState) (s : StandsFor m c) (tx slot : ℕ) (number : tx ≡ suc (m.before + slot))
    (allowed : IsAllowed c (Decide tx)) where
  abbrev k : IsKept c
  k = reached_kept c s.reached

  pub undecided : c.certifier.step ≡ None
  undecided = decide_idle c tx k allowed

  pub everywhere : (t : ℕ) → touches c tx t ≡ true → Contains (gathered_in c.step) t
  everywhere t hit = block_gathered c tx k.sound (λ n member out. allowed fault.NotGathered (n, member, out)) t hit

  -- the transaction has no install yet
  unnoted : (site : ℕ) → IsNoted c.certifier tx site → ⊥
  unnoted site n = none_of m.certifier c.certifier tx site s.certifier.noted k.sound.ruled undecided
      (is_active c (Decide tx) tx allowed refl) n

  no_other : IsOtherOpen c tx → ⊥
  no_other other = allowed fault.StepOpen other

  gathered_by : (o : Open) → o.tx ≡ tx → (phase : Phase) → IsPhase m c o phase
      → AreGathered m.certifier c tx (edges_by phase)
  gathered_by o own (Gathering edges) h = subst (λ i. AreGathered m.certifier c i edges) own h.1
  gathered_by o own Committed h = absurd (let f : Some o.tx ≡ None = sym h.0 ∙ undecided in cc)
  gathered_by o own Refused h = absurd (let f : Some o.tx ≡ None = sym h.0 ∙ undecided in cc)

  pub gathered_in_step : (o : Option Open) → IsStep m c o → AreGathered m.certifier c tx (edges_in o)
  gathered_in_step None h =
      none_gathered m.certifier c tx slot (number
      ∙ ap (λ b. suc (b + slot)) (sym s.before ∙ ap (λ (st : State). st.before) s.certifier.same))
      (ap gathered_in h.0)
  gathered_in_step (Some o) h = gathered_by o (step_own m c tx no_other (Some o) h o refl) o.phase h.2

  module _ (new : State) (handle : Handle) (named : tx_under m.certifier handle ≡ tx) (edges : List Edge)
      (gathered : AreGathered m.certifier c tx edges) where
    committed_one : Commits m.certifier tx (arcs_of m.certifier edges) new → (number : ℕ)
        → IsDecision c tx new true
    committed_one d number = record {
      certifier = all_committed c tx d.places;
      due = committed_block c tx;
      carries = committed_carries m.certifier c k s.certifier tx edges gathered everywhere unnoted new d;
      same = refl;
      order = λ i member.
          let there =
          placed_old d.placed.0 m.certifier.order tx i
          (subst (λ o. Contains o i) (ap (λ (st : State). st.order) s.certifier.same) member) in
          subst (λ o. Contains o i) (sym d.placed.2) there;
      phase = λ n e o is mine. (
        ap (λ (st : State). st.step) is ∙ ap Some (sym mine),
        subst (λ (st : State). Contains st.order o.tx) (sym is)
            (subst (Contains d.places) (sym mine)
            (subst (λ ps. Contains ps tx) (sym d.placed.2) (placed_self d.placed.0 m.certifier.order tx))),
      );
      some = λ t hit none. no_block _ _ (sym (ap (λ b. cond b (commit_block tx (c.changes tx t)) []) hit) ∙ none);
      none = λ t miss. ap (λ b. cond b (commit_block tx (c.changes tx t)) []) miss;
      due_by = λ n e touched t due changes hit awaits. (
        ap (λ (f : ℕ → List Entry). f t) due ∙ (ap (λ b. cond b (commit_block tx (c.changes tx t)) []) hit
            ∙ ap (λ ch. commit_block tx (ch tx t)) (sym changes)),
        awaits refl,
      );
      may = (
        allowed,
        record {
          arcs = edges_of c tx;
          certifier = all_committed c tx d.places;
          edges = edges_are c tx k.sound;
          commits = commits_all m.certifier c k s.certifier tx edges gathered everywhere unnoted new d;
          after = refl;
        },
      );
    }

    refused_one : (walk : List Step) → Refuses m.certifier tx (arcs_of m.certifier edges) walk new → (number : ℕ)
        → IsDecision c tx new false
    refused_one walk d number = record {
      certifier = all_refused c tx walk;
      due = refused_block c tx;
      carries = refused_carries m.certifier c k s.certifier tx edges gathered everywhere unnoted walk new d;
      same = refl;
      order = λ i member. member;
      phase = λ n e o is mine. (
        ap (λ (st : State). st.step) is ∙ ap Some (sym mine),
        λ member.
            let there : Contains c.certifier.order tx =
            subst (Contains c.certifier.order) mine (subst (λ (st : State). Contains st.order o.tx) is member) in
            let open_tx = k.sound.ordered.certifier.committed_open tx (is_active c (Decide tx) tx allowed refl) there in
            let f : Some tx ≡ None = sym open_tx ∙ undecided in
            cc,
      );
      some = λ t hit none. no_block _ _ (sym (ap (λ b. cond b (refuse_block tx (c.changes tx t)) []) hit) ∙ none);
      none = λ t miss. ap (λ b. cond b (refuse_block tx (c.changes tx t)) []) miss;
      due_by = λ n e touched t due changes hit awaits.
          ap (λ (f : ℕ → List Entry). f t) due ∙ (ap (λ b. cond b (refuse_block tx (c.changes tx t)) []) hit
          ∙ ap (λ ch. refuse_block tx (ch tx t)) (sym changes));
      may = (
        allowed,
        record {
          arcs = edges_of c tx;
          walk = walk;
          certifier = all_refused c tx walk;
          edges = edges_are c tx k.sound;
          refuses = refuses_all m.certifier c k s.certifier tx edges gathered everywhere unnoted walk new d;
          after = refl;
        },
      );
    }

    by_verdict : (reply : Decided) → CertifierServes m.certifier (call.Decide handle edges reply) new
        → IsDecision c tx new (is_committed reply)
    by_verdict (verdict.Committed number) serves =
        committed_one (subst (λ i. Commits m.certifier i (arcs_of m.certifier edges) new) named serves.1.1) number
    by_verdict (verdict.Refused number walk) serves =
        refused_one walk (subst (λ i. Refuses m.certifier i (arcs_of m.certifier edges) walk new) named serves.1.1)
        number

  pub ruled_one : (new : State) (handle : Handle) → tx_under m.certifier handle ≡ tx → (told : Bool)
      → Rules m.certifier handle (edges_in m.step) told new → IsDecision c tx new told
  ruled_one new handle named told rules =
      subst (IsDecision c tx new) (sym rules.is)
      (by_verdict new handle named (edges_in m.step) (gathered_in_step m.step s.step) rules.reply rules.serves)

module _ (m : Parts) (c : CoreState) (s : StandsFor m c) (tx slot : ℕ) (h : IsSlotOf m tx slot)
    (allowed : IsAllowed c (Decide tx)) (new : State) (told : Bool)
    (r : RulesAt m.certifier new m.table slot (edges_in m.step) told) where
  named : tx_under m.certifier r.running.handle ≡ tx
  named =
      let own = s.running slot (Some r.running) r.runs in
      let index = ap (λ (i : Handle). i.index) own.handle in
      let first = ap (λ (st : State). st.before) s.certifier.same in
      let before = s.before in
      omega (arith, index, first, before, h.0)

  v : IsDecision c tx new told
  v = ruled_one m c s tx slot h.0 allowed new r.running.handle named told r.rules

  pub ruled_open : new.step ≡ Some tx
  ruled_open = sym (ap (λ (st : State). st.step) v.carries.same) ∙ ap (λ (st : State). st.step) v.same

  out : IsOtherOpen c tx → ⊥
  out other = allowed fault.StepOpen other

  pub rules_due : Any (λ (p : Place). p.part ≡ Due) m.places → (after : Parts)
      → after ≡ record m { certifier = new; step = Some (record { tx = tx; phase = phase_after told }) }
      → (answer : Reply) → answer ≡ reply_after told → (e : CoreState) × MayStep c (Decide tx) answer e
      × StandsFor after e
  rules_due some after is answer same =
      let p = Any_at (λ (p : Place). p.part ≡ Due) m.places some in
      let goes =
      decision_due m c s tx slot h out (undecided m c s tx slot h.0 allowed)
      (everywhere m c s tx slot h.0 allowed) new told v r.running r.runs
      (λ e t. subst (λ i. AwaitsInstall new i t) named (r.awaits e t)) p.0 p.1 p.2 p.3 in (
        goes.0,
        subst (λ q. MayStep c (Decide tx) q goes.0) (sym same) goes.1,
        subst (λ w. StandsFor w goes.0) (sym is) goes.2,
      )

  pub rules_end : (Any (λ (p : Place). p.part ≡ Due) m.places → ⊥) → (mid after : Parts)
      → mid ≡ record m { certifier = new; step = None } → EndsAt mid after tx slot
      → (answer : Reply) → answer ≡ reply_after told → (e : CoreState) × MayStep c (Decide tx) answer e
      × StandsFor after e
  rules_end none mid after is ends answer same =
      let finishes : after.certifier ≡ record (with_finished new tx) { installs = [] } = ends.ends.after
      ∙ ap (λ (w : Parts). record (with_finished w.certifier tx) { installs = [] }) is in
      let goes =
      decision_ends m c s tx slot h out (undecided m c s tx slot h.0 allowed)
      (everywhere m c s tx slot h.0 allowed) new told v after.certifier finishes
      (λ t p at due. none (Any-from_at (λ (q : Place). q.part ≡ Due) m.places t p at due)) in
      let all : after ≡ record m { certifier = after.certifier; table = slice_set m.table slot None; step = None } =
      ends.is ∙ ap (λ (w : Parts). record w { certifier = after.certifier; table = slice_set w.table slot None })
      is in (
        goes.0,
        subst (λ q. MayStep c (Decide tx) q goes.0) (sym same) goes.1,
        subst (λ w. StandsFor w goes.0) (sym all) goes.2,
      )
