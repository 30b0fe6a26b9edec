-- A transaction is withdrawn, while no step is open.
use Rattle.std.proofs.Common.{◌≡◌, ◌<◌, ◌≤◌, ◌+◌, ◌++◌, ℕ, suc, true, List, [], ◌∷◌, length, map, refl, sym, ◌∙◌, arith, inl, inr, Contains, Option, Some, None, subst, ap, ap₂}
use Rattle.std.specs.Prelude.{◌==◌, not, slice_get, slice_set}
use Rattle.std.proofs.lemmas.Bool.{cases_Bool, cases_eq, eq-eqb, ne_eqb, true≢false}
use Rattle.std.proofs.lemmas.List.{append-nil, length-set}
use Rattle.std.proofs.lemmas.Option.{same_Some, slice_get_within}
use Rattle.sgt_names.specs.Name.{Name}
use Rattle.sgt_names.specs.Draft.{Touches, at_site, kept_in}
use Rattle.sgt_names.specs.declared.entry.Entry.{Entry}
use Rattle.sgt_names.specs.declared.entry.Entry.TheVariants as entry
use Rattle.sgt_names.proofs.Lists.{within_at}
use Rattle.sgt_names.proofs.Places.{Contains-from_at}
use Rattle.sgt_arena.specs.declared.handle.Handle.{Handle}
use Rattle.sgt_site.specs.State.{SiteState, Pledge, IsPledged, KeepsReads, withdraw_block}
use Rattle.sgt_site.proofs.Appends.{LogsRead-append, LogsRead-cases}
use Rattle.sgt_certifier.specs.Certifier.{State, without, with_withdrawn}
use Rattle.sgt_certifier.proofs.Members.{filter_member, member_filter}
use Rattle.sgt_notation.specs.declared.event.Event.TheVariants.{Withdraw}
use Rattle.sgt_core_model.specs.declared.reply.Reply.TheVariants.{Withdrawn, Fault}
use Rattle.sgt_core_model.specs.declared.reply.CoreFault.TheVariants as fault
use Rattle.sgt_core_machine.specs.declared.machine.Place.{Place}
use Rattle.sgt_core_machine.specs.declared.machine.Part.{Part}
use Rattle.sgt_core_machine.specs.declared.machine.Part.TheVariants.{Idle, Due, Written}
use Rattle.sgt_core_machine.specs.declared.machine.Running.{Running}
use Rattle.sgt_core_machine.specs.declared.machine.Open.{Open}
use Rattle.sgt_core_model.specs.Core.{CoreState, with_entries, touches, withdrawn_block}
use Rattle.sgt_core_model.specs.Step.{gathered_in, IsAllowed, MayStep}
use Rattle.sgt_core_machine.specs.Machine.{Parts, Carries, IsRunning, RunsAt, IsPart, IsPlace, IsStep, StandsFor, IsSlotOf}
use Rattle.sgt_core_machine.specs.Gathered.{IsReleased, AreReleased}
use Rattle.sgt_core_machine.specs.private.Withdrawing.{IsOffered, AreOffered, IsPledgedBy, IsWithdrawn, WithdrawsAt}
use Rattle.sgt_core_machine.proofs.Standing.{reached_more, reached_kept, core_closed, certifier_closed}
use Rattle.sgt_core_machine.proofs.Redrafting.{slot_begun, slot_active}
use Rattle.sgt_core_machine.proofs.Stepping.{left_of}
use Rattle.sgt_core_machine.proofs.Touching.{touches_draft, draft_touches, withdraw_allowed}
use Rattle.sgt_core_machine.proofs.Opening.{same_lists}
use Rattle.sgt_core_machine.proofs.Noting.{same_noted}
use Rattle.sgt_certifier.proofs.Ruling.{without_out}
use Rattle.sgt_names.proofs.Elements.{get-slice_set_same, get-slice_set_other, contains-cases, contains-none}

-- ---- lists and logs

same_maps : {A B : Type 0} (f : A → B) (xs ys : List A) → length xs ≡ length ys
    → ((k : ℕ) (x y : A) → slice_get ys k ≡ Some y → slice_get xs k ≡ Some x → f x ≡ f y) → map f xs ≡ map f ys
same_maps f [] [] long h = refl
same_maps f [] (y ∷ ys) long h = absurd (omega (arith, long))
same_maps f (x ∷ xs) [] long h = absurd (omega (arith, long))
same_maps f (x ∷ xs) (y ∷ ys) long h = ap (λ z. z ∷ map f xs) (h 0 x y refl refl)
    ∙ ap (λ zs. f y ∷ zs) (same_maps f xs ys (omega (arith, long)) (λ k. h (suc k)))

-- one more place of the list is done
module _ (R : Place → Place → Type 0) (old now : List Place) (at : ℕ) (p q : Place) (there : slice_get now at ≡ Some p)
    (done : (k : ℕ) (v w : Place) → k < at → slice_get old k ≡ Some v → slice_get now k ≡ Some w
    → R v w) (rest : (k : ℕ) → at ≤ k → slice_get now k ≡ slice_get old k) (one : R p q) where
  pub done_more : (k : ℕ) (v w : Place) → k < at + 1 → slice_get old k ≡ Some v
      → slice_get (slice_set now at q) k ≡ Some w → R v w
  done_more k v w lt at_v at_w = elim (cases_eq k at) [
    | inl is ↦
        let here : slice_get (slice_set now at q) at ≡ Some q =
        get-slice_set_same now at q (slice_get_within now at p there) in
        let same_w : q ≡ w = same_Some q w (sym here ∙ (ap (slice_get (slice_set now at q)) (sym is) ∙ at_w)) in
        let same_v : p ≡ v =
        same_Some p v (sym there ∙ (rest at (omega arith) ∙ (ap (slice_get old) (sym is) ∙ at_v))) in
        subst (λ (x : Place). R x w) same_v (subst (R p) same_w one)
    | inr ne ↦ done k v w (omega (arith, lt, ne)) at_v (sym (get-slice_set_other now at k q ne) ∙ at_w)
  ]

  pub rest_more : (k : ℕ) → at + 1 ≤ k → slice_get (slice_set now at q) k ≡ slice_get old k
  rest_more k le = let ne : k ≡ at → ⊥ = λ e. omega (arith, e, le) in get-slice_set_other now at k q ne
      ∙ rest k (omega (arith, le))

-- a withdrawal is no read
reads_stay : (es more : List Entry) (tx i : ℕ) (kept : List (Name × ℕ × ℕ))
    → ((f : Entry) → Contains more f → f ≡ entry.Withdraw tx) → KeepsReads es i kept → KeepsReads (es ++ more) i kept
reads_stay es more tx i kept only k y w n = (
  λ member. LogsRead-append es more i y w n ((k y w n).0 member),
  λ logged. (k y w n).1 (LogsRead-cases es more i y w n logged (λ old. old) (λ j at is. absurd (
      let same : entry.Read i y w ≡ entry.Withdraw tx = only (entry.Read i y w) (Contains-from_at more j _ at) in cc))),
)

only_withdrawal : (c : CoreState) (tx t : ℕ) (f : Entry) → Contains (withdrawn_block c tx t) f → f ≡ entry.Withdraw tx
only_withdrawal c tx t f member = elim (cases_Bool (touches c tx t)) [
  | inl hit ↦
      let m : Contains (entry.Withdraw tx ∷ []) f = rw hit at member in
      elim (contains-cases (entry.Withdraw tx) [] f m) [ inl is ↦ sym is | inr none ↦ absurd (contains-none f none) ]
  | inr miss ↦ let m : Contains [] f = rw miss at member in absurd (contains-none f m)
]

still_active : (tx t : ℕ) (xs : List ℕ) → (t ≡ tx → ⊥) → Contains xs t → Contains (without tx xs) t
still_active tx t xs ne m = member_filter (λ i. not (i == tx)) xs t m (ap not (ne_eqb t tx ne))

was_active : (tx t : ℕ) (xs : List ℕ) → Contains (without tx xs) t → Contains xs t
was_active tx t xs m = (filter_member (λ i. not (i == tx)) xs t m).0

-- a pledge stands, or none
pledge_none : (s : SiteState) (tx : ℕ) → s.pledge ≡ None → IsPledged s tx → ⊥
pledge_none s tx none h = let f : ◌≡◌ {A = Option Pledge} (Some (record { tx = tx; part = h.0 })) None = sym h.1
    ∙ none in absurd cc

module _ (m : Parts) (c : CoreState) (s : StandsFor m c) (none : m.step ≡ None) where
  closed : c.step ≡ None
  closed = core_closed m c s none

  undecided : c.certifier.step ≡ None
  undecided = certifier_closed m c s none

  not_gathered : (t : ℕ) → Contains (gathered_in c.step) t → ⊥
  not_gathered t n = contains-none t (subst (λ o. Contains (gathered_in o) t) closed n)

  -- no site has a part of a step
  idle_there : (t : ℕ) (p : Place) (part : Part) → IsPart m c t p part → (part ≡ Idle) × (p.site.pledge ≡ None)
      × (c.due t ≡ [])
  idle_there t p Idle h = (refl, h.0, h.1)
  idle_there t p Due h = absurd (let e : Some h.0 ≡ None = sym h.1.open_step ∙ none in cc)
  idle_there t p Written h = absurd (not_gathered t h.gathered)

  -- ---- the pledges are given back

  module _ (tx : ℕ) (mid places : List Place) (offered : AreOffered tx m.places mid)
      (released : AreReleased tx mid places) where
    given_back : (t : ℕ) (p q r : Place) → slice_get m.places t ≡ Some p → IsOffered tx p q → IsReleased tx q r → r ≡ p
    given_back t p q r at offer released =
        let release = left_of tx q r released in
        let idle = idle_there t p p.part (s.places t p at).part in
        let gone : r.site.pledge ≡ None = elim release.pledge [
          | inl out ↦ out
          | inr kept ↦ elim offer.pledge [
            | inl was ↦ kept.0 ∙ (was ∙ idle.1)
            | inr pledged ↦ absurd (kept.1 pledged)
          ]
        ] in
        let site : r.site ≡ p.site = release.site
        ∙ (ap (λ (w : Place). record w.site { pledge = r.site.pledge }) offer.same
        ∙ ap (λ (g : Option Pledge). record p.site { pledge = g }) (gone ∙ sym idle.1)) in
        ap₂ (λ (st : SiteState) (part : Part). record { site = st; part = part }) site (release.part ∙ sym idle.0)

    all_given_back : places ≡ m.places
    all_given_back =
        let first = offered.long in
        let second = released.long in
        same_lists places m.places (omega (arith, first, second)) (λ t p at.
        let lt = slice_get_within m.places t p at in
        let q = within_at mid t (omega (arith, lt, first)) in
        let r = within_at places t (omega (arith, lt, first, second)) in
        r.1 ∙ ap Some (given_back t p q.0 r.0 at (offered.each t p q.0 at q.1) (released.each t q.0 r.0 q.1 r.1)))

  module _ (tx slot : ℕ) (h : IsSlotOf m tx slot) where
    may_withdraw : IsAllowed c (Withdraw tx)
    may_withdraw = withdraw_allowed c tx (slot_begun m c tx slot s h) (slot_active m c tx slot s h) closed

    pub withdraw_gives_back : (mid places : List Place) → AreOffered tx m.places mid → AreReleased tx mid places
        → (d : CoreState) × MayStep c (Withdraw tx) (Fault fault.Memory) d × StandsFor (record m { places = places }) d
    withdraw_gives_back mid places offered released = (
      c,
      (may_withdraw, refl),
      subst (λ (ps : List Place). StandsFor (record m { places = ps }) c)
          (sym (all_given_back tx mid places offered released)) s,
    )

    -- ---- it is withdrawn

    module _ (new : Parts) (w : WithdrawsAt m new tx slot) where
      abbrev r : Running
      r = w.offers.running

      abbrev d : CoreState
      d = record (with_entries c (withdrawn_block c tx)) { certifier = with_withdrawn c.certifier tx }

      abbrev n : Parts
      n = record m { places = new.places; certifier = new.certifier; table = slice_set m.table slot None }

      own : IsRunning c m.before slot r
      own = s.running slot (Some r) w.offers.there

      touched_there : (t : ℕ) → touches c tx t ≡ true → Touches r.draft.touched t
      touched_there t hit =
          touches_draft c (reached_kept c s.reached) m.before slot t r own
          (λ e. let f : Some (suc (m.before + slot)) ≡ None = sym e ∙ undecided in
          absurd cc) (subst (λ i. touches c i t ≡ true) h.0 hit)

      there_touched : (t : ℕ) → Touches r.draft.touched t → touches c tx t ≡ true
      there_touched t any =
          subst (λ i. touches c i t ≡ true) (sym h.0)
          (draft_touches c (reached_kept c s.reached) m.before slot t r own any)

      abbrev with_block : ℕ → Place → Place
      with_block t p =
          record p { site = record p.site { entries = p.site.entries ++ withdrawn_block c tx t; pledge = None } }

      block_there : (t : ℕ) (p x q : Place) → slice_get m.places t ≡ Some p → IsPledgedBy tx r.draft.touched p x
          → IsWithdrawn tx x q → q ≡ with_block t p
      block_there t p x q at pledged written =
          let place = s.places t p at in
          let idle = idle_there t p p.part place.part in
          elim (cases_Bool (touches c tx t)) [
            | inl hit ↦
                let stands = pledged.hit (subst (Touches r.draft.touched) (sym place.number) (touched_there t hit)) in
                let block : withdrawn_block c tx t ≡ withdraw_block tx = rw hit refl in
                written.pledged stands
                ∙ (ap (λ (v : Place). record v {
                  site =
                      record v.site { entries = v.site.entries ++ withdraw_block tx; pledge = None };
                })
                pledged.offered.same
                ∙ ap (λ (es : List Entry). record p {
                  site = record p.site {
                    entries = p.site.entries ++ es;
                    pledge =
                        None;
                  };
                }) (sym block))
            | inr miss ↦
                let out : Touches r.draft.touched p.site.number
                → ⊥ = λ any. true≢false (sym (there_touched t (subst (Touches r.draft.touched) place.number any))
                ∙ miss) in
                let gone : x.site.pledge ≡ None = pledged.miss out ∙ idle.1 in
                let block : withdrawn_block c tx t ≡ [] = rw miss refl in
                written.other (pledge_none x.site tx gone)
                ∙ (pledged.offered.same
                ∙ (ap (λ (g : Option Pledge). record p { site = record p.site { pledge = g } }) gone
                ∙ ap (λ (es : List Entry). record p { site = record p.site { entries = es; pledge = None } })
                (sym (append-nil p.site.entries) ∙ ap (λ es. p.site.entries ++ es) (sym block))))
          ]

      long_new : length new.places ≡ length m.places
      long_new = let a = w.offers.pledges.long in let b = w.places.long in omega (arith, a, b)

      each_new : (t : ℕ) (p q : Place) → slice_get m.places t ≡ Some p → slice_get new.places t ≡ Some q
          → q ≡ with_block t p
      each_new t p q at_p at_q =
          let first = w.offers.pledges.long in
          let lt = slice_get_within m.places t p at_p in
          let x = within_at w.pledged t (omega (arith, lt, first)) in
          block_there t p x.0 q at_p (w.offers.pledges.each t p x.0 at_p x.1) (w.places.each t x.0 q x.1 at_q)

      withdrawn_part : (t : ℕ) (p : Place) (part : Part) → IsPart m c t p part → IsPart n d t (with_block t p) part
      withdrawn_part t p Idle is = (refl, is.1, is.2)
      withdrawn_part t p Due is = absurd (let e : Some is.0 ≡ None = sym is.1.open_step ∙ none in cc)
      withdrawn_part t p Written is = absurd (not_gathered t is.gathered)

      withdrawn_place : (t : ℕ) (q : Place) → slice_get new.places t ≡ Some q → IsPlace n d t q
      withdrawn_place t q at =
          let lt = slice_get_within new.places t q at in
          let long = long_new in
          let p = within_at m.places t (omega (arith, lt, long)) in
          let old = s.places t p.0 p.1 in
          subst (IsPlace n d t) (sym (each_new t p.0 q p.1 at)) (record {
            number = old.number;
            entries = ap (λ es. es ++ withdrawn_block c tx t) old.entries;
            handles = old.handles;
            apart = old.apart;
            part = withdrawn_part t p.0 p.0.part old.part;
          })

      other_slot : (k : ℕ) (o : Option Running) → (k ≡ slot → ⊥) → RunsAt c m.before k o → RunsAt d m.before k o
      other_slot k None ne out = λ active. out (was_active tx (suc (m.before + k)) c.certifier.active active)
      other_slot k (Some q) ne is = record {
        active = still_active tx (suc (m.before + k)) c.certifier.active
            (λ e. ne (let number = h.0 in omega (arith, e, number))) is.active;
        handle = is.handle;
        rising = is.rising;
        used = is.used;
        changes = is.changes;
        reads = λ t. reads_stay (c.entries t) (withdrawn_block c tx t) tx (suc (m.before + k))
            (kept_in (at_site t q.draft.touched)) (only_withdrawal c tx t) (is.reads t);
      }

      withdrawn_slot : (k : ℕ) (o : Option Running) → slice_get (slice_set m.table slot None) k ≡ Some o
          → RunsAt d m.before k o
      withdrawn_slot k o at = elim (cases_eq k slot) [
        | inl is ↦
            let here : slice_get (slice_set m.table slot None) slot ≡ Some None =
            get-slice_set_same m.table slot None (slice_get_within m.table slot (Some r) w.offers.there) in
            let same : None ≡ o =
            same_Some None o (sym here ∙ (ap (slice_get (slice_set m.table slot None)) (sym is) ∙ at)) in
            subst (λ (v : Option Running). RunsAt d m.before k v) same (λ active. without_out tx c.certifier.active
            (subst (Contains (without tx c.certifier.active)) (sym (h.0 ∙ ap (λ j. suc (m.before + j)) (sym is)))
            active))
        | inr ne ↦ other_slot k o ne (s.running k o (sym (get-slice_set_other m.table slot k None ne) ∙ at))
      ]

      withdrawn_certifier : Carries new.certifier (with_withdrawn c.certifier tx)
      withdrawn_certifier =
          let same = s.certifier.same in
          let number : suc (m.certifier.before + r.handle.index) ≡ tx =
          ap₂ (λ (a b : ℕ). suc (a + b)) (sym (ap (λ (st : State). st.before) same)
          ∙ s.before) (ap (λ (g : Handle). g.index) own.handle) ∙ sym h.0 in
          let is : new.certifier ≡ with_withdrawn m.certifier tx =
          (w.serves.1.1
          ∙ ap (λ (g : Handle). with_withdrawn m.certifier (suc (m.certifier.before + g.index)))
          w.offers.handle_is) ∙ ap (with_withdrawn m.certifier) number in
          subst (λ (st : State). Carries st (with_withdrawn c.certifier tx)) (sym is)
          (record {
            same = ap (λ (st : State). with_withdrawn st tx) same;
            noted =
                same_noted m.certifier c.certifier (with_withdrawn m.certifier tx) (with_withdrawn c.certifier tx)
                s.certifier.noted refl refl refl (λ j m. m);
            fewer = s.certifier.fewer;
            lead = s.certifier.lead;
          })

      pub withdraw_goes : (e : CoreState) × MayStep c (Withdraw tx) Withdrawn e × StandsFor new e
      withdraw_goes =
          let may : MayStep c (Withdraw tx) Withdrawn d = (may_withdraw, refl) in
          let stands : StandsFor n d = record {
            reached = reached_more c (Withdraw tx) Withdrawn d s.reached may;
            sites = s.sites;
            items = s.items
                ∙ sym (same_maps (λ (p : Place). p.site.items) new.places m.places long_new
                (λ t q p at_p at_q. ap (λ (v : Place). v.site.items) (each_new t p q at_p at_q)));
            certifier = withdrawn_certifier;
            before = s.before;
            begun = s.begun;
            window = s.window ∙ ap (λ k. m.before + k) (sym (length-set m.table slot None));
            unborn = s.unborn;
            running = withdrawn_slot;
            places = withdrawn_place;
            step = subst (λ (o : Option Open). IsStep n d o) (sym none) (closed, undecided);
          } in
          (d, may, subst (λ (v : Parts). StandsFor v d) (sym w.is) stands)
