-- What an active transaction touches, by its draft; and the events of a step, while none is open.
use Rattle.std.proofs.Common.{◌≡◌, ◌<◌, ◌≤◌, ◌+◌, ℕ, suc, Bool, true, false, List, [], ◌∷◌, length, refl, sym, ◌∙◌, arith, ◌⊎◌, inl, inr, Contains, Some, None, subst, ap, take}
use Rattle.std.specs.Prelude.{slice_get, ◌==◌, ◌||◌, IsSome, Any}
use Rattle.std.specs.List.{list_any, filter_map}
use Rattle.std.proofs.lemmas.Bool.{cases_Bool, eq-eqb, eqb-true, true≢false}
use Rattle.std.proofs.lemmas.List.Elements.{Contains-append_left}
use Rattle.std.proofs.lemmas.Option.{same_Some}
use Rattle.sgt_names.specs.Name.{Name}
use Rattle.sgt_names.specs.Entry.{tx_of}
use Rattle.sgt_names.specs.Draft.{IsUsed, at_site, kept_of, kept_in, writing_of, writing_in, Touches}
use Rattle.sgt_names.specs.declared.draft.Touch.{Touch}
use Rattle.sgt_names.specs.declared.entry.Change.{Change}
use Rattle.sgt_names.specs.declared.entry.Entry.{Entry}
use Rattle.sgt_names.specs.declared.entry.Entry.TheVariants as entry
use Rattle.sgt_names.proofs.Lists.{IsSome-value, Any_at, Any-from_at, All_in}
use Rattle.sgt_names.proofs.Places.{Contains_at, Contains-from_at}
use Rattle.sgt_site.specs.State.{version_at}
use Rattle.sgt_site.proofs.Appends.{chosen_at, chosen_from, count_before}
use Rattle.sgt_certifier.proofs.Members.{filter_member, member_filter}
use Rattle.sgt_notation.specs.declared.event.Event.{Event}
use Rattle.sgt_notation.specs.declared.event.Event.TheVariants.{Gather, Decide, Install as Write, Commit, Withdraw}
use Rattle.sgt_core_model.specs.declared.reply.CoreFault.{CoreFault}
use Rattle.sgt_core_model.specs.declared.reply.CoreFault.TheVariants as fault
use Rattle.sgt_core_machine.specs.declared.machine.Running.{Running}
use Rattle.sgt_core_model.specs.Core.{CoreState, touches, is_some_change}
use Rattle.sgt_core_model.specs.Step.{IsOtherOpen, IsGathered, IsDecided, tx_in, Fails, fault_place, IsRefused, IsAllowed}
use Rattle.sgt_core_machine.specs.Machine.{IsRunning}
use Rattle.sgt_core_model.proofs.Kept.{IsKept, IsRead}
use Rattle.sgt_core_model.proofs.LegalSteps.{touches_own}
use Rattle.sgt_core_model.proofs.Runs.{is_site}
use Rattle.sgt_core_machine.proofs.Changing.{later}
use Rattle.sgt_names.proofs.Elements.{or_cases, or_right, contains-cases, contains-none}

-- ---- what is touched

read_form : (e : Entry) → IsRead e → (x : Name) × ((v : ℕ) × (e ≡ entry.Read (tx_of e) x v))
read_form (entry.Read tx x v) r = (x, (v, refl))
read_form (entry.Write tx x v) r = absurd r
read_form (entry.Add tx x v) r = absurd r
read_form (entry.Want tx x v) r = absurd r
read_form (entry.WantAdd tx x v) r = absurd r
read_form (entry.Commit tx) r = absurd r
read_form (entry.Refuse tx) r = absurd r
read_form (entry.Withdraw tx) r = absurd r

any_member : (p : Entry → Bool) (xs : List Entry) → list_any p xs ≡ true → (e : Entry) × Contains xs e × (p e ≡ true)
any_member p [] h = absurd (true≢false (sym h))
any_member p (x ∷ xs) h = elim (cases_Bool (p x)) [
  | inl hit ↦ (x, Rattle.sgt_certifier.proofs.Members.cons_here x xs, hit)
  | inr miss ↦ let r = any_member p xs (subst (λ b. (b || list_any p xs) ≡ true) miss h) in
      (r.0, Rattle.sgt_names.proofs.Elements.contains-later x xs r.0 r.1, r.2)
]

some_member : (cs : List (Name × Change)) → is_some_change cs ≡ true → (d : Name × Change) × Contains cs d
some_member [] h = absurd (true≢false (sym h))
some_member (d ∷ ds) h = (d, Rattle.sgt_certifier.proofs.Members.cons_here d ds)

member_some : (cs : List (Name × Change)) (d : Name × Change) → Contains cs d → is_some_change cs ≡ true
member_some [] d m = absurd (contains-none d m)
member_some (e ∷ es) d m = refl

module _ (c : CoreState) (k : IsKept c) (before place s : ℕ) (r : Running) (h : IsRunning c before place r) where
  abbrev tx : ℕ
  tx = suc (before + place)

  abbrev part : List Touch
  part = at_site s r.draft.touched

  logged_read : (c.certifier.step ≡ Some tx → ⊥) → (e : Entry) → Contains (c.entries s) e → tx_of e ≡ tx → IsRead e
  logged_read undecided e m own =
      elim ((k.sound.legal.sites s
      (inside (length c.items) s
      (λ out. contains-none e (subst (λ es. Contains es e) (k.sound.walked.outside s out) m)))).log.stands e
      (Contains-append_left (c.entries s) (c.due s) e m)) [
        | inl free ↦ free.0
        | inr ruled ↦
            let by = ruled.0.1 in
            let active : Contains c.certifier.active tx = h.active in
            let open_tx =
            k.sound.ruled.ended ruled.0.0 by.0 by.1
            (subst (Contains c.certifier.active) (sym (by.2 ∙ own)) active) in
            absurd (undecided (open_tx ∙ ap Some (by.2 ∙ own)))
      ]
    where
      inside : (n s : ℕ) → (n ≤ s → ⊥) → s < n
      inside n s out = omega (arith, out)

  here_touches : (n : ℕ) (t : Touch) → slice_get part n ≡ Some t → Touches r.draft.touched s
  here_touches n t at =
      let f = filter_member (λ (u : Touch). u.site == s) r.draft.touched t (Contains-from_at part n t at) in
      let where_is = Contains_at r.draft.touched t f.0 in
      Any-from_at (λ (u : Touch). (u.site ≡ s) × IsUsed u) r.draft.touched where_is.0 t where_is.1
      (eqb-true t.site s f.1, All_in IsUsed r.draft.touched t h.used f.0)

  pub touches_draft : (c.certifier.step ≡ Some (suc (before + place)) → ⊥) → touches c (suc (before + place)) s ≡ true
      → Touches r.draft.touched s
  touches_draft undecided hit =
      elim (or_cases (list_any (λ e. tx_of e == tx) (c.entries s)) (is_some_change (c.changes tx s)) hit) [
        | inl logged ↦
            let e = any_member (λ e. tx_of e == tx) (c.entries s) logged in
            let own : tx_of e.0 ≡ tx = eqb-true (tx_of e.0) tx e.2 in
            let form = read_form e.0 (logged_read undecided e.0 e.1 own) in
            let at = Contains_at (c.entries s) e.0 e.1 in
            let is : e.0 ≡ entry.Read tx form.0 form.1.0 = form.1.1 ∙ ap (λ i. entry.Read i form.0 form.1.0) own in
            let kept = (h.reads s form.0 form.1.0 (version_at (take at.0 (c.entries s)) form.0)).1
            (record { place = at.0; at = at.1 ∙ ap Some is; version = refl }) in
            let in_kept = Contains_at (kept_in part) _ kept in
            let from = chosen_at kept_of part in_kept.0 _ in_kept.1 in
            here_touches from.0 from.1 from.2
        | inr changes ↦
            let d = some_member (writing_in part) (subst (λ cs. is_some_change cs ≡ true) (h.changes s) changes) in
            let at = Contains_at (writing_in part) d.0 d.1 in
            let from = chosen_at writing_of part at.0 d.0 at.1 in
            here_touches from.0 from.1 from.2
      ]

  pub draft_touches : Touches r.draft.touched s → touches c (suc (before + place)) s ≡ true
  draft_touches any =
      let a = Any_at (λ (u : Touch). (u.site ≡ s) × IsUsed u) r.draft.touched any in
      let member =
      member_filter (λ (u : Touch). u.site == s) r.draft.touched a.1
      (Contains-from_at r.draft.touched a.0 a.1 a.2) (eq-eqb a.1.site s a.3.0) in
      let at = Contains_at part a.1 member in
      by_use a.1 at.0 at.1 a.3.1
    where
      by_use : (t : Touch) (n : ℕ) → slice_get part n ≡ Some t → IsUsed t → touches c tx s ≡ true
      by_use t n at (inl seen) =
          let v = IsSome-value t.seen seen in
          let kept = Contains-from_at (kept_in part) (count_before kept_of part n) (t.item, v.0.value, v.0.version)
          (chosen_from kept_of part n t (t.item, v.0.value, v.0.version) at
          (ap (λ o. Rattle.std.specs.Prelude.option_and_then
          (λ (q : Rattle.sgt_names.specs.declared.draft.Seen.Seen). Some (t.item, q.value, q.version)) o) v.1)) in
          let logged = (h.reads s t.item v.0.value v.0.version).0 kept in
          touches_own c tx s (entry.Read tx t.item v.0.value)
          (Contains-from_at (c.entries s) logged.place _ logged.at) refl
      by_use t n at (inr change) =
          let v = IsSome-value t.change change in
          let written = Contains-from_at (writing_in part) (count_before writing_of part n) (
            t.item,
            v.0,
          ) (chosen_from writing_of part n t (
            t.item,
            v.0,
          ) at (ap (λ o. Rattle.std.specs.Prelude.option_and_then (λ (q : Change). Some (t.item, q)) o) v.1)) in
          let some : is_some_change (c.changes tx s) ≡ true =
          subst (λ cs. is_some_change cs ≡ true) (sym (h.changes s))
          (member_some (writing_in part) (t.item, v.0) written) in
          ap (λ b. list_any (λ e. tx_of e == tx) (c.entries s) || b) some
          ∙ or_right (list_any (λ e. tx_of e == tx) (c.entries s))

-- ---- the events of a step

module _ (c : CoreState) (tx : ℕ) (begun : tx ≤ c.certifier.begun) (active : Contains c.certifier.active tx) where
  known_tx : (t : ℕ) → Some tx ≡ Some t → c.certifier.begun < t → ⊥
  known_tx t e lt = let is = same_Some tx t e in omega arith

  active_tx : (t : ℕ) → Some tx ≡ Some t → (Contains c.certifier.active t → ⊥) → ⊥
  active_tx t e out = out (subst (Contains c.certifier.active) (same_Some tx t e) active)

  pub step_refused : (event : Event) → tx_in event ≡ Some tx → Fails c event fault.StepOpen
      → IsRefused c event fault.StepOpen
  step_refused event is h = (h, later c tx begun active event is)

  pub gather_beyond : (IsOtherOpen c tx → ⊥) → (s : ℕ) → length c.items ≤ s
      → IsRefused c (Gather tx s) fault.UnknownItem
  gather_beyond no_other s out = (out, first)
    where
      first : (g : CoreFault) → fault_place g < 4 → Fails c (Gather tx s) g → ⊥
      first fault.Unknown lt h = known_tx h.0 h.1 h.2
      first fault.Ended lt h = active_tx h.0 h.1 h.2.1
      first fault.StepOpen lt h = no_other h
      first fault.UnknownItem lt h = absurd (omega arith)
      first fault.AlreadyDone lt h = absurd (omega arith)
      first fault.NotTouched lt h = absurd (omega arith)
      first _ lt h = h

  pub gather_again : (IsOtherOpen c tx → ⊥) → (s : ℕ) → s < length c.items → IsGathered c tx s
      → IsRefused c (Gather tx s) fault.AlreadyDone
  gather_again no_other s inside done = (done, first)
    where
      first : (g : CoreFault) → fault_place g < 6 → Fails c (Gather tx s) g → ⊥
      first fault.Unknown lt h = known_tx h.0 h.1 h.2
      first fault.Ended lt h = active_tx h.0 h.1 h.2.1
      first fault.StepOpen lt h = no_other h
      first fault.UnknownItem lt h = absurd (omega (arith, inside, h))
      first fault.AlreadyDone lt h = absurd (omega arith)
      first fault.NotTouched lt h = absurd (omega arith)
      first _ lt h = h

  pub gather_untouched : (IsOtherOpen c tx → ⊥) → (s : ℕ) → s < length c.items → (IsGathered c tx s → ⊥)
      → touches c tx s ≡ false
      → IsRefused c (Gather tx s) fault.NotTouched
  gather_untouched no_other s inside fresh out = (out, first)
    where
      first : (g : CoreFault) → fault_place g < 12 → Fails c (Gather tx s) g → ⊥
      first fault.Unknown lt h = known_tx h.0 h.1 h.2
      first fault.Ended lt h = active_tx h.0 h.1 h.2.1
      first fault.StepOpen lt h = no_other h
      first fault.UnknownItem lt h = absurd (omega (arith, inside, h))
      first fault.AlreadyDone lt h = fresh h
      first fault.NotTouched lt h = absurd (omega arith)
      first _ lt h = h

  pub gather_allowed : (IsOtherOpen c tx → ⊥) → (s : ℕ) → s < length c.items → (IsGathered c tx s → ⊥)
      → touches c tx s ≡ true → IsAllowed c (Gather tx s)
  gather_allowed no_other s inside fresh hit fault.Unknown h = known_tx h.0 h.1 h.2
  gather_allowed no_other s inside fresh hit fault.Ended h = active_tx h.0 h.1 h.2.1
  gather_allowed no_other s inside fresh hit fault.StepOpen h = no_other h
  gather_allowed no_other s inside fresh hit fault.UnknownItem h = absurd (omega (arith, inside, h))
  gather_allowed no_other s inside fresh hit fault.AlreadyDone h = fresh h
  gather_allowed no_other s inside fresh hit fault.NotTouched h = true≢false (sym hit ∙ h)
  gather_allowed no_other s inside fresh hit _ h = h

  pub decide_untimely : (IsOtherOpen c tx → ⊥) → (s : ℕ) → s < length c.items → touches c tx s ≡ true
      → (IsGathered c tx s → ⊥)
      → IsRefused c (Decide tx) fault.NotGathered
  decide_untimely no_other s inside hit out = (
    (s, member_filter (touches c tx) _ s (is_site c s inside) hit, out),
    first,
  )
    where
      first : (g : CoreFault) → fault_place g < 5 → Fails c (Decide tx) g → ⊥
      first fault.Unknown lt h = known_tx h.0 h.1 h.2
      first fault.Ended lt h = active_tx h.0 h.1 h.2.1
      first fault.StepOpen lt h = no_other h
      first fault.NotGathered lt h = absurd (omega arith)
      first fault.AlreadyDone lt h = absurd (omega arith)
      first _ lt h = h

  pub decide_done : (IsOtherOpen c tx → ⊥) → ((s : ℕ) → touches c tx s ≡ true → IsGathered c tx s) → IsDecided c tx
      → IsRefused c (Decide tx) fault.AlreadyDone
  decide_done no_other all done = (done, first)
    where
      first : (g : CoreFault) → fault_place g < 6 → Fails c (Decide tx) g → ⊥
      first fault.Unknown lt h = known_tx h.0 h.1 h.2
      first fault.Ended lt h = active_tx h.0 h.1 h.2.1
      first fault.StepOpen lt h = no_other h
      first fault.NotGathered lt h = h.2 (all h.0 (filter_member (touches c tx) _ h.0 h.1).1)
      first fault.AlreadyDone lt h = absurd (omega arith)
      first _ lt h = h

  pub decide_allowed : (IsOtherOpen c tx → ⊥) → ((s : ℕ) → touches c tx s ≡ true → IsGathered c tx s)
      → (IsDecided c tx → ⊥) → IsAllowed c (Decide tx)
  decide_allowed no_other all undecided fault.Unknown h = known_tx h.0 h.1 h.2
  decide_allowed no_other all undecided fault.Ended h = active_tx h.0 h.1 h.2.1
  decide_allowed no_other all undecided fault.StepOpen h = no_other h
  decide_allowed no_other all undecided fault.NotGathered h =
      h.2 (all h.0 (filter_member (touches c tx) _ h.0 h.1).1)
  decide_allowed no_other all undecided fault.AlreadyDone h = undecided h
  decide_allowed no_other all undecided _ h = h

  pub install_beyond : (IsOtherOpen c tx → ⊥) → (s : ℕ) → length c.items ≤ s
      → IsRefused c (Write tx s) fault.UnknownItem
  install_beyond no_other s out = (out, first)
    where
      first : (g : CoreFault) → fault_place g < 4 → Fails c (Write tx s) g → ⊥
      first fault.Unknown lt h = known_tx h.0 h.1 h.2
      first fault.Ended lt h = active_tx h.0 h.1 h.2.1
      first fault.StepOpen lt h = no_other h
      first fault.UnknownItem lt h = absurd (omega arith)
      first fault.NotGathered lt h = absurd (omega arith)
      first fault.AlreadyDone lt h = absurd (omega arith)
      first fault.NotTouched lt h = absurd (omega arith)
      first _ lt h = h

  pub install_undecided : (IsOtherOpen c tx → ⊥) → (s : ℕ) → s < length c.items → (IsDecided c tx → ⊥)
      → IsRefused c (Write tx s) fault.NotGathered
  install_undecided no_other s inside undecided = (undecided, first)
    where
      first : (g : CoreFault) → fault_place g < 5 → Fails c (Write tx s) g → ⊥
      first fault.Unknown lt h = known_tx h.0 h.1 h.2
      first fault.Ended lt h = active_tx h.0 h.1 h.2.1
      first fault.StepOpen lt h = no_other h
      first fault.UnknownItem lt h = absurd (omega (arith, inside, h))
      first fault.NotGathered lt h = absurd (omega arith)
      first fault.AlreadyDone lt h = absurd (omega arith)
      first fault.NotTouched lt h = absurd (omega arith)
      first _ lt h = h

  pub commit_allowed : c.step ≡ None → IsAllowed c (Commit tx)
  commit_allowed closed fault.Unknown h = known_tx h.0 h.1 h.2
  commit_allowed closed fault.Ended h = active_tx h.0 h.1 h.2.1
  commit_allowed closed fault.StepOpen h = h closed
  commit_allowed closed _ h = h

  pub withdraw_allowed : c.step ≡ None → IsAllowed c (Withdraw tx)
  withdraw_allowed closed fault.Unknown h = known_tx h.0 h.1 h.2
  withdraw_allowed closed fault.Ended h = active_tx h.0 h.1 h.2.1
  withdraw_allowed closed fault.StepOpen h = h closed
  withdraw_allowed closed _ h = h
