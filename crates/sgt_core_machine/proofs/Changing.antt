-- An active transaction is to change an item.
use Rattle.std.proofs.Common.{◌≡◌, ◌<◌, ◌≤◌, ◌+◌, ℕ, suc, List, ◌++◌, refl, sym, ◌∙◌, arith, ◌⊎◌, inl, inr, Contains, Option, Some, subst, ap}
use Rattle.std.proofs.lemmas.Bool.{cases_eq, eq-eqb, ne_eqb}
use Rattle.std.proofs.lemmas.Option.{same_Some}
use Rattle.sgt_names.specs.Name.{Name}
use Rattle.sgt_names.specs.Draft.{at_site, kept_in, writing_in, change_at}
use Rattle.sgt_names.specs.Log.{Conflicts}
use Rattle.sgt_names.specs.declared.entry.Change.{Change}
use Rattle.sgt_site.specs.State.{KeepsReads}
use Rattle.sgt_certifier.specs.Certifier.{Arc}
use Rattle.sgt_notation.specs.declared.event.Event.{Event}
use Rattle.sgt_notation.specs.declared.event.Event.TheVariants.{Read, Put, Add}
use Rattle.sgt_core_model.specs.declared.reply.CoreFault.{CoreFault}
use Rattle.sgt_core_model.specs.declared.reply.CoreFault.TheVariants as fault
use Rattle.sgt_core_machine.specs.declared.machine.Running.{Running}
use Rattle.sgt_core_model.specs.Core.{CoreState, IsEdgeOf, as_changes, change_in, changed_at, put_in, with_change}
use Rattle.sgt_core_model.specs.Step.{IsOwnOpen, IsOfSite, tx_in, Fails, fault_place, IsAllowed}
use Rattle.sgt_core_machine.specs.Machine.{Parts, IsReached, IsRunning, StandsFor, RefusesItem, Redrafts, ChangesTo}
use Rattle.sgt_core_machine.proofs.Drafting.{change_there, other_sites, put_there, same_reads}
use Rattle.sgt_core_machine.proofs.Redrafting.{redraft_stands}

-- ---- refusals

module _ (c : CoreState) (tx : ℕ) (begun : tx ≤ c.certifier.begun) (active : Contains c.certifier.active tx) where
  known_tx : (t : ℕ) → Some tx ≡ Some t → c.certifier.begun < t → ⊥
  known_tx t e lt = let is = same_Some tx t e in omega arith

  active_tx : (t : ℕ) → Some tx ≡ Some t → (Contains c.certifier.active t → ⊥) → ⊥
  active_tx t e out = out (subst (Contains c.certifier.active) (same_Some tx t e) active)

  -- the fault is neither of the first two
  pub later : (event : Event) → tx_in event ≡ Some tx → (g : CoreFault) → fault_place g < 3 → Fails c event g → ⊥
  later event is fault.Unknown lt h = known_tx h.0 (sym is ∙ h.1) h.2
  later event is fault.Ended lt h = active_tx h.0 (sym is ∙ h.1) h.2.1
  later event is fault.StepOpen lt h = absurd (omega arith)
  later event is fault.UnknownItem lt h = absurd (omega arith)
  later event is fault.NotGathered lt h = absurd (omega arith)
  later event is fault.AlreadyDone lt h = absurd (omega arith)
  later event is fault.WindowFull lt h = absurd (omega arith)
  later event is fault.ActiveLeft lt h = absurd (omega arith)
  later event is fault.Memory lt h = absurd (omega arith)
  later event is fault.GenerationsSpent lt h = absurd (omega arith)
  later event is fault.NumbersSpent lt h = absurd (omega arith)
  later event is fault.NotTouched lt h = absurd (omega arith)

  -- nor the third
  pub behind_step : (event : Event) → tx_in event ≡ Some tx → (Fails c event fault.StepOpen → ⊥) → (g : CoreFault)
      → fault_place g < 4 → Fails c event g → ⊥
  behind_step event is closed fault.Unknown lt h = known_tx h.0 (sym is ∙ h.1) h.2
  behind_step event is closed fault.Ended lt h = active_tx h.0 (sym is ∙ h.1) h.2.1
  behind_step event is closed fault.StepOpen lt h = closed h
  behind_step event is closed fault.UnknownItem lt h = absurd (omega arith)
  behind_step event is closed fault.NotGathered lt h = absurd (omega arith)
  behind_step event is closed fault.AlreadyDone lt h = absurd (omega arith)
  behind_step event is closed fault.WindowFull lt h = absurd (omega arith)
  behind_step event is closed fault.ActiveLeft lt h = absurd (omega arith)
  behind_step event is closed fault.Memory lt h = absurd (omega arith)
  behind_step event is closed fault.GenerationsSpent lt h = absurd (omega arith)
  behind_step event is closed fault.NumbersSpent lt h = absurd (omega arith)
  behind_step event is closed fault.NotTouched lt h = absurd (omega arith)

  pub own_refuses : (s : ℕ) (x : Name) → IsOwnOpen c tx → RefusesItem c tx s x fault.StepOpen
  own_refuses s x own = (
    (own, later (Read tx s x) refl),
    λ v. (own, later (Put tx s x v) refl),
    λ v. (own, later (Add tx s x v) refl),
  )

  pub item_refuses : (s : ℕ) (x : Name) → (IsOwnOpen c tx → ⊥) → (IsOfSite c s x → ⊥)
      → RefusesItem c tx s x fault.UnknownItem
  item_refuses s x closed out = (
    (out, behind_step (Read tx s x) refl closed),
    λ v. (out, behind_step (Put tx s x v) refl closed),
    λ v. (out, behind_step (Add tx s x v) refl closed),
  )

  pub read_allowed : (s : ℕ) (x : Name) → (IsOwnOpen c tx → ⊥) → IsOfSite c s x → IsAllowed c (Read tx s x)
  read_allowed s x closed known fault.Unknown h = known_tx h.0 h.1 h.2
  read_allowed s x closed known fault.Ended h = active_tx h.0 h.1 h.2.1
  read_allowed s x closed known fault.StepOpen h = closed h
  read_allowed s x closed known fault.UnknownItem h = h known
  read_allowed s x closed known _ h = h

  pub put_allowed : (s : ℕ) (x : Name) (v : ℕ) → (IsOwnOpen c tx → ⊥) → IsOfSite c s x → IsAllowed c (Put tx s x v)
  put_allowed s x v closed known fault.Unknown h = known_tx h.0 h.1 h.2
  put_allowed s x v closed known fault.Ended h = active_tx h.0 h.1 h.2.1
  put_allowed s x v closed known fault.StepOpen h = closed h
  put_allowed s x v closed known fault.UnknownItem h = h known
  put_allowed s x v closed known _ h = h

  pub add_allowed : (s : ℕ) (x : Name) (v : ℕ) → (IsOwnOpen c tx → ⊥) → IsOfSite c s x → IsAllowed c (Add tx s x v)
  add_allowed s x v closed known fault.Unknown h = known_tx h.0 h.1 h.2
  add_allowed s x v closed known fault.Ended h = active_tx h.0 h.1 h.2.1
  add_allowed s x v closed known fault.StepOpen h = closed h
  add_allowed s x v closed known fault.UnknownItem h = h known
  add_allowed s x v closed known _ h = h

-- ---- the change

module _ (tx s : ℕ) (P : List (Name × Change)) (w : ℕ → ℕ → List (Name × Change)) where
  changed_here : changed_at tx (changed_at s P (w tx)) w tx s ≡ P
  changed_here = rw (eq-eqb tx tx refl) (rw (eq-eqb s s refl) refl)

  changed_there : (t : ℕ) → (t ≡ s → ⊥) → changed_at tx (changed_at s P (w tx)) w tx t ≡ w tx t
  changed_there t ne = rw (eq-eqb tx tx refl) (rw (ne_eqb t s ne) refl)

  changed_others : (i t : ℕ) → (i ≡ tx → ⊥) → changed_at tx (changed_at s P (w tx)) w i t ≡ w i t
  changed_others i t ne = rw (ne_eqb i tx ne) refl

-- an edge is one where the log and the changes are the same
pub like_edge : (c d : CoreState) (i : ℕ) (arc : Arc) → d.certifier.order ≡ c.certifier.order
    → (d.entries arc.label.site ≡ c.entries arc.label.site)
    → (d.changes i arc.label.site ≡ c.changes i arc.label.site) → IsEdgeOf c i arc → IsEdgeOf d i arc
like_edge c d i arc order log changes h = record {
  ends = subst (λ o. ((arc.from ≡ i) × Contains o arc.to) ⊎ ((arc.to ≡ i) × Contains o arc.from)) (sym order) h.ends;
  conflict =
      subst (λ es. Conflicts (es ++ as_changes i (d.changes i arc.label.site)) arc.label.kind arc.label.item arc.from
      arc.to) (sym log)
      (subst (λ cs. Conflicts (c.entries arc.label.site ++ as_changes i cs) arc.label.kind arc.label.item arc.from
      arc.to) (sym changes) h.conflict);
}

module _ (m : Parts) (c : CoreState) (stands : StandsFor m c) (tx slot s : ℕ) (x : Name)
    (number : tx ≡ suc (m.before + slot)) (closed : IsOwnOpen c tx → ⊥)
    (ch : Option Change → Change) (table : List (Option Running)) (h : Redrafts m.table table slot (ChangesTo s x ch))
  where
    abbrev change : Change
    change = ch (change_in (c.changes tx s) x)

    abbrev d : CoreState
    d = with_change c tx s x change

    r : IsRunning c m.before slot h.before
    r = stands.running slot (Some h.before) h.was

    own_changes : (t : ℕ) → d.changes tx t ≡ writing_in (at_site t h.after.draft.touched)
    own_changes t =
        let was : (u : ℕ) → c.changes tx u ≡ writing_in (at_site u h.before.draft.touched) =
        λ u. ap (λ i. c.changes i u) number ∙ r.changes u in
        let old = h.before.draft.touched in
        elim (cases_eq t s) [
          | inl is ↦
              let same : change ≡ ch (change_at old (s, x)) =
              ap ch (ap (λ cs. change_in cs x) (was s) ∙ change_there old s x r.rising) in
              let put : writing_in (at_site s h.after.draft.touched) ≡ put_in (x, ch (change_at old (s, x)))
              (writing_in (at_site s old))
              = put_there old h.after.draft.touched _ h.draft r.rising h.rising (ch (change_at old (s, x))) refl in
              let now : d.changes tx s ≡ put_in (x, change) (c.changes tx s) =
              changed_here tx s (put_in (x, change) (c.changes tx s)) c.changes in
              ap (d.changes tx) is
              ∙ (now ∙ (ap (λ k. put_in (x, k) (c.changes tx s)) same
              ∙ (ap (put_in (x, ch (change_at old (s, x)))) (was s)
              ∙ (sym put ∙ ap (λ u. writing_in (at_site u h.after.draft.touched)) (sym is)))))
          | inr ne ↦ changed_there tx s (put_in (x, change) (c.changes tx s)) c.changes t ne
              ∙ (was t ∙ ap writing_in (sym (other_sites old h.after.draft.touched _ h.draft t ne)))
        ]

    same_kept : (t : ℕ) → kept_in (at_site t h.after.draft.touched) ≡ kept_in (at_site t h.before.draft.touched)
    same_kept t = elim (cases_eq t s) [
      | inl is ↦
          ap (λ u. kept_in (at_site u h.after.draft.touched)) is
          ∙ (same_reads h.before.draft.touched h.after.draft.touched _ h.draft r.rising h.rising refl
          ∙ ap (λ u. kept_in (at_site u h.before.draft.touched)) (sym is))
      | inr ne ↦ ap kept_in (other_sites h.before.draft.touched h.after.draft.touched _ h.draft t ne)
    ]

    own_running : IsRunning d m.before slot h.after
    own_running = record {
      active = r.active;
      handle = h.handle ∙ r.handle;
      rising = h.rising;
      used = h.used;
      changes = λ t. ap (λ i. d.changes i t) (sym number) ∙ own_changes t;
      reads = λ t. subst (KeepsReads (c.entries t) (suc (m.before + slot))) (sym (same_kept t)) (r.reads t);
    }

    others : (i t : ℕ) → (i ≡ tx → ⊥) → d.changes i t ≡ c.changes i t
    others i t ne = changed_others tx s (put_in (x, change) (c.changes tx s)) c.changes i t ne

    pub changed_stands : IsReached (with_change c tx s x (ch (change_in (c.changes tx s) x)))
        → StandsFor (record m { table = table }) (with_change c tx s x (ch (change_in (c.changes tx s) x)))
    changed_stands reached =
        let all = redraft_stands m c stands tx slot number h.before h.after h.was h.handle closed c.entries d.changes
        m.places others
        (λ i t kept ne k. k)
        (λ i arc ne. (
          like_edge c d i arc refl refl (others i arc.label.site ne),
          like_edge d c i arc refl refl (sym (others i arc.label.site ne)),
        ))
        (λ t p at. (
          p,
          at,
          record {
            number = refl;
            entries = (stands.places t p at).entries;
            installed = refl;
            pledge =
                refl;
            part = refl;
          },
        ))
        reached refl own_running in
        subst (λ ts. StandsFor (record m { table = ts }) d) (sym h.is) all
