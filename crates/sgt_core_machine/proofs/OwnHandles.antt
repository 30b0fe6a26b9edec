-- No two transactions that are committed at a site have the same handle. So no edge is handed twice.
use Rattle.std.proofs.Common.{◌≡◌, ◌+◌, ℕ, suc, List, [], ◌∷◌, ◌++◌, sym, ◌∙◌, arith, ◌⊎◌, inl, inr, Contains, Option, Some, None, subst, ap}
use Rattle.std.specs.Prelude.{◌==◌, if◌then◌else◌}
use Rattle.std.proofs.lemmas.Bool.{cases_Bool, cases_eq, eqb-true}
use Rattle.std.proofs.lemmas.Option.{same_Some}
use Rattle.sgt_arena.specs.declared.handle.Handle.{Handle}
use Rattle.sgt_site.specs.declared.cell.Install.{Install}
use Rattle.sgt_site.specs.State.{SiteState, handle_of}
use Rattle.sgt_edges.specs.Edges.{HaveOwnHandles}
use Rattle.sgt_certifier.specs.Certifier.{State}
use Rattle.sgt_core_model.specs.declared.reply.CoreFault.TheVariants as fault
use Rattle.sgt_core_model.specs.Core.{CoreState, OpenStep}
use Rattle.sgt_core_model.specs.Step.{StepIs, IsAllowed, IsOtherOpen, gathered_in}
use Rattle.sgt_notation.specs.declared.event.Event.TheVariants.{Gather}
use Rattle.sgt_step.specs.declared.one_site.Ending.{Ending}
use Rattle.sgt_step.specs.declared.one_site.Ending.TheVariants.{Committed, Refused, Withdrawn}
use Rattle.sgt_step.specs.OneSite.{installed_by}
use Rattle.sgt_core_machine.specs.Machine.{IsHandleOf}
use Rattle.sgt_core_machine.proofs.Leading.{handle_member}
use Rattle.sgt_names.proofs.Elements.{contains-none}

-- of a list of installs
abbrev Own : List Install → Type 0
Own is = (a b : ℕ) (h : Handle) → handle_of is a ≡ Some h → handle_of is b ≡ Some h → a ≡ b

pub own_none : (a b : ℕ) (h : Handle) → handle_of [] a ≡ Some h → handle_of [] b ≡ Some h → a ≡ b
own_none a b h one two = cc

pub own_stays : (s u : SiteState) → u.installed ≡ s.installed → HaveOwnHandles s → HaveOwnHandles u
own_stays s u same own = subst Own (sym same) own

-- a handle was given before, or is the last one
found : (is : List Install) (i : Install) (a : ℕ) (h : Handle) → handle_of (is ++ i ∷ []) a ≡ Some h
    → (handle_of is a ≡ Some h) ⊎ ((i.tx ≡ a) × (i.handle ≡ h))
found [] i a h e = elim (cases_Bool (i.tx == a)) [
  | inl hit ↦ inr (
    eqb-true i.tx a hit,
    same_Some i.handle h (sym (ap (λ b. if b then Some i.handle else None) hit)
        ∙ e),
  )
  | inr miss ↦ absurd (let none : None ≡ Some h = sym (ap (λ b. if b then Some i.handle else None) miss) ∙ e in cc)
]
found (j ∷ is) i a h e = elim (cases_Bool (j.tx == a)) [
  | inl hit ↦
      let here = sym (ap (λ b. if b then Some j.handle else handle_of (is ++ i ∷ []) a) hit) ∙ e in
      inl (ap (λ b. if b then Some j.handle else handle_of is a) hit ∙ here)
  | inr miss ↦
      elim (found is i a h (sym (ap (λ b. if b then Some j.handle else handle_of (is ++ i ∷ []) a) miss) ∙ e)) [
        | inl before ↦ inl (ap (λ b. if b then Some j.handle else handle_of is a) miss ∙ before)
        | inr last ↦ inr last
      ]
]

-- the transaction that ends has a handle of its own
module _ (s : State) (tx slot : ℕ) (handle : Handle) (is : List Install) (number : tx ≡ suc (s.before + slot))
    (own : handle ≡ record { index = slot; generation = s.generation })
    (handles : (i : Install) → Contains is i → IsHandleOf s i) (apart : Own is) where
  same_tx : (a : ℕ) (h : Handle) → handle_of is a ≡ Some h → handle ≡ h → tx ≡ a
  same_tx a h at new =
      let index : h.index ≡ slot = ap (λ (g : Handle). g.index) (sym new ∙ own) in
      let generation : h.generation ≡ s.generation = ap (λ (g : Handle). g.generation) (sym new ∙ own) in
      elim (handles (record { tx = a; handle = h }) (handle_member is a h at)) [
        | inl here ↦ omega (arith, here.1, index, number)
        | inr older ↦ absurd (omega (arith, older.0, generation))
      ]

  own_more : Own (is ++ record { tx = tx; handle = handle } ∷ [])
  own_more a b h one two =
      elim (found is (record { tx = tx; handle = handle }) a h one) [
        | inl a_old ↦ elim (found is (record { tx = tx; handle = handle }) b h two) [
          | inl b_old ↦ apart a b h a_old b_old
          | inr b_new ↦ sym (same_tx a h a_old b_new.1) ∙ b_new.0
        ]
        | inr a_new ↦ elim (found is (record { tx = tx; handle = handle }) b h two) [
          | inl b_old ↦ sym a_new.0 ∙ same_tx b h b_old a_new.1
          | inr b_new ↦ sym a_new.0 ∙ b_new.0
        ]
      ]

  pub own_by : (verdict : Ending) (a b : ℕ) (h : Handle)
      → handle_of (installed_by verdict is (record { tx = tx; handle = handle })) a ≡ Some h
      → handle_of (installed_by verdict is (record { tx = tx; handle = handle })) b ≡ Some h → a ≡ b
  own_by Committed a b h one two = own_more a b h one two
  own_by Refused a b h one two = apart a b h one two
  own_by Withdrawn a b h one two = apart a b h one two

-- a site where the transaction may be gathered is none where it was
pub not_yet : (c : CoreState) (tx t : ℕ) → IsAllowed c (Gather tx t) → (IsOtherOpen c tx → ⊥)
    → Contains (gathered_in c.step) t → ⊥
not_yet c tx t allowed no_other member = by_step c.step member no_other (λ own. allowed fault.AlreadyDone (own, member))
  where
    by_step : (step : Option OpenStep) → Contains (gathered_in step) t → (StepIs (λ i. i ≡ tx → ⊥) step → ⊥)
        → (StepIs (λ i. i ≡ tx) step → ⊥) → ⊥
    by_step None gathered other own = contains-none t gathered
    by_step (Some o) gathered other own = elim (cases_eq o.tx tx) [ inl mine ↦ own mine | inr another ↦ other another ]
