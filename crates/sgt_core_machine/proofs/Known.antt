-- What a transaction finds of an item in its draft, it has read or is to change: so the item is one of the site's.
use Rattle.std.proofs.Common.{◌≡◌, ◌<◌, ◌≤◌, ◌+◌, ◌⊎◌, ℕ, suc, List, [], ◌∷◌, length, refl, sym, ◌∙◌, inl, inr, Contains, Option, Some, None, subst, ap}
use Rattle.std.specs.Prelude.{slice_get, option_map, option_and_then}
use Rattle.std.specs.Str.{bytes_eq}
use Rattle.std.proofs.lemmas.Bool.{cases_Bool, cases_lt}
use Rattle.std.proofs.lemmas.List.Elements.{Contains-append_left}
use Rattle.std.proofs.lemmas.Option.{same_Some}
use Rattle.std.proofs.lemmas.Slice.Eq.{bytes_eq-Decides}
use Rattle.sgt_names.specs.Name.{Name}
use Rattle.sgt_names.specs.Draft.{touched_at, seen_at, change_at, look_of}
use Rattle.sgt_names.specs.Log.{names, value_with_any}
use Rattle.sgt_names.specs.declared.draft.Seen.{Seen}
use Rattle.sgt_names.specs.declared.draft.Touch.{Touch}
use Rattle.sgt_names.specs.declared.entry.Change.{Change}
use Rattle.sgt_names.specs.declared.entry.Entry.{Entry}
use Rattle.sgt_names.specs.declared.entry.Entry.TheVariants as entry
use Rattle.sgt_names.proofs.Elements.{contains-later}
use Rattle.sgt_names.proofs.Lists.{option_cases}
use Rattle.sgt_names.proofs.Places.{Contains-from_at}
use Rattle.sgt_certifier.proofs.Members.{cons_here}
use Rattle.sgt_site.specs.State.{SiteState}
use Rattle.sgt_site.specs.Refused.{IsHere, MayRead, RefusesRead}
use Rattle.sgt_site.specs.declared.fault.SiteFault.{SiteFault}
use Rattle.sgt_site.specs.declared.fault.SiteFault.TheVariants as site_fault
use Rattle.sgt_notation.specs.declared.event.Event.TheVariants.{Read}
use Rattle.sgt_core_model.specs.declared.reply.Reply.TheVariants.{Fault}
use Rattle.sgt_core_model.specs.declared.reply.CoreFault.{CoreFault}
use Rattle.sgt_core_model.specs.declared.reply.CoreFault.TheVariants as core_fault
use Rattle.sgt_core_machine.specs.declared.looking.Found.{Found}
use Rattle.sgt_core_machine.specs.declared.looking.Found.TheVariants.{Value, Nothing, NoValue}
use Rattle.sgt_core_machine.specs.declared.machine.Place.{Place}
use Rattle.sgt_core_machine.specs.declared.machine.Running.{Running}
use Rattle.sgt_core_machine.specs.private.Looked.{IsFoundOf, IsItemAt, IsWhy, IsOfRead, read_fault}
use Rattle.sgt_core_machine.proofs.Finding.{of_place, to_place, of_none}
use Rattle.sgt_core_model.specs.Core.{CoreState, change_in, items_at}
use Rattle.sgt_core_model.specs.Step.{IsOwnOpen, IsOfSite, IsRefused, MayStep}
use Rattle.sgt_core_model.proofs.Kept.{IsKept}
use Rattle.sgt_core_machine.specs.Machine.{Parts, IsRunning, StandsFor, IsSlotOf, HasRoomAt}
use Rattle.sgt_core_machine.proofs.Drafting.{change_there, seen_kept}
use Rattle.sgt_core_machine.proofs.Standing.{reached_kept}
use Rattle.sgt_core_machine.proofs.Changing.{item_refuses}
use Rattle.sgt_core_machine.proofs.Reading.{no_room_goes, unread_goes, room_stands}
use Rattle.sgt_core_machine.proofs.Redrafting.{slot_begun, slot_active}
use Rattle.sgt_core_machine.proofs.Refusing.{refused_goes}

-- a change of the item is one of the listed
in_changes : (cs : List (Name × Change)) (x : Name) (ch : Change) → change_in cs x ≡ Some ch
    → (d : Name × Change) × Contains cs d × (d.0 ≡ x)
in_changes [] x ch e = absurd cc
in_changes (d ∷ cs) x ch e = elim (cases_Bool (bytes_eq d.0 x)) [
  | inl hit ↦ (d, cons_here d cs, (bytes_eq-Decides d.0 x).0 hit)
  | inr miss ↦ let r = in_changes cs x ch (sym (rw miss refl) ∙ e) in (r.0, contains-later d cs r.0 r.1, r.2)
]

module _ (m : Parts) (c : CoreState) (stands : StandsFor m c) (slot s : ℕ) (x : Name) (r : Running)
    (runs : slice_get m.table slot ≡ Some (Some r)) where
  abbrev k : IsKept c
  k = reached_kept c stands.reached

  abbrev running : IsRunning c m.before slot r
  running = stands.running slot (Some r) runs

  read_known : (seen : Seen) → seen_at r.draft.touched (s, x) ≡ Some seen → IsOfSite c s x
  read_known seen is =
      let logged = (running.reads s x seen.value seen.version).0 (seen_kept r.draft.touched s x seen is) in
      let e : Entry = entry.Read (suc (m.before + slot)) x seen.value in
      elim (cases_lt s (length c.items)) [
        | inl lt ↦ (k.sound.legal.sites s lt).log.known e (Contains-append_left (c.entries s) (c.due s) e
            (Contains-from_at (c.entries s) logged.place e logged.at)) x refl
        | inr out ↦ absurd (let none : None ≡ Some e =
            subst (λ (es : List Entry). slice_get es logged.place ≡ Some e) (k.sound.walked.outside s out) logged.at in
            cc)
      ]

  change_known : (ch : Change) → change_at r.draft.touched (s, x) ≡ Some ch → IsOfSite c s x
  change_known ch is =
      let d = in_changes (c.changes (suc (m.before + slot)) s) x ch
      (ap (λ cs. change_in cs x) (running.changes s) ∙ (change_there r.draft.touched s x running.rising ∙ is)) in
      subst (λ y. Contains (names (items_at c s)) y) d.2 (k.sound.legal.changes_known (suc (m.before + slot)) s d.0 d.1)

  pub look_known : (v : ℕ) → Some v ≡ option_and_then look_of (touched_at r.draft.touched (s, x)) → IsOfSite c s x
  look_known v found = by_touch (touched_at r.draft.touched (s, x)) refl found
    where
      by_parts : (t : Touch) → touched_at r.draft.touched (s, x) ≡ Some t → (seen : Option Seen)
          → t.seen ≡ seen → (ch : Option Change) → t.change ≡ ch
          → Some v ≡ value_with_any (option_map (λ (q : Seen). q.value) seen) ch → IsOfSite c s x
      by_parts t at (Some seen) a ch b found =
          read_known seen (ap (option_and_then (λ (u : Touch). u.seen)) at ∙ a)
      by_parts t at None a (Some ch) b found =
          change_known ch (ap (option_and_then (λ (u : Touch). u.change)) at ∙ b)
      by_parts t at None a None b found = absurd cc

      by_touch : (o : Option Touch) → touched_at r.draft.touched (s, x) ≡ o → Some v ≡ option_and_then look_of o
          → IsOfSite c s x
      by_touch None at found = absurd cc
      by_touch (Some t) at found = by_parts t at t.seen refl t.change refl found

-- ---- what is found, and why an item isn't read

pub found_none : (o : Option Touch) (f : Found) → ((v : ℕ) → f ≡ Value v → ⊥) → IsFoundOf o f
    → option_and_then look_of o ≡ None
found_none o (Value v) other is = absurd (other v refl)
found_none o Nothing other is = ap (option_and_then look_of) is
found_none o NoValue other is = is

pub read_refusal : (s : SiteState) (tx : ℕ) (x : Name) (f : SiteFault) → (IsHere s x → MayRead s tx x)
    → RefusesRead s tx x f → IsOfRead f × IsWhy (IsHere s x) (read_fault f)
read_refusal s tx x site_fault.UnknownItem may t = (tt, inr (refl, t))
read_refusal s tx x site_fault.Memory may t = (tt, inl (refl, t.known))
read_refusal s tx x site_fault.ReadTwice may t = absurd ((may t.0).first t.1)
read_refusal s tx x site_fault.Ended may t = absurd ((may t.0.0).active t.1)
read_refusal s tx x site_fault.PledgeOpen may t = absurd ((may t.0.0.0).free t.1)
read_refusal s tx x _ may t = absurd t

pub why_as : (A B : Type 0) (f : CoreFault) → (A → B) → (B → A) → IsWhy A f → IsWhy B f
why_as A B f to from (inl is) = inl (is.0, to is.1)
why_as A B f to from (inr is) = inr (is.0, λ b. is.1 (from b))

pub here_at : (places : List Place) (s : ℕ) (x : Name) (p : Place) → slice_get places s ≡ Some p
    → IsItemAt places s x → IsHere p.site x
here_at places s x p at is =
    subst (λ (q : Place). IsHere q.site x) (same_Some is.0 p (sym is.1 ∙ at)) is.2

-- an item is at its site's place
pub at_of : (m : Parts) (c : CoreState) (s : ℕ) (x : Name) → StandsFor m c → IsItemAt m.places s x → IsOfSite c s x
at_of m c s x stands is = of_place m c s x is.0 stands is.1 is.2

pub of_at : (m : Parts) (c : CoreState) (s : ℕ) (x : Name) → StandsFor m c → IsOfSite c s x → IsItemAt m.places s x
of_at m c s x stands known = elim (option_cases (slice_get m.places s)) [
  | inl none ↦ absurd (of_none m c s x stands none known)
  | inr some ↦ (some.0, some.1, to_place m c s x some.0 stands some.1 known)
]

module _ (m : Parts) (c : CoreState) (stands : StandsFor m c) (tx slot s : ℕ) (x : Name) (h : IsSlotOf m tx slot)
    (closed : IsOwnOpen c tx → ⊥) (none : None ≡ option_and_then look_of (touched_at h.1.0.draft.touched (s, x))) where
  unknown_refused : (IsOfSite c s x → ⊥) → (f : CoreFault) → f ≡ core_fault.UnknownItem → IsRefused c (Read tx s x) f
  unknown_refused out f is =
      subst (IsRefused c (Read tx s x)) (sym is)
      (item_refuses c tx (slot_begun m c tx slot stands h) (slot_active m c tx slot stands h) s x closed out).0

  -- what isn't read is answered so
  pub why_goes : (f : CoreFault) → IsWhy (IsOfSite c s x) f
      → (d : CoreState) × MayStep c (Read tx s x) (Fault f) d × StandsFor m d
  why_goes f (inl is) =
      subst (λ (g : CoreFault). (d : CoreState) × MayStep c (Read tx s x) (Fault g) d × StandsFor m d) (sym is.0)
      (no_room_goes m c stands tx slot s x h closed is.1 none)
  why_goes f (inr is) = refused_goes m c stands (Read tx s x) f (Fault f) refl (unknown_refused is.1 f is.0)

  -- also where the draft has room now
  pub why_roomy : (table : List (Option Running)) → HasRoomAt m.table table slot → (f : CoreFault)
      → IsWhy (IsOfSite c s x) f
      → (d : CoreState) × MayStep c (Read tx s x) (Fault f) d × StandsFor (record m { table = table }) d
  why_roomy table room f (inl is) =
      subst (λ (g : CoreFault). (d : CoreState) × MayStep c (Read tx s x) (Fault g) d
      × StandsFor (record m { table = table }) d) (sym is.0) (unread_goes m c stands tx slot s x h closed is.1 none table
      room)
  why_roomy table room f (inr is) =
      refused_goes (record m { table = table }) c (room_stands m c stands tx slot h.0 closed table room) (Read tx s x) f
      (Fault f) refl (unknown_refused is.1 f is.0)
