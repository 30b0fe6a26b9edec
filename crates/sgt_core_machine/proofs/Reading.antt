-- An active transaction reads an item at its site.
use Rattle.std.proofs.Common.{◌≡◌, ◌+◌, ℕ, zero, suc, true, cond, List, [], ◌∷◌, ◌++◌, length, map, refl, sym, ◌∙◌, inl, inr, Contains, Option, Some, None, subst, ap, take}
use Rattle.std.specs.Prelude.{slice_get, slice_set, option_map, option_and_then}
use Rattle.std.specs.List.{filter_map}
use Rattle.std.specs.Str.{bytes_eq}
use Rattle.std.proofs.lemmas.Bool.{cases_Bool, cases_eq, eq-eqb, ne_eqb}
use Rattle.std.proofs.lemmas.List.{append-nil, append_assoc}
use Rattle.std.proofs.lemmas.Option.{same_Some, slice_get_within}
use Rattle.std.proofs.lemmas.Slice.Eq.{bytes_eq-Decides}
use Rattle.sgt_names.specs.Name.{Name}
use Rattle.sgt_names.specs.Entry.{tx_of}
use Rattle.sgt_names.specs.Log.{Conflicts, value_at, value_with_any}
use Rattle.sgt_names.specs.Draft.{AreRising, at_site, kept_in, writing_in, touched_at, seen_at, change_at, look_of}
use Rattle.sgt_names.specs.declared.draft.Touch.{Touch}
use Rattle.sgt_names.specs.declared.draft.Seen.{Seen}
use Rattle.sgt_names.specs.declared.entry.Change.{Change}
use Rattle.sgt_names.specs.declared.entry.Change.TheVariants as change
use Rattle.sgt_names.specs.declared.entry.Entry.{Entry}
use Rattle.sgt_names.specs.declared.entry.Entry.TheVariants as entry
use Rattle.sgt_names.proofs.Lists.{option_cases}
use Rattle.sgt_names.proofs.Places.{Contains-from_at}
use Rattle.sgt_site.specs.State.{LogsRead, KeepsReads, version_at}
use Rattle.sgt_site.proofs.Appends.{chosen_at, LogsRead-append, LogsRead-cases}
use Rattle.sgt_certifier.specs.Certifier.{Arc}
use Rattle.sgt_core_machine.specs.declared.machine.Place.{Place}
use Rattle.sgt_core_machine.specs.declared.machine.Running.{Running}
use Rattle.sgt_core_model.specs.Core.{CoreState, IsEdgeOf, as_changes, items_at, change_in, only_at, with_entries, read_of, seen, look}
use Rattle.sgt_notation.specs.declared.event.Event.TheVariants.{Read}
use Rattle.sgt_core_model.specs.declared.reply.Reply.TheVariants.{Value, Fault}
use Rattle.sgt_core_model.specs.declared.reply.CoreFault.TheVariants as fault
use Rattle.sgt_core_model.specs.Step.{IsOwnOpen, IsOfSite, IsAllowed, Reads, MayStep}
use Rattle.sgt_core_machine.specs.Machine.{Parts, IsReached, IsRunning, StandsFor, IsSlotOf, HasRoomAt, Redrafts, ReadsTo, ReadsAt}
use Rattle.sgt_core_model.proofs.Conflicting.{without_others, with_others}
use Rattle.sgt_core_model.proofs.LegalSteps.{only_here, only_there}
use Rattle.sgt_core_machine.proofs.Standing.{reached_kept, reached_more}
use Rattle.sgt_core_machine.proofs.Drafting.{change_there, seen_kept, kept_seen, other_sites, same_changes, more_reads, now_there}
use Rattle.sgt_core_machine.proofs.Redrafting.{IsLike, slot_begun, slot_active, redraft_stands}
use Rattle.sgt_core_machine.proofs.Changing.{read_allowed}
use Rattle.sgt_core_machine.proofs.Finding.{items_there}
use Rattle.sgt_names.proofs.Elements.{get-slice_set_same, get-slice_set_other, contains-cases, contains-none}

-- ---- what a transaction finds

read_is : (tx : ℕ) (x : Name) (e : Entry) (u : ℕ) → read_of tx x e ≡ Some u → e ≡ entry.Read tx x u
read_is tx x (entry.Read i y v) u h = elim (cases_eq i tx) [
  | inl own ↦ elim (cases_Bool (bytes_eq y x)) [
    | inl hit ↦
        let g : Some v ≡ Some u =
        subst (λ b. cond b (Some v) None ≡ Some u) hit
        (subst (λ b. cond b (cond (bytes_eq y x) (Some v) None) None ≡ Some u) (eq-eqb i tx own) h) in
        three i tx y x v u own ((bytes_eq-Decides y x).0 hit) (same_Some v u g)
    | inr miss ↦ absurd (let g : None ≡ Some u =
        subst (λ b. cond b (Some v) None ≡ Some u) miss
        (subst (λ b. cond b (cond (bytes_eq y x) (Some v) None) None ≡ Some u) (eq-eqb i tx own) h) in cc)
  ]
  | inr other ↦ absurd (let g : None ≡ Some u =
      subst (λ b. cond b (cond (bytes_eq y x) (Some v) None) None ≡ Some u) (ne_eqb i tx other) h in cc)
]
  where
    three : (i j : ℕ) (y x : Name) (v u : ℕ) → i ≡ j → y ≡ x → v ≡ u → entry.Read i y v ≡ entry.Read j x u
    three i j y x v u a b c = ap (λ k. entry.Read k y v) a ∙ (ap (λ z. entry.Read j z v) b ∙ ap (entry.Read j x) c)
read_is tx x _ u h = absurd cc

read_hit : (tx : ℕ) (x : Name) (v : ℕ) → read_of tx x (entry.Read tx x v) ≡ Some v
read_hit tx x v = rw (eq-eqb tx tx refl) (rw ((bytes_eq-Decides x x).1 refl) refl)

first_nil : {A : Type 0} (xs : List A) → slice_get xs 0 ≡ None → xs ≡ []
first_nil [] e = refl
first_nil (x ∷ xs) e = absurd cc

nothing_chosen : (f : Entry → Option ℕ) (es : List Entry) (n : ℕ) (e : Entry) (v : ℕ) → filter_map f es ≡ []
    → slice_get es n ≡ Some e → f e ≡ Some v → ⊥
nothing_chosen f [] n e v h at is = absurd cc
nothing_chosen f (d ∷ es) zero e v h at is = absurd (
    let same : d ≡ e = same_Some d e at in
    let hit : f d ≡ Some v = ap f same ∙ is in
    let g : v ∷ filter_map f es ≡ [] = sym (rw hit refl) ∙ h in cc)
nothing_chosen f (d ∷ es) (suc n) e v h at is = elim (option_cases (f d)) [
  | inl none ↦ nothing_chosen f es n e v (sym (rw none refl) ∙ h) at is
  | inr some ↦ absurd (let g : some.0 ∷ filter_map f es ≡ [] = sym (rw some.1 refl) ∙ h in cc)
]

module _ (es : List Entry) (tx s : ℕ) (x : Name) (ts : List Touch) (rising : AreRising ts)
    (reads : KeepsReads es tx (kept_in (at_site s ts))) where
  -- what it has read of the item is what the draft keeps
  pub seen_there : slice_get (filter_map (read_of tx x) es) 0 ≡ option_map (λ (seen : Seen). seen.value)
      (seen_at ts (s, x))
  seen_there = elim (option_cases (slice_get (filter_map (read_of tx x) es) 0)) [
    | inl none ↦ none ∙ sym (ap (option_map (λ (seen : Seen). seen.value)) (unseen (first_nil _ none)))
    | inr some ↦
        let from = chosen_at (read_of tx x) es 0 some.0 some.1 in
        let is = read_is tx x from.1 some.0 from.3 in
        let logged : LogsRead es tx x some.0 (version_at (take from.0 es) x) =
        record { place = from.0; at = from.2 ∙ ap Some is; version = refl } in
        let kept = (reads x some.0 (version_at (take from.0 es) x)).1 logged in
        some.1 ∙ sym (ap (option_map (λ (seen : Seen). seen.value)) (kept_seen ts s x some.0 _ rising kept))
  ]
    where
      unseen : filter_map (read_of tx x) es ≡ [] → seen_at ts (s, x) ≡ None
      unseen none = elim (option_cases (seen_at ts (s, x))) [
        | inl no_read ↦ no_read
        | inr some ↦
            let logged = (reads x some.0.value some.0.version).0 (seen_kept ts s x some.0 some.1) in
            absurd (nothing_chosen (read_of tx x) es logged.place _ some.0.value none logged.at
            (read_hit tx x some.0.value))
      ]

abbrev looks : Option Touch → Option ℕ
looks o = value_with_any (option_map (λ (seen : Seen). seen.value) (option_and_then (λ (t : Touch). t.seen) o))
    (option_and_then (λ (t : Touch). t.change) o)

looked : (o : Option Touch) → looks o ≡ option_and_then look_of o
looked None = refl
looked (Some t) = refl

pub look_there : (c : CoreState) (before slot : ℕ) (r : Running) (s : ℕ) (x : Name) → IsRunning c before slot r
    → look c (suc (before + slot)) s x ≡ option_and_then look_of (touched_at r.draft.touched (s, x))
look_there c before slot r s x h =
    let ts = r.draft.touched in
    ap (λ o. value_with_any o (change_in (c.changes (suc (before + slot)) s) x))
    (seen_there (c.entries s) (suc (before + slot)) s x ts h.rising (h.reads s))
    ∙ (ap (value_with_any _) (ap (λ cs. change_in cs x) (h.changes s) ∙ change_there ts s x h.rising)
    ∙ looked (touched_at ts (s, x)))

-- an item that it finds nothing of isn't read by the draft
pub not_seen : (ts : List Touch) (s : ℕ) (x : Name) → option_and_then look_of (touched_at ts (s, x)) ≡ None
    → seen_at ts (s, x) ≡ None
not_seen ts s x none = by_touch (touched_at ts (s, x)) none
  where
    by_seen : (seen : Option ℕ) (change : Option Change) → value_with_any seen change ≡ None → seen ≡ None
    by_seen seen None e = e
    by_seen None (Some k) e = refl
    by_seen (Some v) (Some (change.Put u)) e = absurd cc
    by_seen (Some v) (Some (change.Add u)) e = absurd cc

    unmapped : (o : Option Seen) → option_map (λ (seen : Seen). seen.value) o ≡ None → o ≡ None
    unmapped None e = refl
    unmapped (Some seen) e = absurd cc

    by_touch : (o : Option Touch) → option_and_then look_of o ≡ None → option_and_then (λ (t : Touch). t.seen) o ≡ None
    by_touch None e = refl
    by_touch (Some t) e = unmapped t.seen (by_seen (option_map (λ (seen : Seen). seen.value) t.seen) t.change e)

-- ---- the read is logged

take_front : (es fs : List Entry) → take (length es) (es ++ fs) ≡ es
take_front [] fs = refl
take_front (f ∷ es) fs = ap (λ gs. f ∷ gs) (take_front es fs)

module _ (m : Parts) (c : CoreState) (stands : StandsFor m c) (tx slot s : ℕ) (x : Name)
    (number : tx ≡ suc (m.before + slot)) (closed : IsOwnOpen c tx → ⊥)
    (v : Seen) (places : List Place) (r : ReadsAt m.places places tx s x v) (table : List (Option Running))
    (h : Redrafts m.table table slot (ReadsTo s x v))
    (unseen : seen_at h.before.draft.touched (s, x) ≡ None) where
  abbrev e : Entry
  e = entry.Read tx x v.value

  abbrev more : ℕ → List Entry
  more t = only_at s (e ∷ []) t

  abbrev d : CoreState
  d = with_entries c more

  own : IsRunning c m.before slot h.before
  own = stands.running slot (Some h.before) h.was

  only_this : (t : ℕ) (f : Entry) → Contains (more t) f → f ≡ e
  only_this t f member = elim (cases_eq t s) [
    | inl is ↦
        let one : more t ≡ e ∷ [] = ap more is ∙ only_here s (e ∷ []) in
        elim (contains-cases e [] f (subst (λ es. Contains es f) one member)) [
          | inl same ↦ sym same
          | inr empty ↦ absurd (contains-none f empty)
        ]
    | inr ne ↦ absurd (contains-none f (subst (λ es. Contains es f) (only_there s (e ∷ []) t ne) member))
  ]

  other_reads : (i t : ℕ) (kept : List (Name × ℕ × ℕ)) → (i ≡ tx → ⊥) → KeepsReads (c.entries t) i kept
      → KeepsReads (d.entries t) i kept
  other_reads i t kept ne k y w n = (
    λ member. LogsRead-append (c.entries t) (more t) i y w n ((k y w n).0 member),
    λ logged. (k y w n).1 (LogsRead-cases (c.entries t) (more t) i y w n logged (λ old. old) (λ j at is. absurd (
        let same = only_this t (entry.Read i y w) (Contains-from_at (more t) j _ at) in ne (ap tx_of same)))),
  )

  out : Contains c.certifier.order tx → ⊥
  out member =
      let k = reached_kept c stands.reached in
      let active = subst (Contains c.certifier.active) (sym number) own.active in
      closed (k.together tx (k.sound.ordered.certifier.committed_open tx active member))

  not_end : (t i : ℕ) (arc : Arc) → (i ≡ tx → ⊥) → IsEdgeOf c i arc → (f : Entry) → Contains (more t) f
      → (tx_of f ≡ arc.from → ⊥) × (tx_of f ≡ arc.to → ⊥)
  not_end t i arc ne is f member =
      let same : tx_of f ≡ tx = ap tx_of (only_this t f member) in
      elim is.ends [
        | inl from ↦ (
          λ q. ne (sym from.0 ∙ (sym q ∙ same)),
          λ q. out (subst (Contains c.certifier.order) (sym q ∙ same) from.1),
        )
        | inr to ↦ (
          λ q. out (subst (Contains c.certifier.order) (sym q ∙ same) to.1),
          λ q. ne (sym to.0 ∙ (sym q ∙ same)),
        )
      ]

  longer : (i : ℕ) (arc : Arc) → (i ≡ tx → ⊥) → IsEdgeOf c i arc → IsEdgeOf d i arc
  longer i arc ne is = record {
    ends = is.ends;
    conflict = subst (λ es. Conflicts es arc.label.kind arc.label.item arc.from arc.to)
        (sym (append_assoc (c.entries arc.label.site) (more arc.label.site)
        (as_changes i (c.changes i arc.label.site))))
        (with_others (c.entries arc.label.site) (more arc.label.site) (as_changes i (c.changes i arc.label.site))
        arc.label.kind arc.label.item arc.from arc.to is.conflict);
  }

  shorter : (i : ℕ) (arc : Arc) → (i ≡ tx → ⊥) → IsEdgeOf d i arc → IsEdgeOf c i arc
  shorter i arc ne is =
      let t = arc.label.site in
      let apart : (f : Entry) → Contains (more t) f → (tx_of f ≡ arc.from → ⊥) × (tx_of f ≡ arc.to → ⊥) = λ f member.
      let same : tx_of f ≡ tx = ap tx_of (only_this t f member) in
      elim is.ends [
        | inl from ↦ (
          λ q. ne (sym from.0 ∙ (sym q ∙ same)),
          λ q. out (subst (Contains c.certifier.order) (sym q ∙ same) from.1),
        )
        | inr to ↦ (
          λ q. out (subst (Contains c.certifier.order) (sym q ∙ same) to.1),
          λ q. ne (sym to.0 ∙ (sym q ∙ same)),
        )
      ] in
      record {
        ends = is.ends;
        conflict = without_others (c.entries t) (more t) (as_changes i (c.changes i t)) arc.label.kind arc.label.item
            arc.from arc.to (λ f member. (apart f member).0) (λ f member. (apart f member).1)
            (subst (λ es. Conflicts es arc.label.kind arc.label.item arc.from arc.to)
            (append_assoc (c.entries t) (more t) (as_changes i (c.changes i t))) is.conflict);
      }

  at_place : c.entries s ≡ r.place.site.entries
  at_place = (stands.places s r.place r.was).entries

  own_reads : (t : ℕ) → KeepsReads (d.entries t) tx (kept_in (at_site t h.after.draft.touched))
  own_reads t =
      let was : KeepsReads (c.entries t) tx (kept_in (at_site t h.before.draft.touched)) =
      subst (λ i. KeepsReads (c.entries t) i (kept_in (at_site t h.before.draft.touched))) (sym number)
      (own.reads t) in
      elim (cases_eq t s) [
        | inl is ↦ subst (λ u. KeepsReads (d.entries u) tx (kept_in (at_site u h.after.draft.touched))) (sym is)
            (here (subst (λ u. KeepsReads (c.entries u) tx (kept_in (at_site u h.before.draft.touched))) is was))
        | inr ne ↦
            let logs : d.entries t ≡ c.entries t = ap (λ es. c.entries t ++ es) (only_there s (e ∷ []) t ne)
            ∙ append-nil (c.entries t) in
            subst (λ es. KeepsReads es tx (kept_in (at_site t h.after.draft.touched))) (sym logs)
            (subst (λ (us : List Touch). KeepsReads (c.entries t) tx (kept_in us))
            (sym (other_sites h.before.draft.touched h.after.draft.touched _ h.draft t ne)) was)
      ]
    where
      here : KeepsReads (c.entries s) tx (kept_in (at_site s h.before.draft.touched))
          → KeepsReads (d.entries s) tx (kept_in (at_site s h.after.draft.touched))
      here was y w n =
          let both = more_reads h.before.draft.touched h.after.draft.touched _ h.draft own.rising h.rising v refl
          unseen (y, w, n) in
          let one : more s ≡ e ∷ [] = only_here s (e ∷ []) in
          let version : version_at (c.entries s) x ≡ v.version = ap (λ es. version_at es x) at_place
          ∙ sym r.version in (
            λ member. elim (both.0 member) [
              | inl is ↦ subst (λ (k : Name × ℕ × ℕ). LogsRead (d.entries s) tx k.0 k.1 k.2) is (fresh_read one version)
              | inr old ↦ LogsRead-append (c.entries s) (more s) tx y w n ((was y w n).0 old)
            ],
            λ logged. both.1 (LogsRead-cases (c.entries s) (more s) tx y w n logged (λ old. inr ((was y w n).1 old))
                (λ j at is. inl
                (new_read j y w n one version (subst (λ es. slice_get es j ≡ Some (entry.Read tx y w)) one at)
                (subst (λ es. version_at (c.entries s ++ take j es) y ≡ n) one is)))),
          )
        where
          fresh_read : more s ≡ e ∷ [] → version_at (c.entries s) x ≡ v.version
              → LogsRead (d.entries s) tx x v.value v.version
          fresh_read one version = record {
            place = length (c.entries s);
            at = ap (λ es. slice_get (c.entries s ++ es) (length (c.entries s))) one
                ∙ Rattle.sgt_names.proofs.Lists.middle_at (c.entries s) e [];
            version = ap (λ es. version_at es x) (ap (λ es. take (length (c.entries s)) (c.entries s ++ es)) one
                ∙ take_front (c.entries s) (e ∷ [])) ∙ version;
          }

          new_read : (j : ℕ) (y : Name) (w n : ℕ) → more s ≡ e ∷ [] → version_at (c.entries s) x ≡ v.version
              → slice_get (e ∷ []) j ≡ Some (entry.Read tx y w) → version_at (c.entries s ++ take j (e ∷ [])) y ≡ n
              → ◌≡◌ {A = Name × ℕ × ℕ} (x, v.value, v.version) (y, w, n)
          new_read zero y w n one version at is =
              let same : e ≡ entry.Read tx y w = same_Some e _ at in
              let item : x ≡ y = cc in
              let value : v.value ≡ w = cc in
              let ver : v.version ≡ n = sym version ∙ (ap (λ es. version_at es x) (sym (append-nil (c.entries s)))
              ∙ (ap (version_at (c.entries s ++ [])) item ∙ is)) in
              ap (λ z. (z, v.value, v.version)) item ∙ (ap (λ z. (y, z, v.version)) value ∙ ap (λ z. (y, w, z)) ver)
          new_read (suc j) y w n one version at is = absurd cc

  own_changes : (t : ℕ) → c.changes tx t ≡ writing_in (at_site t h.after.draft.touched)
  own_changes t =
      let was : c.changes tx t ≡ writing_in (at_site t h.before.draft.touched) = ap (λ i. c.changes i t) number
      ∙ own.changes t in
      elim (cases_eq t s) [
        | inl is ↦ was ∙ (ap (λ u. writing_in (at_site u h.before.draft.touched)) is
            ∙ (sym (same_changes h.before.draft.touched h.after.draft.touched _ h.draft own.rising h.rising refl)
            ∙ ap (λ u. writing_in (at_site u h.after.draft.touched)) (sym is)))
        | inr ne ↦ was ∙ ap writing_in (sym (other_sites h.before.draft.touched h.after.draft.touched _ h.draft t ne))
      ]

  own_running : IsRunning d m.before slot h.after
  own_running = record {
    active = own.active;
    handle = h.handle ∙ own.handle;
    rising = h.rising;
    used = h.used;
    changes = λ t. ap (λ i. c.changes i t) (sym number) ∙ own_changes t;
    reads = λ t. subst (λ i. KeepsReads (d.entries t) i (kept_in (at_site t h.after.draft.touched))) number
        (own_reads t);
  }

  abbrev new_place : Place
  new_place =
      record r.place { site = record r.place.site { entries = r.place.site.entries ++ entry.Read tx x v.value ∷ [] } }

  like : (t : ℕ) (q : Place) → slice_get places t ≡ Some q → (p : Place) × (slice_get m.places t ≡ Some p)
      × IsLike p q (d.entries t)
  like t q at = elim (cases_eq t s) [
    | inl is ↦
        let here : slice_get (slice_set m.places s new_place) s ≡ Some new_place =
        get-slice_set_same m.places s new_place (slice_get_within m.places s r.place r.was) in
        let same : new_place ≡ q =
        same_Some new_place q (sym here
        ∙ (ap (λ ps. slice_get ps s) (sym r.is) ∙ (ap (slice_get places) (sym is) ∙ at))) in
        let logs : d.entries t ≡ new_place.site.entries = ap d.entries is
        ∙ (ap (λ es. c.entries s ++ es) (only_here s (e ∷ [])) ∙ ap (λ es. es ++ e ∷ []) at_place) in (
          r.place,
          ap (slice_get m.places) is
              ∙ r.was,
          subst (λ w. IsLike r.place w (d.entries t)) same
              (record { number = refl; entries = logs; installed = refl; pledge = refl; part = refl }),
        )
    | inr ne ↦
        let there : slice_get m.places t ≡ Some q = sym (get-slice_set_other m.places s t new_place ne)
        ∙ (ap (λ ps. slice_get ps t) (sym r.is) ∙ at) in
        let logs : d.entries t ≡ c.entries t = ap (λ es. c.entries t ++ es) (only_there s (e ∷ []) t ne)
        ∙ append-nil (c.entries t) in (
          q,
          there,
          record {
            number = refl;
            entries = logs ∙ (stands.places t q there).entries;
            installed =
                refl;
            pledge = refl;
            part = refl;
          },
        )
  ]

  same_items : map (λ (p : Place). p.site.items) places ≡ map (λ (p : Place). p.site.items) m.places
  same_items = ap (map (λ (p : Place). p.site.items)) r.is ∙ set_map m.places s new_place r.place r.was refl
    where
      set_map : (ps : List Place) (k : ℕ) (q p : Place) → slice_get ps k ≡ Some p → q.site.items ≡ p.site.items
          → map (λ (w : Place). w.site.items) (slice_set ps k q) ≡ map (λ (w : Place). w.site.items) ps
      set_map [] k q p at is = absurd cc
      set_map (w ∷ ps) zero q p at is = ap (λ i. i ∷ map (λ (w : Place). w.site.items) ps) (is
          ∙ ap (λ (w : Place). w.site.items) (sym (same_Some w p at)))
      set_map (w ∷ ps) (suc k) q p at is = ap (λ is. w.site.items ∷ is) (set_map ps k q p at is)

  pub read_stands : IsReached (with_entries c (only_at s (entry.Read tx x v.value ∷ [])))
      → StandsFor (record m { places = places; table = table })
      (with_entries c (only_at s (entry.Read tx x v.value ∷ [])))
  read_stands reached =
      let all = redraft_stands m c stands tx slot number h.before h.after h.was h.handle closed d.entries c.changes
      places (λ i t ne. refl) other_reads
      (λ i arc ne. (longer i arc ne, shorter i arc ne)) like reached same_items own_running in
      subst (λ ts. StandsFor (record m { places = places; table = ts }) d) (sym h.is) all

  -- what it finds then
  pub read_look : look (with_entries c (only_at s (entry.Read tx x v.value ∷ []))) tx s x ≡ option_and_then look_of
      (touched_at h.after.draft.touched (s, x))
  read_look = subst (λ i. look d i s x ≡ option_and_then look_of (touched_at h.after.draft.touched (s, x)))
      (sym number) (look_there d m.before slot h.after s x own_running)

  -- it finds the item
  pub read_finds : option_and_then look_of (touched_at h.after.draft.touched (s, x)) ≡ None → ⊥
  read_finds none = absurd (
      let there = now_there h.before.draft.touched h.after.draft.touched _ h.draft own.rising h.rising in
      let looks_on : option_and_then look_of (touched_at h.after.draft.touched (s, x)) ≡ value_with_any (Some v.value)
      (change_at h.before.draft.touched (s, x)) = ap (option_and_then look_of) there in
      some_value v.value (change_at h.before.draft.touched (s, x)) (sym looks_on ∙ none))
    where
      some_value : (u : ℕ) (k : Option Change) → value_with_any (Some u) k ≡ None → ⊥
      some_value u None e = absurd cc
      some_value u (Some (change.Put w)) e = absurd cc
      some_value u (Some (change.Add w)) e = absurd cc

-- ---- room in the draft

pub room_stands : (m : Parts) (c : CoreState) → StandsFor m c → (tx slot : ℕ) → tx ≡ suc (m.before + slot)
    → (IsOwnOpen c tx → ⊥) → (table : List (Option Running)) → HasRoomAt m.table table slot
    → StandsFor (record m { table = table }) c
room_stands m c stands tx slot number closed table room =
    let r = stands.running slot (Some room.before) room.was in
    let q : Running = record room.before { draft = record { touched = room.before.draft.touched; has_room = true } } in
    let all = redraft_stands m c stands tx slot number room.before q room.was refl closed c.entries c.changes m.places
    (λ i t ne. refl) (λ i t kept ne k. k) (λ i arc ne. (λ is. is, λ is. is))
    (λ t p at. (
      p,
      at,
      record {
        number = refl;
        entries = (stands.places t p at).entries;
        installed = refl;
        pledge =
            refl;
        part = refl;
      },
    )) stands.reached refl
    (record {
      active = r.active;
      handle = r.handle;
      rising = r.rising;
      used = r.used;
      changes = r.changes;
      reads =
          r.reads;
    }) in
    subst (λ ts. StandsFor (record m { table = ts }) c) (sym room.is) all

-- ---- the whole event

module _ (m : Parts) (c : CoreState) (stands : StandsFor m c) (tx slot s : ℕ) (x : Name) (h : IsSlotOf m tx slot)
    (closed : IsOwnOpen c tx → ⊥) (known : IsOfSite c s x) where
  allowed : IsAllowed c (Read tx s x)
  allowed = read_allowed c tx (slot_begun m c tx slot stands h) (slot_active m c tx slot stands h) s x closed known

  looked_up : look c tx s x ≡ option_and_then look_of (touched_at h.1.0.draft.touched (s, x))
  looked_up = subst (λ i. look c i s x ≡ option_and_then look_of (touched_at h.1.0.draft.touched (s, x))) (sym h.0)
      (look_there c m.before slot h.1.0 s x (stands.running slot (Some h.1.0) h.1.1))

  pub found_goes : (v : ℕ) → Some v ≡ option_and_then look_of (touched_at h.1.0.draft.touched (s, x))
      → (d : CoreState) × MayStep c (Read tx s x) (Value v) d × StandsFor m d
  found_goes v found = (c, (allowed, subst (λ o. Reads c tx s x v o c) (found ∙ sym looked_up) (refl, refl)), stands)

  module _ (none : None ≡ option_and_then look_of (touched_at h.1.0.draft.touched (s, x))) where
    pub no_room_goes : (d : CoreState) × MayStep c (Read tx s x) (Fault fault.Memory) d × StandsFor m d
    no_room_goes = (c, (allowed, (looked_up ∙ sym none, refl)), stands)

    module _ (table : List (Option Running)) (room : HasRoomAt m.table table slot) where
      abbrev n : Parts
      n = record m { table = table }

      roomy : StandsFor n c
      roomy = room_stands m c stands tx slot h.0 closed table room

      pub unread_goes : (d : CoreState) × MayStep c (Read tx s x) (Fault fault.Memory) d
          × StandsFor (record m { table = table }) d
      unread_goes = (c, (allowed, (looked_up ∙ sym none, refl)), roomy)

      pub unseen_there : seen_at room.before.draft.touched (s, x) ≡ None
      unseen_there =
          let same : h.1.0 ≡ room.before = same_some (sym h.1.1 ∙ room.was) in
          not_seen room.before.draft.touched s x
          (ap (λ (r : Running). option_and_then look_of (touched_at r.draft.touched (s, x))) (sym same) ∙ sym none)
        where
          same_some : {a b : Running} → Some (Some a) ≡ Some (Some b) → a ≡ b
          same_some {a} {b} e = same_Some a b (same_Some (Some a) (Some b) e)

      module _ (v : Seen) (places : List Place) (r : ReadsAt m.places places tx s x v) (last : List (Option Running))
          (k : Redrafts table last slot (ReadsTo s x v)) where
        was_unseen : seen_at k.before.draft.touched (s, x) ≡ None
        was_unseen =
            let q : Running =
            record room.before { draft = record { touched = room.before.draft.touched; has_room = true } } in
            let at : slice_get table slot ≡ Some (Some q) = ap (λ ts. slice_get ts slot) room.is
            ∙ get-slice_set_same m.table slot (Some q) (slice_get_within m.table slot _ room.was) in
            let same : Some q ≡ Some k.before = same_Some (Some q) (Some k.before) (sym at ∙ k.was) in
            ap (λ (w : Running). seen_at w.draft.touched (s, x)) (sym (same_Some q k.before same)) ∙ unseen_there

        pub read_goes : (value : ℕ) → Some value ≡ option_and_then look_of (touched_at k.after.draft.touched (s, x))
            → (d : CoreState) × MayStep c (Read tx s x) (Value value) d
            × StandsFor (record m { places = places; table = last }) d
        read_goes value found =
            let d : CoreState = with_entries c (only_at s (entry.Read tx x v.value ∷ [])) in
            let logged : value_at (items_at c s) (c.entries s) x ≡ Some v.value =
            ap (λ es. value_at (items_at c s) es x) (stands.places s r.place r.was).entries
            ∙ (ap (λ is. value_at is r.place.site.entries x) (items_there m c s (Some r.place) stands r.was)
            ∙ r.value) in
            let finds : look d tx s x ≡ Some value =
            read_look n c roomy tx slot s x h.0 closed v places r last k was_unseen ∙ sym found in
            let reads : Reads c tx s x value None d = (v.value, logged, refl, finds) in
            let may : MayStep c (Read tx s x) (Value value) d =
            (allowed, subst (λ o. Reads c tx s x value o d) (none ∙ sym looked_up) reads) in (
              d,
              may,
              read_stands n c roomy tx slot s x h.0 closed v places r last k was_unseen
                  (reached_more c (Read tx s x) (Value value) d stands.reached may),
            )

        same_touched : k.before.draft.touched ≡ h.1.0.draft.touched
        same_touched =
            let q : Running =
            record room.before { draft = record { touched = room.before.draft.touched; has_room = true } } in
            let at : slice_get table slot ≡ Some (Some q) = ap (λ ts. slice_get ts slot) room.is
            ∙ get-slice_set_same m.table slot (Some q) (slice_get_within m.table slot _ room.was) in
            let now : Some q ≡ Some k.before = same_Some (Some q) (Some k.before) (sym at ∙ k.was) in
            let was : Some h.1.0 ≡ Some room.before = same_Some (Some h.1.0) (Some room.before)
            (sym h.1.1 ∙ room.was) in
            ap (λ (w : Running). w.draft.touched) (sym (same_Some q k.before now))
            ∙ ap (λ (w : Running). w.draft.touched) (sym (same_Some h.1.0 room.before was))

        -- where the draft had nothing of the item, it finds what was read
        pub read_plain : touched_at h.1.0.draft.touched (s, x) ≡ None
            → Some v.value ≡ option_and_then look_of (touched_at k.after.draft.touched (s, x))
        read_plain nothing =
            let before = k.before.draft.touched in
            let rising = (roomy.running slot (Some k.before) k.was).rising in
            let there = now_there before k.after.draft.touched _ k.draft rising k.rising in
            let looks_on : option_and_then look_of (touched_at k.after.draft.touched (s, x))
            ≡ value_with_any (Some v.value) (change_at before (s, x)) = ap (option_and_then look_of) there in
            let unchanged : change_at before (s, x) ≡ None = ap (λ ts. change_at ts (s, x)) same_touched
            ∙ ap (option_and_then (λ (t : Touch). t.change)) nothing in
            sym (looks_on ∙ ap (value_with_any (Some v.value)) unchanged)

        pub must_find : None ≡ option_and_then look_of (touched_at k.after.draft.touched (s, x)) → ⊥
        must_find e = read_finds n c roomy tx slot s x h.0 closed v places r last k was_unseen (sym e)
