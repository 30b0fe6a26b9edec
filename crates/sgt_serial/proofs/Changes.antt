-- Changes of a store, one after another.
use Rattle.std.proofs.Common.{◌≡◌, ℕ, Bool, true, false, cond, List, [], ◌∷◌, ◌++◌, Option, Some, None, refl, sym, ap, ap₂, ◌∙◌, inl, inr, All}
use Rattle.std.specs.Prelude.{is_some, ◌&&◌, ◌==◌, not, nat_eq, fold}
use Rattle.std.specs.Option.{option_eq}
use Rattle.std.specs.List.{filter_map}
use Rattle.std.specs.Str.{bytes_eq}
use Rattle.std.proofs.lemmas.Bool.{cases_Bool, false≢true, cases_eq, eq-eqb, ne_eqb}
use Rattle.std.proofs.lemmas.Slice.Eq.{bytes_eq-Decides}
use Rattle.std.proofs.lemmas.List.Sums.{fold-append}
use Rattle.std.proofs.lemmas.List.Elements.{All-head, All-tail, All-weaker, filter_map-append}
use Rattle.sgt_names.specs.Name.{Name}
use Rattle.sgt_names.specs.Log.{value_with}
use Rattle.sgt_names.specs.declared.entry.Change.{Change}
use Rattle.sgt_names.specs.declared.entry.Change.TheVariants.{Put, Add}
use Rattle.sgt_bundle.specs.Serial.{Store}
use Rattle.sgt_serial.specs.declared.report.SiteChange.{SiteChange}
use Rattle.sgt_serial.specs.Difference.{Knows}
use Rattle.sgt_serial.specs.private.Values.{is_of, change_in, with_all}

-- one change more is made
pub with_all-next : (writes : List SiteChange) (w : SiteChange) (store : Store) (s : ℕ) (x : Name)
    → with_all (writes ++ w ∷ []) store s x ≡ cond (is_of s x w) (value_with (with_all writes store s x) w.change)
    (with_all writes store s x)
with_all-next writes w store s x =
    ap (fold value_with (store s x)) (filter_map-append (change_in s x) writes (w ∷ []))
    ∙ fold-append value_with (store s x) (filter_map (change_in s x) writes) (filter_map (change_in s x) (w ∷ []))
    ∙ elim (cases_Bool (is_of s x w)) [
      | inl hit ↦ rw hit refl
      | inr miss ↦ rw miss refl
    ]

both : (a b : Bool) → (a && b) ≡ true → (a ≡ true) × (b ≡ true)
both true b h = (refl, h)
both false b h = absurd (false≢true h)

-- the item that a value is of
is_of-is : (s : ℕ) (x : Name) (w : SiteChange) → is_of s x w ≡ true → (w.site ≡ s) × (w.item ≡ x)
is_of-is s x w hit =
    let parts = both (w.site == s) (bytes_eq w.item x) hit in (
      elim (cases_eq w.site s) [
        | inl same ↦ same
        | inr other ↦ absurd (false≢true (sym (ne_eqb w.site s other) ∙ parts.0))
      ],
      (bytes_eq-Decides w.item x).0 parts.1,
    )

-- an item that is there stays there
changed-there : (o : Option ℕ) (c : Change) → is_some o ≡ true → is_some (value_with o c) ≡ true
changed-there o (Put v) there = refl
changed-there None (Add v) there = absurd (false≢true there)
changed-there (Some u) (Add v) there = refl

abbrev IsThere : ℕ → Name → Option ℕ → SiteChange → Type 0
IsThere s x o w = is_of s x w ≡ true → is_some o ≡ true

keeps : (s : ℕ) (x : Name) (writes : List SiteChange) (o : Option ℕ) → All (IsThere s x o) writes
    → is_some (fold value_with o (filter_map (change_in s x) writes)) ≡ is_some o
keeps s x [] o all = refl
keeps s x (w ∷ writes) o all =
    elim (cases_Bool (is_of s x w)) [
      | inl hit ↦
          let there = All-head (IsThere s x o) w writes all hit in
          let later = changed-there o w.change there in
          rw hit (keeps s x writes (value_with o w.change) (λ k d lt is. later) ∙ later ∙ sym there)
      | inr miss ↦ rw miss (keeps s x writes o (All-tail (IsThere s x o) w writes all))
    ]

-- changes of items that are there leave the same items there
pub with_all-keeps : (writes : List SiteChange) (store : Store) → All (Knows store) writes → (s : ℕ) (x : Name)
    → is_some (with_all writes store s x) ≡ is_some (store s x)
with_all-keeps writes store all s x =
    keeps s x writes (store s x) (All-weaker (Knows store) (IsThere s x (store s x)) (λ w known hit.
    let parts = is_of-is s x w hit in
    ap₂ (λ t y. is_some (store t y)) (sym parts.0) (sym parts.1) ∙ known) writes all)

-- an option that is tested against a value
pub is-value : (o : Option ℕ) (v : ℕ) → not (option_eq nat_eq o (Some v)) ≡ false → o ≡ Some v
is-value None v h = absurd (false≢true (sym h))
is-value (Some u) v h = elim (cases_eq u v) [
  | inl same ↦ ap Some same
  | inr other ↦ absurd (false≢true (sym h ∙ ap not (ne_eqb u v other)))
]

pub other-value : (o : Option ℕ) (v : ℕ) → not (option_eq nat_eq o (Some v)) ≡ true → o ≡ Some v → ⊥
other-value o v h is =
    false≢true (ap not (sym (eq-eqb v v refl)) ∙ ap (λ p. not (option_eq nat_eq p (Some v))) (sym is) ∙ h)
