-- What transactions did in the open section, each linked to the one before it.
use Rattle.std.proofs.Common.{◌≡◌, ℕ, zero, suc, ◌-◌, ◌<◌, ◌≤◌, Bool, true, cond, List, [], ◌∷◌, ◌++◌, Some, refl, sym, ap, ap₂, ◌∙◌, subst, arith, inl, inr, ◌⊎◌, length, Any, map, option_map}
use Rattle.std.specs.Prelude.{◌↔◌, slice_get, ◌==◌, ◌&&◌}
use Rattle.std.proofs.lemmas.Bool.{eq-eqb, ne_eqb}
use Rattle.std.proofs.lemmas.Option.{none-some, same_Some, slice_get-map, slice_get_within}
use Rattle.std.proofs.lemmas.List.{length-map}
use Rattle.sgt_names.proofs.Lists.{option_cases, Any_at, Any-from_at}
use Rattle.sgt_names.proofs.Places.{All_at}
use Rattle.sgt_audit_cells.specs.Records.{Record, no_record}
use Rattle.sgt_audit_cells.specs.declared.act.Act.{Act}
use Rattle.sgt_audit_cells.specs.declared.record.Node.{Node}
use Rattle.sgt_audit_cells.specs.declared.record.Slot.{Slot}
use Rattle.sgt_audit_cells.specs.private.Deeds.{act_of}
use Rattle.sgt_audit_cells.specs.private.Linked.{behind, chain_by, chain, AreLinked, AreWithin, last_here, record_of, records_of}
use Rattle.sgt_audit_cells.proofs.Lists.{some-at}

-- ---- a list with one more at its end

module _ {A : Type 0} where
  pub get-pushed : (xs : List A) (y a : A) (i : ℕ) → slice_get xs i ≡ Some a → slice_get (xs ++ y ∷ []) i ≡ Some a
  get-pushed [] y a i h = absurd (none-some a h)
  get-pushed (x ∷ xs) y a zero h = h
  get-pushed (x ∷ xs) y a (suc i) h = get-pushed xs y a i h

  pub get-last : (xs : List A) (y : A) → slice_get (xs ++ y ∷ []) (length xs) ≡ Some y
  get-last [] y = refl
  get-last (x ∷ xs) y = get-last xs y

  pub pushed-cases : (xs : List A) (y a : A) (i : ℕ) → slice_get (xs ++ y ∷ []) i ≡ Some a
      → (slice_get xs i ≡ Some a) ⊎ ((i ≡ length xs) × (y ≡ a))
  pushed-cases [] y a zero h = inr (refl, same_Some y a h)
  pushed-cases [] y a (suc i) h = absurd (none-some a h)
  pushed-cases (x ∷ xs) y a zero h = inl h
  pushed-cases (x ∷ xs) y a (suc i) h =
      elim (pushed-cases xs y a i h) [
        | inl before ↦ inl before
        | inr last ↦ inr (ap suc last.0, last.1)
      ]

  pub any-pushed : (P : A → Type 0) (xs : List A) (y : A) → Any P xs → Any P (xs ++ y ∷ [])
  any-pushed P xs y any = let a = Any_at P xs any in
      Any-from_at P (xs ++ y ∷ []) a.0 a.1 (get-pushed xs y a.1 a.0 a.2) a.3

  pub any-last : (P : A → Type 0) (xs : List A) (y : A) → P y → Any P (xs ++ y ∷ [])
  any-last P xs y p = Any-from_at P (xs ++ y ∷ []) (length xs) y (get-last xs y) p

  pub any-cases : (P : A → Type 0) (xs : List A) (y : A) → Any P (xs ++ y ∷ []) → (P y → ⊥) → Any P xs
  any-cases P xs y any not =
      let a = Any_at P (xs ++ y ∷ []) any in
      elim (pushed-cases xs y a.1 a.0 a.2) [
        | inl before ↦ Any-from_at P xs a.0 a.1 before a.3
        | inr last ↦ absurd (not (subst P (sym last.1) a.3))
      ]

  pub none-of-none : (P : A → Type 0) → Any P [] → ⊥
  none-of-none P any = let a = Any_at P [] any in none-some a.1 a.2

-- ---- what is linked

module _ (nodes : List Node) (are : AreLinked nodes) where
  most-same : (f g k : ℕ) → k ≤ f → k ≤ g → chain_by f nodes k ≡ chain_by g nodes k
  most-same zero zero k lf lg = refl
  most-same zero (suc g) zero lf lg = refl
  most-same zero (suc g) (suc i) lf lg = absurd (omega (arith, lf))
  most-same (suc f) zero zero lf lg = refl
  most-same (suc f) zero (suc i) lf lg = absurd (omega (arith, lg))
  most-same (suc f) (suc g) zero lf lg = refl
  most-same (suc f) (suc g) (suc i) lf lg =
      elim (option_cases (slice_get nodes i)) [
        | inl none ↦ ap (behind (chain_by f nodes) i) none ∙ sym (ap (behind (chain_by g nodes) i) none)
        | inr some ↦
            let early = are i some.0 some.1 in
            ap (behind (chain_by f nodes) i) some.1
            ∙ ap (λ acts. acts ++ act_of i some.0.done ∷ []) (most-same f g some.0.before (omega (arith, early, lf))
            (omega (arith, early, lg)))
            ∙ sym (ap (behind (chain_by g nodes) i) some.1)
      ]

  pub chain-at : (i : ℕ) (n : Node) → slice_get nodes i ≡ Some n
      → chain nodes (suc i) ≡ chain nodes n.before ++ act_of i n.done ∷ []
  chain-at i n at =
      let early = are i n at in
      ap (behind (chain_by i nodes) i) at
      ∙ ap (λ acts. acts ++ act_of i n.done ∷ []) (most-same i n.before n.before early (omega arith))

  -- one step back
  pub any-step : (P : Act → Type 0) (at i : ℕ) (n : Node) → slice_get nodes i ≡ Some n → at ≡ suc i → (P (act_of i n.done) → ⊥)
      → Any P (chain nodes at) ↔ Any P (chain nodes n.before)
  any-step P at i n here is not =
      let same : chain nodes at ≡ chain nodes n.before ++ act_of i n.done ∷ [] = ap (chain nodes) is ∙ chain-at i n here in (
        λ any. any-cases P (chain nodes n.before) (act_of i n.done) (subst (Any P) same any) not,
        λ any. subst (Any P) (sym same) (any-pushed P (chain nodes n.before) (act_of i n.done) any),
      )

  pub any-here : (P : Act → Type 0) (at i : ℕ) (n : Node) → slice_get nodes i ≡ Some n → at ≡ suc i → P (act_of i n.done)
      → Any P (chain nodes at)
  any-here P at i n here is p =
      subst (Any P) (sym (ap (chain nodes) is ∙ chain-at i n here)) (any-last P (chain nodes n.before) (act_of i n.done) p)

  module _ (x : Node) (early : x.before ≤ length nodes) where
    pushed-by : (f k : ℕ) → k ≤ length nodes → chain_by f (nodes ++ x ∷ []) k ≡ chain_by f nodes k
    pushed-by zero k le = refl
    pushed-by (suc f) zero le = refl
    pushed-by (suc f) (suc i) le =
        let there = some-at nodes i (omega (arith, le)) in
        let before = are i there.0 there.1 in
        ap (behind (chain_by f (nodes ++ x ∷ [])) i) (get-pushed nodes x there.0 i there.1)
        ∙ ap (λ acts. acts ++ act_of i there.0.done ∷ []) (pushed-by f there.0.before (omega (arith, before, le)))
        ∙ sym (ap (behind (chain_by f nodes) i) there.1)

    pub chain-pushed : (k : ℕ) → k ≤ length nodes → chain (nodes ++ x ∷ []) k ≡ chain nodes k
    chain-pushed k le = pushed-by k k le

    pub linked-pushed : AreLinked (nodes ++ x ∷ [])
    linked-pushed i n at =
        elim (pushed-cases nodes x n i at) [
          | inl before ↦ are i n before
          | inr last ↦ let eq = ap (λ (m : Node). m.before) last.1 in let place = last.0 in
              omega (arith, early, eq, place)
        ]

-- one more is linked behind what stands at its place
pub chain-last : (nodes : List Node) (are : AreLinked nodes) (x : Node) → x.before ≤ length nodes
    → chain (nodes ++ x ∷ []) (suc (length nodes)) ≡ chain nodes x.before ++ act_of (length nodes) x.done ∷ []
chain-last nodes are x early =
    chain-at (nodes ++ x ∷ []) (linked-pushed nodes are x early) (length nodes) x (get-last nodes x)
    ∙ ap (λ acts. acts ++ act_of (length nodes) x.done ∷ []) (chain-pushed nodes are x early x.before early)

-- ---- the records

map-same : {A B : Type 0} (f g : A → B) (xs : List A) → ((i : ℕ) (a : A) → slice_get xs i ≡ Some a → f a ≡ g a)
    → map f xs ≡ map g xs
map-same f g [] same = refl
map-same f g (x ∷ xs) same = ap₂ (λ y ys. y ∷ ys) (same 0 x refl) (map-same f g xs (λ i a at. same (suc i) a at))

abbrev told : Bool → Bool → List Act → Record
told here ended acts = record { touched = here; ended = here && ended; acts = acts }

module _ (stamp : ℕ) (nodes more : List Node) (slots : List Slot) (within : AreWithin stamp (length nodes) slots)
    (others : (k : ℕ) → k ≤ length nodes → chain more k ≡ chain nodes k) where
  pub records-same : records_of stamp more slots ≡ records_of stamp nodes slots
  records-same = map-same (record_of stamp more) (record_of stamp nodes) slots (λ i s at.
      let le = All_at (λ (s : Slot). last_here stamp s ≤ length nodes) slots i s within at in
      ap (told (s.stamp == stamp) s.ended) (others (last_here stamp s) le))

module _ (stamp : ℕ) (nodes : List Node) (slots : List Slot) (now : List Record)
    (view : records_of stamp nodes slots ≡ now) (n : ℕ) where
  -- the record of a slot
  pub record-at : (s : Slot) → slice_get slots n ≡ Some s → slice_get now n ≡ Some (record_of stamp nodes s)
  record-at s at = ap (λ rs. slice_get rs n) (sym view) ∙ slice_get-map (record_of stamp nodes) slots n
      ∙ ap (option_map (record_of stamp nodes)) at

  pub record-is : (s : Slot) (r : Record) → slice_get slots n ≡ Some s → slice_get now n ≡ Some r
      → record_of stamp nodes s ≡ r
  record-is s r at there = same_Some (record_of stamp nodes s) r (sym (record-at s at) ∙ there)

  pub record-within : (r : Record) → slice_get now n ≡ Some r → n < length slots
  record-within r there =
      let lt = slice_get_within now n r there in
      let long = ap length (sym view) ∙ length-map slots (record_of stamp nodes) in
      omega (arith, lt, long)

-- of a transaction that came in no section of this stamp
abbrev cleared : List Node → Slot → Bool → Record
cleared nodes s here = record { touched = here; ended = here && s.ended; acts = chain nodes (cond here s.last 0) }

pub record-fresh : (stamp : ℕ) (nodes : List Node) (s : Slot) → s.stamp < stamp → record_of stamp nodes s ≡ no_record
record-fresh stamp nodes s early =
    ap (cleared nodes s) (ne_eqb s.stamp stamp (λ same. absurd (omega (arith, early, same))))

-- where its slot has this stamp
pub record-now : (stamp : ℕ) (nodes : List Node) (s : Slot) → s.stamp ≡ stamp
    → record_of stamp nodes s ≡ told true s.ended (chain nodes s.last)
record-now stamp nodes s same = ap (cleared nodes s) (eq-eqb s.stamp stamp same)

-- ---- a loop that goes back

module _ (nodes : List Node) (are : AreLinked nodes) (at : ℕ) (n : Node) (within : at ≤ length nodes) (some : 0 < at)
    (there : slice_get nodes (at - 1) ≡ Some n) where
  pub back-early : n.before < at
  back-early = let early = are (at - 1) n there in omega (arith, early, some)

  pub back-within : n.before ≤ length nodes
  back-within = let early = back-early in omega (arith, early, within)

  pub back-step : (P : Act → Type 0) → (P (act_of (at - 1) n.done) → ⊥) → Any P (chain nodes at) ↔ Any P (chain nodes n.before)
  back-step P not = any-step nodes are P at (at - 1) n there (omega (arith, some)) not

  pub back-here : (P : Act → Type 0) → P (act_of (at - 1) n.done) → Any P (chain nodes at)
  back-here P p = any-here nodes are P at (at - 1) n there (omega (arith, some)) p

pub back-end : (nodes : List Node) (at : ℕ) (P : Act → Type 0) → at ≤ 0 → Any P (chain nodes at) → ⊥
back-end nodes at P none any =
    none-of-none P (subst (λ k. Any P (chain nodes k)) (let zero_at : at ≡ 0 = omega (arith, none) in zero_at) any)

pub both-ways : {P Q R : Type 0} → P ↔ Q → Q ↔ R → P ↔ R
both-ways a b = (λ p. b.0 (a.0 p), λ r. a.1 (b.1 r))
