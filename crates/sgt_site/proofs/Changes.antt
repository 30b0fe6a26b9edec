-- Changes of the cells, one place or one item after another.
use Rattle.std.proofs.Common.{◌≡◌, ℕ, zero, suc, ◌+◌, ◌<◌, false, List, [], ◌∷◌, length, get_or, drop, Some, refl, sym, ap, ap₂, ◌∙◌, subst, arith, inl, inr, length-set, All}
use mathlib.Core.Bool.{false≢true}
use Rattle.std.specs.Prelude.{slice_get, IsTrue, ◌↔◌, option_map}
use Rattle.std.specs.Ordering.{nat_cmp}
use Rattle.std.specs.Cmp.Lexicographic.{slice_cmp}
use Rattle.std.specs.declared.cmp.Ordering.TheVariants.{Less}
use Rattle.sgt_names.specs.Name.{Name}
use Rattle.std.proofs.lemmas.Bool.{cases_order}
use Rattle.std.proofs.lemmas.Option.{same_Some, slice_get_within, slice_get-get_or, slice_get-map}
use Rattle.sgt_names.specs.Ordered.{IsAt}
use Rattle.sgt_names.proofs.Lists.{element_at, drop_next, map_at}
use Rattle.sgt_names.proofs.Places.{All_at, All-from_at, AllPairs_at, AllPairs-from_at}
use Rattle.sgt_site.specs.private.Cells.{Contents, items_of, CellsRise, AreChanged, ChangesAt}
use Rattle.sgt_site.proofs.Basics.{less_apart}
use Rattle.sgt_site.proofs.Inserts.{get_set_same, get_set_other}

-- a cell that was there before
pub old_at : (R : Contents → Contents → Type 0) (old new : List Contents) → AreChanged R old new
    → (n : ℕ) (d : Contents) → slice_get new n ≡ Some d → (c : Contents) × (slice_get old n ≡ Some c) × R c d
old_at R old new changed n d at =
    let here = slice_get-get_or old n d (let lt = slice_get_within new n d at in omega (arith, lt, changed.as_many)) in
    (get_or old n d, here, changed.each n (get_or old n d) d here at)

-- what holds of each cell and itself
pub all-same : (R : Contents → Contents → Type 0) (cells : List Contents)
    → ((n : ℕ) (c : Contents) → slice_get cells n ≡ Some c → R c c) → AreChanged R cells cells
all-same R cells same =
    record { as_many = refl; each = λ n c d at_c at_d. subst (R c) (same_Some c d (sym at_c ∙ at_d)) (same n c at_c) }

-- one change after another
pub changed-twice : (R S T : Contents → Contents → Type 0) → (old mid new : List Contents)
    → ((n : ℕ) (c d e : Contents) → slice_get old n ≡ Some c → R c d → S d e → T c e) → AreChanged R old mid
    → AreChanged S mid new → AreChanged T old new
changed-twice R S T old mid new both first second = record {
  as_many = second.as_many ∙ first.as_many;
  each = λ n c e at_c at_e.
      let d = old_at S mid new second n e at_e in
      both n c d.0 e at_c (first.each n c d.0 at_c d.1) d.2;
}

-- a change at one place, and what it leaves
module _ (R : Contents → Contents → Type 0) (old new : List Contents) (n : ℕ) (change : ChangesAt R n old new) where
  at_place : (d : Contents) → slice_get new n ≡ Some d → change.after ≡ d
  at_place d at =
      same_Some change.after d (sym (get_set_same old n change.after (slice_get_within old n change.before change.at))
      ∙ ap (λ cs. slice_get cs n) (sym change.others) ∙ at)

  elsewhere : (m : ℕ) (d : Contents) → (m ≡ n → ⊥) → slice_get new m ≡ Some d → slice_get old m ≡ Some d
  elsewhere m d apart at = sym (get_set_other old n m change.after apart)
      ∙ ap (λ cs. slice_get cs m) (sym change.others) ∙ at

  -- of the cell there and of the others
  pub changed-one : (S : Contents → Contents → Type 0) → ((d : Contents) → R change.before d → S change.before d)
      → ((m : ℕ) (c : Contents) → (m ≡ n → ⊥) → slice_get old m ≡ Some c → S c c) → AreChanged S old new
  changed-one S here others = record {
    as_many = ap length change.others ∙ length-set old n change.after;
    each = λ m c d at_c at_d. elim (cases_order m n) [
      | inl same ↦
          let before : change.before ≡ c = same_Some change.before c (sym change.at ∙ ap (slice_get old) (sym same)
          ∙ at_c) in
          let after : change.after ≡ d = at_place d (ap (slice_get new) (sym same) ∙ at_d) in
          subst (λ (e : Contents). S e d) before (subst (S change.before) after (here change.after change.changed))
      | inr (inl lt) ↦ by_other m c d (λ e. absurd (omega arith)) at_c at_d
      | inr (inr gt) ↦ by_other m c d (λ e. absurd (omega arith)) at_c at_d
    ];
  }
    where
      by_other : (m : ℕ) (c d : Contents) → (m ≡ n → ⊥) → slice_get old m ≡ Some c → slice_get new m ≡ Some d → S c d
      by_other m c d apart at_c at_d =
          subst (S c) (same_Some c d (sym at_c ∙ elsewhere m d apart at_d)) (others m c apart at_c)

-- cells at two places are of two items
pub items-apart : (cells : List Contents) (x : Name) (m n : ℕ) (c : Contents) → CellsRise cells
    → IsAt (λ c. c.item) cells x n → (m ≡ n → ⊥) → slice_get cells m ≡ Some c → c.item ≡ x → ⊥
items-apart cells x m n c rising at apart here same =
    let there = slice_get-get_or cells n c at.within in
    let of : (get_or cells n c).item ≡ x = at.is (get_or cells n c) there in
    elim (cases_order m n) [
      | inl is ↦ apart is
      | inr (inl lt) ↦ less_apart c.item (get_or cells n c).item
          (AllPairs_at (λ (a b : Contents). slice_cmp nat_cmp a.item b.item ≡ Less) cells m n c (get_or cells n c)
          rising lt here there) (same ∙ sym of)
      | inr (inr gt) ↦ less_apart (get_or cells n c).item c.item
          (AllPairs_at (λ (a b : Contents). slice_cmp nat_cmp a.item b.item ≡ Less) cells n m (get_or cells n c) c
          rising gt there here) (of ∙ sym same)
    ]

-- a test of all, one element after another: what is left passes exactly where the whole does
module _ {A : Type 0} (P : A → Type 0) where
  All_next : (xs : List A) (n : ℕ) (a : A) → n < length xs → a ≡ get_or xs n a
      → All P (drop n xs) ↔ (P a × All P (drop (n + 1) xs))
  All_next xs n a lt is =
      subst (λ ys. All P ys ↔ (P a × All P (drop (n + 1) xs))) (sym (drop_next xs n a (element_at xs n a lt is))) (
        λ all. (
          All_at P (a ∷ drop (n + 1) xs) 0 a all refl,
          All-from_at P (drop (n + 1) xs) (λ k b at. All_at P (a ∷ drop (n + 1) xs) (suc k) b all at),
        ),
        λ parts. All-from_at P (a ∷ drop (n + 1) xs) (λ k b at. by_place parts k b at),
      )
    where
      by_place : P a × All P (drop (n + 1) xs) → (k : ℕ) (b : A) → slice_get (a ∷ drop (n + 1) xs) k ≡ Some b → P b
      by_place parts zero b at = subst P (same_Some a b at) parts.0
      by_place parts (suc k) b at = All_at P (drop (n + 1) xs) k b parts.1 at

  pub all-pass : (W : Type 0) (xs : List A) (n : ℕ) (a : A) → n < length xs → a ≡ get_or xs n a → P a
      → All P (drop n xs) ↔ W → All P (drop (n + 1) xs) ↔ W
  all-pass W xs n a lt is pass left = (
    λ rest. left.0 ((All_next xs n a lt is).1 (pass, rest)),
    λ w. ((All_next xs n a lt is).0 (left.1 w)).1,
  )

  pub all-fail : (W : Type 0) (xs : List A) (n : ℕ) (a : A) → n < length xs → a ≡ get_or xs n a → (P a → ⊥)
      → All P (drop n xs) ↔ W → IsTrue false ↔ W
  all-fail W xs n a lt is fail left =
      (λ h. absurd (false≢true h), λ w. absurd (fail ((All_next xs n a lt is).0 (left.1 w)).0))

-- a change of the cells that leaves their items leaves their order
module _ (R : Contents → Contents → Type 0) (same : (c d : Contents) → R c d → d.item ≡ c.item) where
  pub changed-items : (old new : List Contents) → AreChanged R old new → items_of new ≡ items_of old
  changed-items [] [] changed = refl
  changed-items [] (d ∷ new) changed = absurd (omega (arith, changed.as_many))
  changed-items (c ∷ old) [] changed = absurd (omega (arith, changed.as_many))
  changed-items (c ∷ old) (d ∷ new) changed =
      ap₂ (λ (x : Name) (xs : List Name). x ∷ xs) (same c d (changed.each 0 c d refl refl))
      (changed-items old new (record {
        as_many = omega (arith, changed.as_many);
        each =
            λ n e f at_e at_f. changed.each (suc n) e f at_e at_f;
      }))

-- the order is that of the items
item_at : (cells : List Contents) (n : ℕ) (c : Contents) → slice_get cells n ≡ Some c
    → slice_get (items_of cells) n ≡ Some c.item
item_at cells n c at = slice_get-map (λ (c : Contents). c.item) cells n ∙ ap (option_map (λ (c : Contents). c.item)) at

pub items-rise : (old new : List Contents) → items_of new ≡ items_of old → CellsRise old → CellsRise new
items-rise old new same rising = AllPairs-from_at (λ (a b : Contents). slice_cmp nat_cmp a.item b.item ≡ Less) new
    (λ p q c d lt at_p at_q.
    let b = map_at (λ (c : Contents). c.item) old p c.item (ap (λ xs. slice_get xs p) (sym same)
    ∙ item_at new p c at_p) in
    let e = map_at (λ (c : Contents). c.item) old q d.item (ap (λ xs. slice_get xs q) (sym same)
    ∙ item_at new q d at_q) in
    rw (sym b.2, sym e.2) (AllPairs_at (λ (a b : Contents). slice_cmp nat_cmp a.item b.item ≡ Less) old p q b.0 e.0
    rising lt b.1 e.1))
