-- Rows of bits, and what they show.
use Rattle.std.proofs.Common.{◌≡◌, ◌⊎◌, ℕ, ◌*◌, ◌/◌, ◌%◌, ◌^◌, ◌<◌, ◌≤◌, ◌-◌, suc, Bool, true, false, List, [], ◌∷◌, ◌++◌, length, get_or, replicate, Some, Any, refl, sym, ap, ◌∙◌, subst, arith, inl, inr, w64}
use Rattle.std.specs.Prelude.{◌↔◌, slice_get, slice_set, bit_or}
use Rattle.std.specs.Int.{bit_at}
use Rattle.std.proofs.lemmas.Bool.{cases_eq, cases_lt}
use Rattle.std.proofs.lemmas.List.{get_or_past, get_or-replicate, length-replicate, get_or-set_same, get_or-set_other}
use Rattle.std.proofs.lemmas.Nat.Bits.{bit_at_or, bit_at-zero, bit_at_set_same, bit_at_set_other}
use Rattle.std.proofs.lemmas.Option.{none-some, same_Some}
use Rattle.sgt_names.proofs.Lists.{Any_at, Any-from_at}
use Rattle.sgt_audit_cells.specs.declared.act.Act.{Act}
use Rattle.sgt_audit_cells.specs.declared.record.Node.{Node}
use Rattle.sgt_audit_cells.specs.declared.row.Row.{Row}
use Rattle.sgt_audit_cells.specs.private.Deeds.{IsOf, act_of}
use Rattle.sgt_audit_cells.specs.private.Linked.{AreLinked, chain}
use Rattle.sgt_audit_cells.specs.private.Rows.{HasBit, HasMark, IsRowOf, AreRows}
use Rattle.sgt_audit_cells.proofs.Linked.{pushed-cases, any-pushed, any-last, chain-at}
use Rattle.sgt_audit_cells.proofs.Lists.{set-at, set-other, some-at}

-- ---- a bit of words

-- the words after a bit of one of them was set
module _ (words : List ℕ) (at : ℕ) (within : at / 64 < length words) where
  abbrev word : ℕ
  word = bit_or (get_or words (at / 64) 0) (1 * 2 ^ (at % 64) % 2 ^ 64)

  word_changed : (i : ℕ) → i / 64 ≡ at / 64
      → get_or (slice_set words (at / 64) word) (i / 64) 0 ≡ bit_or (get_or words (i / 64) 0)
      (1 * 2 ^ (at % 64) % 2 ^ 64)
  word_changed i same = rw same (get_or-set_same words (at / 64) word 0 within)

  word_same : (i : ℕ) → (i / 64 ≡ at / 64 → ⊥)
      → get_or (slice_set words (at / 64) word) (i / 64) 0 ≡ get_or words (i / 64) 0
  word_same i other = get_or-set_other words (at / 64) (i / 64) word 0 other

  bit_kept : (i : ℕ) → HasBit words i → HasBit (slice_set words (at / 64) word) i
  unfolding HasBit
  bit_kept i has =
      elim (cases_eq (i / 64) (at / 64)) [
        | inl same ↦
            let two = bit_at_or (get_or words (i / 64) 0) (1 * 2 ^ (at % 64) % 2 ^ 64) (i % 64) in
            let less : bit_at (1 * 2 ^ (at % 64) % 2 ^ 64) (i % 64) < 2 = omega arith in
            ap (λ w. bit_at w (i % 64)) (word_changed i same) ∙ (two ∙ omega (arith, has, less))
        | inr other ↦ ap (λ w. bit_at w (i % 64)) (word_same i other) ∙ has
      ]

  bit_new : HasBit (slice_set words (at / 64) word) at
  unfolding HasBit
  bit_new = ap (λ w. bit_at w (at % 64)) (word_changed at refl)
      ∙ bit_at_set_same w64 (get_or words (at / 64) 0) (at % 64) (omega arith)

  bit_none : (i : ℕ) → HasBit (slice_set words (at / 64) word) i → HasBit words i ⊎ (i ≡ at)
  unfolding HasBit
  bit_none i has =
      elim (cases_eq i at) [
        | inl same ↦ inr same
        | inr apart ↦
            elim (cases_eq (i / 64) (at / 64)) [
              | inl same ↦
                  let bit : i % 64 ≡ at % 64 → ⊥ = λ e. apart (omega (arith, e, same)) in
                  let old = bit_at_set_other w64 (get_or words (i / 64) 0) (at % 64) (omega arith) (i % 64) bit in
                  inl (sym old ∙ (ap (λ w. bit_at w (i % 64)) (sym (word_changed i same)) ∙ has))
              | inr other ↦ inl (ap (λ w. bit_at w (i % 64)) (sym (word_same i other)) ∙ has)
            ]
      ]

  pub bit_set : (i : ℕ) → HasBit (slice_set words (at / 64) word) i ↔ (HasBit words i ⊎ (i ≡ at))
  bit_set i = (
    bit_none i,
    λ either.
        elim either [
          | inl has ↦ bit_kept i has
          | inr same ↦ subst (HasBit (slice_set words (at / 64) word)) (sym same) bit_new
        ],
  )

pub zero_bits : (n i : ℕ) → HasBit (replicate n 0) i → ⊥
unfolding HasBit
zero_bits n i has =
    let none = bit_at-zero (i % 64) in
    elim (cases_lt (i / 64) n) [
      | inl within ↦ absurd (let word = ap (λ w. bit_at w (i % 64)) (get_or-replicate n (i / 64) 0 0 within) in
          omega (arith, has, none, word))
      | inr past ↦ absurd (let word =
          ap (λ w. bit_at w (i % 64))
          (get_or_past (replicate n 0) (i / 64) 0 (omega (arith, past, length-replicate {A = ℕ} n 0))) in
          omega (arith, has, none, word))
    ]

-- no words have a bit past their end
pub past_bits : (words : List ℕ) (i : ℕ) → length words ≤ i / 64 → HasBit words i → ⊥
unfolding HasBit
past_bits words i past has =
    let none = ap (λ w. bit_at w (i % 64)) (get_or_past words (i / 64) 0 past) ∙ bit_at-zero (i % 64) in
    absurd (omega (arith, none, has))

pub zero_words : (words : List ℕ) (n : ℕ) → words ≡ replicate n 0 → (i : ℕ) → HasBit words i → ⊥
zero_words words n zeros i has = zero_bits n i (subst (λ ws. HasBit ws i) zeros has)

-- a row with no bits shows nothing
pub blank : (row : Row) → ((i : ℕ) → HasBit row.reads.items i → ⊥) → ((i : ℕ) → HasBit row.changes.items i → ⊥)
    → (change : Bool) (place : ℕ) → HasMark row change place → ⊥
blank row reads changes false place has = reads place has
blank row reads changes true place has = changes place has

-- what it shows does not hang on its node
pub renamed : (row : Row) (last : ℕ) (change : Bool) (place : ℕ)
    → HasMark row change place ↔ HasMark (record { upto = last; reads = row.reads; changes = row.changes }) change place
renamed row last false place = (λ h. h, λ h. h)
renamed row last true place = (λ h. h, λ h. h)

-- ---- one node more

any-either : {A : Type 0} (P : A → Type 0) (xs : List A) (y : A) → Any P (xs ++ y ∷ []) → P y ⊎ Any P xs
any-either P xs y any =
    let a = Any_at P (xs ++ y ∷ []) any in
    elim (pushed-cases xs y a.1 a.0 a.2) [
      | inl before ↦ inr (Any-from_at P xs a.0 a.1 before a.3)
      | inr last ↦ inl (subst P (sym last.1) a.3)
    ]

-- what is linked from a node: its act, and what is linked in front of it
pub any-split : (nodes : List Node) (are : AreLinked nodes) (at : ℕ) (n : Node) → 0 < at
    → slice_get nodes (at - 1) ≡ Some n → (P : Act → Type 0)
    → Any P (chain nodes at) ↔ (P (act_of (at - 1) n.done) ⊎ Any P (chain nodes n.before))
any-split nodes are at n some there P =
    let is : at ≡ suc (at - 1) = omega (arith, some) in
    let same : chain nodes at ≡ chain nodes n.before ++ act_of (at - 1) n.done ∷ [] = ap (chain nodes) is
    ∙ chain-at nodes are (at - 1) n there in (
      λ any. any-either P (chain nodes n.before) (act_of (at - 1) n.done) (subst (Any P) same any),
      λ either.
          elim either [
            | inl here ↦ subst (Any P) (sym same) (any-last P (chain nodes n.before) (act_of (at - 1) n.done) here)
            | inr any ↦ subst (Any P) (sym same) (any-pushed P (chain nodes n.before) (act_of (at - 1) n.done) any)
          ],
    )

-- of all, the one goes over from the others to those that are marked
pub moved : {All Old New Others One Rest : Type 0} → All ↔ (Old ⊎ Others) → New ↔ (Old ⊎ One) → Others ↔ (One ⊎ Rest)
    → All ↔ (New ⊎ Rest)
moved all set split = (
  λ any.
      elim (all.0 any) [
        | inl old ↦ inl (set.1 (inl old))
        | inr others ↦
            elim (split.0 others) [
              | inl one ↦ inl (set.1 (inr one))
              | inr rest ↦ inr rest
            ]
      ],
  λ either.
      elim either [
        | inl new ↦
            elim (set.0 new) [
              | inl old ↦ all.1 (inl old)
              | inr one ↦ all.1 (inr (split.1 (inl one)))
            ]
        | inr rest ↦ all.1 (inr (split.1 (inr rest)))
      ],
)

-- nothing is marked and all is left; or all is marked and nothing is left
pub none-marked : {All Marked : Type 0} → (Marked → ⊥) → All ↔ (Marked ⊎ All)
none-marked none = (
  λ any. inr any,
  λ either.
      elim either [
        | inl marked ↦ absurd (none marked)
        | inr any ↦ any
      ],
)

pub all-marked : {All Marked Rest : Type 0} → All ↔ (Marked ⊎ Rest) → (Rest → ⊥) → All ↔ Marked
all-marked all none = (
  λ any.
      elim (all.0 any) [
        | inl marked ↦ marked
        | inr rest ↦ absurd (none rest)
      ],
  λ marked. all.1 (inl marked),
)

-- the one is marked behind those that were
pub followed : {All Old New One Rest : Type 0} → Rest ↔ Old → New ↔ (Old ⊎ One) → All ↔ (One ⊎ Rest) → All ↔ New
followed shows set split = (
  λ any.
      elim (split.0 any) [
        | inl one ↦ set.1 (inr one)
        | inr rest ↦ set.1 (inl (shows.0 rest))
      ],
  λ new.
      elim (set.0 new) [
        | inl old ↦ split.1 (inr (shows.1 old))
        | inr one ↦ split.1 (inl one)
      ],
)

-- ---- all rows

module _ (nodes : List Node) (rows : List Row) (are : AreRows nodes rows) where
  pub rows-set : (n : ℕ) (row : Row) → n < length rows → IsRowOf nodes row → AreRows nodes (slice_set rows n row)
  rows-set n row within is i r at =
      elim (cases_eq i n) [
        | inl same ↦
            let old = some-at rows n within in
            subst (IsRowOf nodes) (same_Some row r (sym (set-at rows n row old.0 old.1)
            ∙ ap (slice_get (slice_set rows n row)) (sym same) ∙ at)) is
        | inr apart ↦ are i r (sym (set-other rows n i row apart) ∙ at)
      ]

  pub rows-pushed : (row : Row) → IsRowOf nodes row → AreRows nodes (rows ++ row ∷ [])
  rows-pushed row is i r at =
      elim (pushed-cases rows row r i at) [
        | inl before ↦ are i r before
        | inr last ↦ subst (IsRowOf nodes) last.1 is
      ]

  -- where what is linked from each node stays
  pub rows-kept : (more : List Node) → length nodes ≤ length more
      → ((k : ℕ) → k ≤ length nodes → chain more k ≡ chain nodes k) → AreRows more rows
  rows-kept more long others i row at =
      let is = are i row at in
      let early = is.0 in (
        omega (arith, early, long),
        λ place change. subst (λ (acts : List Act). Any (IsOf place change) acts ↔ HasMark row change place)
            (sym (others row.upto early)) (is.1 place change),
      )
