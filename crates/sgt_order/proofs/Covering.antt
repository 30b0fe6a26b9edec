-- Bits of words, and the rows that cover a graph's edges.
use Rattle.std.proofs.Common.{◌≡◌, ◌⊎◌, ℕ, ◌+◌, ◌*◌, ◌/◌, ◌%◌, ◌^◌, ◌<◌, ◌≤◌, List, [], ◌∷◌, ◌++◌, length, get_or, take, replicate, Option, Some, refl, sym, ap, ◌∙◌, subst, arith, inl, inr, w64}
use Rattle.std.specs.Prelude.{slice_get, slice_set, bit_or}
use Rattle.std.specs.Int.{bit_at}
use Rattle.std.proofs.lemmas.Bool.{cases_eq, cases_lt}
use Rattle.std.proofs.lemmas.List.{get_or_past, get_or-replicate, length-replicate, get_or-set_same, get_or-set_other}
use Rattle.std.proofs.lemmas.Nat.Bits.{bit_at_or, bit_at-zero, bit_at_set_same, bit_at_set_other}
use Rattle.std.proofs.lemmas.Option.{same_Some, slice_get_within}
use Rattle.sgt_arena.specs.declared.handle.Handle.{Handle}
use Rattle.sgt_edges.specs.declared.edge.Edge.{Edge}
use Rattle.sgt_arena.specs.Arena.{Arena, get}
use Rattle.sgt_order.specs.declared.node.Node.{Node}
use Rattle.sgt_order.specs.declared.row.Row.{Row}
use Rattle.sgt_order.specs.private.Parts.{Lists}
use Rattle.sgt_order.specs.private.Rows.{HasBit, IsOpenRow, Covers, RowsCover}
use Rattle.sgt_order.specs.private.Search.{Marked, IsFrom, IsListed}
use Rattle.sgt_order.proofs.Lists.{get_push_cases, get_take_next}
use Rattle.sgt_order.proofs.Handles.{same_handle}
use Rattle.sgt_order.proofs.Nodes.{got_window}
use Rattle.sgt_order.proofs.Numbers.{AreNumbers, are_numbers}
use Rattle.sgt_names.proofs.Elements.{get-slice_set_same, get-slice_set_other}

-- the words after a bit of one of them was set
module _ (words : List ℕ) (at : ℕ) where
  -- the word of the bit is the changed one
  pub word_changed : (i : ℕ) → at / 64 < length words → i / 64 ≡ at / 64
      → get_or (slice_set words (at / 64) (bit_or (get_or words (at / 64) 0) (1 * 2 ^ (at % 64) % 2 ^ 64))) (i / 64) 0
      ≡ bit_or (get_or words (i / 64) 0) (1 * 2 ^ (at % 64) % 2 ^ 64)
  word_changed i within same =
      rw same (get_or-set_same words (at / 64) (bit_or (get_or words (at / 64) 0) (1 * 2 ^ (at % 64) % 2 ^ 64)) 0
      within)

  pub word_same : (i : ℕ) → (i / 64 ≡ at / 64 → ⊥)
      → get_or (slice_set words (at / 64) (bit_or (get_or words (at / 64) 0) (1 * 2 ^ (at % 64) % 2 ^ 64))) (i / 64) 0
      ≡ get_or words (i / 64) 0
  word_same i other =
      get_or-set_other words (at / 64) (i / 64) (bit_or (get_or words (at / 64) 0) (1 * 2 ^ (at % 64) % 2 ^ 64)) 0 other

  pub bit_kept : at / 64 < length words → (i : ℕ) → HasBit words i
      → HasBit (slice_set words (at / 64) (bit_or (get_or words (at / 64) 0) (1 * 2 ^ (at % 64) % 2 ^ 64))) i
  unfolding HasBit
  bit_kept within i has =
      elim (cases_eq (i / 64) (at / 64)) [
        | inl same ↦
            let two = bit_at_or (get_or words (i / 64) 0) (1 * 2 ^ (at % 64) % 2 ^ 64) (i % 64) in
            let less : bit_at (1 * 2 ^ (at % 64) % 2 ^ 64) (i % 64) < 2 = omega arith in
            ap (λ w. bit_at w (i % 64)) (word_changed i within same) ∙ (two ∙ omega (arith, has, less))
        | inr other ↦ ap (λ w. bit_at w (i % 64)) (word_same i other) ∙ has
      ]

  pub bit_new : at / 64 < length words
      → HasBit (slice_set words (at / 64) (bit_or (get_or words (at / 64) 0) (1 * 2 ^ (at % 64) % 2 ^ 64))) at
  unfolding HasBit
  bit_new within =
      ap (λ w. bit_at w (at % 64)) (word_changed at within refl)
      ∙ bit_at_set_same w64 (get_or words (at / 64) 0) (at % 64) (omega arith)

  pub bit_none : at / 64 < length words → (i : ℕ)
      → HasBit (slice_set words (at / 64) (bit_or (get_or words (at / 64) 0) (1 * 2 ^ (at % 64) % 2 ^ 64))) i
      → HasBit words i ⊎ (i ≡ at)
  unfolding HasBit
  bit_none within i has =
      elim (cases_eq i at) [
        | inl same ↦ inr same
        | inr apart ↦
            elim (cases_eq (i / 64) (at / 64)) [
              | inl same ↦
                  let bit : i % 64 ≡ at % 64 → ⊥ = λ e. apart (omega (arith, e, same)) in
                  let old = bit_at_set_other w64 (get_or words (i / 64) 0) (at % 64) (omega arith) (i % 64) bit in
                  inl (sym old ∙ (ap (λ w. bit_at w (i % 64)) (sym (word_changed i within same)) ∙ has))
              | inr other ↦ inl (ap (λ w. bit_at w (i % 64)) (sym (word_same i other)) ∙ has)
            ]
      ]

-- no bit is set in no words
pub no_bit : (i : ℕ) → HasBit [] i → ⊥
unfolding HasBit
no_bit i has = absurd (let none = bit_at-zero (i % 64) in omega (arith, has, none))

pub zero_bits : (n i : ℕ) → HasBit (replicate n 0) i → ⊥
unfolding HasBit
zero_bits n i has =
    let none = bit_at-zero (i % 64) in
    elim (cases_lt (i / 64) n) [
      | inl within ↦ absurd (let word = ap (λ w. bit_at w (i % 64)) (get_or-replicate n (i / 64) 0 0 within) in
          omega (arith, has, none, word))
      | inr past ↦ absurd (let word =
          ap (λ w. bit_at w (i % 64))
          (get_or_past (replicate n 0) (i / 64) 0 (omega (arith, past, length-replicate {A = ℕ} n 0))) in
          omega (arith, has, none, word))
    ]

pub bare_words : (words : List ℕ) → words ≡ [] → (i : ℕ) → HasBit words i → ⊥
bare_words words bare i has = no_bit i (subst (λ ws. HasBit ws i) bare has)

pub zero_words : (words : List ℕ) (n : ℕ) → words ≡ replicate n 0 → (i : ℕ) → HasBit words i → ⊥
zero_words words n zeros i has = zero_bits n i (subst (λ ws. HasBit ws i) zeros has)

-- words that add nothing to others have no bit that those lack
pub bits_among : (words others : List ℕ)
    → ((j : ℕ) → j < length words → bit_or (get_or words j 0) (get_or others j 0) ≡ get_or others j 0) → (i : ℕ)
    → HasBit words i → HasBit others i
unfolding HasBit
bits_among words others same i has =
    elim (cases_lt (i / 64) (length words)) [
      | inl within ↦
          let two = bit_at_or (get_or words (i / 64) 0) (get_or others (i / 64) 0) (i % 64) in
          let one : bit_at (get_or others (i / 64) 0) (i % 64) < 2 = omega arith in
          let is = ap (λ w. bit_at w (i % 64)) (same (i / 64) within) in
          omega (arith, two, one, is, has)
      | inr past ↦ absurd (
          let none = ap (λ w. bit_at w (i % 64)) (get_or_past words (i / 64) 0 (omega (arith, past)))
          ∙ bit_at-zero (i % 64) in
          omega (arith, has, none))
    ]

-- a row that was changed covers one more edge
pub rows_change : (rows : List Row) (k : ℕ) (old new : Row) (over : List Edge) (e : Edge)
    → slice_get rows k ≡ Some old → e.from.index ≡ k
    → (IsOpenRow new → IsOpenRow old × ((i : ℕ) → HasBit old.words.items i → HasBit new.words.items i))
    → (IsOpenRow new → HasBit new.words.items e.to.index) → RowsCover rows over
    → RowsCover (slice_set rows k new) (over ++ e ∷ [])
rows_change rows k old new over e at from kept set covers j row got wide n f is leads =
    elim (cases_eq j k) [
      | inl same ↦
          let within : k < length rows = slice_get_within rows k old at in
          let one : new ≡ row = same_Some new row (sym (get-slice_set_same rows k new within)
          ∙ subst (λ m. slice_get (slice_set rows k new) m ≡ Some row) same got) in
          let opened = subst IsOpenRow (sym one) wide in
          subst (λ (r : Row). HasBit r.words.items f.to.index) one (
          elim (get_push_cases over e f n is) [
            | inl early ↦ (kept opened).1 f.to.index (covers k old at (kept opened).0 n f early (leads ∙ same))
            | inr last ↦ subst (λ (x : Edge). HasBit new.words.items x.to.index) last.1 (set opened)
          ])
      | inr other ↦
          let had = sym (get-slice_set_other rows k j new other) ∙ got in
          elim (get_push_cases over e f n is) [
            | inl early ↦ covers j row had wide n f early leads
            | inr last ↦ absurd (other (sym leads ∙ (ap (λ (x : Edge). x.from.index) (sym last.1) ∙ from)))
          ]
    ]

-- an edge from a node without a row
pub rows_past : (rows : List Row) (over : List Edge) (e : Edge) → length rows ≤ e.from.index → RowsCover rows over
    → RowsCover rows (over ++ e ∷ [])
rows_past rows over e past covers j row got wide n f is leads =
    elim (get_push_cases over e f n is) [
      | inl early ↦ covers j row got wide n f early leads
      | inr last ↦ absurd (omega (
        arith,
        slice_get_within rows j row got,
        leads,
        ap (λ (x : Edge). x.from.index) last.1,
        past,
      ))
    ]

-- one more row, without words
pub rows_push : (rows : List Row) (new : Row) (over : List Edge) → new.words.items ≡ [] → RowsCover rows over
    → RowsCover (rows ++ new ∷ []) over
rows_push rows new over bare covers j row got wide n f is leads =
    elim (get_push_cases rows new row j got) [
      | inl early ↦ covers j row early wide n f is leads
      | inr last ↦ absurd (omega (arith, subst IsOpenRow (sym last.1) wide, ap length bare))
    ]

-- a row in the place of another
pub rows_put : (rows : List Row) (k : ℕ) (new : Row) (over : List Edge) → k < length rows
    → (IsOpenRow new → Covers over k new.words.items) → RowsCover rows over → RowsCover (slice_set rows k new) over
rows_put rows k new over within covered covers j row got wide n f is leads =
    elim (cases_eq j k) [
      | inl same ↦
          let one : new ≡ row = same_Some new row (sym (get-slice_set_same rows k new within)
          ∙ subst (λ m. slice_get (slice_set rows k new) m ≡ Some row) same got) in
          subst (λ (r : Row). HasBit r.words.items f.to.index) one
          (covered (subst IsOpenRow (sym one) wide) n f is (leads ∙ same))
      | inr other ↦ covers j row (sym (get-slice_set_other rows k j new other) ∙ got) wide n f is leads
    ]

-- the edges with these numbers are those from the node
pub from_listed : (edges : List Edge) (h : Handle) (listed : List ℕ) (a b : List (Option Edge))
    → AreNumbers edges h listed → Marked (IsListed edges listed) a b → Marked (IsFrom h edges) a b
from_listed edges h listed a b lists then = record {
  kept = then.kept;
  fresh = λ k e had.
      elim (then.fresh k e had) [
        | inl old ↦ inl old
        | inr new ↦
            let from = lists.sound new.0.0 new.0.1 new.0.2 in
            let same = same_Some from.0 e (sym from.1 ∙ new.0.3) in
            inr ((new.0.1, new.0.3, ap (λ (x : Edge). x.from) (sym same) ∙ from.2), new.1)
      ];
  done = λ e from.
      let number = lists.complete from.0 e from.1 from.2 in
      then.done e (number.0, from.0, number.1, from.1);
}

-- one more number, whose edge's bit was set
pub listed_set : (edges : List Edge) (listed : List ℕ) (n m : ℕ) (x : Edge) (old new : Row)
    → slice_get listed n ≡ Some m → slice_get edges m ≡ Some x
    → (IsOpenRow new → IsOpenRow old × ((i : ℕ) → HasBit old.words.items i → HasBit new.words.items i))
    → (IsOpenRow new → HasBit new.words.items x.to.index)
    → (IsOpenRow old → (e : Edge) → IsListed edges (take n listed) e → HasBit old.words.items e.to.index)
    → IsOpenRow new → (e : Edge) → IsListed edges (take (n + 1) listed) e → HasBit new.words.items e.to.index
listed_set edges listed n m x old new at is kept set before wide e l =
    elim (get_take_next listed n l.0 m l.1 at l.2) [
      | inl early ↦ (kept wide).1 e.to.index (before (kept wide).0 e (l.0, l.1, early.1, l.3))
      | inr last ↦ subst (λ (y : Edge). HasBit new.words.items y.to.index)
          (same_Some x e (sym is ∙ (ap (slice_get edges) last.1 ∙ l.3))) (set wide)
    ]

-- each number of a node is an edge's
pub numbers_within : (nodes : Arena Node) (edges : List Edge) (h : Handle) (node : Node) → Lists nodes edges
    → get nodes h ≡ Some node → (j n : ℕ) → slice_get node.out.items j ≡ Some n → n < length edges
numbers_within nodes edges h node lists got j n at =
    let e = (are_numbers edges h node.out.items (lists h node got).is).sound j n at in
    slice_get_within edges n e.0 e.1

-- words with the bits of a node's listed edges cover them
pub covers_listed : (nodes : Arena Node) (edges : List Edge) (h : Handle) (node : Node) (words : List ℕ)
    → Lists nodes edges → ((n : ℕ) (e : Edge) → slice_get edges n ≡ Some e → e.from.generation ≡ nodes.generation)
    → get nodes h ≡ Some node → ((e : Edge) → IsListed edges node.out.items e → HasBit words e.to.index)
    → Covers edges h.index words
covers_listed nodes edges h node words lists window got set n e is leads =
    let same = same_handle e.from h leads (window n e is ∙ sym (got_window nodes h node got)) in
    let number = (are_numbers edges h node.out.items (lists h node got).is).complete n e is same in
    set e (number.0, n, number.1, is)
