-- The log of one site stays legal.
use Rattle.std.proofs.Common.{◌≡◌, ◌≤◌, ◌+◌, ℕ, zero, suc, Bool, true, List, [], ◌∷◌, ◌++◌, length, take, refl, sym, ◌∙◌, arith, inl, inr, Contains, Some, subst, ap, append_assoc}
use Rattle.std.specs.Prelude.{slice_get}
use Rattle.std.proofs.lemmas.List.{append-nil, take-append-le}
use Rattle.std.proofs.lemmas.List.Elements.{Contains-append_cases}
use Rattle.std.proofs.lemmas.Option.{same_Some}
use Rattle.sgt_names.specs.Name.{Name}
use Rattle.sgt_names.specs.Entry.{tx_of, Reads, IsOpen}
use Rattle.sgt_names.specs.Log.{names, value_at, ReadsAreLegal}
use Rattle.sgt_names.specs.declared.entry.Entry.{Entry}
use Rattle.sgt_names.specs.declared.entry.Entry.TheVariants as entry
use Rattle.sgt_names.specs.declared.entry.Holding.{Holding}
use Rattle.sgt_names.proofs.Places.{AllPairs-from_at, AllPairs_at, Contains-from_at}
use Rattle.sgt_certifier.specs.Certifier.{State, Ruling}
use Rattle.sgt_certifier.specs.Sound.{IsRuled}
use Rattle.sgt_certifier.proofs.Members.{place_cases, place_right}
use Rattle.sgt_core_model.proofs.Kept.{IsRead, IsFree, EndInRulingOrder, IsLegalLog, AreBlocks, IsLegalSite}
use Rattle.sgt_core_model.proofs.Entries.{reads_read}
use Rattle.sgt_core_model.proofs.Legal.{read-legal, decided-legal, block_of, IsBlock, Decides}
use Rattle.sgt_core_model.proofs.Blocks.{blocks-nil, block_reads}
use Rattle.sgt_names.proofs.Elements.{contains-none}
use Rattle.sgt_names.proofs.Lists.{front_at}

-- ---- one site

-- the certifier goes on, with the same decisions, and who was free is free
state-legal : (items : List Holding) (s t : State) (log : List Entry) → t.rulings ≡ s.rulings
    → ((j : ℕ) → IsFree s j → IsFree t j) → IsLegalLog items s log → IsLegalLog items t log
state-legal items s t log same free h = record {
  known = h.known;
  once = h.once;
  closed = h.closed;
  stands = λ e c. elim (h.stands e c) [
    | inl read ↦ inl (read.0, free (tx_of e) read.1)
    | inr done ↦
        let by = done.0.1 in
        inr ((done.0.0, (by.0, subst (λ rs. slice_get rs done.0.0 ≡ Some by.0) (sym same) by.1, by.2, by.3)), done.1)
  ];
  in_order = AllPairs-from_at (EndInRulingOrder t.rulings) log (λ p q e f lt at_e at_f end end_f m n r r_ at_m at_n.
      AllPairs_at (EndInRulingOrder s.rulings) log p q e f h.in_order lt at_e at_f end end_f m n r r_
      (subst (λ rs. slice_get rs m ≡ Some r) same at_m) (subst (λ rs. slice_get rs n ≡ Some r_) same at_n));
}

pub site-state : (items : List Holding) (s t : State) (es due : List Entry) → t.rulings ≡ s.rulings
    → ((j : ℕ) → IsFree s j → IsFree t j) → IsLegalSite items s es due → IsLegalSite items t es due
site-state items s t es due same free h = record {
  log = state-legal items s t (es ++ due) same free h.log;
  blocks =
      h.blocks;
  due_blocks = h.due_blocks;
  reads = h.reads;
  due_reads = h.due_reads;
}

blocks-append : (xs ys : List Entry) → AreBlocks xs → AreBlocks ys → AreBlocks (xs ++ ys)
blocks-append xs ys hx hy n e at_n opens =
    elim (place_cases xs ys n e at_n) [
      | inl front ↦ let r = hx n e front.1 opens in (r.0, front_at xs ys (suc n) r.0 r.1, r.2)
      | inr back ↦
          let r = hy back.0 e back.2 opens in
          let next : length xs + suc back.0 ≡ suc n = omega (arith, back.1) in
          (r.0, subst (λ k. slice_get (xs ++ ys) k ≡ Some r.0) next (place_right xs ys (suc back.0) r.0 r.1), r.2)
    ]

read_closed : (t : ℕ) (x : Name) (v : ℕ) → AreBlocks (entry.Read t x v ∷ [])
read_closed t x v zero e at_n opens = absurd (subst IsOpen (sym (same_Some (entry.Read t x v) e at_n)) opens)
read_closed t x v (suc n) e at_n opens = absurd cc

reads-append : (items : List Holding) (xs ys : List Entry) → ReadsAreLegal items xs
    → ((k t : ℕ) (x : Name) (v : ℕ) → slice_get ys k ≡ Some (entry.Read t x v)
    → (k ≡ 0) × (value_at items xs x ≡ Some v)) → ReadsAreLegal items (xs ++ ys)
reads-append items xs ys h last n t x v at_n =
    elim (place_cases xs ys n (entry.Read t x v) at_n) [
      | inl front ↦
          let le : n ≤ length xs = omega (arith, front.0) in
          subst (λ es. value_at items es x ≡ Some v) (sym (take-append-le n xs ys le)) (h n t x v front.1)
      | inr back ↦
          let r = last back.0 t x v back.2 in
          let all : n ≡ length xs = omega (arith, back.1, r.0) in
          subst (λ k. value_at items (take k (xs ++ ys)) x ≡ Some v) (sym all)
          (subst (λ es. value_at items es x ≡ Some v) (sym (take_all xs ys)) r.1)
    ]
  where
    take_all : (xs ys : List Entry) → take (length xs) (xs ++ ys) ≡ xs
    take_all [] ys = take_none ys
      where
        take_none : (ys : List Entry) → take 0 ys ≡ []
        take_none ys = refl
    take_all (x ∷ xs) ys = ap (λ es. x ∷ es) (take_all xs ys)

one_read : (items : List Holding) (es : List Entry) (t : ℕ) (x : Name) (v : ℕ) → value_at items es x ≡ Some v
    → (k u : ℕ) (y : Name) (w : ℕ) → slice_get (entry.Read t x v ∷ []) k ≡ Some (entry.Read u y w)
    → (k ≡ 0) × (value_at items es y ≡ Some w)
one_read items es t x v legal zero u y w at_k =
    let e = same_Some (entry.Read t x v) (entry.Read u y w) at_k in
    let y_is : x ≡ y = cc in
    let w_is : v ≡ w = cc in
    (refl, subst (λ z. value_at items es z ≡ Some w) y_is (legal ∙ ap Some w_is))
one_read items es t x v legal (suc k) u y w at_k = absurd cc

pub site-read : (items : List Holding) (s : State) (es due : List Entry) (t : ℕ) (x : Name) (v : ℕ)
    → IsLegalSite items s es due → IsRuled s → IsFree s t → Contains (names items) x
    → ((e : Entry) → Contains es e → tx_of e ≡ t → Reads x e → ⊥) → value_at items es x ≡ Some v
    → IsLegalSite items s (es ++ entry.Read t x v ∷ []) due
site-read items s es due t x v h ruled_ free known fresh legal = record {
  log = subst (IsLegalLog items s) (sym (append_assoc es (entry.Read t x v ∷ []) due))
      (read-legal items s es due t x v h.log ruled_ free known (λ e c own k. elim (Contains-append_cases es due e c) [
        | inl logged ↦ fresh e logged own k
        | inr owed ↦ h.due_reads e owed (reads_read e x k)
      ]));
  blocks = blocks-append es (entry.Read t x v ∷ []) h.blocks (read_closed t x v);
  due_blocks = h.due_blocks;
  reads = reads-append items es (entry.Read t x v ∷ []) h.reads (one_read items es t x v legal);
  due_reads = h.due_reads;
}

no_reads_behind : (items : List Holding) (es ys : List Entry) → ((e : Entry) → Contains ys e → IsRead e → ⊥)
    → (k t : ℕ) (x : Name) (v : ℕ) → slice_get ys k ≡ Some (entry.Read t x v) → (k ≡ 0) × (value_at items es x ≡ Some v)
no_reads_behind items es ys none k t x v at_k =
    absurd (none (entry.Read t x v) (Contains-from_at ys k (entry.Read t x v) at_k) tt)

pub site-written : (items : List Holding) (s : State) (es due : List Entry) → IsLegalSite items s es due
    → IsLegalSite items s (es ++ due) []
site-written items s es due h = record {
  log = subst (IsLegalLog items s) (sym (append-nil (es ++ due))) h.log;
  blocks = blocks-append es due h.blocks h.due_blocks;
  due_blocks = blocks-nil;
  reads = reads-append items es due h.reads (no_reads_behind items es due h.due_reads);
  due_reads = λ e c k. contains-none e c;
}

-- the block of a decision is due
pub site-due : (items : List Holding) (s t : State) (es : List Entry) (i : ℕ) (r : Ruling) (ops : List Entry)
    (last : Entry) (touched : Bool)
    → IsLegalSite items s es [] → IsRuled s → IsFree s i → Decides s i r t → IsBlock items i r ops last
    → ((b : Bool) → AreBlocks (block_of b ops last))
    → ((e : Entry) → Contains es e → tx_of e ≡ i → touched ≡ true) → IsLegalSite items t es (block_of touched ops last)
site-due items s t es i r ops last touched h ruled_ free d b blocks touches_ = record {
  log = decided-legal items s t es i r ops last (subst (IsLegalLog items s) (append-nil es) h.log) ruled_ free d b
      touched touches_;
  blocks = h.blocks;
  due_blocks = blocks touched;
  reads = h.reads;
  due_reads = block_reads items i r ops last b touched;
}
