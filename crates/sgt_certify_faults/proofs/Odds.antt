-- The kinds of end that are asked for, and the decisions that suit them.
use Rattle.std.proofs.Common.{◌≡◌, ◌≢◌, ℕ, suc, Bool, cond, List, [], ◌∷◌, ◌++◌, length, map, take, drop, Option, Some, None, IfSome, refl, sym, ap, ap₂, ◌∙◌, subst, arith, inl, inr, ◌⊎◌, append_assoc, All}
use Rattle.std.specs.Prelude.{slice_get, option_map}
use Rattle.std.specs.List.{filter_map, cons_option}
use Rattle.std.specs.BTreeMap.{get}
use Rattle.std.specs.Ordering.{nat_cmp}
use Rattle.std.proofs.lemmas.Bool.{cases_eq, eq-eqb, ne_eqb}
use Rattle.std.proofs.lemmas.List.{append-nil}
use Rattle.std.proofs.lemmas.List.Elements.{filter_map-append}
use Rattle.std.proofs.lemmas.Option.{none-some, same_Some, slice_get-map}
use Rattle.std.proofs.Math.Seq.{take-append_seam}
use Rattle.sgt_names.specs.Entry.{tx_of}
use Rattle.sgt_names.specs.declared.entry.Entry.{Entry}
use Rattle.sgt_names.specs.declared.entry.Entry.TheVariants as entry
use Rattle.sgt_names.proofs.Lists.{All-weaken, filter_map-none, map_at, middle_at}
use Rattle.sgt_names.proofs.Places.{All_at, AllPairs-from_at, split_at}
use Rattle.sgt_notation.specs.Spelling.{line_text, text_of_lines}
use Rattle.sgt_notation.specs.declared.SectionLine.{SectionLine}
use Rattle.sgt_notation.specs.declared.SectionLine.TheVariants.{Logged}
use Rattle.sgt_bundle.specs.Certificate.{Suits, decided_tx, IsDecidedOnce}
use Rattle.sgt_bundle.specs.Valid.{IsDecided}
use Rattle.sgt_bundle.specs.declared.certificate.Decision.{Decision}
use Rattle.sgt_bundle.specs.declared.certificate.Decision.TheVariants as decision
use Rattle.sgt_audit.specs.Faults.{IsLineIn, logged_in}
use Rattle.sgt_certify_logs.specs.Sound.{EndAlike}
use Rattle.sgt_certify_logs.proofs.Decisions.{one-number}
use Rattle.sgt_certify_faults.specs.declared.asked.Asked.{Asked}
use Rattle.sgt_certify_faults.specs.declared.asked.Asked.TheVariants as asked
use Rattle.sgt_certify_faults.specs.declared.asked.Askings.{Askings}
use Rattle.sgt_certify_faults.specs.private.Asked.{AreAskings, AreDecidedAsAsked, AsksAsDecided, IsAskedIn, asked_end, decision_of, decision_with, end_by, first_end, first_of}
use Rattle.sgt_certify_faults.specs.private.Judging.{TellsOdds}
use Rattle.sgt_audit.proofs.OneFault.{compare}
use Rattle.sgt_audit.proofs.Formats.{lines-of}

-- ---- entries and decisions of one kind

abbrev end_of : Decision → Asked
end_of (decision.Commit tx rank) = asked.Commit
end_of (decision.Refuse tx walk) = asked.Refusal
end_of (decision.Withdraw tx) = asked.Withdrawal

suits-asked : (e : Entry) (d : Decision) → Suits e d → IfSome (asked_end e) (λ a. a ≡ end_of d)
suits-asked (entry.Read tx x v) d suits = tt
suits-asked (entry.Write tx x v) (decision.Commit i rank) suits = refl
suits-asked (entry.Write tx x v) (decision.Refuse i walk) suits = absurd suits
suits-asked (entry.Write tx x v) (decision.Withdraw i) suits = absurd suits
suits-asked (entry.Add tx x v) (decision.Commit i rank) suits = refl
suits-asked (entry.Add tx x v) (decision.Refuse i walk) suits = absurd suits
suits-asked (entry.Add tx x v) (decision.Withdraw i) suits = absurd suits
suits-asked (entry.Want tx x v) (decision.Commit i rank) suits = absurd suits
suits-asked (entry.Want tx x v) (decision.Refuse i walk) suits = refl
suits-asked (entry.Want tx x v) (decision.Withdraw i) suits = absurd suits
suits-asked (entry.WantAdd tx x v) (decision.Commit i rank) suits = absurd suits
suits-asked (entry.WantAdd tx x v) (decision.Refuse i walk) suits = refl
suits-asked (entry.WantAdd tx x v) (decision.Withdraw i) suits = absurd suits
suits-asked (entry.Commit tx) (decision.Commit i rank) suits = refl
suits-asked (entry.Commit tx) (decision.Refuse i walk) suits = absurd suits
suits-asked (entry.Commit tx) (decision.Withdraw i) suits = absurd suits
suits-asked (entry.Refuse tx) (decision.Commit i rank) suits = absurd suits
suits-asked (entry.Refuse tx) (decision.Refuse i walk) suits = refl
suits-asked (entry.Refuse tx) (decision.Withdraw i) suits = absurd suits
suits-asked (entry.Withdraw tx) (decision.Commit i rank) suits = absurd suits
suits-asked (entry.Withdraw tx) (decision.Refuse i walk) suits = absurd suits
suits-asked (entry.Withdraw tx) (decision.Withdraw i) suits = refl

-- entries that are to end alike ask for one kind of end, where both ask
alike-asked : (e f : Entry) (a b : Asked) → asked_end e ≡ Some a → asked_end f ≡ Some b → EndAlike e f → a ≡ b
alike-asked e f a b first second (d, suits, other) =
    let one : a ≡ end_of d = subst (λ o. IfSome o (λ a. a ≡ end_of d)) first (suits-asked e d suits) in
    let two : b ≡ end_of d = subst (λ o. IfSome o (λ a. a ≡ end_of d)) second (suits-asked f d other) in
    one ∙ sym two

-- a decision of the kind that an entry asks for suits it
asked-suits : (e : Entry) (tx : ℕ) → Suits e (decision_with tx (asked_end e))
asked-suits (entry.Read t x v) tx = tt
asked-suits (entry.Write t x v) tx = tt
asked-suits (entry.Add t x v) tx = tt
asked-suits (entry.Want t x v) tx = tt
asked-suits (entry.WantAdd t x v) tx = tt
asked-suits (entry.Commit t) tx = tt
asked-suits (entry.Refuse t) tx = tt
asked-suits (entry.Withdraw t) tx = tt

-- each decision suits an entry that asks for nothing
none-suits : (e : Entry) (d : Decision) → asked_end e ≡ None → Suits e d
none-suits (entry.Read t x v) d none = tt
none-suits (entry.Write t x v) d none = absurd cc
none-suits (entry.Add t x v) d none = absurd cc
none-suits (entry.Want t x v) d none = absurd cc
none-suits (entry.WantAdd t x v) d none = absurd cc
none-suits (entry.Commit t) d none = absurd cc
none-suits (entry.Refuse t) d none = absurd cc
none-suits (entry.Withdraw t) d none = absurd cc

one-kind : (a b : Asked) → (a ≡ b) ⊎ (a ≢ b)
one-kind asked.Commit asked.Commit = inl refl
one-kind asked.Commit asked.Refusal = inr (λ e. cc)
one-kind asked.Commit asked.Withdrawal = inr (λ e. cc)
one-kind asked.Refusal asked.Commit = inr (λ e. cc)
one-kind asked.Refusal asked.Refusal = inl refl
one-kind asked.Refusal asked.Withdrawal = inr (λ e. cc)
one-kind asked.Withdrawal asked.Commit = inr (λ e. cc)
one-kind asked.Withdrawal asked.Refusal = inr (λ e. cc)
one-kind asked.Withdrawal asked.Withdrawal = inl refl

-- ---- the kind that is asked for first

end-here : (tx : ℕ) (e : Entry) → tx_of e ≡ tx → end_by tx e ≡ asked_end e
end-here tx e same = ap (λ b. cond b (asked_end e) None) (eq-eqb (tx_of e) tx same)

end-other : (tx : ℕ) (e : Entry) → tx_of e ≢ tx → end_by tx e ≡ None
end-other tx e other = ap (λ b. cond b (asked_end e) None) (ne_eqb (tx_of e) tx other)

end-of : (tx : ℕ) (e : Entry) (a : Asked) → end_by tx e ≡ Some a → (tx_of e ≡ tx) × (asked_end e ≡ Some a)
end-of tx e a by =
    elim (cases_eq (tx_of e) tx) [
      | inl same ↦ (same, sym (end-here tx e same) ∙ by)
      | inr other ↦ absurd (none-some a (sym (end-other tx e other) ∙ by))
    ]

-- who asks for it
abbrev Asker : ℕ → List Entry → Asked → Type 0
Asker tx es a = (n : ℕ) × ((f : Entry) × (slice_get es n ≡ Some f) × (tx_of f ≡ tx) × (asked_end f ≡ Some a))

later-asker : (tx : ℕ) (e : Entry) (es : List Entry) (a : Asked) → (first_end tx es ≡ Some a → Asker tx es a)
    → (o : Option Asked) → end_by tx e ≡ o
    → slice_get (cons_option o (filter_map (end_by tx) es)) 0 ≡ Some a → Asker tx (e ∷ es) a
later-asker tx e es a later None by at = let more = later at in (suc more.0, more.1)
later-asker tx e es a later (Some b) by at = let own = end-of tx e a (by ∙ at) in (0, (e, refl, own.0, own.1))

first-asker : (tx : ℕ) (es : List Entry) (a : Asked) → first_end tx es ≡ Some a → Asker tx es a
first-asker tx [] a first = absurd (none-some a first)
first-asker tx (e ∷ es) a first = later-asker tx e es a (λ at. first-asker tx es a at) (end_by tx e) refl first

first-cons : (xs ys : List Asked) → slice_get (xs ++ ys) 0 ≡ first_of (slice_get xs 0) (slice_get ys 0)
first-cons [] ys = refl
first-cons (x ∷ xs) ys = refl

first-append : (tx : ℕ) (xs ys : List Entry) → first_end tx (xs ++ ys) ≡ first_of (first_end tx xs) (first_end tx ys)
first-append tx xs ys = ap (λ (kinds : List Asked). slice_get kinds 0) (filter_map-append (end_by tx) xs ys)
    ∙ first-cons (filter_map (end_by tx) xs) (filter_map (end_by tx) ys)

first-single : (o : Option Asked) → slice_get (cons_option o []) 0 ≡ o
first-single None = refl
first-single (Some a) = refl

first-one : (tx : ℕ) (e : Entry) → first_end tx (e ∷ []) ≡ end_by tx e
first-one tx e = first-single (end_by tx e)

first_of-none : (o : Option Asked) → first_of o None ≡ o
first_of-none None = refl
first_of-none (Some a) = refl

-- behind one more entry
pub first-own : (tx : ℕ) (es : List Entry) (e : Entry) → tx_of e ≡ tx
    → first_end tx (es ++ e ∷ []) ≡ first_of (first_end tx es) (asked_end e)
first-own tx es e same = first-append tx es (e ∷ [])
    ∙ ap (first_of (first_end tx es)) (first-one tx e ∙ end-here tx e same)

pub first-others : (tx : ℕ) (es : List Entry) (e : Entry) → tx_of e ≢ tx → first_end tx (es ++ e ∷ []) ≡ first_end tx es
first-others tx es e other = first-append tx es (e ∷ [])
    ∙ ap (first_of (first_end tx es)) (first-one tx e ∙ end-other tx e other) ∙ first_of-none (first_end tx es)

pub first-none : (tx : ℕ) (es : List Entry) → ((n : ℕ) (e : Entry) → slice_get es n ≡ Some e → tx_of e ≢ tx)
    → first_end tx es ≡ None
first-none tx es never =
    ap (λ (kinds : List Asked). slice_get kinds 0)
    (filter_map-none (end_by tx) es (λ n e at. end-other tx e (never n e at)))

-- a decision of the kind that is asked for first suits each entry, or an earlier one asks for another kind
first-decides : (es : List Entry) (n : ℕ) (e : Entry) → slice_get es n ≡ Some e
    → Suits e (decision_with (tx_of e) (first_end (tx_of e) es))
    ⊎ (All (λ f. tx_of f ≡ tx_of e → EndAlike f e) (take n es) → ⊥)
first-decides es n e at = from (asked_end e) refl
  where
    tx : ℕ
    tx = tx_of e

    parts : first_end tx es ≡ first_of (first_end tx (take n es)) (first_end tx (e ∷ drop (suc n) es))
    parts = ap (first_end tx) (split_at es n e at) ∙ first-append tx (take n es) (e ∷ drop (suc n) es)

    own : first_end tx (e ∷ drop (suc n) es) ≡ first_of (asked_end e) (first_end tx (drop (suc n) es))
    own = first-append tx (e ∷ []) (drop (suc n) es)
        ∙ ap (λ o. first_of o (first_end tx (drop (suc n) es))) (first-one tx e ∙ end-here tx e refl)

    from : (o : Option Asked) → asked_end e ≡ o → Suits e (decision_with tx (first_end tx es))
        ⊎ (All (λ f. tx_of f ≡ tx → EndAlike f e) (take n es) → ⊥)
    from None asks = inl (none-suits e (decision_with tx (first_end tx es)) asks)
    from (Some b) asks = earlier (first_end tx (take n es)) refl
      where
        earlier : (o : Option Asked) → first_end tx (take n es) ≡ o → Suits e (decision_with tx (first_end tx es))
            ⊎ (All (λ f. tx_of f ≡ tx → EndAlike f e) (take n es) → ⊥)
        earlier None before =
            let whole = parts
            ∙ ap₂ first_of before (own ∙ ap (λ o. first_of o (first_end tx (drop (suc n) es))) asks) in
            inl (subst (λ o. Suits e (decision_with tx o)) (asks ∙ sym whole) (asked-suits e tx))
        earlier (Some a) before =
            let whole = parts ∙ ap (λ o. first_of o (first_end tx (e ∷ drop (suc n) es))) before in
            elim (one-kind a b) [
              | inl same ↦ inl (subst (λ o. Suits e (decision_with tx o)) (asks ∙ ap Some (sym same)
                  ∙ sym whole) (asked-suits e tx))
              | inr apart ↦ inr (λ all.
                  let f = first-asker tx (take n es) a before in
                  apart (alike-asked f.1.0 e a b f.1.3 asks (All_at (λ f. tx_of f ≡ tx
                  → EndAlike f e) (take n es) f.0 f.1.0 all f.1.1 f.1.2)))
            ]

-- ---- what is kept of the transactions

decided-with : (tx : ℕ) (o : Option Asked) → decided_tx (decision_with tx o) ≡ tx
decided-with tx None = refl
decided-with tx (Some asked.Commit) = refl
decided-with tx (Some asked.Refusal) = refl
decided-with tx (Some asked.Withdrawal) = refl

module _ (es : List Entry) (a : Askings) (are : AreAskings es a) where
  abbrev ds : List Decision
  ds = map decision_of a.list.items

  pub decided-once : IsDecidedOnce ds
  decided-once = AllPairs-from_at (λ d e. decided_tx d ≢ decided_tx e) ds (λ p q d e lt at_p at_q same.
      let k = map_at decision_of a.list.items p d at_p in
      let j = map_at decision_of a.list.items q e at_q in
      let tx : k.0.tx ≡ j.0.tx = sym (decided-with k.0.tx k.0.end) ∙ ap decided_tx k.2 ∙ same
      ∙ sym (ap decided_tx j.2) ∙ decided-with j.0.tx j.0.end in
      let one = same_Some p q (sym (are.placed p k.0 k.1) ∙ ap (get nat_cmp a.numbers) tx ∙ are.placed q j.0 j.1) in
      omega (arith, lt, one))

  pub asks-decided : (n : ℕ) (e : Entry) → slice_get es n ≡ Some e → AsksAsDecided ds (take n es) e
  asks-decided n e at =
      let number = are.all n e at in
      let k = are.found (tx_of e) number.0 number.1 in
      let there : slice_get ds number.0 ≡ Some (decision_of k.0) = slice_get-map decision_of a.list.items number.0
      ∙ ap (option_map decision_of) k.1 in
      let ends = are.ends number.0 k.0 k.1 ∙ ap (λ t. first_end t es) k.2 in
      elim (first-decides es n e at) [
        | inl suits ↦ inl (
          number.0,
          (
            decision_of k.0,
            there,
            decided-with k.0.tx k.0.end
                ∙ k.2,
            subst (Suits e) (ap₂ decision_with (sym k.2) (sym ends)) suits,
          ),
        )
        | inr odds ↦ inr odds
      ]

-- ---- a line behind lines that were read

module _ (second : Bool) (bytes : List ℕ) (ds : List Decision) (are : AreDecidedAsAsked second bytes ds) where
  -- lines at the front of the bytes are the first of those that were asked
  pub front-lines : (xs : List SectionLine) (rest : List ℕ) → All (IsLineIn second) xs
      → bytes ≡ text_of_lines (map line_text xs) ++ rest → (later : List SectionLine) × (are.lines ≡ xs ++ later)
  front-lines xs rest each text =
      elim (compare xs are.lines rest are.front.rest (lines-of second xs each)
      (lines-of second are.lines are.front.each) (sym text ∙ are.front.text)) [
        | inl both ↦ ([], sym both.0 ∙ sym (append-nil xs))
        | inr (inl b) ↦ (b.line ∷ b.more, b.cut)
        | inr (inr b) ↦ absurd (are.front.no_more b.line b.after (in-list xs are.lines b.line b.more b.cut each) b.next)
      ]
    where
      in-list : (xs front : List SectionLine) (line : SectionLine) (more : List SectionLine)
          → xs ≡ front ++ line ∷ more → All (IsLineIn second) xs → IsLineIn second line
      in-list xs front line more cut each =
          All_at (IsLineIn second) xs (length front) line each (ap (λ ls. slice_get ls (length front)) cut
          ∙ middle_at front line more)

  alike-decided : (earlier : List Entry) (e : Entry) → All (λ f. (number : ℕ) × IsDecided ds f number) earlier
      → (number : ℕ) × IsDecided ds e number
      → All (λ f. tx_of f ≡ tx_of e → EndAlike f e) earlier
  alike-decided earlier e all by =
      let d = by.1.0 in
      All-weaken (λ f. (number : ℕ) × IsDecided ds f number) (λ f. tx_of f ≡ tx_of e
      → EndAlike f e) earlier (λ f m same.
      let one = one-number ds (tx_of e) m.0 by.0 are.once (m.1.0, m.1.1, m.1.2 ∙ same) (d, by.1.1, by.1.2) in
      let same_d = same_Some m.1.0 d (sym m.1.1 ∙ ap (slice_get ds) one ∙ by.1.1) in
      (d, subst (Suits f) same_d m.1.3, by.1.3)) all

  pub tells-odds : (before : List SectionLine) (e : Entry) (rest : List ℕ)
      → All (IsLineIn second) (before ++ Logged e ∷ [])
      → bytes ≡ text_of_lines (map line_text (before ++ Logged e ∷ [])) ++ rest
      → All (λ f. (number : ℕ) × IsDecided ds f number) (filter_map logged_in before) → TellsOdds ds before e
  tells-odds before e rest each text decided =
      let f = front-lines (before ++ Logged e ∷ []) rest each text in
      let cut = ap (filter_map logged_in) (f.1 ∙ append_assoc before (Logged e ∷ []) f.0)
      ∙ filter_map-append logged_in before (Logged e ∷ f.0) in
      let n = length (filter_map logged_in before) in
      let asks =
      are.asks n e (ap (λ es. slice_get es n) cut
      ∙ middle_at (filter_map logged_in before) e (filter_map logged_in f.0)) in
      let earlier = ap (take n) cut ∙ take-append_seam (filter_map logged_in before) (e ∷ filter_map logged_in f.0) in (
        alike-decided (filter_map logged_in before) e decided,
        λ all. elim asks [
          | inl by ↦ by
          | inr odds ↦ absurd (odds (subst (All (λ f. tx_of f ≡ tx_of e → EndAlike f e)) (sym earlier) all))
        ],
      )

-- the decisions of the transactions that were asked
pub decided-as_asked : (second : Bool) (bytes : List ℕ) (a : Askings) → IsAskedIn second bytes a
    → AreDecidedAsAsked second bytes (map decision_of a.list.items)
decided-as_asked second bytes a (lines, front, are) = record {
  once = decided-once (filter_map logged_in lines) a are;
  lines = lines;
  front = front;
  asks = asks-decided (filter_map logged_in lines) a are;
}
