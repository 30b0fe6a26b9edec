-- Conflicts shown one behind the other, and counted.
use Rattle.std.proofs.Common.{◌≡◌, ℕ, zero, suc, ◌+◌, ◌-◌, ◌<◌, ◌≤◌, List, [], ◌∷◌, ◌++◌, length, take, Option, Some, None, sym, ap, ◌∙◌, refl, subst, arith, append_assoc, take_all}
use Rattle.std.specs.Prelude.{min}
use Rattle.std.specs.List.{cons_option}
use Rattle.std.proofs.lemmas.Grind.{flat_map-append}
use Rattle.std.proofs.lemmas.List.{append-nil, length-append}
use Rattle.std.proofs.lemmas.List.Elements.{filter_map-append}
use Rattle.sgt_explain_transaction.specs.declared.conflicts.Pair.{Pair}
use Rattle.sgt_explain_transaction.specs.declared.dealings.Own.{Own}
use Rattle.sgt_names.specs.declared.entry.Entry.{Entry}
use Rattle.sgt_explain_transaction.specs.Conflicts.{pair_text, pairs_text}
use Rattle.sgt_explain_transaction.specs.Dealings.{entry_from}
use Rattle.sgt_explain_transaction.specs.Found.{ShowsMore, conflict_with, conflicts_among, conflicts_with}

take-none : {X : Type 0} (r : ℕ) → take {A = X} r [] ≡ []
take-none zero = refl
take-none (suc r) = refl

take-both : {X : Type 0} (r : ℕ) (xs ys : List X) → take r (xs ++ ys) ≡ take r xs ++ take (r - length xs) ys
take-both r [] ys =
    let e : r ≡ r - 0 = omega arith in
    ap (λ k. take k ys) e ∙ sym (ap (λ zs. zs ++ take (r - 0) ys) (take-none r))
take-both zero (x ∷ xs) ys = let e : 0 ≡ 0 - suc (length xs) = omega arith in ap (λ k. take k ys) e
take-both (suc r) (x ∷ xs) ys =
    let e : r - length xs ≡ suc r - suc (length xs) = omega arith in
    ap (λ zs. x ∷ zs) (take-both r xs ys ∙ ap (λ k. take r xs ++ take k ys) e)

pub shows-none : (old : List ℕ) (n : ℕ) → ShowsMore [] old n old n
shows-none old n = record {
  text = sym (append-nil old) ∙ ap (λ ps. old ++ pairs_text ps) (sym (take-none (40 - n)));
  count = omega arith;
}

pub shows-one : (p : Pair) (old : List ℕ) (n : ℕ) (new : List ℕ) (m : ℕ) → n < 40 → m ≡ min (n + 1) 18446744073709551615
    → new ≡ old ++ pair_text p → ShowsMore (p ∷ []) old n new m
shows-one p old n new m few count e = record {
  text = e ∙ ap (λ t. old ++ t) (sym (append-nil (pair_text p)))
      ∙ ap (λ ps. old ++ pairs_text ps) (sym (take_all (40 - n) (p ∷ []) (omega (arith, few))));
  count = omega (arith, count);
}

pub shows-no_more : (p : Pair) (old : List ℕ) (n m : ℕ) → 40 ≤ n → m ≡ min (n + 1) 18446744073709551615
    → ShowsMore (p ∷ []) old n old m
shows-no_more p old n m many count =
    let none : 0 ≡ 40 - n = omega (arith, many) in
    record {
      text = sym (append-nil old) ∙ ap (λ r. old ++ pairs_text (take r (p ∷ []))) none;
      count = omega (arith, count);
    }

pub shows-both : (ps qs : List Pair) (old mid new : List ℕ) (n m k : ℕ) → ShowsMore ps old n mid m
    → ShowsMore qs mid m new k → ShowsMore (ps ++ qs) old n new k
shows-both ps qs old mid new n m k first more =
    let counted = first.count in
    let last = more.count in
    let both = length-append ps qs in
    let left : 40 - n - length ps ≡ 40 - m = omega (arith, counted) in
    let shown : take (40 - n) (ps ++ qs) ≡ take (40 - n) ps ++ take (40 - m) qs =
    take-both (40 - n) ps qs ∙ ap (λ r. take (40 - n) ps ++ take r qs) left in
    record {
      text = more.text ∙ ap (λ t. t ++ pairs_text (take (40 - m) qs)) first.text
          ∙ append_assoc old (pairs_text (take (40 - n) ps)) (pairs_text (take (40 - m) qs))
          ∙ ap (λ t. old ++ t) (sym (flat_map-append pair_text (take (40 - n) ps) (take (40 - m) qs))
          ∙ ap pairs_text (sym shown));
      count = omega (arith, counted, last, both);
    }

-- ---- of one more entry

pub shows-own : (own : List Own) (one other : Own) (old mid new : List ℕ) (n m k : ℕ)
    → ShowsMore (conflicts_with own other) old n mid m → ShowsMore (conflicts_with (one ∷ []) other) mid m new k
    → ShowsMore (conflicts_with (own ++ one ∷ []) other) old n new k
shows-own own one other old mid new n m k first more =
    subst (λ ps. ShowsMore ps old n new k) (sym (filter_map-append (conflict_with other) own (one ∷ [])))
    (shows-both (conflicts_with own other) (conflicts_with (one ∷ []) other) old mid new n m k first more)

pub shows-other : (own read : List Own) (other : Own) (old mid new : List ℕ) (n m k : ℕ)
    → ShowsMore (conflicts_among own read) old n mid m → ShowsMore (conflicts_with own other) mid m new k
    → ShowsMore (conflicts_among own (read ++ other ∷ [])) old n new k
shows-other own read other old mid new n m k first more =
    subst (λ ps. ShowsMore ps old n new k)
    (ap (λ ps. conflicts_among own read ++ ps) (sym (append-nil (conflicts_with own other)))
    ∙ sym (flat_map-append (conflicts_with own) read (other ∷ [])))
    (shows-both (conflicts_among own read) (conflicts_with own other) old mid new n m k first more)

pub shows-found : (own other : Own) (p : Pair) (old : List ℕ) (n : ℕ) (new : List ℕ) (m : ℕ)
    → Some p ≡ conflict_with other own → ShowsMore (p ∷ []) old n new m
    → ShowsMore (conflicts_with (own ∷ []) other) old n new m
shows-found own other p old n new m is shown =
    subst (λ o. ShowsMore (cons_option o []) old n new m) is shown

pub shows-not_found : (own other : Own) (old : List ℕ) (n : ℕ) → None ≡ conflict_with other own
    → ShowsMore (conflicts_with (own ∷ []) other) old n old n
shows-not_found own other old n is = subst (λ o. ShowsMore (cons_option o []) old n old n) is (shows-none old n)

-- ---- of the entry that a line has, if it has one

pub shows-entry : (own read : List Own) (site line : ℕ) (e : Entry) (found : Option Entry) (old mid new : List ℕ)
    (n m k : ℕ) → found ≡ Some e → ShowsMore (conflicts_among own read) old n mid m
    → ShowsMore (conflicts_with own (record { site = site; logged = record { line = line; entry = e } })) mid m new k
    → ShowsMore (conflicts_among own (read ++ cons_option (entry_from site line found) [])) old n new k
shows-entry own read site line e found old mid new n m k is first more =
    subst (λ o. ShowsMore (conflicts_among own (read ++ cons_option (entry_from site line o) [])) old n new k) (sym is)
    (shows-other own read (record { site = site; logged = record { line = line; entry = e } }) old mid new n m k first
    more)

pub shows-no_entry : (own read : List Own) (site line : ℕ) (found : Option Entry) (old new : List ℕ) (n m : ℕ)
    → found ≡ None → ShowsMore (conflicts_among own read) old n new m
    → ShowsMore (conflicts_among own (read ++ cons_option (entry_from site line found) [])) old n new m
shows-no_entry own read site line found old new n m is shown =
    subst (λ o. ShowsMore (conflicts_among own (read ++ cons_option (entry_from site line o) [])) old n new m) (sym is)
    (subst (λ os. ShowsMore (conflicts_among own os) old n new m) (sym (append-nil read)) shown)
