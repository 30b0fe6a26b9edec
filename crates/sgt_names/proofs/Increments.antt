-- Increments: in which order changes of one item may be made, and what the last write and the increments behind it
-- leave.
use Rattle.std.proofs.Common.{◌≡◌, ℕ, suc, ◌+◌, ◌%◌, ◌^◌, ◌<◌, Bool, true, List, [], ◌∷◌, ◌++◌, Option, Some, None, refl, sym, ap, ap₂, ◌∙◌, subst, arith, inl, inr, ◌⊎◌}
use Rattle.std.specs.Prelude.{slice_get, fold}
use Rattle.std.specs.List.{filter_map, cons_option, AllByRecursion}
use Rattle.std.specs.Str.{bytes_eq}
use Rattle.std.proofs.lemmas.Bool.{cases_Bool, cases_lt, cases_order, lt-ltb, le-ltb, eq-eqb, ne_eqb, true≢false}
use Rattle.std.proofs.lemmas.List.Elements.{filter_map-append}
use Rattle.std.proofs.lemmas.List.Sums.{fold-append}
use Rattle.std.proofs.lemmas.Option.{cond_some}
use Rattle.std.proofs.lemmas.Slice.Eq.{bytes_eq-Decides}
use Rattle.sgt_names.specs.Name.{Name}
use Rattle.sgt_names.specs.Entry.{tx_of, change_of, Reads, Writes, IsIncrement, IsEnd, IsOpen, GoesOn, Continues, Clash}
use Rattle.sgt_names.specs.Log.{value_with, value_with_any, value_after}
use Rattle.sgt_names.specs.Draft.{added_to}
use Rattle.sgt_names.specs.Sums.{sum_added, Overwrites}
use Rattle.sgt_names.specs.declared.entry.Change.{Change}
use Rattle.sgt_names.specs.declared.entry.Change.TheVariants as change
use Rattle.sgt_names.specs.declared.entry.Entry.{Entry}
use Rattle.sgt_names.specs.declared.entry.Entry.TheVariants.{Read, Write, Add, Want, WantAdd, Commit, Refuse, Withdraw}
use Rattle.sgt_names.specs.declared.entry.Kind.{Kind}
use Rattle.sgt_names.specs.declared.entry.Kind.TheVariants.{Wr, Rw, Ww}
use Rattle.sgt_names.proofs.Lists.{option_cases}
use Rattle.sgt_names.proofs.Chosen.{under, exactly, chosen, chosen-yes, chosen-no, chosen-silent}

-- ---- changes in order

abbrev pub IsAdd : Change → Type 0
IsAdd (change.Put v) = ⊥
IsAdd (change.Add v) = Unit {0}

-- the value after these changes
abbrev pub after_changes : Option ℕ → List Change → Option ℕ
after_changes o cs = fold value_with o cs

-- two increments may change places
adds-swap : (o : Option ℕ) (u v : ℕ)
    → value_with (value_with o (change.Add u)) (change.Add v) ≡ value_with (value_with o (change.Add v)) (change.Add u)
adds-swap None u v = refl
adds-swap (Some w) u v = ap Some (omega arith)

-- a change and an increment behind it are one change
pub added-as_one : (o : Option ℕ) (c : Option Change) (v : ℕ)
    → value_with_any o (Some (added_to c v)) ≡ value_with (value_with_any o c) (change.Add v)
added-as_one o None v = refl
added-as_one o (Some (change.Put u)) v = refl
added-as_one None (Some (change.Add u)) v = refl
added-as_one (Some w) (Some (change.Add u)) v = ap Some (omega arith)

-- an increment may go behind other increments
add-behind : (o : Option ℕ) (u : ℕ) (cs rest : List Change) → AllByRecursion IsAdd cs
    → after_changes o (change.Add u ∷ (cs ++ rest)) ≡ after_changes o (cs ++ change.Add u ∷ rest)
add-behind o u [] rest h = refl
add-behind o u (change.Put v ∷ cs) rest h = absurd h.0
add-behind o u (change.Add v ∷ cs) rest h =
    ap (λ p. after_changes p (cs ++ rest)) (adds-swap o u v) ∙ add-behind (value_with o (change.Add v)) u cs rest h.1

both : (c : Change) (cs : List Change) → AllByRecursion (λ d. IsAdd c × IsAdd d) cs → AllByRecursion IsAdd cs
both c [] h = tt
both c (d ∷ cs) h = (h.0.1, both c cs h.1)

adds_or : (c d : Change) → (IsAdd c × IsAdd d) ⊎ (IsAdd c → IsAdd d → ⊥)
adds_or (change.Put u) d = inr (λ h g. h)
adds_or (change.Add u) (change.Put v) = inr (λ h g. g)
adds_or (change.Add u) (change.Add v) = inl (tt, tt)

joined : {us vs ws zs : List Change} → us ≡ vs → ws ≡ zs → us ++ ws ≡ vs ++ zs
joined p q = ap₂ (λ (a b : List Change). a ++ b) p q

module _ {A : Type 0} (key : A → Option ℕ) (val : A → Option Change) where
  -- changes stand in rising key, but for two increments
  abbrev pub RisesButAdds : List A → Type 0
  RisesButAdds xs = (m n : ℕ) (a b : A) (r s : ℕ) (v w : Change) → m < n → slice_get xs m ≡ Some a
      → slice_get xs n ≡ Some b → key a ≡ Some r → key b ≡ Some s → val a ≡ Some v → val b ≡ Some w
      → (IsAdd v → IsAdd w → ⊥) → r < s

  -- what all changes with a key below k are
  all-chosen : (P : Change → Type 0) (k : ℕ) (xs : List A)
      → ((n : ℕ) (a : A) (r : ℕ) (v : Change) → slice_get xs n ≡ Some a → key a ≡ Some r → val a ≡ Some v → r < k
      → P v) → AllByRecursion P (chosen key val (under k) xs)
  all-chosen P k [] h = tt
  all-chosen P k (x ∷ xs) h =
      let rest = all-chosen P k xs (λ n a r v at ranked gives less. h (suc n) a r v at ranked gives less) in
      elim (option_cases (val x)) [
        | inl none ↦ subst (AllByRecursion P) (sym (chosen-silent key val (under k) x xs none)) rest
        | inr some ↦ elim (option_cases (key x)) [
          | inl none ↦ subst (AllByRecursion P) (sym (chosen-no key val (under k) x xs (ap (under k) none))) rest
          | inr ranked ↦ elim (cases_lt ranked.0 k) [
            | inl less ↦ subst (AllByRecursion P)
                (sym (chosen-yes key val (under k) x xs (ap (under k) ranked.1 ∙ lt-ltb ranked.0 k less)
                ∙ ap (λ o. cons_option o (chosen key val (under k) xs)) some.1))
                (h 0 x ranked.0 some.0 refl ranked.1 some.1 less, rest)
            | inr more ↦ subst (AllByRecursion P)
                (sym (chosen-no key val (under k) x xs (ap (under k) ranked.1 ∙ le-ltb ranked.0 k more))) rest
          ]
        ]
      ]

  -- the change of key k may be made last: a put has nothing of smaller key behind it, an increment only increments
  last-of-key : (c : Change) (cs es : List Change) (o : Option ℕ) → AllByRecursion (λ d. IsAdd c × IsAdd d) cs
      → after_changes o (c ∷ (cs ++ es)) ≡ after_changes o (cs ++ c ∷ es)
  last-of-key c [] es o h = refl
  last-of-key (change.Put v) (d ∷ cs) es o h = absurd h.0.0
  last-of-key (change.Add v) (d ∷ cs) es o h = add-behind o v (d ∷ cs) es (both (change.Add v) (d ∷ cs) h)

  -- the value after the changes of key up to k: first those below it, and then those of k
  pub changes-next : (k : ℕ) (xs : List A) → RisesButAdds xs → (o : Option ℕ)
      → after_changes o (chosen key val (under (k + 1)) xs) ≡ after_changes o
      (chosen key val (under k) xs ++ chosen key val (exactly k) xs)
  changes-next k [] h o = refl
  changes-next k (x ∷ xs) h o =
      let rest = changes-next k xs (λ m n a b r s v w lt. h (suc m) (suc n) a b r s v w (omega arith)) in
      elim (option_cases (val x)) [
        | inl none ↦ ap (after_changes o) (chosen-silent key val (under (k + 1)) x xs none) ∙ rest o
            ∙ sym (ap (after_changes o)
            (joined (chosen-silent key val (under k) x xs none) (chosen-silent key val (exactly k) x xs none)))
        | inr some ↦ elim (option_cases (key x)) [
          | inl none ↦ ap (after_changes o) (chosen-no key val (under (k + 1)) x xs (ap (under (k + 1)) none)) ∙ rest o
              ∙ sym (ap (after_changes o) (joined (chosen-no key val (under k) x xs (ap (under k) none))
              (chosen-no key val (exactly k) x xs (ap (exactly k) none))))
          | inr ranked ↦
              let c = some.0 in
              let r = ranked.0 in
              let with_c = λ (p : Option ℕ → Bool) (hit : p (key x) ≡ true). chosen-yes key val p x xs hit
              ∙ ap (λ q. cons_option q (chosen key val p xs)) some.1 in
              elim (cases_order r k) [
                | inl same ↦
                    let adds =
                    all-chosen (λ d. IsAdd c × IsAdd d) k xs (λ n a s v at key_a val_a less. elim (adds_or c v) [
                      | inl two ↦ two
                      | inr other ↦ let rises : r < s =
                          h 0 (suc n) x a r s c v (omega arith) refl at ranked.1 key_a some.1 val_a other in
                          absurd (omega arith)
                    ]) in
                    ap (after_changes o) (with_c (under (k + 1)) (ap (under (k + 1)) ranked.1
                    ∙ lt-ltb r (k + 1) (omega arith))) ∙ rest (value_with o c)
                    ∙ last-of-key c (chosen key val (under k) xs) (chosen key val (exactly k) xs) o adds
                    ∙ sym (ap (after_changes o)
                    (joined (chosen-no key val (under k) x xs (ap (under k) ranked.1 ∙ le-ltb r k (omega arith)))
                    (with_c (exactly k) (ap (exactly k) ranked.1 ∙ eq-eqb r k same))))
                | inr (inl less) ↦
                    ap (after_changes o) (with_c (under (k + 1)) (ap (under (k + 1)) ranked.1
                    ∙ lt-ltb r (k + 1) (omega arith))) ∙ rest (value_with o c)
                    ∙ sym (ap (after_changes o) (joined (with_c (under k) (ap (under k) ranked.1 ∙ lt-ltb r k less))
                    (chosen-no key val (exactly k) x xs (ap (exactly k) ranked.1
                    ∙ ne_eqb r k (λ e. absurd (omega arith))))))
                | inr (inr more) ↦
                    ap (after_changes o) (chosen-no key val (under (k + 1)) x xs (ap (under (k + 1)) ranked.1
                    ∙ le-ltb r (k + 1) (omega arith))) ∙ rest o
                    ∙ sym (ap (after_changes o)
                    (joined (chosen-no key val (under k) x xs (ap (under k) ranked.1 ∙ le-ltb r k (omega arith)))
                    (chosen-no key val (exactly k) x xs (ap (exactly k) ranked.1
                    ∙ ne_eqb r k (λ e. absurd (omega arith))))))
              ]
        ]
      ]

-- ---- entries that change an item

-- what changes an item counts as a write of it, and what adds to it is an increment
pub change-writes : (x : Name) (e : Entry) (c : Change) → change_of x e ≡ Some c → Writes x e
change-writes x (Write tx y v) c h = (bytes_eq-Decides y x).0 (cond_some (bytes_eq y x) (change.Put v) c h).0
change-writes x (Add tx y v) c h = (bytes_eq-Decides y x).0 (cond_some (bytes_eq y x) (change.Add v) c h).0
change-writes x _ c h = absurd cc

pub change-adds : (x : Name) (e : Entry) (c : Change) → change_of x e ≡ Some c → IsIncrement e → IsAdd c
change-adds x (Add tx y v) c h is = subst IsAdd (cond_some (bytes_eq y x) (change.Add v) c h).1 tt
change-adds x (WantAdd tx y v) c h is = absurd cc
change-adds x _ c h is = absurd (true≢false (sym is))

-- the entry changes its item
abbrev pub IsChange : Entry → Type 0
IsChange (Write tx x v) = Unit {0}
IsChange (Add tx x v) = Unit {0}
IsChange _ = ⊥

pub change-is : (x : Name) (e : Entry) (c : Change) → change_of x e ≡ Some c → IsChange e
change-is x (Write tx y v) c h = tt
change-is x (Add tx y v) c h = tt
change-is x _ c h = absurd cc

pub change-opens : (e : Entry) → IsChange e → IsOpen e
change-opens (Write tx x v) is = tt
change-opens (Add tx x v) is = tt
change-opens _ is = absurd is

pub change-goes_on : (e f : Entry) → IsChange e → Continues e f → GoesOn (tx_of e) f
change-goes_on (Write tx x v) f is next = next
change-goes_on (Add tx x v) f is next = next
change-goes_on _ f is next = absurd is

-- a block goes on to a further change or to its end
pub goes_on_cases : (i : ℕ) (f : Entry) → GoesOn i f → (i ≡ tx_of f) × (IsChange f ⊎ IsEnd f)
goes_on_cases i (Write j x v) h = (h, inl tt)
goes_on_cases i (Add j x v) h = (h, inl tt)
goes_on_cases i (Commit j) h = (h, inr tt)
goes_on_cases i _ h = absurd h

-- the order of two neighbouring increments changes no value
pub increments-swap : (o : Option ℕ) (front back : List Entry) (a b : Entry) (x : Name) → IsIncrement a
    → IsIncrement b → value_after o (front ++ a ∷ b ∷ back) x ≡ value_after o (front ++ b ∷ a ∷ back) x
increments-swap o front back a b x is_a is_b =
    let before = filter_map (change_of x) front in
    let after = filter_map (change_of x) back in
    let p = after_changes o before in
    let whole = λ (d e : Entry). ap (after_changes o) (filter_map-append (change_of x) front (d ∷ e ∷ back))
    ∙ fold-append value_with o before (filter_map (change_of x) (d ∷ e ∷ back)) in
    whole a b ∙ elim (option_cases (change_of x a)) [
      | inl none ↦ ap (λ t. after_changes p (cons_option t (cons_option (change_of x b) after))) none
          ∙ sym (ap (λ t. after_changes p (cons_option (change_of x b) (cons_option t after))) none)
      | inr first ↦ elim (option_cases (change_of x b)) [
        | inl none ↦ ap (λ t. after_changes p (cons_option (change_of x a) (cons_option t after))) none
            ∙ sym (ap (λ t. after_changes p (cons_option t (cons_option (change_of x a) after))) none)
        | inr second ↦
            ap₂ (λ t u. after_changes p (cons_option t (cons_option u after))) first.1 second.1
            ∙ ap (λ q. after_changes q after) (swap first.0 second.0 p (change-adds x a first.0 first.1 is_a)
            (change-adds x b second.0 second.1 is_b))
            ∙ sym (ap₂ (λ t u. after_changes p (cons_option u (cons_option t after))) first.1 second.1)
      ]
    ] ∙ sym (whole b a)
  where
    swap : (c d : Change) (q : Option ℕ) → IsAdd c → IsAdd d
        → value_with (value_with q c) d ≡ value_with (value_with q d) c
    swap (change.Add u) (change.Add v) q h g = adds-swap q u v
    swap (change.Put u) d q h g = absurd h
    swap (change.Add u) (change.Put v) q h g = absurd g

-- ---- what the last write and the increments behind it leave

-- entries that don't overwrite the item add to it
sum-is : (x : Name) (u : ℕ) (es : List Entry) → u < 2 ^ 64 → AllByRecursion (λ e. Overwrites x e → ⊥) es
    → value_after (Some u) es x ≡ Some ((u + sum_added x es) % 2 ^ 64)
sum-is x u [] small h = ap Some (omega arith)
sum-is x u (Add tx y v ∷ es) small h =
    elim (cases_Bool (bytes_eq y x)) [
      | inl hit ↦ rw hit (sum-is x ((u + v) % 2 ^ 64) es (omega arith) h.1 ∙ ap Some (omega arith))
      | inr miss ↦ rw miss (sum-is x u es small h.1 ∙ ap (λ n. Some ((u + n) % 2 ^ 64)) (omega arith))
    ]
sum-is x u (Write tx y v ∷ es) small h =
    elim (cases_Bool (bytes_eq y x)) [
      | inl hit ↦ absurd (h.0 ((bytes_eq-Decides y x).0 hit))
      | inr miss ↦ rw miss (sum-is x u es small h.1)
    ]
sum-is x u (Read tx y v ∷ es) small h = sum-is x u es small h.1
sum-is x u (Want tx y v ∷ es) small h = sum-is x u es small h.1
sum-is x u (WantAdd tx y v ∷ es) small h = sum-is x u es small h.1
sum-is x u (Commit tx ∷ es) small h = sum-is x u es small h.1
sum-is x u (Refuse tx ∷ es) small h = sum-is x u es small h.1
sum-is x u (Withdraw tx ∷ es) small h = sum-is x u es small h.1

pub value-from_first : (u : ℕ) (es : List Entry) (x : Name) → u < 2 ^ 64 → AllByRecursion (λ e. Overwrites x e → ⊥) es
    → value_after (Some u) es x ≡ Some ((u + sum_added x es) % 2 ^ 64)
value-from_first u es x = sum-is x u es

pub value-from_write : (o : Option ℕ) (front back : List Entry) (tx v : ℕ) (x : Name) → v < 2 ^ 64
    → AllByRecursion (λ e. Overwrites x e → ⊥) back
    → value_after o (front ++ Write tx x v ∷ back) x ≡ Some ((v + sum_added x back) % 2 ^ 64)
value-from_write o front back tx v x small h =
    ap (after_changes o) (filter_map-append (change_of x) front (Write tx x v ∷ back))
    ∙ fold-append value_with o (filter_map (change_of x) front) (filter_map (change_of x) (Write tx x v ∷ back))
    ∙ rw ((bytes_eq-Decides x x).1 refl) (sum-is x v back small h)

-- ---- conflicts

no_read : (x : Name) (e : Entry) → IsIncrement e → Reads x e → ⊥
no_read x (Read tx y v) is reads = true≢false (sym is)
no_read x _ is reads = reads

pub increments-no_clash : (kind : Kind) (x : Name) (e f : Entry) → IsIncrement e → IsIncrement f → Clash kind x e f → ⊥
increments-no_clash Wr x e f is_e is_f c = no_read x f is_f c.1
increments-no_clash Rw x e f is_e is_f c = no_read x e is_e c.0
increments-no_clash Ww x e f is_e is_f c = c.2 is_e is_f
