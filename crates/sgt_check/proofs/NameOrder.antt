-- The order of names: any two are in it, and keys sort by it.
use Rattle.std.proofs.Common.{◌≡◌, ℕ, ◌<◌, ◌^◌, List, [], ◌∷◌, refl, sym, ap, ap₂, ◌∙◌, subst, arith, inl, inr, ◌⊎◌, decimal, nat_cmp, Less, Equal}
use Rattle.std.specs.Ordering.{ordering_then}
use Rattle.std.specs.declared.cmp.Ordering.{Ordering}
use Rattle.std.specs.Cmp.{nat_cmp_is}
use Rattle.std.specs.Cmp.Lexicographic.{slice_cmp}
use Rattle.std.proofs.lemmas.Bool.{cases_order}
use Rattle.std.proofs.lemmas.Fmt.{decimal_injective}
use Rattle.json.specs.Json.{Json, null, boolean, number, string, array, object}
use Rattle.sgt_history_text.specs.Name.{IsItem}
use Rattle.sgt_check.specs.Key.{IsKeyBefore, IsKeyOf}
use Rattle.sgt_check.specs.Rank.{AreBytesBefore, IsNameBefore}
use Rattle.sgt_check.specs.declared.key.Key.{Key}

-- ---- bytes

pub bytes_total : (s t : List ℕ) → AreBytesBefore s t ⊎ ((s ≡ t) ⊎ AreBytesBefore t s)
bytes_total [] [] = inr (inl refl)
bytes_total [] (y ∷ t) = inl tt
bytes_total (x ∷ s) [] = inr (inr tt)
bytes_total (x ∷ s) (y ∷ t) = elim (cases_order x y) [
  | inl e ↦ elim (bytes_total s t) [
    | inl less ↦ inl (inr (e, less))
    | inr (inl same) ↦ inr (inl (ap₂ (λ (z : ℕ) (zs : List ℕ). z ∷ zs) e same))
    | inr (inr more) ↦ inr (inr (inr (sym e, more)))
  ]
  | inr (inl less) ↦ inl (inl less)
  | inr (inr more) ↦ inr (inr (inl more))
]

pub bytes_less : (s t : List ℕ) → AreBytesBefore s t → slice_cmp nat_cmp s t ≡ Less
bytes_less [] [] h = absurd h
bytes_less (x ∷ s) [] h = absurd h
bytes_less [] (y ∷ t) h = refl
bytes_less (x ∷ s) (y ∷ t) (inl less) =
    ap (λ (o : Ordering). ordering_then o (slice_cmp nat_cmp s t)) (sym (nat_cmp_is x y Less less))
bytes_less (x ∷ s) (y ∷ t) (inr (e, h)) =
    ap (λ (o : Ordering). ordering_then o (slice_cmp nat_cmp s t)) (sym (nat_cmp_is x y Equal e)) ∙ bytes_less s t h

-- ---- names

-- an item is a whole number or a string
item-named : (j : Json) → IsItem j → ((n : ℕ) × (n < 2 ^ 64) × (j ≡ number (decimal n))) ⊎ ((s : List ℕ) × (j ≡ string s))
item-named null is = absurd is
item-named (boolean b) is = absurd is
item-named (number digits) (n, fits, e) = inl (n, fits, ap number e)
item-named (string s) is = inr (s, refl)
item-named (array js) is = absurd is
item-named (object ms) is = absurd is

pub names_total : (a b : Json) → IsItem a → IsItem b → IsNameBefore a b ⊎ ((a ≡ b) ⊎ IsNameBefore b a)
names_total a b is is' = elim (item-named a is) [
  | inl (m, fits, e) ↦ elim (item-named b is') [
    | inl (n, fits', e') ↦
        elim (cases_order m n) [
          | inl same ↦ inr (inl (e ∙ ap (λ (k : ℕ). number (decimal k)) same ∙ sym e'))
          | inr (inl less) ↦
              inl (inl (record { m = m; n = n; first = e; second = e'; rises = less; fits = fits' }))
          | inr (inr more) ↦
              inr (inr (inl (record { m = n; n = m; first = e'; second = e; rises = more; fits = fits })))
        ]
    | inr (t, e') ↦ inl (inr (inl (record { digits = decimal m; s = t; first = e; second = e' })))
  ]
  | inr (s, e) ↦ elim (item-named b is') [
    | inl (n, fits', e') ↦ inr (inr (inr (inl (record { digits = decimal n; s = s; first = e'; second = e }))))
    | inr (t, e') ↦ elim (bytes_total s t) [
      | inl less ↦ inl (inr (inr (record { s = s; t = t; first = e; second = e'; rises = less })))
      | inr (inl same) ↦ inr (inl (e ∙ ap string same ∙ sym e'))
      | inr (inr more) ↦ inr (inr (inr (inr (record { s = t; t = s; first = e'; second = e; rises = more }))))
    ]
  ]
]

-- ---- keys

key-number : (k : Key) (j : Json) (digits : List ℕ) → IsKeyOf j k → j ≡ number digits → IsKeyOf (number digits) k
key-number k j digits is e = subst (λ (i : Json). IsKeyOf i k) e is

key-string : (k : Key) (j : Json) (s : List ℕ) → IsKeyOf j k → j ≡ string s → IsKeyOf (string s) k
key-string k j s is e = subst (λ (i : Json). IsKeyOf i k) e is

pub keys_before : (a b : Json) (k l : Key) → IsKeyOf a k → IsKeyOf b l → IsNameBefore a b → IsKeyBefore k l
keys_before a b k l is is' (inl both) =
    let one = key-number k a (decimal both.m) is both.first in
    let two = key-number l b (decimal both.n) is' both.second in
    let m = decimal_injective both.m k.value (omega (arith, both.rises, both.fits)) one.2 one.1 in
    let n = decimal_injective both.n l.value both.fits two.2 two.1 in
    record { here = inr (inl (one.0 ∙ sym two.0, omega (arith, m, n, both.rises))) }
keys_before a b k l is is' (inr (inl mixed)) =
    let one = key-number k a mixed.digits is mixed.first in
    let two = key-string l b mixed.s is' mixed.second in record { here = inl (one.0, two.0) }
keys_before a b k l is is' (inr (inr both)) =
    let one = key-string k a both.s is both.first in
    let two = key-string l b both.t is' both.second in
    record {
      here = inr (inr (
        one.0 ∙ sym two.0,
        one.1 ∙ sym two.1,
        subst (λ (t : List ℕ). AreBytesBefore k.bytes.items t) (sym two.2)
            (subst (λ (s : List ℕ). AreBytesBefore s both.t) (sym one.2) both.rises),
      ));
    }
