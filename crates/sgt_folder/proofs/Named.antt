-- Names of bundles, one behind the other.
use Rattle.std.proofs.Common.{◌≡◌, ◌≤◌, ◌⊎◌, ◌++◌, ◌∷◌, [], ℕ, List, Option, Some, None, Result, Ok, IfNone, length, max, codes, refl, sym, ap, subst, ◌∙◌, arith, inl, inr}
use Rattle.std.specs.Str.Parse.{AllDigits, IsNumeral, ParsesUnsigned, digits_value}
use Rattle.std.proofs.lemmas.List.{append_cancel_right}
use Rattle.std.proofs.lemmas.Str.Parse.{digits_value_short, numerals_by_value, parse_gives, tells_digits, IsNumeralModel}
use Rattle.sgt_folder.specs.Name.{IsAmong, IsBundleName, IsGreatest}

own : IsNumeralModel (AllDigits 10) (digits_value 10)
own = numerals_by_value (AllDigits 10) tells_digits

-- eight digits are read as a number
pub eight_read : {E : Type 0} (digits : List ℕ) (r : Result ℕ E) → IsNumeral 10 digits → length digits ≡ 8
    → ParsesUnsigned 64 10 digits r → r ≡ Ok (digits_value 10 digits)
eight_read digits r numeral eight parses =
    let short = digits_value_short own digits 8 numeral.1 (omega arith) in
    parse_gives own 64 digits r parses numeral.1 numeral.0 (omega (arith, short))

-- a name is that of one number
one_number : (name : List ℕ) (m n : ℕ) → IsBundleName name m → IsBundleName name n → m ≡ n
one_number name m n p q =
    p.value ∙ (ap (digits_value 10) (append_cancel_right p.digits q.digits (codes ".sgt") (sym p.is ∙ q.is)) ∙ sym q.value)

among_more : (names : List (List ℕ)) (name other : List ℕ) → IsAmong names name → IsAmong (names ++ other ∷ []) name
among_more [] name other h = absurd h
among_more (first ∷ behind) name other h =
    elim h [ inl here ↦ inl here | inr there ↦ inr (among_more behind name other there) ]

among_last : (names : List (List ℕ)) (name : List ℕ) → IsAmong (names ++ name ∷ []) name
among_last [] name = inl refl
among_last (first ∷ behind) name = inr (among_last behind name)

among_parts : (names : List (List ℕ)) (last name : List ℕ) → IsAmong (names ++ last ∷ []) name
    → IsAmong names name ⊎ (last ≡ name)
among_parts [] last name h = elim h [ inl here ↦ inr here | inr there ↦ absurd there ]
among_parts (first ∷ behind) last name h = elim h [
  | inl here ↦ inl (inl here)
  | inr there ↦ elim (among_parts behind last name there) [ inl before ↦ inl (inr before) | inr is ↦ inr is ]
]

pub greatest_none : IsGreatest [] 0
greatest_none = record { above = λ name number among b. absurd among; among = inl refl }

-- the greater of two numbers
greater_of : (m n : ℕ) → ((max m n ≡ m) × (n ≤ m)) ⊎ ((max m n ≡ n) × (m ≤ n))
greater_of m n = grind arith

at_most : (names : List (List ℕ)) (name : List ℕ) (number last : ℕ) → IsGreatest names last → IsBundleName name number
    → (max number last ≡ 0) ⊎ ((n : List ℕ) × IsAmong (names ++ name ∷ []) n × IsBundleName n (max number last))
at_most names name number last g b = elim (greater_of number last) [
  | inl here ↦ inr (name, among_last names name, subst (λ (n : ℕ). IsBundleName name n) (sym here.0) b)
  | inr there ↦ elim g.among [
    | inl zero ↦ inl (there.0 ∙ zero)
    | inr found ↦ inr (
      found.0,
      among_more names found.0 name found.1,
      subst (λ (n : ℕ). IsBundleName found.0 n) (sym there.0) found.2,
    )
  ]
]

-- a bundle's name more
pub greatest_with : (names : List (List ℕ)) (name : List ℕ) (number last : ℕ) → IsGreatest names last
    → IsBundleName name number → IsGreatest (names ++ name ∷ []) (max number last)
greatest_with names name number last g b = record {
  above = λ other n among is. elim (among_parts names name other among) [
    | inl before ↦ (let le : n ≤ last = g.above other n before is in omega arith)
    | inr same ↦ (
        let e : n ≡ number = one_number other n number is (subst (λ (t : List ℕ). IsBundleName t number) same b) in
        omega arith)
  ];
  among = at_most names name number last g b;
}

-- another name more
pub greatest_without : (names : List (List ℕ)) (name : List ℕ) (last : ℕ) → IsGreatest names last
    → ((number : ℕ) → IsBundleName name number → ⊥) → IsGreatest (names ++ name ∷ []) last
greatest_without names name last g none_is = record {
  above = λ other n among is. elim (among_parts names name other among) [
    | inl before ↦ g.above other n before is
    | inr same ↦ absurd (none_is n (subst (λ (t : List ℕ). IsBundleName t n) (sym same) is))
  ];
  among = elim g.among [ inl zero ↦ inl zero | inr found ↦ inr (found.0, among_more names found.0 name found.1, found.2) ];
}

-- nothing is told of a name that is no bundle's
pub none_told : (told : Option ℕ) (name : List ℕ)
    → ((number : ℕ) → IsBundleName name number → (n : ℕ) × (told ≡ Some n))
    → IfNone told ((number : ℕ) → IsBundleName name number → ⊥)
none_told None name h = λ number b. let e : None ≡ Some (h number b).0 = (h number b).1 in cc
none_told (Some n) name h = tt
