-- The parts of the line of an event: what each lacks, what spells none, and that each has one text.
use Rattle.std.proofs.Common.{◌≡◌, ◌≢◌, ℕ, ◌<◌, ◌^◌, false, List, [], ◌∷◌, ◌++◌, All, refl, ap, arith, lit<}
use Rattle.std.specs.Prelude.{decimal, ◌==◌}
use Rattle.std.specs.Str.Parse.{AllDigits}
use Rattle.std.proofs.lemmas.Bool.{eqb-false}
use Rattle.std.proofs.lemmas.Fmt.{decimal_is_IsNumeral, decimal_injective}
use Rattle.std.proofs.lemmas.Str.Parse.{digit_from_value}
use Rattle.sgt_names.specs.Name.{Name, IsName, is_name_byte}
use Rattle.sgt_notation.specs.PrivateEvents.{IsPlace, IsAccess, IsUpdate, IsVisit, place_text, access_text, update_text, visit_text}
use Rattle.sgt_notation.specs.Reading.{SpellsNone}
use Rattle.sgt_notation.specs.Spelling.{IsSite, IsTx, IsValue}
use Rattle.sgt_notation.proofs.OneSpelling.{HasNot, HasNot-append, decimal-without, name-without, small-tx}
use Rattle.sgt_notation.proofs.Pairs.{Both, IsCut, IsOne, IsPlain, joined, joined-one, not_first, not_second, uncut}

-- ---- what a part lacks

digits-above : (c : ℕ) → c < 48 → (ds : List ℕ) → AllDigits 10 ds → HasNot c ds
digits-above c low [] h = tt
digits-above c low (d ∷ ds) h = (
  λ e. let r = digit_from_value d h.0 in absurd (omega (arith, r.0, r.1)),
  digits-above c low ds h.1,
)

pub decimal-above : (c n : ℕ) → c < 48 → n < 2 ^ 64 → HasNot c (decimal n)
decimal-above c n low small = digits-above c low (decimal n) (decimal_is_IsNumeral n small).0.1

pub small-site : (s : ℕ) → IsSite s → s < 2 ^ 64
small-site s h = omega (arith, h)

-- a byte that no number and no name has
module _ (c : ℕ) (digits : (n : ℕ) → n < 2 ^ 64 → HasNot c (decimal n)) (other : is_name_byte c ≡ false) where
  pub place-without : (46 == c) ≡ false → (p : ℕ × Name) → IsPlace p → HasNot c (place_text p)
  place-without dot p h =
      HasNot-append c (decimal p.0) (46 ∷ p.1) (digits p.0 (small-site p.0 h.0)) (
        eqb-false 46 c dot,
        name-without c other p.1 h.1,
      )

  pub access-without : (46 == c) ≡ false → (91 == c) ≡ false → (93 == c) ≡ false → (a : ℕ × (ℕ × Name)) → IsAccess a
      → HasNot c (access_text a)
  access-without dot opens closes a h =
      HasNot-append c (decimal a.0) (91 ∷ (place_text a.1 ++ 93 ∷ [])) (digits a.0 (small-tx a.0 h.0)) (
        eqb-false 91 c opens,
        HasNot-append c (place_text a.1) (93 ∷ []) (place-without dot a.1 h.1)
            (eqb-false 93 c closes, tt),
      )

  pub update-without : (46 == c) ≡ false → (91 == c) ≡ false → (93 == c) ≡ false → (61 == c) ≡ false
      → (u : (ℕ × (ℕ × Name)) × ℕ)
      → IsUpdate u → HasNot c (update_text u)
  update-without dot opens closes equals u h =
      HasNot-append c (access_text u.0) (61 ∷ decimal u.1) (access-without dot opens closes u.0 h.0)
      (eqb-false 61 c equals, digits u.1 h.1)

  pub visit-without : (64 == c) ≡ false → (v : ℕ × ℕ) → IsVisit v → HasNot c (visit_text v)
  visit-without at v h =
      HasNot-append c (decimal v.0) (64 ∷ decimal v.1) (digits v.0 (small-tx v.0 h.0)) (
        eqb-false 64 c at,
        digits v.1 (small-site v.1 h.1),
      )

-- no first part has the byte at which it is cut
pub site-plain : IsPlain 46 IsSite decimal
site-plain s h = decimal-above 46 s (lit< tt) (small-site s h)

opened-plain : IsPlain 91 IsTx decimal
opened-plain tx h = decimal-without 91 tx (lit< tt) (small-tx tx h)

pub closed-plain : IsPlain 93 IsPlace place_text
closed-plain = place-without 93 (λ n. decimal-without 93 n (lit< tt)) refl refl

pub access-plain : IsPlain 61 IsAccess access_text
access-plain = access-without 61 (λ n. decimal-without 61 n (lit< tt)) refl refl refl refl

pub visit-plain : IsPlain 64 IsTx decimal
visit-plain tx h = decimal-without 64 tx (lit< tt) (small-tx tx h)

-- ---- `TX[SITE.NAME]`: behind the closing bracket stands nothing

abbrev IsNothing : Unit {0} → Type 0
IsNothing u = Unit {0}

abbrev nothing : Unit {0} → List ℕ
nothing u = []

abbrev IsClosed : (ℕ × Name) × Unit {0} → Type 0
IsClosed = Both IsPlace IsNothing

abbrev closed : (ℕ × Name) × Unit {0} → List ℕ
closed = joined place_text 93 nothing

as_access : (bs : List ℕ) → SpellsNone (Both IsTx IsClosed) (joined decimal 91 closed) bs
    → SpellsNone IsAccess access_text bs
as_access bs none a is = none (a.0, (a.1, tt)) (is.0, (is.1, tt))

pub access-unopened : (bs : List ℕ) → All (λ b. b ≢ 91) bs → SpellsNone IsAccess access_text bs
access-unopened bs h = as_access bs (uncut IsTx decimal 91 IsClosed closed opened-plain bs h)

module _ (bs x y : List ℕ) (opens : IsCut 91 bs x y) where
  pub access-not_tx : SpellsNone IsTx decimal x → SpellsNone IsAccess access_text bs
  access-not_tx none = as_access bs (not_first IsTx decimal 91 IsClosed closed opened-plain bs x y opens none)

  not_closed : SpellsNone IsClosed closed y → SpellsNone IsAccess access_text bs
  not_closed none = as_access bs (not_second IsTx decimal 91 IsClosed closed opened-plain bs x y opens none)

  pub access-unclosed : All (λ b. b ≢ 93) y → SpellsNone IsAccess access_text bs
  access-unclosed none = not_closed (uncut IsPlace place_text 93 IsNothing nothing closed-plain y none)

  pub access-not_place : (i l : List ℕ) → IsCut 93 y i l → SpellsNone IsPlace place_text i
      → SpellsNone IsAccess access_text bs
  access-not_place i l closes none =
      not_closed (not_first IsPlace place_text 93 IsNothing nothing closed-plain y i l closes none)

  pub access-not_last : (i l : List ℕ) → IsCut 93 y i l → (l ≡ [] → ⊥) → SpellsNone IsAccess access_text bs
  access-not_last i l closes more =
      not_closed (not_second IsPlace place_text 93 IsNothing nothing closed-plain y i l closes (λ u is. more))

-- ---- each part has one text

pub tx-one : IsOne IsTx decimal
tx-one t u h g e = decimal_injective t u (small-tx t h) (small-tx u g) e

pub site-one : IsOne IsSite decimal
site-one t u h g e = decimal_injective t u (small-site t h) (small-site u g) e

pub value-one : IsOne IsValue decimal
value-one = decimal_injective

pub place-one : IsOne IsPlace place_text
place-one = joined-one IsSite decimal 46 IsName (λ x. x) site-plain site-one (λ x y h g e. e)

closed-one : IsOne IsClosed closed
closed-one = joined-one IsPlace place_text 93 IsNothing nothing closed-plain place-one (λ u v h g e. refl)

pub access-one : IsOne IsAccess access_text
access-one a b h g e =
    let one = joined-one IsTx decimal 91 IsClosed closed opened-plain tx-one closed-one in
    let same = one (a.0, (a.1, tt)) (b.0, (b.1, tt)) (h.0, (h.1, tt)) (g.0, (g.1, tt)) e in
    ap (λ (p : ℕ × ((ℕ × Name) × Unit {0})). (p.0, p.1.0)) same

pub update-one : IsOne IsUpdate update_text
update-one = joined-one IsAccess access_text 61 IsValue decimal access-plain access-one value-one

pub visit-one : IsOne IsVisit visit_text
visit-one = joined-one IsTx decimal 64 IsSite decimal visit-plain tx-one site-one
