-- The parts of an operation's word: what spells none, what each lacks, and that each has one text.
use Rattle.std.proofs.Common.{◌≡◌, ◌≢◌, ℕ, ◌<◌, ◌^◌, false, List, [], ◌∷◌, refl, sym, ap, ap₂, ◌∙◌, subst, arith, lit<, if◌then◌else◌, Option, Some, None, IfSome, IfNone}
use Rattle.std.specs.Prelude.{decimal, ◌==◌}
use Rattle.std.proofs.lemmas.Bool.{ne_eqb}
use Rattle.std.proofs.lemmas.List.Elements.{All-from_recursion}
use Rattle.sgt_names.specs.Name.{Name, is_name_byte}
use Rattle.sgt_names.proofs.Lists.{heads, tails}
use Rattle.sgt_notation.specs.PrivateEvents.{IsPlace, place_text}
use Rattle.sgt_notation.specs.PrivateScripts.{IsAim, IsTail, IsTotal, aim_text, parts_of, tail_text, total_text}
use Rattle.sgt_notation.specs.Reading.{Finds, SpellsNone}
use Rattle.sgt_notation.specs.Scripts.{IsOp, op_text}
use Rattle.sgt_notation.specs.Spelling.{IsValue}
use Rattle.sgt_notation.specs.declared.script.Op.{Op}
use Rattle.sgt_notation.specs.declared.script.Op.TheVariants.{Read, Put, Add, Sum}
use Rattle.sgt_notation.specs.declared.reading_scripts.Tail.{Tail}
use Rattle.sgt_notation.specs.declared.reading_scripts.Tail.TheVariants.{Nothing, Number, Total}
use Rattle.sgt_notation.proofs.EventParts.{closed-plain, decimal-above, place-one, place-without, value-one}
use Rattle.sgt_notation.proofs.OneSpelling.{HasNot, HasNot-append}
use Rattle.sgt_notation.proofs.Pairs.{Both, IsOne, IsPlain, joined, joined-one}
use Rattle.sgt_notation.proofs.Unspelled.{never}

-- ---- a source and a number

pub total-plain : IsPlain 43 IsPlace place_text
total-plain = place-without 43 (λ n. decimal-above 43 n (lit< tt)) refl refl

total-one : IsOne IsTotal total_text
total-one = joined-one IsPlace place_text 43 IsValue decimal total-plain place-one value-one

-- ---- tails

number-no_total : (v : ℕ) (t : (ℕ × Name) × ℕ) → IsValue v → decimal v ≢ total_text t
number-no_total v t h e =
    never 43 (decimal v) (place_text t.0) (decimal t.1)
    (All-from_recursion (λ b. b ≢ 43) (decimal v) (decimal-above 43 v (lit< tt) h)) e

tail-one : IsOne IsTail tail_text
tail-one Nothing Nothing h g e = refl
tail-one Nothing (Number w) h g e = absurd cc
tail-one Nothing (Total q w) h g e = absurd cc
tail-one (Number v) Nothing h g e = absurd cc
tail-one (Number v) (Number w) h g e = ap Number (value-one v w h g (tails _ _ _ _ e))
tail-one (Number v) (Total q w) h g e = absurd (number-no_total v (q, w) h (tails _ _ _ _ e))
tail-one (Total p v) Nothing h g e = absurd cc
tail-one (Total p v) (Number w) h g e = absurd (number-no_total w (p, v) g (sym (tails _ _ _ _ e)))
tail-one (Total p v) (Total q w) h g e =
    ap (λ (t : (ℕ × Name) × ℕ). Total t.0 t.1) (total-one (p, v) (q, w) h g (tails _ _ _ _ e))

pub tail-none : (bs rest : List ℕ) (b : ℕ) → bs ≡ b ∷ rest → SpellsNone IsValue decimal rest
    → SpellsNone IsTotal total_text rest
    → SpellsNone IsTail tail_text bs
tail-none bs rest b is number total Nothing h e = absurd (let f : b ∷ rest ≡ [] = sym is ∙ e in cc)
tail-none bs rest b is number total (Number v) h e = number v h (tails _ _ _ _ (sym is ∙ e))
tail-none bs rest b is number total (Total p v) h e = total (p, v) h (tails _ _ _ _ (sym is ∙ e))

-- ---- what stands behind the letter

abbrev pub IsInside : (ℕ × Name) × Tail → Type 0
IsInside = Both IsPlace IsTail

abbrev pub inside : (ℕ × Name) × Tail → List ℕ
inside = joined place_text 93 tail_text

aim-one : IsOne IsAim aim_text
aim-one a b h g e = joined-one IsPlace place_text 93 IsTail tail_text closed-plain place-one tail-one a b h g
    (tails _ _ _ _ e)

pub aim-inside : (bs rest : List ℕ) (b : ℕ) → bs ≡ b ∷ rest → SpellsNone IsInside inside rest
    → SpellsNone IsAim aim_text bs
aim-inside bs rest b is none a h e = none a h (tails _ _ _ _ (sym is ∙ e))

-- ---- operations

-- the word of an operation by its parts
abbrev word_of : ℕ × ((ℕ × Name) × Tail) → List ℕ
word_of p = p.0 ∷ aim_text p.1

op-word : (op : Op) → op_text op ≡ word_of (parts_of op)
op-word (Read s x) = refl
op-word (Put s x v) = refl
op-word (Add s x v) = refl
op-word (Sum s x t y v) = refl

op-aims : (op : Op) → IsOp op → IsAim (parts_of op).1
op-aims (Read s x) h = (h, tt)
op-aims (Put s x v) h = h
op-aims (Add s x v) h = h
op-aims (Sum s x t y v) h = h

aims-op : (op : Op) → IsAim (parts_of op).1 → IsOp op
aims-op (Read s x) h = h.0
aims-op (Put s x v) h = h
aims-op (Add s x v) h = h
aims-op (Sum s x t y v) h = h

-- the operation of these parts
abbrev from_parts : ℕ × ((ℕ × Name) × Tail) → Op
from_parts (letter, ((s, x), Nothing)) = Read s x
from_parts (letter, ((s, x), Number v)) = if letter == 119 then Put s x v else Add s x v
from_parts (letter, ((s, x), Total (t, y) v)) = Sum s x t y v

op-parts : (op : Op) → from_parts (parts_of op) ≡ op
op-parts (Read s x) = refl
op-parts (Put s x v) = refl
op-parts (Add s x v) = refl
op-parts (Sum s x t y v) = refl

same-parts : (op : Op) (p : ℕ × ((ℕ × Name) × Tail)) → IsOp op → IsAim p.1 → op_text op ≡ word_of p → parts_of op ≡ p
same-parts op p h g e =
    let same = sym (op-word op) ∙ e in
    ap₂ (λ l a. (l, a)) (heads _ _ _ _ same) (aim-one (parts_of op).1 p.1 (op-aims op h) g (tails _ _ _ _ same))

pub op-one : IsOne IsOp op_text
op-one a b h g e = sym (op-parts a) ∙ ap from_parts (same-parts a (parts_of b) h (op-aims b g) (e ∙ op-word b))
    ∙ op-parts b

pub op-no_aim : (word rest : List ℕ) (b : ℕ) → word ≡ b ∷ rest → SpellsNone IsAim aim_text rest
    → SpellsNone IsOp op_text word
op-no_aim word rest b is none op h e = none (parts_of op).1 (op-aims op h) (tails _ _ _ _ (sym is ∙ e ∙ op-word op))

op-no_kind : (word rest : List ℕ) (b : ℕ) (a : (ℕ × Name) × Tail) → word ≡ b ∷ rest → IsAim a → rest ≡ aim_text a
    → ((op : Op) → parts_of op ≢ (b, a)) → SpellsNone IsOp op_text word
op-no_kind word rest b a is aim spells none op h e =
    none op (same-parts op (b, a) h aim (sym e ∙ is ∙ ap (λ r. b ∷ r) spells))

op-found : (word rest : List ℕ) (b : ℕ) (a : (ℕ × Name) × Tail) (op : Op) → word ≡ b ∷ rest → IsAim a
    → rest ≡ aim_text a
    → parts_of op ≡ (b, a) → IsOp op × (word ≡ op_text op)
op-found word rest b a op is aim spells parts = (
  aims-op op (subst (λ (p : ℕ × ((ℕ × Name) × Tail)). IsAim p.1) (sym parts) aim),
  is ∙ ap (λ r. b ∷ r) spells ∙ sym (ap word_of parts) ∙ sym (op-word op),
)

pub op-finds : (word rest : List ℕ) (b : ℕ) (a : (ℕ × Name) × Tail) (r : Option Op) → word ≡ b ∷ rest
    → IsAim a × (rest ≡ aim_text a)
    → IfSome r (λ op. parts_of op ≡ (b, a)) → IfNone r ((op : Op) → parts_of op ≢ (b, a)) → Finds IsOp op_text word r
op-finds word rest b a (Some op) is aim some none = op-found word rest b a op is aim.0 aim.1 some
op-finds word rest b a None is aim some none = op-no_kind word rest b a is aim.0 aim.1 none

-- ---- what an operation lacks

above : (b c : ℕ) → c < b → b ≢ c
above b c low e = absurd (omega (arith, low, e))

-- a byte below the plus sign
module _ (c : ℕ) (low : c < 43) (other : is_name_byte c ≡ false) where
  digits : (n : ℕ) → n < 2 ^ 64 → HasNot c (decimal n)
  digits n h = decimal-above c n (omega (arith, low)) h

  spot-without : (p : ℕ × Name) → IsPlace p → HasNot c (place_text p)
  spot-without = place-without c digits other (ne_eqb 46 c (above 46 c (omega (arith, low))))

  tail-without : (t : Tail) → IsTail t → HasNot c (tail_text t)
  tail-without Nothing h = tt
  tail-without (Number v) h = (above 61 c (omega (arith, low)), digits v h)
  tail-without (Total p v) h = (
    above 61 c (omega (arith, low)),
    HasNot-append c (place_text p) (43 ∷ decimal v) (spot-without p h.0) (above 43 c low, digits v h.1),
  )

  aim-without : (a : (ℕ × Name) × Tail) → IsAim a → HasNot c (aim_text a)
  aim-without a h = (
    above 91 c (omega (arith, low)),
    HasNot-append c (place_text a.0) (93 ∷ tail_text a.1) (spot-without a.0 h.0) (
      above 93 c (omega (arith, low)),
      tail-without a.1 h.1,
    ),
  )

  pub op-without : (op : Op) → IsOp op → HasNot c (op_text op)
  op-without (Read s x) h = (above 114 c (omega (arith, low)), aim-without ((s, x), Nothing) (h, tt))
  op-without (Put s x v) h = (above 119 c (omega (arith, low)), aim-without ((s, x), Number v) h)
  op-without (Add s x v) h = (above 100 c (omega (arith, low)), aim-without ((s, x), Number v) h)
  op-without (Sum s x t y v) h = (above 119 c (omega (arith, low)), aim-without ((s, x), Total (t, y) v) h)
