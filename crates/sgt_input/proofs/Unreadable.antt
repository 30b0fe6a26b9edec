-- Bytes are the lines of an input or have a first line that can't be read, not both, and one such line.
use Rattle.std.proofs.Common.{◌≡◌, ◌≢◌, ◌==◌, ℕ, zero, suc, true, false, ◌+◌, ◌<◌, ◌≤◌, List, [], ◌∷◌, ◌++◌, length, take, refl, sym, ap, ap₂, ◌∙◌, subst, arith, inl, inr, ◌⊎◌, append_assoc}
use Rattle.std.specs.Prelude.{Bool}
use Rattle.std.specs.List.{AllByRecursion}
use Rattle.std.proofs.lemmas.Bool.{eqb-false, eqb-true}
use Rattle.std.proofs.lemmas.List.{append-nil, length-append}
use Rattle.std.proofs.lemmas.List.Elements.{recursion_from_All}
use Rattle.sgt_names.proofs.Lists.{list_cases}
use Rattle.sgt_names.specs.Limits.{max_line}
use Rattle.sgt_notation.specs.Lines.{IsLongerThan}
use Rattle.sgt_notation.specs.Spelling.{text_of_lines}
use Rattle.sgt_notation.specs.declared.fault.NotationFault.{NotationFault}
use Rattle.sgt_notation.specs.declared.fault.NotationFault.TheVariants.{NotALine, TooLong, Memory}
use Rattle.sgt_notation.specs.declared.lines.Next.TheVariants as next
use Rattle.sgt_notation.proofs.OneNext.{next-one}
use Rattle.sgt_notation.proofs.OneSpelling.{HasNot, cut_at_byte}
use Rattle.sgt_notation.proofs.Unspelled.{never}
use Rattle.sgt_input.specs.Unreadable.{Blocks, IsFirstUnreadable}
use Rattle.sgt_notation.proofs.Texts.{line_front, text-one_line}
use Rattle.sgt_input.proofs.ReadOrNot.{no_lf}
use Rattle.sgt_names.proofs.Elements.{no_line}

pub nonempty : {A : Type 0} (x : A) (xs : List A) → x ∷ xs ≡ [] → ⊥
nonempty x xs e = absurd cc

-- a line that is short, and has no LF
abbrev pub IsPlain : List ℕ → Type 0
IsPlain line = HasNot 10 line × (length line ≤ max_line)

-- with its lines an input begins with the first of them, and each is plain
pub record AreInputs (begins : List (List ℕ) → Type 0) : Type 0 where
  pub none : begins []
  pub front : (xs zs : List (List ℕ)) → begins (xs ++ zs) → begins xs
  pub plain : (xs : List (List ℕ)) → begins xs → AllByRecursion IsPlain xs

plain-last : (xs : List (List ℕ)) (z : List ℕ) → AllByRecursion IsPlain (xs ++ z ∷ []) → IsPlain z
plain-last [] z all = all.0
plain-last (x ∷ xs) z all = plain-last xs z all.1

pub plain-no_lf : (xs : List (List ℕ)) → AllByRecursion IsPlain xs → AllByRecursion (HasNot 10) xs
plain-no_lf [] all = tt
plain-no_lf (x ∷ xs) all = (all.0.0, plain-no_lf xs all.1)

-- ---- what blocks an input

line-not_long : next.Line ≡ next.TooLong → ⊥
line-not_long e = absurd cc

-- ---- two ways through the same bytes

-- the lines of the one go on from those of the other
abbrev IsBehind : (xs ys : List (List ℕ)) (r s : List ℕ) → Type 0
IsBehind xs ys r s = (zs : List (List ℕ)) × (ys ≡ xs ++ zs) × (r ≡ text_of_lines zs ++ s)

two-ways : (xs ys : List (List ℕ)) (r s : List ℕ) → AllByRecursion (HasNot 10) xs → AllByRecursion (HasNot 10) ys
    → text_of_lines xs ++ r ≡ text_of_lines ys ++ s
    → IsBehind xs ys r s ⊎ IsBehind ys xs s r
two-ways [] ys r s h g e = inl (ys, refl, e)
two-ways (x ∷ xs) [] r s h g e = inr (x ∷ xs, refl, sym e)
two-ways (x ∷ xs) (y ∷ ys) r s h g e =
    let cut = cut_at_byte 10 x y (text_of_lines xs ++ r) (text_of_lines ys ++ s) h.0 g.0 (sym (line_front x xs r) ∙ e
    ∙ line_front y ys s) in
    longer cut.0 (two-ways xs ys r s h.1 g.1 cut.1)
  where
    longer : x ≡ y → IsBehind xs ys r s ⊎ IsBehind ys xs s r
        → IsBehind (x ∷ xs) (y ∷ ys) r s ⊎ IsBehind (y ∷ ys) (x ∷ xs) s r
    longer same (inl b) = inl (b.0, ap₂ (λ l ls. l ∷ ls) (sym same) b.1, b.2)
    longer same (inr b) = inr (b.0, ap₂ (λ l ls. l ∷ ls) same b.1, b.2)

-- a text that is over goes on with nothing
nothing-behind : (xs ys : List (List ℕ)) (r : List ℕ) → IsBehind xs ys [] r → (ys ≡ xs) × (r ≡ [])
nothing-behind xs ys r ([], more, text) = (more ∙ append-nil xs, sym text)
nothing-behind xs ys r (z ∷ zs, more, text) =
    absurd (no_line z (text_of_lines zs ++ r) (sym (text ∙ line_front z zs r)))

-- ---- one of the two there is

-- the line that comes
record HasLine (limit : ℕ) (bytes : List ℕ) : Type 0 where
  line : List ℕ
  more : List ℕ
  none : HasNot 10 line
  short : length line ≤ limit
  text : bytes ≡ line ++ 10 ∷ more

-- what comes of bytes: they are over with no LF, or a line, or they are longer than the limit
abbrev Comes : ℕ → List ℕ → Type 0
Comes limit bytes = (HasNot 10 bytes × (length bytes ≤ limit))
    ⊎ (HasLine limit bytes ⊎ ((limit < length bytes) × HasNot 10 (take (suc limit) bytes)))

comes : (limit : ℕ) (bytes : List ℕ) → Comes limit bytes
comes limit [] = inl (tt, omega arith)
comes zero (b ∷ bs) = by (b == 10) refl
  where
    by : (t : Bool) → (b == 10) ≡ t → Comes zero (b ∷ bs)
    by true is =
        inr (inl (record {
          line = [];
          more = bs;
          none = tt;
          short = omega arith;
          text =
              ap (λ c. c ∷ bs) (eqb-true b 10 is);
        }))
    by false is = inr (inr (omega arith, (eqb-false b 10 is, tt)))
comes (suc k) (b ∷ bs) = by (b == 10) refl (comes k bs)
  where
    by : (t : Bool) → (b == 10) ≡ t → Comes k bs → Comes (suc k) (b ∷ bs)
    by true is rest =
        inr (inl (record {
          line = [];
          more = bs;
          none = tt;
          short = omega arith;
          text =
              ap (λ c. c ∷ bs) (eqb-true b 10 is);
        }))
    by false is (inl h) = inl ((eqb-false b 10 is, h.0), omega (arith, h.1))
    by false is (inr (inl l)) =
        inr (inl (record {
          line = b ∷ l.line;
          more = l.more;
          none = (eqb-false b 10 is, l.none);
          short =
              omega (arith, l.short);
          text = ap (λ cs. b ∷ cs) l.text;
        }))
    by false is (inr (inr h)) = inr (inr (omega (arith, h.0), (eqb-false b 10 is, h.1)))

shorter : (limit k : ℕ) (rest : List ℕ) (l : HasLine limit rest) → length rest ≤ suc k → length l.more ≤ k
shorter limit k rest l size = omega (arith, size, ap length l.text, length-append l.line (10 ∷ l.more))

module _ (begins : List (List ℕ) → Type 0) (are : AreInputs begins) where
  -- an input that goes on with a line isn't blocked there
  goes-on : (before : List (List ℕ)) (z more : List ℕ) (f : NotationFault) → begins (before ++ z ∷ []) → IsPlain z
      → Blocks begins before (z ++ 10 ∷ more) f → ⊥
  goes-on before z more NotALine begun plain (inl m) =
      let same = cut_at_byte 10 m.line z m.more more (recursion_from_All (λ b. b ≢ 10) m.line m.none) plain.0
      (sym m.text) in
      m.not (subst (λ (t : List ℕ). begins (before ++ t ∷ [])) (sym same.0) begun)
  goes-on before z more NotALine begun plain (inr k) = never 10 (z ++ 10 ∷ more) z more k.none refl
  goes-on before z more TooLong begun plain long =
      let same = next-one max_line (z ++ 10 ∷ more) next.Line next.TooLong z [] more (z ++ 10 ∷ more)
      (no_lf z plain.0, plain.1, refl) (long, refl) in
      line-not_long same.0
  goes-on before z more Memory begun plain blocks = blocks

  -- nor where no byte comes, behind some line
  at-end : (before : List (List ℕ)) (rest : List ℕ) (f : NotationFault) → rest ≡ [] → before ≢ []
      → Blocks begins before rest f → ⊥
  at-end before rest NotALine none some (inl m) = no_line m.line m.more (sym m.text ∙ none)
  at-end before rest NotALine none some (inr k) = some (k.empty none)
  at-end before rest TooLong none some long = absurd (omega (arith, long.0, ap length none))
  at-end before rest Memory none some blocks = blocks

  -- what isn't a line isn't too long
  not-long : (before : List (List ℕ)) (rest : List ℕ) → Blocks begins before rest NotALine
      → IsLongerThan max_line rest → ⊥
  not-long before rest (inl m) long =
      let same = next-one max_line rest next.Line next.TooLong m.line [] m.more rest (m.none, m.short, m.text) (
        long,
        refl,
      ) in
      line-not_long same.0
  not-long before rest (inr k) long = absurd (omega (arith, k.short, long.0))

  -- one fault blocks
  one-fault : (xs ys : List (List ℕ)) (rest : List ℕ) (f g : NotationFault) → Blocks begins xs rest f
      → Blocks begins ys rest g → f ≡ g
  one-fault xs ys rest NotALine NotALine a b = refl
  one-fault xs ys rest TooLong TooLong a b = refl
  one-fault xs ys rest NotALine TooLong a b = absurd (not-long xs rest a b)
  one-fault xs ys rest TooLong NotALine a b = absurd (not-long ys rest b a)
  one-fault xs ys rest Memory g a b = absurd a
  one-fault xs ys rest f Memory a b = absurd b

  not-further : (before : List (List ℕ)) (z : List ℕ) (zs : List (List ℕ)) (s : List ℕ) (f : NotationFault)
      → begins (before ++ z ∷ zs) → Blocks begins before (text_of_lines (z ∷ zs) ++ s) f → ⊥
  not-further before z zs s f begun blocks =
      let next = are.front (before ++ z ∷ []) zs (subst begins (sym (append_assoc before (z ∷ []) zs)) begun) in
      goes-on before z (text_of_lines zs ++ s) f next (plain-last before z (are.plain (before ++ z ∷ []) next))
      (subst (λ (t : List ℕ). Blocks begins before t f) (line_front z zs s) blocks)

  -- what blocks behind the one blocks at the same place behind the other, or not at all
  same-place : (xs ys : List (List ℕ)) (r s : List ℕ) (f : NotationFault) → begins ys → Blocks begins xs r f
      → IsBehind xs ys r s → (ys ≡ xs) × (r ≡ s)
  same-place xs ys r s f begun blocks ([], more, text) = (more ∙ append-nil xs, text)
  same-place xs ys r s f begun blocks (z ∷ zs, more, text) =
      absurd (not-further xs z zs s f (subst begins more begun)
      (subst (λ (t : List ℕ). Blocks begins xs t f) text blocks))

  begins-no_lf : (xs : List (List ℕ)) → begins xs → AllByRecursion (HasNot 10) xs
  begins-no_lf xs begun = plain-no_lf xs (are.plain xs begun)

  pub lines-one_fault : (bytes : List ℕ) (n m : ℕ) (f g : NotationFault) → IsFirstUnreadable begins bytes n f
      → IsFirstUnreadable begins bytes m g → (n ≡ m) × (f ≡ g)
  lines-one_fault bytes n m f g u v =
      by (two-ways u.before v.before u.rest v.rest (begins-no_lf u.before u.begun) (begins-no_lf v.before v.begun)
      (sym u.text ∙ v.text))
    where
      same : v.before ≡ u.before → u.rest ≡ v.rest → (n ≡ m) × (f ≡ g)
      same lines rest =
          let number : n ≡ m = omega (arith, u.number, v.number, ap length lines) in (
            number,
            one-fault u.before v.before u.rest f g u.blocks
                (subst (λ (t : List ℕ). Blocks begins v.before t g) (sym rest) v.blocks),
          )

      by : IsBehind u.before v.before u.rest v.rest ⊎ IsBehind v.before u.before v.rest u.rest → (n ≡ m) × (f ≡ g)
      by (inl b) = let p = same-place u.before v.before u.rest v.rest f v.begun u.blocks b in same p.0 p.1
      by (inr b) = let p = same-place v.before u.before v.rest u.rest g u.begun v.blocks b in same (sym p.0) (sym p.1)

  pub input-no_fault : (bytes : List ℕ) (lines : List (List ℕ)) (n : ℕ) (f : NotationFault) → begins lines
      → lines ≢ [] → bytes ≡ text_of_lines lines
      → IsFirstUnreadable begins bytes n f → ⊥
  input-no_fault bytes lines n f begun some text u =
      by (two-ways u.before lines u.rest [] (begins-no_lf u.before u.begun) (begins-no_lf lines begun)
      (sym u.text ∙ text ∙ sym (append-nil (text_of_lines lines))))
    where
      ends : lines ≡ u.before → u.rest ≡ [] → ⊥
      ends same none = at-end u.before u.rest f none (λ empty. some (same ∙ empty)) u.blocks

      by : IsBehind u.before lines u.rest [] ⊎ IsBehind lines u.before [] u.rest → ⊥
      by (inl b) = let p = same-place u.before lines u.rest [] f begun u.blocks b in ends p.0 p.1
      by (inr b) = let p = nothing-behind lines u.before u.rest b in ends (sym p.0) p.1

  -- no bytes have neither
  abbrev Neither : List ℕ → Type 0
  Neither bytes = ((lines : List (List ℕ)) → begins lines → lines ≢ [] → bytes ≡ text_of_lines lines → ⊥)
      × ((n : ℕ) (f : NotationFault) → IsFirstUnreadable begins bytes n f → ⊥)

  told : (bytes rest : List ℕ) (before : List (List ℕ)) (f : NotationFault) → bytes ≡ text_of_lines before ++ rest
      → begins before → Neither bytes → Blocks begins before rest f → ⊥
  told bytes rest before f text begun neither blocks =
      neither.1 (length before + 1) f (record {
        before = before;
        rest = rest;
        text = text;
        begun = begun;
        number =
            refl;
        blocks = blocks;
      })

  over : (bytes rest : List ℕ) (before : List (List ℕ)) → bytes ≡ text_of_lines before ++ rest → begins before
      → Neither bytes
      → (before ≡ []) ⊎ ((x : List ℕ) × (xs : List (List ℕ)) × (before ≡ x ∷ xs)) → HasNot 10 rest
      → length rest ≤ max_line → ⊥
  over bytes rest before text begun neither (inl none) h short =
      told bytes rest before NotALine text begun neither
      (inr (record { none = no_lf rest h; short = short; empty = λ e. none }))
  over bytes rest before text begun neither (inr (x, xs, same)) h short =
      told bytes rest before NotALine text begun neither
      (inr (record { none = no_lf rest h; short = short; empty = λ e. absurd (ends e) }))
    where
      ends : rest ≡ [] → ⊥
      ends e = neither.0 before begun (λ none. nonempty x xs (sym same ∙ none))
          (text ∙ ap (λ (t : List ℕ). text_of_lines before ++ t) e ∙ append-nil (text_of_lines before))

  pub input-or_fault : (k : ℕ) (bytes rest : List ℕ) (before : List (List ℕ)) → length rest ≤ k
      → bytes ≡ text_of_lines before ++ rest → begins before → Neither bytes → ⊥
  input-or_fault zero bytes rest before size text begun neither = by (comes max_line rest)
    where
      by : Comes max_line rest → ⊥
      by (inl h) = over bytes rest before text begun neither (list_cases before) h.0 h.1
      by (inr (inl l)) = absurd (omega (arith, size, ap length l.text, length-append l.line (10 ∷ l.more)))
      by (inr (inr h)) = told bytes rest before TooLong text begun neither (h.0, no_lf (take (max_line + 1) rest) h.1)
  input-or_fault (suc k) bytes rest before size text begun neither =
      by (comes max_line rest) (λ (l : HasLine max_line rest) (goes : begins (before ++ l.line ∷ [])).
      input-or_fault k bytes l.more (before ++ l.line ∷ []) (shorter max_line k rest l size)
      (text ∙ ap (λ (t : List ℕ). text_of_lines before ++ t) l.text ∙ sym (text-one_line before l.line l.more)) goes
      neither)
    where
      by : Comes max_line rest → ((l : HasLine max_line rest) → begins (before ++ l.line ∷ []) → ⊥) → ⊥
      by (inl h) then = over bytes rest before text begun neither (list_cases before) h.0 h.1
      by (inr (inl l)) then =
          told bytes rest before NotALine text begun neither
          (inl (record {
            line = l.line;
            more = l.more;
            text = l.text;
            none = no_lf l.line l.none;
            short =
                l.short;
            not = then l;
          }))
      by (inr (inr h)) then =
          told bytes rest before TooLong text begun neither (h.0, no_lf (take (max_line + 1) rest) h.1)
