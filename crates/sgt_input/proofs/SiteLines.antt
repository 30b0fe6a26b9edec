-- The sites that an input begins with.
use Rattle.std.proofs.Common.{◌≡◌, ◌≢◌, ◌==◌, ℕ, true, false, ◌+◌, ◌*◌, ◌≤◌, List, [], ◌∷◌, ◌++◌, length, map, sym, ap, ap₂, ◌∙◌, arith, lit<, lit≤}
use Rattle.std.specs.Prelude.{codes, decimal}
use Rattle.std.specs.List.{AllByRecursion, join_with_byte, range_with_len}
use Rattle.std.proofs.lemmas.Bool.{eqb-false, eqb-true}
use Rattle.std.proofs.lemmas.Fmt.{length-decimal-le}
use Rattle.std.proofs.lemmas.List.{length-append, length-map}
use Rattle.std.proofs.lemmas.List.Elements.{recursion_from_All}
use Rattle.sgt_names.specs.declared.entry.Holding.{Holding}
use Rattle.sgt_names.proofs.Lists.{heads, tails}
use Rattle.sgt_notation.specs.Events.{IsSiteLine, site_text}
use Rattle.sgt_names.specs.Limits.{max_line}
use Rattle.sgt_notation.specs.Spelling.{IsHolding, assignment}
use Rattle.sgt_notation.specs.declared.event.SiteLine.{SiteLine}
use Rattle.sgt_notation.proofs.OneSite.{site-no_lf, site-one}
use Rattle.sgt_notation.proofs.Short.{value-short}
use Rattle.sgt_input.proofs.Unreadable.{IsPlain}
use Rattle.sgt_names.proofs.Elements.{empty-length}
use Rattle.sgt_names.proofs.Stored.{name-length}

-- ---- their numbers

pub last-number : (n : ℕ) (ss : List SiteLine) (l : SiteLine)
    → map (λ k. k.site) (ss ++ l ∷ []) ≡ range_with_len n (length (ss ++ l ∷ [])) → l.site ≡ n + length ss
last-number n [] l e = let first : l.site ≡ n = heads _ _ _ _ e in omega arith
last-number n (s ∷ ss) l e = let rest : l.site ≡ n + 1 + length ss = last-number (n + 1) ss l (tails _ _ _ _ e) in
    omega arith

pub more-numbers : (n : ℕ) (ss : List SiteLine) (l : SiteLine) → map (λ k. k.site) ss ≡ range_with_len n (length ss)
    → l.site ≡ n + length ss
    → map (λ k. k.site) (ss ++ l ∷ []) ≡ range_with_len n (length (ss ++ l ∷ []))
more-numbers n [] l e is = let number : l.site ≡ n = omega arith in ap (λ k. k ∷ []) number
more-numbers n (s ∷ ss) l e is =
    ap₂ (λ k ks. k ∷ ks) (heads _ _ _ _ e) (more-numbers (n + 1) ss l (tails _ _ _ _ e) (omega arith))

-- a site of another number
pub other-site : (l : SiteLine) (line : List ℕ) (n : ℕ) → IsSiteLine l → line ≡ site_text l → l.site ≢ n
    → (m : SiteLine) → IsSiteLine m → m.site ≡ n → line ≢ site_text m
other-site l line n is text differs m also number same =
    differs (ap (λ k. k.site) (site-one l m is also (sym text ∙ same)) ∙ number)

-- ---- each of them is short, and has no LF

join-short : (w : List ℕ) (ws : List (List ℕ)) → length w ≤ 38 → AllByRecursion (λ v. length v ≤ 38) ws
    → length (join_with_byte 32 (w ∷ ws)) ≤ 38 + 39 * length ws
join-short w [] h all = omega (arith, h)
join-short w (v ∷ ws) h all =
    let size = length-append w (32 ∷ join_with_byte 32 (v ∷ ws)) in
    omega (arith, size, h, join-short v ws all.0 all.1)

assignment-short : (h : Holding) → IsHolding h → length (assignment h.item h.value) ≤ 38
assignment-short h is = simp length-append (omega (arith, name-length h.item is.0, value-short h.value is.1))

items-short : (hs : List Holding) → AllByRecursion IsHolding hs
    → AllByRecursion (λ v. length v ≤ 38) (map (λ h. assignment h.item h.value) hs)
items-short [] all = tt
items-short (h ∷ hs) all = (assignment-short h all.0, items-short hs all.1)

site-short : (l : SiteLine) → IsSiteLine l → length (site_text l) ≤ max_line
site-short l is =
    let items = map (λ h. assignment h.item h.value) l.items in
    let site = is.site in
    let number : length (decimal l.site) ≤ 2 =
    length-decimal-le 2 l.site (lit< tt) (omega (arith, site)) (omega (arith, site)) in
    let whole = join-short (codes "site") (decimal l.site ∷ items) (lit≤ tt) (omega (arith, number), items-short l.items (recursion_from_All IsHolding l.items is.each)) in
    let count : length items ≡ length l.items = length-map l.items (λ h. assignment h.item h.value) in
    omega (arith, whole, count, is.room)

pub site-plain : (l : SiteLine) → IsSiteLine l → IsPlain (site_text l)
site-plain l is = (recursion_from_All (λ c. c ≢ 10) (site_text l) (site-no_lf l is), site-short l is)

-- ---- lists

pub empty_when : {A : Type 0} (xs : List A) (n : ℕ) → length xs ≡ n → true ≡ (n == 0) → xs ≡ []
empty_when xs n size e = empty-length xs (size ∙ eqb-true n 0 (sym e))

pub filled_when : {A : Type 0} (xs : List A) (n : ℕ) → length xs ≡ n → false ≡ (n == 0) → xs ≢ []
filled_when xs n size e none = eqb-false n 0 (sym e) (sym size ∙ ap length none)
