-- No two sites are spelled alike; what is read from the text of a site is that site; there is no LF in it.
use Rattle.std.proofs.Common.{◌≡◌, ◌≢◌, ℕ, ◌⊎◌, inl, inr, List, [], ◌∷◌, refl, sym, ap, ap₂, ◌∙◌, Result, Ok, Err}
use Rattle.std.specs.Prelude.{codes, decimal}
use Rattle.std.specs.List.{AllByRecursion, join_with_byte}
use Rattle.std.proofs.lemmas.Bool.{eqb-false}
use Rattle.std.proofs.lemmas.List.Elements.{All-from_recursion, recursion_from_All}
use Rattle.sgt_names.specs.declared.entry.Holding.{Holding}
use Rattle.sgt_names.proofs.Lists.{heads, tails}
use Rattle.sgt_notation.specs.Events.{site_text, IsSiteLine, ReadsSite}
use Rattle.sgt_notation.specs.PrivateEvents.{item_words, words}
use Rattle.sgt_notation.specs.Spelling.{HasNoLf, IsHolding}
use Rattle.sgt_notation.specs.declared.event.SiteLine.{SiteLine}
use Rattle.sgt_notation.specs.declared.fault.NotationFault.{NotationFault}
use Rattle.sgt_notation.specs.declared.fault.NotationFault.TheVariants.{NotALine, TooLong, Memory}
use Rattle.sgt_notation.proofs.EventParts.{site-one as number-one, small-site}
use Rattle.sgt_notation.proofs.OneSpelling.{HasNot, HasNot-append, HasNot-from_test, assignment-one_line, decimal-one_line, holding-one}
use Rattle.sgt_notation.proofs.SiteWords.{words-of_site}

items-one : (hs gs : List Holding) → AllByRecursion IsHolding hs → AllByRecursion IsHolding gs
    → item_words hs ≡ item_words gs → hs ≡ gs
items-one [] [] a b e = refl
items-one [] (g ∷ gs) a b e = absurd cc
items-one (h ∷ hs) [] a b e = absurd cc
items-one (h ∷ hs) (g ∷ gs) a b e =
    ap₂ (λ x xs. x ∷ xs) (holding-one h g a.0 b.0 (heads _ _ _ _ e)) (items-one hs gs a.1 b.1 (tails _ _ _ _ e))

pub site-one : (l m : SiteLine) → IsSiteLine l → IsSiteLine m → site_text l ≡ site_text m → l ≡ m
site-one l m a b e =
    let same = sym (words-of_site l a) ∙ ap words e ∙ words-of_site m b in
    let rest = tails _ _ _ _ same in
    let number = number-one l.site m.site a.site b.site (heads _ _ _ _ rest) in
    let each = recursion_from_All IsHolding l.items a.each in
    let items = items-one l.items m.items each (recursion_from_All IsHolding m.items b.each) (tails _ _ _ _ rest) in
    λ i. record { site = number i; items = items i }

pub site-back : (l : SiteLine) (r : Result SiteLine NotationFault) → IsSiteLine l → ReadsSite (site_text l) r
    → (r ≡ Ok l) ⊎ (r ≡ Err Memory)
site-back l (Ok m) is h = inl (ap Ok (site-one m l h.0 is (sym h.1)))
site-back l (Err Memory) is h = inr refl
site-back l (Err NotALine) is h = absurd (h.1 l is refl)
site-back l (Err TooLong) is h = absurd (h.1 l is refl)

pub join-one_line : (w : List ℕ) (ws : List (List ℕ)) → HasNot 10 w → AllByRecursion (HasNot 10) ws
    → HasNot 10 (join_with_byte 32 (w ∷ ws))
join-one_line w [] h all = h
join-one_line w (v ∷ ws) h all =
    HasNot-append 10 w (32 ∷ join_with_byte 32 (v ∷ ws)) h (eqb-false 32 10 refl, join-one_line v ws all.0 all.1)

items-one_line : (hs : List Holding) → AllByRecursion IsHolding hs → AllByRecursion (HasNot 10) (item_words hs)
items-one_line [] all = tt
items-one_line (h ∷ hs) all = (assignment-one_line h all.0, items-one_line hs all.1)

pub site-no_lf : (l : SiteLine) → IsSiteLine l → HasNoLf (site_text l)
site-no_lf l is =
    let words = decimal l.site ∷ item_words l.items in
    let each = items-one_line l.items (recursion_from_All IsHolding l.items is.each) in
    let number = decimal-one_line l.site (small-site l.site is.site) in
    let whole = join-one_line (codes "site") words (HasNot-from_test 10 (codes "site") refl) (number, each) in
    All-from_recursion (λ b. b ≢ 10) (site_text l) whole
