-- The words of a site's line: what the line spells by its words, and what was read of them.
use Rattle.std.proofs.Common.{◌≡◌, ◌≢◌, ℕ, suc, ◌-◌, ◌<◌, ◌≤◌, Bool, true, false, List, [], ◌∷◌, ◌++◌}
use Rattle.std.proofs.Common.{length, Option, Some, None, option_map, IfSome, Bor, Result, Ok, Err, is_ok, is_err, if◌then◌else◌, All, refl, sym, ap, ap₂, ◌∙◌, subst, arith, append_assoc, lit<}
use Rattle.std.specs.Prelude.{codes, decimal, ◌==◌}
use Rattle.std.specs.List.{AllByRecursion, join_with_byte}
use Rattle.std.specs.Ordering.{nat_cmp}
use Rattle.std.specs.Cmp.Lexicographic.{slice_cmp, nat_list_cmp_total}
use Rattle.std.specs.declared.cmp.Ordering.TheVariants.{Less}
use Rattle.std.proofs.lemmas.Bool.{ne_eqb, true≢false}
use Rattle.std.proofs.lemmas.List.{append-nil}
use Rattle.std.proofs.lemmas.List.Elements.{All-from_recursion, recursion_from_All}
use Rattle.std.proofs.lemmas.List.Splits.{join_with_byte-slice_split, slice_split_at, slice_split_none}
use Rattle.sgt_names.specs.Limits.{max_items}
use Rattle.sgt_names.specs.Name.{Name}
use Rattle.sgt_names.specs.declared.entry.Holding.{Holding}
use Rattle.sgt_names.proofs.Lists.{heads, tails}
use Rattle.sgt_names.proofs.Places.{PairsByRecursion, AllPairs-from_recursion, recursion_from_AllPairs}
use Rattle.sgt_notation.specs.Events.{site_text, site_words, IsSiteLine, ReadsSite}
use Rattle.sgt_notation.specs.PrivateEvents.{IsBehind, Keeps, KeepsSite, MayFollow, item_words, words, words_behind}
use Rattle.sgt_notation.specs.Reading.{Refuses, SpellsNone}
use Rattle.sgt_notation.specs.Spelling.{assignment, IsHolding, IsSite}
use Rattle.sgt_notation.specs.declared.event.SiteLine.{SiteLine}
use Rattle.sgt_notation.specs.declared.fault.NotationFault.{NotationFault}
use Rattle.sgt_notation.specs.declared.fault.NotationFault.TheVariants.{NotALine, TooLong, Memory}
use Rattle.sgt_notation.proofs.EventParts.{decimal-above, small-site}
use Rattle.sgt_notation.proofs.Pairs.{IsCut}
use Rattle.sgt_notation.proofs.OneSpelling.{HasNot, HasNot-append, HasNot-from_test, holding-one, name-without}

-- ---- a text and its words

apart_tests : (xs : List ℕ) → HasNot 32 xs → AllByRecursion (λ x. (x == 32) ≡ false) xs
apart_tests [] h = tt
apart_tests (x ∷ xs) h = (ne_eqb x 32 h.0, apart_tests xs h.1)

tested : (xs : List ℕ) → All (λ b. b ≢ 32) xs → All (λ x. (x == 32) ≡ false) xs
tested xs h = All-from_recursion (λ x. (x == 32) ≡ false) xs (apart_tests xs (recursion_from_All (λ b. b ≢ 32) xs h))

pub words-first : (text word rest : List ℕ) → IsCut 32 text word rest → words text ≡ word ∷ words rest
words-first text word rest cut = ap words cut.0 ∙ slice_split_at (λ b. b == 32) word 32 rest (tested word cut.1) refl

pub words-only : (text : List ℕ) → All (λ b. b ≢ 32) text → words text ≡ text ∷ []
words-only text h = slice_split_none (λ b. b == 32) text (tested text h)

pub words-join : (w : List ℕ) (ws : List (List ℕ)) → HasNot 32 w → AllByRecursion (HasNot 32) ws
    → words (join_with_byte 32 (w ∷ ws)) ≡ w ∷ ws
words-join w [] h all = words-only w (All-from_recursion (λ b. b ≢ 32) w h)
words-join w (v ∷ ws) h all =
    words-first (join_with_byte 32 (w ∷ v ∷ ws)) w (join_with_byte 32 (v ∷ ws)) (
      refl,
      All-from_recursion (λ b. b ≢ 32) w h,
    )
    ∙ ap (λ t. w ∷ t) (words-join v ws all.0 all.1)

pub join-words : (text : List ℕ) (ws : List (List ℕ)) → words text ≡ ws → text ≡ join_with_byte 32 ws
join-words text ws e = sym (join_with_byte-slice_split 32 text) ∙ ap (join_with_byte 32) e

pub unnumbered : (line : List ℕ) → ((rest : List ℕ) → line ≢ codes "site " ++ rest) → (k : ℕ) (ws : List (List ℕ))
    → words line ≢ codes "site" ∷ decimal k ∷ ws
unnumbered line none k ws e = none (join_with_byte 32 (decimal k ∷ ws)) (join-words line (codes "site" ∷ decimal k ∷ ws) e)

-- ---- the words of a site have no space

holding-plain : (h : Holding) → IsHolding h → HasNot 32 (assignment h.item h.value)
holding-plain h is =
    let name =
    HasNot-append 32 h.item (61 ∷ []) (name-without 32 refl h.item is.0) (HasNot-from_test 32 (61 ∷ []) refl) in
    HasNot-append 32 (h.item ++ 61 ∷ []) (decimal h.value) name (decimal-above 32 h.value (lit< tt) is.1)

holdings-plain : (hs : List Holding) → AllByRecursion IsHolding hs → AllByRecursion (HasNot 32) (item_words hs)
holdings-plain [] all = tt
holdings-plain (h ∷ hs) all = (holding-plain h all.0, holdings-plain hs all.1)

pub words-of_site : (l : SiteLine) → IsSiteLine l → words (site_text l) ≡ site_words l
words-of_site l is = words-join (codes "site") (decimal l.site ∷ item_words l.items) (HasNot-from_test 32 (codes "site") refl) (
  decimal-above 32 l.site (lit< tt) (small-site l.site is.site),
  holdings-plain l.items (recursion_from_All IsHolding l.items is.each),
)

-- ---- items that may follow a name are items of a site

abbrev Rises : Holding → Holding → Type 0
Rises a b = slice_cmp nat_cmp a.item b.item ≡ Less

beyond : (x y : Name) → slice_cmp nat_cmp x y ≡ Less → (hs : List Holding)
    → AllByRecursion (λ h. slice_cmp nat_cmp y h.item ≡ Less) hs
    → AllByRecursion (λ h. slice_cmp nat_cmp x h.item ≡ Less) hs
beyond x y less [] all = tt
beyond x y less (h ∷ hs) all = (nat_list_cmp_total.trans x y h.item less all.0, beyond x y less hs all.1)

all-behind : (x : Name) (room : ℕ) (hs : List Holding) → MayFollow (Some x) room hs
    → AllByRecursion (λ h. slice_cmp nat_cmp x h.item ≡ Less) hs
all-behind x room [] follow = tt
all-behind x room (h ∷ hs) follow =
    (follow.1.1, beyond x h.item follow.1.1 hs (all-behind h.item (room - 1) hs follow.2))

follow-each : (last : Option Name) (room : ℕ) (hs : List Holding) → MayFollow last room hs → AllByRecursion IsHolding hs
follow-each last room [] follow = tt
follow-each last room (h ∷ hs) follow = (follow.0, follow-each (Some h.item) (room - 1) hs follow.2)

follow-room : (last : Option Name) (room : ℕ) (hs : List Holding) → MayFollow last room hs → length hs ≤ room
follow-room last room [] follow = omega arith
follow-room last room (h ∷ hs) follow = let more = follow-room (Some h.item) (room - 1) hs follow.2 in
    omega (arith, more, follow.1.0)

follow-rise : (last : Option Name) (room : ℕ) (hs : List Holding) → MayFollow last room hs → PairsByRecursion Rises hs
follow-rise last room [] follow = tt
follow-rise last room (h ∷ hs) follow =
    (all-behind h.item (room - 1) hs follow.2, follow-rise (Some h.item) (room - 1) hs follow.2)

-- the first of them may stand behind the name
abbrev Begins : Option Name → List Holding → Type 0
Begins last [] = Unit {0}
Begins last (h ∷ hs) = IsBehind last h.item

first-behind : (h : Holding) (hs : List Holding) → AllByRecursion (Rises h) hs → Begins (Some h.item) hs
first-behind h [] all = tt
first-behind h (g ∷ gs) all = all.0

followed : (last : Option Name) (room : ℕ) (hs : List Holding) → AllByRecursion IsHolding hs → length hs ≤ room
    → PairsByRecursion Rises hs → Begins last hs → MayFollow last room hs
followed last room [] each few pairs begins = tt
followed last room (h ∷ hs) each few pairs begins =
    let rest = followed (Some h.item) (room - 1) hs each.1 (omega (arith, few)) pairs.1 (first-behind h hs pairs.0) in
    (each.0, (omega (arith, few), begins), rest)

begins-none : (hs : List Holding) → Begins None hs
begins-none [] = tt
begins-none (h ∷ hs) = tt

pub site-from_items : (l : SiteLine) → IsSite l.site → MayFollow None max_items l.items → IsSiteLine l
site-from_items l site follow = record {
  site = site;
  each = All-from_recursion IsHolding l.items (follow-each None max_items l.items follow);
  room = follow-room None max_items l.items follow;
  rising = AllPairs-from_recursion Rises l.items (follow-rise None max_items l.items follow);
}

pub items-of_site : (l : SiteLine) → IsSiteLine l → MayFollow None max_items l.items
items-of_site l is =
    let each = recursion_from_All IsHolding l.items is.each in
    let rising = recursion_from_AllPairs Rises l.items is.rising in
    followed None max_items l.items each is.room rising (begins-none l.items)

-- ---- what was read of the words

-- items that are spelled by all words, where these are the last of them
pub record Leads (all : List (List ℕ)) (items ts : List Holding) (kept : Bool) : Type 0 where
  pub hs : List Holding
  pub follow : MayFollow None max_items hs
  pub spelled : all ≡ item_words hs
  pub long : length ts ≤ length hs
  pub whole : kept ≡ true → hs ≡ items ++ ts
  pub lost : kept ≡ false → 0 < length hs

-- some of the words are read: what spells the rest leads to what spells all, and back
pub record IsPartly (all rest : List (List ℕ)) (items : List Holding) (kept : Bool) (last : Option Name)
    (room : ℕ) : Type 0 where
  pub on : (ts : List Holding) → MayFollow last room ts → rest ≡ item_words ts → Leads all items ts kept
  pub back : (hs : List Holding) → MayFollow None max_items hs → all ≡ item_words hs
      → (ts : List Holding) × MayFollow last room ts × (rest ≡ item_words ts)

pub partly-none : (all : List (List ℕ)) (items : List Holding) → items ≡ [] → IsPartly all all items true None max_items
partly-none all items empty = record {
  on = λ ts follow e. record {
    hs = ts;
    follow = follow;
    spelled = e;
    long = omega arith;
    whole = λ _. ap (λ xs. xs ++ ts) (sym empty);
    lost = λ f. absurd (true≢false f);
  };
  back = λ hs follow e. (hs, follow, e);
}

-- the next of the words that are left, where they are words of items: its item, and the items behind it
back-next : (word : List ℕ) (more : List (List ℕ)) (last : Option Name) (room : ℕ) (ts : List Holding)
    → MayFollow last room ts
    → word ∷ more ≡ item_words ts
    → (h : Holding) × (us : List Holding) × MayFollow last room (h ∷ us) × (word ≡ assignment h.item h.value)
    × (more ≡ item_words us)
back-next word more last room [] follow e = absurd cc
back-next word more last room (g ∷ gs) follow e = (g, gs, follow, heads _ _ _ _ e, tails _ _ _ _ e)

module _
    {all rest : List (List ℕ)} {items : List Holding} {kept : Bool} {last : Option Name} {room : ℕ}
    (p : IsPartly all rest items kept last room) where
  -- no word is left
  pub partly-all : rest ≡ [] → Keeps all items kept
  partly-all end =
      let l = p.on [] tt end in
      record {
        hs = l.hs;
        follow = l.follow;
        spelled = l.spelled;
        whole = λ k. sym (l.whole k ∙ append-nil items);
        lost = l.lost;
      }

  module _ (word : List ℕ) (more : List (List ℕ)) (left : rest ≡ word ∷ more) where
    -- the word spells no item
    pub partly-no_item : SpellsNone IsHolding (λ h. assignment h.item h.value) word → (hs : List Holding)
        → MayFollow None max_items hs
        → all ≢ item_words hs
    partly-no_item none hs follow e =
        let b = p.back hs follow e in
        let n = back-next word more last room b.0 b.1 (sym left ∙ b.2) in
        none n.0 n.2.0 n.3

    module _ (h : Holding) (is : IsHolding h) (spells : word ≡ assignment h.item h.value) where
      same : (g : Holding) (gs : List Holding) → MayFollow last room (g ∷ gs) → word ≡ assignment g.item g.value
          → MayFollow last room (h ∷ gs)
      same g gs follow e =
          subst (λ (x : Holding). MayFollow last room (x ∷ gs)) (holding-one g h follow.0 is (sym e ∙ spells)) follow

      -- it spells an item that may not follow
      pub partly-no_more : ((0 < room) × IsBehind last h.item → ⊥) → (hs : List Holding) → MayFollow None max_items hs
          → all ≢ item_words hs
      partly-no_more may_not hs follow e =
          let b = p.back hs follow e in
          let n = back-next word more last room b.0 b.1 (sym left ∙ b.2) in
          may_not (same n.0 n.1 n.2 n.3).1

      -- it spells one that may
      pub partly-next : (items' : List Holding) (kept' : Bool) → (0 < room) × IsBehind last h.item
          → (kept' ≡ true → (kept ≡ true) × (items' ≡ items ++ h ∷ []))
          → IsPartly all more items' kept' (Some h.item) (room - 1)
      partly-next items' kept' may pushed = record {
        on = λ ts follow e.
            let old = p.on (h ∷ ts) (is, may, follow) (left ∙ ap₂ (λ w ws. w ∷ ws) spells e) in
            let long = old.long in
            record {
              hs = old.hs;
              follow = old.follow;
              spelled = old.spelled;
              long = omega (arith, long);
              whole = λ k.
                  let both = pushed k in
                  old.whole both.0 ∙ sym (append_assoc items (h ∷ []) ts) ∙ ap (λ xs. xs ++ ts) (sym both.1);
              lost = λ _. omega (arith, long);
            };
        back = λ hs follow e.
            let b = p.back hs follow e in
            let n = back-next word more last room b.0 b.1 (sym left ∙ b.2) in
            (n.1, (same n.0 n.1 n.2 n.3).2, n.4);
      }

-- how much of a text is left, if any
abbrev pub size : Option (List ℕ) → ℕ
size None = 0
size (Some text) = suc (length text)

-- ---- the loop's places

pub behind-none : (r : Option (Bor (List ℕ))) → r ≡ None → words_behind (option_map (λ t. t.now) r) ≡ []
behind-none None e = refl
behind-none (Some t) e = absurd cc

pub behind-some : (r : Option (Bor (List ℕ))) (t : Bor (List ℕ)) → r ≡ Some t
    → words_behind (option_map (λ t. t.now) r) ≡ words t.now
behind-some r t e = ap (λ (o : Option (Bor (List ℕ))). words_behind (option_map (λ t. t.now) o)) e

shorter : (r : Option (Bor (List ℕ))) (t : Bor (List ℕ)) → IfSome r (λ x. length x.now < length t.now)
    → size (option_map (λ t. t.now) r) < suc (length t.now)
shorter None t h = omega arith
shorter (Some x) t h = omega (arith, h)

pub smaller : (r old : Option (Bor (List ℕ))) (t : Bor (List ℕ)) → old ≡ Some t
    → IfSome r (λ x. length x.now < length t.now)
    → size (option_map (λ t. t.now) r) < size (option_map (λ t. t.now) old)
smaller r old t e h =
    subst (λ (o : Option (Bor (List ℕ))). size (option_map (λ t. t.now) r) < size (option_map (λ t. t.now) o)) (sym e)
    (shorter r t h)

pub pushed : {A E T : Type 0} (r : Result A E) (items items' : List T) (h : T)
    → items' ≡ (if is_ok r then items ++ h ∷ [] else items) → is_err r ≡ false → items' ≡ items ++ h ∷ []
pushed (Ok a) items items' h e ok = e
pushed (Err f) items items' h e ok = absurd cc

-- ---- what the line spells

pub refused : (line : List ℕ) (f : NotationFault) → Refuses line f → SpellsNone IsSiteLine site_text line
    → ReadsSite line (Err f)
refused line NotALine h none = (h, none)
refused line TooLong h none = (h, none)
refused line Memory h none = absurd h

spelled : (line : List ℕ) (l : SiteLine) (ws : List (List ℕ)) → words line ≡ codes "site" ∷ decimal l.site ∷ ws
    → ws ≡ item_words l.items → line ≡ site_text l
spelled line l ws e items = join-words line (site_words l) (e ∙ ap (λ vs. codes "site" ∷ decimal l.site ∷ vs) items)

pub site-keeps : (line : List ℕ) (k : ℕ) (ws : List (List ℕ)) (items : List Holding) (kept : Bool) → IsSite k
    → words line ≡ codes "site" ∷ decimal k ∷ ws → Keeps ws items kept → KeepsSite line k items kept
site-keeps line k ws items true site e keeps =
    let whole = sym (keeps.whole refl) in
    let l : SiteLine = record { site = k; items = items } in (
      site-from_items l site (subst (MayFollow None max_items) whole keeps.follow),
      spelled line l ws e (keeps.spelled ∙ ap item_words whole),
    )
site-keeps line k ws items false site e keeps =
    let l : SiteLine = record { site = k; items = keeps.hs } in
    (l, site-from_items l site keeps.follow, keeps.lost refl, spelled line l ws e keeps.spelled)

pub no_site-items : (line : List ℕ) (k : ℕ) (ws : List (List ℕ)) → words line ≡ codes "site" ∷ decimal k ∷ ws
    → ((hs : List Holding) → MayFollow None max_items hs → ws ≢ item_words hs) → SpellsNone IsSiteLine site_text line
no_site-items line k ws e none l is whole =
    let same = sym e ∙ ap words whole ∙ words-of_site l is in
    none l.items (items-of_site l is) (tails _ _ _ _ (tails _ _ _ _ same))

pub no_site-number : (line : List ℕ) → ((k : ℕ) (ws : List (List ℕ)) → IsSite k → words line ≢ codes "site" ∷ decimal k ∷ ws)
    → SpellsNone IsSiteLine site_text line
no_site-number line none l is whole = none l.site (item_words l.items) is.site (ap words whole ∙ words-of_site l is)
