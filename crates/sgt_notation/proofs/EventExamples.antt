-- The definitions of events and sites, shown on examples.
use Rattle.std.proofs.Common.{◌≡◌, List, [], ◌∷◌, length, Err, refl, arith, lit<, lit≤}
use Rattle.std.specs.Prelude.{codes}
use Rattle.std.specs.Fmt.{digits}
use Rattle.std.proofs.lemmas.List.Elements.{All-from_recursion}
use Rattle.sgt_names.proofs.Places.{AllPairs-from_recursion, AllPairs_at}
use Rattle.std.specs.Ordering.{nat_cmp}
use Rattle.std.specs.Cmp.Lexicographic.{slice_cmp}
use Rattle.std.specs.declared.cmp.Ordering.TheVariants.{Less}
use Rattle.sgt_names.specs.declared.entry.Holding.{Holding}
use Rattle.sgt_notation.specs.Events.{event_text, site_text, HasLine, IsEventLine, IsSiteLine, ReadsSite}
use Rattle.sgt_notation.specs.Spelling.{IsHolding}
use Rattle.sgt_notation.specs.declared.event.Event.TheVariants.{Begin, Read, Put, Add, Gather, Decide, Install, Commit, Withdraw, Close}
use Rattle.sgt_notation.specs.declared.event.EventLine.TheVariants.{One, ToDecide}
use Rattle.sgt_notation.specs.declared.event.SiteLine.{SiteLine}
use Rattle.sgt_notation.specs.declared.fault.NotationFault.TheVariants.{Memory}

-- ---- each kind of event

pub begin-is : event_text (One Begin) ≡ codes "b"
begin-is = refl

pub read-is : event_text (One (Read 12 63 (codes "x_1"))) ≡ codes "r12[63.x_1]"
unfolding digits
read-is = refl

pub put-is : event_text (One (Put 1 0 (codes "x") 5)) ≡ codes "w1[0.x]=5"
unfolding digits
put-is = refl

pub add-is : event_text (One (Add 1 0 (codes "x") 5)) ≡ codes "d1[0.x]=5"
unfolding digits
add-is = refl

pub install-is : event_text (One (Install 2 7)) ≡ codes "i2@7"
unfolding digits
install-is = refl

pub commit-is : event_text (One (Commit 30)) ≡ codes "c30"
unfolding digits
commit-is = refl

pub decide-is : event_text (ToDecide 30) ≡ codes "v30"
unfolding digits
decide-is = refl

pub withdraw-is : event_text (One (Withdraw 30)) ≡ codes "a30"
unfolding digits
withdraw-is = refl

pub close-is : event_text (One Close) ≡ codes "z"
close-is = refl

-- ---- what has no line

pub gather-has_none : (HasLine (One (Gather 1 0)) → ⊥) × (IsEventLine (One (Gather 1 0)) → ⊥)
gather-has_none = (λ h. h, λ h. h)

pub decide-has_none : (HasLine (One (Decide 1)) → ⊥) × (IsEventLine (One (Decide 1)) → ⊥)
decide-has_none = (λ h. h, λ h. h)

pub no_event-at_site_64 : IsEventLine (One (Read 1 64 (codes "x"))) → ⊥
no_event-at_site_64 h = omega (arith, h.1.0)

pub no_event-of_tx_0 : IsEventLine (ToDecide 0) → ⊥
no_event-of_tx_0 h = omega (arith, h.0)

-- ---- sites

abbrev x : Holding
x = record { item = codes "x"; value = 5 }

abbrev y : Holding
y = record { item = codes "y"; value = 2 }

abbrev Rises : Holding → Holding → Type 0
Rises a b = slice_cmp nat_cmp a.item b.item ≡ Less

abbrev site : List Holding → SiteLine
site items = record { site = 0; items = items }

pub site-is : site_text (site (x ∷ y ∷ [])) ≡ codes "site 0 x=5 y=2"
unfolding digits
site-is = refl

pub empty-is : site_text (record { site = 63; items = [] }) ≡ codes "site 63"
unfolding digits
empty-is = refl

pub two_items : IsSiteLine (site (x ∷ y ∷ []))
two_items = record {
  site = lit< tt;
  each = All-from_recursion IsHolding (x ∷ y ∷ []) (
    ((refl, refl, lit< tt), lit< tt),
    (((refl, refl, lit< tt), lit< tt), tt),
  );
  room = lit≤ tt;
  rising = AllPairs-from_recursion Rises (x ∷ y ∷ []) ((refl, tt), (tt, tt));
}

pub falling-none : IsSiteLine (site (y ∷ x ∷ [])) → ⊥
falling-none h = let wrong = AllPairs_at Rises (y ∷ x ∷ []) 0 1 y x h.rising (lit< tt) refl refl in absurd cc

pub twice-none : IsSiteLine (site (x ∷ x ∷ [])) → ⊥
twice-none h = let wrong = AllPairs_at Rises (x ∷ x ∷ []) 0 1 x x h.rising (lit< tt) refl refl in absurd cc

-- want of memory stands for a line that spells a site with an item, and for no other
pub unspelled-no_memory : ((l : SiteLine) → IsSiteLine l → codes "site 0 " ≡ site_text l → ⊥) → ReadsSite (codes "site 0 ") (Err Memory) → ⊥
unspelled-no_memory none h = none h.0 h.1 h.3

pub full-is_room : (l : SiteLine) → length l.items ≡ 1025 → IsSiteLine l → ⊥
full-is_room l many h = let room = h.room in omega (arith, many, room)
