-- The conflict that is shown, of those from one line to another.
use Rattle.std.proofs.Common.{◌≡◌, ℕ, zero, suc, List, [], ◌∷◌, Some, length, map, refl, sym, ap, ◌∙◌, subst, arith, inl, inr, All}
use Rattle.std.specs.Prelude.{slice_get, option_map}
use Rattle.std.proofs.lemmas.Bool.{cases_lt}
use Rattle.std.proofs.lemmas.List.{get_or_past}
use Rattle.std.proofs.lemmas.Option.{same_Some, slice_get-get_or, slice_get-map}
use Rattle.json.specs.Json.{Json, null}
use Rattle.sgt_names.proofs.Places.{All_at, Contains-from_at}
use Rattle.sgt_history.specs.Conflicts.{HaveConflict}
use Rattle.sgt_history.specs.Serial.{IsIn, KeepApart}
use Rattle.sgt_history.specs.Transaction.{Transaction}
use Rattle.sgt_history.specs.declared.history.Operation.{Operation}
use Rattle.sgt_history.specs.declared.named.Conflict.{Conflict}
use Rattle.sgt_history.specs.declared.named.Conflict.TheVariants.{WriteWrite, WriteRead, ReadWrite}
use Rattle.sgt_history_text.specs.Line.{IsOperation}
use Rattle.sgt_history_text.specs.Name.{IsItem, compact}
use Rattle.sgt_history_text.specs.Reading.{nth}
use Rattle.sgt_history_text.specs.Text.{SpellEach}
use Rattle.sgt_history_verdict.specs.Steps.{IsToldBefore, kind_place}
use Rattle.sgt_history_verdict.specs.declared.step.Step.{Step}
use Rattle.sgt_check.specs.Rank.{AreRanks, IsShownBefore}
use Rattle.sgt_check.proofs.NameOrder.{names_total}

-- ---- items

-- some operation of the history has the item
pub record Occurrence {I V : Type 0} (h : List (Transaction I V)) (x : I) : Type 0 where
  pub line : ℕ
  pub place : ℕ
  pub t : Transaction I V
  pub o : Operation I V
  pub at : slice_get h line ≡ Some t
  pub there : slice_get t.operations place ≡ Some o
  pub item_is : o.item ≡ x

pub occurrence : {I V : Type 0} (h : List (Transaction I V)) (kind : Conflict) (from to : ℕ) (x : I) (v w : ℕ)
    → HaveConflict h kind from to x v w → Occurrence h x
occurrence h WriteWrite from to x v w c = record {
  line = from;
  place = c.1.place;
  t = c.1.t;
  o = c.1.o;
  at = c.1.is.committed.0;
  there = c.1.is.there;
  item_is = c.1.writes.item;
}
occurrence h WriteRead from to x v w c = record {
  line = from;
  place = c.1.place;
  t = c.1.t;
  o = c.1.o;
  at = c.1.is.committed.0;
  there = c.1.is.there;
  item_is = c.1.writes.item;
}
occurrence h ReadWrite from to x v w c = record {
  line = from;
  place = c.1.place;
  t = c.1.t;
  o = c.1.o;
  at = c.1.is.committed.0;
  there = c.1.is.there;
  item_is = c.1.item_is;
}

spelled-operations : (lines : List (List ℕ)) (ids : List Json) (h : List (Transaction Json Json))
    → SpellEach lines ids h → (line : ℕ) (t : Transaction Json Json) → slice_get h line ≡ Some t
    → All IsOperation t.operations
spelled-operations [] [] [] s line t at = absurd cc
spelled-operations [] [] (u ∷ us) s line t at = absurd s
spelled-operations [] (id ∷ ids) us s line t at = absurd s
spelled-operations (l ∷ lines) [] us s line t at = absurd s
spelled-operations (l ∷ lines) (id ∷ ids) [] s line t at = absurd s
spelled-operations (l ∷ lines) (id ∷ ids) (u ∷ us) s zero t at =
    subst (λ (w : Transaction Json Json). All IsOperation w.operations) (same_Some u t at) s.2.each
spelled-operations (l ∷ lines) (id ∷ ids) (u ∷ us) s (suc line) t at = spelled-operations lines ids us s.3 line t at

-- what occurs in a history that lines spell is an item
pub spelled_item : (lines : List (List ℕ)) (ids : List Json) (h : List (Transaction Json Json)) (x : Json)
    → SpellEach lines ids h
    → Occurrence h x → IsItem x
spelled_item lines ids h x s oc =
    subst IsItem oc.item_is
    (All_at IsOperation oc.t.operations oc.place oc.o (spelled-operations lines ids h s oc.line oc.t oc.at)
    oc.there).item_is

pub apart_here : {I J V W : Type 0} (f : I → J) (g : V → W) (h : List (Transaction I V)) → KeepApart f g h → (x y : I)
    → Occurrence h x → Occurrence h y → f x ≡ f y → x ≡ y
apart_here {I} {J} {V} {W} f g h apart x y one two same =
    let in_h : (z : I) (oc : Occurrence h z) → IsIn h oc.o =
    λ z oc. (oc.line, oc.t, oc.at, Contains-from_at oc.t.operations oc.place oc.o oc.there) in
    sym one.item_is
    ∙ apart.items one.o two.o (in_h x one) (in_h y two) (ap f one.item_is ∙ same ∙ sym (ap f two.item_is))
    ∙ two.item_is

-- the text of an item stands at its number
pub text_there : (texts : List (List ℕ)) (items : List Json) → texts ≡ map compact items → (n : ℕ)
    → IsItem (nth items n)
    → slice_get texts n ≡ Some (compact (nth items n))
text_there texts items texts_are n is = elim (cases_lt n (length items)) [
  | inl lt ↦ ap (λ (l : List (List ℕ)). slice_get l n) texts_are ∙ slice_get-map compact items n
      ∙ ap (option_map compact) (slice_get-get_or items n null lt)
  | inr past ↦ absurd (subst IsItem (get_or_past items n null past) is)
]

-- ---- conflicts

same_kind : (k l : Conflict) → kind_place k ≡ kind_place l → k ≡ l
same_kind WriteWrite WriteWrite e = refl
same_kind WriteWrite WriteRead e = absurd (omega (arith, e))
same_kind WriteWrite ReadWrite e = absurd (omega (arith, e))
same_kind WriteRead WriteWrite e = absurd (omega (arith, e))
same_kind WriteRead WriteRead e = refl
same_kind WriteRead ReadWrite e = absurd (omega (arith, e))
same_kind ReadWrite WriteWrite e = absurd (omega (arith, e))
same_kind ReadWrite WriteRead e = absurd (omega (arith, e))
same_kind ReadWrite ReadWrite e = refl

-- of two steps the one that is told before the other by ranks is shown before it by names
pub shown_before : (texts : List (List ℕ)) (items : List Json) (ranks : List ℕ) → texts ≡ map compact items
    → AreRanks texts ranks
    → (s t : Step) → IsItem (nth items s.item) → IsItem (nth items t.item)
    → (nth items s.item ≡ nth items t.item → s.item ≡ t.item)
    → IsToldBefore ranks s t
    → IsShownBefore s.kind (nth items s.item) s.from_version t.kind (nth items t.item) t.from_version
shown_before texts items ranks texts_are ranks_are s t is is' apart (inl less) = inl less
shown_before texts items ranks texts_are ranks_are s t is is' apart (inr (kind, inl less)) =
    inr (
      same_kind s.kind t.kind kind,
      inl ((ranks_are s.item t.item (nth items s.item) (nth items t.item) (text_there texts items texts_are s.item is)
          (text_there texts items texts_are t.item is') is is' apart).0 less),
    )
shown_before texts items ranks texts_are ranks_are s t is is' apart (inr (kind, inr (rank, version))) =
    let a = nth items s.item in
    let b = nth items t.item in
    let at = text_there texts items texts_are s.item is in
    let at' = text_there texts items texts_are t.item is' in
    inr (
      same_kind s.kind t.kind kind,
      elim (names_total a b is is') [
        | inl before ↦
            absurd (omega (arith, rank, (ranks_are s.item t.item a b at at' is is' apart).1 before))
        | inr (inl same) ↦ inr (same, version)
        | inr (inr behind) ↦
            absurd (omega (arith, rank, (ranks_are t.item s.item b a at' at is' is (λ e. sym (apart (sym e)))).1 behind))
      ],
    )
