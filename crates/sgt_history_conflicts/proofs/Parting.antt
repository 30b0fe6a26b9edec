-- Pairs and edges by graph.
use Rattle.std.proofs.Common.{◌≡◌, ◌≢◌, ℕ, zero, suc, ◌+◌, ◌-◌, ◌<◌, ◌≤◌, List, [], ◌∷◌, ◌++◌, Some, None, length, take, refl, sym, ap, ◌∙◌, subst, arith, inl, inr, ◌⊎◌, All, Contains, append_assoc, length-append}
use Rattle.std.specs.Prelude.{slice_get}
use Rattle.std.proofs.lemmas.Bool.{cases_lt}
use Rattle.std.proofs.lemmas.List.{take_at, take_all}
use Rattle.std.proofs.lemmas.Option.{same_Some, slice_get_within}
use Rattle.sgt_names.proofs.Lists.{All_in, within_at, front_at, back_at}
use Rattle.sgt_names.proofs.Places.{Contains_at, Contains-from_at, All-from_at, slice_get-take, slice_get-take_at}
use Rattle.sgt_history.specs.declared.named.Conflict.{Conflict}
use Rattle.sgt_history.specs.declared.named.Conflict.TheVariants.{WriteWrite, WriteRead, ReadWrite}
use Rattle.sgt_history.specs.declared.named.Graph.{Graph}
use Rattle.sgt_history.specs.declared.named.Graph.TheVariants as graph
use Rattle.sgt_history.specs.Transaction.{Transaction}
use Rattle.sgt_history.specs.Conflicts.{IsAmong, ConflictIn}
use Rattle.sgt_history_faults.specs.declared.touch.Touch.{Touch}
use Rattle.sgt_history_faults.specs.Touch.{IsTouch}
use Rattle.sgt_history_faults.specs.Judged.{IsFaultlessBy}
use Rattle.sgt_graph.specs.declared.edge.Edge.{Edge}
use Rattle.sgt_graph.specs.Graph.{JoinsNodes}
use Rattle.sgt_history_conflicts.specs.Pairs.{IsPair, AddsAll}
use Rattle.sgt_history_conflicts.specs.Edges.{ArePairsOf, AreEdgesOf, AreLined, IsLined, JoinsTouches}
use Rattle.sgt_history_conflicts.proofs.Conflicting.{pair-conflict, conflict-pair}

-- ---- lists joined

in-left : (xs ys : List Edge) (e : Edge) → Contains xs e → Contains (xs ++ ys) e
in-left xs ys e in_it =
    let at = Contains_at xs e in_it in
    Contains-from_at (xs ++ ys) at.0 e (front_at xs ys at.0 e at.1)

in-right : (xs ys : List Edge) (e : Edge) → Contains ys e → Contains (xs ++ ys) e
in-right xs ys e in_it =
    let at = Contains_at ys e in_it in
    Contains-from_at (xs ++ ys) (length xs + at.0) e (back_at xs ys at.0 ∙ at.1)

in-either : (xs ys : List Edge) (e : Edge) → Contains (xs ++ ys) e → Contains xs e ⊎ Contains ys e
in-either xs ys e in_it =
    let at = Contains_at (xs ++ ys) e in_it in
    elim (cases_lt at.0 (length xs)) [
      | inl less ↦
          let x = within_at xs at.0 less in
          let same = same_Some x.0 e (sym (front_at xs ys at.0 x.0 x.1) ∙ at.1) in
          inl (subst (Contains xs) same (Contains-from_at xs at.0 x.0 x.1))
      | inr past ↦ inr (Contains-from_at ys (at.0 - length xs) e
          (sym (back_at xs ys (at.0 - length xs)) ∙ ap (slice_get (xs ++ ys)) (omega (arith, past)) ∙ at.1))
    ]

-- ---- pairs

pub first-part : (touches : List Touch) (one : List Edge) → AddsAll touches WriteWrite [] one
    → ArePairsOf touches graph.WriteWrite one
first-part touches one a = record {
  sound = λ e in_it. (WriteWrite, tt, a.sound e (subst (λ xs. Contains xs e) a.is in_it));
  all = λ kind i k among pair. each kind i k among pair;
}
  where
    each : (kind : Conflict) (i k : ℕ) → IsAmong graph.WriteWrite kind → IsPair touches kind i k
        → Contains one (record { from = i; to = k })
    each WriteWrite i k among pair =
        subst (λ xs. Contains xs (record { from = i; to = k })) (sym a.is) (a.all i k tt pair)
    each WriteRead i k among pair = absurd among
    each ReadWrite i k among pair = absurd among

pub second-part : (touches : List Touch) (one two : List Edge) → AddsAll touches WriteWrite [] one
    → AddsAll touches WriteRead one two
    → ArePairsOf touches graph.WithReads two
second-part touches one two a b = record {
  sound = λ e in_it. elim (in-either one b.more e (subst (λ xs. Contains xs e) b.is in_it)) [
    | inl left ↦ (WriteWrite, tt, a.sound e (subst (λ xs. Contains xs e) a.is left))
    | inr right ↦ (WriteRead, tt, b.sound e right)
  ];
  all = λ kind i k among pair. each kind i k among pair;
}
  where
    each : (kind : Conflict) (i k : ℕ) → IsAmong graph.WithReads kind → IsPair touches kind i k
        → Contains two (record { from = i; to = k })
    each WriteWrite i k among pair = subst (λ xs. Contains xs (record { from = i; to = k })) (sym b.is)
        (in-left one b.more (record { from = i; to = k }) (subst (λ xs. Contains xs (record { from = i; to = k }))
        (sym a.is) (a.all i k tt pair)))
    each WriteRead i k among pair = subst (λ xs. Contains xs (record { from = i; to = k })) (sym b.is)
        (in-right one b.more (record { from = i; to = k }) (b.all i k tt pair))
    each ReadWrite i k among pair = absurd among

pub third-part : (touches : List Touch) (one two three : List Edge) → AddsAll touches WriteWrite [] one
    → AddsAll touches WriteRead one two
    → AddsAll touches ReadWrite two three → ArePairsOf touches graph.Whole three
third-part touches one two three a b c = record {
  sound = λ e in_it. elim (in-either two c.more e (subst (λ xs. Contains xs e) c.is in_it)) [
    | inl left ↦ let s = (second-part touches one two a b).sound e left in (s.0, tt, s.2)
    | inr right ↦ (ReadWrite, tt, c.sound e right)
  ];
  all = λ kind i k among pair. each kind i k pair;
}
  where
    each : (kind : Conflict) (i k : ℕ) → IsPair touches kind i k → Contains three (record { from = i; to = k })
    each WriteWrite i k pair = subst (λ xs. Contains xs (record { from = i; to = k })) (sym c.is)
        (in-left two c.more (record { from = i; to = k })
        ((second-part touches one two a b).all WriteWrite i k tt pair))
    each WriteRead i k pair = subst (λ xs. Contains xs (record { from = i; to = k })) (sym c.is)
        (in-left two c.more (record { from = i; to = k }) ((second-part touches one two a b).all WriteRead i k tt pair))
    each ReadWrite i k pair = subst (λ xs. Contains xs (record { from = i; to = k })) (sym c.is)
        (in-right two c.more (record { from = i; to = k }) (c.all i k tt pair))

-- a part is what stands in front
pub front-part : (touches : List Touch) (one three : List Edge) (more : List Edge) → three ≡ one ++ more
    → take (length one) three ≡ one
front-part touches one three more is = rw is (take_at one more (length one) refl)

-- ---- lines

pub joins : (touches : List Touch) (part : List Edge) → ArePairsOf touches graph.Whole part
    → All (JoinsTouches touches) part
joins touches part are = All-from_at (JoinsTouches touches) part (λ k e at.
    let p = (are.sound e (Contains-from_at part k e at)).2 in
    (slice_get_within touches e.from p.a p.first, slice_get_within touches e.to p.b p.second))

module _ (h : List (Transaction ℕ ℕ)) (touches : List Touch) (by : IsFaultlessBy h touches) (g : Graph)
    (old new : List Edge) (n : ℕ)
    (lined : AreLined touches old new) (are : ArePairsOf touches g (take n old)) where
  pub edges-are : AreEdgesOf h g (take n new)
  edges-are = record {
    sound = λ e in_it.
        let at = Contains_at (take n new) e in_it in
        sounds e at.0 at.1;
    all = λ from to c.
        let p = conflict-pair h touches by.touches_are by.ordered by.faultless c.kind from to c.x c.v c.w c.conflict in
        let in_it = are.all c.kind p.i p.k c.among p.pair in
        let at = Contains_at (take n old) (record { from = p.i; to = p.k }) in_it in
        let t = slice_get-take old n at.0 (record { from = p.i; to = p.k }) at.1 in
        let q = within_at new at.0 (omega (
          arith,
          slice_get_within old at.0 (record { from = p.i; to = p.k }) t.1,
          lined.size,
        )) in
        let l = lined.each at.0 (record { from = p.i; to = p.k }) q.0 t.1 q.1 in
        let a_is = same_Some l.a p.pair.a (sym l.first ∙ p.pair.first) in
        let b_is = same_Some l.b p.pair.b (sym l.second ∙ p.pair.second) in
        let here = slice_get-take_at new n at.0 q.0 t.0 q.1 in
        let found = subst (Contains (take n new)) l.is (Contains-from_at (take n new) at.0 q.0 here) in
        let one : l.a.line ≡ from = ap (λ (u : Touch). u.line) a_is ∙ p.from_is in
        let two : l.b.line ≡ to = ap (λ (u : Touch). u.line) b_is ∙ p.to_is in
        subst (λ x. Contains (take n new) (record { from = x; to = to })) one
        (subst (λ y. Contains (take n new) (record { from = l.a.line; to = y })) two found);
    nodes = All-from_at (JoinsNodes (length h)) (take n new) (λ k e at.
        let c = sounds-lines e k at in
        (slice_get_within h e.from c.0 c.1, slice_get_within h e.to c.2 c.3));
  }
    where
      back : (e : Edge) (k : ℕ) → slice_get (take n new) k ≡ Some e → (p : Edge) × (slice_get (take n old) k ≡ Some p)
          × IsLined touches p e
      back e k at =
          let t = slice_get-take new n k e at in
          let p = within_at old k (omega (arith, slice_get_within new k e t.1, lined.size)) in
          (p.0, slice_get-take_at old n k p.0 t.0 p.1, lined.each k p.0 e p.1 t.1)

      sounds : (e : Edge) (k : ℕ) → slice_get (take n new) k ≡ Some e → ConflictIn h g e.from e.to
      sounds e k at =
          let b = back e k at in
          let s = are.sound b.0 (Contains-from_at (take n old) k b.0 b.1) in
          let c = pair-conflict h touches by.touches_are by.ordered by.faultless s.0 b.0.from b.0.to s.2 in
          let a_is = same_Some s.2.a b.2.a (sym s.2.first ∙ b.2.first) in
          let b_is = same_Some s.2.b b.2.b (sym s.2.second ∙ b.2.second) in
          let one : s.2.a.line ≡ e.from = ap (λ (u : Touch). u.line) a_is ∙ sym (ap (λ (u : Edge). u.from) b.2.is) in
          let two : s.2.b.line ≡ e.to = ap (λ (u : Touch). u.line) b_is ∙ sym (ap (λ (u : Edge). u.to) b.2.is) in
          subst (λ y. ConflictIn h g e.from y) two (subst (λ x. ConflictIn h g x s.2.b.line) one (record {
            kind = s.0;
            among = s.1;
            x = s.2.a.item;
            v = s.2.a.version;
            w = s.2.b.version;
            conflict = c;
          }))

      sounds-lines : (e : Edge) (k : ℕ) → slice_get (take n new) k ≡ Some e
          → (t : Transaction ℕ ℕ) × (slice_get h e.from ≡ Some t) × (u : Transaction ℕ ℕ) × (slice_get h e.to ≡ Some u)
      sounds-lines e k at =
          let b = back e k at in
          let x = All_in (IsTouch h) touches b.2.a by.touches_are.each
          (Contains-from_at touches b.0.from b.2.a b.2.first) in
          let y = All_in (IsTouch h) touches b.2.b by.touches_are.each
          (Contains-from_at touches b.0.to b.2.b b.2.second) in (
            x.t,
            ap (λ (u : Edge). slice_get h u.from) b.2.is
                ∙ x.in_line,
            y.t,
            ap (λ (u : Edge). slice_get h u.to) b.2.is ∙ y.in_line,
          )

-- ---- by graph

pub by-graph : (P : Graph → Type 0) → P graph.WriteWrite → P graph.WithReads → P graph.Whole → (g : Graph) → P g
by-graph P a b c graph.WriteWrite = a
by-graph P a b c graph.WithReads = b
by-graph P a b c graph.Whole = c

pub record HasThree (touches : List Touch) (three : List Edge) (n m : ℕ) : Type 0 where
  pub first : ArePairsOf touches graph.WriteWrite (take n three)
  pub second : ArePairsOf touches graph.WithReads (take m three)
  pub third : ArePairsOf touches graph.Whole three

pub three-parts : (touches : List Touch) (none one two three : List Edge) (n m : ℕ) → none ≡ []
    → AddsAll touches WriteWrite none one
    → AddsAll touches WriteRead one two → AddsAll touches ReadWrite two three → n ≡ length one → m ≡ length two
    → HasThree touches three n m
three-parts touches none one two three n m nil a b c n_is m_is =
    let a' = subst (λ xs. AddsAll touches WriteWrite xs one) nil a in
    let all : three ≡ one ++ (b.more ++ c.more) = c.is ∙ ap (λ xs. xs ++ c.more) b.is
    ∙ append_assoc one b.more c.more in
    record {
      first = subst (ArePairsOf touches graph.WriteWrite) (sym (ap (λ k. take k three) n_is
          ∙ front-part touches one three (b.more ++ c.more) all))
          (first-part touches one a');
      second = subst (ArePairsOf touches graph.WithReads) (sym (ap (λ k. take k three) m_is
          ∙ front-part touches two three c.more c.is))
          (second-part touches one two a' b);
      third = third-part touches one two three a' b c;
    }

pub whole-edges : (h : List (Transaction ℕ ℕ)) (touches : List Touch) → IsFaultlessBy h touches
    → (old new : List Edge) → AreLined touches old new
    → ArePairsOf touches graph.Whole old → AreEdgesOf h graph.Whole new
whole-edges h touches by old new lined are =
    subst (AreEdgesOf h graph.Whole) (take_all (length new) new (omega arith))
    (edges-are h touches by graph.Whole old new (length new) lined
    (subst (ArePairsOf touches graph.Whole) (sym (take_all (length new) old (omega (arith, lined.size)))) are))
