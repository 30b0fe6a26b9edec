-- What a pass over a log keeps of an order, and what orders exclude.
use Rattle.std.proofs.Common.{◌≡◌, ◌≢◌, inl, inr, ◌⊎◌, ℕ, ◌+◌, ◌<◌, ◌≤◌, Bool, true, false, List, Option, Some, None, BTreeMap, IsTrue, refl, sym, ap, ◌∙◌, subst, arith, length, Contains}
use Rattle.std.specs.Prelude.{slice_get}
use Rattle.std.proofs.lemmas.Bool.{cases_eq, true≢false}
use Rattle.std.proofs.lemmas.Option.{same_Some, slice_get_within}
use Rattle.std.proofs.lemmas.Bool.{cases_order}
use Rattle.sgt_names.proofs.Places.{Contains_at, Contains-from_at}
use Rattle.sgt_names.specs.Name.{Name}
use Rattle.sgt_names.specs.Entry.{tx_of, is_increment, IsEnd}
use Rattle.sgt_names.specs.declared.entry.Entry.{Entry}
use Rattle.sgt_names.specs.declared.entry.Entry.TheVariants.{Commit}
use Rattle.sgt_bundle.specs.declared.bundle.SiteLog.{SiteLog}
use Rattle.sgt_certify_logs.specs.Witness.{EndsBefore, HasEnd, HaveConflictsInACycle, HaveEndsInACycle, IsIn, PrecedesCommitted}
use Rattle.sgt_certify_logs.proofs.Cycles.{no-cycle}
use Rattle.sgt_certify_stuck.specs.Apart.{Does}
use Rattle.sgt_certify_stuck.specs.Onward.{ArePlacesOf, CommitsStand, ConflictsFollow, ConflictsLeadOnward, EndsFollow, EndsLeadOnward, EndsStand, IsLastPlace, IsTop, PairLeadsOnward, StandApart, StandsAt, StandsBefore}
use Rattle.sgt_certify_stuck.specs.declared.apart.Class.{Class}
use Rattle.sgt_certify_stuck.specs.declared.apart.Class.TheVariants as class
use Rattle.sgt_names.specs.declared.entry.Kind.TheVariants.{Wr, Rw, Ww}
use Rattle.sgt_names.proofs.Elements.{bool_cases}

pub one-place : (places : BTreeMap ℕ ℕ) (a i j : ℕ) → StandsAt places a i → StandsAt places a j → i ≡ j
one-place places a i j f g = same_Some i j (sym f ∙ g)

-- ---- the places of an order

one-last : (order : List ℕ) (t i j : ℕ) → IsLastPlace order t i → IsLastPlace order t j → i ≡ j
one-last order t i j a b =
    elim (cases_order i j) [
      | inl same ↦ same
      | inr (inl less) ↦ absurd (a.1 j less b.0)
      | inr (inr more) ↦ absurd (b.1 i more a.0)
    ]

module _ (order : List ℕ) (places : BTreeMap ℕ ℕ) (are : ArePlacesOf order places) where
  -- a last place is one of them
  pub stands-last : (t i : ℕ) → IsLastPlace order t i → StandsAt places t i
  stands-last t i last =
      let found = are.all t (Contains-from_at order i t last.0) in
      subst (StandsAt places t) (one-last order t found.0 i (are.last t found.0 found.1) last) found.1

  -- no two stand at one place
  pub stand-apart : StandApart places
  stand-apart a b place at_a at_b = same_Some a b (sym (are.last a place at_a).0 ∙ (are.last b place at_b).0)

  pub stands-in : (t i : ℕ) → StandsAt places t i → Contains order t
  stands-in t i at = Contains-from_at order i t (are.last t i at).0

-- ---- ends

-- one of the ends among the first n entries has this place
abbrev pub HasMet : List Entry → BTreeMap ℕ ℕ → ℕ → ℕ → Type 0
HasMet entries places n top = (p : ℕ) × (e : Entry) × (p < n) × (slice_get entries p ≡ Some e) × IsEnd e
    × StandsAt places (tx_of e) top

-- the ends among the first n entries have places that rise, the last of them this one
pub record RiseTo (entries : List Entry) (places : BTreeMap ℕ ℕ) (n : ℕ) (last : Option ℕ) : Type 0 where
  pub placed : (p : ℕ) (e : Entry) → p < n → slice_get entries p ≡ Some e → IsEnd e
      → (i : ℕ) × (top : ℕ) × StandsAt places (tx_of e) i × (last ≡ Some top) × (i ≤ top)
  pub rising : (p q : ℕ) (e f : Entry) → p < q → q < n → slice_get entries p ≡ Some e → slice_get entries q ≡ Some f
      → IsEnd e → IsEnd f → StandsBefore places (tx_of e) (tx_of f)
  pub met : (top : ℕ) → last ≡ Some top → HasMet entries places n top

met-later : (entries : List Entry) (places : BTreeMap ℕ ℕ) (n top : ℕ) → HasMet entries places n top
    → HasMet entries places (n + 1) top
met-later entries places n top (p, e, lt, at, ends, stands) = (p, e, omega (arith, lt), at, ends, stands)

-- the entry at n is no end
pub rise-past : (entries : List Entry) (places : BTreeMap ℕ ℕ) (n : ℕ) (last : Option ℕ) (a : Entry)
    → RiseTo entries places n last
    → slice_get entries n ≡ Some a → (IsEnd a → ⊥) → RiseTo entries places (n + 1) last
rise-past entries places n last a had at none = record {
  placed = λ p e lt at_p ends.
      elim (cases_eq p n) [
        | inl same ↦ absurd (none (subst IsEnd (same_Some e a (sym at_p ∙ ap (slice_get entries) same ∙ at)) ends))
        | inr other ↦ had.placed p e (omega arith) at_p ends
      ];
  rising = λ p q e f lt within at_p at_q ends then.
      elim (cases_eq q n) [
        | inl same ↦ absurd (none (subst IsEnd (same_Some f a (sym at_q ∙ ap (slice_get entries) same ∙ at)) then))
        | inr other ↦ had.rising p q e f lt (omega arith) at_p at_q ends then
      ];
  met = λ top is. met-later entries places n top (had.met top is);
}

-- or it is one whose place is behind the last
pub rise-on : (entries : List Entry) (places : BTreeMap ℕ ℕ) (n : ℕ) (last : Option ℕ) (a : Entry) (place : ℕ)
    → RiseTo entries places n last
    → slice_get entries n ≡ Some a → IsEnd a → StandsAt places (tx_of a) place
    → ((before : ℕ) → last ≡ Some before → before < place)
    → RiseTo entries places (n + 1) (Some place)
rise-on entries places n last a place had at ending stands behind = record {
  placed = λ p e lt at_p ends.
      elim (cases_eq p n) [
        | inl same ↦
            let one : a ≡ e = same_Some a e (sym at ∙ ap (slice_get entries) (sym same) ∙ at_p) in
            let here = subst (λ (x : Entry). StandsAt places (tx_of x) place) one stands in
            (place, place, here, refl, omega arith)
        | inr other ↦
            let h = had.placed p e (omega arith) at_p ends in
            let b = behind h.1 h.3 in
            let low = h.4 in
            (h.0, place, h.2, refl, omega (arith, b, low))
      ];
  rising = λ p q e f lt within at_p at_q ends then.
      elim (cases_eq q n) [
        | inl same ↦
            let one : a ≡ f = same_Some a f (sym at ∙ ap (slice_get entries) (sym same) ∙ at_q) in
            let here = subst (λ (x : Entry). StandsAt places (tx_of x) place) one stands in
            let h = had.placed p e (omega arith) at_p ends in
            let b = behind h.1 h.3 in
            let low = h.4 in
            (h.0, place, h.2, here, omega (arith, b, low))
        | inr other ↦ had.rising p q e f lt (omega arith) at_p at_q ends then
      ];
  met = λ top is.
      (n, a, omega arith, at, ending, subst (StandsAt places (tx_of a)) (same_Some place top is) stands);
}

-- ---- pairs

-- one of the first n entries does this to the item, and has this place
abbrev pub HasRaised : List Entry → BTreeMap ℕ ℕ → ℕ → Class → Name → ℕ → Type 0
HasRaised entries places n first x top =
    (p : ℕ) × (e : Entry) × (p < n) × (slice_get entries p ≡ Some e) × StandsAt places (tx_of e) top × Does first x e

raised-later : (entries : List Entry) (places : BTreeMap ℕ ℕ) (n : ℕ) (first : Class) (x : Name) (top : ℕ)
    → HasRaised entries places n first x top
    → HasRaised entries places (n + 1) first x top
raised-later entries places n first x top (p, e, lt, at, stands, does) = (p, e, omega (arith, lt), at, stands, does)

-- what stands at the items behind the first n entries
pub record HasTops (entries : List Entry) (places : BTreeMap ℕ ℕ) (n : ℕ) (first second : Class)
    (tops : BTreeMap (List ℕ) ℕ) : Type 0 where
  pub met : (p : ℕ) (e : Entry) (x : Name) (i : ℕ) → p < n → slice_get entries p ≡ Some e
      → StandsAt places (tx_of e) i → Does first x e
      → (top : ℕ) × IsTop tops x top × (i ≤ top)
  pub rising : (p q : ℕ) (e f : Entry) (x : Name) (i j : ℕ) → p < q → q < n → slice_get entries p ≡ Some e
      → slice_get entries q ≡ Some f
      → StandsAt places (tx_of e) i → StandsAt places (tx_of f) j → Does first x e → Does second x f → i ≤ j
  pub only : (x : Name) (top : ℕ) → IsTop tops x top → HasRaised entries places n first x top

-- the transaction of the entry at n has no place
pub tops-past : (entries : List Entry) (places : BTreeMap ℕ ℕ) (n : ℕ) (first second : Class)
    (tops : BTreeMap (List ℕ) ℕ) (a : Entry)
    → HasTops entries places n first second tops → slice_get entries n ≡ Some a
    → ((i : ℕ) → StandsAt places (tx_of a) i → ⊥)
    → HasTops entries places (n + 1) first second tops
tops-past entries places n first second tops a had at none = record {
  met = λ p e x i lt at_p stands does.
      elim (cases_eq p n) [
        | inl same ↦
            let one : e ≡ a = same_Some e a (sym at_p ∙ ap (slice_get entries) same ∙ at) in
            absurd (none i (subst (λ (y : Entry). StandsAt places (tx_of y) i) one stands))
        | inr other ↦ had.met p e x i (omega arith) at_p stands does
      ];
  rising = λ p q e f x i j lt within at_p at_q stands then does does_then.
      elim (cases_eq q n) [
        | inl same ↦
            let one : f ≡ a = same_Some f a (sym at_q ∙ ap (slice_get entries) same ∙ at) in
            absurd (none j (subst (λ (y : Entry). StandsAt places (tx_of y) j) one then))
        | inr other ↦ had.rising p q e f x i j lt (omega arith) at_p at_q stands then does does_then
      ];
  only = λ x top is. raised-later entries places n first x top (had.only x top is);
}

-- or it has one, behind none of the tops that it meets, and raises them
pub tops-on : (entries : List Entry) (places : BTreeMap ℕ ℕ) (n : ℕ) (first second : Class)
    (tops next : BTreeMap (List ℕ) ℕ) (a : Entry) (place : ℕ)
    → HasTops entries places n first second tops → slice_get entries n ≡ Some a → StandsAt places (tx_of a) place
    → ((x : Name) (top : ℕ) → Does second x a → IsTop tops x top → top ≤ place)
    → ((x : Name) (top : ℕ) → IsTop tops x top → (t : ℕ) × IsTop next x t × (top ≤ t))
    → ((x : Name) → Does first x a → (t : ℕ) × IsTop next x t × (place ≤ t))
    → ((x : Name) (top : ℕ) → IsTop next x top → IsTop tops x top ⊎ ((top ≡ place) × Does first x a))
    → HasTops entries places (n + 1) first second next
tops-on entries places n first second tops next a place had at stands_a above kept raised only = record {
  met = λ p e x i lt at_p stands does.
      elim (cases_eq p n) [
        | inl same ↦
            let one : e ≡ a = same_Some e a (sym at_p ∙ ap (slice_get entries) same ∙ at) in
            let is = one-place places (tx_of a) i place
            (subst (λ (y : Entry). StandsAt places (tx_of y) i) one stands) stands_a in
            let up = raised x (subst (Does first x) one does) in
            let high = up.2 in
            (up.0, up.1, omega (arith, is, high))
        | inr other ↦
            let h = had.met p e x i (omega arith) at_p stands does in
            let up = kept x h.0 h.1 in
            let low = h.2 in
            let high = up.2 in
            (up.0, up.1, omega (arith, low, high))
      ];
  rising = λ p q e f x i j lt within at_p at_q stands then does does_then.
      elim (cases_eq q n) [
        | inl same ↦
            let one : f ≡ a = same_Some f a (sym at_q ∙ ap (slice_get entries) same ∙ at) in
            let is = one-place places (tx_of a) j place (subst (λ (y : Entry). StandsAt places (tx_of y) j) one then)
            stands_a in
            let h = had.met p e x i (omega arith) at_p stands does in
            let high = above x h.0 (subst (Does second x) one does_then) h.1 in
            let low = h.2 in
            omega (arith, low, high, is)
        | inr other ↦ had.rising p q e f x i j lt (omega arith) at_p at_q stands then does does_then
      ];
  only = λ x top is.
      elim (only x top is) [
        | inl before ↦ raised-later entries places n first x top (had.only x top before)
        | inr now ↦ (n, a, omega arith, at, subst (StandsAt places (tx_of a)) (sym now.0) stands_a, now.1)
      ];
}

pub onward-from : (entries : List Entry) (places : BTreeMap ℕ ℕ)
    → PairLeadsOnward entries places class.Change class.Read
    → PairLeadsOnward entries places class.Read class.Change → PairLeadsOnward entries places class.Change class.Put
    → PairLeadsOnward entries places class.Put class.Change → ConflictsLeadOnward entries places
onward-from entries places reads changes puts over Wr x a b i j c at_a at_b =
    reads c.p c.q c.e c.f x i j c.before c.first c.second (subst (λ t. StandsAt places t i) (sym c.from) at_a)
    (subst (λ t. StandsAt places t j) (sym c.to) at_b)
    c.clash.0 c.clash.1
onward-from entries places reads changes puts over Rw x a b i j c at_a at_b =
    changes c.p c.q c.e c.f x i j c.before c.first c.second (subst (λ t. StandsAt places t i) (sym c.from) at_a)
    (subst (λ t. StandsAt places t j) (sym c.to) at_b)
    c.clash.0 c.clash.1
onward-from entries places reads changes puts over Ww x a b i j c at_a at_b =
    let from = subst (λ t. StandsAt places t i) (sym c.from) at_a in
    let to = subst (λ t. StandsAt places t j) (sym c.to) at_b in
    elim (bool_cases (is_increment c.e)) [
      | inl adds ↦
          puts c.p c.q c.e c.f x i j c.before c.first c.second from to c.clash.0 (
            c.clash.1,
            λ (both : IsTrue (is_increment c.f)). c.clash.2 adds both,
          )
      | inr writes ↦
          over c.p c.q c.e c.f x i j c.before c.first c.second from to
          (c.clash.0, λ (adds : IsTrue (is_increment c.e)). true≢false (sym adds ∙ writes)) c.clash.1
    ]

-- and meet nothing else
module _ (entries : List Entry) (places : BTreeMap ℕ ℕ) (onward : ConflictsLeadOnward entries places) where
  same-or : (e f : Entry) (i j : ℕ) → StandsAt places (tx_of e) i → StandsAt places (tx_of f) j
      → (tx_of e ≢ tx_of f → i ≤ j) → i ≤ j
  same-or e f i j at_e at_f apart =
      elim (cases_eq (tx_of e) (tx_of f)) [
        | inl same ↦ let is = one-place places (tx_of f) i j (subst (λ t. StandsAt places t i) same at_e) at_f in
            omega (arith, is)
        | inr other ↦ apart other
      ]

  pub reads-onward : PairLeadsOnward entries places class.Change class.Read
  reads-onward p q e f x i j lt at_p at_q at_e at_f does then =
      same-or e f i j at_e at_f (λ apart. onward Wr x (tx_of e) (tx_of f) i j
      (record {
        p = p;
        q = q;
        e = e;
        f = f;
        before = lt;
        first = at_p;
        second = at_q;
        from = refl;
        to = refl;
        apart =
            apart;
        clash = (does, then);
      }) at_e at_f)

  pub changes-onward : PairLeadsOnward entries places class.Read class.Change
  changes-onward p q e f x i j lt at_p at_q at_e at_f does then =
      same-or e f i j at_e at_f (λ apart. onward Rw x (tx_of e) (tx_of f) i j
      (record {
        p = p;
        q = q;
        e = e;
        f = f;
        before = lt;
        first = at_p;
        second = at_q;
        from = refl;
        to = refl;
        apart =
            apart;
        clash = (does, then);
      }) at_e at_f)

  pub puts-onward : PairLeadsOnward entries places class.Change class.Put
  puts-onward p q e f x i j lt at_p at_q at_e at_f does then =
      same-or e f i j at_e at_f (λ apart. onward Ww x (tx_of e) (tx_of f) i j
      (record {
        p = p;
        q = q;
        e = e;
        f = f;
        before = lt;
        first = at_p;
        second = at_q;
        from = refl;
        to = refl;
        apart =
            apart;
        clash = (does, then.0, λ adds both. then.1 both);
      }) at_e at_f)

  pub over-onward : PairLeadsOnward entries places class.Put class.Change
  over-onward p q e f x i j lt at_p at_q at_e at_f does then =
      same-or e f i j at_e at_f (λ apart. onward Ww x (tx_of e) (tx_of f) i j
      (record {
        p = p;
        q = q;
        e = e;
        f = f;
        before = lt;
        first = at_p;
        second = at_q;
        from = refl;
        to = refl;
        apart =
            apart;
        clash = (does.0, then, λ adds both. does.1 adds);
      }) at_e at_f)

-- ---- what the order says

module _ (sites : List SiteLog) (order : List ℕ) (places : BTreeMap ℕ ℕ) (are : ArePlacesOf order places) where
  pub ends-follow : ((log : SiteLog) → Contains sites log
      → EndsStand log.entries places × EndsLeadOnward log.entries places) → EndsFollow sites order
  ends-follow each = record {
    all = λ t (e, is, ends, same).
        let at = Contains_at is.0.entries e is.2 in
        let stands = (each is.0 is.1).0 at.0 e at.1 ends in
        subst (Contains order) same (stands-in order places are (tx_of e) stands.0 stands.1);
    onward = λ a b s i j last_a last_b.
        let h = (each s.log s.here).1 s.p s.q s.e s.f s.before s.first s.second s.ends.0 s.ends.1 in
        let is = one-place places a h.0 i (subst (λ t. StandsAt places t h.0) s.from h.2)
        (stands-last order places are a i last_a) in
        let js = one-place places b h.1 j (subst (λ t. StandsAt places t h.1) s.to h.3)
        (stands-last order places are b j last_b) in
        let lt = h.4 in
        omega (arith, is, js, lt);
  }

  pub ends-onward : EndsFollow sites order → (log : SiteLog) → Contains sites log
      → EndsStand log.entries places × EndsLeadOnward log.entries places
  ends-onward follow log here = (
    λ p e at ends. are.all (tx_of e) (follow.all (tx_of e) (
      e,
      (log, here, Contains-from_at log.entries p e at),
      ends,
      refl,
    )),
    λ p q e f lt at_p at_q ends then.
        let a = are.all (tx_of e) (follow.all (tx_of e) (
          e,
          (log, here, Contains-from_at log.entries p e at_p),
          ends,
          refl,
        )) in
        let b = are.all (tx_of f) (follow.all (tx_of f) (
          f,
          (log, here, Contains-from_at log.entries q f at_q),
          then,
          refl,
        )) in
        let before : EndsBefore sites (tx_of e) (tx_of f) =
        record {
          log = log;
          here = here;
          p = p;
          q = q;
          e = e;
          f = f;
          before = lt;
          first = at_p;
          second = at_q;
          from =
              refl;
          to = refl;
          ends = (ends, then);
        } in (
          a.0,
          b.0,
          a.1,
          b.1,
          follow.onward (tx_of e) (tx_of f) before a.0 b.0 (are.last (tx_of e) a.0 a.1)
              (are.last (tx_of f) b.0 b.1),
        ),
  )

  pub conflicts-follow : CommitsStand sites places
      → ((log : SiteLog) → Contains sites log → ConflictsLeadOnward log.entries places) → ConflictsFollow sites order
  conflicts-follow stand each = record {
    all = λ t is. let at = stand t is in stands-in order places are t at.0 at.1;
    onward = λ log here kind x a b c i j last_a last_b.
        let most = each log here kind x a b i j c (stands-last order places are a i last_a)
        (stands-last order places are b j last_b) in
        elim (cases_eq i j) [
          | inl same ↦ absurd (c.apart (same_Some a b (sym last_a.0 ∙ ap (slice_get order) same ∙ last_b.0)))
          | inr other ↦ omega arith
        ];
  }

  pub commits-in : ConflictsFollow sites order → CommitsStand sites places
  commits-in follow t is = are.all t (follow.all t is)

  pub conflicts-onward : ConflictsFollow sites order → (log : SiteLog) → Contains sites log
      → ConflictsLeadOnward log.entries places
  conflicts-onward follow log here kind x a b i j c at_a at_b =
      let lt = follow.onward log here kind x a b c i j (are.last a i at_a) (are.last b j at_b) in
      omega (arith, lt)

-- ---- no cycle

pub no-end-cycle : (sites : List SiteLog) (places : BTreeMap ℕ ℕ)
    → ((log : SiteLog) → Contains sites log → EndsStand log.entries places × EndsLeadOnward log.entries places)
    → HaveEndsInACycle sites → ⊥
no-end-cycle sites places onward =
    no-cycle (EndsBefore sites) (StandsAt places) (one-place places)
    (λ a b (s : EndsBefore sites a b).
    let h = (onward s.log s.here).1 s.p s.q s.e s.f s.before s.first s.second s.ends.0 s.ends.1 in
    (h.0, h.1, subst (λ t. StandsAt places t h.0) s.from h.2, subst (λ t. StandsAt places t h.1) s.to h.3, h.4))

pub no-conflict-cycle : (sites : List SiteLog) (places : BTreeMap ℕ ℕ) → StandApart places → CommitsStand sites places
    → ((log : SiteLog) → Contains sites log → ConflictsLeadOnward log.entries places) → HaveConflictsInACycle sites → ⊥
no-conflict-cycle sites places apart stand onward =
    no-cycle (PrecedesCommitted sites) (StandsAt places) (one-place places)
    (λ a b (s : PrecedesCommitted sites a b).
    let at_a = stand a s.committed.0 in
    let at_b = stand b s.committed.1 in
    let most = onward s.log s.here s.kind s.item a b at_a.0 at_b.0 s.conflict at_a.1 at_b.1 in (
      at_a.0,
      at_b.0,
      at_a.1,
      at_b.1,
      elim (cases_eq at_a.0 at_b.0) [
        | inl same ↦ absurd (s.conflict.apart (apart a b at_b.0 (subst (StandsAt places a) same at_a.1) at_b.1))
        | inr other ↦ omega arith
      ],
    ))
