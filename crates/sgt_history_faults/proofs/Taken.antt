-- A line taken up by one operation more.
use Rattle.std.proofs.Common.{◌≡◌, ◌≢◌, ℕ, zero, suc, ◌+◌, ◌<◌, ◌≤◌, Bool, true, false, IsTrue, List, [], ◌∷◌, ◌++◌, Option, Some, None, length, refl, sym, ap, ◌∙◌, subst, arith, inl, inr, ◌⊎◌, All, Contains, append_assoc, append-nil, get_or}
use Rattle.std.specs.Prelude.{slice_get, slice_set, ◌↔◌}
use Rattle.std.proofs.lemmas.Bool.{cases_eq, cases_lt, cases_order}
use Rattle.std.proofs.lemmas.Option.{same_Some, slice_get_within, slice_get-get_or}
use Rattle.std.proofs.lemmas.List.Elements.{All-append}
use Rattle.std.proofs.lemmas.List.{length-set}
use Rattle.sgt_names.proofs.Places.{Contains_at, Contains-from_at, All_at, All-from_at}
use Rattle.sgt_names.proofs.Lists.{front_at, back_at, middle_at}
use Rattle.sgt_history.specs.declared.history.Kind.{Kind}
use Rattle.sgt_history.specs.declared.history.Kind.TheVariants.{Read, Write}
use Rattle.sgt_history.specs.declared.history.Operation.{Operation}
use Rattle.sgt_history.specs.Serial.{IsWriteOf, NoneWrites, IsLastWritten}
use Rattle.sgt_history.proofs.Runs.{one_version}
use Rattle.sgt_history_faults.specs.declared.mine.Mine.{Mine}
use Rattle.sgt_history_faults.specs.declared.mine.Owned.{Owned}
use Rattle.sgt_history_faults.specs.declared.mine.Owned.TheVariants.{Not, Follows, Contradicts}
use Rattle.sgt_history_faults.specs.declared.touch.Touch.{Touch}
use Rattle.sgt_history_faults.specs.declared.touching.Whose.{Whose}
use Rattle.sgt_history_faults.specs.Mine.{IsMine, FollowsOwn, ContradictsOwn, IsOwned, AreMine, StampedTo, IsItemBelow}
use Rattle.sgt_history_faults.specs.Touch.{IsTouchOf, IsToTouch, IsTouched, IsContradicted, TellsContradiction, TakesLine}
use Rattle.sgt_history_faults.proofs.Covering.{kinds}

one_last : (done : List (Operation ℕ ℕ)) (n x v w : ℕ) → IsLastWritten done n x v → IsLastWritten done n x w → v ≡ w
one_last done n x v w a b = one_version done n x v w (inl a) (inl b)

-- what follows doesn't contradict
pub follows-not : (done : List (Operation ℕ ℕ)) (n : ℕ) (o : Operation ℕ ℕ) → FollowsOwn done n o
    → ContradictsOwn done n o → ⊥
follows-not done n o f c =
    let same = one_last done n o.item f.version c.version f.own c.own in
    elim (kinds o.kind) [
      | inl read ↦ c.read read (f.read read ∙ same)
      | inr write ↦ absurd (omega (arith, f.write write, c.write write, same))
    ]

pub not-contradicts : (done : List (Operation ℕ ℕ)) (n : ℕ) (o : Operation ℕ ℕ) → NoneWrites done 0 n o.item
    → ContradictsOwn done n o → ⊥
not-contradicts done n o none c = none c.own.last c.own.o (omega arith) c.own.before c.own.there c.own.writes

owned-contradicts : (done : List (Operation ℕ ℕ)) (n : ℕ) (o : Operation ℕ ℕ) (w : Owned) → w ≢ Contradicts
    → IsOwned done n o w → ContradictsOwn done n o → ⊥
owned-contradicts done n o Not e is c = not-contradicts done n o is c
owned-contradicts done n o Follows e is c = follows-not done n o is c
owned-contradicts done n o Contradicts e is c = e refl

-- none before, and not this one
pub still-none : (done : List (Operation ℕ ℕ)) (n : ℕ) (o : Operation ℕ ℕ) (w : Owned) → w ≢ Contradicts
    → slice_get done n ≡ Some o → IsOwned done n o w
    → TellsContradiction done n None → TellsContradiction done (n + 1) None
still-none done n o w e at is none place lt (u, there, c) =
    elim (cases_eq place n) [
      | inl same ↦
          let o_is : u ≡ o = same_Some u o (sym there ∙ ap (slice_get done) same ∙ at) in
          owned-contradicts done n o w e is
          (subst (λ k. ContradictsOwn done k o) same (subst (ContradictsOwn done place) o_is c))
      | inr apart ↦ none place (omega arith) (u, there, c)
    ]

-- ---- touches

pub to-touch-read : (commits : Bool) (done : List (Operation ℕ ℕ)) (n : ℕ) (o : Operation ℕ ℕ) → o.kind ≡ Read
    → IsToTouch commits done n o
    → (commits ≡ true) × NoneWrites done 0 n o.item
to-touch-read commits done n o read (inl write) = let e = sym read ∙ write in cc
to-touch-read commits done n o read (inr (is, ends, none)) = (ends, none)

pub taken-skip : (whose : Whose) (done : List (Operation ℕ ℕ)) (n : ℕ) (before now : List Touch) (o : Operation ℕ ℕ)
    → slice_get done n ≡ Some o
    → (IsToTouch whose.commits done n o → ⊥) → TakesLine whose done n before now
    → TakesLine whose done (n + 1) before now
taken-skip whose done n before now o at not t = record {
  more = t.more;
  is = t.is;
  each = t.each;
  all = λ place u lt there to. elim (cases_eq place n) [
    | inl same ↦
        let o_is : u ≡ o = same_Some u o (sym there ∙ ap (slice_get done) same ∙ at) in
        absurd (not
        (subst (λ k. IsToTouch whose.commits done k o) same (subst (IsToTouch whose.commits done place) o_is to)))
    | inr apart ↦ t.all place u (omega arith) there to
  ];
}

pub taken-more : (whose : Whose) (done : List (Operation ℕ ℕ)) (n : ℕ) (before now : List Touch) (e : Touch)
    → IsTouchOf whose.line whose.commits done e → e.place ≡ n → TakesLine whose done n before now
    → TakesLine whose done (n + 1) before (now ++ e ∷ [])
taken-more whose done n before now e is place_is t = record {
  more = t.more ++ e ∷ [];
  is = ap (λ xs. xs ++ e ∷ []) t.is ∙ append_assoc before t.more (e ∷ []);
  each = All-append (IsTouchOf whose.line whose.commits done) t.more (e ∷ []) t.each
      (All-from_at (IsTouchOf whose.line whose.commits done) (e ∷ []) (λ k u at. alone k u at));
  all = λ place u lt there to. elim (cases_eq place n) [
    | inl same ↦ record {
      e = e;
      in_it = Contains-from_at (t.more ++ e ∷ []) (length t.more) e (middle_at t.more e []);
      line_is = is.line_is;
      place_is = place_is ∙ sym same;
    }
    | inr apart ↦
        let old = t.all place u (omega arith) there to in
        let at = Contains_at t.more old.e old.in_it in
        record {
          e = old.e;
          in_it = Contains-from_at (t.more ++ e ∷ []) at.0 old.e (front_at t.more (e ∷ []) at.0 old.e at.1);
          line_is = old.line_is;
          place_is = old.place_is;
        }
  ];
}
  where
    alone : (k : ℕ) (u : Touch) → slice_get (e ∷ []) k ≡ Some u → IsTouchOf whose.line whose.commits done u
    alone zero u at = subst (IsTouchOf whose.line whose.commits done) (same_Some e u at) is
    alone (suc k) u at = absurd (cc (at))

-- ---- what is kept of items

none-on : (done : List (Operation ℕ ℕ)) (n x : ℕ) (o : Operation ℕ ℕ) → slice_get done n ≡ Some o → (IsWriteOf o x → ⊥)
    → (from : ℕ) → NoneWrites done from n x → NoneWrites done from (n + 1) x
none-on done n x o at not from none = λ place u above below there w. elim (cases_eq place n) [
  | inl same ↦ not (subst (λ (k : Operation ℕ ℕ). IsWriteOf k x) (same_Some u o (sym there ∙ ap (slice_get done) same
      ∙ at)) w)
  | inr apart ↦ none place u above (omega arith) there w
]

mine-on : (stamp : ℕ) (done : List (Operation ℕ ℕ)) (n x : ℕ) (m : Mine) (o : Operation ℕ ℕ)
    → slice_get done n ≡ Some o → (IsWriteOf o x → ⊥)
    → IsMine stamp done n x m → IsMine stamp done (n + 1) x m
mine-on stamp done n x m o at not is = record {
  last = λ e. let l = is.last e in record {
    last = l.last;
    o = l.o;
    before = omega (arith, l.before);
    there = l.there;
    writes = l.writes;
    version_is = l.version_is;
    none = none-on done n x o at not (suc l.last) l.none;
  };
  greatest = λ e. let g = is.greatest e in record {
    most = λ place u lt there w. elim (cases_eq place n) [
      | inl same ↦ absurd
          (not (subst (λ (k : Operation ℕ ℕ). IsWriteOf k x) (same_Some u o (sym there ∙ ap (slice_get done) same
          ∙ at)) w))
      | inr apart ↦ g.most place u (omega arith) there w
    ];
    place = g.place;
    o = g.o;
    before = omega (arith, g.before);
    there = g.there;
    writes = g.writes;
    version_is = g.version_is;
  };
  none = λ e. none-on done n x o at not 0 (is.none e);
}

set_here : (mine : List Mine) (i : ℕ) (m : Mine) → i < length mine → slice_get (slice_set mine i m) i ≡ Some m
set_here [] i m lt = absurd (omega arith)
set_here (x ∷ xs) zero m lt = refl
set_here (x ∷ xs) (suc i) m lt = set_here xs i m (omega arith)

set_elsewhere : (mine : List Mine) (i x : ℕ) (m : Mine) → i ≢ x → slice_get (slice_set mine i m) x ≡ slice_get mine x
set_elsewhere [] i x m apart = refl
set_elsewhere (y ∷ ys) zero zero m apart = absurd (apart refl)
set_elsewhere (y ∷ ys) zero (suc x) m apart = refl
set_elsewhere (y ∷ ys) (suc i) zero m apart = refl
set_elsewhere (y ∷ ys) (suc i) (suc x) m apart = set_elsewhere ys i x m (λ e. apart (ap suc e))

pub mine-taken : (stamp : ℕ) (done : List (Operation ℕ ℕ)) (n : ℕ) (mine : List Mine) (o : Operation ℕ ℕ) (m : Mine)
    → slice_get done n ≡ Some o
    → o.item < length mine → AreMine stamp done n mine → IsMine stamp done (n + 1) o.item m
    → AreMine stamp done (n + 1) (slice_set mine o.item m)
mine-taken stamp done n mine o m at lt all is = λ x k there. elim (cases_eq x o.item) [
  | inl same ↦
      let k_is : k ≡ m = same_Some k m (sym there ∙ ap (slice_get (slice_set mine o.item m)) same
      ∙ set_here mine o.item m lt) in
      subst (λ i. IsMine stamp done (n + 1) i k) (sym same) (subst (IsMine stamp done (n + 1) o.item) (sym k_is) is)
  | inr apart ↦
      mine-on stamp done n x k o at (λ w. apart (sym w.item))
      (all x k (sym (set_elsewhere mine o.item x m (λ e. apart (sym e))) ∙ there))
]

pub none-yet : (line : ℕ) (done : List (Operation ℕ ℕ)) (mine : List Mine) → StampedTo line mine
    → AreMine (line + 1) done 0 mine
none-yet line done mine to x m there =
    let low = All_at (λ (m : Mine). m.stamp ≤ line) mine x m to there in
    record {
      last = λ e. absurd (omega (arith, e, low));
      greatest = λ e. absurd (omega (arith, e, low));
      none = λ e place o above below at w. absurd (omega arith);
    }

pub stamped-set : (stamp : ℕ) (mine : List Mine) (i : ℕ) (m : Mine) → StampedTo stamp mine → m.stamp ≤ stamp
    → StampedTo stamp (slice_set mine i m)
stamped-set stamp mine i m to low =
    All-from_at (λ (m : Mine). m.stamp ≤ stamp) (slice_set mine i m) (λ x k there. elim (cases_eq x i) [
      | inl same ↦ elim (cases_lt i (length mine)) [
        | inl lt ↦ subst (λ (u : Mine). u.stamp ≤ stamp)
            (sym (same_Some k m (sym there ∙ ap (slice_get (slice_set mine i m)) same ∙ set_here mine i m lt))) low
        | inr past ↦ absurd (omega (
          arith,
          slice_get_within (slice_set mine i m) x k there,
          length-set mine i m,
          past,
          same,
        ))
      ]
      | inr apart ↦ All_at (λ (m : Mine). m.stamp ≤ stamp) mine x k to
          (sym (set_elsewhere mine i x m (λ e. apart (sym e))) ∙ there)
    ])

pub stamped-more : (line : ℕ) (mine : List Mine) → StampedTo line mine → StampedTo (line + 1) mine
stamped-more line mine to = All-from_at (λ (m : Mine). m.stamp ≤ line + 1) mine (λ x k there.
    let low = All_at (λ (m : Mine). m.stamp ≤ line) mine x k to there in omega (arith, low))

pub no_touches : (whose : Whose) (done : List (Operation ℕ ℕ)) (before : List Touch)
    → TakesLine whose done 0 before before
no_touches whose done before = record {
  more = [];
  is = sym (append-nil before);
  each = All-from_at (IsTouchOf whose.line whose.commits done) [] (λ k u at. absurd (cc (at)));
  all = λ place o lt there to. absurd (omega arith);
}

pub stamped-step : (stamp : ℕ) (mine : List Mine) (i : ℕ) (m d : Mine) → StampedTo stamp mine → i < length mine
    → (m.stamp ≡ (get_or mine i d).stamp) ⊎ (m.stamp ≡ stamp) → StampedTo stamp (slice_set mine i m)
stamped-step stamp mine i m d to lt (inl same) = stamped-set stamp mine i m to (omega (arith, same, to i d lt))
stamped-step stamp mine i m d to lt (inr new) = stamped-set stamp mine i m to (omega (arith, new))

-- what a loop over a line's operations keeps of the items
pub record IsStep (stamp : ℕ) (done : List (Operation ℕ ℕ)) (n size : ℕ) (o : Operation ℕ ℕ) (owned : Owned)
    (mine : List Mine) : Type 0 where
  pub at : slice_get done n ≡ Some o
  pub size_is : length mine ≡ size
  pub mine_is : AreMine stamp done (n + 1) mine
  pub stamped : StampedTo stamp mine
  pub owned_is : IsOwned done n o owned

pub step : (stamp : ℕ) (done : List (Operation ℕ ℕ)) (n size : ℕ) (mine : List Mine) (d : Operation ℕ ℕ) (e m : Mine)
    (owned : Owned)
    → n < length done → length mine ≡ size → All (IsItemBelow size) done → AreMine stamp done n mine
    → StampedTo stamp mine
    → (m.stamp ≡ (get_or mine (get_or done n d).item e).stamp) ⊎ (m.stamp ≡ stamp)
    → ((these : List (Operation ℕ ℕ)) (k : ℕ) → slice_get these k ≡ Some (get_or done n d)
    → IsMine stamp these k (get_or done n d).item (get_or mine (get_or done n d).item e)
    → IsMine stamp these (k + 1) (get_or done n d).item m × IsOwned these k (get_or done n d) owned)
    → IsStep stamp done n size (get_or done n d) owned (slice_set mine (get_or done n d).item m)
step stamp done n size mine d e m owned lt same items all to stamps both =
    let at = slice_get-get_or done n d lt in
    let below = All_at (IsItemBelow size) done n (get_or done n d) items at in
    let room : (get_or done n d).item < length mine = omega (arith, below, same) in
    let there = slice_get-get_or mine (get_or done n d).item e room in
    let two = both done n at (all (get_or done n d).item (get_or mine (get_or done n d).item e) there) in
    record {
      at = at;
      size_is = length-set mine (get_or done n d).item m ∙ same;
      mine_is = mine-taken stamp done n mine (get_or done n d) m at room all two.0;
      stamped = stamped-step stamp mine (get_or done n d).item m e to room stamps;
      owned_is = two.1;
    }
