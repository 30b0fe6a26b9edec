-- A read, and a decision with its block, keep a log legal.
use Rattle.std.proofs.Common.{◌≡◌, ◌≤◌, ◌+◌, ℕ, Bool, true, false, cond, List, [], ◌∷◌, ◌++◌, length, sym, ◌∙◌, arith, ◌⊎◌, inl, inr, AllPairs, Contains, Some, subst, ap}
use Rattle.std.specs.Prelude.{slice_get}
use Rattle.std.specs.Option.{ForSome}
use Rattle.std.proofs.lemmas.Bool.{cases_eq, true≢false}
use Rattle.std.proofs.lemmas.List.{append-nil}
use Rattle.std.proofs.lemmas.List.Elements.{Contains-append_cases, Contains-append_left, Contains-append_right}
use Rattle.std.proofs.lemmas.Option.{slice_get_within, same_Some}
use Rattle.sgt_names.specs.Name.{Name}
use Rattle.sgt_names.specs.Entry.{tx_of, item_of, Reads, Writes, IsEnd, IsOpen}
use Rattle.sgt_names.specs.Log.{names}
use Rattle.sgt_names.specs.declared.entry.Entry.{Entry}
use Rattle.sgt_names.specs.declared.entry.Entry.TheVariants as entry
use Rattle.sgt_names.specs.declared.entry.Holding.{Holding}
use Rattle.sgt_names.proofs.Places.{AllPairs-from_at, AllPairs_at, Contains_at, Contains-from_at}
use Rattle.sgt_certifier.proofs.Members.{AllPairs-append, cons_here, place_right}
use Rattle.sgt_certifier.specs.Certifier.{State, Ruling, ruled}
use Rattle.sgt_certifier.specs.Sound.{IsRuled}
use Rattle.sgt_core_model.proofs.Kept.{IsRead, SuitsRuling, IsFree, Stands, EndInRulingOrder, NotTwice, NotEnded, IsLegalLog}
use Rattle.sgt_core_model.proofs.Entries.{read_no_end, read_no_write, read_suits, open_no_end, open_no_read, end_no_write, end_no_read, end_has_none}
use Rattle.sgt_names.proofs.Elements.{contains-cases, contains-later, contains-none, get-push_cases, get-push_last}
use Rattle.sgt_names.proofs.Lists.{front_at}

-- ---- lists in parts

pub pairs_front : {A : Type 0} (R : A → A → Type 0) (xs ys : List A) → AllPairs R (xs ++ ys) → AllPairs R xs
pairs_front R xs ys h =
    AllPairs-from_at R xs (λ p q a b lt at_a at_b. AllPairs_at R (xs ++ ys) p q a b h lt (front_at xs ys p a at_a)
    (front_at xs ys q b at_b))

pub pairs_back : {A : Type 0} (R : A → A → Type 0) (xs ys : List A) → AllPairs R (xs ++ ys) → AllPairs R ys
pairs_back R xs ys h =
    AllPairs-from_at R ys (λ p q a b lt at_a at_b. AllPairs_at R (xs ++ ys) (length xs + p) (length xs + q) a b h
    (omega arith) (place_right xs ys p a at_a) (place_right xs ys q b at_b))

pub pairs_across : {A : Type 0} (R : A → A → Type 0) (xs ys : List A) → AllPairs R (xs ++ ys) → (a b : A)
    → Contains xs a → Contains ys b → R a b
pairs_across R xs ys h a b ca cb =
    let p = Contains_at xs a ca in
    let q = Contains_at ys b cb in
    let inside = slice_get_within xs p.0 a p.1 in
    AllPairs_at R (xs ++ ys) p.0 (length xs + q.0) a b h (omega arith) (front_at xs ys p.0 a p.1)
    (place_right xs ys q.0 b q.1)

pairs_one : {A : Type 0} (R : A → A → Type 0) (r : A) → AllPairs R (r ∷ [])
pairs_one R r i j d lt within = absurd (omega arith)

pub pairs_insert : {A : Type 0} (R : A → A → Type 0) (xs ys : List A) (r : A) → AllPairs R (xs ++ ys)
    → ((a : A) → Contains xs a → R a r) → ((b : A) → Contains ys b → R r b) → AllPairs R (xs ++ r ∷ ys)
pairs_insert R xs ys r h before after =
    AllPairs-append R xs (r ∷ ys) (pairs_front R xs ys h)
    (AllPairs-append R (r ∷ []) ys (pairs_one R r) (pairs_back R xs ys h)
    (λ a b ca cb. elim (contains-cases r [] a ca) [
      | inl e ↦ subst (λ z. R z b) e (after b cb)
      | inr none ↦ absurd (contains-none a none)
    ]))
    (λ a b ca cb. elim (contains-cases r ys b cb) [
      | inl e ↦ subst (R a) e (before a ca)
      | inr later ↦ pairs_across R xs ys h a b ca later
    ])

pub insert_cases : {A : Type 0} (xs ys : List A) (r a : A) → Contains (xs ++ r ∷ ys) a → (r ≡ a) ⊎ Contains (xs ++ ys) a
insert_cases xs ys r a c = elim (Contains-append_cases xs (r ∷ ys) a c) [
  | inl front ↦ inr (Contains-append_left xs ys a front)
  | inr back ↦ elim (contains-cases r ys a back) [
    | inl e ↦ inl e
    | inr later ↦ inr (Contains-append_right xs ys a later)
  ]
]

pub inserted : {A : Type 0} (xs ys : List A) (r a : A) → Contains (xs ++ ys) a → Contains (xs ++ r ∷ ys) a
inserted xs ys r a c = elim (Contains-append_cases xs ys a c) [
  | inl front ↦ Contains-append_left xs (r ∷ ys) a front
  | inr back ↦ Contains-append_right xs (r ∷ ys) a (contains-later r ys a back)
]

-- ---- a read

-- a free transaction has only reads in the log
pub free_reads : (items : List Holding) (s : State) (log : List Entry) (t : ℕ) → IsLegalLog items s log → IsRuled s
    → IsFree s t → (e : Entry) → Contains log e → tx_of e ≡ t → IsRead e
free_reads items s log t h ruled_ free e c own = elim (h.stands e c) [
  | inl read ↦ read.0
  | inr done ↦
      let by = done.0.1 in
      absurd (free.1 (subst (λ u. s.step ≡ Some u) (by.2
      ∙ own) (ruled_.ended done.0.0 by.0 by.1 (subst (Contains s.active) (sym (by.2 ∙ own)) free.0))))
]

pub read-legal : (items : List Holding) (s : State) (xs ys : List Entry) (t : ℕ) (x : Name) (v : ℕ)
    → IsLegalLog items s (xs ++ ys) → IsRuled s → IsFree s t → Contains (names items) x
    → ((e : Entry) → Contains (xs ++ ys) e → tx_of e ≡ t → Reads x e → ⊥)
    → IsLegalLog items s (xs ++ entry.Read t x v ∷ ys)
read-legal items s xs ys t x v h ruled_ free known fresh =
    let r = entry.Read t x v in
    let front : (e : Entry) → Contains xs e → Contains (xs ++ ys) e = λ e c. Contains-append_left xs ys e c in
    let back : (e : Entry) → Contains ys e → Contains (xs ++ ys) e = λ e c. Contains-append_right xs ys e c in
    record {
      known = λ e c. elim (insert_cases xs ys r e c) [
        | inl is ↦ subst (λ f. ForSome (item_of f) (Contains (names items))) is
            (λ y e_. subst (Contains (names items)) (same_Some x y e_) known)
        | inr was ↦ h.known e was
      ];
      once = pairs_insert NotTwice xs ys r h.once
          (λ e c y k. elim k.1 [
            | inl both ↦ fresh e (front e c) k.0 (subst (λ z. Reads z e) (sym both.1) both.0)
            | inr both ↦ both.1
          ])
          (λ f c y k. elim k.1 [
            | inl both ↦ fresh f (back f c) (sym k.0) (subst (λ z. Reads z f) (sym both.0) both.1)
            | inr both ↦ both.0
          ]);
      closed = pairs_insert NotEnded xs ys r h.closed
          (λ e c end same. read_no_end e (free_reads items s (xs ++ ys) t h ruled_ free e (front e c) same) end)
          (λ f c end same. end);
      stands = λ e c. elim (insert_cases xs ys r e c) [
        | inl is ↦ subst (Stands s (xs ++ r ∷ ys)) is (inl (tt, free))
        | inr was ↦ elim (h.stands e was) [
          | inl read ↦ inl read
          | inr done ↦ inr (done.0, (done.1.0, inserted xs ys r done.1.0 done.1.1, done.1.2, done.1.3))
        ]
      ];
      in_order = pairs_insert (EndInRulingOrder s.rulings) xs ys r h.in_order (λ e c end last. absurd last)
          (λ f c end last. absurd end);
    }

-- ---- a decision

-- a block of i, decided so: operations of i that write, on items of the site, each at most once, and an end
pub record IsBlock (items : List Holding) (i : ℕ) (r : Ruling) (ops : List Entry) (last : Entry) : Type 0 where
  pub own : (e : Entry) → Contains ops e → tx_of e ≡ i
  pub known : (e : Entry) → Contains ops e → ForSome (item_of e) (Contains (names items))
  pub opens : (e : Entry) → Contains ops e → IsOpen e
  pub suits : (e : Entry) → Contains ops e → SuitsRuling e r
  pub apart : AllPairs (λ e f. (x : Name) → Writes x e → Writes x f → ⊥) ops
  pub last_own : tx_of last ≡ i
  pub last_end : IsEnd last
  pub last_suits : SuitsRuling last r

-- the certifier decides i by the last decision r, and no other transaction is decided by it
pub record Decides (old : State) (i : ℕ) (r : Ruling) (new : State) : Type 0 where
  pub rulings : new.rulings ≡ old.rulings ++ r ∷ []
  pub of_i : ruled r ≡ i
  pub others : (j : ℕ) → (j ≡ i → ⊥) → IsFree old j → IsFree new j

abbrev pub WritesApart : Entry → Entry → Type 0
WritesApart e f = (x : Name) → Writes x e → Writes x f → ⊥

abbrev pub block_of : Bool → List Entry → Entry → List Entry
block_of t ops last = cond t (ops ++ last ∷ []) []

module _ (items : List Holding) (old new : State) (log : List Entry) (i : ℕ) (r : Ruling) (ops : List Entry)
    (last : Entry)
    (h : IsLegalLog items old log) (ruled_ : IsRuled old) (free : IsFree old i) (d : Decides old i r new)
    (b : IsBlock items i r ops last) where
  -- an end in the log is of another transaction, decided before
  old_number : (e : Entry) → Contains log e → IsEnd e → (m : ℕ) (q : Ruling) → slice_get new.rulings m ≡ Some q
      → ruled q ≡ tx_of e → slice_get old.rulings m ≡ Some q
  old_number e c end m q at_m is =
      elim (get-push_cases old.rulings r m q (ap (λ rs. slice_get rs m) (sym d.rulings) ∙ at_m)) [
        | inl was ↦ was
        | inr fresh ↦
            let own : tx_of e ≡ i = sym is ∙ sym (ap ruled fresh.1) ∙ d.of_i in
            absurd (read_no_end e (free_reads items old log i h ruled_ free e c own) end)
      ]

  -- a decision on i has the last number
  last_number : (m : ℕ) (q : Ruling) → slice_get new.rulings m ≡ Some q → ruled q ≡ i → m ≡ length old.rulings
  last_number m q at_m is =
      elim (get-push_cases old.rulings r m q (ap (λ rs. slice_get rs m) (sym d.rulings) ∙ at_m)) [
        | inl was ↦ absurd
            (free.1 (subst (λ u. old.step ≡ Some u) is
            (ruled_.ended m q was (subst (Contains old.active) (sym is) free.0))))
        | inr fresh ↦ fresh.0
      ]

  in_bounds : (m : ℕ) (q : Ruling) → slice_get new.rulings m ≡ Some q → m ≤ length old.rulings
  in_bounds m q at_m =
      elim (get-push_cases old.rulings r m q (ap (λ rs. slice_get rs m) (sym d.rulings) ∙ at_m)) [
        | inl was ↦ let inside = slice_get_within old.rulings m q was in omega arith
        | inr fresh ↦ omega (arith, fresh.0)
      ]

  old_in_order : AllPairs (EndInRulingOrder new.rulings) log
  old_in_order =
      AllPairs-from_at (EndInRulingOrder new.rulings) log
      (λ p k e f lt at_e at_f end last_end_ m n q q' at_m at_n is_e is_f.
      AllPairs_at (EndInRulingOrder old.rulings) log p k e f h.in_order lt at_e at_f end last_end_ m n q q'
      (old_number e (Contains-from_at log p e at_e) end m q at_m is_e)
      (old_number f (Contains-from_at log k f at_f) last_end_ n q' at_n is_f) is_e is_f)

  -- what stood in the log stands in it with the block behind it
  still_stands : (whole : List Entry) → ((e : Entry) → Contains log e → Contains whole e)
      → ((e : Entry) → Contains log e → tx_of e ≡ i → (f : Entry) × Contains whole f × IsEnd f × (tx_of f ≡ i))
      → (e : Entry) → Contains log e → Stands new whole e
  still_stands whole kept ended e c = elim (h.stands e c) [
    | inl read ↦ elim (cases_eq (tx_of e) i) [
      | inl own ↦
          let f = ended e c own in
          inr (
            (
              length old.rulings,
              (
                r,
                subst (λ rs. slice_get rs (length old.rulings) ≡ Some r) (sym d.rulings)
                    (get-push_last old.rulings r),
                d.of_i ∙ sym own,
                read_suits e r read.0,
              ),
            ),
            (f.0, f.1, f.2, f.3 ∙ sym own),
          )
      | inr other ↦ inl (read.0, d.others (tx_of e) other read.1)
    ]
    | inr done ↦
        let by = done.0.1 in
        inr (
          (
            done.0.0,
            (
              by.0,
              subst (λ rs. slice_get rs done.0.0 ≡ Some by.0) (sym d.rulings)
                  (front_at old.rulings (r ∷ []) done.0.0 by.0 by.1),
              by.2,
              by.3,
            ),
          ),
          (done.1.0, kept done.1.0 done.1.1, done.1.2, done.1.3),
        )
  ]

  -- the transaction doesn't touch the site
  untouched-legal : ((e : Entry) → Contains log e → tx_of e ≡ i → ⊥) → IsLegalLog items new (log ++ [])
  untouched-legal out = subst (IsLegalLog items new) (sym (append-nil log)) (record {
    known = h.known;
    once = h.once;
    closed = h.closed;
    stands = still_stands log (λ e c. c) (λ e c own. absurd (out e c own));
    in_order = old_in_order;
  })

  block_member : (e : Entry) → Contains (ops ++ last ∷ []) e → Contains ops e ⊎ (last ≡ e)
  block_member e c = elim (Contains-append_cases ops (last ∷ []) e c) [
    | inl op ↦ inl op
    | inr end ↦ elim (contains-cases last [] e end) [ inl is ↦ inr is | inr none ↦ absurd (contains-none e none) ]
  ]

  block_own : (e : Entry) → Contains (ops ++ last ∷ []) e → tx_of e ≡ i
  block_own e c = elim (block_member e c) [ inl op ↦ b.own e op | inr is ↦ ap tx_of (sym is) ∙ b.last_own ]

  touched-legal : IsLegalLog items new (log ++ (ops ++ last ∷ []))
  touched-legal =
      let block = ops ++ last ∷ [] in
      let whole = log ++ block in
      let last_in : Contains whole last =
      Contains-append_right log block last (Contains-append_right ops (last ∷ []) last (cons_here last [])) in
      let own_read : (e : Entry) → Contains log e → tx_of e ≡ i
      → IsRead e = λ e c own. free_reads items old log i h ruled_ free e c own in
      record {
        known = λ e c. elim (Contains-append_cases log block e c) [
          | inl was ↦ h.known e was
          | inr new_one ↦ elim (block_member e new_one) [
            | inl op ↦ b.known e op
            | inr is ↦ subst (λ f. ForSome (item_of f) (Contains (names items))) is (end_has_none last items b.last_end)
          ]
        ];
        once = AllPairs-append NotTwice log block h.once
            (AllPairs-append NotTwice ops (last ∷ [])
            (AllPairs-from_at NotTwice ops (λ p k e f lt at_e at_f x t. elim t.1 [
              | inl both ↦ open_no_read e x (b.opens e (Contains-from_at ops p e at_e)) both.0
              | inr both ↦ AllPairs_at WritesApart ops p k e f b.apart lt at_e at_f x both.0 both.1
            ]))
            (pairs_one NotTwice last)
            (λ e f ce cf x t. elim (contains-cases last [] f cf) [
              | inl is ↦ elim t.1 [
                | inl both ↦ end_no_read last x b.last_end (subst (Reads x) (sym is) both.1)
                | inr both ↦ end_no_write last x b.last_end (subst (Writes x) (sym is) both.1)
              ]
              | inr none ↦ absurd (contains-none f none)
            ]))
            (λ e f ce cf x t.
            let read = own_read e ce (t.0 ∙ block_own f cf) in
            elim t.1 [
              | inl both ↦ elim (block_member f cf) [
                | inl op ↦ open_no_read f x (b.opens f op) both.1
                | inr is ↦ end_no_read last x b.last_end (subst (Reads x) (sym is) both.1)
              ]
              | inr both ↦ read_no_write e x read both.0
            ]);
        closed = AllPairs-append NotEnded log block h.closed
            (AllPairs-append NotEnded ops (last ∷ [])
            (AllPairs-from_at NotEnded ops
            (λ p k e f lt at_e at_f end. absurd (open_no_end e (b.opens e (Contains-from_at ops p e at_e)) end)))
            (pairs_one NotEnded last)
            (λ e f ce cf end. absurd (open_no_end e (b.opens e ce) end)))
            (λ e f ce cf end same. read_no_end e (own_read e ce (same ∙ block_own f cf)) end);
        stands = λ e c. elim (Contains-append_cases log block e c) [
          | inl was ↦ still_stands whole (λ f k. Contains-append_left log block f k)
              (λ f k own. (last, last_in, b.last_end, b.last_own)) e was
          | inr new_one ↦
              let suits : SuitsRuling e r =
              elim (block_member e new_one) [
                | inl op ↦ b.suits e op
                | inr is ↦ subst (λ f. SuitsRuling f r) is b.last_suits
              ] in
              let own = block_own e new_one in
              inr (
                (
                  length old.rulings,
                  (
                    r,
                    subst (λ rs. slice_get rs (length old.rulings) ≡ Some r) (sym d.rulings)
                        (get-push_last old.rulings r),
                    d.of_i ∙ sym own,
                    suits,
                  ),
                ),
                (
                  last,
                  last_in,
                  b.last_end,
                  b.last_own
                      ∙ sym own,
                ),
              )
        ];
        in_order = AllPairs-append (EndInRulingOrder new.rulings) log block old_in_order
            (AllPairs-append (EndInRulingOrder new.rulings) ops (last ∷ [])
            (AllPairs-from_at (EndInRulingOrder new.rulings) ops
            (λ p k e f lt at_e at_f end. absurd (open_no_end e (b.opens e (Contains-from_at ops p e at_e)) end)))
            (pairs_one (EndInRulingOrder new.rulings) last)
            (λ e f ce cf end. absurd (open_no_end e (b.opens e ce) end)))
            (λ e f ce cf end end_f m n q q' at_m at_n is_e is_f.
            let upper = in_bounds m q at_m in
            let exact = last_number n q' at_n (is_f ∙ block_own f cf) in
            omega arith);
      }

  pub decided-legal : (t : Bool) → ((e : Entry) → Contains log e → tx_of e ≡ i → t ≡ true)
      → IsLegalLog items new (log ++ block_of t ops last)
  decided-legal true touches = touched-legal
  decided-legal false touches = untouched-legal (λ e c own. true≢false (sym (touches e c own)))
