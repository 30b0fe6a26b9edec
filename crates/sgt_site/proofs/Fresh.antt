-- A site with no entries.
use Rattle.std.proofs.Common.{◌≡◌, ℕ, zero, suc, ◌+◌, ◌-◌, ◌<◌, ◌≤◌, List, [], ◌∷◌, length, get_or, Some, refl, sym, ap, ◌∙◌, subst, arith, inl, inr, true, ◌≢◌, All, AllPairs}
use Rattle.std.specs.Prelude.{slice_get, option_map}
use Rattle.std.specs.Ordering.{nat_cmp}
use Rattle.std.specs.Cmp.Lexicographic.{slice_cmp}
use Rattle.std.specs.Str.{bytes_eq}
use Rattle.std.specs.declared.cmp.Ordering.TheVariants.{Less, Equal}
use Rattle.std.proofs.lemmas.Bool.{cases_Bool, cases_lt}
use Rattle.std.proofs.lemmas.Cmp.{nat_list_cmp_total, tied_itself}
use Rattle.std.proofs.lemmas.Option.{slice_get-get_or, slice_get_within, slice_get-map, same_Some, slice_get_read}
use Rattle.std.proofs.lemmas.Slice.Eq.{bytes_eq-Decides}
use Rattle.sgt_names.specs.Ordered.{IsRisingBy}
use Rattle.sgt_names.specs.Log.{names, value_in}
use Rattle.sgt_names.specs.declared.entry.Holding.{Holding}
use Rattle.sgt_names.proofs.Places.{AllPairs_at, AllPairs-from_at, AllPairs-tail, All_at, All-from_at}
use Rattle.sgt_site.specs.declared.cell.Reader.{Reader}
use Rattle.sgt_site.specs.State.{AreItems, opened}
use Rattle.sgt_site.specs.private.Cells.{Contents, CellsRise, values_of, IsFresh}
use Rattle.sgt_site.specs.private.Kept.{Spare, IsCell, IsKept}
use Rattle.sgt_site.proofs.Keeps.{names-values}

-- names that rise from each to the next rise from each to every later one
pub rising_from_next : (xs : List Holding)
    → ((k : ℕ) (a b : Holding) → slice_get xs k ≡ Some a → slice_get xs (suc k) ≡ Some b
    → slice_cmp nat_cmp a.item b.item ≡ Less) → IsRisingBy (λ h. h.item) (slice_cmp nat_cmp) xs
rising_from_next xs next =
    AllPairs-from_at (λ a b. slice_cmp nat_cmp a.item b.item ≡ Less) xs
    (λ p q a b lt at_p at_q. far (q - suc p) p a b at_p (subst (λ n. slice_get xs n ≡ Some b) (omega arith) at_q))
  where
    far : (d p : ℕ) (a b : Holding) → slice_get xs p ≡ Some a → slice_get xs (suc (p + d)) ≡ Some b
        → slice_cmp nat_cmp a.item b.item ≡ Less
    far zero p a b at_p at_q = next p a b at_p (subst (λ n. slice_get xs n ≡ Some b) (omega arith) at_q)
    far (suc d) p a b at_p at_q =
        let within = slice_get_within xs (suc (p + suc d)) b at_q in
        let at_mid = slice_get-get_or xs (suc (p + d)) b (omega (arith, within)) in
        let last =
        next (suc (p + d)) (get_or xs (suc (p + d)) b) b at_mid
        (subst (λ n. slice_get xs n ≡ Some b) (omega arith) at_q) in
        nat_list_cmp_total.trans a.item (get_or xs (suc (p + d)) b).item b.item
        (far d p a (get_or xs (suc (p + d)) b) at_p at_mid) last

-- the value that an item is listed with
listed : (hs : List Holding) (n : ℕ) (h : Holding) → IsRisingBy (λ h. h.item) (slice_cmp nat_cmp) hs
    → slice_get hs n ≡ Some h → value_in hs h.item ≡ Some h.value
listed [] n h rising at = absurd cc
listed (g ∷ hs) zero h rising at =
    let same : g ≡ h = same_Some g h at in
    let hit : bytes_eq g.item h.item ≡ true = (bytes_eq-Decides g.item h.item).1 (ap (λ (k : Holding). k.item) same) in
    rw hit (ap Some (ap (λ (k : Holding). k.value) same))
listed (g ∷ hs) (suc n) h rising at = elim (cases_Bool (bytes_eq g.item h.item)) [
  | inl hit ↦
      let less = AllPairs_at (λ (a b : Holding). slice_cmp nat_cmp a.item b.item ≡ Less) (g ∷ hs) 0 (suc n) g h rising
      (omega arith) refl at in
      let tied = subst (λ y. slice_cmp nat_cmp g.item y ≡ Equal) ((bytes_eq-Decides g.item h.item).0 hit)
      (tied_itself nat_list_cmp_total g.item) in
      absurd cc
  | inr miss ↦ rw miss
      (listed hs n h (AllPairs-tail (λ (a b : Holding). slice_cmp nat_cmp a.item b.item ≡ Less) g hs rising) at)
]

-- what every site keeps, where nothing has been logged
pub kept-fresh : (number : ℕ) (items : List Holding) (cells : List Contents) (spare : Spare) → AreItems items
    → values_of cells ≡ items → All IsFresh cells → IsKept (opened number items) cells [] spare
kept-fresh number items cells spare are values fresh = record {
  site = record {
    items = are;
    orderly = record {
      known = λ k d lt. absurd (omega arith);
      once = λ i j d lt within. absurd (omega arith);
      blocks = λ n e at opens. absurd cc;
      closed = λ i j d lt within. absurd (omega arith);
    };
    legal = λ n tx x v at. absurd cc;
    given = refl;
    changes = λ e x c has is. absurd (omega (arith, has.1));
    wants = λ e has want. absurd (omega (arith, has.1));
    pledged = λ p is. absurd cc;
  };
  names_same = sym (names-values cells) ∙ ap names values;
  each = All-from_at (IsCell items [] []) cells (λ n c at.
      let is = All_at IsFresh cells n c fresh at in
      let here : slice_get items n ≡ Some (record { item = c.item; value = c.value }) =
      ap (λ (hs : List Holding). slice_get hs n) (sym values) ∙ value_at_cell cells n c at in
      record {
        value = listed items n (record { item = c.item; value = c.value }) are.rising here;
        writers = is.writers;
        readers =
            λ r. (
              λ has. absurd (let lt : length c.readers ≡ 0 = ap length is.readers in omega (arith, lt, has.1)),
              λ reads. let none = reads.0 in absurd cc,
            );
        readers_once =
            subst (AllPairs (λ (a b : Reader). a.tx ≢ b.tx)) (sym is.readers) (λ i j d lt within. absurd (omega arith));
        readings =
            λ m. (
              λ has. absurd (let lt : length c.readings ≡ 0 = ap length is.readings in omega (arith, lt, has.1)),
              λ read. let none = read.at in absurd cc,
            );
      });
  ends_rise = λ i j d lt within. absurd (omega arith);
  ends = λ tx. (λ has. absurd (omega (arith, has.1)), λ has. absurd (omega (arith, has.2)));
  room = λ p is. absurd cc;
}
  where
    value_at_cell : (cells : List Contents) (n : ℕ) (c : Contents) → slice_get cells n ≡ Some c
        → slice_get (values_of cells) n ≡ Some (record { item = c.item; value = c.value })
    value_at_cell cells n c at = slice_get-map (λ (c : Contents). record { item = c.item; value = c.value }) cells n
        ∙ ap (option_map (λ (c : Contents). record { item = c.item; value = c.value })) at

-- cells of items that rise, rise
pub fresh-rise : (items : List Holding) (cells : List Contents) → IsRisingBy (λ h. h.item) (slice_cmp nat_cmp) items
    → values_of cells ≡ items → CellsRise cells
fresh-rise items cells rising values =
    AllPairs-from_at (λ (a b : Contents). slice_cmp nat_cmp a.item b.item ≡ Less) cells (λ p q a b lt at_p at_q.
    AllPairs_at (λ (a b : Holding). slice_cmp nat_cmp a.item b.item ≡ Less) items p q
    (record { item = a.item; value = a.value }) (record { item = b.item; value = b.value }) rising lt
    (there p a at_p) (there q b at_q))
  where
    there : (n : ℕ) (c : Contents) → slice_get cells n ≡ Some c
        → slice_get items n ≡ Some (record { item = c.item; value = c.value })
    there n c at = ap (λ (hs : List Holding). slice_get hs n) (sym values)
        ∙ slice_get-map (λ (c : Contents). record { item = c.item; value = c.value }) cells n
        ∙ ap (option_map (λ (c : Contents). record { item = c.item; value = c.value })) at

-- one more pair of names that rises
pub next_more : (xs : List Holding) (i : ℕ) (x y : Holding) → 1 ≤ i → i < length xs → x ≡ get_or xs (i - 1) x
    → y ≡ get_or xs i y → slice_cmp nat_cmp x.item y.item ≡ Less
    → ((k : ℕ) (a b : Holding) → suc k < i → slice_get xs k ≡ Some a → slice_get xs (suc k) ≡ Some b
    → slice_cmp nat_cmp a.item b.item ≡ Less)
    → (k : ℕ) (a b : Holding) → suc k < i + 1 → slice_get xs k ≡ Some a → slice_get xs (suc k) ≡ Some b
    → slice_cmp nat_cmp a.item b.item ≡ Less
next_more xs i x y some within at_x at_y less before k a b lt at_a at_b = elim (cases_lt (suc k) i) [
  | inl lower ↦ before k a b lower at_a at_b
  | inr le ↦
      let here : k ≡ i - 1 = omega arith in
      let there : suc k ≡ i = omega arith in
      let same_x : a ≡ x = same_Some a x (sym at_a ∙ ap (slice_get xs) here
      ∙ slice_get_read xs (length xs) (i - 1) x refl (omega arith) at_x) in
      let same_y : b ≡ y = same_Some b y (sym at_b ∙ ap (slice_get xs) there
      ∙ slice_get_read xs (length xs) i y refl within at_y) in
      rw (same_x, same_y) less
]

-- two neighbours that don't rise
pub next_not : (xs : List Holding) (i : ℕ) (x y : Holding) → 1 ≤ i → i < length xs → x ≡ get_or xs (i - 1) x
    → y ≡ get_or xs i y → IsRisingBy (λ h. h.item) (slice_cmp nat_cmp) xs → slice_cmp nat_cmp x.item y.item ≡ Less
next_not xs i x y some within at_x at_y rising =
    AllPairs_at (λ (a b : Holding). slice_cmp nat_cmp a.item b.item ≡ Less) xs (i - 1) i x y rising (omega arith)
    (slice_get_read xs (length xs) (i - 1) x refl (omega arith) at_x)
    (slice_get_read xs (length xs) i y refl within at_y)
