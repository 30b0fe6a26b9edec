-- The edges on an item, the marks that note them, and the conflicts that they carry.
use Rattle.std.proofs.Common.{◌≡◌, ◌⊎◌, ℕ, zero, suc, ◌+◌, ◌<◌, ◌≤◌, max, List, [], ◌∷◌, take, drop, length, Some, sym, ap, ◌∙◌, subst, arith, inl, inr, Contains, Vec}
use Rattle.std.specs.Prelude.{slice_get, slice_set}
use Rattle.std.specs.declared.alloc.Global.{Global}
use Rattle.std.specs.List.Sorted.{IsNonDecreasingBy}
use Rattle.std.proofs.lemmas.Bool.{cases_eq}
use Rattle.std.proofs.lemmas.Option.{same_Some, slice_get_within, get_or_from_slice_get}
use Rattle.sgt_names.specs.Name.{Name}
use Rattle.sgt_names.specs.Entry.{tx_of}
use Rattle.sgt_names.specs.declared.entry.Entry.{Entry}
use Rattle.sgt_names.specs.declared.entry.Holding.{Holding}
use Rattle.sgt_names.proofs.Places.{Contains_at, Contains-from_at, slice_get-drop, slice_get-take}
use Rattle.sgt_names.proofs.Lists.{All-weaken, within_at}
use Rattle.sgt_order.specs.Graph.{Reaches}
use Rattle.sgt_service_settle.specs.declared.course.Course.{Course}
use Rattle.sgt_service_settle.specs.declared.course.Marks.{Marks}
use Rattle.sgt_service_settle.specs.declared.deeds.Deed.{Deed}
use Rattle.sgt_service_settle.specs.declared.deeds.Track.{Track}
use Rattle.sgt_service_settle.specs.declared.index.Index.{Index}
use Rattle.sgt_service_settle.specs.declared.link.Link.{Link}
use Rattle.sgt_service_settle.specs.private.Words.{IsItemAt, Pushed}
use Rattle.sgt_service_settle.specs.private.Index.{IsIn, IsIndexed, LinkedBy, AreCarried}
use Rattle.sgt_service_settle.specs.private.Acts.{AreKnown}
use Rattle.sgt_service_settle.specs.private.Deeds.{deed_of, AreTracks}
use Rattle.sgt_service_settle.specs.private.Course.{IsNoted, Follows}
use Rattle.sgt_service_settle.specs.private.Joined.{AreItemLinks, IsHanded, Precedes, AreDeedsCarried, AreUnder, AreNoted, ComesTo, LeadsTo}
use Rattle.sgt_service_settle.proofs.Rowing.{at_pushed}
use Rattle.sgt_service_settle.proofs.Placing.{one_item, known_place}
use Rattle.sgt_service_settle.proofs.Carrying.{reaches_map}
use Rattle.sgt_service_settle.proofs.Tracking.{clash_read, clash_increment}
use Rattle.sgt_names.proofs.Elements.{get-slice_set_other}
use Rattle.sgt_notation.proofs.Texts.{clash_items}

-- ---- marks

get_set_at : {A : Type 0} (xs : List A) (k : ℕ) (y s : A) → slice_get (slice_set xs k y) k ≡ Some s → y ≡ s
get_set_at [] k y s at = absurd cc
get_set_at (x ∷ xs) zero y s at = same_Some y s at
get_set_at (x ∷ xs) (suc k) y s at = get_set_at xs k y s at

pub under_far : (marks new : List ℕ) (near far tx step : ℕ)
    → (new ≡ marks) ⊎ ((near ≡ tx) × (new ≡ slice_set marks far step))
    → ((a s : ℕ) → slice_get marks a ≡ Some s → s < step + 1) → (a s : ℕ) → slice_get new a ≡ Some s → s < step + 1
under_far marks new near far tx step which under a s at =
    elim which [
      | inl same ↦ under a s (ap (λ xs. slice_get xs a) (sym same) ∙ at)
      | inr marked ↦
          let there : slice_get (slice_set marks far step) a ≡ Some s = ap (λ xs. slice_get xs a) (sym marked.1) ∙ at in
          elim (cases_eq a far) [
            | inl here ↦ let is : step ≡ s =
                get_set_at marks far step s (ap (slice_get (slice_set marks far step)) (sym here) ∙ there) in
                omega (arith, is)
            | inr other ↦ under a s (sym (get-slice_set_other marks far a step other) ∙ there)
          ]
    ]

pub noted_far : (P : ℕ → Type 0) (marks new : List ℕ) (near far tx step : ℕ)
    → (new ≡ marks) ⊎ ((near ≡ tx) × (new ≡ slice_set marks far step)) → (near ≡ tx → P far)
    → ((a : ℕ) → slice_get marks a ≡ Some step → P a) → (a : ℕ) → slice_get new a ≡ Some step → P a
noted_far P marks new near far tx step which holds noted a at =
    elim which [
      | inl same ↦ noted a (ap (λ xs. slice_get xs a) (sym same) ∙ at)
      | inr marked ↦
          elim (cases_eq a far) [
            | inl here ↦ subst P (sym here) (holds marked.0)
            | inr other ↦ noted a (sym (get-slice_set_other marks far a step other)
                ∙ (ap (λ xs. slice_get xs a) (sym marked.1) ∙ at))
          ]
    ]

-- before the step nothing has its mark
pub none_noted : (links : List Link) (d : Deed) (m : Marks) → AreUnder m m.step → AreNoted links d m
none_noted links d m under = record {
  from = λ a at. let low = under.from a m.step at in absurd (omega (arith, low));
  to = λ b at. let low = under.to b m.step at in absurd (omega (arith, low));
}

-- ---- what follows

follows_map : (J K J' K' : Deed → Type 0) → ((e : Deed) → J e → J' e) → ((e : Deed) → K e → K' e)
    → (c : Course) (d : Deed) → Follows J K c d → Follows J' K' c d
follows_map J K J' K' f g c d h = record {
  front = λ r. let n = h.front r in
      record { first = n.first; turn = n.turn; noted = λ v e low high at. f e (n.noted v e low high at) };
  back = λ r. let n = h.back r in
      record { end = n.end; turn = n.turn; noted = λ v e low high at. g e (n.noted v e low high at) };
  increment = λ r i. let n = h.increment r i in record {
    write = λ v e next at. f e (n.write v e next at);
    reads =
        λ le row at. All-weaken J J' row.items f (n.reads le row at);
  };
  write = λ r i.
      let n = h.write r i in
      record {
        reads = λ row at. All-weaken J J' row.items f (n.reads row at);
        changes = elim n.changes [
          | inl read ↦ inl read
          | inr front ↦ inr (record {
            first = front.first;
            turn = front.turn;
            noted =
                λ v e low high at. f e (front.noted v e low high at);
          })
        ];
      };
}

pub follows_noted : (links : List Link) (c : Course) (d : Deed) (m : Marks) → AreNoted links d m
    → Follows (IsNoted m.from.items m.step d.tx) (IsNoted m.to.items m.step d.tx) c d
    → Follows (ComesTo links d) (LeadsTo links d) c d
follows_noted links c d m noted follows =
    follows_map (IsNoted m.from.items m.step d.tx) (IsNoted m.to.items m.step d.tx) (ComesTo links d)
    (LeadsTo links d) (λ e how. elim how [ inl own ↦ inl own | inr mark ↦ inr (noted.from e.tx mark) ])
    (λ e how. elim how [ inl own ↦ inl own | inr mark ↦ inr (noted.to e.tx mark) ]) c d follows

handed_all : (links : List Link) (n last a b : ℕ) → IsHanded (drop n links) last a b → IsHanded links last a b
handed_all links n last a b h =
    let at = Contains_at (drop n links) h.0 h.1 in
    (h.0, Contains-from_at links (n + at.0) h.0 (sym (slice_get-drop links n at.0) ∙ at.1), h.2, h.3, h.4)

pub follows_all : (links : List Link) (n : ℕ) (c : Course) (d : Deed)
    → Follows (ComesTo (drop n links) d) (LeadsTo (drop n links) d) c d
    → Follows (ComesTo links d) (LeadsTo links d) c d
follows_all links n c d follows =
    follows_map (ComesTo (drop n links) d) (LeadsTo (drop n links) d) (ComesTo links d) (LeadsTo links d)
    (λ e how. elim how [ inl own ↦ inl own | inr edge ↦ inr (handed_all links n d.number e.tx d.tx edge) ])
    (λ e how. elim how [ inl own ↦ inl own | inr edge ↦ inr (handed_all links n d.number d.tx e.tx edge) ]) c d follows

-- ---- in the order of the decisions

-- an earlier deed was decided no later
pub number_early : (order : List Deed) (n : ℕ) (d e : Deed) → IsNonDecreasingBy (λ (x : Deed). x.number) order
    → slice_get order n ≡ Some d → Contains (take n order) e → e.number ≤ d.number
number_early order n d e sorted here has =
    let at = Contains_at (take n order) e has in
    let front = slice_get-take order n at.0 e at.1 in
    let before = front.0 in
    let le = sorted at.0 n d (omega (arith, before)) (slice_get_within order n d here) in
    let mine = ap (λ (x : Deed). x.number) (get_or_from_slice_get order at.0 e d front.1) in
    let yours = ap (λ (x : Deed). x.number) (get_or_from_slice_get order n d d here) in
    omega (arith, le, mine, yours)

pub front_contains : (order : List Deed) (n : ℕ) (e : Deed) → Contains (take n order) e → Contains order e
front_contains order n e has = let at = Contains_at (take n order) e has in
    Contains-from_at order at.0 e (slice_get-take order n at.0 e at.1).1

-- ---- edges

pub item_links_next : (P : Link → Type 0) (site : ℕ) (items : List Holding) (rows new : List (Vec Link Global))
    (at : ℕ) (l : Link) → P l → l.label.site ≡ site → IsItemAt items l.label.item at → Pushed rows at l new
    → AreItemLinks P site items rows → AreItemLinks P site items new
item_links_next P site items rows new at l holds is_site item pushed are k m other there =
    elim (at_pushed rows at l new pushed k m other there) [
      | inl old ↦ are k m other old
      | inr last ↦
          let is : l ≡ other = last.2 in (
            subst P is holds,
            ap (λ (x : Link). x.label.site) (sym is)
                ∙ is_site,
            subst (λ (x : Link). IsItemAt items x.label.item k) is
                (subst (IsItemAt items l.label.item) (sym last.0) item),
          )
    ]

handed_by_links : (index : Index) (site : ℕ) (items : List Holding) (rows : List (Vec Link Global))
    (row : Vec Link Global) (at : ℕ) (x : Name) (last a b : ℕ) → AreItemLinks (IsIndexed index) site items rows
    → slice_get rows at ≡ Some row → IsItemAt items x at
    → IsHanded row.items last a b → LinkedBy index (record { site = site; item = x; last = last }) a b
handed_by_links index site items rows row at x last a b are here item h =
    let l : Link = h.0 in
    let place = Contains_at row.items l h.1 in
    let known = are at place.0 l (row, here, place.1) in
    let is_item : l.label.item ≡ x = one_item items l.label.item x at known.2 item in
    (l, known.0, h.2, h.3, record { site = known.1; item = is_item; early = h.4 })

-- where the conflicts of each item's deeds are carried, those of the log are
pub all_carried : (index : Index) (site : ℕ) (items : List Holding) (log : List Entry) (tracks : List Track)
    (rows : List (Vec Link Global)) → AreKnown items log → AreItemLinks (IsIndexed index) site items rows
    → length rows ≡ length items
    → AreTracks index.commits.items items log (length log) tracks
    → ((k : ℕ) (t : Track) (row : Vec Link Global) → slice_get tracks k ≡ Some t → slice_get rows k ≡ Some row
    → AreDeedsCarried row.items t.deeds.items) → AreCarried index site log
all_carried index site items log tracks rows known links long are carried kind x a b m n c first second =
    let both = clash_items kind x c.e c.f c.clash in
    let place = known_place items log c.p c.e x known c.first both.0 in
    let within = place.1.within in
    let mine : IsIn index.commits.items (tx_of c.e) m = subst (λ t. IsIn index.commits.items t m) (sym c.from) first in
    let yours : IsIn index.commits.items (tx_of c.f) n = subst (λ t. IsIn index.commits.items t n) (sym c.to) second in
    let p = are.all c.p m place.0 c.e x (slice_get_within log c.p c.e c.first) c.first both.0 mine place.1 in
    let q = are.all c.q n place.0 c.f x (slice_get_within log c.q c.f c.second) c.second both.1 yours place.1 in
    let d : Deed = deed_of c.e m c.p p.version in
    let e : Deed = deed_of c.f n c.q q.version in
    let one : p.track ≡ q.track = same_Some p.track q.track (sym p.at_track ∙ q.at_track) in
    let has : Contains q.track.deeds.items d = subst (λ (t : Track). Contains t.deeds.items d) one p.deed in
    let precedes : Precedes d e = record {
      reads = clash_read kind x c.e c.f c.clash;
      increments = clash_increment kind x c.e c.f c.clash;
      before = (are.each place.0 q.track q.at_track).ordered d e has q.deed c.before;
    } in
    let row = within_at rows place.0 (omega (arith, within, long)) in
    let top = max m n in
    let R : ℕ → ℕ → Type 0 = LinkedBy index (record { site = site; item = x; last = top }) in
    elim (carried place.0 q.track row.0 q.at_track row.1 d e has q.deed precedes) [
      | inl same ↦ absurd (c.apart (sym c.from ∙ (same ∙ c.to)))
      | inr walk ↦
          subst (λ t. Reaches R t b) c.from
          (subst (λ t. Reaches R (tx_of c.e) t) c.to
          (reaches_map (IsHanded row.0.items top) R
          (λ f g h. handed_by_links index site items rows row.0 place.0 x top f g links row.1 place.1 h)
          (tx_of c.e) (tx_of c.f) walk))
    ]
