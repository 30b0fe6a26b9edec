-- Rows as elements are added.
use Rattle.std.proofs.Common.{◌≡◌, ◌⊎◌, ℕ, ◌+◌, List, [], ◌∷◌, ◌++◌, length, take, drop, Some, sym, ap, ◌∙◌, subst, inl, inr}
use Rattle.std.specs.Prelude.{slice_get, slice_set, Vec}
use Rattle.std.specs.declared.alloc.Global.{Global}
use Rattle.std.proofs.lemmas.Bool.{cases_eq}
use Rattle.std.proofs.lemmas.Option.{same_Some, none-some, slice_get_within}
use Rattle.std.proofs.Math.Seq.{take-append_seam}
use Rattle.sgt_order.proofs.Lists.{get_push_cases, get_take_next, get_take_more, get_take_last}
use Rattle.sgt_service_settle.specs.declared.link.Arc.{Arc}
use Rattle.sgt_service_settle.specs.declared.link.Cut.{Cut}
use Rattle.sgt_service_settle.specs.declared.link.Link.{Link}
use Rattle.sgt_service_settle.specs.private.Words.{At, Pushed}
use Rattle.sgt_service_settle.specs.private.Search.{InRows, Adds, Hold, LinksBy, Passes}
use Rattle.sgt_names.proofs.Elements.{get-slice_set_same, get-slice_set_other, get-push_last}
use Rattle.sgt_names.proofs.Lists.{front_at}

pub pushed_row : {T : Type 0} (rows : List (Vec T Global)) (k : ℕ) (x : T) (old row : Vec T Global)
    → slice_get rows k ≡ Some old → row.items ≡ old.items ++ x ∷ [] → Pushed rows k x (slice_set rows k row)
pushed_row rows k x old row here more = record {
  others = λ j other. get-slice_set_other rows k j row other;
  before = old;
  after = row;
  was = here;
  now = get-slice_set_same rows k row (slice_get_within rows k old here);
  more = more;
}

-- ---- places

-- an element of the longer rows is an old one, or the last of its row
pub at_pushed : {T : Type 0} (rows : List (Vec T Global)) (k : ℕ) (x : T) (new : List (Vec T Global))
    (p : Pushed rows k x new) (j n : ℕ) (y : T) → At new j n y
    → At rows j n y ⊎ ((j ≡ k) × (n ≡ length p.before.items) × (x ≡ y))
at_pushed rows k x new p j n y at =
    elim (cases_eq j k) [
      | inl same ↦
          let is : p.after ≡ at.0 = same_Some p.after at.0 (sym p.now ∙ (ap (slice_get new) (sym same) ∙ at.1)) in
          let longer : slice_get (p.before.items ++ x ∷ []) n ≡ Some y =
          ap (λ xs. slice_get xs n) (sym p.more ∙ ap (λ v. v.items) is) ∙ at.2 in
          elim (get_push_cases p.before.items x y n longer) [
            | inl early ↦ inl (p.before, ap (slice_get rows) same ∙ p.was, early)
            | inr last ↦ inr (same, last.0, last.1)
          ]
      | inr other ↦ inl (at.0, sym (p.others j other) ∙ at.1, at.2)
    ]

pub pushed_old : {T : Type 0} (rows : List (Vec T Global)) (k : ℕ) (x : T) (new : List (Vec T Global))
    → Pushed rows k x new → (j n : ℕ) (y : T) → At rows j n y → At new j n y
pushed_old rows k x new p j n y at =
    elim (cases_eq j k) [
      | inl same ↦
          let is : at.0 ≡ p.before = same_Some at.0 p.before (sym at.1 ∙ (ap (slice_get rows) same ∙ p.was)) in
          let was : slice_get p.before.items n ≡ Some y = ap (λ v. slice_get v.items n) (sym is) ∙ at.2 in (
            p.after,
            ap (slice_get new) same ∙ p.now,
            ap (λ xs. slice_get xs n) p.more
                ∙ front_at p.before.items (x ∷ []) n y was,
          )
      | inr other ↦ (at.0, p.others j other ∙ at.1, at.2)
    ]

pub pushed_last : {T : Type 0} (rows : List (Vec T Global)) (k : ℕ) (x : T) (new : List (Vec T Global))
    (p : Pushed rows k x new) → At new k (length p.before.items) x
pushed_last rows k x new p = (
  p.after,
  p.now,
  ap (λ xs. slice_get xs (length p.before.items)) p.more
      ∙ get-push_last p.before.items x,
)

-- ---- edges

in_at : (rows : List (Vec Arc Global)) (cut : Cut) (a b : ℕ) → InRows rows cut a b
    → (n : ℕ) × (arc : Arc) × At rows a n arc × (arc.to ≡ b) × Passes cut arc.label arc.number
in_at rows cut a b e = (e.2.0, e.2.1, (e.0, e.1, e.2.2), e.2.3, e.2.4)

at_in : (rows : List (Vec Arc Global)) (cut : Cut) (a b n : ℕ) (arc : Arc) → At rows a n arc → arc.to ≡ b
    → Passes cut arc.label arc.number → InRows rows cut a b
at_in rows cut a b n arc at to passes = (at.0, at.1, (n, arc, at.2, to, passes))

pub adds_row : (rows : List (Vec Arc Global)) (from : ℕ) (arc : Arc) (new : List (Vec Arc Global))
    → Pushed rows from arc new → Adds rows from arc new
adds_row rows from arc new p cut a b = (
  λ e.
      let i = in_at new cut a b e in
      elim (at_pushed rows from arc new p a i.0 i.1 i.2) [
        | inl old ↦ inl (at_in rows cut a b i.0 i.1 old i.3 i.4)
        | inr last ↦ inr (
          sym last.0,
          ap (λ v. v.to) last.2
              ∙ i.3,
          subst (λ (v : Arc). Passes cut v.label v.number) (sym last.2) i.4,
        )
      ],
  λ s.
      elim s [
        | inl e ↦ let i = in_at rows cut a b e in
            at_in new cut a b i.0 i.1 (pushed_old rows from arc new p a i.0 i.1 i.2) i.3 i.4
        | inr one ↦
            let last : At new a (length p.before.items) arc =
            subst (λ k. At new k (length p.before.items) arc) one.0 (pushed_last rows from arc new p) in
            at_in new cut a b (length p.before.items) arc last one.1 one.2
      ],
)

-- no row has an element
abbrev pub AreBare : {T : Type 0} → List (Vec T Global) → Type 0
AreBare {T} rows = (k : ℕ) (row : Vec T Global) → slice_get rows k ≡ Some row → row.items ≡ []

pub bare_push : {T : Type 0} (rows : List (Vec T Global)) (new : Vec T Global) → AreBare rows → new.items ≡ []
    → AreBare (rows ++ new ∷ [])
bare_push rows new bare none k row at =
    elim (get_push_cases rows new row k at) [
      | inl early ↦ bare k row early
      | inr last ↦ subst (λ v. v.items ≡ []) last.1 none
    ]

links_next : (links : List Link) (n : ℕ) (l : Link) (cut : Cut) (a b : ℕ) → slice_get links n ≡ Some l
    → LinksBy (take (n + 1) links) cut a b
    → LinksBy (take n links) cut a b ⊎ ((l.from ≡ a) × (l.to ≡ b) × Passes cut l.label l.number)
links_next links n l cut a b at h =
    elim (get_take_next links n h.0 l h.1 at h.2) [
      | inl early ↦ inl (h.0, h.1, early.1, h.3, h.4, h.5)
      | inr last ↦ inr (
        ap (λ v. v.from) last.1 ∙ h.3,
        ap (λ v. v.to) last.1
            ∙ h.4,
        subst (λ (v : Link). Passes cut v.label v.number) (sym last.1) h.5,
      )
    ]

links_more : (links : List Link) (n : ℕ) (cut : Cut) (a b : ℕ) → LinksBy (take n links) cut a b
    → LinksBy (take (n + 1) links) cut a b
links_more links n cut a b h = (h.0, h.1, get_take_more links n h.0 h.1 h.2, h.3, h.4, h.5)

pub leaving_next : (links : List Link) (n : ℕ) (l : Link) (rows new : List (Vec Arc Global))
    → slice_get links n ≡ Some l → Hold rows (LinksBy (take n links))
    → Adds rows l.from (record { to = l.to; label = l.label; number = l.number }) new
    → Hold new (LinksBy (take (n + 1) links))
leaving_next links n l rows new at hold adds cut a b = (
  λ i.
      elim ((adds cut a b).0 i) [
        | inl old ↦ links_more links n cut a b ((hold cut a b).0 old)
        | inr one ↦ (n, l, get_take_last links n l at, one.0, one.1, one.2)
      ],
  λ h.
      (adds cut a b).1
      (elim (links_next links n l cut a b at h) [
        | inl old ↦ inl ((hold cut a b).1 old)
        | inr one ↦ inr one
      ]),
)

pub entering_next : (links : List Link) (n : ℕ) (l : Link) (rows new : List (Vec Arc Global))
    → slice_get links n ≡ Some l → Hold rows (λ cut a b. LinksBy (take n links) cut b a)
    → Adds rows l.to (record { to = l.from; label = l.label; number = l.number }) new
    → Hold new (λ cut a b. LinksBy (take (n + 1) links) cut b a)
entering_next links n l rows new at hold adds cut a b = (
  λ i.
      elim ((adds cut a b).0 i) [
        | inl old ↦ links_more links n cut b a ((hold cut a b).0 old)
        | inr one ↦ (n, l, get_take_last links n l at, one.1, one.0, one.2)
      ],
  λ h.
      (adds cut a b).1
      (elim (links_next links n l cut b a at h) [
        | inl old ↦ inl ((hold cut a b).1 old)
        | inr one ↦ inr (one.1, one.0, one.2)
      ]),
)

pub leaving_none : (links : List Link) (rows : List (Vec Arc Global)) → ((k n : ℕ) (arc : Arc) → At rows k n arc → ⊥)
    → Hold rows (LinksBy (take 0 links))
leaving_none links rows none cut a b = (
  λ e. let i = in_at rows cut a b e in absurd (none a i.0 i.1 i.2),
  λ h. absurd (none-some h.1 h.2),
)

pub entering_none : (links : List Link) (rows : List (Vec Arc Global)) → ((k n : ℕ) (arc : Arc) → At rows k n arc → ⊥)
    → Hold rows (λ cut a b. LinksBy (take 0 links) cut b a)
entering_none links rows none cut a b = (
  λ e. let i = in_at rows cut a b e in absurd (none a i.0 i.1 i.2),
  λ h. absurd (none-some h.1 h.2),
)

-- a slice that was lent, back in its list
pub written_back : {A : Type 0} (items new : List A) (n : ℕ) → n ≡ length new
    → take n (new ++ drop (length new) items) ≡ new
written_back items new n long = ap (λ m. take m (new ++ drop (length new) items)) long
    ∙ take-append_seam new (drop (length new) items)
