-- The reads that a draft keeps, and those that are counted for them.
use Rattle.std.proofs.Common.{◌≡◌, ◌∙◌, ℕ, zero, suc, ◌+◌, ◌==◌, true, false, true≢false, List, [], ◌∷◌, ◌++◌, length, Option, Some, None, refl, sym, ap, subst, arith, inl, inr}
use Rattle.std.specs.Prelude.{IsSome, IfSome, if◌then◌else◌, option_and_then, option_map, slice_get, find}
use Rattle.std.specs.Option.{option_or, option_to_list}
use Rattle.std.specs.declared.cmp.Ordering.TheVariants.{Less}
use Rattle.std.proofs.lemmas.Bool.{cases_Bool, eq-eqb, eqb-true}
use Rattle.std.proofs.lemmas.Cmp.{tied_itself}
use Rattle.std.proofs.lemmas.List.{length-append}
use Rattle.std.proofs.lemmas.List.Elements.{filter-append, filter_map-append}
use Rattle.std.proofs.lemmas.List.Folds.{find-append}
use Rattle.std.proofs.lemmas.Option.{slice_get_within}
use Rattle.sgt_names.specs.Name.{Name}
use Rattle.sgt_names.specs.Log.{value_with_any}
use Rattle.sgt_names.specs.Draft.{Place, place_cmp, place_of, at_site, kept_in, kept_of, look_of, seen_at, touched_at, change_at, AreRising, ChangesOnly}
use Rattle.sgt_names.specs.declared.draft.Seen.{Seen}
use Rattle.sgt_names.specs.declared.draft.Touch.{Touch}
use Rattle.sgt_names.specs.declared.entry.Change.{Change}
use Rattle.sgt_names.specs.declared.entry.Change.TheVariants as change
use Rattle.sgt_names.proofs.Lists.{back_at, front_at, middle_at, option_cases}
use Rattle.sgt_names.proofs.Places.{AllPairs_at}
use Rattle.sgt_names.proofs.Ranged.{find_none}
use Rattle.sgt_names.proofs.Touched.{here_false, here_true, is_here, place_total, less_apart}
use Rattle.sgt_notation.specs.declared.script.Op.{Op}
use Rattle.sgt_notation.specs.declared.script.Op.TheVariants.{Read, Put, Add, Sum}
use Rattle.sgt_service_agreement.specs.declared.counts.EntryCounts.{EntryCounts}
use Rattle.sgt_service_locks.specs.Counts.{capped, AreCounted, only_at, with_read}
use Rattle.sgt_service_locks.specs.Reads.{look_in, GainsRead}
use Rattle.sgt_service_locks.proofs.Earlier.{was_there}
use Rattle.sgt_service.specs.Operations.{op_fits, Changes, Does}
use Rattle.sgt_service.specs.Tries.{reads_at, with_reads, CountsOp, CountsReads}
use Rattle.sgt_service.proofs.Sums.{capped_sums, capped_twice}

-- ---- the reads that a draft keeps

reads-append : (s : ℕ) (xs ys : List Touch) → reads_at s (xs ++ ys) ≡ reads_at s xs + reads_at s ys
reads-append s xs ys =
    ap (λ ts. length (kept_in ts)) (filter-append (λ (t : Touch). t.site == s) xs ys)
    ∙ ap length (filter_map-append kept_of (at_site s xs) (at_site s ys))
    ∙ length-append (kept_in (at_site s xs)) (kept_in (at_site s ys))

-- of one item
abbrev one_read : ℕ → ℕ → Option Seen → ℕ
one_read s here None = 0
one_read s here (Some seen) = if here == s then 1 else 0

reads_one : (s : ℕ) (t : Touch) (seen : Option Seen) → t.seen ≡ seen → reads_at s (t ∷ []) ≡ one_read s t.site seen
reads_one s t None is = elim (cases_Bool (t.site == s)) [
  | inl hit ↦ rw (hit, is) refl
  | inr miss ↦ rw miss refl
]
reads_one s t (Some seen) is = elim (cases_Bool (t.site == s)) [
  | inl hit ↦ rw (hit, is) refl
  | inr miss ↦ rw miss refl
]

-- a draft gains as many as its changed item
reads_changed : (s k : ℕ) (old new : List Touch) (t : Touch) → (c : ChangesOnly old new t)
    → reads_at s (t ∷ []) ≡ reads_at s (option_to_list c.there) + k → reads_at s new ≡ reads_at s old + k
reads_changed s k old new t c one =
    let was : reads_at s old ≡ reads_at s c.front + (reads_at s (option_to_list c.there) + reads_at s c.rest) =
    ap (reads_at s) c.was ∙ reads-append s c.front (option_to_list c.there ++ c.rest)
    ∙ ap (λ n. reads_at s c.front + n) (reads-append s (option_to_list c.there) c.rest) in
    let is : reads_at s new ≡ reads_at s c.front + (reads_at s (t ∷ []) + reads_at s c.rest) =
    ap (reads_at s) c.is ∙ reads-append s c.front (t ∷ c.rest)
    ∙ ap (λ n. reads_at s c.front + n) (reads-append s (t ∷ []) c.rest) in
    omega (arith, one, was, is)

same_one : (s : ℕ) (there : Option Touch) (t : Touch) → IfSome there (λ u. place_of u ≡ place_of t)
    → t.seen ≡ option_and_then (λ (u : Touch). u.seen) there
    → reads_at s (t ∷ []) ≡ reads_at s (option_to_list there) + 0
same_one s None t place seen = omega (arith, reads_one s t None seen)
same_one s (Some u) t place seen =
    let site : u.site ≡ t.site = ap (λ (p : Place). p.0) place in
    let moved : one_read s u.site u.seen ≡ one_read s t.site u.seen = ap (λ n. one_read s n u.seen) site in
    omega (arith, reads_one s t u.seen seen, reads_one s u u.seen refl, moved)

-- a private change of an item keeps them all
pub changes_keep : (s : ℕ) (x : Name) (w : Change) (old new : List Touch) → AreRising new → Changes s x w old new
    → (site : ℕ) → reads_at site new ≡ reads_at site old
changes_keep s x w old new rising c site =
    let t : Touch = record { site = s; item = x; seen = seen_at old (s, x); change = Some w } in
    let seen : t.seen ≡ option_and_then (λ (u : Touch). u.seen) c.there =
    ap (option_and_then (λ (u : Touch). u.seen)) (was_there old new t rising c) in
    omega (arith, reads_changed site 0 old new t c (same_one site c.there t c.place seen))

-- an item that shows nothing wasn't read
unseen : (seen : Option Seen) (w : Option Change) → value_with_any (option_map (λ (s : Seen). s.value) seen) w ≡ None
    → seen ≡ None
unseen None w none = refl
unseen (Some seen) None none = absurd cc
unseen (Some seen) (Some (change.Put v)) none = absurd cc
unseen (Some seen) (Some (change.Add v)) none = absurd cc

unread : (s : ℕ) (there : Option Touch) → option_and_then look_of there ≡ None → reads_at s (option_to_list there) ≡ 0
unread s None none = refl
unread s (Some u) none = reads_one s u None (unseen u.seen u.change none)

abbrev one_at : ℕ → ℕ → ℕ
one_at here site = if site == here then 1 else 0

turned : (here s : ℕ) → (if here == s then 1 else 0) ≡ one_at here s
turned here s = elim (cases_Bool (here == s)) [
  | inl hit ↦ let back : (s == here) ≡ true = eq-eqb s here (sym (eqb-true here s hit)) in rw (hit, back) refl
  | inr miss ↦ elim (cases_Bool (s == here)) [
    | inl back ↦ absurd (true≢false (sym (eq-eqb here s (sym (eqb-true s here back))) ∙ miss))
    | inr other ↦ rw (miss, other) refl
  ]
]

-- a read of what a draft doesn't show is one more at its site
gained_one : (here : ℕ) (x : Name) (old new : List Touch) → AreRising new → look_in old here x ≡ None
    → GainsRead here x old new
    → (site : ℕ) → reads_at site new ≡ reads_at site old + one_at here site
gained_one here x old new rising none gained site =
    let t : Touch = record { site = here; item = x; seen = Some gained.0; change = change_at old (here, x) } in
    let c = gained.1 in
    let before : option_and_then look_of c.there ≡ None =
    ap (option_and_then look_of) (sym (was_there old new t rising c)) ∙ none in
    let one : reads_at site (t ∷ []) ≡ one_at here site = reads_one site t (Some gained.0) refl ∙ turned here site in
    reads_changed site (one_at here site) old new t c (omega (arith, one, unread site c.there before))

-- ---- the reads that are counted

counted_none : (old new : List Touch) (cs ds : List EntryCounts)
    → ((site : ℕ) → reads_at site new ≡ reads_at site old) → ds ≡ cs
    → CountsReads old new cs ds
counted_none old new cs ds kept same =
    (λ site. 0, λ site. omega (arith, kept site), (ap length same, λ site c at. ap (λ xs. slice_get xs site) same ∙ at))

pub counted_same : (old new : List Touch) (cs ds : List EntryCounts) → new ≡ old → ds ≡ cs → CountsReads old new cs ds
counted_same old new cs ds kept same = counted_none old new cs ds (λ site. ap (reads_at site) kept) same

counted_one : (here : ℕ) (old new : List Touch) (cs ds : List EntryCounts)
    → ((site : ℕ) → reads_at site new ≡ reads_at site old + one_at here site)
    → AreCounted (only_at here with_read) cs ds → CountsReads old new cs ds
counted_one here old new cs ds one counted = (
  one_at here,
  one,
  (
    counted.0,
    λ site c at. elim (cases_Bool (site == here)) [
      | inl hit ↦ rw hit (rw hit at (counted.1 site c at))
      | inr miss ↦ rw miss (rw miss at (counted.1 site c at))
    ],
  ),
)

-- so many reads, and then so many
reads_sum : (a b : ℕ) (c : EntryCounts) → with_reads b (with_reads a c) ≡ with_reads (a + b) c
reads_sum zero b c = let sum : b ≡ 0 + b = omega arith in ap (λ n. with_reads n c) sum
reads_sum (suc a) zero c = let sum : suc a ≡ suc a + 0 = omega arith in ap (λ n. with_reads n c) sum
reads_sum (suc a) (suc b) c =
    let sum : suc a + suc b ≡ suc (a + suc b) = omega arith in
    let once : capped (capped (c.reads + suc a) + suc b) ≡ capped (c.reads + suc a + suc b) =
    capped_sums (capped (c.reads + suc a)) (c.reads + suc a) (suc b) (suc b) (capped_twice (c.reads + suc a)) refl in
    let both : c.reads + suc a + suc b ≡ c.reads + suc (a + suc b) = omega arith in
    ap (λ n. record c { reads = n }) (once ∙ ap capped both) ∙ ap (λ n. with_reads n c) (sym sum)

pub reads_on : (old mid new : List Touch) (cs ds es : List EntryCounts) → CountsReads old mid cs ds
    → CountsReads mid new ds es → CountsReads old new cs es
reads_on old mid new cs ds es one next = (
  λ site. one.0 site + next.0 site,
  λ site. omega (arith, one.1 site, next.1 site),
  (
    next.2.0 ∙ one.2.0,
    λ site c at. next.2.1 site (with_reads (one.0 site) c) (one.2.1 site c at)
        ∙ ap Some (reads_sum (one.0 site) (next.0 site) c),
  ),
)

-- an operation counts what its draft keeps more
pub op_counts : (op : Op) (old new : List Touch) (heard heard' : List ℕ) (cs ds : List EntryCounts) → AreRising new
    → Does op old new heard heard'
    → CountsOp op old cs ds → CountsReads old new cs ds
op_counts (Read s x) old new heard heard' cs ds rising does counts = elim (option_cases (look_in old s x)) [
  | inl none ↦ counted_one s old new cs ds (gained_one s x old new rising none (does.0.0 none)) (counts.0 none)
  | inr shown ↦ let is : IsSome (look_in old s x) = rw shown.1 refl in
      counted_same old new cs ds (does.0.1 is) (counts.1 is)
]
op_counts (Put s x v) old new heard heard' cs ds rising does counts =
    counted_none old new cs ds (changes_keep s x _ old new rising does.0) counts
op_counts (Add s x v) old new heard heard' cs ds rising does counts =
    counted_none old new cs ds (changes_keep s x _ old new rising does.0) counts
op_counts (Sum s x t y v) old new heard heard' cs ds rising does counts =
    counted_none old new cs ds (changes_keep s x _ old new rising does.0.2) counts

-- a sum that is too large counts nothing
pub unfit_counts : (op : Op) (touched : List Touch) (cs ds : List EntryCounts) → op_fits touched op ≡ false
    → CountsOp op touched cs ds → ds ≡ cs
unfit_counts (Read s x) touched cs ds unfit counts = absurd (true≢false unfit)
unfit_counts (Put s x v) touched cs ds unfit counts = absurd (true≢false unfit)
unfit_counts (Add s x v) touched cs ds unfit counts = absurd (true≢false unfit)
unfit_counts (Sum s x t y v) touched cs ds unfit counts = counts

-- from an empty draft on
pub reads_all : (touched : List Touch) (cs ds : List EntryCounts) → CountsReads [] touched cs ds
    → AreCounted (λ site. with_reads (reads_at site touched)) cs ds
reads_all touched cs ds counts = (
  counts.2.0,
  λ site c at.
      let all : counts.0 site ≡ reads_at site touched = omega (arith, counts.1 site) in
      counts.2.1 site c at ∙ ap (λ n. Some (with_reads n c)) all,
)
