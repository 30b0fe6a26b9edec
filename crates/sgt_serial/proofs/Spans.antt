-- The text of entries that stand from one place up to another.
use Rattle.std.proofs.Common.{◌≡◌, ℕ, ◌+◌, ◌-◌, ◌<◌, ◌≤◌, List, [], ◌∷◌, ◌++◌, map, Option, refl, ap, ◌∙◌, arith}
use Rattle.std.specs.Prelude.{slice_get}
use Rattle.std.specs.List.{filter, filter_map}
use Rattle.std.proofs.lemmas.List.Elements.{filter_map-append}
use Rattle.sgt_names.specs.declared.entry.Entry.{Entry}
use Rattle.sgt_notation.specs.Spelling.{text_of_lines}
use Rattle.sgt_bundle.specs.declared.bundle.SiteLog.{SiteLog}
use Rattle.sgt_serial.specs.declared.entries.SiteEntry.{SiteEntry}
use Rattle.sgt_serial.specs.declared.operations.Operations.{Operations}
use Rattle.sgt_serial.specs.declared.operations.Operations.TheVariants.{Grouped, Sorted}
use Rattle.sgt_serial.specs.Report.{picked_of}
use Rattle.sgt_serial.specs.private.Grouped.{entries_in}
use Rattle.sgt_serial.specs.private.Operations.{all_entries, is_by}
use Rattle.sgt_serial.proofs.Grouping.{of_all}
use Rattle.sgt_serial.proofs.Lines.{picked_text, picked-append}
use Rattle.sgt_serial.proofs.Windows.{window-split}

split-in : (logs : List SiteLog) (o : Operations) (from mid to : ℕ) → from ≤ mid → mid ≤ to
    → entries_in logs o from to ≡ entries_in logs o from mid ++ entries_in logs o mid to
split-in logs (Grouped g) from mid to low high =
    ap (filter_map (λ p. slice_get (all_entries logs) p)) (window-split g.groups.places.items from mid to low high)
    ∙ filter_map-append (λ p. slice_get (all_entries logs) p) _ _
split-in logs (Sorted s) from mid to low high = window-split s from mid to low high

pub none-in : (logs : List SiteLog) (o : Operations) (from : ℕ) → entries_in logs o from from ≡ []
none-in logs (Grouped g) from = let e : from - from ≡ 0 = omega arith in rw e refl
none-in logs (Sorted s) from = let e : from - from ≡ 0 = omega arith in rw e refl

-- the next entry, and all behind it
pub next-in : (logs : List SiteLog) (o : Operations) (place to : ℕ) (e : SiteEntry) → place < to
    → entries_in logs o place (place + 1) ≡ entries_in logs o place place ++ e ∷ []
    → entries_in logs o place to ≡ e ∷ entries_in logs o (place + 1) to
next-in logs o place to e within next =
    let low : place ≤ place + 1 = omega arith in
    let high : place + 1 ≤ to = omega (arith, within) in
    split-in logs o place (place + 1) to low high ∙ ap (λ es. es ++ entries_in logs o (place + 1) to) (next
    ∙ ap (λ es. es ++ e ∷ []) (none-in logs o place))

module _ {B : Type 0} (line : B → List ℕ) (pick : ℕ → Entry → Option B) (logs : List SiteLog) (o : Operations) where
  abbrev pub by : SiteEntry → Option B
  by e = pick e.site e.entry

  -- the text of the entries from one place up to another
  abbrev pub text_in : (from to : ℕ) → List ℕ
  text_in from to = picked_text line by (entries_in logs o from to)

  pub text-next : (place to : ℕ) (e : SiteEntry) → place < to
      → entries_in logs o place (place + 1) ≡ entries_in logs o place place ++ e ∷ []
      → text_in place to ≡ picked_text line by (e ∷ []) ++ text_in (place + 1) to
  text-next place to e within next =
      ap (picked_text line by) (next-in logs o place to e within next)
      ∙ picked-append line by (e ∷ []) (entries_in logs o (place + 1) to)

  pub text-none : (place to : ℕ) → place ≡ to → text_in place to ≡ []
  text-none place to end = ap (λ n. text_in n to) end ∙ ap (picked_text line by) (none-in logs o to)

  -- where these are all entries of the transaction
  pub text-all : (tx from to : ℕ) → entries_in logs o from to ≡ filter (is_by tx) (all_entries logs)
      → text_in from to ≡ text_of_lines (map line (picked_of pick logs tx))
  text-all tx from to own = ap (λ ys. text_of_lines (map line ys)) (ap (filter_map by) own ∙ of_all pick tx logs)
