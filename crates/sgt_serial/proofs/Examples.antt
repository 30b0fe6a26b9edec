-- Small worked bundles, and what the definitions say of their serial runs.
use Rattle.std.proofs.Common.{◌≡◌, ℕ, List, [], ◌∷◌, refl, Some, None, inl, inr, arith, All}
use Rattle.std.specs.Prelude.{codes}
use Rattle.std.specs.Fmt.{digits}
use Rattle.std.proofs.lemmas.Option.{same_Some, none-some}
use Rattle.std.proofs.lemmas.Bool.{false≢true}
use Rattle.std.proofs.lemmas.List.Elements.{All-nil, All-from_recursion}
use Rattle.sgt_names.specs.declared.entry.Change.TheVariants.{Put, Add}
use Rattle.sgt_names.specs.declared.entry.Entry.{Entry}
use Rattle.sgt_names.specs.declared.entry.Entry.TheVariants as e
use Rattle.sgt_names.specs.declared.entry.Holding.{Holding}
use Rattle.sgt_bundle.specs.Parts.{Parts}
use Rattle.sgt_bundle.specs.Serial.{initial_store, RunsOn, SerialAgrees}
use Rattle.sgt_bundle.specs.declared.certificate.Decision.{Decision}
use Rattle.sgt_bundle.specs.declared.certificate.Decision.TheVariants.{Commit, Withdraw}
use Rattle.sgt_bundle.specs.declared.bundle.SiteLog.{SiteLog}
use Rattle.sgt_notation.specs.Spelling.{text_of_lines}
use Rattle.sgt_serial.specs.Difference.{Has, Knows, last_store, IsFirstDifference}
use Rattle.sgt_serial.specs.Report.{reads_of, writes_of, report_of}
use Rattle.sgt_serial.specs.Text.{report_text}
use Rattle.sgt_serial.proofs.Differences.{agrees-differs, one-difference}
use Rattle.sgt_serial.proofs.Logged.{runs-on}

abbrev x : List ℕ
x = codes "x"

abbrev y : List ℕ
y = codes "y"

-- an item with a value
abbrev holds : List ℕ → ℕ → Holding
holds name v = record { item = name; value = v }

abbrev log : List Holding → List Entry → List Holding → SiteLog
log items entries finals = record { items = items; entries = entries; finals = finals }

abbrev bundle : List Decision → List SiteLog → Parts
bundle decisions sites = record { certificate = record { sites = 1; decisions = decisions }; sites = sites }

-- a transaction of smaller rank ends later, and isn't in the way
abbrev moved : Parts
moved = bundle (Commit 2 1 ∷ Commit 1 0 ∷ [])
    (log (holds x 5 ∷ holds y 2 ∷ []) (e.Read 1 x 5 ∷ e.Write 2 x 6 ∷ e.Commit 2 ∷ e.Write 1 y 3 ∷ e.Commit 1 ∷ [])
    (holds x 6 ∷ holds y 3 ∷ []) ∷ [])

moved-text : report_text (report_of moved) ≡ text_of_lines (codes "t1" ∷ codes "r1[0.x]=5" ∷ codes "w1[0.y]=3" ∷ codes "t2" ∷ codes "w2[0.x]=6" ∷ codes "final 0.x=6" ∷ codes "final 0.y=3" ∷ [])
unfolding digits
moved-text = refl

-- equal names of two sites, whose reads stand before the writes; one withdrawn
abbrev two_sites : Parts
two_sites = bundle (Withdraw 2 ∷ Commit 1 0 ∷ [])
    (log (holds x 5 ∷ []) (e.Write 1 x 6 ∷ e.Read 1 x 5 ∷ e.Read 2 x 1 ∷ []) (holds x 6 ∷ []) ∷ log (holds x 7 ∷ [])
    (e.Read 1 x 7 ∷ []) (holds x 7 ∷ []) ∷ [])

two_sites-text : report_text (report_of two_sites) ≡ text_of_lines (codes "t1" ∷ codes "r1[0.x]=5" ∷ codes "r1[1.x]=7" ∷ codes "w1[0.x]=6" ∷ codes "final 0.x=6" ∷ codes "final 1.x=7" ∷ [])
unfolding digits
two_sites-text = refl

-- a read of a value that was never there
abbrev wrong_read : Parts
wrong_read =
    bundle (Commit 1 0 ∷ []) (log (holds x 5 ∷ []) (e.Read 1 x 4 ∷ e.Write 1 x 6 ∷ e.Commit 1 ∷ []) (holds x 6 ∷ []) ∷
    [])

five≢four : ◌≡◌ {A = ℕ} 5 4 → ⊥
five≢four h = absurd (omega arith)

wrong_read-differs : IsFirstDifference wrong_read (Some 1) 0 x
wrong_read-differs = (
  0,
  refl,
  tt,
  inl (
    4,
    record {
      place = 0;
      at = refl;
      before = All-nil (Has (initial_store wrong_read.sites));
      without =
          λ h. five≢four (same_Some 5 4 h);
    },
  ),
)

wrong_read-not : SerialAgrees wrong_read → ⊥
wrong_read-not agrees = agrees-differs wrong_read (Some 1) 0 x agrees wrong_read-differs

-- a transaction doesn't read what it writes itself
abbrev own_write : Parts
own_write =
    bundle (Commit 1 0 ∷ []) (log (holds x 5 ∷ []) (e.Write 1 x 6 ∷ e.Read 1 x 6 ∷ e.Commit 1 ∷ []) (holds x 6 ∷ []) ∷
    [])

five≢six : ◌≡◌ {A = ℕ} 5 6 → ⊥
five≢six h = absurd (omega arith)

own_write-differs : IsFirstDifference own_write (Some 1) 0 x
own_write-differs = (
  0,
  refl,
  tt,
  inl (
    6,
    record {
      place = 0;
      at = refl;
      before = All-nil (Has (initial_store own_write.sites));
      without =
          λ h. five≢six (same_Some 5 6 h);
    },
  ),
)

-- a write of an item that isn't there, and a wrong final value behind it
abbrev unknown_item : Parts
unknown_item =
    bundle (Commit 1 0 ∷ []) (log (holds x 5 ∷ []) (e.Read 1 x 5 ∷ e.Write 1 y 6 ∷ e.Commit 1 ∷ []) (holds x 6 ∷ []) ∷
    [])

reads-five : All (Has (initial_store unknown_item.sites)) (reads_of unknown_item.sites 1)
reads-five = All-from_recursion (Has (initial_store unknown_item.sites)) (reads_of unknown_item.sites 1) (refl, tt)

unknown_item-differs : IsFirstDifference unknown_item (Some 1) 0 y
unknown_item-differs = (
  0,
  refl,
  tt,
  inr (
    reads-five,
    (
      Put 6,
      record {
        place = 0;
        at = refl;
        before = All-nil (Knows (initial_store unknown_item.sites));
        without =
            λ h. absurd (false≢true h);
      },
    ),
  ),
)

-- the first difference isn't the later one
unknown_item-first : IsFirstDifference unknown_item None 0 x → ⊥
unknown_item-first d = let one = one-difference unknown_item None 0 x (Some 1) 0 y d unknown_item-differs in
    none-some 1 one.0

-- a final value that nobody wrote
abbrev wrong_final : Parts
wrong_final = bundle (Commit 1 0 ∷ []) (log (holds x 5 ∷ []) (e.Write 1 x 6 ∷ e.Commit 1 ∷ []) (holds x 5 ∷ []) ∷ [])

six≢five : ◌≡◌ {A = ℕ} 6 5 → ⊥
six≢five h = absurd (omega arith)

wrong_final-runs : RunsOn wrong_final.sites 1 (initial_store wrong_final.sites)
wrong_final-runs =
    runs-on wrong_final.sites 1 (initial_store wrong_final.sites) (All-nil (Has (initial_store wrong_final.sites)))
    (All-from_recursion (Knows (initial_store wrong_final.sites)) (writes_of wrong_final.sites 1) (refl, tt))

wrong_final-differs : IsFirstDifference wrong_final None 0 x
wrong_final-differs = (
  5,
  (wrong_final-runs, tt),
  record {
    place = 0;
    at = refl;
    before = All-nil (Has (last_store wrong_final));
    without = λ h. six≢five (same_Some 6 5 h);
  },
)

-- two increments of one item, the other way round by rank than in the log
abbrev increments : Parts
increments =
    bundle (Commit 2 1 ∷ Commit 1 0 ∷ [])
    (log (holds x 5 ∷ []) (e.Add 2 x 4 ∷ e.Commit 2 ∷ e.Add 1 x 3 ∷ e.Commit 1 ∷ []) (holds x 12 ∷ []) ∷ [])

increments-text : report_text (report_of increments) ≡ text_of_lines (codes "t1" ∷ codes "d1[0.x]=3" ∷ codes "t2" ∷ codes "d2[0.x]=4" ∷ codes "final 0.x=12" ∷ [])
unfolding digits
increments-text = refl

increments-sum : last_store increments 0 x ≡ Some 12
increments-sum = refl

-- a write and increments of one transaction, in log order, behind its read
abbrev mixed : Parts
mixed = bundle (Commit 1 0 ∷ [])
    (log (holds x 5 ∷ holds y 2 ∷ []) (e.Add 1 x 3 ∷ e.Write 1 y 6 ∷ e.Read 1 x 5 ∷ e.Commit 1 ∷ [])
    (holds x 8 ∷ holds y 6 ∷ []) ∷ log (holds x 1 ∷ []) (e.Add 1 x 1 ∷ []) (holds x 2 ∷ []) ∷ [])

mixed-text : report_text (report_of mixed)
    ≡ text_of_lines (codes "t1" ∷ codes "r1[0.x]=5" ∷ codes "d1[0.x]=3" ∷ codes "w1[0.y]=6" ∷ codes "d1[1.x]=1" ∷ codes "final 0.x=8" ∷ codes "final 0.y=6" ∷ codes "final 1.x=2" ∷ [])
unfolding digits
mixed-text = refl

-- sums are modulo 2^64
abbrev past_greatest : Parts
past_greatest =
    bundle (Commit 1 0 ∷ []) (log (holds x 18446744073709551615 ∷ []) (e.Add 1 x 1 ∷ e.Commit 1 ∷ []) (holds x 0 ∷ [])
    ∷ [])

past_greatest-sum : last_store past_greatest 0 x ≡ Some 0
past_greatest-sum = refl

-- what was only asked for isn't run
abbrev asked : Parts
asked = bundle (Commit 1 0 ∷ []) (log (holds x 5 ∷ []) (e.WantAdd 1 x 3 ∷ e.Want 1 x 4 ∷ e.Commit 1 ∷ [])
    (holds x 5 ∷ []) ∷ [])

asked-nothing : writes_of asked.sites 1 ≡ []
asked-nothing = refl

-- an increment isn't a write of its number
abbrev sum_as_write : Parts
sum_as_write = bundle (Commit 1 0 ∷ []) (log (holds x 5 ∷ []) (e.Add 1 x 3 ∷ e.Commit 1 ∷ []) (holds x 3 ∷ []) ∷ [])

eight≢three : ◌≡◌ {A = ℕ} 8 3 → ⊥
eight≢three h = absurd (omega arith)

sum_as_write-runs : RunsOn sum_as_write.sites 1 (initial_store sum_as_write.sites)
sum_as_write-runs =
    runs-on sum_as_write.sites 1 (initial_store sum_as_write.sites) (All-nil (Has (initial_store sum_as_write.sites)))
    (All-from_recursion (Knows (initial_store sum_as_write.sites)) (writes_of sum_as_write.sites 1) (refl, tt))

sum_as_write-differs : IsFirstDifference sum_as_write None 0 x
sum_as_write-differs = (
  3,
  (sum_as_write-runs, tt),
  record {
    place = 0;
    at = refl;
    before = All-nil (Has (last_store sum_as_write));
    without = λ h. eight≢three (same_Some 8 3 h);
  },
)

-- an increment of an item that isn't there
abbrev unknown_sum : Parts
unknown_sum = bundle (Commit 1 0 ∷ []) (log (holds x 5 ∷ []) (e.Add 1 y 3 ∷ e.Commit 1 ∷ []) (holds x 5 ∷ []) ∷ [])

unknown_sum-differs : IsFirstDifference unknown_sum (Some 1) 0 y
unknown_sum-differs =
    let store = initial_store unknown_sum.sites in (
      0,
      refl,
      tt,
      inr (
        All-nil (Has store),
        (Add 3, record { place = 0; at = refl; before = All-nil (Knows store); without = λ h. absurd (false≢true h) }),
      ),
    )
