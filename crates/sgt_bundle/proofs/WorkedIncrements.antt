-- Bundles with increments, and what the definitions say of them.
use Rattle.std.proofs.Common.{◌≡◌, ℕ, zero, suc, true, false, List, [], ◌∷◌, refl, sym, ◌∙◌, arith, lit<, ◌<◌}
use Rattle.std.specs.Prelude.{codes}
use Rattle.std.specs.Fmt.{digits}
use Rattle.std.proofs.lemmas.Bool.{true≢false}
use Rattle.std.proofs.lemmas.Option.{same_Some}
use Rattle.serde_json.proofs.OnLiterals.{serde_json_on_literals}
use Rattle.sgt_names.specs.declared.entry.Entry.TheVariants as e
use Rattle.sgt_names.specs.declared.entry.Kind.TheVariants.{Wr}
use Rattle.sgt_names.proofs.Places.{Contains-from_at}
use Rattle.sgt_notation.specs.Spelling.{text_of_lines}
use Rattle.sgt_bundle.specs.Parts.{Parts}
use Rattle.sgt_bundle.specs.Certificate.{Suits}
use Rattle.sgt_bundle.specs.Valid.{RefusedLieOnCycles, IsValid}
use Rattle.sgt_bundle.specs.Serial.{SerialAgrees}
use Rattle.sgt_bundle.specs.Text.{text_of, has_increments, Spells}
use Rattle.sgt_bundle.specs.declared.bundle.SiteLog.{SiteLog}
use Rattle.sgt_bundle.specs.declared.certificate.Decision.TheVariants.{Commit, Refuse, Withdraw}
use Rattle.sgt_bundle.proofs.WorkedBundles.{x, y, own_read}
use Rattle.sgt_bundle.proofs.Examples.{of_x}
use Rattle.sgt_bundle.proofs.Headline.{valid-agrees}
use Rattle.sgt_bundle.proofs.Tested.{valid-from_test}

-- ---- entries and decisions

pub adds-committed : (Suits (e.Add 1 x 8) (Refuse 1 []) → ⊥)
    × ((Suits (e.Add 1 x 8) (Withdraw 1) → ⊥) × Suits (e.Add 1 x 8) (Commit 1 0))
adds-committed = ((λ h. h), ((λ h. h), tt))

pub asked_adds-refused : (Suits (e.WantAdd 1 x 8) (Commit 1 0) → ⊥)
    × ((Suits (e.WantAdd 1 x 8) (Withdraw 1) → ⊥) × Suits (e.WantAdd 1 x 8) (Refuse 1 []))
asked_adds-refused = ((λ h. h), ((λ h. h), tt))

-- ---- two increments, ranked as they stand and the other way round

abbrev pub two_adds : ℕ → ℕ → Parts
two_adds r s = of_x (Commit 2 r ∷ Commit 1 s ∷ []) (e.Add 2 x 4 ∷ e.Commit 2 ∷ e.Add 1 x 3 ∷ e.Commit 1 ∷ []) 12

pub two_adds-text : text_of (two_adds 0 1) ≡ text_of_lines (codes "sgt 2" ∷ codes "{\"decisions\":[{\"commit\":2,\"rank\":0},{\"commit\":1,\"rank\":1}],\"sites\":1}"
    ∷ codes "site 0" ∷ codes "item x=5" ∷ codes "d2[x]=4" ∷ codes "c2" ∷ codes "d1[x]=3" ∷ codes "c1" ∷ codes "final x=12" ∷ codes "end" ∷ [])
unfolding digits serde_json_on_literals
two_adds-text = refl

two_adds-cycles : (r s : ℕ) → RefusedLieOnCycles (two_adds r s)
two_adds-cycles r s zero tx walk at = absurd cc
two_adds-cycles r s (suc zero) tx walk at = absurd cc
two_adds-cycles r s (suc (suc n)) tx walk at = absurd cc

pub two_adds-valid : IsValid (two_adds 0 1)
two_adds-valid = valid-from_test (two_adds 0 1) refl (two_adds-cycles 0 1)

pub two_adds-turned-valid : IsValid (two_adds 1 0)
two_adds-turned-valid = valid-from_test (two_adds 1 0) refl (two_adds-cycles 1 0)

pub two_adds-turned-serial : SerialAgrees (two_adds 1 0)
two_adds-turned-serial = valid-agrees (two_adds 1 0) two_adds-turned-valid

-- ---- an increment and a read behind it

abbrev pub add_and_read : ℕ → ℕ → Parts
add_and_read r s = of_x (Commit 1 r ∷ Commit 2 s ∷ []) (e.Add 1 x 3 ∷ e.Commit 1 ∷ e.Read 2 x 8 ∷ e.Commit 2 ∷ []) 8

add_and_read-cycles : (r s : ℕ) → RefusedLieOnCycles (add_and_read r s)
add_and_read-cycles r s zero tx walk at = absurd cc
add_and_read-cycles r s (suc zero) tx walk at = absurd cc
add_and_read-cycles r s (suc (suc n)) tx walk at = absurd cc

pub add_and_read-valid : IsValid (add_and_read 0 1)
add_and_read-valid = valid-from_test (add_and_read 0 1) refl (add_and_read-cycles 0 1)

pub add_and_read-turned-not_valid : IsValid (add_and_read 1 0) → ⊥
add_and_read-turned-not_valid v =
    let log : SiteLog = record {
      items = record { item = x; value = 5 } ∷ [];
      entries =
          e.Add 1 x 3 ∷ e.Commit 1 ∷ e.Read 2 x 8 ∷ e.Commit 2 ∷ [];
      finals = record { item = x; value = 8 } ∷ [];
    } in
    let here = v.logs 0 log (lit< tt) in
    let wrong : 1 < 0 = here.ranked 0 2 (e.Commit 0) (lit< tt) (lit< tt) Wr x 0 1 1 0 (
      refl,
      refl,
    ) (λ same. absurd (omega arith)) refl refl in
    absurd (omega arith)

-- the serial run adds: read before the increment, the value is another
pub add_and_read-turned-not_serial : SerialAgrees (add_and_read 1 0) → ⊥
add_and_read-turned-not_serial h =
    let read =
    h.0.reads 0 x 8 (Contains-from_at (e.Add 1 x 3 ∷ e.Commit 1 ∷ e.Read 2 x 8 ∷ e.Commit 2 ∷ []) 2
    (e.Read 2 x 8) refl) in
    let same = same_Some 5 8 read in
    absurd (omega (arith, same))

-- an increment of an item that isn't there
pub add_of_no_item-not_serial : SerialAgrees (of_x (Commit 1 0 ∷ []) (e.Add 1 y 0 ∷ e.Commit 1 ∷ []) 5) → ⊥
add_of_no_item-not_serial h = let wrong =
    h.0.adds 0 y 0 (Contains-from_at (e.Add 1 y 0 ∷ e.Commit 1 ∷ []) 0 (e.Add 1 y 0) refl) in absurd cc

-- a sum modulo 2^64
abbrev pub wrapping : Parts
wrapping = record {
  certificate = record { sites = 1; decisions = Commit 1 0 ∷ [] };
  sites = record {
    items = record { item = x; value = 18446744073709551615 } ∷ [];
    entries =
        e.Add 1 x 1 ∷ e.Commit 1 ∷ [];
    finals = record { item = x; value = 0 } ∷ [];
  } ∷ [];
}

pub wrapping-valid : IsValid wrapping
wrapping-valid =
    valid-from_test wrapping refl (elim [ zero ↦ λ tx walk at. absurd cc | suc m ↦ λ tx walk at. absurd cc ])

-- ---- formats

-- without increments a bundle is written in the first format
pub own_read-first : has_increments own_read.sites ≡ false
own_read-first = refl

pub asked-second : has_increments (of_x [] (e.WantAdd 1 x 3 ∷ e.Refuse 1 ∷ []) 5).sites ≡ true
asked-second = refl

-- an increment at any site counts
pub later_site-second : has_increments (record {
  items = [];
  entries = e.Withdraw 3 ∷ [];
  finals =
      [];
} ∷ record { items = []; entries = e.Commit 2 ∷ e.Add 1 x 3 ∷ []; finals = [] } ∷ []) ≡ true
later_site-second = refl

-- in the first format there are none
pub first-no_increments : (bytes : List ℕ) (b : Parts) → (s : Spells bytes b) → s.second ≡ false
    → has_increments b.sites ≡ true → ⊥
first-no_increments bytes b s first some = true≢false (sym (s.allowed some) ∙ first)
