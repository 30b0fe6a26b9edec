-- Small worked bundles, and what the definitions say of them.
use Rattle.std.proofs.Common.{◌≡◌, ℕ, List, [], ◌∷◌, refl, Some, get_or, arith, lit<, lit≤, ◌<◌, ◌≢◌, zero, suc, subst, sym, ap}
use Rattle.std.specs.Prelude.{codes, slice_get}
use Rattle.std.proofs.lemmas.Option.{same_Some}
use Rattle.std.proofs.lemmas.List.Elements.{All-from_recursion}
use Rattle.sgt_names.specs.Entry.{tx_of, Writes}
use Rattle.sgt_names.specs.declared.entry.Entry.{Entry}
use Rattle.sgt_names.proofs.Places.{AllPairs-from_recursion}
use Rattle.sgt_bundle.specs.declared.certificate.Step.{Step}
use Rattle.sgt_bundle.proofs.Headline.{valid-agrees}
use Rattle.sgt_bundle.proofs.Tested.{valid-from_test}
use Rattle.std.specs.Fmt.{digits}
use Rattle.serde_json.proofs.OnLiterals.{serde_json_on_literals}
use Rattle.sgt_names.specs.declared.entry.Entry.TheVariants as e
use Rattle.sgt_names.specs.declared.entry.Kind.TheVariants.{Rw, Ww}
use Rattle.sgt_notation.specs.Spelling.{text_of_lines}
use Rattle.sgt_bundle.specs.Parts.{Parts}
use Rattle.sgt_bundle.specs.Certificate.{by_rank, IsCycle, IsCommitted, Suits}
use Rattle.sgt_bundle.specs.Valid.{RefusedLieOnCycles, IsLogged, AreLogged, IsValid}
use Rattle.sgt_bundle.specs.Serial.{SerialAgrees}
use Rattle.sgt_bundle.specs.Text.{text_of, certificate_text}
use Rattle.sgt_bundle.specs.declared.bundle.SiteLog.{SiteLog}
use Rattle.sgt_bundle.specs.declared.certificate.Decision.{Decision}
use Rattle.sgt_bundle.specs.declared.certificate.Decision.TheVariants.{Commit, Refuse}

abbrev pub x : List ℕ
x = codes "x"

abbrev pub y : List ℕ
y = codes "y"

-- one transaction reads an item and writes it
abbrev pub own_read : Parts
own_read = record {
  certificate = record { sites = 1; decisions = Commit 1 0 ∷ [] };
  sites = record {
    items = record { item = x; value = 5 } ∷ [];
    entries = e.Read 1 x 5 ∷ e.Write 1 x 6 ∷ e.Commit 1 ∷ [];
    finals = record { item = x; value = 6 } ∷ [];
  } ∷ [];
}

pub own_read-text : text_of own_read ≡ text_of_lines (codes "sgt 1" ∷ codes "{\"decisions\":[{\"commit\":1,\"rank\":0}],\"sites\":1}" ∷ codes "site 0" ∷ codes "item x=5" ∷ codes "r1[x]=5" ∷ codes "w1[x]=6" ∷ codes "c1" ∷ codes "final x=6" ∷ codes "end" ∷ [])
unfolding digits serde_json_on_literals
own_read-text = refl

-- the only cycle there is: the second transaction read what the first wrote over, and wants to write what the first
-- read
abbrev pub cycle : Parts
cycle = record {
  certificate = record {
    sites = 1;
    decisions = Commit 1 0
        ∷ Refuse 2 (record { label = record { site = 0; item = y; kind = Rw }; to = 1 } ∷ record {
          label =
              record { site = 0; item = x; kind = Rw };
          to = 2;
        } ∷ [])
        ∷ [];
  };
  sites = record {
    items = record { item = x; value = 5 } ∷ record { item = y; value = 2 } ∷ [];
    entries = e.Read 1 x 5 ∷ e.Read 2 y 2 ∷ e.Write 1 y 7 ∷ e.Commit 1 ∷ e.Want 2 x 8 ∷ e.Refuse 2 ∷ [];
    finals = record { item = x; value = 5 } ∷ record { item = y; value = 7 } ∷ [];
  } ∷ [];
}

pub cycle-certificate : certificate_text (cycle.certificate) ≡ codes "{\"decisions\":[{\"commit\":1,\"rank\":0},{\"refuse\":2,\"walk\":[{\"item\":\"y\",\"kind\":\"rw\",\"site\":0,\"to\":1},{\"item\":\"x\",\"kind\":\"rw\",\"site\":0,\"to\":2}]}],\"sites\":1}"
unfolding digits serde_json_on_literals
cycle-certificate = refl

-- a rank moves after its commit
abbrev pub moved : Parts
moved = record {
  certificate = record { sites = 1; decisions = Commit 2 1 ∷ Commit 1 0 ∷ [] };
  sites = record {
    items = record { item = x; value = 5 } ∷ record { item = y; value = 2 } ∷ [];
    entries = e.Read 1 x 5 ∷ e.Write 2 x 6 ∷ e.Commit 2 ∷ e.Write 1 y 3 ∷ e.Commit 1 ∷ [];
    finals = record { item = x; value = 6 } ∷ record { item = y; value = 3 } ∷ [];
  } ∷ [];
}

pub moved-order : by_rank moved.certificate.decisions ≡ 1 ∷ 2 ∷ []
moved-order = refl

-- two writers of one value, ranked the other way round: the values cannot tell
abbrev pub swapped : Parts
swapped = record {
  certificate = record { sites = 1; decisions = Commit 1 1 ∷ Commit 2 0 ∷ [] };
  sites = record {
    items = record { item = x; value = 5 } ∷ [];
    entries = e.Write 1 x 7 ∷ e.Commit 1 ∷ e.Write 2 x 7 ∷ e.Commit 2 ∷ [];
    finals = record { item = x; value = 7 } ∷ [];
  } ∷ [];
}

abbrev pub first_log : Parts → SiteLog
first_log b = get_or b.sites 0 (record { items = []; entries = []; finals = [] })

pub swapped-not_valid : IsValid swapped → ⊥
swapped-not_valid v =
    let log = v.logs 0 (first_log swapped) (lit< tt) in
    let wrong : 1 < 0 = log.ranked 0 2 (e.Commit 0) (lit< tt) (lit< tt) Ww x 0 1 1 0 (refl, refl, λ p q. absurd cc)
    (λ eq. absurd (omega arith)) refl refl in
    absurd (omega arith)

-- committed at one site, withdrawn at another
abbrev pub other_end : Parts
other_end = record {
  certificate = record { sites = 2; decisions = Commit 1 0 ∷ [] };
  sites = record {
    items = record { item = x; value = 5 } ∷ [];
    entries = e.Read 1 x 5 ∷ e.Commit 1 ∷ [];
    finals = record { item = x; value = 5 } ∷ [];
  } ∷ record {
    items = record { item = y; value = 2 } ∷ [];
    entries = e.Read 1 y 2 ∷ e.Withdraw 1 ∷ [];
    finals = record { item = y; value = 2 } ∷ [];
  } ∷ [];
}

pub cycle-text : text_of cycle ≡ text_of_lines (codes "sgt 1" ∷ codes "{\"decisions\":[{\"commit\":1,\"rank\":0},{\"refuse\":2,\"walk\":[{\"item\":\"y\",\"kind\":\"rw\",\"site\":0,\"to\":1},{\"item\":\"x\",\"kind\":\"rw\",\"site\":0,\"to\":2}]}],\"sites\":1}"
    ∷ codes "site 0" ∷ codes "item x=5" ∷ codes "item y=2" ∷ codes "r1[x]=5" ∷ codes "r2[y]=2" ∷ codes "w1[y]=7" ∷ codes "c1" ∷ codes "p2[x]=8" ∷ codes "n2" ∷ codes "final x=5" ∷ codes "final y=7" ∷ codes "end" ∷ [])
unfolding digits serde_json_on_literals
cycle-text = refl

pub moved-text : text_of moved ≡ text_of_lines (codes "sgt 1" ∷ codes "{\"decisions\":[{\"commit\":2,\"rank\":1},{\"commit\":1,\"rank\":0}],\"sites\":1}"
    ∷ codes "site 0" ∷ codes "item x=5" ∷ codes "item y=2" ∷ codes "r1[x]=5" ∷ codes "w2[x]=6" ∷ codes "c2" ∷ codes "w1[y]=3" ∷ codes "c1" ∷ codes "final x=6" ∷ codes "final y=3" ∷ codes "end" ∷ [])
unfolding digits serde_json_on_literals
moved-text = refl

pub swapped-text : text_of swapped ≡ text_of_lines (codes "sgt 1" ∷ codes "{\"decisions\":[{\"commit\":1,\"rank\":1},{\"commit\":2,\"rank\":0}],\"sites\":1}"
    ∷ codes "site 0" ∷ codes "item x=5" ∷ codes "w1[x]=7" ∷ codes "c1" ∷ codes "w2[x]=7" ∷ codes "c2" ∷ codes "final x=7" ∷ codes "end" ∷ [])
unfolding digits serde_json_on_literals
swapped-text = refl

pub other_end-text : text_of other_end ≡ text_of_lines (codes "sgt 1" ∷ codes "{\"decisions\":[{\"commit\":1,\"rank\":0}],\"sites\":2}"
    ∷ codes "site 0" ∷ codes "item x=5" ∷ codes "r1[x]=5" ∷ codes "c1" ∷ codes "final x=5" ∷ codes "end"
    ∷ codes "site 1" ∷ codes "item y=2" ∷ codes "r1[y]=2" ∷ codes "a1" ∷ codes "final y=2" ∷ codes "end" ∷ [])
unfolding digits serde_json_on_literals
other_end-text = refl

-- ---- what holds of them

-- the walk of the second decision
abbrev pub walk_of : Parts → List Step
walk_of b = record { label = record { site = 0; item = y; kind = Rw }; to = 1 } ∷ record {
  label =
      record { site = 0; item = x; kind = Rw };
  to = 2;
} ∷ []

-- the walk of the cycle: its shape, and both of its steps are logged
pub cycle-shape : IsCycle cycle.certificate.decisions 1 2 (walk_of cycle)
cycle-shape = record {
  between = 1 ∷ [];
  long = lit≤ tt;
  closed = refl;
  distinct = AllPairs-from_recursion (λ a b. a ≢ b) (1 ∷ []) (tt, tt);
  others = All-from_recursion (λ a. a ≢ 2) (1 ∷ []) ((λ e. absurd (omega arith)), tt);
  earlier =
      All-from_recursion (λ a. (m : ℕ) × (rank : ℕ) × (m < 1) × IsCommitted cycle.certificate.decisions m a rank)
      (1 ∷ []) ((0, 0, lit< tt, refl), tt);
}

pub cycle-logged : AreLogged cycle.sites 2 (walk_of cycle)
cycle-logged = (
  (
    first_log cycle,
    refl,
    record {
      p = 1;
      q = 2;
      e = e.Read 2 y 2;
      f = e.Write 1 y 7;
      before = lit< tt;
      first =
          refl;
      second = refl;
      from = refl;
      to = refl;
      apart = λ h. absurd (omega arith);
      clash = (refl, refl);
    },
  ),
  (
    (
      first_log cycle,
      refl,
      record {
        p = 0;
        q = 4;
        e = e.Read 1 x 5;
        f = e.Want 2 x 8;
        before = lit< tt;
        first =
            refl;
        second = refl;
        from = refl;
        to = refl;
        apart = λ h. absurd (omega arith);
        clash = (refl, refl);
      },
    ),
    tt,
  ),
)

no_write : (p : ℕ) (en : Entry) → slice_get (first_log cycle).entries p ≡ Some en → tx_of en ≡ 2 → Writes y en → ⊥
no_write zero en at = subst (λ d. tx_of d ≡ 2 → Writes y d → ⊥) (same_Some (e.Read 1 x 5) en at) (λ h w. w)
no_write (suc zero) en at = subst (λ d. tx_of d ≡ 2 → Writes y d → ⊥) (same_Some (e.Read 2 y 2) en at) (λ h w. w)
no_write (suc (suc zero)) en at = subst (λ d. tx_of d ≡ 2 → Writes y d → ⊥) (same_Some (e.Write 1 y 7) en at)
    (λ h w. absurd (omega arith))
no_write (suc (suc (suc zero))) en at = subst (λ d. tx_of d ≡ 2 → Writes y d
    → ⊥) (same_Some (e.Commit 1) en at) (λ h w. w)
no_write (suc (suc (suc (suc zero)))) en at = subst (λ d. tx_of d ≡ 2 → Writes y d
    → ⊥) (same_Some (e.Want 2 x 8) en at) (λ h w. let n : 120 ≡ 121 = ap (λ (bs : List ℕ). get_or bs 0 0) w in
    absurd (omega arith))
no_write (suc (suc (suc (suc (suc zero))))) en at = subst (λ d. tx_of d ≡ 2 → Writes y d
    → ⊥) (same_Some (e.Refuse 2) en at) (λ h w. w)
no_write (suc (suc (suc (suc (suc (suc p)))))) en at = absurd cc

-- a step that is no conflict of the logs: the operations are a read and then a write, and not two writes
pub cycle-other_kind : IsLogged cycle.sites 2 (record { label = record { site = 0; item = y; kind = Ww }; to = 1 }) → ⊥
cycle-other_kind (log, at, c) =
    let same = same_Some (first_log cycle) log at in
    no_write c.p c.e (subst (λ l. slice_get l.entries c.p ≡ Some c.e) (sym same) c.first) c.from c.clash.0

-- ---- which of them are valid

-- one transaction, which reads an item and then writes it
pub own_read-valid : IsValid own_read
own_read-valid =
    valid-from_test own_read refl (elim [ zero ↦ λ tx walk at. absurd cc | suc m ↦ λ tx walk at. absurd cc ])

moved-cycles : RefusedLieOnCycles moved
moved-cycles zero tx walk at = absurd cc
moved-cycles (suc zero) tx walk at = absurd cc
moved-cycles (suc (suc n)) tx walk at = absurd cc

-- a rank moves after its commit
pub moved-valid : IsValid moved
moved-valid = valid-from_test moved refl moved-cycles

cycle-cycles : RefusedLieOnCycles cycle
cycle-cycles zero tx walk at = absurd cc
cycle-cycles (suc zero) tx walk at =
    let same = same_Some (Refuse 2 (walk_of cycle)) (Refuse tx walk) at in
    let tx-is : 2 ≡ tx = cc in
    let walk-is : walk_of cycle ≡ walk = cc in
    subst (λ t. IsCycle cycle.certificate.decisions 1 t walk × AreLogged cycle.sites t walk) tx-is
    (subst (λ w. IsCycle cycle.certificate.decisions 1 2 w × AreLogged cycle.sites 2 w) walk-is (
      cycle-shape,
      cycle-logged,
    ))
cycle-cycles (suc (suc n)) tx walk at = absurd cc

pub cycle-valid : IsValid cycle
cycle-valid = valid-from_test cycle refl cycle-cycles

withdrawn : (number : ℕ) (d : Decision) → slice_get (Commit 1 0 ∷ []) number ≡ Some d → Suits (e.Withdraw 1) d → ⊥
withdrawn zero d at fits = subst (λ f. Suits (e.Withdraw 1) f → ⊥) (same_Some (Commit 1 0) d at) (λ why. why) fits
withdrawn (suc n) d at fits = absurd cc

pub other_end-not_valid : IsValid other_end → ⊥
other_end-not_valid v =
    let log = v.logs 1 (first_log other_end) (lit< tt) in
    let told = log.agrees.decided 1 (e.Commit 0) (lit< tt) in
    withdrawn told.0 told.1.0 told.1.1 told.1.3

-- so its serial run agrees
pub own_read-serial : SerialAgrees own_read
own_read-serial = valid-agrees own_read own_read-valid
