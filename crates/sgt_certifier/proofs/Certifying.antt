-- Decisions and their ranks.
use Rattle.std.proofs.Common.{◌≡◌, ◌≢◌, ◌<◌, ◌≤◌, ◌+◌, ℕ, suc, List, [], ◌∷◌, ◌++◌, length, map, refl, sym, ◌∙◌, ap, arith, add-one, inl, inr, All, AllPairs, Contains, Some}
use Rattle.std.specs.Prelude.{slice_get, slice_index}
use Rattle.std.proofs.lemmas.Option.{get_or_from_slice_get}
use Rattle.std.proofs.lemmas.List.Elements.{Contains-append_cases}
use Rattle.sgt_names.proofs.Places.{All-from_at, All_at, Contains_at, Contains-from_at}
use Rattle.sgt_certifier.specs.declared.call.Call.{Call}
use Rattle.sgt_certifier.specs.declared.call.Call.TheVariants as call
use Rattle.sgt_bundle.specs.declared.certificate.Decision.{Decision}
use Rattle.sgt_bundle.specs.declared.certificate.Decision.TheVariants as decision
use Rattle.sgt_certifier.specs.Certifier.{State, Ruling, committed, refused, withdrawn, ruled, serial, ranked, place_in}
use Rattle.sgt_certifier.specs.Sound.{IsSoundCertifier, IsRuled}
use Rattle.sgt_certifier.specs.declared.ranking.Ruled.{Ruled}
use Rattle.sgt_certifier.specs.Judged.{ruling_from}
use Rattle.sgt_certifier.specs.Kept.{rulings_from, windows_after, with_rank_in}
use Rattle.sgt_certifier.proofs.Members.{cons_here}
use Rattle.sgt_certifier.proofs.Keeping.{distinct-append}
use Rattle.sgt_certifier.proofs.Installs.{distinct_few}
use Rattle.sgt_certifier.proofs.Ruling.{place_in_at}
use Rattle.sgt_names.proofs.Elements.{contains-later, get-mapped}

-- the decisions of a call and of those after it
pub rulings_split : (begun before : ℕ) (c : Call) (cs : List Call)
    → rulings_from begun before (c ∷ cs) ≡ rulings_from 0 before (c ∷ []) ++ rulings_from
    (windows_after begun before c).0 (windows_after begun before c).1 cs
rulings_split begun before (call.Begin tx h) cs = ap (λ k. rulings_from k before cs) (sym (add-one begun))
rulings_split begun before (call.Decide h edges reply) cs = refl
rulings_split begun before (call.Finish tx) cs = refl
rulings_split begun before (call.Withdraw h number) cs = refl
rulings_split begun before (call.Close ranks) cs = refl
rulings_split begun before (call.Installed tx site items) cs = refl

pub windows_few : (begun before : ℕ) (c : Call) → (windows_after begun before c).0 ≤ begun + 1
windows_few begun before (call.Begin tx h) = omega arith
windows_few begun before (call.Decide h edges reply) = omega arith
windows_few begun before (call.Finish tx) = omega arith
windows_few begun before (call.Withdraw h number) = omega arith
windows_few begun before (call.Close ranks) = omega arith
windows_few begun before (call.Installed tx site items) = omega arith

abbrev IsBelow : ℕ → Ruling → Type 0
IsBelow n r = ruled r < n

-- ---- the rulings as they are kept

pub map_from : (f : Ruling → Decision) (xs : List Ruled) → map (λ r. f (ruling_from r)) xs ≡ map f (map ruling_from xs)
map_from f [] = refl
map_from f (x ∷ xs) = ap (λ ys. f (ruling_from x) ∷ ys) (map_from f xs)

pub below_from : (n : ℕ) (xs : List Ruled) → All (λ r. ruled r < n) (map ruling_from xs)
    → All (λ r. ruled (ruling_from r) < n) xs
below_from n xs all =
    All-from_at (λ r. ruled (ruling_from r) < n) xs (λ k r at. All_at (λ r. ruled r < n) (map ruling_from xs) k
    (ruling_from r) all (get-mapped ruling_from xs k r at))

-- ---- the table of the ranks

abbrev pub IsTable : List ℕ → List ℕ → Type 0
IsTable serial table = (k tx : ℕ) → slice_get serial k ≡ Some tx → slice_get table tx ≡ Some k

pub table_rank : (order table : List ℕ) (tx : ℕ) → IsTable order table → Contains order tx
    → slice_index table tx ≡ place_in order tx
table_rank order table tx is member =
    get_or_from_slice_get table tx (place_in order tx) 0 (is (place_in order tx) tx (place_in_at order tx member))

map_agree : {A B : Type 0} (f g : A → B) (xs : List A) → ((x : A) → Contains xs x → f x ≡ g x) → map f xs ≡ map g xs
map_agree f g [] h = refl
map_agree f g (x ∷ xs) h = ap (λ y. y ∷ map f xs) (h x (cons_here x xs))
    ∙ ap (λ ys. g x ∷ ys) (map_agree f g xs (λ y c. h y (contains-later x xs y c)))

one_agrees : (s : State) (table : List ℕ) → IsRuled s → IsTable (serial s) table → (r : Ruling) → Contains s.rulings r
    → with_rank_in table r ≡ ranked (serial s) r
one_agrees s table ruled_ is (committed tx) c = let at = Contains_at s.rulings (committed tx) c in
    ap (decision.Commit tx) (table_rank (serial s) table tx is (ruled_.to_serial at.0 tx at.1))
one_agrees s table ruled_ is (refused tx walk) c = refl
one_agrees s table ruled_ is (withdrawn tx) c = refl

pub table_ranks : (s : State) (table : List ℕ) → IsRuled s → IsTable (serial s) table
    → map (with_rank_in table) s.rulings ≡ map (ranked (serial s)) s.rulings
table_ranks s table ruled_ is =
    map_agree (with_rank_in table) (ranked (serial s)) s.rulings (one_agrees s table ruled_ is)

pub rulings_below : (s : State) (n : ℕ) → IsRuled s → s.begun < n → All (λ r. ruled r < n) s.rulings
rulings_below s n h less = All-from_at (IsBelow n) s.rulings (λ k r at. let le = h.begun k r at in
    omega (arith, le, less))

-- ---- the serial order

pub serial-distinct : (s : State) → IsSoundCertifier s → AllPairs (λ a b. a ≢ b) (serial s)
serial-distinct s h = distinct-append s.past s.order h.distinct_past h.distinct_order (λ a b ca cb e. let p =
    h.past_before a ca in let w = h.order_here b cb in omega (arith, p, w.0, e))

pub serial-below : (s : State) → IsSoundCertifier s → All (λ tx. tx < suc s.begun) (serial s)
serial-below s h = All-from_at (λ tx. tx < suc s.begun) (serial s) (λ k tx at.
    elim (Contains-append_cases s.past s.order tx (Contains-from_at (serial s) k tx at)) [
      | inl early ↦ let p = h.past_before tx early in let w = h.window in omega (arith, p, w)
      | inr late ↦ let p = h.order_here tx late in omega (arith, p.1)
    ])

pub serial-few : (s : State) → IsSoundCertifier s → length (serial s) ≤ suc s.begun
serial-few s h = distinct_few (suc s.begun) (serial s) (serial-distinct s h) (serial-below s h)
