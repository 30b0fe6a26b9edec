-- What is said of ranks that aren't 0 to n - 1, each once.
use Rattle.std.specs.Prelude.{◌≡◌, ℕ, ◌-◌, ◌<◌, ◌≤◌, List, ◌++◌, length, Contains, codes, decimal, Option, Some, None, IfSome, IfNone}
use Rattle.std.specs.List.{filter_map, enumerate_from}
use Rattle.sgt_bundle.specs.Certificate.{IsCommitted, ranks}
use Rattle.sgt_bundle.specs.declared.certificate.Decision.{Decision}
use Rattle.sgt_bundle.specs.declared.certificate.Decision.TheVariants.{Commit}
use Rattle.sgt_explain_certificate.specs.declared.ranks.Given.{Given}
use Rattle.sgt_explain_certificate.specs.declared.ranks.RanksFound.{RanksFound}

-- the rank that the decision of this number gives
abbrev pub given_by : ℕ → Decision → Option Given
given_by n (Commit tx rank) = Some (record { rank = rank; tx = tx; number = n })
given_by n _ = None

abbrev pub given_of : ℕ × Decision → Option Given
given_of (n, d) = given_by n d

abbrev pub all_given : List Decision → List Given
all_given decisions = filter_map given_of (enumerate_from 0 decisions)

-- the decision commits the transaction with the rank
abbrev pub IsGiven : List Decision → Given → Type 0
IsGiven decisions g = IsCommitted decisions g.number g.tx g.rank

-- one of these has the rank
abbrev pub HasRank : List Given → ℕ → Type 0
HasRank given rank = (g : Given) × Contains given g × (g.rank ≡ rank)

-- two decisions give one rank
pub record AreDoubled (one other : Given) : Type 0 where
  pub same : one.rank ≡ other.rank
  pub apart : one.number < other.number

-- of one rank there is one decision alone
abbrev pub AreSingle : List Given → Type 0
AreSingle given = (one other : Given) → Contains given one → Contains given other → one.rank ≡ other.rank
    → one.number ≡ other.number

-- what is found wrong with the ranks: two that are one, one that is too great, and one that nobody has. Where none is
-- missing, each is given; where none are one, no two decisions give one rank; and where none is too great, each is
-- below their count
pub record AreRanksFound (decisions : List Decision) (found : RanksFound) : Type 0 where
  pub commits : found.commits ≡ length (ranks decisions)
  pub doubled : IfSome found.doubled (λ two. IsGiven decisions two.0 × IsGiven decisions two.1 × AreDoubled two.0 two.1)
  pub single : IfNone found.doubled ((one other : Given) → IsGiven decisions one → IsGiven decisions other
      → AreDoubled one other → ⊥)
  pub above : IfSome found.above (λ g. IsGiven decisions g × (length (ranks decisions) ≤ g.rank))
  pub below : IfNone found.above ((g : Given) → IsGiven decisions g → g.rank < length (ranks decisions))
  pub missing : IfSome found.missing (λ rank. (rank < length (ranks decisions)) × (Contains (ranks decisions) rank → ⊥))
  pub given : IfNone found.missing ((rank : ℕ) → rank < length (ranks decisions) → Contains (ranks decisions) rank)

abbrev pub ranks_head : ℕ → List ℕ
ranks_head n = codes "Ranks: the ranks of the " ++ (decimal n ++ (codes " commits have to be 0 to " ++ (decimal (n - 1) ++ codes ", each once\n")))

abbrev pub doubled_text : Given → Given → List ℕ
doubled_text one other = codes "rank " ++ (decimal one.rank ++ (codes " is given to " ++ (decimal one.tx ++ (codes " (decision " ++ (decimal one.number
    ++ (codes ") and to " ++ (decimal other.tx ++ (codes " (decision " ++ (decimal other.number ++ codes ")\n")))))))))

abbrev pub above_text : Given → List ℕ
above_text g = codes "rank " ++ (decimal g.rank ++ (codes " of " ++ (decimal g.tx ++ (codes " (decision " ++ (decimal g.number ++ codes ") is too great\n")))))

abbrev pub missing_text : ℕ → List ℕ
missing_text rank = codes "rank " ++ (decimal rank ++ codes " is given to nobody\n")

abbrev pub if_doubled : Option (Given × Given) → List ℕ
if_doubled (Some two) = doubled_text two.0 two.1
if_doubled None = codes ""

abbrev pub if_above : Option Given → List ℕ
if_above (Some g) = above_text g
if_above None = codes ""

abbrev pub if_missing : Option ℕ → List ℕ
if_missing (Some rank) = missing_text rank
if_missing None = codes ""

abbrev pub ranks_text : RanksFound → List ℕ
ranks_text found =
    ranks_head found.commits ++ (if_doubled found.doubled ++ (if_above found.above ++ if_missing found.missing))

abbrev pub TellsRanks : List Decision → (old new : List ℕ) → Type 0
TellsRanks decisions old new = (found : RanksFound) × AreRanksFound decisions found × (new ≡ old ++ ranks_text found)
