-- A certificate and the logs of its sites.
use Rattle.std.specs.Prelude.{◌≡◌, ℕ, ◌<◌, ◌≤◌, List, length, All, AllPairs}
use Rattle.std.specs.Ordering.{nat_cmp}
use Rattle.std.specs.Cmp.Lexicographic.{slice_cmp}
use Rattle.std.specs.declared.cmp.Ordering.TheVariants.{Less}
use Rattle.sgt_names.specs.Limits.{max_items, max_sites}
use Rattle.sgt_names.specs.Name.{Name}
use Rattle.sgt_names.specs.Log.{names}
use Rattle.sgt_bundle.specs.declared.certificate.Certificate.{Certificate}
use Rattle.sgt_bundle.specs.declared.certificate.Decision.{Decision}
use Rattle.sgt_bundle.specs.declared.certificate.Decision.TheVariants.{Commit, Refuse, Withdraw}
use Rattle.sgt_bundle.specs.declared.bundle.SiteLog.{SiteLog}

-- what contracts see of a bundle
pub record Parts : Type 0 where
  pub certificate : Certificate
  pub sites : List SiteLog

-- the first name comes before the second, by their bytes
abbrev pub ComesBefore : Name → Name → Type 0
ComesBefore x y = slice_cmp nat_cmp x y ≡ Less

-- a log has its items by rising name, and one final value for each item in the same order
pub record IsShapedLog (log : SiteLog) : Type 0 where
  pub room : length log.items ≤ max_items
  pub rising : AllPairs ComesBefore (names log.items)
  pub finals : names log.finals ≡ names log.items

-- there are as many logs as the certificate says, from 1 to the greatest number of sites, and each
-- has its shape
pub record IsShaped (count : ℕ) (sites : List SiteLog) : Type 0 where
  pub some : 1 ≤ count
  pub few : count ≤ max_sites
  pub each : length sites ≡ count
  pub logs : All IsShapedLog sites

-- the steps of a refusal's walk are at the sites that there are
abbrev pub HasStepsWithin : ℕ → Decision → Type 0
HasStepsWithin sites (Commit tx rank) = Unit {0}
HasStepsWithin sites (Refuse tx walk) = All (λ step. step.label.site < sites) walk
HasStepsWithin sites (Withdraw tx) = Unit {0}

-- the parts of a bundle fit together
pub record FitTogether (b : Parts) : Type 0 where
  pub shape : IsShaped b.certificate.sites b.sites
  pub steps : All (HasStepsWithin b.certificate.sites) b.certificate.decisions
