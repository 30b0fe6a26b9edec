-- What the two ends of a pipe did over several calls.
use Rattle.std.specs.Prelude.{◌≡◌, ◌⊎◌, ◌<◌, ℕ, List, ◌++◌, Option}
use Rattle.std.specs.Io.KnownBytes.{Appends, Consumes}
use Rattle.sgt_names.specs.Device.{AppendsOrForgets}
use Rattle.sgt_notation.specs.Lines.{Leaves}

-- the reader gave some bytes, and didn't fail
pub record Hears (told told' : Option (List ℕ)) (given given' : List ℕ) (failures failures' : ℕ) : Type 0 where
  pub bytes : List ℕ
  pub gave : given' ≡ given ++ bytes
  pub took : Consumes told told' bytes
  pub quiet : failures' ≡ failures

-- it gave some bytes, and then it failed, or no read was left
pub record LosesReader (told told' : Option (List ℕ)) (given given' : List ℕ) (failures failures' reads : ℕ) : Type 0
  where
    pub bytes : List ℕ
    pub gave : given' ≡ given ++ bytes
    pub left : Leaves told bytes told'
    pub fault : (failures < failures') ⊎ (reads ≡ 0)

-- the writer took some bytes, and didn't fail
pub record Speaks (told told' : Option (List ℕ)) (written written' : List ℕ) (failures failures' : ℕ) : Type 0 where
  pub bytes : List ℕ
  pub wrote : written' ≡ written ++ bytes
  pub put : Appends told told' bytes
  pub quiet : failures' ≡ failures

-- it took some bytes, and then it failed
pub record LosesWriter (told told' : Option (List ℕ)) (written written' : List ℕ) (failures failures' : ℕ) : Type 0
  where
    pub bytes : List ℕ
    pub wrote : written' ≡ written ++ bytes
    pub put : AppendsOrForgets told told' bytes
    pub fault : failures < failures'
