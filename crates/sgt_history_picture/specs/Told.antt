-- An answer that tells a cycle, a line a step.
use Rattle.std.specs.Prelude.{◌≡◌, ℕ, List, [], ◌∷◌, ◌++◌, codes}
use Rattle.sgt_notation.specs.Spelling.{HasNoLf}
use Rattle.sgt_history_picture.specs.Words.{IsWord}
use Rattle.sgt_history_picture.specs.declared.told.Kind.{Kind}
use Rattle.sgt_history_picture.specs.declared.told.Kind.TheVariants.{WriteWrite, WriteRead, ReadWrite, Session, Moment, End}
use Rattle.sgt_history_picture.specs.declared.told.Told.{Told}

-- a step: the names of two transactions, why the first stands before the second, and what shows it
pub record Step : Type 0 where
  pub from : List ℕ
  pub kind : Kind
  pub to : List ℕ
  pub about : List ℕ

abbrev pub step_of : Told → Step
step_of t = record { from = t.from.now; kind = t.kind; to = t.to.now; about = t.about.now }

abbrev pub kind_text : Kind → List ℕ
kind_text WriteWrite = codes "ww"
kind_text WriteRead = codes "wr"
kind_text ReadWrite = codes "rw"
kind_text Session = codes "po"
kind_text Moment = codes "rt"
kind_text End = codes "before"

abbrev pub IsStep : Step → Type 0
IsStep s = IsWord s.from × IsWord s.to

-- a step's line, without its LF
abbrev pub step_text : Step → List ℕ
step_text s = s.from ++ 32 ∷ (kind_text s.kind ++ 32 ∷ (s.to ++ 32 ∷ s.about))

-- a line for each of these steps, and no more
abbrev pub AreTold : List ℕ → List Step → Type 0
AreTold text [] = text ≡ []
AreTold text (s ∷ steps) = (rest : List ℕ) × IsStep s × HasNoLf (step_text s)
    × (text ≡ step_text s ++ 10 ∷ rest) × AreTold rest steps

-- the steps lead from a transaction to another one
abbrev pub Lead : (from : List ℕ) → List Step → (to : List ℕ) → Type 0
Lead from [] to = from ≡ to
Lead from (s ∷ steps) to = (s.from ≡ from) × Lead s.to steps to

-- there is a step, and the last one leads back to where the first one begins
abbrev pub IsCircle : List Step → Type 0
IsCircle [] = ⊥
IsCircle (s ∷ steps) = Lead s.to steps s.from

-- the answer says no, with a name, and tells the steps of a cycle
pub record IsCycleTold (answer name : List ℕ) (steps : List Step) : Type 0 where
  pub rest : List ℕ
  pub named : HasNoLf name
  pub is : answer ≡ codes "no " ++ (name ++ 10 ∷ rest)
  pub told : AreTold rest steps
  pub circle : IsCircle steps
