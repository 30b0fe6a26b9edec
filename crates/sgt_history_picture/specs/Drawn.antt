-- What is drawn of a cycle.
use Rattle.std.specs.Prelude.{◌≡◌, ◌≢◌, ⊤, ℕ, zero, suc, ◌-◌, Bool, true, false, List, [], ◌∷◌, ◌++◌, codes, length, take}
use Rattle.sgt_draw.specs.Picture.{IsPicture}
use Rattle.sgt_history_picture.specs.Graph.{graph_text}
use Rattle.sgt_history_picture.specs.Label.{box_text, headline_text, more_text, name_text, title_text, words_text}
use Rattle.sgt_history_picture.specs.Told.{IsCycleTold, Step}

-- no title begins in the text
abbrev pub HasNoTitle : List ℕ → Type 0
HasNoTitle text = (front behind : List ℕ) → text ≢ front ++ (codes "<title>" ++ behind)

-- these steps, one behind the other, each with a box under the name of its first transaction, an arrow under its
-- line, and words; and no title but theirs
abbrev pub AreDrawn : List ℕ → List Step → Type 0
AreDrawn text [] = HasNoTitle text
AreDrawn text (s ∷ steps) = (front : List ℕ) × (frame : List ℕ) × (link : List ℕ) × (arrow : List ℕ) × (behind : List ℕ)
    × (text ≡ front ++ (name_text s.from ++ (frame ++ (box_text s.from ++ (link ++ (title_text s ++ (arrow
    ++ (words_text s ++ behind))))))))
    × HasNoTitle front × HasNoTitle frame × HasNoTitle link × HasNoTitle arrow × AreDrawn behind steps

-- the headline stands there
abbrev pub IsHeaded : (name text : List ℕ) → Type 0
IsHeaded name text = (front : List ℕ) × (behind : List ℕ) × (text ≡ front ++ (headline_text name ++ behind))

-- so many steps of a cycle are drawn at most
abbrev pub most_steps : ℕ
most_steps = 200

-- where steps are left out, how many stands there
abbrev pub IsMoreTold : ℕ → List ℕ → Type 0
IsMoreTold zero text = ⊤
IsMoreTold (suc n) text = (front : List ℕ) × (behind : List ℕ) × (text ≡ front ++ (more_text (suc n) ++ behind))

-- a picture of these steps under this headline: each of the first 200 is drawn once, in this order, and no other; and
-- how many more there are is told
pub record IsCyclePicture (headline : List ℕ) (steps : List Step) (text : List ℕ) : Type 0 where
  pub picture : IsPicture text
  pub headed : IsHeaded headline text
  pub drawn : AreDrawn text (take most_steps steps)
  pub more : IsMoreTold (length steps - most_steps) text

-- a picture of the cycle that the answer tells, under its name
pub record IsPictureOf (answer text : List ℕ) : Type 0 where
  pub name : List ℕ
  pub steps : List Step
  pub told : IsCycleTold answer name steps
  pub shown : IsCyclePicture name steps text

-- the steps of a refusal with this name: as Graphviz text their graph, else a picture under `no` and the name
abbrev pub IsRefusalDrawn : Bool → (name : List ℕ) → List Step → (text : List ℕ) → Type 0
IsRefusalDrawn true name steps text = text ≡ graph_text steps
IsRefusalDrawn false name steps text = IsCyclePicture (codes "no " ++ name) steps text

-- the cycle that the answer tells, drawn as that of a refusal
abbrev pub IsRefusalPicture : Bool → (answer text : List ℕ) → Type 0
IsRefusalPicture is_dot answer text = (name : List ℕ) × (steps : List Step) × IsCycleTold answer name steps
    × IsRefusalDrawn is_dot name steps text
