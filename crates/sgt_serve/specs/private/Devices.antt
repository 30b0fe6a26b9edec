-- What the devices did, by where a talk stopped.
use Rattle.std.specs.Prelude.{ℕ, List, Option, None, Some}
use Rattle.sgt_pipe.specs.Ends.{Hears, LosesReader, LosesWriter, Speaks}
use Rattle.sgt_serve.specs.declared.stop.Stop.{Stop}
use Rattle.sgt_serve.specs.declared.stop.Stop.TheVariants.{ReadFault, WriteFault}

abbrev pub HearsSo : Stop → (told told' : Option (List ℕ)) → (given given' : List ℕ) → (failures failures' reads : ℕ)
    → Type 0
HearsSo ReadFault told told' given given' failures failures' reads =
    LosesReader told told' given given' failures failures' reads
HearsSo _ told told' given given' failures failures' reads =
    Hears told told' given given' failures failures'

abbrev pub HearsOr : Option Stop → (told told' : Option (List ℕ)) → (given given' : List ℕ)
    → (failures failures' reads : ℕ) → Type 0
HearsOr None told told' given given' failures failures' reads =
    Hears told told' given given' failures failures'
HearsOr (Some stop) told told' given given' failures failures' reads =
    HearsSo stop told told' given given' failures failures' reads

abbrev pub SpeaksSo : Stop → (told told' : Option (List ℕ)) → (written written' : List ℕ) → (failures failures' : ℕ)
    → Type 0
SpeaksSo WriteFault told told' written written' failures failures' =
    LosesWriter told told' written written' failures failures'
SpeaksSo _ told told' written written' failures failures' =
    Speaks told told' written written' failures failures'

abbrev pub SpeaksOr : Option Stop → (told told' : Option (List ℕ)) → (written written' : List ℕ)
    → (failures failures' : ℕ) → Type 0
SpeaksOr None told told' written written' failures failures' =
    Speaks told told' written written' failures failures'
SpeaksOr (Some stop) told told' written written' failures failures' =
    SpeaksSo stop told told' written written' failures failures'
