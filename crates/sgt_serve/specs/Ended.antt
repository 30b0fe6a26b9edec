-- How a talk ends: what came behind its lines and what is written for that, and its last bundle.
use Rattle.std.specs.Prelude.{◌≡◌, ◌≢◌, ◌⊎◌, ◌<◌, ℕ, ◌+◌, List, [], ◌∷◌, ◌++◌, length, map, take, codes, Option, None, Some, option_map, Result, Ok, Err}
use Rattle.std.specs.Io.KnownBytes.{IsAtEnd as NoneLeft}
use Rattle.std.specs.List.{range_with_len}
use Rattle.sgt_names.specs.Limits.{max_line}
use Rattle.sgt_names.specs.declared.outcome.Outcome.{Outcome}
use Rattle.sgt_names.specs.declared.outcome.Outcome.TheVariants as outcome
use Rattle.sgt_notation.specs.Events.{IsEventLine, IsSiteLine, event_text, site_text}
use Rattle.sgt_notation.specs.Lines.{IsLongerThan}
use Rattle.sgt_notation.specs.Reading.{SpellsNone}
use Rattle.sgt_notation.specs.declared.event.Event.{Event}
use Rattle.sgt_notation.specs.declared.event.Event.TheVariants.{Install, Withdraw}
use Rattle.sgt_notation.specs.declared.event.SiteLine.{SiteLine}
use Rattle.sgt_notation.specs.declared.fault.NotationFault.{NotationFault}
use Rattle.sgt_notation.specs.declared.fault.NotationFault.TheVariants.{NotALine, TooLong, Memory}
use Rattle.sgt_core_model.specs.Core.{CoreState, OpenStep, bundle_of}
use Rattle.sgt_core_model.specs.Step.{Run}
use Rattle.sgt_core_model.specs.declared.reply.Reply.{Reply}
use Rattle.sgt_input.specs.Unreadable.{unreadable_text}
use Rattle.sgt_pipe.specs.Fronts.{IsLineOf, IsPart}
use Rattle.sgt_serve.specs.declared.fail.ServeFail.{ServeFail}
use Rattle.sgt_serve.specs.declared.fail.ServeFail.TheVariants as fail
use Rattle.sgt_serve.specs.declared.last.Last.{Last}
use Rattle.sgt_serve.specs.declared.last.Last.TheVariants as last
use Rattle.sgt_pipe.specs.declared.handed.KeepFault.{KeepFault}
use Rattle.sgt_pipe.specs.declared.handed.KeepFault.TheVariants as keep
use Rattle.sgt_serve.specs.Place.{Kept, PlaceSaid}
use Rattle.sgt_courses.specs.Course.{Numbered, cut_line}
use Rattle.sgt_serve.specs.Talk.{IsTalk, Talk, asked_text, handed_texts, told_text}

-- ---- behind the lines

-- what is told of what stands behind the last line: nothing of nothing, and behind the first turn of a
-- part of one without its LF, whatever it holds, that it can't be read
abbrev pub IsRest : Talk → (rest tail : List ℕ) → Type 0
IsRest t rest tail = ((rest ≡ []) × (tail ≡ []))
    ⊎ ((rest ≢ []) × (t.turns ≢ []) × IsPart rest × (tail ≡ codes "! L1\n"))

-- so at the end of the input, where nothing is left
abbrev pub IsAtEnd : Talk → (left : Option (List ℕ)) → (rest tail : List ℕ) → Type 0
IsAtEnd t left rest tail = NoneLeft left × IsRest t rest tail

-- behind the first turn a line that is too long
abbrev pub IsAtTooLong : Talk → (rest tail : List ℕ) → Type 0
IsAtTooLong t rest tail = (t.turns ≢ []) × IsLongerThan max_line rest × (tail ≡ codes "! L2\n")

-- behind these sites the line is neither the next one's nor, where there is one, an event's or a cut
pub record IsMisplaced (sites : List SiteLine) (line : List ℕ) : Type 0 where
  pub site : (l : SiteLine) → IsSiteLine l → l.site ≡ length sites → line ≢ site_text l
  pub event : sites ≢ [] → SpellsNone IsEventLine event_text line
  pub cut : sites ≢ [] → line ≢ cut_line

-- why what comes in front of the first event or cut can't be read: a line that may not stand there;
-- at the end a part of one, or no site's line at all; or a line that is too long
abbrev pub IsUnreadable : List SiteLine → Option (List ℕ) → List ℕ → NotationFault → Type 0
IsUnreadable sites left rest NotALine =
    ((n : ℕ) × IsLineOf rest n × IsMisplaced sites (take n rest))
    ⊎ (NoneLeft left × IsPart rest × (rest ≡ [] → sites ≡ []))
IsUnreadable sites left rest TooLong = IsLongerThan max_line rest
IsUnreadable sites left rest Memory = ⊥

-- so, and it is told by the line's number
abbrev pub IsAtUnreadable : Talk → (left : Option (List ℕ)) → (rest tail : List ℕ) → Type 0
IsAtUnreadable t left rest tail = (t.turns ≡ []) × (fault : NotationFault)
    × IsUnreadable t.sites left rest fault
    × (tail ≡ unreadable_text (length t.sites + 1) fault)

-- ---- the last bundle

-- the open step's installs, at each of so many sites
abbrev pub installs_of : Option ℕ → ℕ → List Event
installs_of None count = []
installs_of (Some tx) count = map (Install tx) (range_with_len 0 count)

abbrev pub open_tx : CoreState → Option ℕ
open_tx c = option_map (λ (step : OpenStep). step.tx) c.step

-- what the core is asked at the end: the open step is installed at each site, and then each
-- transaction is withdrawn, by rising number; where that is refused, it changes nothing
abbrev pub closing_events : CoreState → List Event
closing_events c = installs_of (open_tx c) (length c.items)
    ++ map Withdraw (range_with_len 1 c.certifier.begun)

-- these are asked, and it comes to the new state
abbrev pub Closes : CoreState → CoreState → Type 0
Closes old new = (replies : List Reply) × Run old (closing_events old) replies new

-- at the end of a talk whose core is in this state these bundles are handed out: none where nothing
-- was begun since the last cut, and else that of the state that the closing comes to
abbrev pub EndsWith : CoreState → List Numbered → Type 0
EndsWith c last = ((c.certifier.begun ≡ 0) × (last ≡ []))
    ⊎ ((c.certifier.begun ≢ 0) × (d : CoreState) × Closes c d × (d.certifier.active ≡ []) × (number : ℕ)
    × (last ≡ record { number = number; bundle = bundle_of d } ∷ []))

-- how the last bundle fared, what the place answered, and how many growths were refused here: it is
-- kept, if there is one; or there was no memory for it, since one was refused, or the place told just
-- that; or the place refused it
abbrev pub EndsSo : Last → CoreState → List Numbered → List (Result ℕ KeepFault) → ℕ → Type 0
EndsSo last.Done c bundles said refused = EndsWith c bundles
    × (said ≡ map (λ (n : Numbered). Ok n.number) bundles) × (refused ≡ 0)
EndsSo last.Memory c bundles said refused = (c.certifier.begun ≢ 0) × (bundles ≡ [])
    × (((said ≡ []) × (refused ≡ 1)) ⊎ ((said ≡ Err keep.Memory ∷ []) × (refused ≡ 0)))
EndsSo last.Unwritten c bundles said refused = (c.certifier.begun ≢ 0) × (bundles ≡ [])
    × (said ≡ Err keep.Refused ∷ []) × (refused ≡ 0)

-- what may be written behind the answers
abbrev pub MayClose : Talk → (rest tail : List ℕ) → Type 0
MayClose t rest tail = (tail ≡ []) ⊎ (IsRest t rest tail ⊎ IsAtTooLong t rest tail)

abbrev pub MayBehind : Talk → (left : Option (List ℕ)) → (rest tail : List ℕ) → Type 0
MayBehind t left rest tail = MayClose t rest tail ⊎ IsAtUnreadable t left rest tail

-- all answers were written, and this behind them
abbrev pub WroteAll : Talk → (tail written : List ℕ) → Type 0
WroteAll t tail written = written ≡ told_text t ++ tail

-- less than this was written
abbrev pub WroteLess : (all written : List ℕ) → Type 0
WroteLess all written = (n : ℕ) × (n < length all) × (written ≡ take n all)

-- all answers were written up to the end, or to a line that is too long
abbrev pub SaysAll : Talk → (left : Option (List ℕ)) → (rest written : List ℕ) → Type 0
SaysAll t left rest written = (tail : List ℕ) × (IsAtEnd t left rest tail ⊎ IsAtTooLong t rest tail)
    × WroteAll t tail written

-- what a talk was answered that has this result, where its last bundle fared so
abbrev pub SaysSo : Result Outcome ServeFail → Last → Talk → (left : Option (List ℕ)) → (rest written : List ℕ) → Type 0
SaysSo (Ok outcome.Yes) fared t left rest written = (fared ≡ last.Done) × (t.sites ≢ [])
    × (tail : List ℕ) × IsAtEnd t left rest tail × WroteAll t tail written
SaysSo (Ok outcome.Unreadable) fared t left rest written = (fared ≡ last.Done)
    × (tail : List ℕ) × (IsAtTooLong t rest tail ⊎ IsAtUnreadable t left rest tail)
    × WroteAll t tail written
SaysSo (Ok outcome.No) fared t left rest written = ⊥
SaysSo (Err (fail.ReadFault l)) fared t left rest written = (l ≡ fared) × IsPart rest
    × WroteAll t [] written
SaysSo (Err (fail.WriteFault l)) fared t left rest written = (l ≡ fared) × (tail : List ℕ)
    × MayBehind t left rest tail × WroteLess (told_text t ++ tail) written
SaysSo (Err fail.BundleFault) fared t left rest written = (fared ≡ last.Unwritten)
    × SaysAll t left rest written
-- there was no memory for the last bundle, for an answer, or to begin with
SaysSo (Err fail.Memory) fared t left rest written =
    ((fared ≡ last.Memory) × SaysAll t left rest written)
    ⊎ (WroteLess (told_text t) written ⊎ ((t.turns ≡ []) × (written ≡ [])))

-- how many growths were refused beside the turns and the last bundle: one where want of memory is told,
-- and not of the last bundle
abbrev pub RefusedElse : Result Outcome ServeFail → Last → ℕ → Type 0
RefusedElse (Err fail.Memory) fared refused = ((fared ≡ last.Memory) × (refused ≡ 0)) ⊎ (refused ≡ 1)
RefusedElse _ fared refused = refused ≡ 0

-- ---- a whole talk

-- what was given, written and handed out, beside what was handed out before, where this is the result
-- and the reader tells that so much is left; and how many growths were refused, beside those before
pub record Served (result : Result Outcome ServeFail) (left : Option (List ℕ)) (given written : List ℕ)
    (before after : Kept) : Type 0 where
  pub talk : Talk
  pub is : IsTalk talk
  pub rest : List ℕ
  pub asked : given ≡ asked_text talk ++ rest
  pub fared : Last
  pub says : SaysSo result fared talk left rest written
  -- the bundles of the cuts, and the last one
  pub last : List Numbered
  pub handed : after.items ≡ before.items ++ handed_texts (talk.bundles ++ last)
  -- what the place answered over the talk, and at its end
  pub said : List (Result ℕ KeepFault)
  pub refused : ℕ
  pub cuts : PlaceSaid talk.turns said refused
  pub said_last : List (Result ℕ KeepFault)
  pub answers : after.answers ≡ before.answers ++ (said ++ said_last)
  pub refused_last : ℕ
  pub ends : EndsSo fared talk.last last said_last refused_last
  -- want of memory is told where a growth was refused, each time anew, and nowhere else
  pub refused_else : ℕ
  pub lacks : RefusedElse result fared refused_else
  pub refusals : after.refused ≡ before.refused + (refused + (refused_last + refused_else))
