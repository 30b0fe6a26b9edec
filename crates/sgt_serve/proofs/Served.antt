-- A whole talk, by where it stopped and how its last bundle fared.
use Rattle.std.proofs.Common.{◌≡◌, ◌≢◌, ◌⊎◌, ◌+◌, ℕ, List, [], ◌++◌, length, take, refl, sym, ◌∙◌, ap, subst, inl, inr, arith, append_assoc, Option, Result, Ok, Err}
use Rattle.std.specs.Io.KnownBytes.{IsAtEnd as NoneLeft}
use Rattle.std.proofs.lemmas.List.{append-nil}
use Rattle.sgt_names.specs.declared.outcome.Outcome.{Outcome}
use Rattle.sgt_names.specs.declared.outcome.Outcome.TheVariants as outcome
use Rattle.sgt_notation.specs.declared.event.SiteLine.{SiteLine}
use Rattle.sgt_notation.specs.declared.fault.NotationFault.{NotationFault}
use Rattle.sgt_input.specs.Unreadable.{unreadable_text}
use Rattle.sgt_core_model.specs.Core.{CoreState}
use Rattle.sgt_core_machine.specs.Machine.{Parts, StandsFor}
use Rattle.sgt_pipe.specs.Fronts.{IsPart}
use Rattle.sgt_pipe.specs.declared.handed.KeepFault.{KeepFault}
use Rattle.sgt_pipe.specs.declared.history.History.{History}
use Rattle.sgt_serve.specs.declared.fail.ServeFail.{ServeFail}
use Rattle.sgt_serve.specs.declared.fail.ServeFail.TheVariants as fail
use Rattle.sgt_serve.specs.declared.last.Last.{Last}
use Rattle.sgt_serve.specs.declared.last.Last.TheVariants as last
use Rattle.sgt_serve.specs.declared.stop.Stop.{Stop}
use Rattle.sgt_serve.specs.declared.stop.Stop.TheVariants as stop
use Rattle.sgt_serve.specs.Devices.{LeavesReader, LeavesWriter}
use Rattle.sgt_serve.specs.Ended.{IsUnreadable, RefusedElse, SaysAll, SaysSo, Served}
use Rattle.sgt_serve.specs.Place.{Kept}
use Rattle.sgt_serve.specs.Talk.{AreAnswered, Talk, handed_texts}
use Rattle.sgt_serve.specs.private.Closing.{ClosesSo}
use Rattle.sgt_serve.specs.private.Devices.{HearsSo, SpeaksSo}
use Rattle.sgt_serve.specs.private.Opening.{HasSites, OpensSo, refused_by, refused_in}
use Rattle.sgt_serve.specs.private.Serving.{TellsFront, ends_by}
use Rattle.sgt_serve.specs.private.Talking.{Desk, HasOpened, HasStopped, SaysStop, desk, refused_at}
use Rattle.sgt_serve.proofs.Openings.{is_opened, opened, opened_given}
use Rattle.sgt_serve.proofs.Talks.{handed_more}
use Rattle.sgt_serve.proofs.Ways.{deaf_as, silent_as}

-- all was said, up to where it stopped
all_ended : (t : Talk) (left : Option (List ℕ)) (rest written : List ℕ) → NoneLeft left
    → SaysStop stop.Ended t rest written → SaysAll t left rest written
all_ended t left rest written none (tail, at, wrote) = (tail, inl (none, at), wrote)

all_long : (t : Talk) (left : Option (List ℕ)) (rest written : List ℕ) → SaysStop stop.TooLong t rest written
    → SaysAll t left rest written
all_long t left rest written (tail, at, wrote) = (tail, inr at, wrote)

says_by : (s : Stop) (l : Last) (t : Talk) (left : Option (List ℕ)) (rest written : List ℕ) → t.sites ≢ []
    → (s ≡ stop.Ended → NoneLeft left) → SaysStop s t rest written
    → SaysSo (ends_by s l) l t left rest written
says_by stop.Ended last.Done t left rest written some none (tail, at, wrote) =
    (refl, some, tail, (none refl, at), wrote)
says_by stop.Ended last.Memory t left rest written some none says =
    inl (refl, all_ended t left rest written (none refl) says)
says_by stop.Ended last.Unwritten t left rest written some none says =
    (refl, all_ended t left rest written (none refl) says)
says_by stop.TooLong last.Done t left rest written some none (tail, at, wrote) = (refl, tail, inl at, wrote)
says_by stop.TooLong last.Memory t left rest written some none says = inl (refl, all_long t left rest written says)
says_by stop.TooLong last.Unwritten t left rest written some none says = (refl, all_long t left rest written says)
says_by stop.ReadFault l t left rest written some none (part, wrote) = (refl, part, wrote)
says_by stop.WriteFault l t left rest written some none (tail, may, less) = (refl, tail, inl may, less)
says_by stop.Memory l t left rest written some none less = inr (inl less)

refused_there : (s : Stop) (l : Last) (n : ℕ) → n ≡ refused_at s → RefusedElse (ends_by s l) l n
refused_there stop.Ended last.Done n is = is
refused_there stop.Ended last.Memory n is = inl (refl, is)
refused_there stop.Ended last.Unwritten n is = is
refused_there stop.TooLong last.Done n is = is
refused_there stop.TooLong last.Memory n is = inl (refl, is)
refused_there stop.TooLong last.Unwritten n is = is
refused_there stop.ReadFault l n is = is
refused_there stop.WriteFault l n is = is
refused_there stop.Memory l n is = inr is

-- those of the last bundle beside the others
counted_last : (before now after n e k : ℕ) → now ≡ before + (n + e) → after ≡ now + k → after ≡ before + (n + (k + e))
counted_last before now after n e k was more = omega (arith, was, more)

pub is_served : (s : Stop) (l : Last) (result : Result Outcome ServeFail) (left : Option (List ℕ))
    (sites : List SiteLine) (before kept' : Kept) (d : Desk) → result ≡ ends_by s l
    → (s ≡ stop.Ended → NoneLeft left) → HasStopped s sites before d
    → ((c : CoreState) → StandsFor d.core c → ClosesSo l c d.kept kept')
    → Served result left d.given d.written before kept' × AreAnswered d.waits
is_served s l result left sites before kept' d same none h closes =
    let (bundles, said, k, ends, more, says, refused) = closes h.talk.last h.has.stands in (
      subst (λ (r : Result Outcome ServeFail). Served r left d.given d.written before kept') (sym same) (record {
        talk = h.talk;
        is = h.has.is;
        rest = h.rest;
        asked = h.asked;
        fared = l;
        says = says_by s l h.talk left h.rest d.written (λ empty. h.has.some (sym h.has.over ∙ empty)) none h.says;
        last = bundles;
        handed = more ∙ (ap (λ (ks : List (ℕ × List ℕ)). ks ++ handed_texts bundles) h.has.kept
            ∙ (append_assoc before.items (handed_texts h.talk.bundles) (handed_texts bundles)
            ∙ ap (λ (ks : List (ℕ × List ℕ)). before.items ++ ks) (sym (handed_more h.talk.bundles bundles))));
        said = h.has.said;
        refused = h.has.refused;
        cuts = h.has.cuts;
        said_last = said;
        refused_last = k;
        answers = says ∙ (ap (λ (xs : List (Result ℕ KeepFault)). xs ++ said) h.has.answers
            ∙ append_assoc before.answers h.has.said said);
        ends = ends;
        refused_else = h.has.refused_else;
        lacks = refused_there s l h.has.refused_else h.one_else;
        refusals = counted_last before.refused d.kept.refused kept'.refused h.has.refused h.has.refused_else k
            h.has.refusals refused;
      }),
      h.has.answered,
    )

-- ---- its devices

pub reader_by : (s : Stop) (l : Last) (result : Result Outcome ServeFail) (a b : Option (List ℕ)) (f g : List ℕ)
    (k m reads : ℕ) → result ≡ ends_by s l
    → HearsSo s a b f g k m reads → LeavesReader result a b f g k m reads
reader_by s l result a b f g k m reads same hears =
    subst (λ (r : Result Outcome ServeFail). LeavesReader r a b f g k m reads) (sym same) (by s l hears)
  where
    by : (s : Stop) (l : Last) → HearsSo s a b f g k m reads → LeavesReader (ends_by s l) a b f g k m reads
    by stop.Ended last.Done p = p
    by stop.Ended last.Memory p = p
    by stop.Ended last.Unwritten p = p
    by stop.TooLong last.Done p = p
    by stop.TooLong last.Memory p = p
    by stop.TooLong last.Unwritten p = p
    by stop.ReadFault l p = p
    by stop.WriteFault l p = p
    by stop.Memory l p = p

pub writer_by : (s : Stop) (l : Last) (result : Result Outcome ServeFail) (a b : Option (List ℕ)) (f g : List ℕ)
    (k m : ℕ) → result ≡ ends_by s l
    → SpeaksSo s a b f g k m → LeavesWriter result a b f g k m
writer_by s l result a b f g k m same speaks =
    subst (λ (r : Result Outcome ServeFail). LeavesWriter r a b f g k m) (sym same) (by s l speaks)
  where
    by : (s : Stop) (l : Last) → SpeaksSo s a b f g k m → LeavesWriter (ends_by s l) a b f g k m
    by stop.Ended last.Done p = p
    by stop.Ended last.Memory p = p
    by stop.Ended last.Unwritten p = p
    by stop.TooLong last.Done p = p
    by stop.TooLong last.Memory p = p
    by stop.TooLong last.Unwritten p = p
    by stop.ReadFault l p = p
    by stop.WriteFault l p = p
    by stop.Memory l p = p

pub yes_ended : (s : Stop) (l : Last) → ends_by s l ≡ Ok outcome.Yes → s ≡ stop.Ended
yes_ended stop.Ended l e = refl
yes_ended stop.TooLong last.Done e = absurd cc
yes_ended stop.TooLong last.Memory e = absurd cc
yes_ended stop.TooLong last.Unwritten e = absurd cc
yes_ended stop.ReadFault l e = absurd cc
yes_ended stop.WriteFault l e = absurd cc
yes_ended stop.Memory l e = absurd cc

-- ---- a talk that has its sites alone

-- the place was asked for nothing
abbrev IsUnasked : (kept kept' : Kept) → ℕ → Type 0
IsUnasked kept kept' n = (kept'.items ≡ kept.items) × (kept'.answers ≡ kept.answers)
    × (kept'.refused ≡ kept.refused + n)

no_turn : (k n m : ℕ) → n ≡ k + m → n ≡ k + (0 + (0 + m))
no_turn k n m is = omega (arith, is)

served_front : (result : Result Outcome ServeFail) (left : Option (List ℕ)) (sites : List SiteLine)
    (history : History) (held written : List ℕ) (kept kept' : Kept) (n : ℕ) → HasSites sites history held
    → RefusedElse result last.Done n → IsUnasked kept kept' n
    → SaysSo result last.Done (opened sites) left held written → Served result left history.given written kept kept'
served_front result left sites history held written kept kept' n h lacks (items, answers, refused) says = record {
  talk = opened sites;
  is = is_opened sites h.begun;
  rest = held;
  asked = opened_given sites history held h;
  fared = last.Done;
  says = says;
  last = [];
  handed = items ∙ sym (append-nil kept.items);
  said = [];
  refused = 0;
  cuts = (refl, refl);
  said_last = [];
  answers = answers ∙ sym (append-nil kept.answers);
  refused_last = 0;
  ends = (inl (refl, refl), refl, refl);
  refused_else = n;
  lacks = lacks;
  refusals = no_turn kept.refused kept'.refused n refused;
}

pub served_memory : (left : Option (List ℕ)) (sites : List SiteLine) (history : History) (held : List ℕ)
    (kept kept' : Kept) → HasSites sites history held → IsUnasked kept kept' 1
    → Served (Err fail.Memory) left history.given history.written kept kept'
served_memory left sites history held kept kept' h unasked =
    served_front (Err fail.Memory) left sites history held history.written kept kept' 1 h (inr refl) unasked
    (inr (inr (refl, h.written)))

pub served_ended : (left : Option (List ℕ)) (sites : List SiteLine) (history : History) (held : List ℕ)
    (kept kept' : Kept) → NoneLeft left → HasSites sites history held → sites ≢ [] → held ≡ []
    → IsUnasked kept kept' 0 → Served (Ok outcome.Yes) left history.given history.written kept kept'
served_ended left sites history held kept kept' end h some none unasked =
    served_front (Ok outcome.Yes) left sites history held history.written kept kept' 0 h refl unasked (
      refl,
      some,
      [],
      (end, inl (none, refl)),
      h.written,
    )

pub served_unread : (l : Last) (left : Option (List ℕ)) (sites : List SiteLine) (history : History) (held : List ℕ)
    (kept kept' : Kept) → l ≡ last.Done → HasSites sites history held
    → IsPart held → IsUnasked kept kept' 0
    → Served (Err (fail.ReadFault l)) left history.given history.written kept kept'
served_unread l left sites history held kept kept' done h part unasked =
    served_front (Err (fail.ReadFault l)) left sites history held history.written kept kept' 0 h refl unasked
    (done, part, h.written)

told_so : (result : Result Outcome ServeFail) (left : Option (List ℕ)) (sites : List SiteLine) (old new : History)
    (held : List ℕ) (fault : NotationFault) → HasSites sites old held
    → IsUnreadable sites left held fault → TellsFront result (length sites + 1) fault old new
    → SaysSo result last.Done (opened sites) left held new.written
told_so (Ok outcome.Yes) left sites old new held fault h not (tells, given, waits) = absurd tells
told_so (Ok outcome.No) left sites old new held fault h not (tells, given, waits) = absurd tells
told_so (Ok outcome.Unreadable) left sites old new held fault h not (wrote, given, waits) = (
  refl,
  unreadable_text (length sites + 1) fault,
  inr (refl, fault, not, refl),
  wrote ∙ ap (λ (ws : List ℕ). ws ++ unreadable_text (length sites + 1) fault) h.written,
)
told_so (Err (fail.WriteFault l)) left sites old new held fault h not ((done, n, lt, wrote), given, waits) = (
  done,
  unreadable_text (length sites + 1) fault,
  inr (refl, fault, not, refl),
  (n, lt, wrote ∙ ap (λ (ws : List ℕ). ws ++ take n (unreadable_text (length sites + 1) fault)) h.written),
)
told_so (Err fail.Memory) left sites old new held fault h not (same, given, waits) = inr (inr (refl, same ∙ h.written))
told_so (Err (fail.ReadFault l)) left sites old new held fault h not (tells, given, waits) = absurd tells
told_so (Err fail.BundleFault) left sites old new held fault h not (tells, given, waits) = absurd tells

told_lacks : (result : Result Outcome ServeFail) (number : ℕ) (fault : NotationFault) (old new : History)
    → TellsFront result number fault old new → RefusedElse result last.Done (refused_in result)
told_lacks (Ok o) number fault old new tells = refl
told_lacks (Err fail.Memory) number fault old new tells = inr refl
told_lacks (Err (fail.ReadFault l)) number fault old new tells = refl
told_lacks (Err (fail.WriteFault l)) number fault old new tells = refl
told_lacks (Err fail.BundleFault) number fault old new tells = refl

pub served_told : (result : Result Outcome ServeFail) (left : Option (List ℕ)) (sites : List SiteLine)
    (old new : History) (held : List ℕ) (fault : NotationFault) (kept kept' : Kept)
    → HasSites sites old held → IsUnreadable sites left held fault → TellsFront result (length sites + 1) fault old new
    → IsUnasked kept kept' (refused_in result)
    → Served result left new.given new.written kept kept' × AreAnswered new.waits
served_told result left sites old new held fault kept kept' h not tells unasked = (
  subst (λ (given : List ℕ). Served result left given new.written kept kept') (sym tells.1)
      (served_front result left sites old held new.written kept kept' (refused_in result) h
      (told_lacks result (length sites + 1) fault old new tells) unasked
      (told_so result left sites old new held fault h not tells)),
  subst AreAnswered (sym tells.2) h.answered,
)

-- the line is told, and the reader gave nothing
pub deaf_told : (result : Result Outcome ServeFail) (number : ℕ) (fault : NotationFault) (old new : History)
    (a b : Option (List ℕ)) (k m reads : ℕ)
    → TellsFront result number fault old new → b ≡ a → m ≡ k → LeavesReader result a b old.given new.given k m reads
deaf_told (Ok o) number fault old new a b k m reads (tells, given, waits) told count =
    deaf_as a b old.given new.given k m told given count
deaf_told (Err fail.Memory) number fault old new a b k m reads (tells, given, waits) told count =
    deaf_as a b old.given new.given k m told given count
deaf_told (Err (fail.ReadFault l)) number fault old new a b k m reads (tells, given, waits) told count = absurd tells
deaf_told (Err (fail.WriteFault l)) number fault old new a b k m reads (tells, given, waits) told count =
    deaf_as a b old.given new.given k m told given count
deaf_told (Err fail.BundleFault) number fault old new a b k m reads (tells, given, waits) told count = absurd tells

none_more : (k : ℕ) → k ≡ k + (0 + 0)
none_more k = omega arith

pub has_opened : (sites : List SiteLine) (kept : Kept) (core : Parts) (history : History) (gathered held : List ℕ)
    → HasSites sites history held → sites ≢ []
    → StandsFor core (opened sites).last → gathered ≡ [] → HasOpened sites kept (desk kept core history gathered held)
has_opened sites kept core history gathered held h some stands none = record {
  talk = opened sites;
  has = record {
    is = is_opened sites h.begun;
    over = refl;
    some = some;
    kept = sym (append-nil kept.items);
    said = [];
    refused = 0;
    cuts = (refl, refl);
    answers = sym (append-nil kept.answers);
    refused_else = 0;
    refusals = none_more kept.refused;
    stands = stands;
    answered = h.answered;
  };
  none = refl;
  none_else = refl;
  asked = opened_given sites history held h;
  told = sym (ap (λ (ws : List ℕ). ws ++ gathered) h.written ∙ none);
}

-- ---- a fault in front of the talk

pub served_err : (e : ServeFail) (left : Option (List ℕ)) (sites : List SiteLine) (history : History) (held : List ℕ)
    (kept kept' : Kept) → OpensSo (Err e) left sites history held
    → IsUnasked kept kept' (refused_by e)
    → Served (Err e) left history.given history.written kept kept' × AreAnswered history.waits
served_err (fail.ReadFault l) left sites history held kept kept' (done, h, part) unasked =
    (served_unread l left sites history held kept kept' done h part unasked, h.answered)
served_err fail.Memory left sites history held kept kept' (some, h) unasked =
    (served_memory left some history held kept kept' h unasked, h.answered)
served_err (fail.WriteFault l) left sites history held kept kept' opens unasked = absurd opens
served_err fail.BundleFault left sites history held kept kept' opens unasked = absurd opens
