-- What is kept of lines, after one more.
use Rattle.std.proofs.Common.{◌≡◌, ℕ, Bool, List, ◌∷◌, ◌++◌, Some, None, refl, subst}
use Rattle.sgt_names.specs.declared.entry.Entry.{Entry}
use Rattle.sgt_notation.specs.Spelling.{line_text}
use Rattle.sgt_notation.specs.declared.SectionLine.{SectionLine}
use Rattle.sgt_notation.specs.declared.SectionLine.TheVariants.{Logged}
use Rattle.sgt_bundle.specs.Certificate.{IsDecidedOnce}
use Rattle.sgt_bundle.specs.Valid.{IsDecided}
use Rattle.sgt_bundle.specs.declared.certificate.Decision.{Decision}
use Rattle.sgt_audit.specs.declared.faults.Fault.{Fault}
use Rattle.sgt_audit.specs.declared.faults.Fault.TheVariants as fault
use Rattle.sgt_audit.specs.Faults.{Breaks, IsLineIn}
use Rattle.sgt_audit.specs.Kept.{IsPlace, Tracks}
use Rattle.sgt_audit.specs.Reading.{Begun, IsBegun, lines_read}
use Rattle.sgt_audit.specs.private.Following.{MayFollow, with_next}
use Rattle.sgt_audit.specs.private.Judging.{AdmitsLine}
use Rattle.sgt_certify_faults.specs.Faults.{AreAll, KeepsAlone}
use Rattle.sgt_certify_faults.specs.declared.reading.Reading.{Reading}
use Rattle.sgt_certify_faults.specs.private.Asked.{AreDecidedAsAsked}
use Rattle.sgt_certify_faults.specs.private.Judging.{TellsLineOdds, TellsOdds}
use Rattle.sgt_certify_faults.specs.private.Reading.{Follows, HasRead}
use Rattle.sgt_certify_faults.proofs.Broken.{follows-some, line-broken}
use Rattle.sgt_certify_faults.proofs.ReadLines.{admits, decided-more, line-tells, one-read}

module _ (second : Bool) (ds : List Decision) (bytes rest more : List ℕ) (count : ℕ) (old : Reading)
    (line : SectionLine) (are : AreDecidedAsAsked second bytes ds)
    (h : HasRead second ds bytes count old rest) (is : IsLineIn second line)
    (cut : rest ≡ line_text line ++ 10 ∷ more) where
  abbrev b : Begun
  b = h.sections

  pub tells : TellsLineOdds ds (lines_read b) line
  tells = line-tells second bytes ds count b rest more line are h.read h.decided is cut

  -- a line with a fault
  pub broken : (AreAll (lines_read b) → ⊥) → (new : Reading) (f : Fault) → Breaks (KeepsAlone (lines_read b) line) f
      → Follows second ds bytes count old new rest (line_text line) more (Some f)
  broken open_yet new f breaks = (b, h.read, line-broken second (lines_read b) line f is open_yet breaks)

  -- and one without
  module _ (keeps : (f : Fault) → KeepsAlone (lines_read b) line f) where
    follows : MayFollow b b.current line
    follows = follows-some b line h.read.sites (keeps fault.Section)

    decided : (e : Entry) → line ≡ Logged e → (number : ℕ) × IsDecided ds e number
    decided e same =
        let odds : TellsOdds ds (lines_read b) e = subst (TellsLineOdds ds (lines_read b)) same tells in
        odds.1 (subst (λ (l : SectionLine). KeepsAlone (lines_read b) l fault.End) same (keeps fault.End)).0

    pub entered : (new : Reading) → ((a : Begun) → IsBegun a → MayFollow a a.current line → IsPlace a old.place
        → IsPlace (with_next a a.current line) new.place)
        → ((a : Begun) → IsDecidedOnce ds → IsBegun a → MayFollow a a.current line → AdmitsLine ds a.current line
        → Tracks ds a old.state → Tracks ds (with_next a a.current line) new.state)
        → Follows second ds bytes count old new rest (line_text line) more None
    entered new place tracks = record {
      sections = with_next b b.current line;
      read = one-read second bytes count b rest more line h.read cut is keeps follows;
      place = place b h.read.begun follows h.place;
      open_site = tracks b are.once h.read.begun follows (admits ds b b.current line refl keeps decided) h.open_site;
      decided = decided-more ds b line follows h.decided decided;
    }
