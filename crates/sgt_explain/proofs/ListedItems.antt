-- The item of a final is listed in its section.
use Rattle.std.proofs.Common.{◌≡◌, ℕ, List, [], ◌∷◌, ◌++◌, Some, sym, ap, ◌∙◌, subst, append_assoc, take, Contains}
use Rattle.std.specs.Prelude.{slice_get, option_map}
use Rattle.std.proofs.lemmas.Option.{none-some, slice_get-map}
use Rattle.sgt_names.proofs.Places.{All_at, Contains-from_at}
use Rattle.sgt_names.specs.Log.{names}
use Rattle.sgt_names.specs.declared.entry.Holding.{Holding}
use Rattle.sgt_notation.specs.declared.SectionLine.{SectionLine}
use Rattle.sgt_notation.specs.declared.SectionLine.TheVariants.{Logged, Final}
use Rattle.sgt_bundle.specs.Parts.{IsShapedLog}
use Rattle.sgt_bundle.specs.Text.{Begins}
use Rattle.sgt_bundle.specs.declared.bundle.SiteLog.{SiteLog}
use Rattle.sgt_audit.specs.Faults.{items_in}
use Rattle.sgt_audit.proofs.SectionLines.{items_in-is}
use Rattle.sgt_audit.proofs.LinePlaces.{EachPlace, in_sections}

abbrev IsListed : List SectionLine → SectionLine → Type 0
IsListed before (Final h) = Contains (names (items_in before)) h.item
IsListed before _ = Unit {0}

listed-each : (front : List SectionLine) (k : ℕ) (log : SiteLog) → IsShapedLog log → EachPlace IsListed front k log
listed-each front k log shaped = record {
  site = tt;
  initial = λ n h at. tt;
  logged = λ n e at. tt;
  final = λ n h at.
      let name : slice_get (names log.finals) n ≡ Some h.item = slice_get-map (λ (g : Holding). g.item) log.finals n
      ∙ ap (option_map (λ (g : Holding). g.item)) at in
      subst (λ (ns : List (List ℕ)). Contains ns h.item) (shaped.finals
      ∙ ap names (sym (items_in-is front k log.items log.entries (take n log.finals))))
      (Contains-from_at (names log.finals) n h.item name);
  end = tt;
}

pub final-listed : (count : ℕ) (before : List SectionLine) (h : Holding) → Begins count (before ++ Final h ∷ [])
    → Contains (names (items_in before)) h.item
final-listed count before h begun =
    in_sections IsListed 0 begun.0 [] (λ e last. absurd (none-some (Logged e) last))
    (λ s j log ls at j-is closed. listed-each ls j log (All_at IsShapedLog begun.0 s log begun.2.logs at))
    before begun.1 (Final h) (begun.3 ∙ append_assoc before (Final h ∷ []) begun.1)
