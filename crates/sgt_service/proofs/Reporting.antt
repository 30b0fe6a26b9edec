-- What a run writes, put together.
use Rattle.std.proofs.Common.{◌≡◌, ℕ, ◌+◌, ◌≤◌, List, [], ◌∷◌, ◌++◌, length, map, ◌⊎◌, inl, inr, refl, sym, ◌∙◌, ap, subst, arith, append_assoc, All}
use Rattle.std.specs.Prelude.{Option, IfSome, codes}
use Rattle.std.proofs.lemmas.List.Elements.{All-head, All-tail}
use Rattle.std.proofs.lemmas.List.Sums.{sum_by-cons}
use Rattle.sgt_names.proofs.Lists.{All-from_map, All-weaken}
use Rattle.sgt_names.specs.declared.entry.Holding.{Holding}
use Rattle.sgt_names.specs.declared.outcome.Outcome.{Outcome}
use Rattle.sgt_names.specs.declared.outcome.Outcome.TheVariants as outcome
use Rattle.sgt_notation.specs.declared.event.SiteLine.{SiteLine}
use Rattle.sgt_notation.specs.declared.script.Script.{Script}
use Rattle.sgt_notation.specs.Events.{IsSiteLine}
use Rattle.sgt_site.specs.State.{AreItems}
use Rattle.sgt_site.specs.declared.fault.SiteFault.TheVariants as site
use Rattle.sgt_service_agreement.specs.declared.fault.ServiceFault.{ServiceFault}
use Rattle.sgt_service_agreement.specs.declared.fault.ServiceFault.TheVariants as fault
use Rattle.sgt_workers.specs.Answers.{AreShared, IsFault}
use Rattle.sgt_workers.specs.declared.ticket.Done.{Done}
use Rattle.sgt_workers.specs.declared.fault.PoolFail.{PoolFail}
use Rattle.sgt_workers.specs.declared.fault.PoolFail.TheVariants.{Work, Pool}
use Rattle.sgt_service_locks.specs.Refused.{IsOfCall, RefusesSites}
use Rattle.sgt_service_locks.specs.Seats.{IsNew}
use Rattle.sgt_service_locks.specs.Together.{parts_of, amount_of, counts_of}
use Rattle.sgt_service_locks.specs.declared.seat.Seat.{Seat}
use Rattle.sgt_service_settle.specs.Settled.{IsSettled, Run, tickets_of}
use Rattle.sgt_service_locks.specs.Guarded.{decision_count}
use Rattle.sgt_notation.specs.Spelling.{text_of_lines}
use Rattle.sgt_bundle.specs.Parts.{Parts}
use Rattle.sgt_bundle.specs.Text.{text_of}
use Rattle.sgt_audit.specs.Verdict.{IsVerdict, SaysHeadline}
use Rattle.sgt_audit.specs.Verdict as auditor
use Rattle.sgt_audit.specs.declared.verdict.Verdict.{Verdict}
use Rattle.sgt_service.specs.Bundle.{ArePutInOrder, IsBundleOf, IsRefused}
use Rattle.sgt_service.proofs.Ordering.{numbered_rise}
use Rattle.sgt_service.specs.Results.{done_text}
use Rattle.sgt_service.specs.Tallies.{AreCountsOf}
use Rattle.sgt_service.specs.Tries.{AreDonesOf, TriesJob}
use Rattle.sgt_service.proofs.Shares.{counts_tried}
use Rattle.sgt_service.specs.Input.{IsInput, Spells}
use Rattle.sgt_service.specs.Report.{EndsRun, IsAnswer, EndsUnsettled, IsOfRun, IsOutcome, IsRunAnswer, IsRunOf, IsTextOf, IsWant, site_items}
use Rattle.sgt_service.specs.declared.input.Input.{Input}

-- the lines of an input's sites have good items
pub items_good : (input : Input) → IsInput input → All AreItems (map (λ (l : SiteLine). l.items) input.sites)
items_good input is = All-from_map AreItems (λ (l : SiteLine). l.items) input.sites
    (All-weaken IsSiteLine (λ (l : SiteLine). AreItems l.items) input.sites
    (λ l line. record { room = line.room; rising = line.rising }) is.0.each)

-- the text of a run is its answer
pub run_answers : (input : Input) (tries : ℕ) (run : Run) (o : Outcome) (text : List ℕ) → IsSettled run
    → IsRunOf input.scripts (length input.sites) tries run
    → site_items run ≡ map (λ (l : SiteLine). l.items) input.sites → IsTextOf run o text
    → IsRunAnswer input tries o text
run_answers input tries run outcome.Yes text settled of began is = (run, settled, of, began, is)
run_answers input tries run outcome.No text settled of began is = inl (run, settled, of, began, is)
run_answers input tries run outcome.Unreadable text settled of began is = absurd is.ends

-- and so is what answers an input, of what spells it
pub read_answers : (input : Input) (tries : ℕ) (told : Option (List ℕ)) (o : Outcome) (text : List ℕ)
    → IfSome told (λ bytes. Spells bytes input)
    → IsRunAnswer input tries o text → IsAnswer tries told o text
read_answers input tries told outcome.Yes text spells is = (input, spells, is)
read_answers input tries told outcome.No text spells is = (input, spells, is)
read_answers input tries told outcome.Unreadable text spells is = absurd is

joined : (a b d e t0 t1 t2 t3 t4 : List ℕ) → t0 ≡ [] → t1 ≡ t0 ++ a → t2 ≡ t1 ++ b → t3 ≡ t2 ++ d → t4 ≡ t3 ++ e
    → t4 ≡ a ++ (b ++ (d ++ e))
joined a b d e t0 t1 t2 t3 t4 e0 e1 e2 e3 e4 =
    let t1' : t1 ≡ a = e1 ∙ ap (λ (t : List ℕ). t ++ a) e0 in
    let t3' : t3 ≡ (a ++ b) ++ d = e3 ∙ ap (λ (t : List ℕ). t ++ d) (e2 ∙ ap (λ (t : List ℕ). t ++ b) t1') in
    e4 ∙ ap (λ (t : List ℕ). t ++ e) t3' ∙ append_assoc (a ++ b) d e ∙ append_assoc a b (d ++ e)

-- the parts of a run's text
pub text_is : (run : Run) (whole : Parts) (v : Verdict) (o : Outcome) (dones : List Done)
    (bytes copy line t0 t1 t2 t3 t4 : List ℕ) → IsBundleOf run whole
    → bytes ≡ text_of whole → copy ≡ text_of whole → IsVerdict bytes v → SaysHeadline bytes v → dones ≡ run.dones
    → IsOutcome dones v o → line ≡ auditor.text_of v
    → t0 ≡ [] → t1 ≡ t0 ++ text_of_lines (map done_text dones) → t2 ≡ t1 ++ line → t3 ≡ t2 ++ codes "---\n" → t4 ≡ t3 ++ copy → IsTextOf run o t4
text_is run whole v o dones bytes copy line t0 t1 t2 t3 t4 bundled spelled copied judged says same ends told e0 e1 e2
    e3 e4 = record {
      whole = whole;
      bundled = bundled;
      verdict = v;
      judged = subst (λ (b : List ℕ). IsVerdict b v) spelled judged;
      headline = subst (λ (b : List ℕ). SaysHeadline b v) spelled says;
      ends = subst (λ (ds : List Done). IsOutcome ds v o) same ends;
      written = joined (text_of_lines (map done_text dones)) line (codes "---\n") copy t0 t1 t2 t3 t4 e0 e1 e2 e3 e4
          ∙ ap (λ (ds : List Done). text_of_lines (map done_text ds) ++ (line ++ (codes "---\n" ++ copy))) same
          ∙ ap (λ (l : List ℕ). text_of_lines (map done_text run.dones) ++ (l ++ (codes "---\n" ++ copy))) told
          ∙ ap (λ (b : List ℕ). text_of_lines (map done_text run.dones) ++ (auditor.text_of v ++ (codes "---\n" ++ b))) copied;
    }

-- an input has a site
pub some_site : (input : Input) → IsInput input → 1 ≤ length input.sites
some_site input is = some input.sites is.1
  where
    some : {A : Type 0} (xs : List A) → (xs ≡ [] → ⊥) → 1 ≤ length xs
    some [] not = absurd (not refl)
    some (x ∷ xs) not = omega arith

-- ---- new seats have the whole ledger, and no decision

module _ {L : Type 0} where
  pub new_parts : (places : ℕ) (seats : List (Seat L)) → All (IsNew places) seats → parts_of seats ≡ length seats
  new_parts places [] all = refl
  new_parts places (s ∷ seats) all =
      let first = All-head (IsNew places) s seats all in
      omega (
        arith,
        sum_by-cons (λ (t : Seat L). t.share.parts) s seats,
        first.0,
        new_parts places seats (All-tail (IsNew places) s seats all),
      )

  pub new_amount : (places : ℕ) (seats : List (Seat L)) → All (IsNew places) seats → amount_of seats ≡ 0
  new_amount places [] all = refl
  new_amount places (s ∷ seats) all =
      let first = All-head (IsNew places) s seats all in
      omega (
        arith,
        sum_by-cons (λ (t : Seat L). t.share.amount) s seats,
        first.1,
        new_amount places seats (All-tail (IsNew places) s seats all),
      )

  -- all seats are there: as many decisions as tickets
  pub all_decided : (places parts tickets decisions : ℕ) (old new : List (Seat L)) → All (IsNew places) old
      → length old ≡ parts → parts_of new ≡ parts_of old
      → amount_of new ≡ amount_of old + tickets → (parts_of new ≡ parts → decisions ≡ amount_of new)
      → decisions ≡ tickets
  all_decided places parts tickets decisions old new fresh many stay grown counted =
      let whole : parts_of new ≡ parts = omega (arith, stay, new_parts places old fresh, many) in
      omega (arith, counted whole, grown, new_amount places old fresh)

  -- what is left of a run on a new service with so many sites
  pub left_of : (scripts : List Script) (places tries parts named : ℕ) (old new : List (Seat L)) (dones : List Done)
      (run : Run) → All (IsNew places) old → length old ≡ parts
      → parts_of new ≡ parts_of old → amount_of new ≡ amount_of old + length (tickets_of dones)
      → AreDonesOf scripts tries dones → AreShared TriesJob scripts old dones new
      → named ≡ places → run.dones ≡ dones → length run.sites ≡ named → run.counts ≡ counts_of named new
      → (parts_of new ≡ parts → decision_count run.certifier ≡ amount_of new)
      → IsRunOf scripts places tries run
  left_of scripts places tries parts named old new dones run fresh many stay grown of shared there told sites counts
      decided = record {
        dones = subst (AreDonesOf scripts tries) (sym told) of;
        sites = sites ∙ there;
        decided = all_decided places parts (length (tickets_of dones)) (decision_count run.certifier) old new fresh many
            stay grown decided
            ∙ ap (λ (ds : List Done). length (tickets_of ds)) (sym told);
        counted = subst (λ (ds : List Done). AreCountsOf scripts places ds run.counts) (sym told)
            (counts_tried scripts places old new dones run.counts fresh shared (counts ∙ ap (λ n. counts_of n new) there));
      }

  -- a run that is refused ends unsettled
  ends_told : (scripts : List Script) (places tries parts named : ℕ) (old new : List (Seat L)) (dones : List Done)
      (f : ServiceFault) → All (IsNew places) old → length old ≡ parts
      → parts_of new ≡ parts_of old → amount_of new ≡ amount_of old + length (tickets_of dones)
      → AreDonesOf scripts tries dones → AreShared TriesJob scripts old dones new
      → named ≡ places → IsRefused named parts new dones f → EndsUnsettled scripts places tries f
  ends_told scripts places tries parts named old new dones f fresh many stay grown of shared there
      (inl (run, left, kept, is)) =
      inl (
        run,
        left_of scripts places tries parts named old new dones run fresh many stay grown of shared there
            left.told left.many left.counted left.decided,
        kept,
        is,
      )
  ends_told scripts places tries parts named old new dones f fresh many stay grown of shared there
      (inr (c, counted, replays, alone)) =
      let decided = all_decided places parts (length (tickets_of dones)) (decision_count c) old new fresh many stay
      grown counted in
      inr (c, dones, record { dones_of = of; decided = decided }, replays, alone)

  -- so does one whose Dones were put in order
  pub ends_unsettled : (scripts : List Script) (places tries parts named : ℕ) (old new : List (Seat L))
      (dones : List Done) (f : ServiceFault) → All (IsNew places) old → length old ≡ parts
      → parts_of new ≡ parts_of old → amount_of new ≡ amount_of old + length (tickets_of dones)
      → AreDonesOf scripts tries dones → AreShared TriesJob scripts old dones new
      → named ≡ places → (told : List Done) × ArePutInOrder dones told × IsRefused named parts new told f
      → EndsUnsettled scripts places tries f
  ends_unsettled scripts places tries parts named old new dones f fresh many stay grown of shared there r =
      ends_told scripts places tries parts named old new dones f fresh many stay grown of shared there
      (subst (λ (ds : List Done). IsRefused named parts new ds f)
      (r.1.kept (numbered_rise 1 dones (length scripts) of.jobs)) r.2)
