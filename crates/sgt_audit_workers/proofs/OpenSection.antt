-- A section that is judged as it is read.
use Rattle.std.proofs.Common.{◌≡◌, ℕ, ◌+◌, ◌-◌, ◌*◌, ◌<◌, ◌≤◌, Bool, List, ◌++◌, length, map, drop, Option, Some, None, IfSome, sym, ap, ◌∙◌, subst, arith, append_assoc, inl, inr, ◌⊎◌}
use Rattle.std.specs.Prelude.{Result, Ok}
use Rattle.std.specs.Io.KnownBytes.{Consumes, IsAtEnd}
use Rattle.std.proofs.KnownBytes.{Consumes-trans}
use Rattle.std.proofs.Math.Nat.{mul-le-mul_right}
use Rattle.std.proofs.Math.Seq.{drop-append_seam}
use Rattle.std.proofs.lemmas.List.{append-nil, append_cancel_left, length-append}
use Rattle.sgt_names.specs.Limits.{max_line}
use Rattle.sgt_names.specs.declared.outcome.EngineFail.{EngineFail}
use Rattle.sgt_notation.specs.Lines.{IsLongerThan}
use Rattle.sgt_notation.specs.Spelling.{line_text, text_of_lines}
use Rattle.sgt_bundle.specs.declared.certificate.Certificate.{Certificate}
use Rattle.sgt_audit.specs.declared.alone.Alone.{Alone}
use Rattle.sgt_audit.specs.declared.faults.Fault.{Fault}
use Rattle.sgt_audit.specs.declared.faults.Fault.TheVariants as fault
use Rattle.sgt_audit.specs.declared.verdict.Verdict.{Verdict}
use Rattle.sgt_audit.specs.declared.verdict.Verdict.TheVariants.{No}
use Rattle.sgt_audit_sections.specs.Judged.{IsUnderway, IsUnderwayAt}
use Rattle.sgt_audit_sections.specs.Sections.{OwnFault, front_text}
use Rattle.sgt_audit_sections.proofs.OneSection.{longer-front, unspelled}
use Rattle.sgt_audit_sections.proofs.SectionFaults.{behind-kept, own-reach}
use Rattle.sgt_audit_workers.specs.Cut.{longest}
use Rattle.sgt_audit_workers.specs.Reads.{Reader}
use Rattle.sgt_audit_workers.specs.declared.cutting.Stop.{Stop}
use Rattle.sgt_audit_workers.specs.declared.cutting.Stop.TheVariants as stop
use Rattle.sgt_audit_workers.specs.declared.head.Head.{Head}
use Rattle.sgt_audit_workers.specs.declared.sections.State.{State}
use Rattle.sgt_audit_workers.specs.declared.sections.State.TheVariants.{Going}
use Rattle.sgt_audit_workers.specs.declared.sections.Text.{Text}
use Rattle.sgt_audit_workers.specs.declared.tally.Tally.{Tally}
use Rattle.sgt_audit_workers.specs.private.Tallied.{IsAnswer, IsFound, IsTallied, second_size}
use Rattle.sgt_audit_workers.specs.private.Texts.{IsAsked, IsLeft, IsLeftBehind, IsOpened, IsReadOn, IsStateBehind, spare}
use Rattle.sgt_audit_workers.proofs.Left.{left-asked, spare-few}
use Rattle.sgt_audit_workers.proofs.OneMore.{behind-of}
use Rattle.sgt_audit_workers.proofs.Taken.{answer-of, second-within}

-- the last bytes
pub last-bytes : (piece front rest : List ℕ) (many : ℕ) → piece ≡ front ++ rest → many ≡ length rest
    → drop (length piece - many) piece ≡ rest
last-bytes piece front rest many same count =
    let size : length piece - many ≡ length front = omega (arith, ap length same, length-append front rest, count) in
    ap (λ n. drop n piece) size ∙ ap (drop (length front)) same ∙ drop-append_seam front rest

-- more was read behind what was judged
pub opened-more : (first : Reader) (from : Option (List ℕ)) (read before after : List ℕ)
    (old stop : Result Stop EngineFail) (text text' : Text) (was now : Reader) (piece : List ℕ) (bytes : List ℕ)
    → (o : IsOpened first from read bytes old text was) → IsReadOn first o.left before after stop text' now
    → after ≡ before ++ piece
    → IsOpened first from (read ++ piece) after stop text' now
opened-more first from read before after old stop text text' was now piece bytes o on same = record {
  left = on.left;
  came = Consumes-trans from o.left on.left read piece o.came
      (subst (λ (p : List ℕ). Consumes o.left on.left p) (append_cancel_left before on.piece piece (sym on.bytes
      ∙ same)) on.read);
  rest = on.rest;
  short = on.short;
  behind = on.behind;
}

-- ---- a fault of an open section

module _ (h : Head) (told old new : Option (List ℕ)) (t : Tally) (is : IsTallied h told old t)
    (few : t.whole < h.certificate.sites) (read bytes : List ℕ) (line : ℕ) (a : Alone) (k : ℕ) (at : k ≡ t.whole)
    (under : IsUnderway h.second h.certificate k read bytes line a) where
  abbrev front : List ℕ
  front = front_text h.second h.certificate is.logs

  abbrev here : IsUnderway h.second h.certificate (length is.logs) read bytes line a
  here = subst (λ j. IsUnderway h.second h.certificate j read bytes line a) (at ∙ is.tally.whole) under

  known : (n : ℕ) (f : Fault) (all ys : List ℕ) → all ≡ front ++ (read ++ ys)
      → OwnFault h.second h.certificate (length is.logs) (read ++ ys) n f → line ≤ n
      → IsFound (second_size h) (Some all) (Some ys) (length bytes) (No (t.lines + n) f)
  known n f all ys same own later =
      let logs = is.logs in
      let fewer : length logs < h.certificate.sites = omega (arith, few, is.tally.whole) in
      let verdict = behind-of h.second h.certificate logs t is.tally read fewer ys n f own in
      let text = text_of_lines (map line_text here.own) in
      let size : length read ≡ length text + length bytes =
      omega (arith, ap length here.text, length-append text bytes) in
      let split = ap (λ (r : List ℕ). r ++ ys) here.text ∙ append_assoc text bytes ys in
      let behind = behind-kept h.second h.certificate (length logs) here.own (read ++ ys) (bytes ++ ys) n f here.kept
      split (omega (arith, here.number, later)) own in
      let found : IsFound (second_size h) (Some (front ++ (read ++ ys))) (Some ys) (length bytes)
      (No (t.lines + n) f) = (
        verdict.0,
        λ m g any.
            let far =
            own-reach h.second h.certificate logs (read ++ ys) n m f g is.tally.certificate is.tally.faultless
            fewer own any in
            let least = second-within h.second h.certificate logs in (
              omega (arith, far, least),
              omega (arith, far, behind, size, length-append front (read ++ ys), length-append read ys),
            ),
      ) in
      subst (λ (b : List ℕ). IsFound (second_size h) (Some b) (Some ys) (length bytes) (No (t.lines + n) f))
      (sym same) found

  pub open-found : (n : ℕ) (f : Fault) → Consumes old new read
      → IfSome new (λ ys. OwnFault h.second h.certificate k (read ++ ys) n f) → line ≤ n
      → IsFound (second_size h) told new (length bytes) (No (t.lines + n) f)
  open-found n f came own later = by-told told old new is.front came own
    where
      by-told : (told old new : Option (List ℕ)) → Consumes told old front → Consumes old new read
          → IfSome new (λ ys. OwnFault h.second h.certificate k (read ++ ys) n f)
          → IsFound (second_size h) told new (length bytes) (No (t.lines + n) f)
      by-told None old new first came own = tt
      by-told (Some all) None new first came own = absurd first
      by-told (Some all) (Some xs) None first came own = absurd came
      by-told (Some all) (Some xs) (Some ys) first came own =
          known n f all ys (first ∙ ap (λ (r : List ℕ). front ++ r) came)
          (subst (λ j. OwnFault h.second h.certificate j (read ++ ys) n f) (at ∙ is.tally.whole) own) later

-- the verdict, by how often the reader was asked
pub open-answer : (second : ℕ) (first now : Reader) (text : Text) (left : Option (List ℕ)) (many : ℕ) (v : Verdict)
    → IsFound second first.told left many v → many ≤ longest text.most → IsAsked first text now
    → IsLeft first text now left → IsAnswer second first now (2 * longest text.most) v
open-answer second first now text left many v found short asked is =
    let few = mul-le-mul_right (longest text.most) (spare-few text.state) in
    answer-of second many (spare text.state * longest text.most) (2 * longest text.most) first now left v found
    (left-asked first now text left asked is) (omega (arith, short, few))

-- ---- the fault, by where reading stopped

pub own-ends : (second : Bool) (c : Certificate) (k : ℕ) (read : List ℕ) (n : ℕ) (f : Fault) (left : Option (List ℕ))
    → OwnFault second c k read n f → IsAtEnd left → IfSome left (λ ys. OwnFault second c k (read ++ ys) n f)
own-ends second c k read n f None own ends = tt
own-ends second c k read n f (Some ys) own ends =
    subst (λ (t : List ℕ). OwnFault second c k t n f) (sym (append-nil read)
    ∙ ap (λ (y : List ℕ). read ++ y) (sym ends)) own

pub own-long : (second : Bool) (c : Certificate) (k : ℕ) (few : k < c.sites) (read piece : List ℕ) (a : Alone)
    (line many : ℕ) (left : Option (List ℕ)) → IsUnderwayAt second c k read piece a line many
    → IfSome left (IsLongerThan max_line) → IfSome left (λ ys. OwnFault second c k (read ++ ys) line fault.Notation)
own-long second c k few read piece a line many None under long = tt
own-long second c k few read piece a line many (Some ys) under long =
    unspelled second c k few read under.rest line a under.underway ys (longer-front under.rest ys under.one long)

pub own-more : (second : Bool) (c : Certificate) (k : ℕ) (read : List ℕ) (n : ℕ) (f : Fault) (left : Option (List ℕ))
    → ((more : List ℕ) → OwnFault second c k (read ++ more) n f)
    → IfSome left (λ ys. OwnFault second c k (read ++ ys) n f)
own-more second c k read n f None own = tt
own-more second c k read n f (Some ys) own = own ys

-- a fault of what is open
pub open-fault : (h : Head) (first now : Reader) (from : Option (List ℕ)) (t : Tally) (text : Text)
    (read bytes : List ℕ) (s : Result Stop EngineFail) (line : ℕ) (a : Alone) (k n : ℕ) (f : Fault)
    → (o : IsOpened first from read bytes s text now) → IsTallied h first.told from t → t.whole < h.certificate.sites
    → k ≡ t.whole
    → IsUnderway h.second h.certificate k read bytes line a
    → IfSome o.left (λ ys. OwnFault h.second h.certificate k (read ++ ys) n f) → line ≤ n → IsAsked first text now
    → IsAnswer (second_size h) first now (2 * longest text.most) (No (t.lines + n) f)
open-fault h first now from t text read bytes s line a k n f o is few at under own later asked =
    open-answer (second_size h) first now text o.left (length bytes) (No (t.lines + n) f)
    (open-found h first.told from o.left t is few read bytes line a k at under n f o.came own later)
    (omega (arith, o.short)) asked o.rest

-- by where reading stopped, before or in its next line
pub own-stops : (second : Bool) (c : Certificate) (k : ℕ) (few : k < c.sites) (read piece : List ℕ) (a : Alone)
    (line many : ℕ) (s : Result Stop EngineFail) (left : Option (List ℕ)) (f : Fault)
    → IsUnderwayAt second c k read piece a line many → OwnFault second c k read line fault.Truncated
    → IsLeftBehind s left
    → ((s ≡ Ok stop.Long) × (f ≡ fault.Notation)) ⊎ ((s ≡ Ok stop.Text) × (f ≡ fault.Truncated))
    → IfSome left (λ ys. OwnFault second c k (read ++ ys) line f)
own-stops second c k few read piece a line many s left f under own behind (inl stops) =
    subst (λ g. IfSome left (λ ys. OwnFault second c k (read ++ ys) line g)) (sym stops.1)
    (own-long second c k few read piece a line many left under (subst (λ t. IsLeftBehind t left) stops.0 behind))
own-stops second c k few read piece a line many s left f under own behind (inr stops) =
    subst (λ g. IfSome left (λ ys. OwnFault second c k (read ++ ys) line g)) (sym stops.1)
    (own-ends second c k read line fault.Truncated left own (subst (λ t. IsLeftBehind t left) stops.0 behind))

-- more of it is to be read
pub goes-behind : (s : Result Stop EngineFail) (state : State) → IsStateBehind s state
    → (s ≡ Ok stop.Section) ⊎ (s ≡ Ok stop.Room) → state ≡ Going
goes-behind s state is (inl same) = subst (λ t. IsStateBehind t state) same is
goes-behind s state is (inr same) = subst (λ t. IsStateBehind t state) same is
