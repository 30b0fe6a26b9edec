-- Sections that are judged.
use Rattle.std.proofs.Common.{◌≡◌, ℕ, suc, ◌+◌, ◌*◌, ◌<◌, ◌≤◌, IfSome, List, [], ◌∷◌, ◌++◌, length, Option, Some, None, sym, ◌∙◌, ap, subst, arith, slice_index_or}
use Rattle.std.specs.Prelude.{Result, Ok, Err, IfOk, remove}
use Rattle.std.proofs.KnownBytes.{Consumes-nil, Consumes-trans}
use Rattle.std.proofs.Math.Nat.{suc-mul}
use Rattle.sgt_audit.specs.declared.alone.Alone.{Alone}
use Rattle.sgt_audit_workers.specs.Cut.{longest}
use Rattle.sgt_audit_workers.specs.declared.head.Head.{Head}
use Rattle.sgt_audit_workers.specs.declared.job.Job.{Job}
use Rattle.sgt_audit_workers.specs.declared.running.Running.{Running}
use Rattle.sgt_audit_workers.specs.declared.sections.Section.{Section}
use Rattle.sgt_audit_workers.specs.private.Jobs.{HasRun, IsGiven, IsIdle, MayJudge}
use Rattle.sgt_audit_workers.specs.private.Running.{AreRunning, Will}
use Rattle.sgt_audit_workers.specs.private.Texts.{IsNextSection}
use Rattle.sgt_audit_workers.proofs.Left.{Bytes, bytes-one}
use Rattle.sgt_names.proofs.Elements.{if_ok_both}

-- ---- who may judge the section of a site may judge those behind it
pub may-later : (h : Head) (k n : ℕ) (a : Alone) → k ≤ n → MayJudge h k a → MayJudge h n a
may-later h k n a le may = (
  record {
    sites = may.0.sites;
    state = record {
      many = may.0.state.many;
      before = omega (arith, may.0.state.before, le);
    };
  },
  may.1,
)

pub some-later : (h : Head) (k n : ℕ) (o : Option Alone) → k ≤ n → IfSome o (MayJudge h k) → IfSome o (MayJudge h n)
some-later h k n None le may = tt
some-later h k n (Some a) le may = may-later h k n a le may

pub idle-later : (h : Head) (k n : ℕ) (job : Job) → k ≤ n → IsIdle h k job → IsIdle h n job
idle-later h k n job le idle = some-later h k n job.alone le idle

-- ---- one more that is judged
pub running-more : (h : Head) (most : ℕ) (old mid new : Option (List ℕ)) (k n : ℕ) (running : List Running)
    (r : Running) (job : Job) → AreRunning h most old k running mid → k + length running ≡ n
    → IsGiven most mid n job new → Will h job r → AreRunning h most old k (running ++ r ∷ []) new
running-more h most old mid new k n [] r job none same is will = (
  job,
  new,
  record {
    site = omega (arith, is.site, same);
    section = record {
      bytes = Consumes-trans old mid new [] job.section.bytes.items none is.section.bytes;
      last =
          is.section.last;
      short = is.section.short;
    };
  },
  will,
  Consumes-nil new,
)
running-more h most old mid new k n (first ∷ running) r job are same is will = (
  are.0,
  are.1,
  are.2,
  are.3,
  running-more h most are.1 mid new (k + 1) n running r job are.4 (omega (arith, same))
      is will,
)

-- how many bytes they have
pub running-bytes : (h : Head) (most : ℕ) (old new : Option (List ℕ)) (k : ℕ) (running : List Running)
    → AreRunning h most old k running new → Bytes old new (length running * longest most)
running-bytes h most old new k [] none = ([], none, omega arith)
running-bytes h most old new k (r ∷ running) are =
    bytes-one old are.1 new are.0.section.bytes.items (longest most) (length running * longest most)
    (suc (length running) * longest most) are.2.section.bytes (omega (arith, are.2.section.short))
    (running-bytes h most are.1 new (k + 1) running are.4) (omega (arith, suc-mul (length running) (longest most)))

-- the job, when it is judged
pub given-run : (h : Head) (most : ℕ) (old new : Option (List ℕ)) (k : ℕ) (job done : Job) → HasRun h job done
    → IsGiven most old k job new → IsGiven most old k done new
given-run h most old new k job done ran given =
    record {
      site = ran.site ∙ given.site;
      section =
          subst (λ (s : Section). IsNextSection most old s new) (sym ran.section) given.section;
    }

-- ---- lists and results

pub if_ok_map : {X E : Type 0} (r : Result X E) (P Q : X → Type 0) → IfOk r P → ((x : X) → P x → Q x) → IfOk r Q
if_ok_map (Ok x) P Q p f = f x p
if_ok_map (Err e) P Q p f = tt

pub first-out : {A : Type 0} (xs : List A) (x : A) → 0 < length xs → x ≡ slice_index_or xs 0 x → xs ≡ x ∷ remove xs 0
first-out [] x some is = absurd (omega (arith, some))
first-out (y ∷ ys) x some is = ap (λ (z : _). z ∷ ys) (sym is)
