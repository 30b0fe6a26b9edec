-- The first fault of a history, by all that covers its faults.
use Rattle.std.proofs.Common.{◌≡◌, ◌≢◌, ℕ, zero, suc, ◌+◌, ◌<◌, ◌≤◌, List, Option, Some, None, length, refl, sym, ap, ◌∙◌, subst, arith, inl, inr, ◌⊎◌}
use Rattle.std.specs.Prelude.{slice_get}
use Rattle.std.specs.List.Sorted.{IsPermutation}
use Rattle.std.proofs.lemmas.List.Sorted.{All-permutation, Contains-permutation}
use Rattle.sgt_history.specs.declared.history.Kind.TheVariants.{Read, Write}
use Rattle.sgt_history.specs.declared.history.Operation.{Operation}
use Rattle.sgt_history.specs.declared.named.Flaw.{Flaw}
use Rattle.sgt_history.specs.declared.named.Flaw.TheVariants.{Internal, Duplicate, AbortedRead, Unwritten, IntermediateRead, Value}
use Rattle.sgt_history.specs.Transaction.{Transaction}
use Rattle.sgt_history.specs.Conflicts.{IsOperation}
use Rattle.sgt_history.specs.Flaws.{HasFlaw, IsFaulty, IsFaultless, IsFirstFault, rank_of}
use Rattle.sgt_history_faults.specs.declared.fault.Fault.{Fault}
use Rattle.sgt_history_faults.specs.declared.touch.Touch.{Touch}
use Rattle.sgt_history_faults.specs.Mine.{ContradictsOwn}
use Rattle.sgt_history_faults.specs.Noted.{Covers, IsReal}
use Rattle.sgt_history_faults.specs.Touch.{IsTouch, AreTouches}
use Rattle.sgt_history_faults.specs.Group.{AreAllCovered}
use Rattle.sgt_history_faults.specs.Judged.{CoversValues, IsReadyFor}
use Rattle.sgt_history_faults.proofs.Whole.{flaw-covered, future-covered}

pub touches-permuted : (h : List (Transaction ℕ ℕ)) (old new : List Touch) → IsPermutation old new → AreTouches h old
    → AreTouches h new
touches-permuted h old new p are = record {
  each = All-permutation (IsTouch h) old new p are.each;
  all = λ line place t o in_line there to.
      let f = are.all line place t o in_line there to in
      record {
        e = f.e;
        in_it = Contains-permutation old new f.e p f.in_it;
        line_is = f.line_is;
        place_is =
            f.place_is;
      };
}

module _ (h : List (Transaction ℕ ℕ)) (touches : List Touch) (are : AreTouches h touches) (first : Option Fault)
    (covered : AreAllCovered touches first)
    (values : CoversValues h first)
    (own : (line place : ℕ) (t : Transaction ℕ ℕ) (o : Operation ℕ ℕ) → IsOperation h line place t o
    → ContradictsOwn t.operations place o → Covers first line 0 place) where
  pub each-covered : (line place : ℕ) (t : Transaction ℕ ℕ) (o : Operation ℕ ℕ) → IsOperation h line place t o
      → (flaw : Flaw) → HasFlaw h line place t o flaw
      → Covers first line (rank_of flaw) place
  each-covered line place t o is Internal (inl other) = own line place t o is (record {
    version = other.version;
    own = other.own;
    read = λ read. other.other;
    write = λ write. let f = sym other.read ∙ write in cc;
  })
  each-covered line place t o is Internal (inr (inl again)) = own line place t o is (record {
    version = again.version;
    own = again.own;
    read = λ read. let f = sym again.write ∙ read in cc;
    write = λ write. again.most;
  })
  each-covered line place t o is Internal (inr (inr future)) =
      future-covered h touches are first covered line place t o is future.read future.foreign future.later future.by
      future.there future.writes
      future.version_is
  each-covered line place t o is Duplicate has =
      flaw-covered h touches are first covered line place t o is Duplicate (λ e. cc) (λ e. cc) has
  each-covered line place t o is AbortedRead has =
      flaw-covered h touches are first covered line place t o is AbortedRead (λ e. cc) (λ e. cc) has
  each-covered line place t o is Unwritten has =
      flaw-covered h touches are first covered line place t o is Unwritten (λ e. cc) (λ e. cc) has
  each-covered line place t o is IntermediateRead has =
      flaw-covered h touches are first covered line place t o is IntermediateRead (λ e. cc) (λ e. cc) has
  each-covered line place t o is Value has = values line place t o is has

pub all-covered : (h : List (Transaction ℕ ℕ)) (touches : List Touch) → AreTouches h touches
    → (before first : Option Fault) → AreAllCovered touches first
    → ((line rank place : ℕ) → Covers before line rank place → Covers first line rank place) → CoversValues h before
    → ((line place : ℕ) (t : Transaction ℕ ℕ) (o : Operation ℕ ℕ) → IsOperation h line place t o
    → ContradictsOwn t.operations place o → Covers before line 0 place)
    → (line : ℕ) (flaw : Flaw) (place : ℕ) → IsFaulty h line flaw place → Covers first line (rank_of flaw) place
all-covered h touches are before first covered kept values own line flaw place f =
    each-covered h touches are first covered (λ l p t o is v. kept l 5 p (values l p t o is v))
    (λ l p t o is c. kept l 0 p (own l p t o is c))
    line place f.t f.o f.is flaw f.has
