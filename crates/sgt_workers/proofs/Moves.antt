-- Each step keeps the rule of the queue.
use Rattle.std.proofs.Common.{◌≡◌, ◌≢◌, ℕ, zero, suc, ◌+◌, ◌<◌, ◌≤◌, Bool, true, false, true≢false, List, [], ◌∷◌, ◌++◌, set, sym, refl, ap, ◌∙◌, subst, ⊎_elim, inl, inr, arith}
use Rattle.std.specs.Prelude.{◌⊎◌, ◌||◌, ⊤}
use Rattle.std.specs.List.{sum_by, range_with_len}
use Rattle.std.proofs.lemmas.List.Sums.{sum_by-append, sum_by_push}
use Rattle.std.proofs.lemmas.List.Elements.{All-append, All-push}
use Rattle.atomic_table.proofs.Lists.{at_set, at_snoc}
use mathlib.Core.Option.{some, some-ne-none}
use lib.ListN.{get_elem?}
use Rattle.crossbeam_channel.specs.Fifo.{Pushes, Pops, Forks, Merges, Learns}
use Rattle.sgt_workers.specs.declared.queue.Task.{Task}
use Rattle.sgt_workers.specs.declared.queue.Task.TheVariants.{Run, Stop}
use Rattle.sgt_workers.specs.declared.queue.Hold.{Hold}
use Rattle.sgt_workers.specs.Queue.{sender_of, newcomer, lender, spent_hold, with_job, with_stop, took, at_stop, joined, AreAll, AreOut, AreStops, Follows, Knows, Accounts, Kept, Takes}
use Rattle.sgt_workers.proofs.Weights.{sum_set, sum_has, sum_only, weigh_more}
use Rattle.sgt_names.proofs.Elements.{false-unless_true, or_cases, or_right}

follows_low : (low top stops : ℕ) (ts : List Task) → Follows low top stops ts → low ≤ top
follows_low low top stops [] f = omega (arith, f)
follows_low low top stops (Run n ∷ ts) f = omega (arith, f.0, follows_low n top stops ts f.1)
follows_low low top stops (Stop ∷ ts) f = omega (arith, f.1)

follows_job : (low top : ℕ) (ts : List Task) → Follows low top 0 ts → Follows low (top + 1) 0 (ts ++ Run (top + 1) ∷ [])
follows_job low top [] f = (omega (arith, f), refl)
follows_job low top (Run m ∷ ts) f = (f.0, follows_job m top ts f.1)
follows_job low top (Stop ∷ ts) f = absurd (omega (arith, f.0))

stops_snoc : (ts : List Task) → AreStops ts → AreStops (ts ++ Stop ∷ [])
stops_snoc [] a = tt
stops_snoc (Run n ∷ ts) a = absurd a
stops_snoc (Stop ∷ ts) a = stops_snoc ts a

follows_stop : (low top stops : ℕ) (ts : List Task) → Follows low top stops ts
    → Follows low top (stops + 1) (ts ++ Stop ∷ [])
follows_stop low top stops [] f = (omega arith, f, tt)
follows_stop low top stops (Run m ∷ ts) f = (f.0, follows_stop m top stops ts f.1)
follows_stop low top stops (Stop ∷ ts) f = (omega arith, f.1, stops_snoc ts f.2)

follows_after : (low top stops : ℕ) (ts : List Task) → 0 < stops → low ≡ top → AreStops ts → Follows low top stops ts
follows_after low top stops [] some_stop is a = is
follows_after low top stops (Run n ∷ ts) some_stop is a = absurd a
follows_after low top stops (Stop ∷ ts) some_stop is a = (some_stop, is, a)

only_one : (w u : Hold) (j : ℕ) → get_elem? (w ∷ []) j ≡ some u → (j ≡ 0) × (w ≡ u)
only_one w u zero e = (refl, cc)
only_one w u (suc j) e = absurd (some-ne-none u (sym e))

all_set : (F : ℕ → Hold → Type 0) (views : List Hold) (by : ℕ) (w : Hold) → F by w
    → ((j : ℕ) (u : Hold) → j ≢ by → get_elem? views j ≡ some u → F j u) → (j : ℕ) (u : Hold)
    → get_elem? (set views by w) j ≡ some u → F j u
all_set F views by w mine others j u e =
    ⊎_elim (λ (x : (j ≡ by) × (w ≡ u)). subst (λ (y : ℕ × Hold). F y.0 y.1) (λ i. (sym x.0 i, x.1 i)) mine)
    (λ (x : (j ≢ by) × (get_elem? views j ≡ some u)). others j u x.0 x.1) (at_set views by j w u e)

-- the pass changes to one that has taken the same
same_weight : (low : ℕ) (views : List Hold) (by : ℕ) (v w : Hold) → get_elem? views by ≡ some v → w.taken ≡ v.taken
    → Accounts low views → Accounts low (set views by w)
same_weight low views by v w at same sums weight =
    omega (arith, sum_set (λ u. sum_by weight u.taken) views by v w at, ap (sum_by weight) same, sums weight)

-- the pass changes to one that is lent as much, and has lent as many
same_out : (views : List Hold) (by : ℕ) (v w : Hold) → get_elem? views by ≡ some v → w.lent ≡ v.lent → w.out ≡ v.out
    → AreOut views → AreOut (set views by w)
same_out views by v w at lent out is =
    omega (
      arith,
      sum_set (λ (u : Hold). u.lent) views by v w at,
      sum_set (λ (u : Hold). u.out) views by v w at,
      lent,
      out,
      is,
    )

pub lender_more : (v : Hold) (n m : ℕ) → m ≡ n + 1 → lender 1 (lender n v) ≡ lender m v
lender_more v n m e =
    let more : v.out + n + 1 ≡ v.out + m = omega (arith, e) in
    ap (λ (k : ℕ). record v { out = k }) more

pub begins : Kept [] (sender_of 0 0 ∷ [])
begins = record {
  by = 0;
  low = 0;
  top = 0;
  stops = 0;
  follows = refl;
  knows = λ pass v e.
      let o = only_one (sender_of 0 0) v pass e in
      subst (λ (y : Hold). Knows 0 0 0 0 pass y) o.1 (record {
        sends = λ _. (o.0, refl, refl, refl);
        filled = λ p. absurd (omega (arith, p));
        taken = λ k d h. absurd (omega (arith, h));
        stopped = λ p. absurd (true≢false (sym p));
        lends = λ p. absurd (true≢false p);
        idle = λ p _. absurd (true≢false p);
      });
  accounts = λ weight. refl;
  out = refl;
}

pub sends_job : (n by : ℕ) (v : Hold) (k : ℕ) → v.sends ≡ true → v.stops ≡ 0 → k ≡ v.sent + 1
    → Pushes Kept n by v (Run k) (λ w. w ≡ with_job v)
sends_job n by v k may going next items views room h at =
    let mine = h.knows by v at in
    let me = mine.sends may in
    let w : Hold = with_job v in
    let none : h.stops ≡ 0 = sym me.2 ∙ going in
    let number : h.top + 1 ≡ k = omega (arith, me.1, next) in
    let follows : Follows h.low h.top 0 items = subst (λ s. Follows h.low h.top s items) none h.follows in (
      w,
      record {
        by = h.by;
        low = h.low;
        top = h.top + 1;
        stops = 0;
        follows =
            subst (λ m. Follows h.low (h.top + 1) 0 (items ++ Run m ∷ [])) number
            (follows_job h.low h.top items follows);
        knows = all_set (Knows h.by h.low (h.top + 1) 0) views by w (record {
          sends = λ _. (me.0, omega (arith, me.1), going, me.3);
          filled = λ p. absurd (omega (arith, p, going));
          taken = mine.taken;
          stopped = λ p. absurd (omega (arith, (mine.stopped p).1, none));
          lends = mine.lends;
          idle = mine.idle;
        }) (λ j u other e.
            let its = h.knows j u e in
            record {
              sends = λ p. absurd (other ((its.sends p).0 ∙ sym me.0));
              filled = λ p. absurd (omega (arith, p, (its.filled p).1, none));
              taken = its.taken;
              stopped = λ p. absurd (omega (arith, (its.stopped p).1, none));
              lends = its.lends;
              idle = its.idle;
            });
        accounts = same_weight h.low views by v w at refl h.accounts;
        out = same_out views by v w at refl refl h.out;
      },
      refl,
    )

pub sends_stop : (n by : ℕ) (v : Hold) → v.sends ≡ true → Pushes Kept n by v Stop (λ w. w ≡ with_stop v)
sends_stop n by v may items views room h at =
    let mine = h.knows by v at in
    let me = mine.sends may in
    let w : Hold = with_stop v in (
      w,
      record {
        by = h.by;
        low = h.low;
        top = h.top;
        stops = h.stops + 1;
        follows = follows_stop h.low h.top h.stops items h.follows;
        knows = all_set (Knows h.by h.low h.top (h.stops + 1)) views by w (record {
          sends = λ _. (me.0, me.1, omega (arith, me.2), me.3);
          filled = λ p. (me.1, omega (arith, me.2));
          taken = mine.taken;
          stopped = λ p. ((mine.stopped p).0, omega arith);
          lends = mine.lends;
          idle = mine.idle;
        }) (λ j u other e.
            let its = h.knows j u e in
            record {
              sends = λ p. absurd (other ((its.sends p).0 ∙ sym me.0));
              filled = λ p. ((its.filled p).0, omega (arith, (its.filled p).1));
              taken = its.taken;
              stopped = λ p. ((its.stopped p).0, omega arith);
              lends = its.lends;
              idle = its.idle;
            });
        accounts = same_weight h.low views by v w at refl h.accounts;
        out = same_out views by v w at refl refl h.out;
      },
      refl,
    )

pub takes : (by : ℕ) (v : Hold) → v.lent ≡ 1 → Pops Kept by v (Takes v)
takes by v lent (Run n) items views h at =
    let mine = h.knows by v at in
    let w : Hold = took n v in
    let next : n ≡ h.low + 1 = h.follows.0 in
    let low = follows_low n h.top h.stops items h.follows.1 in (
      w,
      record {
        by = h.by;
        low = n;
        top = h.top;
        stops = h.stops;
        follows = h.follows.1;
        knows = all_set (Knows h.by n h.top h.stops) views by w (record {
          sends = mine.sends;
          filled = mine.filled;
          taken = All-push (λ m. m ≤ n) v.taken n (λ k d l. omega (arith, mine.taken k d l, next)) (omega arith);
          stopped = λ p. absurd (omega (arith, (mine.stopped p).0, next, low));
          lends = mine.lends;
          idle = λ p l. absurd (omega (arith, l, lent));
        }) (λ j u other e.
            let its = h.knows j u e in
            record {
              sends = its.sends;
              filled = its.filled;
              taken = λ k d l. omega (arith, its.taken k d l, next);
              stopped = λ p. absurd (omega (arith, (its.stopped p).0, next, low));
              lends = its.lends;
              idle = its.idle;
            });
        accounts = λ weight. omega (
          arith,
          sum_set (λ (u : Hold). sum_by weight u.taken) views by v w at,
          sum_by_push weight v.taken n,
          h.accounts weight,
          weigh_more weight h.low n next,
        );
        out = same_out views by v w at refl refl h.out;
      },
      (
        omega (arith, next),
        (λ k d l. omega (arith, mine.taken k d l, next)),
        (λ p. omega (arith, (mine.filled p).0, low)),
        refl,
      ),
    )
takes by v lent Stop items views h at =
    let mine = h.knows by v at in
    let w : Hold = at_stop v in (
      w,
      record {
        by = h.by;
        low = h.low;
        top = h.top;
        stops = h.stops;
        follows = follows_after h.low h.top h.stops items h.follows.0 h.follows.1 h.follows.2;
        knows = all_set (Knows h.by h.low h.top h.stops) views by w (record {
          sends = mine.sends;
          filled = mine.filled;
          taken = mine.taken;
          stopped = λ _. (h.follows.1, h.follows.0);
          lends = mine.lends;
          idle = mine.idle;
        }) (λ j u other e. h.knows j u e);
        accounts = same_weight h.low views by v w at refl h.accounts;
        out = same_out views by v w at refl refl h.out;
      },
      refl,
    )

pub forks : (by : ℕ) (v : Hold) → v.sends ≡ true → Forks Kept by v (lender 1 v) (newcomer v)
forks by v may items views h at =
    let l : Hold = lender 1 v in
    let r : Hold = newcomer v in
    let mine = h.knows by v at in
    let F = Knows h.by h.low h.top h.stops in
    let with_it : F by l = record {
      sends = mine.sends;
      filled = mine.filled;
      taken = mine.taken;
      stopped = mine.stopped;
      lends = λ p. absurd (true≢false (sym may ∙ p));
      idle = mine.idle;
    } in
    record {
      by = h.by;
      low = h.low;
      top = h.top;
      stops = h.stops;
      follows = h.follows;
      knows = λ j u e. ⊎_elim (λ x. all_set F views by l with_it (λ j u other e. h.knows j u e) j u x)
          (λ (is : r ≡ u). subst (λ (y : Hold). F j y) is (record {
            sends = λ p. absurd (true≢false (sym p));
            filled = mine.filled;
            taken = λ k d l. absurd (omega (arith, l));
            stopped = λ p. absurd (true≢false (sym p));
            lends = λ _. refl;
            idle = λ _ _. refl;
          })) (at_snoc (set views by l) r u j e);
      accounts = λ weight. omega (
        arith,
        sum_by_push (λ (u : Hold). sum_by weight u.taken) (set views by l) r,
        same_weight h.low views by v l at refl h.accounts weight,
      );
      out = omega (
        arith,
        sum_by_push (λ (u : Hold). u.lent) (set views by l) r,
        sum_by_push (λ (u : Hold). u.out) (set views by l) r,
        sum_set (λ (u : Hold). u.lent) views by v l at,
        sum_set (λ (u : Hold). u.out) views by v l at,
        h.out,
      );
    }

pub joins : (by : ℕ) (v : Hold) (other : ℕ) (w : Hold) → v.sends ≡ true → w.lent ≤ v.out
    → Merges Kept by v other w (joined v w) spent_hold
joins by v other w may lent items views h at apart there =
    let both : Hold = joined v w in
    let theirs : get_elem? views other ≡ some w =
    ⊎_elim (λ x. absurd (apart x.0)) (λ x. x.1) (at_set views by other both w there) in
    let mine = h.knows by v at in
    let its = h.knows other w theirs in
    let away : w.sends ≡ false = false-unless_true w.sends (λ p. apart ((its.sends p).0 ∙ sym (mine.sends may).0)) in
    let none : w.out ≡ 0 = its.lends away in
    let F = Knows h.by h.low h.top h.stops in
    record {
      by = h.by;
      low = h.low;
      top = h.top;
      stops = h.stops;
      follows = h.follows;
      knows = all_set F (set views by both) other spent_hold (record {
        sends = λ p. absurd (true≢false (sym p));
        filled = λ p. absurd (omega (arith, p));
        taken = λ k d l. absurd (omega (arith, l));
        stopped = λ p. absurd (true≢false (sym p));
        lends = λ _. refl;
        idle = λ _ _. refl;
      }) (λ j u _ e. all_set F views by both (record {
        sends = mine.sends;
        filled = mine.filled;
        taken = All-append (λ n. n ≤ h.low) v.taken w.taken mine.taken its.taken;
        stopped = λ p. ⊎_elim (λ (q : v.stopped ≡ true). mine.stopped q) (λ (q : w.stopped ≡ true). its.stopped q)
            (or_cases v.stopped w.stopped p);
        lends = λ p. absurd (true≢false (sym may ∙ p));
        idle = λ p _. absurd (true≢false (sym may ∙ p));
      }) (λ i t _ f. h.knows i t f) j u e);
      accounts =
          λ weight. omega (
            arith,
            sum_set (λ (u : Hold). sum_by weight u.taken) (set views by both) other w spent_hold
                there,
            sum_set (λ (u : Hold). sum_by weight u.taken) views by v both at,
            sum_by-append weight v.taken w.taken,
            h.accounts weight,
          );
      out = omega (
        arith,
        sum_set (λ (u : Hold). u.lent) (set views by both) other w spent_hold there,
        sum_set (λ (u : Hold). u.lent) views by v both at,
        sum_set (λ (u : Hold). u.out) (set views by both) other w spent_hold there,
        sum_set (λ (u : Hold). u.out) views by v both at,
        none,
        lent,
        h.out,
      );
    }

pub learns : (by : ℕ) (v : Hold) → Learns Kept by v (λ items. ⊤)
learns by v items views h at = tt

-- with none out, and a stop taken, no other pass has taken a job, and all were taken
pub learns_all : (by : ℕ) (v : Hold) → v.sends ≡ true → v.out ≡ 0 → v.stopped ≡ true
    → Learns Kept by v (λ items. AreAll v.sent v.taken)
learns_all by v may none stopped items views h at weight =
    let mine = h.knows by v at in
    let me = mine.sends may in
    let away : (j : ℕ) (u : Hold) → j ≢ by → get_elem? views j ≡ some u → u.sends ≡ false =
    λ j u other e. false-unless_true u.sends (λ p. other (((h.knows j u e).sends p).0 ∙ sym me.0)) in
    let outs : sum_by (λ (u : Hold). u.out) views ≡ v.out =
    sum_only (λ (u : Hold). u.out) views by v at (λ j u other e. (h.knows j u e).lends (away j u other e)) in
    let lents : sum_by (λ (u : Hold). u.lent) views ≡ 0 = omega (arith, h.out, outs, none) in
    let idle : (j : ℕ) (u : Hold) → j ≢ by → get_elem? views j ≡ some u → sum_by weight u.taken ≡ 0 = λ j u other e.
    let has = sum_has (λ (u : Hold). u.lent) views j u e in
    ap (sum_by weight) ((h.knows j u e).idle (away j u other e) (omega (arith, has, lents))) in
    let all : sum_by (λ (u : Hold). sum_by weight u.taken) views ≡ sum_by weight v.taken =
    sum_only (λ (u : Hold). sum_by weight u.taken) views by v at idle in
    let low : h.low ≡ v.sent = omega (arith, (mine.stopped stopped).0, me.1) in
    sym all ∙ h.accounts weight ∙ ap (λ n. sum_by weight (range_with_len 1 n)) low
