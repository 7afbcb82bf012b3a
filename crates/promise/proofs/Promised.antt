-- The first two parts of the main promise, from the rules of acceptance.
use Rattle.std.proofs.Common.{◌≡◌, ℕ, ◌-◌, ◌*◌, ◌<◌, ◌≤◌, true, sym, inl, inr, le_trans, le_of_eq, arith}
use Rattle.chart.specs.Arena.{Arena, size, Ranged}
use Rattle.game.specs.Reading.{degree_of}
use Rattle.game.specs.Held.{Held}
use Rattle.game.specs.Waiting.{may_be_laid}
use Rattle.game.specs.Claims.{SafePlan, SafeCounter}
use Rattle.game.specs.Bounds.{GreatestWait, greatest_cost}
use Rattle.walks.proofs.Attractors.{find}
use Rattle.theory.proofs.Sailing.{sails}
use Rattle.theory.proofs.Waits.{passed_marked, few_showings}
use Rattle.theory.proofs.Bounds.{worst_low}
use Rattle.theory.proofs.Deciding.{counterplay_beats, decides}
use Rattle.helm.proofs.Standing.{records_the_voyage}
use Rattle.promise.specs.Tables.{Tables, plan_of, counter_of, Marked}
use Rattle.promise.specs.Rules.{dead_end, too_large, wrong_plan_entry, wrong_counter_entry, leaves_marks, odd_loop, costly_loop, wrong_bound, no_counter_move, even_loop, Accepted}
use Rattle.promise.specs.Promise.{PlanHolds, AcceptedPlansHold, AcceptedCounterplaysBeat, ClaimAccepted}
use Rattle.promise.proofs.Accepting.{dec_marked, plan_safe, bound_is, may_lay, moves_everywhere, counter_safe}

-- what each half of an accepted claim comes to
pub record Sound (a : Arena) (t : Tables) (bound : ℕ) : Type 0 where
  pub plan : SafePlan a (Marked a t) (plan_of t)
  pub greatest : GreatestWait a (Marked a t) (plan_of t) bound
  pub laid : may_be_laid a ≡ true
  pub moves : (v : ℕ) → v < size a → 0 < degree_of a v
  pub counter : SafeCounter a (Marked a t) (counter_of t)

pub sound : (a : Arena) → Ranged a → (t : Tables) (bound room : ℕ) → Accepted a t bound room → Sound a t bound
sound a r t bound room ok =
    let safe = plan_safe a r t bound room (ok wrong_plan_entry) (ok leaves_marks) (ok odd_loop) (ok costly_loop) in
    let lay = may_lay a r t bound room (ok too_large) in
    record {
      plan = safe;
      greatest = bound_is a r t bound room safe (ok wrong_bound);
      laid = lay;
      moves = moves_everywhere a r t bound room (ok dead_end);
      counter = counter_safe a r t bound room lay (ok wrong_counter_entry) (ok no_counter_move) (ok even_loop);
    }

module _ (a : Arena) (r : Ranged a) (t : Tables) (bound : ℕ) (k : Sound a t bound) where
  bound_low : bound ≤ (size a - 1) * greatest_cost a
  bound_low = elim (find (Marked a t) (dec_marked a t) (size a)) [
    | inl f ↦
        let x = k.greatest.met f.0 f.2 in
        le_trans (le_of_eq (sym x.4)) (worst_low a r (Marked a t) (plan_of t) k.plan x.0 x.1 x.2 (sails a (plan_of t) x.0 x.1 x.3.0 x.3.1))
    | inr none ↦ let z = k.greatest.none (λ v m. none v m.0 m) in omega arith
  ]

  pub plan_holds : PlanHolds a t bound
  plan_holds =
      record {
        stays = λ v ms m f. passed_marked a r (Marked a t) (plan_of t) k.plan v ms m (sails a (plan_of t) v ms f.0 f.1);
        waits = k.greatest.over;
        shows = λ v ms m f. few_showings a r (Marked a t) (plan_of t) k.plan v ms m (sails a (plan_of t) v ms f.0 f.1);
        runs = λ marks tally start s m e calls f.
            let x = records_the_voyage a r marks t.plan tally start s e calls f in
            record { record_of = x; waits = le_trans (le_of_eq x.worst) (k.greatest.over start _ m (x.voyage, x.follows)) };
        met = k.greatest.met;
        low = bound_low;
      }

pub plans_hold : AcceptedPlansHold
plans_hold a r t bound c = plan_holds a r t bound (sound a r t bound c.0 c.2.0)

pub counterplays_beat : AcceptedCounterplaysBeat
counterplays_beat a r t bound c v u =
    let k = sound a r t bound c.0 c.2.0 in
    counterplay_beats a r k.laid k.moves (Marked a t) (counter_of t) k.counter v u.0 u.1

-- the marked vertices of an accepted claim are the held ones
pub marks_the_held : (a : Arena) → Ranged a → (t : Tables) (bound : ℕ) → ClaimAccepted a t bound → (v : ℕ) → v < size a → (Marked a t v → Held a v) × (Held a v → Marked a t v)
marks_the_held a r t bound c v h =
    let k = sound a r t bound c.0 c.2.0 in
    let d = decides a r k.laid k.moves (Marked a t) (counter_of t) k.counter (plan_of t) k.plan v h in
    (d.0, λ held. elim (dec_marked a t v) [ yes m ↦ m | no n ↦ absurd (d.1 n held) ])
