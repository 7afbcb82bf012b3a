-- When a claim is accepted: a safe plan with its greatest wait and a safe counterplay, in good tables, are enough.
use Rattle.std.proofs.Common.{◌≡◌, ℕ, ◌*◌, ◌/◌, ◌<◌, ◌≤◌, leb, ◌⊎◌, inl, inr, arith}
use Rattle.std.proofs.lemmas.Bool.{and_parts, leb-true, eq-eqb, cond-true}
use Rattle.chart.specs.Arena.{Arena, size, Ranged}
use Rattle.walks.specs.Games.{Walk, last, step, Inside}
use Rattle.walks.proofs.Walks.{walk_map}
use Rattle.game.specs.Waiting.{stage_in, positions, waiting}
use Rattle.game.specs.Claims.{by_entry}
use Rattle.game.proofs.Readings.{degree_low}
use Rattle.game.proofs.Positions.{waiting_ranged}
use Rattle.promise.specs.Tables.{Tables, entries, mark_of, counter_of, Marked, GoodPlanEntry, GoodCounterEntry, LongEnough}
use Rattle.promise.specs.Rules.{dead_end, too_large, short_table, short_memory, wrong_mark, wrong_plan_entry, wrong_counter_entry, leaves_marks, odd_loop, costly_loop, wrong_bound, no_counter_move, even_loop, Accepted}
use Rattle.promise.proofs.Accepting.{one_greatest}
use Rattle.promise.proofs.Promised.{Sound}

-- the tables are long enough and have only entries that may stand there
pub record GoodTables (a : Arena) (t : Tables) : Type 0 where
  pub long : LongEnough a t
  pub marks : (v : ℕ) → v < size a → (mark_of t v ≡ 0) ⊎ (mark_of t v ≡ 1)
  pub plan : (v : ℕ) → v < size a → GoodPlanEntry a t v
  pub counterplay : (e : ℕ) → e < entries a → GoodCounterEntry a t e

-- a walk from a set that no step leaves stays in it
stays_inside : {E : ℕ → ℕ → Type 0} (S : ℕ → Type 0) → ((x y : ℕ) → S x → E x y → S y) → {p q : ℕ} → Walk E p q → S p → Walk (Inside S E) p q
stays_inside S on (last e) s = last (s, on _ _ s e, e)
stays_inside S on (step e w) s = step (s, on _ _ s e, e) (stays_inside S on w (on _ _ s e))

module _ (a : Arena) (r : Ranged a) (t : Tables) (bound room : ℕ) (good : GoodTables a t) (wide : 12 * positions a ≤ room) (k : Sound a t bound) where
  pub accepted : Accepted a t bound room
  accepted dead_end v x = let m = k.moves v x.0 in let e = x.1 in omega arith
  accepted too_large p x =
      let l = and_parts (leb (positions a) 4096) (leb a.height 28) k.laid in
      let f = leb-true (positions a) 4096 l.0 in
      let g = leb-true a.height 28 l.1 in
      elim x.1 [ inl h ↦ omega arith | inr h ↦ omega arith ]
  accepted short_table p x = x.1 good.long
  accepted short_memory p x = let h = x.1 in omega arith
  accepted wrong_mark v x = x.1 (good.marks v x.0)
  accepted wrong_plan_entry v x = x.1 (good.plan v x.0)
  accepted wrong_counter_entry e x = x.1 (good.counterplay e x.0)
  accepted leaves_marks v x = x.3 (k.plan.closed v x.1 x.0 x.2)
  accepted odd_loop v x = k.plan.no_odd_loop v x.0 x.1
      (walk_map (λ y z e. (e.2.0, e.2.1, (e.0, e.1, e.2.2))) (stays_inside (Marked a t) (λ y z m e. k.plan.closed y z m e.2) x.2 x.0))
  accepted costly_loop v x = k.plan.no_costly_loop v x.0 x.1 x.2
  accepted wrong_bound w x = x.1 (one_greatest a t bound w k.greatest x.0)
  accepted no_counter_move p x =
      let by : by_entry (counter_of t) p ≡ counter_of t (p / 2) = cond-true _ _ _ (eq-eqb (stage_in p) 0 x.1) in
      let h = k.counter.moves p x.0 x.2 in
      let d = degree_low (waiting a) (waiting_ranged a r) p in
      let e = x.3 in
      omega arith
  accepted even_loop p x = k.counter.no_even_loop p x.0 x.1 x.2
