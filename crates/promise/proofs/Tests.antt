-- Each cause of refusal as a test that can be computed.
use Rattle.std.proofs.Common.{◌≡◌, ℕ, zero, suc, ◌/◌, ◌%◌, ◌<◌, ◌≤◌, Bool, true, false, cond, not, ◌&&◌, ◌||◌, eqb, ltb, leb, List, [], ◌∷◌, map, length, get_or, Decides, sym, refl, ap, ◌∙◌, subst, inl, inr}
use Rattle.std.proofs.lemmas.Bool.{both_ways, leb-true, le-leb, eqb-true, eq-eqb, or_cases, or_left, or_right, not-true, not_from_false}
use Rattle.std.proofs.lemmas.Bool.Decides.{Decides-like, Decides-eqb, Decides-ltb, Decides-not, Decides-and, Decides-or, Decides-below_or}
use Rattle.chart.specs.Arena.{Arena, size, Ranged}
use Rattle.walks.specs.Games.{Step, Walk, last, step, Inside, Loop, Reaches}
use Rattle.walks.proofs.Walks.{reach_join}
use Rattle.game.specs.Reading.{owner_of, colour_of, degree_of, target_of, cost_of, game_of}
use Rattle.game.specs.Voyages.{answers}
use Rattle.game.specs.Waiting.{stage_in, waiting, first}
use Rattle.game.specs.Claims.{PlanStep, WaitingStep, CostlyLoop, by_entry, CounterStep, begun, led}
use Rattle.game.proofs.Readings.{moves_there, target_low}
use Rattle.game.proofs.Positions.{waiting_ranged}
use Rattle.promise.specs.Tables.{Tables, empty_entry, entries, entry_vertex, plan_of, counter_of, Marked, GoodPlanEntry, GoodCounterEntry, LongEnough}
use Rattle.promise.specs.Rules.{Met}
use Rattle.promise.proofs.Accepting.{marked, marked_test, marked_from}
use Rattle.promise.proofs.Searching.{mem, passing, mem_passing, reach, rows_of, edge_decides, walks_decide, reaches_decide, seeds_decide}

decides_leb : (x y : ℕ) → Decides (leb x y) (x ≤ y)
decides_leb x y = (leb-true x y, le-leb x y)

-- three at once
decides_three : {P Q R : Type 0} (x y z : Bool) → Decides x P → Decides y Q → Decides z R → Decides (x && y && z) (P × Q × R)
decides_three x y z p q r = Decides-like (x && y && z) (λ t. (t.0.0, t.0.1, t.1)) (λ t. ((t.0, t.1), t.2)) (Decides-and (x && y) z (Decides-and x y p q) r)

-- the second test is made only where the first passes
abbrev pub also : Bool → (Unit {0} → Bool) → Bool
also true f = f tt
also false f = false

decides_also : {P Q : Type 0} (x : Bool) (f : Unit {0} → Bool) → Decides x P → Decides (f tt) Q → Decides (also x f) (P × Q)
decides_also true f p q = ((λ e. (p.0 refl, q.0 e)), λ t. q.1 t.1)
decides_also false f p q = ((λ e. absurd (both_ways false refl e)), λ t. p.1 t.0)

-- some number below n passes
abbrev pub some_below : (ℕ → Bool) → ℕ → Bool
some_below test zero = false
some_below test (suc n) = test n || some_below test n

decides_some : (test : ℕ → Bool) (P : ℕ → Type 0) → ((k : ℕ) → Decides (test k) (P k)) → (n : ℕ) → Decides (some_below test n) ((k : ℕ) × (k < n) × P k)
decides_some test P each n = Decides-below_or test P (some_below test) each refl (λ k. refl) n

-- a choice between two tests
decides_choice : {P : Type 0} (b x y : Bool) → (b ≡ true → Decides x P) → (b ≡ false → Decides y P) → Decides (cond b x y) P
decides_choice true x y f g = f refl
decides_choice false x y f g = g refl

pub decides_marked : (a : Arena) (t : Tables) (v : ℕ) → Decides (marked a t v) (Marked a t v)
decides_marked a t v = (marked_from a t v, marked_test a t v)

-- the tables
abbrev pub long_test : Arena → Tables → Bool
long_test a t = leb (size a) (length t.marks) && leb (size a) (length t.plan) && leb (entries a) (length t.counterplay)

pub long_decides : (a : Arena) (t : Tables) → Decides (long_test a t) (LongEnough a t)
long_decides a t = Decides-like (long_test a t) (λ x. record { marks = x.0; plan = x.1; counterplay = x.2 }) (λ x. (x.marks, x.plan, x.counterplay))
    (decides_three _ _ _ (decides_leb _ _) (decides_leb _ _) (decides_leb _ _))

abbrev pub plan_entry_test : Arena → Tables → ℕ → Bool
plan_entry_test a t v = cond (marked a t v && eqb (owner_of a v) 0) (ltb (plan_of t v) (degree_of a v)) (eqb (plan_of t v) empty_entry)

pub plan_entry_decides : (a : Arena) (t : Tables) (v : ℕ) → Decides (plan_entry_test a t v) (GoodPlanEntry a t v)
plan_entry_decides a t v = decides_choice (marked a t v && eqb (owner_of a v) 0) _ _
    (λ e. let both = ours.0 e in Decides-like _ (λ h. record { move = λ m o. h; empty = λ n. absurd (n both) }) (λ g. g.move both.0 both.1) (Decides-ltb _ _))
    (λ e. let none : ¬ (Marked a t v × (owner_of a v ≡ 0)) = (λ m. both_ways _ e (ours.1 m)) in
    Decides-like _ (λ h. record { move = λ m o. absurd (none (m, o)); empty = λ n. h }) (λ g. g.empty none) (Decides-eqb _ _))
  where
    ours : Decides (marked a t v && eqb (owner_of a v) 0) (Marked a t v × (owner_of a v ≡ 0))
    ours = Decides-and _ _ (decides_marked a t v) (Decides-eqb (owner_of a v) 0)

abbrev pub counter_entry_test : Arena → Tables → ℕ → Bool
counter_entry_test a t e =
    cond (eqb (owner_of a (entry_vertex a e)) 1) (ltb (counter_of t e) (degree_of a (entry_vertex a e)) || eqb (counter_of t e) empty_entry) (eqb (counter_of t e) empty_entry)

pub counter_entry_decides : (a : Arena) (t : Tables) (e : ℕ) → Decides (counter_entry_test a t e) (GoodCounterEntry a t e)
counter_entry_decides a t e = decides_choice (eqb (owner_of a (entry_vertex a e)) 1) _ _
    (λ b. let o = eqb-true (owner_of a (entry_vertex a e)) 1 b in
    Decides-like _ (λ h. record { harbours = λ p. h; ours = λ n. absurd (n o) }) (λ g. g.harbours o) (Decides-or _ _ (Decides-ltb _ _) (Decides-eqb _ _)))
    (λ b. let n : ¬ (owner_of a (entry_vertex a e) ≡ 1) = (λ o. both_ways _ b (eq-eqb _ _ o)) in
    Decides-like _ (λ h. record { harbours = λ p. absurd (n p); ours = λ k. h }) (λ g. g.ours n) (Decides-eqb _ _))

-- steps of a game on an arena, where player i goes by s
abbrev goes_by : Arena → ℕ → (ℕ → ℕ) → ℕ → ℕ → Bool
goes_by a i s p m = cond (eqb (owner_of a p) i) (eqb m (s p)) true

goes_by_decides : (a : Arena) (i : ℕ) (s : ℕ → ℕ) (p m : ℕ) → Decides (goes_by a i s p m) (owner_of a p ≡ i → m ≡ s p)
goes_by_decides a i s p m = decides_choice (eqb (owner_of a p) i) _ _
    (λ b. Decides-like _ (λ e o. e) (λ f. f (eqb-true (owner_of a p) i b)) (Decides-eqb m (s p)))
    (λ b. ((λ e o. absurd (both_ways _ b (eq-eqb _ _ o))), λ f. refl))

abbrev pub step_test : Arena → ℕ → (ℕ → ℕ) → ℕ → ℕ → Bool
step_test a i s p q = some_below (λ m. goes_by a i s p m && eqb (target_of a p m) q) (degree_of a p)

step_decides : (a : Arena) (i : ℕ) (s : ℕ → ℕ) (p q : ℕ) → Decides (step_test a i s p q) (Step (game_of a) i s p q)
step_decides a i s p q = Decides-like _ (λ x. (x.0, x.1, x.2.0, x.2.1)) (λ x. (x.0, x.1, (x.2, x.3)))
    (decides_some _ (λ m. (owner_of a p ≡ i → m ≡ s p) × (target_of a p m ≡ q)) (λ m. Decides-and _ _ (goes_by_decides a i s p m) (Decides-eqb (target_of a p m) q)) (degree_of a p))

step_low : (a : Arena) → Ranged a → (i : ℕ) (s : ℕ → ℕ) (p q : ℕ) → Step (game_of a) i s p q → (p < size a) × (q < size a)
step_low a r i s p q e = (moves_there a p e.0 e.1, subst (λ y. y < size a) e.3 (target_low a r p e.0 e.1))

-- q is met from p by one step or more
abbrev pub walk_test : ℕ → (ℕ → ℕ → Bool) → ℕ → ℕ → Bool
walk_test n test p q = mem q (reach (rows_of n test) n (get_or (rows_of n test) p []))

-- p is on a loop with no higher colour
abbrev pub low_test : (ℕ → ℕ) → (ℕ → ℕ → Bool) → ℕ → ℕ → ℕ → Bool
low_test colour test p x y = leb (colour x) (colour p) && leb (colour y) (colour p) && test x y

abbrev pub loop_test : ℕ → (ℕ → ℕ) → (ℕ → ℕ → Bool) → ℕ → Bool
loop_test n colour test p = walk_test n (low_test colour test p) p p

loop_decides : (n : ℕ) (colour : ℕ → ℕ) (test : ℕ → ℕ → Bool) (E : ℕ → ℕ → Type 0) → ((p q : ℕ) → Decides (test p q) (E p q)) → ((p q : ℕ) → E p q → (p < n) × (q < n)) →
    (p : ℕ) → Decides (loop_test n colour test p) (Loop colour E p)
loop_decides n colour test E tells low p = walks_decide n (low_test colour test p) (Inside (λ x. colour x ≤ colour p) E)
    (λ x y. decides_three _ _ _ (decides_leb _ _) (decides_leb _ _) (tells x y)) (λ x y e. low x y e.2) p p

-- the plan
abbrev pub plan_test : Arena → Tables → ℕ → ℕ → Bool
plan_test a t = step_test a 0 (plan_of t)

abbrev pub leaves_test : Arena → Tables → ℕ → Bool
leaves_test a t v = marked a t v && some_below (λ m. goes_by a 0 (plan_of t) v m && not (marked a t (target_of a v m))) (degree_of a v)

pub leaves_decides : (a : Arena) (t : Tables) (v : ℕ) → Decides (leaves_test a t v) (Marked a t v × (y : ℕ) × PlanStep a (plan_of t) v y × ¬ Marked a t y)
leaves_decides a t v = Decides-like _ (λ x. (x.0, target_of a v x.1.0, (x.1.0, x.1.1, x.1.2.0, refl), x.1.2.1))
    (λ x. (x.0, (x.2.0, x.2.1, (x.2.2, λ m. x.3 (subst (Marked a t) x.2.3 m)))))
    (Decides-and _ _ (decides_marked a t v)
    (decides_some _ (λ m. (owner_of a v ≡ 0 → m ≡ plan_of t v) × ¬ Marked a t (target_of a v m))
    (λ m. Decides-and _ _ (goes_by_decides a 0 (plan_of t) v m) (Decides-not _ (decides_marked a t (target_of a v m)))) (degree_of a v)))

-- a marked vertex of odd colour at which a further test passes
abbrev pub odd_test : Arena → Tables → (ℕ → Bool) → ℕ → Bool
odd_test a t test v = also (marked a t v && eqb (colour_of a v % 2) 1) (λ u. test v)

odd_decides : (a : Arena) (t : Tables) (test : ℕ → Bool) (P : ℕ → Type 0) (v : ℕ) → Decides (test v) (P v) → Decides (odd_test a t test v) (Marked a t v × (colour_of a v % 2 ≡ 1) × P v)
odd_decides a t test P v d = Decides-like _ (λ x. (x.0.0, x.0.1, x.1)) (λ x. ((x.0, x.1), x.2))
    (decides_also _ (λ u. test v) (Decides-and _ _ (decides_marked a t v) (Decides-eqb (colour_of a v % 2) 1)) d)

abbrev pub odd_loop_test : Arena → Tables → ℕ → Bool
odd_loop_test a t = odd_test a t (loop_test (size a) (colour_of a) (plan_test a t))

pub odd_loop_decides : (a : Arena) → Ranged a → (t : Tables) (v : ℕ) →
    Decides (odd_loop_test a t v) (Marked a t v × (colour_of a v % 2 ≡ 1) × Loop (colour_of a) (PlanStep a (plan_of t)) v)
odd_loop_decides a r t v = odd_decides a t (loop_test (size a) (colour_of a) (plan_test a t)) (Loop (colour_of a) (PlanStep a (plan_of t))) v
    (loop_decides (size a) (colour_of a) (plan_test a t) (PlanStep a (plan_of t)) (step_decides a 0 (plan_of t)) (step_low a r 0 (plan_of t)) v)

-- steps while a request of colour q waits
abbrev pub waiting_test : Arena → Tables → ℕ → ℕ → ℕ → Bool
waiting_test a t q x y = plan_test a t x y && not (answers a q y)

decides_false : (b : Bool) → Decides (not b) (b ≡ false)
decides_false b = (not-true b, not_from_false b)

waiting_decides : (a : Arena) (t : Tables) (q x y : ℕ) → Decides (waiting_test a t q x y) (WaitingStep a (plan_of t) q x y)
waiting_decides a t q x y = Decides-and _ _ (step_decides a 0 (plan_of t) x y) (decides_false (answers a q y))

abbrev pub reaches_test : Arena → Tables → ℕ → ℕ → ℕ → Bool
reaches_test a t q x y = eqb x y || walk_test (size a) (waiting_test a t q) x y

-- a move of x that waits, costs and can be gone back from
abbrev pub costly_move_test : Arena → Tables → ℕ → ℕ → ℕ → Bool
costly_move_test a t q x m =
    goes_by a 0 (plan_of t) x m && not (answers a q (target_of a x m)) && (ltb 0 (cost_of a x m) && reaches_test a t q (target_of a x m) x)

abbrev pub costly_test : Arena → Tables → ℕ → Bool
costly_test a t u = some_below (λ x. reaches_test a t (colour_of a u) u x && some_below (costly_move_test a t (colour_of a u) x) (degree_of a x)) (size a)

module _ (a : Arena) (r : Ranged a) (t : Tables) where
  reaches_decides : (q x y : ℕ) → Decides (reaches_test a t q x y) (Reaches (WaitingStep a (plan_of t) q) x y)
  reaches_decides q x y = reaches_decide (size a) (waiting_test a t q) (WaitingStep a (plan_of t) q) (waiting_decides a t q) (λ x y e. step_low a r 0 (plan_of t) x y e.0) x y

  abbrev CostlyMove : ℕ → ℕ → ℕ → Type 0
  CostlyMove q x m =
      (owner_of a x ≡ 0 → m ≡ plan_of t x) × (answers a q (target_of a x m) ≡ false) × ((0 < cost_of a x m) × Reaches (WaitingStep a (plan_of t) q) (target_of a x m) x)

  costly_move_decides : (q x m : ℕ) → Decides (costly_move_test a t q x m) (CostlyMove q x m)
  costly_move_decides q x m = decides_three _ _ _ (goes_by_decides a 0 (plan_of t) x m) (decides_false (answers a q (target_of a x m)))
      (Decides-and _ _ (Decides-ltb 0 (cost_of a x m)) (reaches_decides q (target_of a x m) x))

  abbrev CostlyFrom : ℕ → ℕ → Type 0
  CostlyFrom u x = Reaches (WaitingStep a (plan_of t) (colour_of a u)) u x × ((m : ℕ) × (m < degree_of a x) × CostlyMove (colour_of a u) x m)

  costly_on : (u : ℕ) → (x : ℕ) × (x < size a) × CostlyFrom u x → CostlyLoop a (plan_of t) u
  costly_on u f =
      let x = f.0 in
      let g = f.2.1 in
      record {
        from = x;
        to = target_of a x g.0;
        met = f.2.0;
        move = ((g.0, g.1, g.2.0, refl), g.2.1);
        costs = g.2.2.0;
        back = g.2.2.1;
      }

  costly_back : (u : ℕ) → CostlyLoop a (plan_of t) u → (x : ℕ) × (x < size a) × CostlyFrom u x
  costly_back u c =
      let e = c.move.0 in (
        c.from,
        moves_there a c.from e.0 e.1,
        (
          c.met,
          (
            e.0,
            e.1,
            (
              e.2,
              ap (answers a (colour_of a u)) e.3 ∙ c.move.1,
              (c.costs, subst (λ y. Reaches (WaitingStep a (plan_of t) (colour_of a u)) y c.from) (sym e.3) c.back),
            ),
          ),
        ),
      )

  pub costly_loop_decides : (v : ℕ) → Decides (odd_test a t (costly_test a t) v) (Marked a t v × (colour_of a v % 2 ≡ 1) × CostlyLoop a (plan_of t) v)
  costly_loop_decides v = odd_decides a t (costly_test a t) (CostlyLoop a (plan_of t)) v
      (Decides-like _ (costly_on v) (costly_back v)
      (decides_some _ (CostlyFrom v) (λ x. Decides-and _ _ (reaches_decides (colour_of a v) v x)
      (decides_some _ (CostlyMove (colour_of a v) x) (costly_move_decides (colour_of a v) x) (degree_of a x))) (size a)))

mem_map : (f : ℕ → ℕ) (xs : List ℕ) (x : ℕ) → Decides (mem x (map f xs)) ((v : ℕ) × (mem v xs ≡ true) × (x ≡ f v))
mem_map f [] x = ((λ e. absurd (both_ways false refl e)), λ p. absurd (both_ways false refl p.1))
mem_map f (y ∷ ys) x =
    let r = mem_map f ys x in (
      (λ e. elim (or_cases (eqb x (f y)) (mem x (map f ys)) e) [
        | inl d ↦ (y, or_left _ _ (eq-eqb y y refl), eqb-true x (f y) d)
        | inr d ↦ (let k = r.0 d in (k.0, or_right (eqb k.0 y) _ k.1, k.2))
      ]),
      λ p. elim (or_cases (eqb p.0 y) (mem p.0 ys) p.1) [
        | inl d ↦ or_left _ _ (eq-eqb x (f y) (p.2 ∙ ap f (eqb-true p.0 y d)))
        | inr d ↦ or_right (eqb x (f y)) _ (r.1 (p.0, d, p.2))
      ],
    )

-- the counterplay, on the waiting chart w over a; rows are those of its steps, and mets the positions reached
abbrev pub counter_test : Arena → Tables → ℕ → ℕ → Bool
counter_test w t = step_test w 1 (by_entry (counter_of t))

abbrev pub counter_rows : Arena → Tables → List (List ℕ)
counter_rows w t = rows_of (size w) (counter_test w t)

abbrev pub firsts : Arena → Tables → List ℕ
firsts a t = map (first a) (passing (λ v. not (marked a t v)) (size a))

abbrev pub mets_by : Arena → Tables → Arena → List (List ℕ) → List ℕ
mets_by a t w rows = reach rows (size w) (firsts a t)

abbrev pub no_counter_test : Tables → Arena → List ℕ → ℕ → Bool
no_counter_test t w mets p = mem p mets && eqb (stage_in p) 0 && (eqb (owner_of w p) 1 && eqb (counter_of t (p / 2)) empty_entry)

abbrev pub inner_test : List (List ℕ) → List ℕ → ℕ → ℕ → Bool
inner_test rows mets x y = mem x mets && mem y mets && mem y (get_or rows x [])

abbrev pub even_loop_test : Arena → List (List ℕ) → List ℕ → ℕ → Bool
even_loop_test w rows mets p = also (mem p mets && eqb (colour_of w p % 2) 0) (λ u. loop_test (size w) (colour_of w) (inner_test rows mets) p)

module _ (a : Arena) (r : Ranged a) (t : Tables) where
  abbrev E : ℕ → ℕ → Type 0
  E = CounterStep a (counter_of t)

  abbrev rows : List (List ℕ)
  rows = counter_rows (waiting a) t

  abbrev mets : List ℕ
  mets = mets_by a t (waiting a) (counter_rows (waiting a) t)

  e_decides : (p q : ℕ) → Decides (counter_test (waiting a) t p q) (E p q)
  e_decides = step_decides (waiting a) 1 (by_entry (counter_of t))

  e_low : (p q : ℕ) → E p q → (p < size (waiting a)) × (q < size (waiting a))
  e_low = step_low (waiting a) (waiting_ranged a r) 1 (by_entry (counter_of t))

  walk_led : {p q : ℕ} → Walk E p q → Met a t p → Met a t q
  walk_led (last e) m = led m e
  walk_led (step e w) m = walk_led w (led m e)

  abbrev From : ℕ → Type 0
  From q = (x : ℕ) × (mem x (firsts a t) ≡ true) × Reaches E x q

  first_decides : (x : ℕ) → Decides (mem x (firsts a t)) ((v : ℕ) × (v < size a) × (¬ Marked a t v) × (x ≡ first a v))
  first_decides x = Decides-like _
      (λ p. let k = (unmarked p.0).0 p.1 in (p.0, k.0, k.1, p.2)) (λ p. (p.0, (unmarked p.0).1 (p.1, p.2), p.3)) (mem_map (first a) (passing (λ v. not (marked a t v)) (size a)) x)
    where
      unmarked : (v : ℕ) → Decides (mem v (passing (λ v. not (marked a t v)) (size a))) ((v < size a) × ¬ Marked a t v)
      unmarked v = Decides-like _ (λ k. (k.0, (Decides-not _ (decides_marked a t v)).0 k.1)) (λ k. (k.0, (Decides-not _ (decides_marked a t v)).1 k.1))
          (mem_passing (λ v. not (marked a t v)) (size a) v)

  from_met : {q : ℕ} → Met a t q → From q
  from_met (begun {v} h n) = (first a v, (first_decides (first a v)).1 (v, h, n, refl), inl refl)
  from_met (led {p} {q} m e) = let f = from_met m in (f.0, f.1, reach_join f.2 (inr (last e)))

  met_from : (q : ℕ) → From q → Met a t q
  met_from q f =
      let v = (first_decides f.0).0 f.1 in
      let m : Met a t f.0 = subst (Met a t) (sym v.3) (begun v.1 v.2) in
      elim f.2 [ inl e ↦ subst (Met a t) e m | inr w ↦ walk_led w m ]

  pub met_decides : (q : ℕ) → Decides (mem q mets) (Met a t q)
  met_decides q = Decides-like _ (met_from q) from_met (seeds_decide (size (waiting a)) (counter_test (waiting a) t) E e_decides e_low (firsts a t) q)

  pub no_counter_decides : (p : ℕ) → Decides (no_counter_test t (waiting a) mets p)
      (Met a t p × (stage_in p ≡ 0) × (owner_of (waiting a) p ≡ 1) × (counter_of t (p / 2) ≡ empty_entry))
  no_counter_decides p = Decides-like _ (λ x. (x.0, x.1, x.2.0, x.2.1)) (λ x. (x.0, x.1, (x.2, x.3)))
      (decides_three _ _ _ (met_decides p) (Decides-eqb (stage_in p) 0) (Decides-and _ _ (Decides-eqb (owner_of (waiting a) p) 1) (Decides-eqb (counter_of t (p / 2)) empty_entry)))

  inner_decides : (x y : ℕ) → Decides (inner_test rows mets x y) (Inside (Met a t) E x y)
  inner_decides x y = decides_three _ _ _ (met_decides x) (met_decides y) (edge_decides (size (waiting a)) (counter_test (waiting a) t) E e_decides e_low x y)

  pub even_loop_decides : (p : ℕ) → Decides (even_loop_test (waiting a) rows mets p)
      (Met a t p × (colour_of (waiting a) p % 2 ≡ 0) × Loop (colour_of (waiting a)) (Inside (Met a t) E) p)
  even_loop_decides p = Decides-like _ (λ x. (x.0.0, x.0.1, x.1)) (λ x. ((x.0, x.1), x.2))
      (decides_also _ (λ u. loop_test (size (waiting a)) (colour_of (waiting a)) (inner_test rows mets) p) (Decides-and _ _ (met_decides p) (Decides-eqb (colour_of (waiting a) p % 2) 0))
      (loop_decides (size (waiting a)) (colour_of (waiting a)) (inner_test rows mets) (Inside (Met a t) E) inner_decides (λ x y e. e_low x y e.2) p))
