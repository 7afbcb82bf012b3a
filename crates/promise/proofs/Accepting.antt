-- What an accepted claim comes to: its plan is safe on the marks, its bound the greatest wait, its counterplay safe against them.
use Rattle.std.proofs.Common.{◌≡◌, ℕ, suc, ◌/◌, ◌<◌, Bool, true, ◌&&◌, eqb, ltb, sym, refl, ◌∙◌, subst, inl, inr, arith}
use native.Mathlib.Decide.{ℕ_discrete, dec_le}
use Rattle.chart.specs.Arena.{Arena, size, Ranged}
use Rattle.walks.proofs.Walks.{walk_map}
use Rattle.walks.proofs.Attractors.{find}
use Rattle.game.specs.Reading.{owner_of, degree_of}
use Rattle.game.specs.Waiting.{stage_in, vertex_in, positions, may_be_laid, waiting}
use Rattle.game.specs.Claims.{SafePlan, by_entry, begun, led, SafeCounter}
use Rattle.game.specs.Bounds.{GreatestWait, greatest_wait}
use Rattle.game.proofs.Positions.{owner_there, degree_on, degree_off}
use Rattle.theory.specs.Levels.{Spot}
use Rattle.theory.proofs.Bounds.{greatest_wait_is}
use Rattle.theory.proofs.Deciding.{spot_leads, first_low}
use Rattle.std.proofs.lemmas.Bool.{and_from, and_parts, lt-ltb, ltb-true, eq-eqb, ne_eqb, eqb-true, le-leb, cond-true, cond-false}
use Rattle.promise.specs.Tables.{Tables, entries, mark_of, plan_of, counter_of, Marked}
use Rattle.promise.specs.Rules.{Cause, dead_end, too_large, wrong_plan_entry, wrong_counter_entry, leaves_marks, odd_loop, costly_loop, wrong_bound, no_counter_move, even_loop, Met, Applies}

-- whether a vertex is marked can be told
pub dec_marked : (a : Arena) (t : Tables) (v : ℕ) → Dec (Marked a t v)
dec_marked a t v = elim (dec_le (suc v) (size a)) [
  | no n ↦ no (λ m. n m.0)
  | yes h ↦ elim (ℕ_discrete (mark_of t v) 1) [ no n ↦ no (λ m. n m.1) | yes e ↦ yes (h, e) ]
]

-- the marks as a test
abbrev pub marked : Arena → Tables → ℕ → Bool
marked a t v = ltb v (size a) && eqb (mark_of t v) 1

pub marked_test : (a : Arena) (t : Tables) (v : ℕ) → Marked a t v → marked a t v ≡ true
marked_test a t v m = and_from _ _ (lt-ltb v (size a) m.0) (eq-eqb (mark_of t v) 1 m.1)

pub marked_from : (a : Arena) (t : Tables) (v : ℕ) → marked a t v ≡ true → Marked a t v
marked_from a t v e = let p = and_parts (ltb v (size a)) (eqb (mark_of t v) 1) e in (ltb-true v (size a) p.0, eqb-true (mark_of t v) 1 p.1)

-- safety and the greatest wait ask of the marks only which vertices they mark
module _ (a : Arena) (s : ℕ → ℕ) (M N : ℕ → Type 0) (f : (v : ℕ) → M v → N v) (g : (v : ℕ) → N v → M v) where
  same_safe : SafePlan a M s → SafePlan a N s
  same_safe k =
      record {
        there = λ v n. k.there v (g v n);
        moves = λ v n. k.moves v (g v n);
        closed = λ x y n e. f y (k.closed x y (g x n) e);
        no_odd_loop = λ u n o w. k.no_odd_loop u (g u n) o (walk_map (λ x y e. (e.0, e.1, (g x e.2.0, g y e.2.1, e.2.2))) w);
        no_costly_loop = λ u n. k.no_costly_loop u (g u n);
      }

  same_greatest : (w : ℕ) → GreatestWait a M s w → GreatestWait a N s w
  same_greatest w k =
      record {
        over = λ v ms n. k.over v ms (g v n);
        met = λ v n. let x = k.met v (g v n) in (x.0, x.1, f _ x.2, x.3, x.4);
        none = λ n. k.none (λ v m. n v (f v m));
      }

-- there is one worst wait
pub one_greatest : (a : Arena) (t : Tables) (x y : ℕ) → GreatestWait a (Marked a t) (plan_of t) x → GreatestWait a (Marked a t) (plan_of t) y → x ≡ y
one_greatest a t x y g h = elim (find (Marked a t) (dec_marked a t) (size a)) [
  | inl f ↦
      let p = g.met f.0 f.2 in
      let q = h.met f.0 f.2 in
      let i = h.over p.0 p.1 p.2 p.3 in
      let j = g.over q.0 q.1 q.2 q.3 in
      let d = p.4 in
      let e = q.4 in
      omega arith
  | inr none ↦ g.none (λ v m. none v m.0 m) ∙ sym (h.none (λ v m. none v m.0 m))
]

-- no place at which the cause applies; the bound and the room are those of the claim
module _ (a : Arena) (r : Ranged a) (t : Tables) (bound room : ℕ) where
  abbrev pub Nowhere : Cause → Type 0
  Nowhere c = (p : ℕ) → ¬ Applies a t bound room c p

  -- the plan is safe
  pub plan_safe : Nowhere wrong_plan_entry → Nowhere leaves_marks → Nowhere odd_loop → Nowhere costly_loop → SafePlan a (Marked a t) (plan_of t)
  plan_safe entries leaves odd costly =
      record {
        there = λ v m. m.0;
        moves = λ v m o. elim (dec_le (suc (plan_of t v)) (degree_of a v)) [ yes h ↦ h | no n ↦ absurd (entries v (m.0, λ good. n (good.move m o))) ];
        closed = λ x y m e. elim (dec_marked a t y) [ yes h ↦ h | no n ↦ absurd (leaves x (m, y, e, n)) ];
        no_odd_loop = λ u m o w. odd u (m, o, walk_map (λ x y e. (e.0, e.1, e.2.2)) w);
        no_costly_loop = λ u m o c. costly u (m, o, c);
      }

  -- then there is a worst wait, and it can be worked out
  pub greatest_is : SafePlan a (Marked a t) (plan_of t) → GreatestWait a (Marked a t) (plan_of t) (greatest_wait a (marked a t) (plan_of t))
  greatest_is safe =
      same_greatest a (plan_of t) (λ v. marked a t v ≡ true) (Marked a t) (marked_from a t) (marked_test a t) _
      (greatest_wait_is a r (marked a t) (plan_of t) (same_safe a (plan_of t) (Marked a t) (λ v. marked a t v ≡ true) (marked_test a t) (marked_from a t) safe))

  -- so the bound is it
  pub bound_is : SafePlan a (Marked a t) (plan_of t) → Nowhere wrong_bound → GreatestWait a (Marked a t) (plan_of t) bound
  bound_is safe wrong =
      let w : ℕ = greatest_wait a (marked a t) (plan_of t) in
      elim (ℕ_discrete bound w) [ yes e ↦ subst (GreatestWait a (Marked a t) (plan_of t)) (sym e) (greatest_is safe) | no n ↦ absurd (wrong w (greatest_is safe, n)) ]

  -- the waiting chart may be laid
  pub may_lay : Nowhere too_large → may_be_laid a ≡ true
  may_lay large = and_from _ _
      (le-leb _ _ (elim (dec_le (positions a) 4096) [ yes h ↦ h | no n ↦ absurd (large 0 (refl, inl (omega arith))) ]))
      (le-leb _ _ (elim (dec_le a.height 28) [ yes h ↦ h | no n ↦ absurd (large 0 (refl, inr (omega arith))) ]))

  -- every vertex has a move
  pub moves_everywhere : Nowhere dead_end → (v : ℕ) → v < size a → 0 < degree_of a v
  moves_everywhere dead v h = elim (ℕ_discrete (degree_of a v) 0) [ yes e ↦ absurd (dead v (h, e)) | no n ↦ omega arith ]

  module _ (ok : may_be_laid a ≡ true) where
    pub met_low : {p : ℕ} → Met a t p → Spot a p
    met_low (begun {v} h n) = first_low a r v h
    met_low (led {p} w e) = subst (Spot a) e.3 (spot_leads a r ok p e.0 e.1)

    half_low : (p : ℕ) → p < positions a → p / 2 < entries a
    half_low p h = omega arith

    -- the counterplay is safe
    pub counter_safe : Nowhere wrong_counter_entry → Nowhere no_counter_move → Nowhere even_loop → SafeCounter a (Marked a t) (counter_of t)
    counter_safe wrong none even =
        record {
          moves = λ p w o. elim (ℕ_discrete (stage_in p) 0) [ yes e ↦ at_vertex p w o e | no n ↦ at_toll p w n ];
          no_even_loop = λ p w e loop. even p (w, e, loop);
        }
      where
        at_vertex : (p : ℕ) → Met a t p → owner_of (waiting a) p ≡ 1 → stage_in p ≡ 0 → by_entry (counter_of t) p < degree_of (waiting a) p
        at_vertex p w o e =
            let low : p < positions a = met_low w in
            let here : owner_of a (vertex_in a p) ≡ 1 = sym (owner_there a ok p low) ∙ o in
            let by : by_entry (counter_of t) p ≡ counter_of t (p / 2) = cond-true _ _ _ (eq-eqb (stage_in p) 0 e) in
            let deg = degree_on a ok p low e in
            elim (dec_le (suc (counter_of t (p / 2))) (degree_of a (vertex_in a p))) [
              | yes h ↦ omega arith
              | no n ↦ absurd (wrong (p / 2) (half_low p low, λ good. elim (good.harbours here) [ inl h ↦ n h | inr z ↦ none p (w, e, o, z) ]))
            ]

        at_toll : (p : ℕ) → Met a t p → ¬ (stage_in p ≡ 0) → by_entry (counter_of t) p < degree_of (waiting a) p
        at_toll p w n =
            let by : by_entry (counter_of t) p ≡ 0 = cond-false _ _ _ (ne_eqb (stage_in p) 0 n) in
            let deg = degree_off a ok p (met_low w) n in
            omega arith
