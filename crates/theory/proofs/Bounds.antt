-- The greatest wait under a safe plan: no voyage passes it, and some voyage has it.
use Rattle.chart.specs.Arena.{Arena, size, Ranged}
use Rattle.game.specs.Reading.{owner_of, colour_of, degree_of, target_of, cost_of}
use Rattle.game.specs.Voyages.{requests, answers, wait, wait_at, worst_wait}
use Rattle.game.specs.Held.{standing, Held}
use Rattle.game.specs.Claims.{SafePlan}
use Rattle.game.specs.Bounds.{Under, GreatestWait, greatest_of, allowed, longest, greatest_wait, greatest_cost}
use Rattle.game.proofs.Readings.{moves_there}
use Rattle.theory.specs.Sailing.{Sails}
use Rattle.theory.proofs.Greatest.{greatest_over, greatest_met, greatest_none}
use Rattle.theory.proofs.Sailing.{sails, sails_voyage, sails_follows}
use Rattle.theory.proofs.Waits.{sails_marked, few_showings, short}
use Rattle.std.proofs.Common.{◌≡◌, ℕ, zero, suc, ◌+◌, ◌-◌, ◌*◌, ◌%◌, ◌<◌, ◌≤◌, Bool, true, false, cond, ◌&&◌, List, [], ◌∷◌, length, sym, refl, ap, ◌∙◌, inl, inr, le_trans, le_of_eq, mul-le-mul_right, arith}
use native.Mathlib.Decide.{ℕ_discrete}
use native.Mathlib.Nat.{max-le, le-max_left}

pub cost_within : (a : Arena) (v m : ℕ) → m < degree_of a v → cost_of a v m ≤ greatest_cost a
cost_within a v m h =
    le_trans (greatest_over (λ n. true) (cost_of a v) (degree_of a v) m h refl)
    (greatest_over (λ n. true) (λ x. greatest_of (λ n. true) (cost_of a x) (degree_of a x)) (size a) v (moves_there a v m h) refl)

under_cond : (b : Bool) (x y z : ℕ) → y ≤ z → x + cond b 0 y ≤ x + cond b 0 z
under_cond true x y z h = omega arith
under_cond false x y z h = omega arith

module _ (a : Arena) (s : ℕ → ℕ) (q : ℕ) where
  -- a wait on few moves is cheap
  pub wait_cheap : (v : ℕ) (ms : List ℕ) → Sails a s v ms → wait a q v ms ≤ length ms * greatest_cost a
  wait_cheap v [] f = omega arith
  wait_cheap v (m ∷ ms) f =
      let y : ℕ = target_of a v m in
      let h = wait_cheap y ms f.2 in
      let c = cost_within a v m f.0 in
      let k = under_cond (answers a q y) (cost_of a v m) (wait a q y ms) (length ms * greatest_cost a) h in
      let j : cost_of a v m + cond (answers a q y) 0 (length ms * greatest_cost a) ≤ cost_of a v m + length ms * greatest_cost a = none_or (answers a q y) (cost_of a v m) (length ms * greatest_cost a) in
      omega arith
    where
      none_or : (b : Bool) (x y : ℕ) → x + cond b 0 y ≤ x + y
      none_or true x y = omega arith
      none_or false x y = omega arith

  may : (v m : ℕ) → (owner_of a v ≡ 0 → m ≡ s v) → allowed a s v m ≡ true
  may v m o = elim (ℕ_discrete (owner_of a v) 0) [ yes e ↦ (let h = o e in grind arith) | no d ↦ grind arith ]

  may_back : (v m : ℕ) → allowed a s v m ≡ true → owner_of a v ≡ 0 → m ≡ s v
  may_back v m t o = elim (ℕ_discrete m (s v)) [ yes e ↦ e | no d ↦ absurd (grind arith) ]

  -- what a move and the best way on come to
  abbrev on : ℕ → ℕ → ℕ → ℕ
  on k v m = cost_of a v m + cond (answers a q (target_of a v m)) 0 (longest a s q k (target_of a v m))

  pub longest_over : (k v : ℕ) (ms : List ℕ) → length ms ≤ k → Sails a s v ms → wait a q v ms ≤ longest a s q k v
  longest_over k v [] h f = omega arith
  longest_over zero v (m ∷ ms) h f = absurd (omega arith)
  longest_over (suc k) v (m ∷ ms) h f =
      le_trans (under_cond (answers a q (target_of a v m)) (cost_of a v m) _ _ (longest_over k (target_of a v m) ms (omega arith) f.2))
      (greatest_over (allowed a s v) (on k v) (degree_of a v) m f.0 (may v m f.1))

  pub record Attained (k v : ℕ) : Type 0 where
    pub moves : List ℕ
    pub sails : Sails a s v moves
    pub waits : wait a q v moves ≡ longest a s q k v

  pub longest_met : (k v : ℕ) → Attained k v
  longest_met zero v = record { moves = []; sails = tt; waits = refl }
  longest_met (suc k) v = elim (greatest_met (allowed a s v) (on k v) (degree_of a v)) [
    | inl z ↦ record { moves = []; sails = tt; waits = sym z }
    | inr t ↦
        let m : ℕ = t.0 in
        let r = longest_met k (target_of a v m) in
        record {
          moves = m ∷ r.moves;
          sails = (t.1, may_back v m t.2, r.sails);
          waits = ap (λ w. cost_of a v m + cond (answers a q (target_of a v m)) 0 w) r.waits ∙ sym t.3;
        }
  ]

-- where v makes a request and where it does not
module _ (a : Arena) (v : ℕ) (ms : List ℕ) where
  pub wait_asked : colour_of a v % 2 ≡ 1 → wait_at a v ms ≡ wait a (colour_of a v) v ms
  wait_asked o = let e : requests a v ≡ true = grind arith in rw e

  pub wait_unasked : ¬ (colour_of a v % 2 ≡ 1) → wait_at a v ms ≡ 0
  wait_unasked o = let e : requests a v ≡ false = grind arith in rw e

pub worst_over : (a : Arena) (v : ℕ) (ms : List ℕ) → wait_at a v ms ≤ worst_wait a v ms
worst_over a v [] = omega arith
worst_over a v (m ∷ ms) = le-max_left _ _

module _ (a : Arena) (r : Ranged a) (Marked : ℕ → Type 0) (s : ℕ → ℕ) (safe : SafePlan a Marked s) where
  -- a bound on each request's wait bounds the worst wait
  worst_within : (bound : ℕ) → ((v : ℕ) (ms : List ℕ) → Marked v → colour_of a v % 2 ≡ 1 → Sails a s v ms → wait a (colour_of a v) v ms ≤ bound) →
      (v : ℕ) (ms : List ℕ) → Marked v → Sails a s v ms → worst_wait a v ms ≤ bound
  worst_within bound each v ms mk f = all ms v mk f
    where
      one : (y : ℕ) (ns : List ℕ) → Marked y → Sails a s y ns → wait_at a y ns ≤ bound
      one y ns my g = elim (ℕ_discrete (colour_of a y % 2) 1) [
        | yes o ↦ le_trans (le_of_eq (wait_asked a y ns o)) (each y ns my o g)
        | no o ↦ le_trans (le_of_eq (wait_unasked a y ns o)) (omega arith)
      ]

      all : (ns : List ℕ) (y : ℕ) → Marked y → Sails a s y ns → worst_wait a y ns ≤ bound
      all [] y my g = one y [] my g
      all (n ∷ ns) y my g = max-le (one y (n ∷ ns) my g) (all ns (target_of a y n) (safe.closed y _ my (n, g.0, g.1, refl)) g.2)

  -- every wait costs at most as much as one move less than there are vertices
  pub worst_low : (v : ℕ) (ms : List ℕ) → Marked v → Sails a s v ms → worst_wait a v ms ≤ (size a - 1) * greatest_cost a
  worst_low = worst_within ((size a - 1) * greatest_cost a) (λ v ms mk o f.
      let x = short a r Marked s safe v mk o ms f in
      let h = wait_cheap a s (colour_of a v) v x.moves x.sails in
      let l : length x.moves ≤ size a - 1 = (let k = x.short in omega arith) in
      let m = mul-le-mul_right (greatest_cost a) l in
      let e = x.waits in
      omega arith)

  -- a marked vertex is held
  pub marked_held : (v : ℕ) → Marked v → Held a v
  marked_held v mk =
      record {
        there = safe.there v mk;
        plan = standing a s v;
        bound = (size a - 1) * greatest_cost a;
        often = size a;
        picks = λ ms f g o d. safe.moves _ (sails_marked a r Marked s safe v ms mk (sails a s v ms f g)) o;
        waits = λ ms f g. worst_low v ms mk (sails a s v ms f g);
        shows = λ ms f g. few_showings a r Marked s safe v ms mk (sails a s v ms f g);
      }

-- there is one such number
pub greatest_wait_one : (a : Arena) (marked : ℕ → Bool) (s : ℕ → ℕ) (x y : ℕ) →
    GreatestWait a (λ v. marked v ≡ true) s x → GreatestWait a (λ v. marked v ≡ true) s y → (v : ℕ) → marked v ≡ true → x ≡ y
greatest_wait_one a marked s x y g h v m =
    let p = g.met v m in
    let q = h.met v m in
    let i = h.over p.0 p.1 p.2 p.3 in
    let j = g.over q.0 q.1 q.2 q.3 in
    let e = p.4 in
    let f = q.4 in
    omega arith

-- the number worked out move by move is the greatest wait
module _ (a : Arena) (r : Ranged a) (marked : ℕ → Bool) (s : ℕ → ℕ) (safe : SafePlan a (λ v. marked v ≡ true) s) where
  abbrev asks : ℕ → Bool
  asks v = marked v && requests a v

  abbrev most : ℕ → ℕ
  most v = longest a s (colour_of a v) (size a) v

  asks_is : (v : ℕ) → marked v ≡ true → colour_of a v % 2 ≡ 1 → asks v ≡ true
  asks_is v m o = let e : requests a v ≡ true = grind arith in rw (m, e)

  asks_back : (v : ℕ) → asks v ≡ true → (marked v ≡ true) × (colour_of a v % 2 ≡ 1)
  asks_back v t = (go (marked v) refl, elim (ℕ_discrete (colour_of a v % 2) 1) [ yes e ↦ e | no d ↦ absurd (odd d) ])
    where
      go : (b : Bool) → marked v ≡ b → b ≡ true
      go true e = refl
      go false e = absurd (let k : false ≡ true = rw e at t in let z : ◌≡◌ {A = ℕ} 0 1 = cc in omega arith)

      odd : ¬ (colour_of a v % 2 ≡ 1) → ⊥
      odd d = let e : requests a v ≡ false = grind arith in let m : marked v ≡ true = go (marked v) refl in let k : false ≡ true = rw (m, e) at t in let z : ◌≡◌ {A = ℕ} 0 1 = cc in omega arith

  waits_over : (v : ℕ) (ms : List ℕ) → marked v ≡ true → colour_of a v % 2 ≡ 1 → Sails a s v ms → wait a (colour_of a v) v ms ≤ greatest_wait a marked s
  waits_over v ms m o f =
      let x = short a r (λ v. marked v ≡ true) s safe v m o ms f in
      let h = longest_over a s (colour_of a v) (size a) v x.moves (let k = x.short in omega arith) x.sails in
      let g = greatest_over asks most (size a) v (safe.there v m) (asks_is v m o) in
      let e = x.waits in
      omega arith

  worst_under : (v : ℕ) (ms : List ℕ) → marked v ≡ true → Under a s v ms → worst_wait a v ms ≤ greatest_wait a marked s
  worst_under v ms m f = worst_within a r (λ v. marked v ≡ true) s safe (greatest_wait a marked s) waits_over v ms m (sails a s v ms f.0 f.1)

  worst_met : (v : ℕ) → marked v ≡ true → (u : ℕ) × (ms : List ℕ) × (marked u ≡ true) × Under a s u ms × (worst_wait a u ms ≡ greatest_wait a marked s)
  worst_met v m = elim (greatest_met asks most (size a)) [
    | inl z ↦ (v, [], m, (tt, tt), (let h = worst_under v [] m (tt, tt) in omega arith))
    | inr t ↦
        let u : ℕ = t.0 in
        let b = asks_back u t.2 in
        let x = longest_met a s (colour_of a u) (size a) u in
        let f : Under a s u x.moves = (sails_voyage a s u x.moves x.sails, sails_follows a s u x.moves x.sails) in
        let h = worst_under u x.moves b.0 f in
        let k = worst_over a u x.moves in
        let e = wait_asked a u x.moves b.1 in
        let w = x.waits in
        let g = t.3 in
        (u, x.moves, b.0, f, omega arith)
  ]

  pub greatest_wait_is : GreatestWait a (λ v. marked v ≡ true) s (greatest_wait a marked s)
  greatest_wait_is = record { over = worst_under; met = worst_met; none = λ n. greatest_none asks most (size a) (λ v h t. absurd (n v (asks_back v t).0)) }
