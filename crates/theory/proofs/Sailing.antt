-- Voyages put together and taken apart, and their waits.
use Rattle.chart.specs.Arena.{Arena, size, Ranged}
use Rattle.game.specs.Reading.{owner_of, degree_of, target_of, cost_of}
use Rattle.game.specs.Voyages.{Voyage, reached, passed, answers, wait, unanswered}
use Rattle.game.specs.Held.{Plan, standing, Follows, Picks}
use Rattle.game.proofs.Readings.{target_low, owner_other}
use Rattle.theory.specs.Sailing.{Sails}
use Rattle.std.proofs.Common.{◌≡◌, ℕ, zero, suc, ◌+◌, ◌<◌, Bool, true, false, cond, not, ◌&&◌, List, [], ◌∷◌, ◌++◌, length, sym, refl, ap, ◌∙◌, subst, arith, length-append}
use native.Mathlib.Decide.{ℕ_discrete}

module _ (a : Arena) where
  pub reached_join : (v : ℕ) (xs ys : List ℕ) → reached a v (xs ++ ys) ≡ reached a (reached a v xs) ys
  reached_join v [] ys = refl
  reached_join v (x ∷ xs) ys = reached_join (target_of a v x) xs ys

  pub passed_long : (v : ℕ) (ms : List ℕ) → length (passed a v ms) ≡ suc (length ms)
  passed_long v [] = refl
  passed_long v (m ∷ ms) = ap suc (passed_long (target_of a v m) ms)

  -- a voyage that is followed by one more move
  pub voyage_push : (v : ℕ) (ms : List ℕ) (m : ℕ) → Voyage a v ms → m < degree_of a (reached a v ms) → Voyage a v (ms ++ (m ∷ []))
  voyage_push v [] m f h = (h, tt)
  voyage_push v (n ∷ ms) m f h = (f.0, voyage_push (target_of a v n) ms m f.1 h)

  pub follows_push : (plan : Plan) (v : ℕ) (ms : List ℕ) (m : ℕ) → Follows a plan v ms →
      (owner_of a (reached a v ms) ≡ 0 → m ≡ plan ms) → Follows a plan v (ms ++ (m ∷ []))
  follows_push plan v [] m f e = (e, tt)
  follows_push plan v (n ∷ ms) m f e = (f.0, follows_push (λ past. plan (n ∷ past)) (target_of a v n) ms m f.1 e)

  module _ (s : ℕ → ℕ) where
    pub sails : (v : ℕ) (ms : List ℕ) → Voyage a v ms → Follows a (standing a s v) v ms → Sails a s v ms
    sails v [] f g = tt
    sails v (m ∷ ms) f g = (f.0, g.0, sails (target_of a v m) ms f.1 g.1)

    pub sails_voyage : (v : ℕ) (ms : List ℕ) → Sails a s v ms → Voyage a v ms
    sails_voyage v [] f = tt
    sails_voyage v (m ∷ ms) f = (f.0, sails_voyage (target_of a v m) ms f.2)

    pub sails_follows : (v : ℕ) (ms : List ℕ) → Sails a s v ms → Follows a (standing a s v) v ms
    sails_follows v [] f = tt
    sails_follows v (m ∷ ms) f = (f.1, sails_follows (target_of a v m) ms f.2)

    pub sails_join : (v : ℕ) (xs ys : List ℕ) → Sails a s v xs → Sails a s (reached a v xs) ys → Sails a s v (xs ++ ys)
    sails_join v [] ys f g = g
    sails_join v (x ∷ xs) ys f g = (f.0, f.1, sails_join (target_of a v x) xs ys f.2 g)

    pub sails_apart : (v : ℕ) (xs ys : List ℕ) → Sails a s v (xs ++ ys) → Sails a s v xs × Sails a s (reached a v xs) ys
    sails_apart v [] ys f = (tt, f)
    sails_apart v (x ∷ xs) ys f = let r = sails_apart (target_of a v x) xs ys f.2 in ((f.0, f.1, r.0), r.1)

  -- where a vertex passed splits the voyage
  pub record Stop (v : ℕ) (ms : List ℕ) (p : ℕ) (before rest : List ℕ) : Type 0 where
    pub front : List ℕ
    pub back : List ℕ
    pub is : ms ≡ front ++ back
    pub long : length front ≡ length before
    pub there : reached a v front ≡ p
    pub on : passed a p back ≡ p ∷ rest

  pub stop : (v : ℕ) (ms : List ℕ) (p : ℕ) (before rest : List ℕ) → passed a v ms ≡ before ++ (p ∷ rest) → Stop v ms p before rest
  stop v [] p [] rest e = let h : v ≡ p = cc in record { front = []; back = []; is = refl; long = refl; there = h; on = ap (λ x. x ∷ []) (sym h) ∙ e }
  stop v (m ∷ ms) p [] rest e = let h : v ≡ p = cc in record { front = []; back = m ∷ ms; is = refl; long = refl; there = h; on = subst (λ x. passed a x (m ∷ ms) ≡ p ∷ rest) h e }
  stop v [] p (x ∷ before) rest e = absurd (let h : ◌≡◌ {A = ℕ} 1 (length (x ∷ (before ++ (p ∷ rest)))) = ap length e in let k = length-append before (p ∷ rest) in omega arith)
  stop v (m ∷ ms) p (x ∷ before) rest e =
      let t : passed a (target_of a v m) ms ≡ before ++ (p ∷ rest) = cc in
      let r = stop (target_of a v m) ms p before rest t in
      record { front = m ∷ r.front; back = r.back; is = ap (λ z. m ∷ z) r.is; long = ap suc r.long; there = r.there; on = r.on }

  both : (x y : Bool) → (not x && y) ≡ true → (x ≡ false) × (y ≡ true)
  both true y e = cc
  both false y e = (refl, e)

  -- a request of the colour q
  module _ (q : ℕ) where
    pub unanswered_first : (v m : ℕ) (ms : List ℕ) → unanswered a q v (m ∷ ms) ≡ true → (answers a q (target_of a v m) ≡ false) × (unanswered a q (target_of a v m) ms ≡ true)
    unanswered_first v m ms e = both (answers a q (target_of a v m)) (unanswered a q (target_of a v m) ms) e

    wait_on : (b c : Bool) (x y z : ℕ) → x + cond b 0 (y + cond c z 0) ≡ x + cond b 0 y + cond (not b && c) z 0
    wait_on true c x y z = omega arith
    wait_on false c x y z = omega arith

    pub wait_join : (v : ℕ) (xs ys : List ℕ) → wait a q v (xs ++ ys) ≡ wait a q v xs + cond (unanswered a q v xs) (wait a q (reached a v xs) ys) 0
    wait_join v [] ys = omega arith
    wait_join v (x ∷ xs) ys =
        let y : ℕ = target_of a v x in
        ap (λ w. cost_of a v x + cond (answers a q y) 0 w) (wait_join y xs ys)
        ∙ wait_on (answers a q y) (unanswered a q y xs) (cost_of a v x) (wait a q y xs) (wait a q (reached a y xs) ys)

    -- what is not answered ends at no answer
    pub open_end : (v : ℕ) (xs : List ℕ) → answers a q v ≡ false → unanswered a q v xs ≡ true → answers a q (reached a v xs) ≡ false
    open_end v [] n e = n
    open_end v (x ∷ xs) n e = let r = unanswered_first v x xs e in open_end (target_of a v x) xs r.0 r.1

-- a voyage of n moves that follows the plan, and of which Against holds
pub record Sailed (a : Arena) (plan : Plan) (v : ℕ) (Against : List ℕ → Type 0) (n : ℕ) : Type 0 where
  pub moves : List ℕ
  pub long : length moves ≡ n
  pub voyage : Voyage a v moves
  pub follows : Follows a plan v moves
  pub against : Against moves

-- where every vertex has a move, such a voyage can be as long as one likes, if the harbour can
-- always go on
module _ (a : Arena) (r : Ranged a) (mv : (v : ℕ) → v < size a → 0 < degree_of a v) (plan : Plan) (v : ℕ) (hv : v < size a) (picks : Picks a plan v)
    (Against : List ℕ → Type 0) (begin : Against [])
    (ours : (ms : List ℕ) (m : ℕ) → Against ms → owner_of a (reached a v ms) ≡ 0 → m < degree_of a (reached a v ms) → Against (ms ++ (m ∷ [])))
    (theirs : (ms : List ℕ) → Against ms → owner_of a (reached a v ms) ≡ 1 → (m : ℕ) × (m < degree_of a (reached a v ms)) × Against (ms ++ (m ∷ []))) where
  reached_low : (x : ℕ) (ms : List ℕ) → x < size a → Voyage a x ms → reached a x ms < size a
  reached_low x [] h f = h
  reached_low x (m ∷ ms) h f = reached_low (target_of a x m) ms (target_low a r x m f.0) f.1

  pub sail : (n : ℕ) → Sailed a plan v Against n
  sail zero = record { moves = []; long = refl; voyage = tt; follows = tt; against = begin }
  sail (suc n) =
      let t = sail n in
      let ms : List ℕ = t.moves in
      let x : ℕ = reached a v ms in
      let on : (m : ℕ) → m < degree_of a x → (owner_of a x ≡ 0 → m ≡ plan ms) → Against (ms ++ (m ∷ [])) → Sailed a plan v Against (suc n) =
      λ m h p q. record {
        moves = ms ++ (m ∷ []);
        long = length-append ms (m ∷ []) ∙ (let z = t.long in omega arith);
        voyage = voyage_push a v ms m t.voyage h;
        follows = follows_push a plan v ms m t.follows p;
        against = q;
      } in
      elim (ℕ_discrete (owner_of a x) 0) [
        | yes o ↦
            let h : plan ms < degree_of a x = picks ms t.voyage t.follows o (mv x (reached_low v ms hv t.voyage)) in
            on (plan ms) h (λ z. refl) (ours ms (plan ms) t.against o h)
        | no o ↦ let m = theirs ms t.against (owner_other a r x o) in on m.0 m.1 (λ z. absurd (o z)) m.2
      ]
