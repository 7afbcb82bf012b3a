-- The oldest wait of each colour along a voyage, and how one more move changes it.
use Rattle.std.proofs.Common.{◌≡◌, ℕ, suc, ◌+◌, ◌%◌, ◌≤◌, Bool, true, false, cond, not, ◌&&◌, eqb, ltb, ◌⊎◌, List, [], ◌∷◌, ◌++◌, sym, refl, ap, ◌∙◌, inl, inr, arith}
use Rattle.std.proofs.lemmas.Bool.{eq-eqb, eqb-true}
use Rattle.std.proofs.lemmas.Bool.Decides.{nat_tests}
use Rattle.chart.specs.Arena.{Arena}
use Rattle.game.specs.Reading.{colour_of, target_of, cost_of}
use Rattle.game.specs.Voyages.{reached, answers, wait, unanswered}
use Rattle.theory.proofs.Sailing.{wait_join}
use Rattle.helm.specs.Tally.{met}

-- an entry after a cost, where no sum is too great
abbrev pub longer : ℕ → ℕ → ℕ
longer cost t = cond (eqb t 0) 0 (t + cost)

pub longer_some : (c t : ℕ) → longer c (suc t) ≡ suc t + c
longer_some c t = grind (arith, nat_tests)

-- an arrival at colour k, for the entry of the odd colour q
module _ (k q : ℕ) where
  abbrev Answers : Bool
  Answers = eqb (k % 2) 0 && ltb q k

  met_answered : (t : ℕ) → Answers ≡ true → met k q t ≡ 0
  met_answered t e = grind (arith, nat_tests)

  met_kept : (t : ℕ) → Answers ≡ false → met k q (suc t) ≡ suc t
  met_kept t e = grind (arith, nat_tests)

  pub met_none : q % 2 ≡ 1 → met k q 0 ≡ cond (eqb k q) 1 0
  met_none odd = grind (arith, nat_tests)

  -- where no request waits yet, and the first move is made from a vertex that makes one (b) or not
  first_step : (b : Bool) (c : ℕ) → q % 2 ≡ 1 →
      cond (b && (not Answers && true)) (suc (c + cond Answers 0 0)) (cond (eqb k q) 1 0) ≡ met k q (longer c (cond b 1 0))
  first_step b c odd = go b Answers refl
    where
      go : (b x : Bool) → Answers ≡ x → cond (b && (not x && true)) (suc (c + cond x 0 0)) (cond (eqb k q) 1 0) ≡ met k q (longer c (cond b 1 0))
      go false x e = sym (met_none odd)
      go true true e = (let z : cond (eqb k q) 1 0 ≡ 0 = grind (arith, nat_tests) in z) ∙ sym (met_answered (1 + c) e)
      go true false e = (let z : suc (c + 0) ≡ suc c = omega arith in z) ∙ (sym (met_kept c e) ∙ ap (met k q) (let z : suc c ≡ 1 + c = omega arith in z))

  -- a request (b) that waits (u) as long as w, before the oldest of the others, r
  later_step : (b u : Bool) (c w r : ℕ) →
      cond (b && (u && (not Answers && true))) (suc (w + cond u (c + cond Answers 0 0) 0)) (met k q (longer c r)) ≡ met k q (longer c (cond (b && u) (suc w) r))
  later_step false u c w r = refl
  later_step true false c w r = refl
  later_step true true c w r = go Answers refl ∙ ap (met k q) (sym (longer_some c w))
    where
      go : (x : Bool) → Answers ≡ x → cond (not x && true) (suc (w + (c + cond x 0 0))) (met k q (longer c r)) ≡ met k q (suc w + c)
      go true e = met_answered (longer c r) e ∙ sym (met_answered (suc w + c) e)
      go false e = (let z : suc (w + (c + 0)) ≡ suc (w + c) = omega arith in z) ∙ (sym (met_kept (w + c) e) ∙ ap (met k q) (let z : suc (w + c) ≡ suc w + c = omega arith in z))

module _ (a : Arena) (q : ℕ) where
  unanswered_join : (v : ℕ) (xs ys : List ℕ) → unanswered a q v (xs ++ ys) ≡ (unanswered a q v xs && unanswered a q (reached a v xs) ys)
  unanswered_join v [] ys = refl
  unanswered_join v (x ∷ xs) ys =
      ap (λ u. not (answers a q (target_of a v x)) && u) (unanswered_join (target_of a v x) xs ys)
      ∙ both (not (answers a q (target_of a v x))) (unanswered a q (target_of a v x) xs) (unanswered a q (reached a (target_of a v x) xs) ys)
    where
      both : (x y z : Bool) → (x && (y && z)) ≡ ((x && y) && z)
      both true y z = refl
      both false y z = refl

  -- one more than the oldest wait of colour q at the end of the moves ms from v, 0 where none waits
  abbrev pub oldest : ℕ → List ℕ → ℕ
  oldest v [] = cond (eqb (colour_of a v) q) 1 0
  oldest v (m ∷ ms) = cond (eqb (colour_of a v) q && unanswered a q v (m ∷ ms)) (suc (wait a q v (m ∷ ms))) (oldest (target_of a v m) ms)

  pub oldest_push : (v : ℕ) (ms : List ℕ) (m : ℕ) → q % 2 ≡ 1 →
      oldest v (ms ++ m ∷ []) ≡ met (colour_of a (target_of a (reached a v ms) m)) q (longer (cost_of a (reached a v ms) m) (oldest v ms))
  oldest_push v [] m odd = first_step (colour_of a (target_of a v m)) q (eqb (colour_of a v) q) (cost_of a v m) odd
  oldest_push v (n ∷ ms) m odd =
      let k = colour_of a (target_of a (reached a v (n ∷ ms)) m) in
      let c = cost_of a (reached a v (n ∷ ms)) m in
      let b = eqb (colour_of a v) q in
      let u = unanswered a q v (n ∷ ms) in
      ap (λ x. cond (b && x) (suc (wait a q v (n ∷ (ms ++ m ∷ [])))) (oldest (target_of a v n) (ms ++ m ∷ []))) (unanswered_join v (n ∷ ms) (m ∷ []))
      ∙ (ap (λ w. cond (b && (u && (not (Answers k q) && true))) (suc w) (oldest (target_of a v n) (ms ++ m ∷ []))) (wait_join a q v (n ∷ ms) (m ∷ []))
      ∙ (ap (cond (b && (u && (not (Answers k q) && true))) (suc (wait a q v (n ∷ ms) + cond u (c + cond (Answers k q) 0 0) 0))) (oldest_push (target_of a v n) ms m odd)
      ∙ later_step k q b u c (wait a q v (n ∷ ms)) (oldest (target_of a v n) ms)))

  -- the oldest waits no longer than a request from the start would
  pub oldest_low : (v : ℕ) (ms : List ℕ) → unanswered a q v ms ≡ true → oldest v ms ≤ suc (wait a q v ms)
  oldest_low v [] e = one (eqb (colour_of a v) q)
    where
      one : (b : Bool) → cond b 1 0 ≤ 1
      one true = omega arith
      one false = omega arith
  oldest_low v (m ∷ ms) e =
      low_step (eqb (colour_of a v) q) (answers a q (target_of a v m)) (unanswered a q (target_of a v m) ms) (cost_of a v m) (wait a q (target_of a v m) ms)
      (oldest (target_of a v m) ms) e (oldest_low (target_of a v m) ms)
    where
      low_step : (b x u : Bool) (c w r : ℕ) → (not x && u) ≡ true → (u ≡ true → r ≤ suc w) → cond (b && (not x && u)) (suc (c + cond x 0 w)) r ≤ suc (c + cond x 0 w)
      low_step b true u c w r e h = cc
      low_step b false false c w r e h = cc
      low_step true false true c w r e h = omega arith
      low_step false false true c w r e h = let k = h refl in omega arith

  -- what waits from later on waits no longer
  pub oldest_falls : (v m : ℕ) (ms : List ℕ) → oldest (target_of a v m) ms ≤ oldest v (m ∷ ms)
  oldest_falls v m ms =
      falls_step (eqb (colour_of a v) q) (answers a q (target_of a v m)) (unanswered a q (target_of a v m) ms) (cost_of a v m) (wait a q (target_of a v m) ms)
      (oldest (target_of a v m) ms) (oldest_low (target_of a v m) ms)
    where
      falls_step : (b x u : Bool) (c w r : ℕ) → (u ≡ true → r ≤ suc w) → r ≤ cond (b && (not x && u)) (suc (c + cond x 0 w)) r
      falls_step false x u c w r h = omega arith
      falls_step true true u c w r h = omega arith
      falls_step true false false c w r h = omega arith
      falls_step true false true c w r h = let k = h refl in omega arith

  -- a request of the colour at v that waits to the end is the oldest
  pub oldest_here : (v : ℕ) (ms : List ℕ) → colour_of a v ≡ q → unanswered a q v ms ≡ true → oldest v ms ≡ suc (wait a q v ms)
  oldest_here v [] e u = rw (eq-eqb (colour_of a v) q e)
  oldest_here v (m ∷ ms) e u = rw (eq-eqb (colour_of a v) q e, u)

  -- otherwise the oldest is one of the others
  pub oldest_cases : (v m : ℕ) (ms : List ℕ) →
      ((colour_of a v ≡ q) × (unanswered a q v (m ∷ ms) ≡ true) × (oldest v (m ∷ ms) ≡ suc (wait a q v (m ∷ ms)))) ⊎ (oldest v (m ∷ ms) ≡ oldest (target_of a v m) ms)
  oldest_cases v m ms = go (eqb (colour_of a v) q) (unanswered a q v (m ∷ ms)) refl refl
    where
      go : (b u : Bool) → eqb (colour_of a v) q ≡ b → unanswered a q v (m ∷ ms) ≡ u →
          ((colour_of a v ≡ q) × (unanswered a q v (m ∷ ms) ≡ true) × (oldest v (m ∷ ms) ≡ suc (wait a q v (m ∷ ms)))) ⊎ (oldest v (m ∷ ms) ≡ oldest (target_of a v m) ms)
      go true true e f = let is = eqb-true (colour_of a v) q e in inl (is, f, oldest_here v (m ∷ ms) is f)
      go true false e f = inr (rw (e, f))
      go false u e f = inr (rw e)
