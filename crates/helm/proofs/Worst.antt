-- The worst wait and the highest waiting colour of a voyage, by the oldest waits of the odd colours.
use Rattle.std.proofs.Common.{◌≡◌, ℕ, zero, suc, ◌+◌, ◌*◌, ◌%◌, ◌<◌, ◌≤◌, max, Bool, true, false, cond, ◌&&◌, eqb, List, [], ◌∷◌, ◌++◌, length, refl, ap, ◌∙◌, subst, inl, inr, arith}
use Rattle.std.proofs.lemmas.Bool.{eq-eqb, eqb-true, and_parts, cases_lt}
use Rattle.chart.specs.Arena.{Arena, Ranged}
use Rattle.game.specs.Reading.{colour_of, target_of, cost_of}
use Rattle.game.specs.Voyages.{reached, requests, answers, wait, wait_at, worst_wait, unanswered, waits_on, still_waiting, highest, highest_waiting}
use Rattle.game.proofs.Readings.{colour_low, cost_low}
use Rattle.theory.proofs.Sailing.{wait_join}
use Rattle.helm.proofs.Oldest.{longer, longer_some, oldest, oldest_low, oldest_falls, oldest_here, oldest_cases}

longer_mono : (c s t : ℕ) → s ≤ t → longer c s ≤ longer c t
longer_mono c zero t h = omega arith
longer_mono c (suc s) zero h = absurd (omega arith)
longer_mono c (suc s) (suc t) h = let e = longer_some c s in let f = longer_some c t in omega arith

pub either_none : (b : Bool) → cond {A = ℕ} b 0 0 ≡ 0
either_none true = refl
either_none false = refl

module _ (a : Arena) where
  -- the cost of the move m after the moves ms from v
  abbrev last_cost : ℕ → List ℕ → ℕ → ℕ
  last_cost v ms m = cost_of a (reached a v ms) m

  wait_more : (q v : ℕ) (ms : List ℕ) (m : ℕ) → wait a q v (ms ++ m ∷ []) ≡ wait a q v ms + cond (unanswered a q v ms) (last_cost v ms m) 0
  wait_more q v ms m =
      let none = either_none (answers a q (target_of a (reached a v ms) m)) in
      let last : last_cost v ms m + cond (answers a q (target_of a (reached a v ms) m)) 0 0 ≡ last_cost v ms m = omega arith in
      wait_join a q v ms (m ∷ []) ∙ ap (λ c. wait a q v ms + cond (unanswered a q v ms) c 0) last

  -- one more move, within a bound
  module _ (B : ℕ) where
    at_within : (v : ℕ) (ms : List ℕ) (m : ℕ) → wait_at a v ms ≤ B → ((q : ℕ) → q % 2 ≡ 1 → longer (last_cost v ms m) (oldest a q v ms) ≤ suc B) → wait_at a v (ms ++ m ∷ []) ≤ B
    at_within v ms m h k = go (requests a v) refl (unanswered a (colour_of a v) v ms) refl
      where
        go : (b : Bool) → requests a v ≡ b → (u : Bool) → unanswered a (colour_of a v) v ms ≡ u → wait_at a v (ms ++ m ∷ []) ≤ B
        go false e u f = rw e (omega arith)
        go true e false f =
            let w : wait a (colour_of a v) v ms ≤ B = rw e at h in
            rw (e, wait_more (colour_of a v) v ms m, f) (omega arith)
        go true e true f =
            let l = k (colour_of a v) (eqb-true (colour_of a v % 2) 1 e) in
            let o = oldest_here a (colour_of a v) v ms refl f in
            let s = longer_some (last_cost v ms m) (wait a (colour_of a v) v ms) in
            let t : longer (last_cost v ms m) (suc (wait a (colour_of a v) v ms)) ≤ suc B = rw o at l in
            rw (e, wait_more (colour_of a v) v ms m, f) (omega arith)

    pub worst_within : (v : ℕ) (ms : List ℕ) (m : ℕ) → worst_wait a v ms ≤ B → ((q : ℕ) → q % 2 ≡ 1 → longer (last_cost v ms m) (oldest a q v ms) ≤ suc B) → worst_wait a v (ms ++ m ∷ []) ≤ B
    worst_within v [] m h k =
        let x = at_within v [] m h k in
        let y = either_none (requests a (target_of a v m)) in
        omega arith
    worst_within v (n ∷ ms) m h k =
        let x = at_within v (n ∷ ms) m (omega arith) k in
        let y = worst_within (target_of a v n) ms m (omega arith) (λ q o. let l = k q o in let f = longer_mono (last_cost v (n ∷ ms) m) _ _ (oldest_falls a q v n ms) in omega arith) in
        omega arith

  at_grows : (v : ℕ) (ms : List ℕ) (m : ℕ) → wait_at a v ms ≤ wait_at a v (ms ++ m ∷ [])
  at_grows v ms m = go (requests a v)
    where
      go : (b : Bool) → cond b (wait a (colour_of a v) v ms) 0 ≤ cond b (wait a (colour_of a v) v (ms ++ m ∷ [])) 0
      go true = let w = wait_more (colour_of a v) v ms m in omega arith
      go false = omega arith

  pub worst_grows : (v : ℕ) (ms : List ℕ) (m : ℕ) → worst_wait a v ms ≤ worst_wait a v (ms ++ m ∷ [])
  worst_grows v [] m = let h = at_grows v [] m in omega arith
  worst_grows v (n ∷ ms) m = let h = at_grows v (n ∷ ms) m in let k = worst_grows (target_of a v n) ms m in omega arith

  -- the oldest wait of a colour is one of the waits
  module _ (q : ℕ) (odd : q % 2 ≡ 1) where
    asks_here : (v : ℕ) → colour_of a v ≡ q → requests a v ≡ true
    asks_here v e = eq-eqb (colour_of a v % 2) 1 (ap (λ n. n % 2) e ∙ odd)

    at_met : (v : ℕ) (ms : List ℕ) (m : ℕ) → colour_of a v ≡ q → unanswered a q v ms ≡ true → longer (last_cost v ms m) (oldest a q v ms) ≤ suc (wait_at a v (ms ++ m ∷ []))
    at_met v ms m e u =
        let o = oldest_here a q v ms e u in
        let s = longer_some (last_cost v ms m) (wait a q v ms) in
        let asks = asks_here v e in
        let w : wait_at a v (ms ++ m ∷ []) ≡ wait a q v (ms ++ m ∷ []) = rw (asks, e) in
        let x : wait a q v (ms ++ m ∷ []) ≡ wait a q v ms + last_cost v ms m = rw u at (wait_more q v ms m) in
        rw o (omega arith)

    pub worst_met : (v : ℕ) (ms : List ℕ) (m : ℕ) → longer (last_cost v ms m) (oldest a q v ms) ≤ suc (worst_wait a v (ms ++ m ∷ []))
    worst_met v [] m = go (eqb (colour_of a v) q) refl
      where
        go : (b : Bool) → eqb (colour_of a v) q ≡ b → longer (last_cost v [] m) (oldest a q v []) ≤ suc (worst_wait a v (m ∷ []))
        go true e = let h = at_met v [] m (eqb-true (colour_of a v) q e) refl in omega arith
        go false e = rw e (omega arith)
    worst_met v (n ∷ ms) m = elim (oldest_cases a q v n ms) [
      | inl x ↦ let h = at_met v (n ∷ ms) m x.0 x.1 in omega arith
      | inr e ↦ let h = worst_met (target_of a v n) ms m in rw e (omega arith)
    ]

    waits_highest : (v : ℕ) (ms xs : List ℕ) → colour_of a v ≡ q → unanswered a q v ms ≡ true → q ≤ highest (waits_on a v ms xs)
    waits_highest v ms xs e u =
        let asks = asks_here v e in
        let still : unanswered a (colour_of a v) v ms ≡ true = ap (λ n. unanswered a n v ms) e ∙ u in
        rw (asks, still) (omega arith)

    more_highest : (b : Bool) (k : ℕ) (xs : List ℕ) → highest xs ≤ highest (cond b (k ∷ xs) xs)
    more_highest true k xs = omega arith
    more_highest false k xs = omega arith

    -- what waits is no higher than the highest
    pub highest_over : (v : ℕ) (ms : List ℕ) → 0 < oldest a q v ms → q ≤ highest_waiting a v ms
    highest_over v [] h = go (eqb (colour_of a v) q) refl
      where
        go : (b : Bool) → eqb (colour_of a v) q ≡ b → q ≤ highest_waiting a v []
        go true e = waits_highest v [] [] (eqb-true (colour_of a v) q e) refl
        go false e = let z : 0 < 0 = rw e at h in omega arith
    highest_over v (m ∷ ms) h = elim (oldest_cases a q v m ms) [
      | inl x ↦ waits_highest v (m ∷ ms) (still_waiting a (target_of a v m) ms) x.0 x.1
      | inr e ↦
          let k = highest_over (target_of a v m) ms (omega arith) in
          let l = more_highest (requests a v && unanswered a (colour_of a v) v (m ∷ ms)) (colour_of a v) (still_waiting a (target_of a v m) ms) in
          omega arith
    ]

  -- the highest waiting colour, if any, is odd and waits
  abbrev Waits : ℕ → List ℕ → ℕ → Type 0
  Waits v ms h = (h % 2 ≡ 1) × (0 < oldest a h v ms)

  waits_here : (v : ℕ) (ms : List ℕ) → (requests a v && unanswered a (colour_of a v) v ms) ≡ true → Waits v ms (colour_of a v)
  waits_here v ms e =
      let p = and_parts (requests a v) (unanswered a (colour_of a v) v ms) e in
      let o = oldest_here a (colour_of a v) v ms refl p.1 in
      (eqb-true (colour_of a v % 2) 1 p.0, omega arith)

  -- what waits from later on waits
  later : (v m : ℕ) (ms : List ℕ) (h : ℕ) → Waits (target_of a v m) ms h → Waits v (m ∷ ms) h
  later v m ms h w = let f = oldest_falls a h v m ms in let p = w.1 in (w.0, omega arith)

  pub highest_met : (v : ℕ) (ms : List ℕ) → 0 < highest_waiting a v ms → Waits v ms (highest_waiting a v ms)
  highest_met v [] h = go (requests a v && true) refl h
    where
      go : (b : Bool) → (requests a v && true) ≡ b → 0 < highest (cond b (colour_of a v ∷ []) []) → Waits v [] (highest (cond b (colour_of a v ∷ []) []))
      go true e h = let m : colour_of a v ≡ max (colour_of a v) 0 = omega arith in subst (Waits v []) m (waits_here v [] e)
      go false e h = absurd (omega arith)
  highest_met v (m ∷ ms) h = go (requests a v && unanswered a (colour_of a v) v (m ∷ ms)) refl (λ k. later v m ms _ (highest_met (target_of a v m) ms k)) h
    where
      go : (b : Bool) → (requests a v && unanswered a (colour_of a v) v (m ∷ ms)) ≡ b →
          (0 < highest_waiting a (target_of a v m) ms → Waits v (m ∷ ms) (highest_waiting a (target_of a v m) ms)) →
          0 < highest (cond b (colour_of a v ∷ still_waiting a (target_of a v m) ms) (still_waiting a (target_of a v m) ms)) →
          Waits v (m ∷ ms) (highest (cond b (colour_of a v ∷ still_waiting a (target_of a v m) ms) (still_waiting a (target_of a v m) ms)))
      go false e others h = others h
      go true e others h = elim (cases_lt (colour_of a v) (highest_waiting a (target_of a v m) ms)) [
        | inl l ↦ let k : highest_waiting a (target_of a v m) ms ≡ max (colour_of a v) (highest_waiting a (target_of a v m) ms) = omega arith in subst (Waits v (m ∷ ms)) k (others (omega arith))
        | inr l ↦ let k : colour_of a v ≡ max (colour_of a v) (highest_waiting a (target_of a v m) ms) = omega arith in subst (Waits v (m ∷ ms)) k (waits_here v (m ∷ ms) e)
      ]

  -- what a chart's ranges say of the waits
  module _ (r : Ranged a) (q : ℕ) where
    pub oldest_coloured : (v : ℕ) (ms : List ℕ) → 0 < oldest a q v ms → q ≤ a.height
    oldest_coloured v [] h = go (eqb (colour_of a v) q) refl
      where
        go : (b : Bool) → eqb (colour_of a v) q ≡ b → q ≤ a.height
        go true e = let k = colour_low a r v in let is = eqb-true (colour_of a v) q e in omega arith
        go false e = let z : 0 < 0 = rw e at h in omega arith
    oldest_coloured v (m ∷ ms) h = elim (oldest_cases a q v m ms) [
      | inl x ↦ let k = colour_low a r v in let is = x.0 in omega arith
      | inr e ↦ oldest_coloured (target_of a v m) ms (omega arith)
    ]

    wait_bounded : (v : ℕ) (ms : List ℕ) → wait a q v ms ≤ 10000 * length ms
    wait_bounded v [] = omega arith
    wait_bounded v (m ∷ ms) = go (cost_of a v m) (wait a q (target_of a v m) ms) (length ms) (answers a q (target_of a v m)) (cost_low a r v m) (wait_bounded (target_of a v m) ms)
      where
        go : (c w n : ℕ) (x : Bool) → c ≤ 10000 → w ≤ 10000 * n → c + cond x 0 w ≤ 10000 * suc n
        go c w n true h k = omega arith
        go c w n false h k = omega arith

    pub oldest_bounded : (v : ℕ) (ms : List ℕ) → oldest a q v ms ≤ suc (10000 * length ms)
    oldest_bounded v [] = oldest_low a q v [] refl
    oldest_bounded v (m ∷ ms) = elim (oldest_cases a q v m ms) [
      | inl x ↦ let e = x.2 in let w = wait_bounded v (m ∷ ms) in omega arith
      | inr e ↦ let k = oldest_bounded (target_of a v m) ms in omega arith
    ]
