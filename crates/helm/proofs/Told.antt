-- What a tally tells whose entries are the oldest waits of a voyage.
use Rattle.std.proofs.Common.{◌≡◌, ℕ, zero, suc, ◌+◌, ◌*◌, ◌/◌, ◌%◌, ◌<◌, ◌≤◌, min, max, cond, eqb, List, [], ◌∷◌, ◌++◌, map, length, get_or, sym, refl, ap, ◌∙◌, arith}
use Rattle.std.proofs.lemmas.List.{get_or-map, length-map}
use Rattle.chart.specs.Arena.{Arena, Ranged}
use Rattle.game.specs.Reading.{colour_of, target_of, cost_of}
use Rattle.game.specs.Voyages.{reached, worst_wait, highest_waiting}
use Rattle.game.proofs.Readings.{cost_low}
use Rattle.helm.specs.Tally.{greatest, grown, met, cleared, longest, highest_open}
use Rattle.helm.specs.Calls.{half, waits_begun, waits_passed}
use Rattle.helm.proofs.Entries.{length_arrived, get_or_arrived, highest_open_over, highest_open_met}
use Rattle.helm.proofs.Oldest.{longer, oldest, oldest_push, met_none}
use Rattle.helm.proofs.Worst.{worst_within, worst_grows, worst_met, highest_over, highest_met, oldest_coloured, oldest_bounded}

longest_within : (B : ℕ) (xs : List ℕ) → ((i : ℕ) → i < length xs → get_or xs i 0 ≤ suc B) → longest xs ≤ B
longest_within B [] h = omega arith
longest_within B (x ∷ xs) h =
    let f = h 0 (omega arith) in
    let k = longest_within B xs (λ i l. h (suc i) (omega arith)) in
    omega arith

longest_over : (xs : List ℕ) (i : ℕ) → i < length xs → get_or xs i 0 ≤ suc (longest xs)
longest_over [] i h = absurd (omega arith)
longest_over (x ∷ xs) zero h = omega arith
longest_over (x ∷ xs) (suc i) h = let k = longest_over xs i (omega arith) in omega arith

grown_longer : (c t : ℕ) → t + c ≤ greatest → grown c t ≡ longer c t
grown_longer c zero h = refl
grown_longer c (suc t) h = ap (cond (eqb (suc t) 0) 0) (let e : min (suc t + c) greatest ≡ suc t + c = omega arith in e)

-- Each used entry is the oldest wait of its colour, after the moves ms from v.
pub record Tells (a : Arena) (v : ℕ) (ms xs : List ℕ) : Type 0 where
  pub long : length xs ≡ half a
  pub entries : (i : ℕ) → i < half a → get_or xs i 0 ≡ oldest a (2 * i + 1) v ms

pub tells_begun : (a : Arena) (v : ℕ) (xs : List ℕ) → length xs ≡ half a → Tells a v [] (waits_begun a v xs)
tells_begun a v xs l = record { long = length_arrived (colour_of a v) 1 (cleared xs) ∙ wide; entries = entry }
  where
    wide : length (cleared xs) ≡ half a
    wide = length-map xs (λ (t : ℕ). 0) ∙ l

    entry : (i : ℕ) → i < half a → get_or (waits_begun a v xs) i 0 ≡ oldest a (2 * i + 1) v []
    entry i h =
        let odd : (2 * i + 1) % 2 ≡ 1 = omega arith in
        let e = wide in
        get_or_arrived (colour_of a v) 1 (cleared xs) i (omega arith)
        ∙ (ap (met (colour_of a v) (2 * i + 1)) (get_or-map (λ (t : ℕ). 0) xs i 0 0 (omega arith)) ∙ met_none (colour_of a v) (2 * i + 1) odd)

module _ (a : Arena) (r : Ranged a) (v : ℕ) (ms xs : List ℕ) (tells : Tells a v ms xs) where
  -- the entry of an odd colour that waits
  entry_of : (q : ℕ) → q % 2 ≡ 1 → 0 < oldest a q v ms → (i : ℕ) × (i < length xs) × (2 * i + 1 ≡ q) × (get_or xs i 0 ≡ oldest a q v ms)
  entry_of q odd w =
      let h = oldest_coloured a r q v ms w in
      let e = r.even in
      let l = tells.long in
      let i : ℕ = q / 2 in
      let low : i < half a = omega arith in
      let is : 2 * i + 1 ≡ q = omega arith in
      (i, omega arith, is, tells.entries i low ∙ ap (λ n. oldest a n v ms) is)

  highest_most : (h : ℕ) → h ≡ highest_waiting a v ms → h ≤ highest_open 1 xs
  highest_most zero e = omega arith
  highest_most (suc h) e =
      let w = highest_met a v ms (omega arith) in
      let x = entry_of (highest_waiting a v ms) w.0 w.1 in
      let p = w.1 in
      let same = x.3 in
      let k = highest_open_over 1 xs x.0 x.1 (omega arith) in
      let is = x.2 in
      omega arith

  highest_least : (h : ℕ) → h ≡ highest_open 1 xs → h ≤ highest_waiting a v ms
  highest_least zero e = omega arith
  highest_least (suc h) e =
      let o = highest_open_met 1 xs (omega arith) in
      let i = o.at in
      let odd : (2 * i + 1) % 2 ≡ 1 = omega arith in
      let l = tells.long in
      let low = o.low in
      let w = o.waits in
      let same = tells.entries i (omega arith) in
      let k = highest_over a (2 * i + 1) odd v ms (omega arith) in
      let is = o.is in
      omega arith

  pub highest_told : highest_open 1 xs ≡ highest_waiting a v ms
  highest_told = let h = highest_most _ refl in let k = highest_least _ refl in omega arith

  -- one more move, of a voyage that is not too long
  module _ (m : ℕ) (few : length ms < 1000000) where
    abbrev c : ℕ
    c = cost_of a (reached a v ms) m

    abbrev k : ℕ
    k = colour_of a (target_of a (reached a v ms) m)

    grown_here : (i : ℕ) → i < length xs → get_or (map (grown c) xs) i 0 ≡ longer c (oldest a (2 * i + 1) v ms)
    grown_here i h =
        let l = tells.long in
        let b = oldest_bounded a r (2 * i + 1) v ms in
        let d = cost_low a r (reached a v ms) m in
        get_or-map (grown c) xs i 0 0 h ∙ (ap (grown c) (tells.entries i (omega arith)) ∙ grown_longer c (oldest a (2 * i + 1) v ms) (omega arith))

    abbrev now_worst : ℕ
    now_worst = max (worst_wait a v ms) (longest (map (grown c) xs))

    colour_within : (q : ℕ) → q % 2 ≡ 1 → (t : ℕ) → t ≡ oldest a q v ms → longer c t ≤ suc now_worst
    colour_within q odd zero e = omega arith
    colour_within q odd (suc t) e =
        let x = entry_of q odd (omega arith) in
        let i = x.0 in
        let wide = length-map xs (grown c) in
        let low = x.1 in
        let o = longest_over (map (grown c) xs) i (omega arith) in
        let g = grown_here i x.1 in
        let same : longer c (oldest a (2 * i + 1) v ms) ≡ longer c (suc t) = ap (λ n. longer c (oldest a n v ms)) x.2 ∙ ap (longer c) (sym e) in
        omega arith

    pub worst_told : now_worst ≡ worst_wait a v (ms ++ m ∷ [])
    worst_told =
        let up = worst_within a now_worst v ms m (omega arith) (λ q odd. colour_within q odd (oldest a q v ms) refl) in
        let grows = worst_grows a v ms m in
        let down = longest_within (worst_wait a v (ms ++ m ∷ [])) (map (grown c) xs) (λ i h.
        let wide = length-map xs (grown c) in
        let odd : (2 * i + 1) % 2 ≡ 1 = omega arith in
        let w = worst_met a (2 * i + 1) odd v ms m in
        let g = grown_here i (omega arith) in
        omega arith) in
        omega arith

    pub tells_moved : Tells a v (ms ++ m ∷ []) (waits_passed c k xs)
    tells_moved = record { long = length_arrived k 1 (map (grown c) xs) ∙ (length-map xs (grown c) ∙ tells.long); entries = entry }
      where
        entry : (i : ℕ) → i < half a → get_or (waits_passed c k xs) i 0 ≡ oldest a (2 * i + 1) v (ms ++ m ∷ [])
        entry i h =
            let wide = length-map xs (grown c) in
            let l = tells.long in
            let odd : (2 * i + 1) % 2 ≡ 1 = omega arith in
            get_or_arrived k 1 (map (grown c) xs) i (omega arith) ∙ (ap (met k (2 * i + 1)) (grown_here i (omega arith)) ∙ sym (oldest_push a (2 * i + 1) v ms m odd))
