-- The least number above the colours of a region, one position after another.
use Rattle.std.proofs.Common.{ℕ, ◌+◌, ◌<◌, ◌≤◌, ap, arith}
use Rattle.std.proofs.lemmas.Grind.{common_steps}
use Rattle.std.specs.Ordering.{ord_max, nat_cmp}
use native.Mathlib.Decide.{ℕ_discrete}
use Rattle.walks.specs.Games.{Game}
use Rattle.parity.specs.Rounds.{Highest}

pub highest_same : (g : Game) (b n : ℕ) (t : ℕ → ℕ) (c : ℕ) → Highest g b n t c → b ≤ t n → Highest g b (n + 1) t c
highest_same g b n t c h out =
    record {
      covers = λ p l k. elim (ℕ_discrete p n) [
        | yes e ↦ absurd (let y = ap t e in omega arith)
        | no d ↦ h.covers p (omega arith) k
      ];
      least = λ e f. h.least e (λ p l. f p (omega arith));
    }

pub highest_more : (g : Game) (b n : ℕ) (t : ℕ → ℕ) (c : ℕ) → Highest g b n t c → t n < b → Highest g b (n + 1) t (ord_max nat_cmp c (g.colour n + 1))
highest_more g b n t c h low =
    record {
      covers = λ p l k. elim (ℕ_discrete p n) [
        | yes e ↦ (let x = ap g.colour e in grind (arith, common_steps))
        | no d ↦ (let z = h.covers p (omega arith) k in grind (arith, common_steps))
      ];
      least = λ e f. (let y = h.least e (λ p l. f p (omega arith)) in let z = f n (omega arith) low in grind (arith, common_steps));
    }
