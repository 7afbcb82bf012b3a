-- A clipped board keeps to the ranges: the proof that a game's ghost member can give.
use Rattle.std.specs.Prelude.{◌≡◌, ℕ, ◌<◌, min, nat_lt}
use Rattle.std.proofs.Common.{inl, inr, arith}
use Rattle.std.proofs.lemmas.Bool.{cases_lt, lt-ltb, le-ltb, cond-true, cond-false}
use Rattle.parity.specs.Boards.{Board, Ranged}
use Rattle.parity.specs.Clips.{clipped, clip}

clipped_low : (size q : ℕ) → 0 < size → clipped size q < size
clipped_low size q some = elim (cases_lt q size) [
  | inl h ↦ (let e = cond-true (nat_lt q size) q 0 (lt-ltb q size h) in omega arith)
  | inr h ↦ (let e = cond-false (nat_lt q size) q 0 (le-ltb q size h) in omega arith)
]

pub clipped_zero : (size : ℕ) → clipped size 0 ≡ 0
clipped_zero size = elim (cases_lt 0 size) [ inl h ↦ cond-true (nat_lt 0 size) 0 0 (lt-ltb 0 size h) | inr h ↦ cond-false (nat_lt 0 size) 0 0 (le-ltb 0 size h) ]

pub clip_ranged : (b : Board) → Ranged (clip b)
clip_ranged b =
    record {
      few = omega arith;
      owners = λ p h. omega arith;
      colours = λ p h. omega arith;
      degrees = λ p h. omega arith;
      targets = λ p m h k. clipped_low (min b.size 65536) (b.game.target p m) (omega arith);
    }
