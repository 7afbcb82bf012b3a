-- Lemmas: the position of a number that is there. They stand in specs/ since Named cites them.
use Rattle.std.specs.Prelude.{◌≡◌, ℕ, ◌<◌, ◌≤◌, true, Some, None, nat_lt}
use Rattle.std.proofs.Common.{ap, inl, inr, arith}
use Rattle.std.proofs.lemmas.Bool.{lt-ltb, le-ltb, and_from, and_left, and_right, cond-true, cond-false, cases_Bool}
use Rattle.chart.specs.Arena.{Arena, size}
use Rattle.game.specs.Waiting.{positions, vertex_in, level_in, stage_in, may_be_laid, waiting}
use Rattle.game.proofs.Positions.{unlaid, waiting_size}
use Rattle.waiting.specs.declared.names.Position.{Position}
use Rattle.waiting.specs.Positions.{located}

module _ (a : Arena) where
  -- the position of a number p that is there
  abbrev pub spot : ℕ → Position ℕ
  spot p = record { below = vertex_in a p; level = level_in a p; stage = stage_in p }

  pub there : (p : ℕ) → p < size (waiting a) → (may_be_laid a ≡ true) × (p < positions a)
  there p h = elim (cases_Bool (may_be_laid a)) [
    | inl ok ↦ (ok, (let n = waiting_size a ok in omega arith))
    | inr un ↦ absurd (let n : size (waiting a) ≡ 0 = ap size (unlaid a un) in omega arith)
  ]

  pub located_there : (p : ℕ) → p < size (waiting a) → located a p ≡ Some (spot p)
  located_there p h = let k = there p h in cond-true _ (Some (spot p)) None (and_from (may_be_laid a) _ k.0 (lt-ltb p (positions a) k.1))

  pub located_past : (p : ℕ) → size (waiting a) ≤ p → located a p ≡ None
  located_past p h = cond-false _ (Some (spot p)) None (elim (cases_Bool (may_be_laid a)) [
    | inl ok ↦ and_right (may_be_laid a) _ (le-ltb p (positions a) (let n = waiting_size a ok in omega arith))
    | inr un ↦ and_left (may_be_laid a) (nat_lt p (positions a)) un
  ])
