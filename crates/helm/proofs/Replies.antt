-- The ways through steer and hear.
use Rattle.std.proofs.Common.{◌≡◌, ℕ, ◌<◌, ◌≤◌, true, false, cond, leb, List, sym, ap, ◌∙◌}
use Rattle.std.proofs.lemmas.Bool.{le-leb, lt-leb, cond-true, cond-false}
use Rattle.chart.specs.Arena.{Arena}
use Rattle.chart.specs.declared.parts.Move.{Move}
use Rattle.game.specs.Reading.{colour_of, degree_of, target_of}
use Rattle.helm.specs.Tally.{on_first}
use Rattle.helm.specs.States.{State, went, stayed}
use Rattle.helm.specs.Calls.{half, waits_passed, sailed, state_moved, tally_moved, moving}
use Rattle.helm.proofs.Looks.{Moves}

module _ (a : Arena) (s : State) (m : ℕ) (ts : List ℕ) where
  pub moving_absent : (n : ℕ) → degree_of a s.vertex ≤ m → moving a s m ts n ≡ stayed n 0 s
  moving_absent n h = cond-true (leb (degree_of a s.vertex) m) _ _ (le-leb (degree_of a s.vertex) m h)

  module _ (n : ℕ) (h : m < degree_of a s.vertex) where
    there : moving a s m ts n ≡ cond (leb 1000000 s.moves) (stayed 22 0 s) (went (state_moved a s m ts))
    there = cond-false (leb (degree_of a s.vertex) m) _ _ (lt-leb (degree_of a s.vertex) m h)

    pub moving_over : leb 1000000 s.moves ≡ true → moving a s m ts n ≡ stayed 22 0 s
    moving_over k = there ∙ cond-true (leb 1000000 s.moves) _ _ k

    pub moving_on : leb 1000000 s.moves ≡ false → moving a s m ts n ≡ went (state_moved a s m ts)
    moving_on k = there ∙ cond-false (leb 1000000 s.moves) _ _ k

-- what a move made answers, and the tally that it leaves
pub record Made (a : Arena) (s : State) (m n : ℕ) (ts : List ℕ) (t : State) (us : List ℕ) : Type 0 where
  pub answer : went t ≡ moving a s m ts n
  pub after : us ≡ tally_moved a s m ts

-- the move as the chart answers it
pub goes : (a : Arena) (s : State) (m n : ℕ) (ts : List ℕ) (y : Move) → Moves a s.vertex m y → s.moves < 1000000 →
    (t : State) → t ≡ sailed a y.target y.cost s.moves s.worst ts →
    (us : List ℕ) → us ≡ on_first (half a) (waits_passed y.cost (colour_of a y.target)) ts → Made a s m n ts t us
goes a s m n ts y is few t e us f = record {
  answer = ap went (e ∙ (ap (λ v. sailed a v y.cost s.moves s.worst ts) is.target ∙ ap (λ c. sailed a (target_of a s.vertex m) c s.moves s.worst ts) is.cost))
      ∙ sym (moving_on a s m ts n is.there (lt-leb 1000000 s.moves few));
  after = f ∙ (ap (λ v. on_first (half a) (waits_passed y.cost (colour_of a v)) ts) is.target
      ∙ ap (λ c. on_first (half a) (waits_passed c (colour_of a (target_of a s.vertex m))) ts) is.cost);
}
