-- From the region of all positions to the whole game.
use Rattle.std.proofs.Common.{◌≡◌, ℕ, ◌*◌, ◌<◌, ◌≤◌, eqb, ◌⊎◌, List, ◌++◌, length, get_or, None, sym, refl, ◌∙◌, inl, inr, arith}
use native.Mathlib.Decide.{ℕ_discrete}
use Rattle.std.proofs.lemmas.Bool.{eqb-false}
use Rattle.std.proofs.lemmas.List.{get_or_append_left}
use Rattle.walks.proofs.Apart.{not_both}
use Rattle.walks.proofs.Keeping.{same_sets, same_kept}
use Rattle.parity.specs.Boards.{Board, Ranged}
use Rattle.parity.specs.Sheets.{Sheet, sheet, Under}
use Rattle.parity.specs.Rounds.{Highest}
use Rattle.parity.specs.Solving.{Won, Solved}
use Rattle.parity.specs.Promise.{dead_end, Settled, Sole}
use Rattle.parity.proofs.Lowest.{lowest_none}

module _ (b : Board) (c : ℕ) (a : Sheet) (zero : (p : ℕ) → p < b.size → a.tag p ≡ 0) (h : Highest b.game 1 b.size a.tag c) where
  all_in : (p : ℕ) → p < b.size → Under b.size a.tag (2 * c) p
  all_in p lt = (lt, (let z = zero p lt in let k = h.covers p lt (omega arith) in omega arith))

  pub whole_settled : (t w s : List ℕ) → Solved b (2 * c) a (sheet t w s) → Settled b w s
  whole_settled t w s v =
      record {
        two = λ p lt. v.two p lt (all_in p lt).1;
        keeps = λ i le.
            same_sets b.game i (Under b.size a.tag (2 * c)) (λ p. p < b.size) (Won b (2 * c) a (sheet t w s) i) (λ p. (p < b.size) × (get_or w p 0 ≡ i))
            (λ p. get_or s p 0) (λ p u. u.0) all_in (λ p u. (u.0.0, u.1)) (λ p u. (all_in p u.0, u.1)) (v.keeps i le);
      }

-- there are at most 256 colours
pub few_colours : (b : Board) → Ranged b → (m : ℕ) (t : ℕ → ℕ) (c : ℕ) → Highest b.game m b.size t c → c ≤ 256
few_colours b r m t c h = h.least 256 (λ p lt k. let x = r.colours p lt in omega arith)

-- what is settled depends only on the tables' first numbers
same_settled : (b : Board) (v s w t : List ℕ) → ((p : ℕ) → p < b.size → get_or w p 0 ≡ get_or v p 0) → ((p : ℕ) → p < b.size → get_or t p 0 ≡ get_or s p 0) →
    Settled b v s → Settled b w t
same_settled b v s w t ew es k =
    record {
      two = λ p lt. (let x = k.two p lt in let y = ew p lt in omega arith);
      keeps = λ i le.
          same_kept b.game i (λ p. p < b.size) (λ p. (p < b.size) × (get_or w p 0 ≡ i)) (λ p. get_or s p 0) (λ p. get_or t p 0) (λ p u. sym (es p u.0))
          (same_sets b.game i (λ p. p < b.size) (λ p. p < b.size) (λ p. (p < b.size) × (get_or v p 0 ≡ i)) (λ p. (p < b.size) × (get_or w p 0 ≡ i)) (λ p. get_or s p 0)
          (λ p u. u) (λ p u. u) (λ p u. (u.0, ew p u.0 ∙ u.1)) (λ p u. (u.0, sym (ew p u.0) ∙ u.1)) (k.keeps i le));
    }

-- in tables of just the size, and in longer ones that begin with them
pub settled_longer : (b : Board) (w s x y : List ℕ) → length w ≡ b.size → length s ≡ b.size → Settled b w s → Settled b (w ++ x) (s ++ y)
settled_longer b w s x y lw ls =
    same_settled b w s (w ++ x) (s ++ y) (λ p lt. get_or_append_left w x 0 p (omega arith)) (λ p lt. get_or_append_left s y 0 p (omega arith))

-- where no position lacks a move, each has one
pub has_move : (b : Board) → None ≡ dead_end b → (p : ℕ) → p < b.size → 0 < b.game.degree p
has_move b none p lt =
    let n = eqb-false (b.game.degree p) 0 (lowest_none (λ q. eqb (b.game.degree q) 0) b.size p (sym none) lt) in
    omega arith

-- who wins in one table and who in another is the same player
pub sole_winners : (b : Board) → Ranged b → (w s : List ℕ) → Settled b w s → Sole b w
sole_winners b r w s k v t l p lt = elim (ℕ_discrete (get_or w p 0) (get_or v p 0)) [
  | yes e ↦ e
  | no d ↦ absurd (not_both b.game b.size (get_or w p 0) (get_or v p 0) d
      (either d)
      (λ q. get_or s q 0) (λ q. get_or t q 0) _ _ (k.keeps (get_or w p 0) (k.two p lt)) (l.keeps (get_or v p 0) (l.two p lt)) p (lt, refl) (lt, refl))
]
  where
    either : ¬ (get_or w p 0 ≡ get_or v p 0) → (q : ℕ) → q < b.size → (b.game.owner q ≡ get_or w p 0) ⊎ (b.game.owner q ≡ get_or v p 0)
    either d q h =
        let x = r.owners q h in
        let y = k.two p lt in
        let z = l.two p lt in
        elim (ℕ_discrete (b.game.owner q) (get_or w p 0)) [ yes e ↦ inl e | no n ↦ inr (omega arith) ]
