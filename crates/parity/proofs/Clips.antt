-- A board that keeps to the ranges and the same board clipped: what is settled of one is settled of
-- the other.
use Rattle.std.proofs.Common.{◌≡◌, ℕ, zero, suc, ◌%◌, ◌<◌, min, Bool, cond, eqb, ltb, List, get_or, Some, None, sym, refl, ap, ◌∙◌, subst, arith}
use Rattle.std.proofs.lemmas.Bool.{lt-ltb, cond-true}
use Rattle.walks.specs.Games.{Game, Step, Keeps}
use Rattle.walks.proofs.Walks.{walk_map}
use Rattle.walks.proofs.Keeping.{same_sets}
use Rattle.parity.specs.Boards.{Board, Ranged}
use Rattle.parity.specs.Clips.{clip}
use Rattle.parity.specs.Promise.{or_else, lowest, judged, fitting, verdict, Settled}

-- two games that are alike on R
module _ (g h : Game) (R : ℕ → Type 0) (owners : (p : ℕ) → R p → g.owner p ≡ h.owner p) (colours : (p : ℕ) → R p → g.colour p ≡ h.colour p)
    (degrees : (p : ℕ) → R p → g.degree p ≡ h.degree p) (targets : (p m : ℕ) → R p → m < h.degree p → g.target p m ≡ h.target p m) where
  step_alike : (i : ℕ) (s : ℕ → ℕ) (p q : ℕ) → R p → Step h i s p q → Step g i s p q
  step_alike i s p q r e =
      (e.0, subst (λ d. e.0 < d) (sym (degrees p r)) e.1, (λ o. e.2 (sym (owners p r) ∙ o)), targets p e.0 r e.1 ∙ e.3)

  pub alike_kept : (i : ℕ) (s : ℕ → ℕ) (U : ℕ → Type 0) → Keeps g i R s U → Keeps h i R s U
  alike_kept i s U k =
      record {
        inside = k.inside;
        moves = λ p u o.
            let r = k.inside p u in
            let m = k.moves p u (owners p r ∙ o) in
            let lt : s p < h.degree p = subst (λ d. s p < d) (degrees p r) m.0 in
            (lt, subst R (targets p (s p) r lt) m.1);
        closed = λ p q u rq e. k.closed p q u rq (step_alike i s p q (k.inside p u) e);
        sound = λ p u bad loop.
            k.sound p u (λ e. bad (sym (ap (λ c. c % 2) (colours p (k.inside p u))) ∙ e))
            (walk_map (λ x y e. (
              (let a = colours x (k.inside x e.2.0) in let b = colours p (k.inside p u) in let c = e.0 in omega arith),
              (let a = colours y (k.inside y e.2.1) in let b = colours p (k.inside p u) in let c = e.1 in omega arith),
              (e.2.0, e.2.1, step_alike i s x y (k.inside x e.2.0) e.2.2),
            )) loop);
      }

lowest_alike : (f g : ℕ → Bool) (n : ℕ) → ((p : ℕ) → p < n → f p ≡ g p) → lowest f n ≡ lowest g n
lowest_alike f g zero same = refl
lowest_alike f g (suc n) same =
    ap (λ o. or_else o (cond (f n) (Some n) None)) (lowest_alike f g n (λ p h. same p (omega arith)))
    ∙ ap (λ b. or_else (lowest g n) (cond b (Some n) None)) (same n (omega arith))

module _ (b : Board) (r : Ranged b) where
  size_same : (clip b).size ≡ b.size
  size_same = let f = r.few in omega arith

  pub clip_verdict : (w s k : ℕ) → verdict (clip b) w s k ≡ verdict b w s k
  clip_verdict w s k =
      ap (λ n. judged (lowest (λ p. eqb (min (b.game.degree p) 4294967295) 0) n) (fitting n w s k)) size_same
      ∙ ap (λ o. judged o (fitting b.size w s k))
      (lowest_alike (λ p. eqb (min (b.game.degree p) 4294967295) 0) (λ p. eqb (b.game.degree p) 0) b.size
      (λ p h. ap (λ d. eqb d 0) (let d = r.degrees p h in omega arith)))

  pub clip_settled : (w s : List ℕ) → Settled (clip b) w s → Settled b w s
  clip_settled w s k =
      record {
        two = λ p lt. k.two p (let e = size_same in omega arith);
        keeps = λ i le.
            alike_kept (clip b).game b.game (λ p. p < b.size)
            (λ p h. (let x = r.owners p h in omega arith)) (λ p h. (let x = r.colours p h in omega arith)) (λ p h. (let x = r.degrees p h in omega arith))
            (λ p m h l. cond-true (ltb (b.game.target p m) (min b.size 65536)) (b.game.target p m) 0
            (lt-ltb (b.game.target p m) (min b.size 65536) (let x = r.targets p m h l in let e = size_same in omega arith)))
            i (λ p. get_or s p 0) (λ p. (p < b.size) × (get_or w p 0 ≡ i))
            (same_sets (clip b).game i (λ p. p < (clip b).size) (λ p. p < b.size) (λ p. (p < (clip b).size) × (get_or w p 0 ≡ i)) (λ p. (p < b.size) × (get_or w p 0 ≡ i))
            (λ p. get_or s p 0) (λ p h. (let e = size_same in omega arith)) (λ p h. (let e = size_same in omega arith))
            (λ p u. ((let h = u.0 in let e = size_same in omega arith), u.1)) (λ p u. ((let h = u.0 in let e = size_same in omega arith), u.1)) (k.keeps i le));
      }
