-- How a set grows by one position after another that its player draws in.
use Rattle.std.proofs.Common.{◌≡◌, ℕ, suc, ◌<◌, cond, eqb, ◌⊎◌, sym, refl, ap, ◌∙◌, subst, inl, inr, arith}
use native.Mathlib.Decide.{ℕ_discrete}
use Rattle.std.proofs.lemmas.Bool.{eq-eqb, ne_eqb, cond-true, cond-false}
use Rattle.parity.specs.Boards.{Board}
use Rattle.parity.specs.Sheets.{Sheet, Kept}
use Rattle.parity.specs.Attractors.{Pulls, Falls, Joined, Drawing, Puts}

-- the rank of the newcomer p is r
newest : (ℕ → ℕ) → ℕ → ℕ → ℕ → ℕ
newest rank p r q = cond (eqb q p) r (rank q)

newest_here : (rank : ℕ → ℕ) (p r q : ℕ) → q ≡ p → newest rank p r q ≡ r
unfolding newest
newest_here rank p r q e = cond-true (eqb q p) r (rank q) (eq-eqb q p e)

newest_else : (rank : ℕ → ℕ) (p r q : ℕ) → ¬ (q ≡ p) → newest rank p r q ≡ rank q
unfolding newest
newest_else rank p r q d = cond-false (eqb q p) r (rank q) (ne_eqb q p d)

module _ (b : Board) (i m : ℕ) (first a z : Sheet) (p k : ℕ) (out : a.tag p < m) (pull : Pulls b.game i m a.tag p k) (new : Puts a z p m i k) (d : Drawing b i m first a) where
  grown : ℕ → ℕ
  grown = newest d.rank p d.ranks

  apart : (q : ℕ) → a.tag q ≡ m → ¬ (q ≡ p)
  apart q h e = let x : a.tag q ≡ a.tag p = ap a.tag e in omega arith

  still : (q : ℕ) → a.tag q ≡ m → (z.tag q ≡ m) × (grown q ≡ d.rank q)
  unfolding grown
  still q h = ((new.rest q (apart q h)).tag ∙ h, newest_else d.rank p d.ranks q (apart q h))

  at_newest : grown p ≡ d.ranks
  unfolding grown
  at_newest = newest_here d.rank p d.ranks p refl

  newest_at : (q : ℕ) → ¬ (q ≡ p) → grown q ≡ d.rank q
  unfolding grown
  newest_at q ne = newest_else d.rank p d.ranks q ne

  new_falls : Falls b.game i m z.tag z.move grown p
  new_falls =
      record {
        ours = λ o.
            let q : ℕ = b.game.target p k in
            let u = pull.ours o in
            let s = still q u.1 in
            let l = d.low q u.1 in
            subst (λ n. (n < b.game.degree p) × (z.tag (b.game.target p n) ≡ m) × (grown (b.game.target p n) < grown p)) (sym new.move)
            (u.0, s.0, (let e = s.1 in let f = at_newest in omega arith));
        theirs = λ o l lt h.
            let q : ℕ = b.game.target p l in
            let u = pull.theirs o l lt in
            let ne : ¬ (q ≡ p) = λ e. (let x : a.tag q ≡ a.tag p = ap a.tag e in omega arith) in
            let w : a.tag q ≡ m = (let y = (new.rest q ne).tag in omega arith) in
            let s = still q w in
            (s.0, (let r = d.low q w in let e = s.1 in let f = at_newest in omega arith));
      }

  old_falls : (q : ℕ) → ¬ (q ≡ p) → Falls b.game i m a.tag a.move d.rank q → Falls b.game i m z.tag z.move grown q
  old_falls q ne f =
      record {
        ours = λ o.
            let u = f.ours o in
            let s = still (b.game.target q (a.move q)) u.1 in
            let e : grown q ≡ d.rank q = newest_at q ne in
            subst (λ n. (n < b.game.degree q) × (z.tag (b.game.target q n) ≡ m) × (grown (b.game.target q n) < grown q)) (sym (new.rest q ne).move)
            (u.0, s.0, (let x = s.1 in let y = u.2 in omega arith));
        theirs = λ o l lt h.
            let x : ℕ = b.game.target q l in
            let off : ¬ (x ≡ p) = λ e. (let y : a.tag x ≡ a.tag p = ap a.tag e in let v = (f.theirs o l lt (omega arith)).0 in omega arith) in
            let u = f.theirs o l lt (let y = (new.rest x off).tag in omega arith) in
            let s = still x u.0 in
            let e : grown q ≡ d.rank q = newest_at q ne in
            (s.0, (let v = s.1 in let y = u.1 in omega arith));
      }

  grown_low : (q : ℕ) → z.tag q ≡ m → grown q < suc d.ranks
  unfolding grown
  grown_low q h = elim (ℕ_discrete q p) [
    | yes e ↦ let x = newest_here d.rank p d.ranks q e in omega arith
    | no ne ↦ let x = newest_else d.rank p d.ranks q ne in let l = d.low q (sym (new.rest q ne).tag ∙ h) in omega arith
  ]

  grown_sorts : (q : ℕ) → q < b.size → Kept first z q ⊎ Joined b.game i m first z grown q
  grown_sorts q lt = elim (ℕ_discrete q p) [
    | yes e ↦ inr (subst (Joined b.game i m first z grown) (sym e)
        (record {
          before = elim (d.sorts p (subst (λ x. x < b.size) e lt)) [ inl u ↦ (let x = u.tag in omega arith) | inr u ↦ absurd (let x = u.after in omega arith) ];
          after = new.tag;
          winner = new.winner;
          falls = new_falls;
        }))
    | no ne ↦
        let r = new.rest q ne in
        elim (d.sorts q lt) [
          | inl u ↦ inl (record { tag = r.tag ∙ u.tag; winner = r.winner ∙ u.winner; move = r.move ∙ u.move })
          | inr u ↦ inr (record { before = u.before; after = r.tag ∙ u.after; winner = r.winner ∙ u.winner; falls = old_falls q ne u.falls })
        ]
  ]

  pub drawing_more : Drawing b i m first z
  drawing_more = record { rank = grown; ranks = suc d.ranks; low = grown_low; sorts = grown_sorts }
