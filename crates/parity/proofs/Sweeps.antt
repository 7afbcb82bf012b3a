-- A sweep, one position after another.
use Rattle.std.proofs.Common.{◌≡◌, ℕ, ◌+◌, ◌<◌, Bool, true, false, ◌||◌, sym, refl, ◌∙◌, subst, inl, arith}
use Rattle.std.proofs.Math.Bool.{or-true, or-false}
use native.Mathlib.Decide.{ℕ_discrete}
use Rattle.parity.specs.Boards.{Board}
use Rattle.parity.specs.Sheets.{Sheet}
use Rattle.parity.specs.Attractors.{Leaks, Drawing, Tried, Chased, outside, turned, Swept, Drawn}
use Rattle.parity.proofs.Counts.{outside_lt}
use Rattle.parity.proofs.Drawings.{drawing_more}

turned_back : (down : Bool) (n p j : ℕ) → p < n → turned down n p ≡ j → p ≡ turned down n j
turned_back true n p j h e = omega arith
turned_back false n p j h e = e

turned_low : (down : Bool) (n p : ℕ) → p < n → turned down n p < n
turned_low true n p h = omega arith
turned_low false n p h = h

module _ (b : Board) (i m : ℕ) (a z y : Sheet) (down : Bool) (p j : ℕ) (at : p ≡ turned down b.size j) (lt : p < b.size) (grew : Bool) (w : Swept b i m a z down j grew) where
  swept_joins : (grown : Bool) → grown ≡ true → Tried b.game i m z y p true → Swept b i m a y down (j + 1) grown
  swept_joins grown e t =
      let u = t.joins refl in
      let less : outside m y.tag b.size < outside m z.tag b.size = outside_lt m z.tag y.tag b.size p
      (λ q l h. elim (ℕ_discrete q p) [ yes s ↦ subst (λ x. z.tag x < m) (sym s) u.0 | no d ↦ (let k = (u.3.rest q d).tag in omega arith) ])
      lt u.0 (let k = u.3.tag in omega arith) in
      record {
        draws = λ first d. drawing_more b i m first z y p u.1 u.0 u.2 u.3 (w.draws first d);
        most = (let o = w.most in omega arith);
        less = λ _. (let o = w.most in omega arith);
        shut = λ f. cc;
      }

  swept_passes : (grown : Bool) → grown ≡ grew → Tried b.game i m z y p false → Swept b i m a y down (j + 1) grown
  swept_passes grown e t =
      let u = t.stays refl in
      subst (λ s. Swept b i m a s down (j + 1) grown) (sym u.0) (subst (λ g. Swept b i m a z down (j + 1) g) (sym e)
      (record {
        draws = w.draws;
        most = w.most;
        less = w.less;
        shut = λ f q l h k. elim (ℕ_discrete (turned down b.size q) j) [
          | yes s ↦
              let here : q ≡ p = turned_back down b.size q j l s ∙ sym at in
              subst (Leaks b.game i m z.tag) (sym here) (u.1 (subst (λ x. z.tag x < m) here k))
          | no d ↦ w.shut f q l (omega arith) k
        ];
      }))

-- whether the position of the place j joins or not
pub swept_next : (b : Board) (i m : ℕ) (a z y : Sheet) (down : Bool) (p j : ℕ) (grew joins : Bool) → Swept b i m a z down j grew → Tried b.game i m z y p joins →
    p ≡ turned down b.size j → j < b.size → Swept b i m a y down (j + 1) (grew || joins)
swept_next b i m a z y down p j grew joins w t at low = by_case joins t
  where
    lt : p < b.size
    lt = subst (λ x. x < b.size) (sym at) (turned_low down b.size j low)

    by_case : (joins : Bool) → Tried b.game i m z y p joins → Swept b i m a y down (j + 1) (grew || joins)
    by_case true t = swept_joins b i m a z y down p j at lt grew w (grew || true) (or-true grew) t
    by_case false t = swept_passes b i m a z y down p j at lt grew w (grew || false) (or-false grew) t

drawing_none : (b : Board) (i m : ℕ) (a : Sheet) → Drawing b i m a a
drawing_none b i m a =
    record {
      rank = λ p. 0;
      ranks = 1;
      low = λ p h. omega arith;
      sorts = λ p h. inl (record { tag = refl; winner = refl; move = refl });
    }

-- a position that joins, or does not, leaves the set drawn
pub tried_chased : (b : Board) (i m : ℕ) (a z : Sheet) (p : ℕ) (grew : Bool) → Tried b.game i m a z p grew → Chased b i m a z
tried_chased b i m a z p true t =
    let u = t.joins refl in
    record { draws = λ first d. drawing_more b i m first a z p u.1 u.0 u.2 u.3 d }
tried_chased b i m a z p false t = record { draws = λ first d. subst (Drawing b i m first) (sym (t.stays refl).0) d }

-- a sweep in which nothing joined leaves nothing to draw in
pub drawn_end : (b : Board) (i m : ℕ) (first a z : Sheet) (down grew : Bool) → Chased b i m first a → Swept b i m a z down b.size grew → grew ≡ false → Drawn b i m first z
drawn_end b i m first a z down grew d w none =
    record {
      drawing = w.draws first (d.draws first (drawing_none b i m first));
      shut = λ p l h. w.shut none p l (turned_low down b.size p l) h;
    }
