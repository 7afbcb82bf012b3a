-- Attractors: positions are drawn one after another, until none can be.
use Rattle.walks.specs.Games.{Game, Step, Descends}
use Rattle.walks.specs.Tables.{In, put, cut, over, members, Pulls, Leaks, Drawing}
use Rattle.std.proofs.Common.{◌≡◌, ℕ, zero, suc, ◌<◌, ◌≤◌, ◌⊎◌, sym, refl, ap, ◌∙◌, subst, inl, inr, arith}
use native.Mathlib.Decide.{ℕ_discrete}

pub put_at : (u : ℕ → ℕ) (p v x : ℕ) → x ≡ p → put u p v x ≡ v
unfolding put
put_at u p v x e = grind arith

pub put_off : (u : ℕ → ℕ) (p v x : ℕ) → ¬ (x ≡ p) → put u p v x ≡ u x
unfolding put
put_off u p v x d = grind arith

pub cut_in : (R A : ℕ → ℕ) (x : ℕ) → In R x → ¬ In A x → In (cut R A) x
unfolding cut
cut_in R A x h d = grind arith

pub cut_out : (R A : ℕ → ℕ) (x : ℕ) → In (cut R A) x → In R x × ¬ In A x
unfolding cut
cut_out R A x h = elim (ℕ_discrete (A x) 1) [ yes e ↦ absurd (grind arith) | no d ↦ (grind arith, d) ]

pub over_at : (A s t : ℕ → ℕ) (x : ℕ) → In A x → over A s t x ≡ s x
unfolding over
over_at A s t x e = grind arith

pub over_off : (A s t : ℕ → ℕ) (x : ℕ) → ¬ In A x → over A s t x ≡ t x
unfolding over
over_off A s t x e = grind arith

members_le : (u v : ℕ → ℕ) → ((p : ℕ) → In u p → In v p) → (n : ℕ) → members u n ≤ members v n
members_le u v sub zero = omega arith
members_le u v sub (suc n) = let r = members_le u v sub n in elim (ℕ_discrete (u n) 1)
    [ yes e ↦ let f = sub n e in rw (e, f) (omega arith) | no d ↦ grind arith ]

pub members_lt : (u v : ℕ → ℕ) → ((p : ℕ) → In u p → In v p) → (n p : ℕ) → p < n → ¬ In u p → In v p → members u n < members v n
members_lt u v sub zero p h a b = absurd (omega arith)
members_lt u v sub (suc n) p h a b = elim (ℕ_discrete p n) [
  | yes e ↦ let r = members_le u v sub n in let z : v n ≡ 1 = ap v (sym e) ∙ b in let y : ¬ (u n ≡ 1) = (λ q. a (ap u e ∙ q)) in grind arith
  | no d ↦ let r = members_lt u v sub n p (omega arith) a b in elim (ℕ_discrete (u n) 1)
      [ yes e ↦ let f = sub n e in rw (e, f) (omega arith) | no d ↦ grind arith ]
]

-- a search below n
pub find : (D : ℕ → Type 0) → ((m : ℕ) → Dec (D m)) → (n : ℕ) → ((m : ℕ) × (m < n) × D m) ⊎ ((m : ℕ) → m < n → ¬ D m)
find D dec zero = inr (λ m h d. absurd (omega arith))
find D dec (suc n) = elim (dec n) [
  | yes d ↦ inl (n, omega arith, d)
  | no d ↦ elim (find D dec n) [
    | inl r ↦ inl (r.0, (let a = r.1 in omega arith), r.2)
    | inr f ↦ inr (λ m h e. elim (ℕ_discrete m n) [ yes q ↦ d (subst D q e) | no q ↦ f m (omega arith) e ])
  ]
]

-- a position that is drawn joins the attractor, at the next rank
pub drawing_join : (g : Game) (i : ℕ) (R X A s : ℕ → ℕ) (p m : ℕ) → In R p → ¬ In A p → Pulls g i R A p m → Drawing g i R X A s → Drawing g i R X (put A p 1) (put s p m)
drawing_join g i R X A s p m h a u t = record {
  rank = r';
  ranks = suc k;
  wide = λ q x. keep q (t.wide q x);
  inside = λ q x. elim (ℕ_discrete q p) [ yes e ↦ subst (In R) (sym e) h | no d ↦ t.inside q (sym (put_off A p 1 q d) ∙ x) ];
  draw = λ q x. elim (ℕ_discrete q p) [
    | yes e ↦ inr (subst (Descends g i (In R) s' r' (In (put A p 1))) (sym e) new)
    | no d ↦ let y = sym (put_off A p 1 q d) ∙ x in elim (t.draw q y) [ inl z ↦ inl z | inr f ↦ inr (old q d y f) ]
  ];
  under = λ q x. elim (ℕ_discrete q p) [
    | yes e ↦ let z = put_at t.rank p k q e in omega arith
    | no d ↦ let z = put_off t.rank p k q d in let y = t.under q (sym (put_off A p 1 q d) ∙ x) in omega arith
  ];
}
  where
    k : ℕ
    k = t.ranks

    s' : ℕ → ℕ
    s' = put s p m

    r' : ℕ → ℕ
    r' = put t.rank p k

    keep : (q : ℕ) → In A q → In (put A p 1) q
    keep q x = elim (ℕ_discrete q p) [ yes e ↦ put_at A p 1 q e | no d ↦ put_off A p 1 q d ∙ x ]

    apart : (y : ℕ) → In A y → ¬ (y ≡ p)
    apart y x e = a (subst (In A) e x)

    into : (y : ℕ) → In R y → Step g i s' p y → In A y
    into y ry e = subst (In A) e.3 (elim (ℕ_discrete (g.owner p) i) [
      | yes o ↦ subst (λ n. In A (g.target p n)) (sym (e.2 o ∙ put_at s p m p refl)) (u.0 o).1
      | no o ↦ u.1 o e.0 e.1 (subst (In R) (sym e.3) ry)
    ])

    new : Descends g i (In R) s' r' (In (put A p 1)) p
    new = record {
      moves = λ o. subst (λ n. (n < g.degree p) × In R (g.target p n)) (sym (put_at s p m p refl)) ((u.0 o).0, t.inside _ (u.0 o).1);
      falls = λ y ry e. let x = into y ry e in
          (keep y x, (let z = put_at t.rank p k p refl in let w = put_off t.rank p k y (apart y x) in let v = t.under y x in omega arith));
    }

    old : (q : ℕ) → ¬ (q ≡ p) → In A q → Descends g i (In R) s t.rank (In A) q → Descends g i (In R) s' r' (In (put A p 1)) q
    old q d x f = record {
      moves = λ o. subst (λ n. (n < g.degree q) × In R (g.target q n)) (sym (put_off s p m q d)) (f.moves o);
      falls = λ y ry e.
          let v = f.falls y ry (e.0, e.1, (λ o. e.2 o ∙ put_off s p m q d), e.3) in
          (keep y v.0, (let z = put_off t.rank p k q d in let w = put_off t.rank p k y (apart y v.0) in let b = v.1 in omega arith));
    }

-- and leaves one less outside
pub rest_shrinks : (R A : ℕ → ℕ) (n p : ℕ) → p < n → In R p → ¬ In A p → members (cut R (put A p 1)) n < members (cut R A) n
rest_shrinks R A n p lt h a = members_lt (cut R (put A p 1)) (cut R A)
    (λ q x. let y = cut_out R (put A p 1) q x in cut_in R A q y.0 (λ z. y.1 (elim (ℕ_discrete q p) [ yes e ↦ put_at A p 1 q e | no d ↦ put_off A p 1 q d ∙ z ])))
    n p lt (λ x. (cut_out R (put A p 1) p x).1 (put_at A p 1 p refl)) (cut_in R A p h a)

module _ (g : Game) (i P : ℕ) (R : ℕ → ℕ) (low : (p : ℕ) → In R p → p < P) where
  abbrev Leak : (ℕ → ℕ) → ℕ → ℕ → Type 0
  Leak A p m = In R (g.target p m) × ¬ In A (g.target p m)

  dec_leak : (A : ℕ → ℕ) (p m : ℕ) → Dec (Leak A p m)
  dec_leak A p m = elim (ℕ_discrete (R (g.target p m)) 1)
      [ no a ↦ no (λ w. a w.0) | yes a ↦ elim (ℕ_discrete (A (g.target p m)) 1) [ yes b ↦ no (λ w. w.1 b) | no b ↦ yes (a, b) ] ]

  pull_or_leak : (A : ℕ → ℕ) (p : ℕ) → ((m : ℕ) × Pulls g i R A p m) ⊎ Leaks g i R A p
  pull_or_leak A p = elim (ℕ_discrete (g.owner p) i) [
    | yes o ↦ elim (find (λ m. In A (g.target p m)) (λ m. ℕ_discrete (A (g.target p m)) 1) (g.degree p))
        [ inl f ↦ inl (f.0, ((λ q. (f.1, f.2)), λ q. absurd (q o))) | inr f ↦ inr ((λ q. f), λ q. absurd (q o)) ]
    | no o ↦ elim (find (Leak A p) (dec_leak A p) (g.degree p)) [
      | inl f ↦ inr ((λ q. absurd (o q)), λ q. (f.0, f.1, f.2.0, f.2.1))
      | inr f ↦ inl (0, ((λ q. absurd (o q)), λ q m h r. elim (ℕ_discrete (A (g.target p m)) 1) [ yes e ↦ e | no e ↦ absurd (f m h (r, e)) ]))
    ]
  ]

  -- p can be drawn into A and is not there yet
  abbrev Joins : (ℕ → ℕ) → ℕ → Type 0
  Joins A p = In R p × (¬ In A p) × (m : ℕ) × Pulls g i R A p m

  dec_joins : (A : ℕ → ℕ) (p : ℕ) → Dec (Joins A p)
  dec_joins A p = elim (ℕ_discrete (R p) 1) [
    | no a ↦ no (λ w. a w.0)
    | yes a ↦ elim (ℕ_discrete (A p) 1) [
      | yes b ↦ no (λ w. w.1 b)
      | no b ↦ elim (pull_or_leak A p) [
        | inl u ↦ yes (a, b, u.0, u.1)
        | inr v ↦ no (λ w. elim (ℕ_discrete (g.owner p) i)
            [ yes o ↦ (let x = w.3.0 o in v.0 o w.2 x.0 x.1) | no o ↦ (let y = v.1 o in y.3 (w.3.1 o y.0 y.1 y.2)) ])
      ]
    ]
  ]

  -- the attractor of X, by a strategy table
  pub record Attractor (X : ℕ → ℕ) : Type 0 where
    pub set : ℕ → ℕ
    pub by : ℕ → ℕ
    pub drawing : Drawing g i R X set by
    pub leaks : (p : ℕ) → In R p → ¬ In set p → Leaks g i R set p

  done : (X A s : ℕ → ℕ) → Drawing g i R X A s → ((p : ℕ) → p < P → ¬ Joins A p) → Attractor X
  done X A s t none = record {
    set = A;
    by = s;
    drawing = t;
    leaks = λ p h a. elim (pull_or_leak A p) [ inl u ↦ absurd (none p (low p h) (h, a, u.0, u.1)) | inr v ↦ v ];
  }

  grow : (X : ℕ → ℕ) (n : ℕ) (A s : ℕ → ℕ) → Drawing g i R X A s → members (cut R A) P ≤ n → Attractor X
  grow X zero A s t fuel = elim (find (Joins A) (dec_joins A) P) [
    | inr none ↦ done X A s t none
    | inl f ↦ absurd (let h = rest_shrinks R A P f.0 f.1 f.2.0 f.2.1 in omega arith)
  ]
  grow X (suc n) A s t fuel = elim (find (Joins A) (dec_joins A) P) [
    | inr none ↦ done X A s t none
    | inl f ↦ grow X n (put A f.0 1) (put s f.0 f.2.2)
        (drawing_join g i R X A s f.0 f.2.2 f.2.0 f.2.1 f.2.3 t)
        (let h = rest_shrinks R A P f.0 f.1 f.2.0 f.2.1 in omega arith)
  ]

  pub attractor : (X : ℕ → ℕ) → ((p : ℕ) → In X p → In R p) → (ℕ → ℕ) → Attractor X
  attractor X sub s = grow X (members (cut R X) P) X s
      (record { rank = λ p. 0; ranks = 1; wide = λ p x. x; inside = sub; draw = λ p x. inl x; under = λ p x. omega arith }) (omega arith)
