-- Every finite parity game splits into what the one player and what the other keeps, each by one
-- strategy table. By recursion: the attractor of the highest colour is cut off, the rest is solved,
-- and if the other player keeps a part of it, that part with its attractor is cut off and the rest
-- is solved again.
use Rattle.walks.specs.Games.{Game, Keeps, Descends, AtTop, Trap, Split}
use Rattle.walks.specs.Tables.{In, cut, over, members, Total}
use Rattle.walks.proofs.Walks.{walk_map}
use Rattle.walks.proofs.Keeping.{whole_kept, other_split, same_kept}
use Rattle.walks.proofs.Attractors.{cut_in, cut_out, over_at, over_off, members_lt, find, Attractor, attractor}
use Rattle.std.proofs.Common.{◌≡◌, ℕ, zero, suc, ◌%◌, ◌<◌, ◌≤◌, cond, eqb, ◌⊎◌, sym, refl, ap, ◌∙◌, subst, inl, inr, le_of_eq, arith}
use native.Mathlib.Decide.{ℕ_discrete, dec_le}

same_set : (g : Game) (i : ℕ) (R U V : ℕ → Type 0) (s : ℕ → ℕ) → ((p : ℕ) → U p → V p) → ((p : ℕ) → V p → U p) → Keeps g i R s U → Keeps g i R s V
same_set g i R U V s f b k = record {
  inside = λ p v. k.inside p (b p v);
  moves = λ p v o. k.moves p (b p v) o;
  closed = λ p q v r e. f q (k.closed p q (b p v) r e);
  sound = λ p v bad loop. k.sound p (b p v) bad (walk_map (λ x y e. (e.0, e.1, (b x e.2.0, b y e.2.1, e.2.2))) loop);
}

none_kept : (g : Game) (i : ℕ) (R U : ℕ → Type 0) (s : ℕ → ℕ) → ((p : ℕ) → ¬ U p) → Keeps g i R s U
none_kept g i R U s n = record
    { inside = λ p u. absurd (n p u); moves = λ p u o. absurd (n p u); closed = λ p q u r e. absurd (n p u); sound = λ p u bad loop. n p u }

same_falls : (g : Game) (i : ℕ) (R B : ℕ → Type 0) (s t r : ℕ → ℕ) (p : ℕ) → s p ≡ t p → Descends g i R s r B p → Descends g i R t r B p
same_falls g i R B s t r p e f = record {
  moves = λ o. subst (λ m. (m < g.degree p) × R (g.target p m)) e (f.moves o);
  falls = λ q rq a. f.falls q rq (a.0, a.1, (λ o. a.2 o ∙ sym e), a.3);
}

-- a highest position of R, if it has any
peak : (colour R : ℕ → ℕ) (n : ℕ) → ((p : ℕ) × (p < n) × In R p × ((q : ℕ) → q < n → In R q → colour q ≤ colour p)) ⊎ ((p : ℕ) → p < n → ¬ In R p)
peak colour R zero = inr (λ p h a. absurd (omega arith))
peak colour R (suc n) = elim (ℕ_discrete (R n) 1) [
  | no d ↦ elim (peak colour R n) [
    | inl t ↦ inl (t.0, (let h = t.1 in omega arith), t.2, λ q h a. elim (ℕ_discrete q n) [ yes e ↦ absurd (d (subst (In R) e a)) | no e ↦ t.3 q (omega arith) a ])
    | inr f ↦ inr (λ p h a. elim (ℕ_discrete p n) [ yes e ↦ d (subst (In R) e a) | no e ↦ f p (omega arith) a ])
  ]
  | yes d ↦ elim (peak colour R n) [
    | inr f ↦ inl (n, omega arith, d, λ q h a. elim (ℕ_discrete q n) [ yes e ↦ le_of_eq (ap colour e) | no e ↦ absurd (f q (omega arith) a) ])
    | inl t ↦ elim (dec_le (colour n) (colour t.0)) [
      | yes le ↦ inl (t.0, (let h = t.1 in omega arith), t.2, λ q h a. elim (ℕ_discrete q n) [ yes e ↦ subst (λ z. colour z ≤ colour t.0) (sym e) le | no e ↦ t.3 q (omega arith) a ])
      | no gt ↦ inl (n, omega arith, d, λ q h a. elim (ℕ_discrete q n) [ yes e ↦ le_of_eq (ap colour e) | no e ↦ let k = t.3 q (omega arith) a in omega arith ])
    ]
  ]
]

-- R where f is d
only : (ℕ → ℕ) → ℕ → (ℕ → ℕ) → ℕ → ℕ
only f d R p = cond (eqb (f p) d) (R p) 0

only_in : (f : ℕ → ℕ) (d : ℕ) (R : ℕ → ℕ) (p : ℕ) → In R p → f p ≡ d → In (only f d R) p
unfolding only
only_in f d R p h e = grind arith

only_out : (f : ℕ → ℕ) (d : ℕ) (R : ℕ → ℕ) (p : ℕ) → In (only f d R) p → In R p × (f p ≡ d)
unfolding only
only_out f d R p h = elim (ℕ_discrete (f p) d) [ yes e ↦ (grind arith, e) | no n ↦ absurd (grind arith) ]

-- A or B
join : (ℕ → ℕ) → (ℕ → ℕ) → ℕ → ℕ
join A B p = cond (eqb (A p) 1) 1 (B p)

join_in : (A B : ℕ → ℕ) (p : ℕ) → In A p ⊎ In B p → In (join A B) p
unfolding join
join_in A B p (inl a) = grind arith
join_in A B p (inr b) = grind arith

join_out : (A B : ℕ → ℕ) (p : ℕ) → In (join A B) p → In A p ⊎ In B p
unfolding join
join_out A B p h = elim (ℕ_discrete (A p) 1) [ yes e ↦ inl e | no d ↦ inr (grind arith) ]

-- a move within R
stay : Game → (ℕ → ℕ) → ℕ → ℕ
stay g R p = elim (find (λ m. In R (g.target p m)) (λ m. ℕ_discrete (R (g.target p m)) 1) (g.degree p)) [ inl f ↦ f.0 | inr f ↦ 0 ]

stay_is : (g : Game) (R : ℕ → ℕ) → Total g R → (p : ℕ) → In R p → (stay g R p < g.degree p) × In R (g.target p (stay g R p))
unfolding stay
stay_is g R tot p h =
    elim (find (λ m. In R (g.target p m)) (λ m. ℕ_discrete (R (g.target p m)) 1) (g.degree p))
    as (λ r. (elim r as (λ x. ℕ) [ inl f ↦ f.0 | inr f ↦ 0 ] < g.degree p) × In R (g.target p (elim r as (λ x. ℕ) [ inl f ↦ f.0 | inr f ↦ 0 ])))
    [ inl f ↦ (f.1, f.2) | inr f ↦ let t = tot p h in absurd (f t.0 t.1 t.2) ]

pub record Solved (g : Game) (i j : ℕ) (R : ℕ → ℕ) : Type 0 where
  pub by : ℕ → ℕ
  pub mine : ℕ → ℕ
  pub yours : ℕ → ℕ
  pub split_of : Split g i j (In R) by (In mine) (In yours)

turn_round : (g : Game) (i j : ℕ) (R : ℕ → ℕ) → Solved g i j R → Solved g j i R
turn_round g i j R s = record {
  by = s.by;
  mine = s.yours;
  yours = s.mine;
  split_of = record { ours = s.split_of.theirs; theirs = s.split_of.ours; all = λ p r. elim (s.split_of.all p r) [ inl x ↦ inr x | inr x ↦ inl x ] };
}

-- the rest of an attractor is total, and a trap for its player
module _ (g : Game) (i j P : ℕ) (R : ℕ → ℕ) (low : (p : ℕ) → In R p → p < P) (tot : Total g R) (X : ℕ → ℕ) (a : Attractor g i P R low X) where
  rest_total : Total g (cut R a.set)
  rest_total p h =
      let o = cut_out R a.set p h in
      elim (ℕ_discrete (g.owner p) i) [
        | yes e ↦ let t = tot p o.0 in (t.0, t.1, cut_in R a.set _ t.2 ((a.leaks p o.0 o.1).0 e t.0 t.1))
        | no e ↦ let t = (a.leaks p o.0 o.1).1 e in (t.0, t.1, cut_in R a.set _ t.2 t.3)
      ]

  rest_trap : ((p : ℕ) → ¬ (g.owner p ≡ j) → g.owner p ≡ i) → Trap g j (In R) (In (cut R a.set))
  rest_trap two p q m c o rq h e =
      let u = cut_out R a.set p c in
      cut_in R a.set q rq (λ x. (a.leaks p u.0 u.1).0 (two p o) m h (subst (In a.set) (sym e) x))

  rest_less : (p : ℕ) → p < P → In a.set p → members (cut R a.set) P < members R P
  rest_less p h x = members_lt (cut R a.set) R (λ q y. (cut_out R a.set q y).0) P p h (λ y. (cut_out R a.set p y).1 x) (a.drawing.inside p x)

module _ (g : Game) (i j P : ℕ) (to-i : (p : ℕ) → ¬ (g.owner p ≡ j) → g.owner p ≡ i) (to_j : (p : ℕ) → ¬ (g.owner p ≡ i) → g.owner p ≡ j)
    (R : ℕ → ℕ) (low : (p : ℕ) → In R p → p < P) (tot : Total g R) where
  split : (A : ℕ → ℕ) (p : ℕ) → In R p → In A p ⊎ In (cut R A) p
  split A p h = elim (ℕ_discrete (A p) 1) [ yes e ↦ inl e | no d ↦ inr (cut_in R A p h d) ]

  module _ (X : ℕ → ℕ) (a : Attractor g i P R low X) (sc : Solved g i j (cut R a.set)) where
    abbrev C : ℕ → ℕ
    C = cut R a.set

    good_case : (d : ℕ) → ((p : ℕ) → In R p → g.colour p ≤ d) → d % 2 ≡ i → ((p : ℕ) → In X p → g.colour p ≡ d) → ((p : ℕ) → ¬ In sc.yours p) → Solved g i j R
    good_case d top par shows none = record {
      by = s;
      mine = R;
      yours = λ p. 0;
      split_of = record {
        ours = whole_kept g i d (In R) s top par (In C) (In a.set) a.drawing.rank kept (λ p c. (cut_out R a.set p c).0) (split a.set) draw;
        theirs = none_kept g j (In R) (λ p. 0 ≡ 1) s (λ p e. absurd (omega arith));
        all = λ p r. inl r;
      };
    }
      where
        s : ℕ → ℕ
        s = over a.set (over X (stay g R) a.by) sc.by

        kept : Keeps g i (In C) s (In C)
        kept = same_kept g i (In C) (In C) sc.by s (λ p c. sym (over_off a.set _ sc.by p (cut_out R a.set p c).1))
            (same_set g i (In C) (In sc.mine) (In C) sc.by sc.split_of.ours.inside
            (λ p c. elim (sc.split_of.all p c) [ inl x ↦ x | inr y ↦ absurd (none p y) ]) sc.split_of.ours)

        draw : (p : ℕ) → In a.set p → AtTop g i d (In R) s p ⊎ Descends g i (In R) s a.drawing.rank (In a.set) p
        draw p h = elim (ℕ_discrete (X p) 1) [
          | yes x ↦ inl (record {
            shows = shows p x;
            moves = λ o. subst (λ m. (m < g.degree p) × In R (g.target p m)) (sym (over_at a.set _ sc.by p h ∙ over_at X (stay g R) a.by p x)) (stay_is g R tot p (a.drawing.inside p h));
          })
          | no x ↦ elim (a.drawing.draw p h) [
            | inl y ↦ absurd (x y)
            | inr f ↦ inr (same_falls g i (In R) (In a.set) a.by s a.drawing.rank p (sym (over_at a.set _ sc.by p h ∙ over_off X (stay g R) a.by p x)) f)
          ]
        ]

    other_case : (b : Attractor g j P R low sc.yours) → Solved g i j (cut R b.set) → Solved g i j R
    other_case b sd = record {
      by = s;
      mine = sd.mine;
      yours = join b.set sd.yours;
      split_of = record {
        ours = h.ours;
        theirs = same_set g j (In R) _ (In (join b.set sd.yours)) s (join_in b.set sd.yours) (join_out b.set sd.yours) h.theirs;
        all = λ p r. elim (h.all p r) [ inl x ↦ inl x | inr y ↦ inr (join_in b.set sd.yours p y) ];
      };
    }
      where
        W : ℕ → ℕ
        W = sc.yours

        D : ℕ → ℕ
        D = cut R b.set

        s : ℕ → ℕ
        s = over b.set (over W sc.by b.by) sd.by

        on_d : (p : ℕ) → In D p → sd.by p ≡ s p
        on_d p d = sym (over_off b.set _ sd.by p (cut_out R b.set p d).1)

        draw : (p : ℕ) → In b.set p → In W p ⊎ Descends g j (In R) s b.drawing.rank (In b.set) p
        draw p h = elim (ℕ_discrete (W p) 1) [
          | yes x ↦ inl x
          | no x ↦ elim (b.drawing.draw p h) [
            | inl y ↦ inl y
            | inr f ↦ inr (same_falls g j (In R) (In b.set) b.by s b.drawing.rank p (sym (over_at b.set _ sd.by p h ∙ over_off W sc.by b.by p x)) f)
          ]
        ]

        h : Split g i j (In R) s (In sd.mine) (λ p. In b.set p ⊎ In sd.yours p)
        h = other_split g i j (In R) (In C) (In D) (In W) (In b.set) (In sd.mine) (In sd.yours) s b.drawing.rank
            (λ p c. (cut_out R a.set p c).0) (rest_trap g i j P R low tot X a to-i)
            (same_kept g j (In C) (In W) sc.by s (λ p w. sym (over_at b.set _ sd.by p (b.drawing.wide p w) ∙ over_at W sc.by b.by p w)) sc.split_of.theirs)
            b.drawing.wide b.drawing.inside draw (split b.set) (λ p d. (cut_out R b.set p d).0) (rest_trap g j i P R low tot W b to_j)
            (record {
              ours = same_kept g i (In D) (In sd.mine) sd.by s (λ p x. on_d p (sd.split_of.ours.inside p x)) sd.split_of.ours;
              theirs = same_kept g j (In D) (In sd.yours) sd.by s (λ p x. on_d p (sd.split_of.theirs.inside p x)) sd.split_of.theirs;
              all = sd.split_of.all;
            })

  peel : ((Q : ℕ → ℕ) → ((p : ℕ) → In Q p → p < P) → Total g Q → members Q P < members R P → Solved g i j Q) →
      (p : ℕ) → In R p → ((q : ℕ) → In R q → g.colour q ≤ g.colour p) → g.colour p % 2 ≡ i → Solved g i j R
  peel ih p hp top par = elim (find (In sc.yours) (λ q. ℕ_discrete (sc.yours q) 1) P) [
    | inr none ↦ good_case X a sc d top par (λ q x. (only_out g.colour d R q x).1)
        (λ q y. none q (low q (cut_out R a.set q (sc.split_of.theirs.inside q y)).0) y)
    | inl f ↦ other_case X a sc b (ih (cut R b.set) (λ q x. low q (cut_out R b.set q x).0) (rest_total g j i P R low tot sc.yours b)
        (rest_less g j i P R low tot sc.yours b f.0 f.1 (b.drawing.wide f.0 f.2)))
  ]
    where
      d : ℕ
      d = g.colour p

      X : ℕ → ℕ
      X = only g.colour d R

      a : Attractor g i P R low X
      a = attractor g i P R low X (λ q x. (only_out g.colour d R q x).0) (stay g R)

      sc : Solved g i j (cut R a.set)
      sc = ih (cut R a.set) (λ q x. low q (cut_out R a.set q x).0) (rest_total g i j P R low tot X a)
          (rest_less g i j P R low tot X a p (low p hp) (a.drawing.wide p (only_in g.colour d R p hp refl)))

      b : Attractor g j P R low sc.yours
      b = attractor g j P R low sc.yours (λ q y. (cut_out R a.set q (sc.split_of.theirs.inside q y)).0) sc.by

module _ (g : Game) (P : ℕ) (two : (p : ℕ) → ¬ (g.owner p ≡ 0) → g.owner p ≡ 1) where
  two' : (p : ℕ) → ¬ (g.owner p ≡ 1) → g.owner p ≡ 0
  two' p h = elim (ℕ_discrete (g.owner p) 0) [ yes e ↦ e | no d ↦ absurd (h (two p d)) ]

  by_peak : (R : ℕ → ℕ) → ((p : ℕ) → In R p → p < P) → Total g R →
      ((Q : ℕ → ℕ) → ((p : ℕ) → In Q p → p < P) → Total g Q → members Q P < members R P → Solved g 0 1 Q) → Solved g 0 1 R
  by_peak R low tot ih = elim (peak g.colour R P) [
    | inr none ↦ record {
      by = λ p. 0;
      mine = R;
      yours = R;
      split_of = record { ours = none_kept g 0 (In R) (In R) _ (λ p r. none p (low p r) r); theirs = none_kept g 1 (In R) (In R) _ (λ p r. none p (low p r) r); all = λ p r. inl r };
    }
    | inl t ↦ elim (ℕ_discrete (g.colour t.0 % 2) 0) [
      | yes e ↦ peel g 0 1 P two' two R low tot ih t.0 t.2 (λ q r. t.3 q (low q r) r) e
      | no e ↦ turn_round g 1 0 R (peel g 1 0 P two two' R low tot (λ Q l s h. turn_round g 0 1 Q (ih Q l s h)) t.0 t.2 (λ q r. t.3 q (low q r) r) (omega arith))
    ]
  ]

  -- every region in which each position has a move falls into what the one and what the other keeps
  pub determined : (n : ℕ) (R : ℕ → ℕ) → ((p : ℕ) → In R p → p < P) → Total g R → members R P ≤ n → Solved g 0 1 R
  determined zero R low tot fuel = by_peak R low tot (λ Q l s h. absurd (omega arith))
  determined (suc n) R low tot fuel = by_peak R low tot (λ Q l s h. determined n Q l s (omega arith))
