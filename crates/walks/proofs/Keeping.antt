-- What a player keeps, put together from parts: attractors, traps, and regions solved one after
-- another.
use Rattle.walks.specs.Games.{Game, Step, Inside, Keeps, Descends, AtTop, Trap, Split}
use Rattle.walks.proofs.Walks.{walk_map, walk_falls, loop_sorts, walk_first}
use Rattle.std.proofs.Common.{◌≡◌, ℕ, ◌%◌, ◌<◌, ◌≤◌, ◌⊎◌, sym, ap, ◌∙◌, subst, inl, inr, arith}
use native.Mathlib.Decide.{ℕ_discrete}

-- what is drawn into W is kept with W: outside W ranks fall, so a loop lies in W
module _ (g : Game) (i : ℕ) (R : ℕ → Type 0) (s : ℕ → ℕ) (W : ℕ → Type 0) (k : Keeps g i R s W) where
  pub attractor_kept : (r : ℕ → ℕ) (B : ℕ → Type 0) → ((p : ℕ) → W p → B p) → ((p : ℕ) → B p → R p) →
      ((p : ℕ) → B p → W p ⊎ Descends g i R s r B p) → Keeps g i R s B
  attractor_kept r B wide inside sort =
      record {
        inside = inside;
        moves = λ p b o. elim (sort p b) [ inl w ↦ k.moves p w o | inr f ↦ f.moves o ];
        closed = λ p q b rq e. elim (sort p b) [ inl w ↦ wide q (k.closed p q w rq e) | inr f ↦ (f.falls q rq e).0 ];
        sound = λ p b bad loop.
            elim (loop_sorts W (Descends g i R s r B) (λ x y e w. k.closed x y w (inside y e.2.1) e.2.2)
            (λ x y e. sort y e.2.1) p (sort p b) loop) [
              | inl v ↦ k.sound p (walk_first v).1.0 bad (walk_map (λ x y e. (e.2.0, e.2.1, (e.0, e.1, e.2.2.2))) v)
              | inr v ↦ let h = walk_falls r (λ x y e. (e.0.falls y (inside y e.2.2.1) e.2.2.2).1) v in omega arith
            ];
      }

-- the player of the highest colour d keeps all of R, where it keeps C and all else is drawn to
-- colour d: a loop outside C meets d, which is good for it
module _ (g : Game) (i d : ℕ) (R : ℕ → Type 0) (s : ℕ → ℕ) (top : (p : ℕ) → R p → g.colour p ≤ d) (ours : d % 2 ≡ i) where
  pub whole_kept : (C A : ℕ → Type 0) (r : ℕ → ℕ) → Keeps g i C s C → ((p : ℕ) → C p → R p) → ((p : ℕ) → R p → A p ⊎ C p) →
      ((p : ℕ) → A p → AtTop g i d R s p ⊎ Descends g i R s r A p) → Keeps g i R s R
  whole_kept C A r k low sort draw =
      record {
        inside = λ p b. b;
        moves = λ p b o. elim (sort p b) [
          | inl a ↦ elim (draw p a) [ inl t ↦ t.moves o | inr f ↦ f.moves o ]
          | inr c ↦ ((k.moves p c o).0, low _ (k.moves p c o).1)
        ];
        closed = λ p q b rq e. rq;
        sound = λ p b bad loop.
            let E : ℕ → ℕ → Type 0 = Inside (λ x. g.colour x ≤ g.colour p) (Inside R (Step g i s)) in
            let fall : (x y : ℕ) → E x y → A x → A y × (r y < r x) =
            λ x y e a. elim (draw x a) [ inl t ↦ absurd (bad (let h : g.colour p ≡ d = omega (arith, top p b, e.0, t.shows) in cc)) | inr f ↦ f.falls y e.2.1 e.2.2 ] in
            elim (loop_sorts A C (λ x y e a. (fall x y e a).0) (λ x y e. sort y e.2.1) p (sort p b) loop) [
              | inl v ↦ let h = walk_falls r (λ x y e. (fall x y e.2 e.0).1) v in omega arith
              | inr v ↦ k.sound p (walk_first v).1.0 bad (walk_map (λ x y e. (e.2.0, e.2.1, (e.0, e.1, e.2.2.2))) v)
            ];
      }

-- what i keeps in C it keeps in R, where C is a trap in R for its opponents
module _ (g : Game) (i : ℕ) (R C : ℕ → Type 0) (low : (p : ℕ) → C p → R p) (trap : Trap g i R C) where
  pub trap_kept : (s : ℕ → ℕ) (W : ℕ → Type 0) → Keeps g i C s W → Keeps g i R s W
  trap_kept s W k =
      record {
        inside = λ p w. low p (k.inside p w);
        moves = λ p w o. ((k.moves p w o).0, low _ (k.moves p w o).1);
        closed = λ p q w rq e. elim (ℕ_discrete (g.owner p) i) [
          | yes o ↦ k.closed p q w (subst C (sym (ap (g.target p) (e.2 o)) ∙ e.3) (k.moves p w o).1) e
          | no o ↦ k.closed p q w (trap p q e.0 (k.inside p w) o rq e.1 e.3) e
        ];
        sound = k.sound;
      }

-- what is kept in the rest D of R is kept with what is kept in R
module _ (g : Game) (i : ℕ) (R B D : ℕ → Type 0) (s : ℕ → ℕ) (sort : (p : ℕ) → R p → B p ⊎ D p) (low : (p : ℕ) → D p → R p) where
  pub join_kept : (X : ℕ → Type 0) → Keeps g i R s B → Keeps g i D s X → Keeps g i R s (λ p. B p ⊎ X p)
  join_kept X kb kx =
      record {
        inside = λ p u. elim u [ inl b ↦ kb.inside p b | inr x ↦ low p (kx.inside p x) ];
        moves = λ p u o. elim u [ inl b ↦ kb.moves p b o | inr x ↦ ((kx.moves p x o).0, low _ (kx.moves p x o).1) ];
        closed = λ p q u rq e. elim u [
          | inl b ↦ inl (kb.closed p q b rq e)
          | inr x ↦ elim (sort q rq) [ inl b ↦ inl b | inr c ↦ inr (kx.closed p q x c e) ]
        ];
        sound = λ p u bad loop.
            elim (loop_sorts B X (λ x y e b. kb.closed x y b (elim e.2.1 [ inl c ↦ kb.inside y c | inr c ↦ low y (kx.inside y c) ]) e.2.2) (λ x y e. e.2.1) p u loop) [
              | inl v ↦ kb.sound p (walk_first v).1.0 bad (walk_map (λ x y e. (e.2.0, e.2.1, (e.0, e.1, e.2.2.2))) v)
              | inr v ↦ kx.sound p (walk_first v).1.0 bad (walk_map (λ x y e. (e.2.0, e.2.1, (e.0, e.1, e.2.2.2))) v)
            ];
      }

-- j keeps W in the trap C; B is drawn into W; the rest D of R splits into X and Y: then R splits
-- into X, and B with Y
pub other_split : (g : Game) (i j : ℕ) (R C D W B X Y : ℕ → Type 0) (s r : ℕ → ℕ) →
    ((p : ℕ) → C p → R p) → Trap g j R C → Keeps g j C s W →
    ((p : ℕ) → W p → B p) → ((p : ℕ) → B p → R p) → ((p : ℕ) → B p → W p ⊎ Descends g j R s r B p) →
    ((p : ℕ) → R p → B p ⊎ D p) → ((p : ℕ) → D p → R p) → Trap g i R D → Split g i j D s X Y →
    Split g i j R s X (λ p. B p ⊎ Y p)
other_split g i j R C D W B X Y s r c-low c-trap kw wide b-low draw sort d-low d-trap h =
    record {
      ours = trap_kept g i R D d-low d-trap s X h.ours;
      theirs = join_kept g j R B D s sort d-low Y (attractor_kept g j R s W (trap_kept g j R C c-low c-trap s W kw) r B wide b-low draw) h.theirs;
      all = λ p rp. elim (sort p rp) [ inl b ↦ inr (inl b) | inr d ↦ elim (h.all p d) [ inl x ↦ inl x | inr y ↦ inr (inr y) ] ];
    }

-- only what the strategy picks on U counts
pub same_kept : (g : Game) (i : ℕ) (R U : ℕ → Type 0) (s t : ℕ → ℕ) → ((p : ℕ) → U p → s p ≡ t p) → Keeps g i R s U → Keeps g i R t U
same_kept g i R U s t eq k =
    record {
      inside = k.inside;
      moves = λ p u o. subst (λ m. (m < g.degree p) × R (g.target p m)) (eq p u) (k.moves p u o);
      closed = λ p q u rq e. k.closed p q u rq (back p q u e);
      sound = λ p u bad loop. k.sound p u bad (walk_map (λ x y e. (e.0, e.1, (e.2.0, e.2.1, back x y e.2.0 e.2.2))) loop);
    }
  where
    back : (p q : ℕ) → U p → Step g i t p q → Step g i s p q
    back p q u e = (e.0, e.1, (λ o. e.2 o ∙ sym (eq p u)), e.3)

-- what is kept depends only on which positions the region and the set have
pub same_sets : (g : Game) (i : ℕ) (R S U V : ℕ → Type 0) (s : ℕ → ℕ) → ((p : ℕ) → R p → S p) → ((p : ℕ) → S p → R p) →
    ((p : ℕ) → U p → V p) → ((p : ℕ) → V p → U p) → Keeps g i R s U → Keeps g i S s V
same_sets g i R S U V s rs sr uv vu k =
    record {
      inside = λ p v. rs p (k.inside p (vu p v));
      moves = λ p v o. (let m = k.moves p (vu p v) o in (m.0, rs _ m.1));
      closed = λ p q v t e. uv q (k.closed p q (vu p v) (sr q t) e);
      sound = λ p v bad loop. k.sound p (vu p v) bad (walk_map (λ x y e. (e.0, e.1, (vu x e.2.0, vu y e.2.1, e.2.2))) loop);
    }

-- the empty set is kept
pub none_kept : (g : Game) (i : ℕ) (R U : ℕ → Type 0) (s : ℕ → ℕ) → ((p : ℕ) → ¬ U p) → Keeps g i R s U
none_kept g i R U s none =
    record {
      inside = λ p u. absurd (none p u);
      moves = λ p u o. absurd (none p u);
      closed = λ p q u r e. absurd (none p u);
      sound = λ p u bad loop. none p u;
    }
