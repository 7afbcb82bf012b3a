-- No position is kept by both players: each with its own strategy would lead the play around one
-- loop, whose highest colour is good for one of them alone.
use Rattle.walks.specs.Games.{Game, Step, Walk, last, step, Inside, Loop, Keeps}
use Rattle.walks.proofs.Walks.{walk_map, walk_join}
use Rattle.std.proofs.Common.{◌≡◌, ℕ, zero, suc, ◌+◌, ◌-◌, ◌%◌, ◌<◌, ◌≤◌, cond, eqb, ◌⊎◌, sym, refl, ap, ◌∙◌, subst, inl, inr, arith}
use native.Mathlib.Decide.{ℕ_discrete, dec_le}
use Rattle.std.proofs.lemmas.Bool.{eq-eqb, ne_eqb, cond-true, cond-false}

-- two places below n + 1 at which f is the same
record Again (f : ℕ → ℕ) (n : ℕ) : Type 0 where
  early : ℕ
  late : ℕ
  order : early < late
  within : late ≤ n
  same : f early ≡ f late

-- f with the value u in place of v
moved : (ℕ → ℕ) → ℕ → ℕ → ℕ → ℕ
moved f v u k = cond (eqb (f k) v) u (f k)

moved_at : (f : ℕ → ℕ) (v u k : ℕ) → f k ≡ v → moved f v u k ≡ u
unfolding moved
moved_at f v u k e = cond-true (eqb (f k) v) u (f k) (eq-eqb (f k) v e)

moved_off : (f : ℕ → ℕ) (v u k : ℕ) → ¬ (f k ≡ v) → moved f v u k ≡ f k
unfolding moved
moved_off f v u k d = cond-false (eqb (f k) v) u (f k) (ne_eqb (f k) v d)

-- the place of a value among the first n
place : (f : ℕ → ℕ) (v n : ℕ) → ((k : ℕ) × (k < n) × (f k ≡ v)) ⊎ ((k : ℕ) → k < n → ¬ (f k ≡ v))
place f v zero = inr (λ k h e. absurd (omega arith))
place f v (suc n) = elim (ℕ_discrete (f n) v) [
  | yes e ↦ inl (n, omega arith, e)
  | no d ↦ elim (place f v n) [
    | inl r ↦ inl (r.0, (let h = r.1 in omega arith), r.2)
    | inr g ↦ inr (λ k h e. elim (ℕ_discrete k n) [ yes q ↦ d (ap f (sym q) ∙ e) | no q ↦ g k (omega arith) e ])
  ]
]

-- of n + 1 numbers below n two are the same
again : (n : ℕ) (f : ℕ → ℕ) → ((k : ℕ) → k ≤ n → f k < n) → Again f n
again zero f low = absurd (let h = low 0 (omega arith) in omega arith)
again (suc n) f low = elim (place f (f (suc n)) (suc n)) [
  | inl r ↦ record { early = r.0; late = suc n; order = r.1; within = omega arith; same = r.2 }
  | inr other ↦
      let r = again n (moved f n (f (suc n))) (λ k h. elim (ℕ_discrete (f k) n) [
        | yes e ↦ (let x = moved_at f n (f (suc n)) k e in let y = low (suc n) (omega arith) in let z = other k (omega arith) in omega arith)
        | no d ↦ (let x = moved_off f n (f (suc n)) k d in let y = low k (omega arith) in omega arith)
      ]) in
      let a : ℕ = r.early in
      let b : ℕ = r.late in
      let lt : a < b = r.order in
      let le : b ≤ n = r.within in
      let eq : moved f n (f (suc n)) a ≡ moved f n (f (suc n)) b = r.same in
      record {
        early = a;
        late = b;
        order = lt;
        within = omega arith;
        same = elim (ℕ_discrete (f a) n) [
          | yes ea ↦ elim (ℕ_discrete (f b) n) [
            | yes eb ↦ ea ∙ sym eb
            | no db ↦ absurd (other b (omega arith) (sym (moved_off f n (f (suc n)) b db) ∙ (sym eq ∙ moved_at f n (f (suc n)) a ea)))
          ]
          | no da ↦ elim (ℕ_discrete (f b) n) [
            | yes eb ↦ absurd (other a (omega arith) (sym (moved_off f n (f (suc n)) a da) ∙ (eq ∙ moved_at f n (f (suc n)) b eb)))
            | no db ↦ sym (moved_off f n (f (suc n)) a da) ∙ (eq ∙ moved_off f n (f (suc n)) b db)
          ]
        ];
      }
]

-- a place of the greatest value from a to a + n
peak : (f : ℕ → ℕ) (a n : ℕ) → (c : ℕ) × (a ≤ c) × (c ≤ a + n) × ((k : ℕ) → a ≤ k → k ≤ a + n → f k ≤ f c)
peak f a zero = (a, omega arith, omega arith, λ k h l. let e : k ≡ a = omega arith in let x = ap f e in omega arith)
peak f a (suc n) =
    let r = peak f a n in
    let c : ℕ = r.0 in
    elim (dec_le (f (a + suc n)) (f c)) [
      | yes le ↦ (c, r.1, (let h = r.2 in omega arith), λ k h l. elim (ℕ_discrete k (a + suc n)) [ yes e ↦ (let x = ap f e in omega arith) | no d ↦ r.3 k h (omega arith) ])
      | no gt ↦ (a + suc n, omega arith, omega arith, λ k h l. elim (ℕ_discrete k (a + suc n)) [ yes e ↦ (let x = ap f e in omega arith) | no d ↦ (let x = r.3 k h (omega arith) in omega arith) ])
    ]

module _ (E : ℕ → ℕ → Type 0) (f : ℕ → ℕ) (go : (k : ℕ) → E (f k) (f (suc k))) where
  -- the walk along f, inside Q
  along : (Q : ℕ → Type 0) (a n : ℕ) → ((k : ℕ) → a ≤ k → k ≤ a + suc n → Q (f k)) → Walk (Inside Q E) (f a) (f (a + suc n))
  along Q a zero h =
      let e : suc a ≡ a + suc 0 = omega arith in
      subst (λ k. Walk (Inside Q E) (f a) (f k)) e (last (h a (omega arith) (omega arith), h (suc a) (omega arith) (omega arith), go a))
  along Q a (suc n) h =
      let e : suc a + suc n ≡ a + suc (suc n) = omega arith in
      subst (λ k. Walk (Inside Q E) (f a) (f k)) e
      (step (h a (omega arith) (omega arith), h (suc a) (omega arith) (omega arith), go a) (along Q (suc a) n (λ k l m. h k (omega arith) (omega arith))))

  -- from a place a on, f comes back to where it was: the highest position on that loop is on a loop
  -- with no higher colour
  around : (colour : ℕ → ℕ) (a n : ℕ) → f a ≡ f (a + suc n) → (c : ℕ) × Loop colour E (f c)
  around colour a n same =
      let r = peak (λ k. colour (f k)) a n in
      let c : ℕ = r.0 in
      let top : (k : ℕ) → a ≤ k → k ≤ a + suc n → colour (f k) ≤ colour (f c) =
      λ k h l. elim (ℕ_discrete k (a + suc n)) [
        | yes e ↦ (let x = ap (λ q. colour (f q)) e in let y = ap colour same in let z = r.3 a (omega arith) (omega arith) in omega arith)
        | no d ↦ r.3 k h (omega arith)
      ] in
      (c, join colour a n c r.1 r.2 top same)
    where
      join : (colour : ℕ → ℕ) (a n c : ℕ) → a ≤ c → c ≤ a + n → ((k : ℕ) → a ≤ k → k ≤ a + suc n → colour (f k) ≤ colour (f c)) → f a ≡ f (a + suc n) → Loop colour E (f c)
      join colour a n c low high top same =
          let Q : ℕ → Type 0 = λ x. colour x ≤ colour (f c) in
          let e : c + suc (a + n - c) ≡ a + suc n = omega arith in
          let back : Walk (Inside Q E) (f c) (f a) = subst (λ x. Walk (Inside Q E) (f c) x) (sym same)
          (subst (λ k. Walk (Inside Q E) (f c) (f k)) e (along Q c (a + n - c) (λ k h l. top k (omega arith) (omega arith)))) in
          elim (ℕ_discrete a c) [
            | yes q ↦ subst (λ k. Walk (Inside Q E) (f c) (f k)) q back
            | no d ↦
                let g : a + suc (c - a - 1) ≡ c = omega arith in
                walk_join back (subst (λ k. Walk (Inside Q E) (f a) (f k)) g (along Q a (c - a - 1) (λ k h l. top k h (omega arith))))
          ]

module _ (g : Game) (n i j : ℕ) (apart : ¬ (i ≡ j)) (two : (p : ℕ) → p < n → (g.owner p ≡ i) ⊎ (g.owner p ≡ j))
    (s t : ℕ → ℕ) (U V : ℕ → Type 0) (ku : Keeps g i (λ p. p < n) s U) (kv : Keeps g j (λ p. p < n) t V) where
  abbrev Both : ℕ → Type 0
  Both p = U p × V p

  abbrev E : ℕ → ℕ → Type 0
  E p q = Inside U (Step g i s) p q × Inside V (Step g j t) p q

  onward : (p : ℕ) → Both p → (q : ℕ) × Both q × E p q
  onward p b = elim (two p (ku.inside p b.0)) [
    | inl o ↦
        let m = ku.moves p b.0 o in
        let a : Step g i s p (g.target p (s p)) = (s p, m.0, (λ _. refl), refl) in
        let c : Step g j t p (g.target p (s p)) = (s p, m.0, (λ e. absurd (apart (sym o ∙ e))), refl) in
        let u = ku.closed p _ b.0 m.1 a in
        let v = kv.closed p _ b.1 m.1 c in
        (g.target p (s p), (u, v), ((b.0, u, a), (b.1, v, c)))
    | inr o ↦
        let m = kv.moves p b.1 o in
        let a : Step g i s p (g.target p (t p)) = (t p, m.0, (λ e. absurd (apart (sym e ∙ o))), refl) in
        let c : Step g j t p (g.target p (t p)) = (t p, m.0, (λ _. refl), refl) in
        let u = ku.closed p _ b.0 m.1 a in
        let v = kv.closed p _ b.1 m.1 c in
        (g.target p (t p), (u, v), ((b.0, u, a), (b.1, v, c)))
  ]

  play : (p : ℕ) → Both p → ℕ → (q : ℕ) × Both q
  play p b zero = (p, b)
  play p b (suc k) = let r = play p b k in let o = onward r.0 r.1 in (o.0, o.1)

  -- a play that comes back to where it was breaks one of the two promises
  closes : (p : ℕ) (b : Both p) (a k : ℕ) → (play p b a).0 ≡ (play p b (a + suc k)).0 → ⊥
  unfolding play
  closes p b a k same =
      let f : ℕ → ℕ = λ m. (play p b m).0 in
      let l = around E f (λ m. (onward (play p b m).0 (play p b m).1).2) g.colour a k same in
      let q : ℕ = f l.0 in
      let w : Both q = (play p b l.0).1 in
      elim (ℕ_discrete (g.colour q % 2) i) [
        | yes o ↦ kv.sound q w.1 (λ x. apart (sym o ∙ x)) (walk_map (λ x y e. (e.0, e.1, e.2.1)) l.1)
        | no o ↦ ku.sound q w.0 o (walk_map (λ x y e. (e.0, e.1, e.2.0)) l.1)
      ]

  pub not_both : (p : ℕ) → U p → V p → ⊥
  not_both p u v = found (again n f (λ k h. ku.inside (f k) (play p (u, v) k).1.0))
    where
      f : ℕ → ℕ
      f k = (play p (u, v) k).0

      found : Again f n → ⊥
      found r =
          let e : r.late ≡ r.early + suc (r.late - r.early - 1) = (let h = r.order in omega arith) in
          closes p (u, v) r.early (r.late - r.early - 1) (subst (λ k. f r.early ≡ f k) e r.same)
