-- Which numbers a finite graph leads to, worked out: a search that can be computed, and that tells walks.
use Rattle.std.proofs.Common.{◌≡◌, ℕ, zero, suc, ◌<◌, ◌≤◌, Bool, true, false, cond, not, ◌||◌, eqb, ◌⊎◌, List, [], ◌∷◌, ◌++◌, map, get_or, Decides, sym, refl, ap, ◌∙◌, subst, inl, inr, arith}
use native.Mathlib.Decide.{ℕ_discrete}
use Rattle.std.specs.List.{range_with_len}
use Rattle.std.proofs.lemmas.List.{get_or_past}
use Rattle.std.proofs.lemmas.List.FromFn.{length-map-range_with_len, get_or-map-range_with_len}
use Rattle.std.proofs.lemmas.Bool.{cases_Bool, cases_lt, cases_eq, both_ways, or_cases, or_left, or_right, or_parts, not-true, not-false, eqb-true, eq-eqb}
use Rattle.std.proofs.lemmas.Bool.Decides.{Decides-like, Decides-or, Decides-eqb}
use Rattle.walks.specs.Games.{Walk, last, step, Reaches}
use Rattle.walks.specs.Tables.{In, members}
use Rattle.walks.proofs.Walks.{walk_map, reach_after, reach_join}
use Rattle.walks.proofs.Attractors.{members_lt}

abbrev pub mem : ℕ → List ℕ → Bool
mem x [] = false
mem x (y ∷ ys) = eqb x y || mem x ys

-- x before xs, if it passed
abbrev pub keep : Bool → ℕ → List ℕ → List ℕ
keep true x xs = x ∷ xs
keep false x xs = xs

mem_keep : (b : Bool) (x y : ℕ) (ys : List ℕ) → mem x (keep b y ys) ≡ true → ((b ≡ true) × (x ≡ y)) ⊎ (mem x ys ≡ true)
mem_keep true x y ys e = elim (or_cases (eqb x y) (mem x ys) e) [ inl f ↦ inl (refl, eqb-true x y f) | inr f ↦ inr f ]
mem_keep false x y ys e = inr e

keep_here : (b : Bool) (x y : ℕ) (ys : List ℕ) → b ≡ true → x ≡ y → mem x (keep b y ys) ≡ true
keep_here true x y ys t e = or_left (eqb x y) (mem x ys) (eq-eqb x y e)
keep_here false x y ys t e = absurd (both_ways false refl t)

keep_later : (b : Bool) (x y : ℕ) (ys : List ℕ) → mem x ys ≡ true → mem x (keep b y ys) ≡ true
keep_later true x y ys e = or_right (eqb x y) (mem x ys) e
keep_later false x y ys e = e

mem_front : (x : ℕ) (xs ys : List ℕ) → mem x xs ≡ true → mem x (xs ++ ys) ≡ true
mem_front x [] ys e = absurd (both_ways false refl e)
mem_front x (y ∷ xs) ys e = elim (or_cases (eqb x y) (mem x xs) e) [ inl f ↦ or_left _ _ f | inr f ↦ or_right (eqb x y) _ (mem_front x xs ys f) ]

mem_back : (x : ℕ) (xs ys : List ℕ) → mem x ys ≡ true → mem x (xs ++ ys) ≡ true
mem_back x [] ys e = e
mem_back x (y ∷ xs) ys e = or_right (eqb x y) _ (mem_back x xs ys e)

mem_either : (x : ℕ) (xs ys : List ℕ) → mem x (xs ++ ys) ≡ true → (mem x xs ≡ true) ⊎ (mem x ys ≡ true)
mem_either x [] ys e = inr e
mem_either x (y ∷ xs) ys e = elim (or_cases (eqb x y) (mem x (xs ++ ys)) e) [
  | inl f ↦ inl (or_left _ _ f)
  | inr f ↦ elim (mem_either x xs ys f) [ inl g ↦ inl (or_right (eqb x y) _ g) | inr g ↦ inr g ]
]

-- the numbers below n that pass
abbrev pub passing : (ℕ → Bool) → ℕ → List ℕ
passing test zero = []
passing test (suc n) = keep (test n) n (passing test n)

pub mem_passing : (test : ℕ → Bool) (n x : ℕ) → Decides (mem x (passing test n)) ((x < n) × (test x ≡ true))
mem_passing test zero x = ((λ e. absurd (both_ways false refl e)), λ p. absurd (omega (arith, p.0)))
mem_passing test (suc n) x =
    let r = mem_passing test n x in (
      (λ e. elim (mem_keep (test n) x n (passing test n) e) [
        | inl f ↦ ((let g = f.1 in omega arith), ap test f.1 ∙ f.0)
        | inr f ↦ (let g = r.0 f in ((let h = g.0 in omega arith), g.1))
      ]),
      λ p. elim (cases_eq x n) [
        | inl e ↦ keep_here (test n) x n (passing test n) (ap test (sym e) ∙ p.1) e
        | inr d ↦ keep_later (test n) x n (passing test n) (r.1 ((let h = p.0 in omega arith), p.1))
      ],
    )

-- y before rest, if it is neither there nor seen
abbrev unless_seen : List ℕ → ℕ → List ℕ → List ℕ
unless_seen seen y rest = keep (not (mem y seen || mem y rest)) y rest

-- what of a list is not seen yet, each number once
abbrev pub fresh : List ℕ → List ℕ → List ℕ
fresh seen [] = []
fresh seen (y ∷ ys) = unless_seen seen y (fresh seen ys)

fresh_from : (seen ys : List ℕ) (x : ℕ) → mem x (fresh seen ys) ≡ true → (mem x ys ≡ true) × (mem x seen ≡ false)
fresh_from seen [] x e = absurd (both_ways false refl e)
fresh_from seen (y ∷ ys) x e = elim (mem_keep (not (mem y seen || mem y (fresh seen ys))) x y (fresh seen ys) e) [
  | inl f ↦ (or_left _ _ (eq-eqb x y f.1), ap (λ z. mem z seen) f.1 ∙ (or_parts (mem y seen) (mem y (fresh seen ys)) (not-true _ f.0)).0)
  | inr f ↦ (let g = fresh_from seen ys x f in (or_right (eqb x y) (mem x ys) g.0, g.1))
]

fresh_all : (seen ys : List ℕ) (x : ℕ) → mem x ys ≡ true → mem x (fresh seen ys ++ seen) ≡ true
fresh_all seen [] x e = absurd (both_ways false refl e)
fresh_all seen (y ∷ ys) x e = elim (or_cases (eqb x y) (mem x ys) e) [ inr f ↦ later (fresh_all seen ys x f) | inl f ↦ here (eqb-true x y f) ]
  where
    later : mem x (fresh seen ys ++ seen) ≡ true → mem x (fresh seen (y ∷ ys) ++ seen) ≡ true
    later f = elim (mem_either x (fresh seen ys) seen f) [
      | inl g ↦ mem_front x (fresh seen (y ∷ ys)) seen (keep_later (not (mem y seen || mem y (fresh seen ys))) x y (fresh seen ys) g)
      | inr g ↦ mem_back x (fresh seen (y ∷ ys)) seen g
    ]

    here : x ≡ y → mem x (fresh seen (y ∷ ys) ++ seen) ≡ true
    here e = elim (cases_Bool (not (mem y seen || mem y (fresh seen ys)))) [
      | inl t ↦ mem_front x (fresh seen (y ∷ ys)) seen (keep_here (not (mem y seen || mem y (fresh seen ys))) x y (fresh seen ys) t e)
      | inr t ↦ elim (or_cases (mem y seen) (mem y (fresh seen ys)) (not-false _ t)) [
        | inl g ↦ mem_back x (fresh seen (y ∷ ys)) seen (ap (λ z. mem z seen) e ∙ g)
        | inr g ↦ mem_front x (fresh seen (y ∷ ys)) seen (keep_later (not (mem y seen || mem y (fresh seen ys))) x y (fresh seen ys) (ap (λ z. mem z (fresh seen ys)) e ∙ g))
      ]
    ]

-- a step by the rows of a graph: q stands in the row of p
abbrev pub Edge : List (List ℕ) → ℕ → ℕ → Type 0
Edge rows p q = mem q (get_or rows p []) ≡ true

-- where the numbers of a list lead in one step
abbrev ahead : List (List ℕ) → List ℕ → List ℕ
ahead rows [] = []
ahead rows (x ∷ xs) = get_or rows x [] ++ ahead rows xs

ahead_from : (rows : List (List ℕ)) (xs : List ℕ) (y : ℕ) → mem y (ahead rows xs) ≡ true → (x : ℕ) × (mem x xs ≡ true) × Edge rows x y
ahead_from rows [] y e = absurd (both_ways false refl e)
ahead_from rows (x ∷ xs) y e = elim (mem_either y (get_or rows x []) (ahead rows xs) e) [
  | inl f ↦ (x, or_left _ _ (eq-eqb x x refl), f)
  | inr f ↦ (let r = ahead_from rows xs y f in (r.0, or_right (eqb r.0 x) _ r.1, r.2))
]

ahead_all : (rows : List (List ℕ)) (xs : List ℕ) (x y : ℕ) → mem x xs ≡ true → Edge rows x y → mem y (ahead rows xs) ≡ true
ahead_all rows [] x y e d = absurd (both_ways false refl e)
ahead_all rows (z ∷ xs) x y e d = elim (or_cases (eqb x z) (mem x xs) e) [
  | inl f ↦ mem_front y (get_or rows z []) (ahead rows xs) (subst (λ w. Edge rows w y) (eqb-true x z f) d)
  | inr f ↦ mem_back y (get_or rows z []) (ahead rows xs) (ahead_all rows xs x y f d)
]

-- what is found after so many rounds, each from what the last one found
abbrev pub spread : List (List ℕ) → ℕ → List ℕ → List ℕ → List ℕ
spread rows zero seen front = front ++ seen
spread rows (suc n) seen front = spread rows n (front ++ seen) (fresh (front ++ seen) (ahead rows front))

-- what the seeds lead to in no step or more
abbrev pub reach : List (List ℕ) → ℕ → List ℕ → List ℕ
reach rows n seeds = spread rows n [] (fresh [] seeds)

-- how many numbers below n are not in the list
abbrev absent : List ℕ → ℕ → ℕ
absent xs x = cond (mem x xs) 0 1

absent_in : (xs : List ℕ) (x : ℕ) → mem x xs ≡ false → In (absent xs) x
absent_in xs x e = rw e

absent_out : (xs : List ℕ) (x : ℕ) → In (absent xs) x → mem x xs ≡ false
absent_out xs x e = elim (cases_Bool (mem x xs)) [ inr f ↦ f | inl f ↦ absurd (let z : ◌≡◌ {A = ℕ} 0 1 = sym (ap (λ b. cond b 0 1) f) ∙ e in omega arith) ]

module _ (rows : List (List ℕ)) (n : ℕ) (low : (p q : ℕ) → Edge rows p q → q < n) where
  abbrev Closed : List ℕ → Type 0
  Closed xs = (x y : ℕ) → mem x xs ≡ true → Edge rows x y → mem y xs ≡ true

  all_in : (xs : List ℕ) → members (absent xs) n ≤ 0 → (x : ℕ) → x < n → mem x xs ≡ true
  all_in xs h x l = elim (cases_Bool (mem x xs)) [
    | inl e ↦ e
    | inr e ↦ absurd (let k = members_lt (λ z. 0) (absent xs) (λ p q. absurd (omega (arith, q))) n x l (λ q. absurd (omega (arith, q))) (absent_in xs x e) in omega arith)
  ]

  fewer_absent : (xs ys : List ℕ) (y : ℕ) → y < n → mem y xs ≡ false → mem y (ys ++ xs) ≡ true → members (absent (ys ++ xs)) n < members (absent xs) n
  fewer_absent xs ys y l out there = members_lt (absent (ys ++ xs)) (absent xs)
      (λ p i. absent_in xs p (elim (cases_Bool (mem p xs)) [ inr e ↦ e | inl e ↦ absurd (both_ways _ (absent_out (ys ++ xs) p i) (mem_back p ys xs e)) ]))
      n y l (λ i. both_ways _ (absent_out (ys ++ xs) y i) there) (absent_in xs y out)

  done_closed : (f : ℕ) (seen : List ℕ) → Closed seen → Closed (spread rows f seen [])
  done_closed zero seen c = c
  done_closed (suc f) seen c = done_closed f seen c

  -- what is seen leads to what is seen or found
  abbrev Ahead : List ℕ → List ℕ → Type 0
  Ahead seen front = (x y : ℕ) → mem x seen ≡ true → Edge rows x y → mem y (front ++ seen) ≡ true

  ahead_on : (seen front : List ℕ) → Ahead seen front → Ahead (front ++ seen) (fresh (front ++ seen) (ahead rows front))
  ahead_on seen front inv x y m e = elim (mem_either x front seen m) [
    | inl f ↦ fresh_all (front ++ seen) (ahead rows front) y (ahead_all rows front x y f e)
    | inr f ↦ mem_back y (fresh (front ++ seen) (ahead rows front)) (front ++ seen) (inv x y f e)
  ]

  spread_closed : (f : ℕ) (seen front : List ℕ) → Ahead seen front → members (absent (front ++ seen)) n ≤ f → Closed (spread rows f seen front)
  spread_closed zero seen front inv h = λ x y m e. all_in (front ++ seen) h y (low x y e)
  spread_closed (suc f) seen front inv h =
      go (fresh (front ++ seen) (ahead rows front)) refl (λ k. spread_closed f (front ++ seen) (fresh (front ++ seen) (ahead rows front)) (ahead_on seen front inv) k)
    where
      go : (next : List ℕ) → fresh (front ++ seen) (ahead rows front) ≡ next → (members (absent (next ++ (front ++ seen))) n ≤ f → Closed (spread rows f (front ++ seen) next)) →
          Closed (spread rows f (front ++ seen) next)
      go [] e on = done_closed f (front ++ seen) (λ x y m d. subst (λ zs. mem y (zs ++ (front ++ seen)) ≡ true) e (ahead_on seen front inv x y m d))
      go (y ∷ next) e on =
          let found : mem y (fresh (front ++ seen) (ahead rows front)) ≡ true = subst (λ zs. mem y zs ≡ true) (sym e) (or_left _ _ (eq-eqb y y refl)) in
          let new = fresh_from (front ++ seen) (ahead rows front) y found in
          let x = ahead_from rows front y new.0 in
          let k = fewer_absent (front ++ seen) (y ∷ next) y (low x.0 y x.2) new.1 (or_left _ _ (eq-eqb y y refl)) in
          on (omega arith)

  spread_keeps : (f : ℕ) (seen front : List ℕ) (x : ℕ) → mem x (front ++ seen) ≡ true → mem x (spread rows f seen front) ≡ true
  spread_keeps zero seen front x e = e
  spread_keeps (suc f) seen front x e = spread_keeps f (front ++ seen) (fresh (front ++ seen) (ahead rows front)) x (mem_back x (fresh (front ++ seen) (ahead rows front)) (front ++ seen) e)

  -- what is found has a property that the seeds have and steps keep
  spread_has : (P : ℕ → Type 0) → ((x y : ℕ) → P x → Edge rows x y → P y) → (f : ℕ) (seen front : List ℕ) → ((x : ℕ) → mem x (front ++ seen) ≡ true → P x) →
      (x : ℕ) → mem x (spread rows f seen front) ≡ true → P x
  spread_has P on zero seen front h x e = h x e
  spread_has P on (suc f) seen front h z m = spread_has P on f (front ++ seen) (fresh (front ++ seen) (ahead rows front)) (λ x e.
      elim (mem_either x (fresh (front ++ seen) (ahead rows front)) (front ++ seen) e) [
        | inr d ↦ h x d
        | inl d ↦ (let y = ahead_from rows front x (fresh_from (front ++ seen) (ahead rows front) x d).0 in on y.0 x (h y.0 (mem_front y.0 front seen y.1)) y.2)
      ]) z m

  members_most : (u : ℕ → ℕ) (k : ℕ) → members u k ≤ k
  members_most u zero = omega arith
  members_most u (suc k) = let r = members_most u k in elim (ℕ_discrete (u k) 1) [ yes e ↦ rw e (omega arith) | no d ↦ grind arith ]

  abbrev From : List ℕ → ℕ → Type 0
  From seeds q = (x : ℕ) × (mem x seeds ≡ true) × Reaches (Edge rows) x q

  reach_closed : (seeds : List ℕ) → Closed (reach rows n seeds)
  reach_closed seeds = spread_closed n [] (fresh [] seeds) (λ x y m e. absurd (both_ways false refl m)) (members_most (absent (fresh [] seeds ++ [])) n)

  closed_on : (xs : List ℕ) → Closed xs → {x y : ℕ} → Walk (Edge rows) x y → mem x xs ≡ true → mem y xs ≡ true
  closed_on xs c (last e) m = c _ _ m e
  closed_on xs c (step e w) m = closed_on xs c w (c _ _ m e)

  pub reach_decides : (seeds : List ℕ) (q : ℕ) → Decides (mem q (reach rows n seeds)) (From seeds q)
  reach_decides seeds q = (
    spread_has (From seeds) (λ x y r e. (r.0, r.1, reach_join r.2 (inr (last e)))) n [] (fresh [] seeds)
        (λ x m. (x, elim (mem_either x (fresh [] seeds) [] m) [ inl d ↦ (fresh_from [] seeds x d).0 | inr d ↦ absurd (both_ways false refl d) ], inl refl)) q,
    λ r. whole r.0 (spread_keeps n [] (fresh [] seeds) r.0 (fresh_all [] seeds r.0 r.1)) r.2,
  )
    where
      whole : (x : ℕ) → mem x (reach rows n seeds) ≡ true → Reaches (Edge rows) x q → mem q (reach rows n seeds) ≡ true
      whole x m (inl e) = subst (λ z. mem z (reach rows n seeds) ≡ true) e m
      whole x m (inr w) = closed_on (reach rows n seeds) (reach_closed seeds) w m

  pub walk_decides : (p q : ℕ) → Decides (mem q (reach rows n (get_or rows p []))) (Walk (Edge rows) p q)
  walk_decides p q = Decides-like _ (λ r. reach_after r.1 r.2) back (reach_decides (get_or rows p []) q)
    where
      back : {p q : ℕ} → Walk (Edge rows) p q → From (get_or rows p []) q
      back (last {p} {q} e) = (q, e, inl refl)
      back (step {p} {q} {r} e w) = (q, e, inr w)

-- the rows of a graph on the numbers below n, by a test of its steps
abbrev pub rows_of : ℕ → (ℕ → ℕ → Bool) → List (List ℕ)
rows_of n test = map (λ p. passing (test p) n) (range_with_len 0 n)

module _ (n : ℕ) (test : ℕ → ℕ → Bool) (E : ℕ → ℕ → Type 0) (tells : (p q : ℕ) → Decides (test p q) (E p q)) (low : (p q : ℕ) → E p q → (p < n) × (q < n)) where
  row_is : (p : ℕ) → p < n → get_or (rows_of n test) p [] ≡ passing (test p) n
  row_is p h = get_or-map-range_with_len (λ p. passing (test p) n) 0 n p p [] h (omega arith)

  row_past : (p : ℕ) → n ≤ p → get_or (rows_of n test) p [] ≡ []
  row_past p h = get_or_past (rows_of n test) p [] (let e = length-map-range_with_len (λ p. passing (test p) n) 0 n in omega arith)

  pub edge_decides : (p q : ℕ) → Decides (mem q (get_or (rows_of n test) p [])) (E p q)
  edge_decides p q = (
    (λ e. elim (cases_lt p n) [
      | inl h ↦ (tells p q).0 ((mem_passing (test p) n q).0 (ap (mem q) (sym (row_is p h)) ∙ e)).1
      | inr h ↦ absurd (both_ways _ (ap (mem q) (row_past p h)) e)
    ]),
    λ e. ap (mem q) (row_is p (low p q e).0) ∙ (mem_passing (test p) n q).1 ((low p q e).1, (tells p q).1 e),
  )

  edge_low : (p q : ℕ) → Edge (rows_of n test) p q → q < n
  edge_low p q e = (low p q ((edge_decides p q).0 e)).1

  pub walks_decide : (p q : ℕ) → Decides (mem q (reach (rows_of n test) n (get_or (rows_of n test) p []))) (Walk E p q)
  walks_decide p q = Decides-like _ (walk_map (λ x y. (edge_decides x y).0)) (walk_map (λ x y. (edge_decides x y).1)) (walk_decides (rows_of n test) n edge_low p q)

  pub reaches_decide : (p q : ℕ) → Decides (eqb p q || mem q (reach (rows_of n test) n (get_or (rows_of n test) p []))) (Reaches E p q)
  reaches_decide p q = Decides-or _ _ (Decides-eqb p q) (walks_decide p q)

  -- what a list of seeds leads to
  pub seeds_decide : (seeds : List ℕ) (q : ℕ) → Decides (mem q (reach (rows_of n test) n seeds)) ((x : ℕ) × (mem x seeds ≡ true) × Reaches E x q)
  seeds_decide seeds q = Decides-like _
      (λ r. (r.0, r.1, on r.2)) (λ r. (r.0, r.1, back r.2)) (reach_decides (rows_of n test) n edge_low seeds q)
    where
      on : {x y : ℕ} → Reaches (Edge (rows_of n test)) x y → Reaches E x y
      on (inl e) = inl e
      on (inr w) = inr (walk_map (λ x y. (edge_decides x y).0) w)

      back : {x y : ℕ} → Reaches E x y → Reaches (Edge (rows_of n test)) x y
      back (inl e) = inl e
      back (inr w) = inr (walk_map (λ x y. (edge_decides x y).1) w)
