-- A finite walk that is long enough shows some colour often, and only odd ones where no even
-- position is on a loop with no higher colour.
use Rattle.walks.specs.Games.{Walk, last, step, Inside, Loop}
use Rattle.walks.specs.Showings.{Chain, same, tally, Shows, limit}
use Rattle.std.specs.List.{AllByRecursion}
use Rattle.std.proofs.ByRecursion.{All-push, All-weaker}
use Rattle.std.proofs.Common.{◌≡◌, ℕ, zero, suc, ◌+◌, ◌-◌, ◌*◌, ◌%◌, ◌<◌, ◌≤◌, Bool, true, false, cond, T, eqb, ◌⊎◌, List, [], ◌∷◌, ◌++◌, length, sym, refl, ap, ◌∙◌, subst, inl, inr, append_assoc, append-nil, mul-le-mul_right, arith, eqb→eq, length-append}
use native.Mathlib.Decide.{ℕ_discrete, dec_le}
use lib.Dec.{eqb_refl}

-- a ≡ b shows in `same`
pub same_yes : (a b : ℕ) → a ≡ b → same a b ≡ 1
same_yes a b e = go (eqb a b) (subst (λ x. T (eqb a x)) e (eqb_refl a))
  where
    go : (t : Bool) → T t → ◌≡◌ {A = ℕ} (cond t 1 0) 1
    go true h = refl
    go false h = absurd h

pub same_no : (a b : ℕ) → ¬ (a ≡ b) → same a b ≡ 0
same_no a b d = go (eqb a b) (λ t. d (eqb→eq a b t))
  where
    go : (t : Bool) → ¬ T t → ◌≡◌ {A = ℕ} (cond t 1 0) 0
    go true h = absurd (h tt)
    go false h = refl

pub same_le : (a b : ℕ) → same a b ≤ 1
same_le a b = elim (ℕ_discrete a b) [ yes e ↦ let k = same_yes a b e in omega arith | no d ↦ let k = same_no a b d in omega arith ]

pub same_at : (a b : ℕ) → 0 < same a b → a ≡ b
same_at a b h = elim (ℕ_discrete a b) [ yes e ↦ e | no d ↦ absurd (let k = same_no a b d in omega arith) ]

-- two places with one number
pub record Twice (xs : List ℕ) (p : ℕ) : Type 0 where
  pub before : List ℕ
  pub between : List ℕ
  pub after : List ℕ
  pub is : xs ≡ before ++ (p ∷ (between ++ (p ∷ after)))

pub record Once (xs : List ℕ) (p : ℕ) : Type 0 where
  pub before : List ℕ
  pub after : List ℕ
  pub is : xs ≡ before ++ (p ∷ after)

once : (p : ℕ) (xs : List ℕ) → Once xs p ⊎ (tally (λ x. same x p) xs ≡ 0)
once p [] = inr refl
once p (x ∷ xs) = elim (ℕ_discrete x p) [
  | yes e ↦ inl (record { before = []; after = xs; is = ap (λ y. y ∷ xs) e })
  | no d ↦ elim (once p xs) [
    | inl o ↦ inl (record { before = x ∷ o.before; after = o.after; is = ap (λ y. x ∷ y) o.is })
    | inr z ↦ inr (let k = same_no x p d in omega arith)
  ]
]

twice : (p : ℕ) (xs : List ℕ) → Twice xs p ⊎ (tally (λ x. same x p) xs ≤ 1)
twice p [] = inr (omega arith)
twice p (x ∷ xs) = elim (ℕ_discrete x p) [
  | yes e ↦ elim (once p xs) [
    | inl o ↦ inl (record { before = []; between = o.before; after = o.after; is = ap (λ y. y ∷ xs) e ∙ ap (λ y. p ∷ y) o.is })
    | inr z ↦ inr (let k = same_yes x p e in omega arith)
  ]
  | no d ↦ elim (twice p xs) [
    | inl o ↦ inl (record { before = x ∷ o.before; between = o.between; after = o.after; is = ap (λ y. x ∷ y) o.is })
    | inr z ↦ inr (let k = same_no x p d in omega arith)
  ]
]

pub tally_split : (f g h : ℕ → ℕ) → ((x : ℕ) → f x ≤ g x + h x) → (xs : List ℕ) → tally f xs ≤ tally g xs + tally h xs
tally_split f g h le [] = omega arith
tally_split f g h le (x ∷ xs) = let a = le x in let b = tally_split f g h le xs in omega arith

pub tally_join : (f : ℕ → ℕ) (xs ys : List ℕ) → tally f (xs ++ ys) ≡ tally f xs + tally f ys
tally_join f [] ys = omega arith
tally_join f (x ∷ xs) ys = let h = tally_join f xs ys in omega arith

pub tally_none : (f : ℕ → ℕ) (xs : List ℕ) → AllByRecursion (λ x. f x ≡ 0) xs → tally f xs ≡ 0
tally_none f [] a = refl
tally_none f (x ∷ xs) a = let h = tally_none f xs a.1 in omega arith

pub tally_le : (f g : ℕ → ℕ) → ((x : ℕ) → f x ≤ g x) → (xs : List ℕ) → tally f xs ≤ tally g xs
tally_le f g le [] = omega arith
tally_le f g le (x ∷ xs) = let a = le x in let b = tally_le f g le xs in omega arith

-- of numbers below P, marked by f, more than P cannot be marked unless one stands twice
pub pigeons : (P : ℕ) (f : ℕ → ℕ) (xs : List ℕ) → ((x : ℕ) → f x ≤ 1) → AllByRecursion (λ x. P ≤ x → f x ≡ 0) xs →
    ((p : ℕ) × (0 < f p) × Twice xs p) ⊎ (tally f xs ≤ P)
pigeons zero f xs low a = inr (let h = tally_none f xs (All-weaker _ (λ x. f x ≡ 0) (λ x g. g (omega arith)) xs a) in omega arith)
pigeons (suc P) f xs low a =
    elim (pigeons P (λ x. f x - same x P) xs (λ x. let o = low x in omega arith)
    (All-weaker _ (λ x. P ≤ x → f x - same x P ≡ 0) (λ x g h. elim (ℕ_discrete x P)
    [ yes e ↦ let k = same_yes x P e in let o = low x in omega arith | no d ↦ let k = g (omega arith) in omega arith ]) xs a)) [
      | inl r ↦ inl (r.0, (let o = r.1 in omega arith), r.2)
      | inr h ↦ elim (ℕ_discrete (f P) 0) [
        | yes z ↦ inr (let k = tally_le f (λ x. f x - same x P) (λ x. elim (ℕ_discrete x P)
            [ yes e ↦ let u : f x ≡ 0 = ap f e ∙ z in omega arith | no d ↦ let u = same_no x P d in omega arith ]) xs in omega arith)
        | no p ↦ elim (twice P xs) [
          | inl t ↦ inl (P, omega arith, t)
          | inr t ↦ inr (let k = tally_split f (λ x. f x - same x P) (λ x. same x P) (λ x. omega arith) xs in omega arith)
        ]
      ]
    ]

module _ (E : ℕ → ℕ → Type 0) where
  pub chain_back : (xs ys : List ℕ) → Chain E (xs ++ ys) → Chain E ys
  chain_back [] ys c = c
  chain_back (x ∷ xs) ys c = chain_back xs ys c.1

  pub chain_front : (xs ys : List ℕ) → Chain E (xs ++ ys) → Chain E xs
  chain_front [] ys c = tt
  chain_front (x ∷ []) ys c = (tt, tt)
  chain_front (x ∷ (y ∷ xs)) ys c = (c.0, chain_front (y ∷ xs) ys c.1)

  pub chain_walk : (Q : ℕ → Type 0) (p q : ℕ) (ms bs : List ℕ) → Chain E (p ∷ (ms ++ (q ∷ bs))) → AllByRecursion Q (p ∷ (ms ++ (q ∷ bs))) → Walk (Inside Q E) p q
  chain_walk Q p q [] bs c a = last (a.0, a.1.0, c.0)
  chain_walk Q p q (m ∷ ms) bs c a = step (a.0, a.1.0, c.0) (chain_walk Q m q ms bs c.1 a.1)

pub all_front : (Q : ℕ → Type 0) (xs ys : List ℕ) → AllByRecursion Q (xs ++ ys) → AllByRecursion Q xs
all_front Q [] ys a = tt
all_front Q (x ∷ xs) ys a = (a.0, all_front Q xs ys a.1)

pub all_back : (Q : ℕ → Type 0) (xs ys : List ℕ) → AllByRecursion Q (xs ++ ys) → AllByRecursion Q ys
all_back Q [] ys a = a
all_back Q (x ∷ xs) ys a = all_back Q xs ys a.1

module _ (colour : ℕ → ℕ) (K : ℕ) where
  pub shown_back : (xs ys : List ℕ) → Shows colour K ys → Shows colour K (xs ++ ys)
  shown_back xs ys w = record {
    shown = w.shown;
    odd = w.odd;
    before = xs ++ w.before;
    part = w.part;
    after = w.after;
    is = ap (λ z. xs ++ z) w.is ∙ sym (append_assoc xs w.before _);
    under = w.under;
    often = w.often;
  }

  pub shown_front : (xs ys : List ℕ) → Shows colour K xs → Shows colour K (xs ++ ys)
  shown_front xs ys w = record {
    shown = w.shown;
    odd = w.odd;
    before = w.before;
    part = w.part;
    after = w.after ++ ys;
    is = ap (λ z. z ++ ys) w.is ∙ simp append_assoc;
    under = w.under;
    often = w.often;
  }

-- the highest colour of a chain is shown at most P times, unless on a loop
pub few_shown : (E : ℕ → ℕ → Type 0) (colour : ℕ → ℕ) (P c : ℕ) (xs : List ℕ) → ((p : ℕ) → colour p ≡ c → ¬ Loop colour E p) →
    Chain E xs → AllByRecursion (λ x. x < P) xs → AllByRecursion (λ x. colour x ≤ c) xs → tally (λ x. same (colour x) c) xs ≤ P
few_shown E colour P c xs fair ch low under =
    elim (pigeons P (λ x. same (colour x) c) xs (λ x. same_le (colour x) c)
    (All-weaker _ (λ x. P ≤ x → same (colour x) c ≡ 0) (λ x h k. absurd (omega arith)) xs low)) [
      | inl r ↦
          let p : ℕ = r.0 in
          let t : Twice xs p = r.2 in
          let e : colour p ≡ c = same_at (colour p) c r.1 in
          let ys : List ℕ = p ∷ (t.between ++ (p ∷ t.after)) in
          absurd (fair p e (chain_walk E (λ x. colour x ≤ colour p) p p t.between t.after
          (chain_back E t.before ys (subst (Chain E) t.is ch))
          (All-weaker _ (λ x. colour x ≤ colour p) (λ x (h : colour x ≤ c). omega arith) ys (all_back _ t.before ys (subst (AllByRecursion (λ x. colour x ≤ c)) t.is under)))))
      | inr h ↦ h
    ]

-- where no even position is on a loop with no higher colour, every walk of a computed length shows
-- an odd colour more than K times
module _ (E : ℕ → ℕ → Type 0) (colour : ℕ → ℕ) (P K : ℕ) (fair : (p : ℕ) → colour p % 2 ≡ 0 → ¬ Loop colour E p) where
  -- a part whose colours are below c
  Short : ℕ → ℕ → Type 0
  Short N c = (xs : List ℕ) → Chain E xs → AllByRecursion (λ x. (x < P) × (colour x < c)) xs → Shows colour K xs ⊎ (length xs ≤ limit N c)

  module _ (N c : ℕ) (ih : Short N c) where
    runs : (pre xs : List ℕ) → Chain E (pre ++ xs) → AllByRecursion (λ x. (x < P) × (colour x < c)) pre → AllByRecursion (λ x. (x < P) × (colour x < suc c)) xs →
        Shows colour K (pre ++ xs) ⊎
        (length pre + length xs ≤ tally (λ x. same (colour x) c) xs + (tally (λ x. same (colour x) c) xs + 1) * limit N c)
    unfolding Short
    runs pre [] ch a b = elim (ih pre (chain_front E pre [] ch) a) [ inl w ↦ inl (shown_front colour K pre [] w) | inr h ↦ inr (omega arith) ]
    runs pre (x ∷ xs) ch a b = elim (ℕ_discrete (colour x) c) [
      | yes e ↦ elim (ih pre (chain_front E pre _ ch) a) [
        | inl w ↦ inl (shown_front colour K pre _ w)
        | inr h ↦ elim (runs [] xs (chain_back E pre _ ch).1 tt b.1) [
          | inl w ↦ inl (shown_back colour K pre _ (shown_back colour K (x ∷ []) xs w))
          | inr k ↦ inr (let u = same_yes (colour x) c e in rw u (omega arith))
        ]
      ]
      | no d ↦ elim (runs (pre ++ (x ∷ [])) xs (rw append_assoc ch) (All-push _ pre x a (b.0.0, omega arith)) b.1) [
        | inl w ↦ inl (rw append_assoc at w)
        | inr k ↦ inr (let u = same_no (colour x) c d in let v = length-append pre (x ∷ []) in rw u (omega arith))
      ]
    ]

  short : (N : ℕ) → P ≤ N → K ≤ N → (c : ℕ) → Short N c
  unfolding Short
  short N hp hk zero [] ch a = inr (omega arith)
  short N hp hk zero (x ∷ xs) ch a = absurd (omega arith)
  short N hp hk (suc c) xs ch a =
      let t : ℕ = tally (λ x. same (colour x) c) xs in
      let under : AllByRecursion (λ x. colour x ≤ c) xs = All-weaker _ (λ x. colour x ≤ c) (λ x (h : (x < P) × (colour x < suc c)). omega arith) xs a in
      let few : Shows colour K xs ⊎ (t ≤ N) = elim (ℕ_discrete (c % 2) 0) [
        | yes e ↦ inr (let h = few_shown E colour P c xs (λ p q. fair p (ap (λ x. x % 2) q ∙ e)) ch (All-weaker _ (λ x. x < P) (λ x (h : (x < P) × (colour x < suc c)). h.0) xs a) under in omega arith)
        | no o ↦ elim (dec_le t K) [
          | yes h ↦ inr (omega arith)
          | no h ↦ inl (record { shown = c; odd = omega arith; before = []; part = xs; after = []; is = sym (append-nil xs); under = under; often = omega arith })
        ]
      ] in
      elim few [
        | inl w ↦ inl w
        | inr h ↦ elim (runs N c (short N hp hk c) [] xs ch tt a) [
          | inl w ↦ inl w
          | inr k ↦ inr (let m = mul-le-mul_right (limit N c) h in omega arith)
        ]
      ]

  pub long_walks : (c : ℕ) (xs : List ℕ) → Chain E xs → AllByRecursion (λ x. (x < P) × (colour x < c)) xs → limit (P + K) c < length xs → Shows colour K xs
  unfolding Short
  long_walks c xs ch a h = elim (short (P + K) (omega arith) (omega arith) c xs ch a) [ inl w ↦ w | inr k ↦ absurd (omega arith) ]
