-- Walks: mapped, joined, and sorted by the sets that they stay in.
use Rattle.walks.specs.Games.{Walk, last, step, Reaches, Inside}
use Rattle.std.proofs.Common.{ℕ, ◌<◌, ◌⊎◌, sym, subst, inl, inr, arith}

pub walk_map : {E F : ℕ → ℕ → Type 0} → ((p q : ℕ) → E p q → F p q) → {p q : ℕ} → Walk E p q → Walk F p q
walk_map f (last e) = last (f _ _ e)
walk_map f (step e w) = step (f _ _ e) (walk_map f w)

-- a rank that falls at each step falls along a walk
pub walk_falls : {E : ℕ → ℕ → Type 0} (r : ℕ → ℕ) → ((p q : ℕ) → E p q → r q < r p) → {p q : ℕ} → Walk E p q → r q < r p
walk_falls r f (last e) = f _ _ e
walk_falls r f (step e w) = let a = f _ _ e in let b = walk_falls r f w in omega arith

-- S is never left, and every step ends in S or in T: then a loop lies in S or in T
module _ {E : ℕ → ℕ → Type 0} (S T : ℕ → Type 0) (stays : (p q : ℕ) → E p q → S p → S q) where
  walk_stays : {p q : ℕ} → Walk E p q → S p → Walk (Inside S E) p q
  walk_stays (last e) s = last (s, stays _ _ e s, e)
  walk_stays (step e w) s = step (s, stays _ _ e s, e) (walk_stays w (stays _ _ e s))

  walk_ends : {p q : ℕ} → Walk E p q → S p → S q
  walk_ends (last e) s = stays _ _ e s
  walk_ends (step e w) s = walk_ends w (stays _ _ e s)

  walk_leaves : ((p q : ℕ) → E p q → S q ⊎ T q) → {p q : ℕ} → Walk E p q → T p → S q ⊎ Walk (Inside T E) p q
  walk_leaves sort (last e) t = elim (sort _ _ e) [ inl s ↦ inl s | inr u ↦ inr (last (t, u, e)) ]
  walk_leaves sort (step {p} {q} {r} e w) t =
      elim (sort _ _ e) [
        | inl s ↦ inl (walk_ends w s)
        | inr u ↦ elim (walk_leaves sort w u) [ inl s ↦ inl s | inr v ↦ inr (step (t, u, e) v) ]
      ]

  pub loop_sorts : ((p q : ℕ) → E p q → S q ⊎ T q) → (p : ℕ) → S p ⊎ T p → Walk E p p → Walk (Inside S E) p p ⊎ Walk (Inside T E) p p
  loop_sorts sort p (inl s) w = inl (walk_stays w s)
  loop_sorts sort p (inr t) w = elim (walk_leaves sort w t) [ inl s ↦ inl (walk_stays w s) | inr v ↦ inr v ]

pub walk_first : {E : ℕ → ℕ → Type 0} {p q : ℕ} → Walk E p q → (x : ℕ) × E p x
walk_first (last e) = (_, e)
walk_first (step e w) = (_, e)

pub walk_join : {E : ℕ → ℕ → Type 0} {p q r : ℕ} → Walk E p q → Walk E q r → Walk E p r
walk_join (last e) v = step e v
walk_join (step e w) v = step e (walk_join w v)

pub walk_lift : {E F : ℕ → ℕ → Type 0} (φ : ℕ → ℕ) → ((p q : ℕ) → E p q → F (φ p) (φ q)) → {p q : ℕ} → Walk E p q → Walk F (φ p) (φ q)
walk_lift φ f (last e) = last (f _ _ e)
walk_lift φ f (step e w) = step (f _ _ e) (walk_lift φ f w)

-- walks of no step or more, put together
pub reach_after : {E : ℕ → ℕ → Type 0} {p q r : ℕ} → E p q → Reaches E q r → Walk E p r
reach_after {E} {p} e (inl s) = subst (Walk E p) s (last e)
reach_after e (inr w) = step e w

pub reach_join : {E : ℕ → ℕ → Type 0} {p q r : ℕ} → Reaches E p q → Reaches E q r → Reaches E p r
reach_join {E} {r = r} (inl s) v = subst (λ x. Reaches E x r) (sym s) v
reach_join {E} {p} (inr w) (inl s) = inr (subst (Walk E p) s w)
reach_join (inr w) (inr v) = inr (walk_join w v)
