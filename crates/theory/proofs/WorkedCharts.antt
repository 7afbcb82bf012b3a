-- Which vertices of the worked charts are held, from the definitions alone.
use Rattle.chart.specs.Arena.{Arena, size, Ranged}
use Rattle.walks.specs.Games.{Walk, last, step, Inside, Loop}
use Rattle.walks.specs.Showings.{same, tally}
use Rattle.walks.proofs.Walks.{walk_first}
use Rattle.walks.proofs.Long.{shown_back}
use Rattle.game.specs.Reading.{owner_of, colour_of, degree_of, target_of, cost_of}
use Rattle.game.specs.Voyages.{Voyage, passed, answers, wait, worst_wait}
use Rattle.game.specs.Held.{Plan, Follows, Picks, Held}
use Rattle.game.specs.Claims.{PlanStep, WaitingStep, CostlyLoop, SafePlan}
use Rattle.game.specs.Worked.{empty, answered, waiting_free, waiting_dear, asked_again, put_off, put_off_dear, dear_answer}
use Rattle.game.proofs.Examples.{put_off_dear_lost}
use Rattle.theory.proofs.Bounds.{marked_held}
use Rattle.std.specs.List.{AllByRecursion}
use Rattle.std.proofs.Common.{◌≡◌, ℕ, zero, suc, ◌+◌, ◌%◌, ◌<◌, ◌≤◌, Bool, true, false, ◌&&◌, eqb, ltb, ◌⊎◌, [], ◌∷◌, replicate, sym, refl, ap, ◌∙◌, subst, inl, inr, append-nil, le_trans, arith}
use native.Mathlib.Nat.{le-max_left, le-max_right}

-- from a held vertex the plan's move, or any of the harbour's, leads to a held one
pub held_on : (a : Arena) (v m : ℕ) (h : Held a v) → target_of a v m < size a → m < degree_of a v → (owner_of a v ≡ 0 → m ≡ h.plan []) → Held a (target_of a v m)
held_on a v m h there l o =
    record {
      there = there;
      plan = λ past. h.plan (m ∷ past);
      bound = h.bound;
      often = h.often;
      picks = λ ms f g. h.picks (m ∷ ms) (l, f) (o, g);
      waits = λ ms f g. le_trans (le-max_right _ _) (h.waits (m ∷ ms) (l, f) (o, g));
      shows = λ ms f g w. h.shows (m ∷ ms) (l, f) (o, g) (shown_back (colour_of a) h.often (v ∷ []) (passed a (target_of a v m) ms) w);
    }

-- at a vertex with one move the plan picks that one
only_move : (a : Arena) (v : ℕ) (h : Held a v) → owner_of a v ≡ 0 → degree_of a v ≡ 1 → 0 ≡ h.plan []
only_move a v h o d = let p = h.picks [] tt tt o (omega arith) in omega arith

pub empty_none : (v : ℕ) → ¬ Held empty v
empty_none v h = let t : v < 0 = h.there in omega arith

-- the harbour shows colour 1 as often as it likes, at no cost
again : (n : ℕ) → Voyage asked_again 0 (replicate n 0) × ((plan : Plan) → Follows asked_again plan 0 (replicate n 0)) ×
    AllByRecursion (λ x. colour_of asked_again x ≤ 1) (passed asked_again 0 (replicate n 0)) × (tally (λ x. same (colour_of asked_again x) 1) (passed asked_again 0 (replicate n 0)) ≡ suc n)
unfolding colour_of target_of degree_of owner_of
again zero = (tt, (λ plan. tt), (omega arith, tt), refl)
again (suc n) =
    let r = again n in
    ((omega arith, r.0), (λ plan. ((λ o. absurd (let z : ◌≡◌ {A = ℕ} 1 0 = o in omega arith)), r.1 (λ past. plan (0 ∷ past)))), (omega arith, r.2), (let e = r.3 in omega arith))

pub asked_again_lost : (v : ℕ) → ¬ Held asked_again v
unfolding target_of degree_of owner_of
asked_again_lost zero h =
    let n : ℕ = h.often in
    let r = again n in
    h.shows (replicate n 0) r.0 (r.1 h.plan)
    (record { shown = 1; odd = refl; before = []; part = passed asked_again 0 (replicate n 0); after = []; is = sym (append-nil _); under = r.2; often = (let e = r.3 in omega arith) })
asked_again_lost (suc zero) h = asked_again_lost zero (held_on asked_again 1 0 h (omega arith) (omega arith) (λ o. only_move asked_again 1 h refl refl))
asked_again_lost (suc (suc v)) h = absurd (let t : suc (suc v) < 2 = h.there in omega arith)

pub put_off_dear_none : (v : ℕ) → ¬ Held put_off_dear v
unfolding target_of degree_of owner_of
put_off_dear_none zero h = put_off_dear_lost h
put_off_dear_none (suc zero) h =
    let two : Held put_off_dear 2 = held_on put_off_dear 1 1 h (omega arith) (omega arith) (λ o. absurd (let z : ◌≡◌ {A = ℕ} 1 0 = o in omega arith)) in
    put_off_dear_lost (held_on put_off_dear 2 0 two (omega arith) (omega arith) (λ o. only_move put_off_dear 2 two refl refl))
put_off_dear_none (suc (suc zero)) h = put_off_dear_lost (held_on put_off_dear 2 0 h (omega arith) (omega arith) (λ o. only_move put_off_dear 2 h refl refl))
put_off_dear_none (suc (suc (suc v))) h = absurd (let t : suc (suc (suc v)) < 3 = h.there in omega arith)

-- after the request every move costs, and the plan has no other
dearer : (n : ℕ) (plan : Plan) → Picks waiting_dear plan 1 →
    Voyage waiting_dear 1 (replicate n 0) × (wait waiting_dear 1 1 (replicate n 0) ≡ n) × Follows waiting_dear plan 1 (replicate n 0)
unfolding colour_of target_of cost_of degree_of owner_of
dearer zero plan p = (tt, refl, tt)
dearer (suc n) plan p =
    let here : 0 ≡ plan [] = (let q : plan [] < 1 = p [] tt tt refl (omega arith) in omega arith) in
    let r = dearer n (λ past. plan (0 ∷ past)) (λ ms f g. p (0 ∷ ms) (omega arith, f) ((λ o. here), g)) in
    ((omega arith, r.0), (let e = r.1 in omega arith), ((λ o. here), r.2))

pub waiting_dear_lost : ¬ Held waiting_dear 0
unfolding colour_of target_of cost_of degree_of owner_of
waiting_dear_lost h =
    let n : ℕ = h.bound in
    let here : 0 ≡ h.plan [] = only_move waiting_dear 0 h refl refl in
    let r = dearer n (λ past. h.plan (0 ∷ past)) (λ ms f g. h.picks (0 ∷ ms) (omega arith, f) ((λ o. here), g)) in
    let w : worst_wait waiting_dear 0 (0 ∷ replicate n 0) ≤ n = h.waits (0 ∷ replicate n 0) (omega arith, r.0) ((λ o. here), r.2) in
    let k : 1 + wait waiting_dear 1 1 (replicate n 0) ≤ n = le_trans (le-max_left _ _) w in
    let e = r.1 in
    omega arith

-- where every step from u or z arrives at z, no walk comes back to u
lands : (E : ℕ → ℕ → Type 0) (u z : ℕ) → ((x y : ℕ) → (x ≡ u) ⊎ (x ≡ z) → E x y → y ≡ z) → {x y : ℕ} → Walk E x y → (x ≡ u) ⊎ (x ≡ z) → y ≡ z
lands E u z f (last e) o = f _ _ o e
lands E u z f (step e w) o = lands E u z f w (inr (f _ _ o e))

-- and no costly loop is met, if going on from z is free
module _ (a : Arena) (s : ℕ → ℕ) (u z : ℕ) (apart : ¬ (u ≡ z)) where
  abbrev E : ℕ → ℕ → Type 0
  E = WaitingStep a s (colour_of a u)

  settles : ((x y : ℕ) → (x ≡ u) ⊎ (x ≡ z) → E x y → y ≡ z) → ((x y : ℕ) → x ≡ z → (e : E x y) → cost_of a x e.0.0 ≡ 0) → ¬ CostlyLoop a s u
  settles on free d = elim (elim d.met as (λ w. (d.from ≡ u) ⊎ (d.from ≡ z)) [ inl e ↦ inl (sym e) | inr w ↦ inr (lands E u z on w (inl refl)) ]) [
    | inr e ↦ (let c = d.costs in let f = free _ _ e d.move in omega arith)
    | inl e ↦ elim d.back [
      | inl b ↦ apart (sym e ∙ (sym b ∙ on _ _ (inl e) d.move))
      | inr w ↦ apart (sym e ∙ lands E u z on w (inr (on _ _ (inl e) d.move)))
    ]
  ]

-- where every step from u is an answer, none is met
stuck : (a : Arena) (s : ℕ → ℕ) (u : ℕ) → ((x y : ℕ) → x ≡ u → ¬ WaitingStep a s (colour_of a u) x y) → ¬ CostlyLoop a s u
stuck a s u none d = elim d.met [ inl e ↦ none _ _ (sym e) d.move | inr w ↦ none u _ refl (walk_first w).1 ]

-- the plan that makes the first move of every vertex
abbrev first_moves : ℕ → ℕ
first_moves v = 0

-- where the plan answers each request of a marked vertex by its next move, it is safe
module _ (a : Arena) (Marked : ℕ → Type 0) (there : (v : ℕ) → Marked v → v < size a) (moves : (v : ℕ) → Marked v → 0 < degree_of a v)
    (closed : (x y : ℕ) → Marked x → PlanStep a first_moves x y → Marked y)
    (prompt : (u y : ℕ) → Marked u → colour_of a u % 2 ≡ 1 → PlanStep a first_moves u y → answers a (colour_of a u) y ≡ true) where
  not_higher : (q k : ℕ) → k ≤ q → (eqb (k % 2) 0 && ltb q k) ≡ true → ⊥
  not_higher q k h e = grind arith

  both : (b : Bool) → b ≡ true → b ≡ false → ⊥
  both b e f = let z : ◌≡◌ {A = ℕ} 0 1 = cc in omega arith

  prompt_safe : SafePlan a Marked first_moves
  prompt_safe =
      record {
        there = there;
        moves = λ v m o. moves v m;
        closed = closed;
        no_odd_loop = λ u m o w. let f = walk_first w in not_higher (colour_of a u) (colour_of a f.0) f.1.1 (prompt u f.0 m o f.1.2.2);
        no_costly_loop = λ u m o. stuck a first_moves u (λ x y e w.
            both (answers a (colour_of a u) y) (subst (λ v. colour_of a v % 2 ≡ 1 → answers a (colour_of a v) y ≡ true) e (λ c. prompt x y (subst Marked (sym e) m) c w.0) o) w.1);
      }

answered_target : (x m : ℕ) → m < degree_of answered x → (target_of answered x m < 2) × (colour_of answered x % 2 ≡ 1 → answers answered (colour_of answered x) (target_of answered x m) ≡ true)
unfolding degree_of target_of colour_of
answered_target zero zero h = (omega arith, λ o. refl)
answered_target zero (suc m) h = absurd (omega arith)
answered_target (suc zero) zero h = (omega arith, λ o. absurd (omega arith))
answered_target (suc zero) (suc m) h = absurd (omega arith)
answered_target (suc (suc x)) m h = absurd (omega arith)

two_moves : (v : ℕ) → v < 2 → (0 < degree_of answered v) × (0 < degree_of waiting_free v)
unfolding degree_of
two_moves zero h = (omega arith, omega arith)
two_moves (suc zero) h = (omega arith, omega arith)
two_moves (suc (suc v)) h = absurd (omega arith)

pub answered_held : (v : ℕ) → v < 2 → Held answered v
answered_held = marked_held answered (omega arith) (λ v. v < 2) first_moves (prompt_safe answered (λ v. v < 2) (λ v h. h) (λ v h. (two_moves v h).0)
    (λ x y h e. subst (λ z. z < 2) e.3 (answered_target x e.0 e.1).0)
    (λ u y h o e. subst (λ z. answers answered (colour_of answered u) z ≡ true) e.3 ((answered_target u e.0 e.1).1 o)))

-- Vertex 0 alone makes a request, of colour 1; from it and from vertex 1 every move arrives at
-- vertex 1 or at colour 2, and going on at vertex 1 is free.
pub record Lingers (a : Arena) : Type 0 where
  pub leads : (x m : ℕ) → m < degree_of a x → target_of a x m < size a
  pub moves : (v : ℕ) → v < size a → 0 < degree_of a v
  pub odd : (u : ℕ) → u < size a → colour_of a u % 2 ≡ 1 → u ≡ 0
  pub asks : colour_of a 0 ≡ 1
  pub on : (x m : ℕ) → m < degree_of a x → x ≤ 1 → (target_of a x m ≡ 1) ⊎ (colour_of a (target_of a x m) ≡ 2)
  pub free : (m : ℕ) → m < degree_of a 1 → target_of a 1 m ≡ 1 → cost_of a 1 m ≡ 0

module _ (a : Arena) (r : Ranged a) (k : Lingers a) where
  unanswered_two : (y : ℕ) → colour_of a y ≡ 2 → answers a (colour_of a 0) y ≡ false → ⊥
  unanswered_two y c e = let q = k.asks in grind arith

  near : (x : ℕ) → (x ≡ 0) ⊎ (x ≡ 1) → x ≤ 1
  near x o = elim o [ inl e ↦ omega arith | inr e ↦ omega arith ]

  next_low : (x y : ℕ) → x ≤ 1 → PlanStep a first_moves x y → colour_of a y ≤ colour_of a 0 → y ≡ 1
  next_low x y h e c = elim (k.on x e.0 e.1 h) [
    | inl t ↦ sym e.3 ∙ t
    | inr t ↦ absurd (let q = k.asks in let z : colour_of a y ≡ 2 = sym (ap (colour_of a) e.3) ∙ t in omega arith)
  ]

  next_waits : (x y : ℕ) → x ≤ 1 → WaitingStep a first_moves (colour_of a 0) x y → y ≡ 1
  next_waits x y h e = elim (k.on x e.0.0 e.0.1 h) [
    | inl t ↦ sym e.0.3 ∙ t
    | inr t ↦ absurd (unanswered_two y (sym (ap (colour_of a) e.0.3) ∙ t) e.1)
  ]

  lingers_safe : SafePlan a (λ v. v < size a) first_moves
  lingers_safe =
      record {
        there = λ v h. h;
        moves = λ v h o. k.moves v h;
        closed = λ x y h e. subst (λ z. z < size a) e.3 (k.leads x e.0 e.1);
        no_odd_loop = λ u h o. subst (λ u. ¬ Loop (colour_of a) (Inside (λ v. v < size a) (PlanStep a first_moves)) u) (sym (k.odd u h o))
            (λ w. let z : ◌≡◌ {A = ℕ} 0 1 = lands _ 0 1 (λ x y p e. next_low x y (near x p) e.2.2 e.1) w (inl refl) in omega arith);
        no_costly_loop = λ u h o. subst (λ u. ¬ CostlyLoop a first_moves u) (sym (k.odd u h o))
            (settles a first_moves 0 1 (λ e. absurd (omega arith)) (λ x y p e. next_waits x y (near x p) e)
            (λ x y p e. subst (λ v. (m : ℕ) → m < degree_of a v → target_of a v m ≡ 1 → cost_of a v m ≡ 0) (sym p) k.free e.0.0 e.0.1 (e.0.3 ∙ next_waits x y (near x (inr p)) e)));
      }

  lingers_held : (v : ℕ) → v < size a → Held a v
  lingers_held = marked_held a r (λ v. v < size a) first_moves lingers_safe

free_leads : (x m : ℕ) → m < degree_of waiting_free x → (target_of waiting_free x m ≡ 1) × (cost_of waiting_free 1 m ≡ 0)
unfolding degree_of target_of cost_of
free_leads zero zero h = (refl, refl)
free_leads zero (suc m) h = absurd (omega arith)
free_leads (suc zero) zero h = (refl, refl)
free_leads (suc zero) (suc m) h = absurd (omega arith)
free_leads (suc (suc x)) m h = absurd (omega arith)

free_odd : (u : ℕ) → colour_of waiting_free u % 2 ≡ 1 → u ≡ 0
unfolding colour_of
free_odd zero o = refl
free_odd (suc zero) o = absurd (omega arith)
free_odd (suc (suc u)) o = absurd (omega arith)

pub waiting_free_held : (v : ℕ) → v < 2 → Held waiting_free v
unfolding colour_of
waiting_free_held = lingers_held waiting_free (omega arith) (record {
  leads = λ x m h. (let t = (free_leads x m h).0 in omega arith);
  moves = λ v h. (two_moves v h).1;
  odd = λ u h. free_odd u;
  asks = refl;
  on = λ x m h l. inl (free_leads x m h).0;
  free = λ m h t. (free_leads 1 m h).1;
})

put_off_leads : (x m : ℕ) → m < degree_of put_off x → (target_of put_off x m < 3) × (x ≤ 1 → (target_of put_off x m ≡ 1) ⊎ (colour_of put_off (target_of put_off x m) ≡ 2))
unfolding degree_of target_of colour_of
put_off_leads zero zero h = (omega arith, λ l. inl refl)
put_off_leads zero (suc m) h = absurd (omega arith)
put_off_leads (suc zero) zero h = (omega arith, λ l. inl refl)
put_off_leads (suc zero) (suc zero) h = (omega arith, λ l. inr refl)
put_off_leads (suc zero) (suc (suc m)) h = absurd (omega arith)
put_off_leads (suc (suc zero)) zero h = (omega arith, λ l. absurd (omega arith))
put_off_leads (suc (suc zero)) (suc m) h = absurd (omega arith)
put_off_leads (suc (suc (suc x))) m h = absurd (omega arith)

put_off_free : (m : ℕ) → target_of put_off 1 m ≡ 1 → cost_of put_off 1 m ≡ 0
unfolding target_of cost_of
put_off_free zero t = refl
put_off_free (suc zero) t = absurd (omega arith)
put_off_free (suc (suc m)) t = absurd (omega arith)

put_off_odd : (u : ℕ) → colour_of put_off u % 2 ≡ 1 → u ≡ 0
unfolding colour_of
put_off_odd zero o = refl
put_off_odd (suc zero) o = absurd (omega arith)
put_off_odd (suc (suc zero)) o = absurd (omega arith)
put_off_odd (suc (suc (suc u))) o = absurd (omega arith)

three_moves : (v : ℕ) → v < 3 → (0 < degree_of put_off v) × (0 < degree_of dear_answer v)
unfolding degree_of
three_moves zero h = (omega arith, omega arith)
three_moves (suc zero) h = (omega arith, omega arith)
three_moves (suc (suc zero)) h = (omega arith, omega arith)
three_moves (suc (suc (suc v))) h = absurd (omega arith)

pub put_off_held : (v : ℕ) → v < 3 → Held put_off v
unfolding colour_of
put_off_held = lingers_held put_off (omega arith) (record {
  leads = λ x m h. (put_off_leads x m h).0;
  moves = λ v h. (three_moves v h).0;
  odd = λ u h. put_off_odd u;
  asks = refl;
  on = λ x m h. (put_off_leads x m h).1;
  free = λ m h. put_off_free m;
})

-- at vertex 1 nothing is asked, and it is never left
dear_stays : (x m : ℕ) → m < degree_of waiting_dear x → target_of waiting_dear x m ≡ 1
unfolding degree_of target_of
dear_stays zero zero h = refl
dear_stays zero (suc m) h = absurd (omega arith)
dear_stays (suc zero) zero h = refl
dear_stays (suc zero) (suc m) h = absurd (omega arith)
dear_stays (suc (suc x)) m h = absurd (omega arith)

pub waiting_dear_held : Held waiting_dear 1
unfolding degree_of colour_of
waiting_dear_held = marked_held waiting_dear (omega arith) (λ v. v ≡ 1) first_moves (prompt_safe waiting_dear (λ v. v ≡ 1) (λ v e. omega arith)
    (λ v e. subst (λ x. 0 < degree_of waiting_dear x) (sym e) (omega arith)) (λ x y e s. sym s.3 ∙ dear_stays x s.0 s.1)
    (λ u y e o s. absurd (let z : ◌≡◌ {A = ℕ} 0 1 = subst (λ v. colour_of waiting_dear v % 2 ≡ 1) e o in omega arith))) 1 refl

-- the plan takes the dear way to the answer at once
dear_leads : (x m : ℕ) → m < degree_of dear_answer x → (target_of dear_answer x m < 3) ×
    (colour_of dear_answer x % 2 ≡ 1 → (owner_of dear_answer x ≡ 0 → m ≡ 0) → answers dear_answer (colour_of dear_answer x) (target_of dear_answer x m) ≡ true)
unfolding degree_of target_of colour_of owner_of
dear_leads zero zero h = (omega arith, λ o. absurd (omega arith))
dear_leads zero (suc zero) h = (omega arith, λ o. absurd (omega arith))
dear_leads zero (suc (suc m)) h = absurd (omega arith)
dear_leads (suc zero) zero h = (omega arith, λ o e. refl)
dear_leads (suc zero) (suc zero) h = (omega arith, λ o e. absurd (let z = e refl in omega arith))
dear_leads (suc zero) (suc (suc m)) h = absurd (omega arith)
dear_leads (suc (suc zero)) zero h = (omega arith, λ o. absurd (omega arith))
dear_leads (suc (suc zero)) (suc m) h = absurd (omega arith)
dear_leads (suc (suc (suc x))) m h = absurd (omega arith)

pub dear_answer_held : (v : ℕ) → v < 3 → Held dear_answer v
dear_answer_held = marked_held dear_answer (omega arith) (λ v. v < 3) first_moves (prompt_safe dear_answer (λ v. v < 3) (λ v h. h) (λ v h. (three_moves v h).1)
    (λ x y h e. subst (λ z. z < 3) e.3 (dear_leads x e.0 e.1).0)
    (λ u y h o e. subst (λ z. answers dear_answer (colour_of dear_answer u) z ≡ true) e.3 ((dear_leads u e.0 e.1).1 o e.2)))
