-- Waits under a safe plan: loops cost nothing while a request waits, so they can be cut out, and
-- what is left has fewer moves than the chart has vertices.
use Rattle.chart.specs.Arena.{Arena, size, Ranged}
use Rattle.walks.specs.Games.{Reaches, Inside}
use Rattle.walks.specs.Showings.{Next, Chain, tally, Shows}
use Rattle.walks.proofs.Walks.{walk_first, reach_after, reach_join}
use Rattle.walks.proofs.Long.{few_shown, chain_back, chain_front, all_back, all_front, pigeons, Twice}
use Rattle.game.specs.Reading.{owner_of, colour_of, degree_of, target_of, cost_of}
use Rattle.game.specs.Voyages.{reached, passed, answers, wait, unanswered}
use Rattle.game.specs.Claims.{PlanStep, WaitingStep, CostlyLoop, SafePlan}
use Rattle.theory.specs.Sailing.{Sails}
use Rattle.theory.proofs.Sailing.{passed_long, sails_join, sails_apart, Stop, stop, unanswered_first, wait_join, open_end}
use Rattle.std.specs.List.{AllByRecursion}
use Rattle.std.proofs.ByRecursion.{All-weaker}
use Rattle.std.proofs.Common.{◌≡◌, ℕ, zero, suc, ◌+◌, ◌%◌, ◌<◌, ◌≤◌, Bool, true, false, cond, not, ◌&&◌, ◌⊎◌, List, [], ◌∷◌, ◌++◌, length, sym, refl, ap, ◌∙◌, subst, inl, inr, arith, length-append}
use native.Mathlib.Decide.{ℕ_discrete, dec_le}

tally_all : (xs : List ℕ) → tally (λ x. 1) xs ≡ length xs
tally_all [] = refl
tally_all (x ∷ xs) = let h = tally_all xs in omega arith

-- a walk under the plan that waits, and one of its steps that costs
module _ (a : Arena) (s : ℕ → ℕ) (q : ℕ) where
  reaches : (v : ℕ) (xs : List ℕ) → Sails a s v xs → unanswered a q v xs ≡ true → Reaches (WaitingStep a s q) v (reached a v xs)
  reaches v [] f e = inl refl
  reaches v (m ∷ xs) f e =
      let n = unanswered_first a q v m xs e in
      inr (reach_after ((m, f.0, f.1, refl), n.0) (reaches (target_of a v m) xs f.2 n.1))

  record Costly (x y : ℕ) : Type 0 where
    from : ℕ
    to : ℕ
    met : Reaches (WaitingStep a s q) x from
    move : WaitingStep a s q from to
    costs : 0 < cost_of a from move.0.0
    back : Reaches (WaitingStep a s q) to y

  costly : (v : ℕ) (xs : List ℕ) → Sails a s v xs → unanswered a q v xs ≡ true → (wait a q v xs ≡ 0) ⊎ Costly v (reached a v xs)
  costly v [] f e = inl refl
  costly v (m ∷ xs) f e =
      let y : ℕ = target_of a v m in
      let n = unanswered_first a q v m xs e in
      let here : WaitingStep a s q v y = ((m, f.0, f.1, refl), n.0) in
      elim (ℕ_discrete (cost_of a v m) 0) [
        | no d ↦ inr (record { from = v; to = y; met = inl refl; move = here; costs = omega arith; back = reaches y xs f.2 n.1 })
        | yes z ↦ elim (costly y xs f.2 n.1) [
          | inl w ↦ inl (rw (z, n.0, w) (omega arith))
          | inr c ↦ inr (record { from = c.from; to = c.to; met = inr (reach_after here c.met); move = c.move; costs = c.costs; back = c.back })
        ]
      ]

  -- what is answered before its end waits as long on fewer moves
  record Fewer (v : ℕ) (xs : List ℕ) : Type 0 where
    moves : List ℕ
    sails : Sails a s v moves
    short : length moves < length xs
    waits : wait a q v moves ≡ wait a q v xs

  fewer_on : (v m : ℕ) (xs : List ℕ) → m < degree_of a v → (owner_of a v ≡ 0 → m ≡ s v) → Fewer (target_of a v m) xs → Fewer v (m ∷ xs)
  fewer_on v m xs h o r =
      let y : ℕ = target_of a v m in
      record {
        moves = m ∷ r.moves;
        sails = (h, o, r.sails);
        short = (let k = r.short in omega arith);
        waits = ap (λ w. cost_of a v m + cond (answers a q y) 0 w) r.waits;
      }

  fewer : (v : ℕ) (xs : List ℕ) → Sails a s v xs → unanswered a q v xs ≡ false → answers a q (reached a v xs) ≡ false → Fewer v xs
  fewer v [] f e n = cc
  fewer v (m ∷ []) f e n = absurd (let z : ◌≡◌ {A = ℕ} 0 1 = (let k : (not (answers a q (target_of a v m)) && true) ≡ true = rw n in cc) in omega arith)
  fewer v (m ∷ (m' ∷ xs)) f e n = go (answers a q (target_of a v m)) refl (λ u. fewer (target_of a v m) (m' ∷ xs) f.2 u n)
    where
      go : (b : Bool) → answers a q (target_of a v m) ≡ b → (unanswered a q (target_of a v m) (m' ∷ xs) ≡ false → Fewer (target_of a v m) (m' ∷ xs)) → Fewer v (m ∷ (m' ∷ xs))
      go true t on = record { moves = m ∷ []; sails = (f.0, f.1, tt); short = omega arith; waits = rw t }
      go false t on = fewer_on v m (m' ∷ xs) f.0 f.1 (on (rw t at e))

-- the voyage comes back to a vertex
record Around (a : Arena) (v : ℕ) (ms : List ℕ) : Type 0 where
  at : ℕ
  front : List ℕ
  loop : List ℕ
  rest : List ℕ
  is : ms ≡ front ++ (loop ++ rest)
  some : 0 < length loop
  met : reached a v front ≡ at
  back : reached a at loop ≡ at

around : (a : Arena) (v : ℕ) (ms : List ℕ) (p : ℕ) → Twice (passed a v ms) p → Around a v ms
around a v ms p t =
    let one : Stop a v ms p t.before (t.between ++ (p ∷ t.after)) = stop a v ms p t.before (t.between ++ (p ∷ t.after)) t.is in
    let two : Stop a p one.back p (p ∷ t.between) t.after = stop a p one.back p (p ∷ t.between) t.after one.on in
    record {
      at = p;
      front = one.front;
      loop = two.front;
      rest = two.back;
      is = one.is ∙ ap (λ z. one.front ++ z) two.is;
      some = (let k = two.long in omega arith);
      met = one.there;
      back = two.there;
    }

module _ (a : Arena) (r : Ranged a) (Marked : ℕ → Type 0) (s : ℕ → ℕ) (safe : SafePlan a Marked s) where
  pub sails_marked : (v : ℕ) (ms : List ℕ) → Marked v → Sails a s v ms → Marked (reached a v ms)
  sails_marked v [] mk f = mk
  sails_marked v (m ∷ ms) mk f = sails_marked (target_of a v m) ms (safe.closed v _ mk (m, f.0, f.1, refl)) f.2

  pub passed_marked : (v : ℕ) (ms : List ℕ) → Marked v → Sails a s v ms → AllByRecursion Marked (passed a v ms)
  passed_marked v [] mk f = (mk, tt)
  passed_marked v (m ∷ ms) mk f = (mk, passed_marked (target_of a v m) ms (safe.closed v _ mk (m, f.0, f.1, refl)) f.2)

  passed_low : (v : ℕ) (ms : List ℕ) → Marked v → Sails a s v ms → AllByRecursion (λ x. x < size a) (passed a v ms)
  passed_low v ms mk f = All-weaker Marked (λ x. x < size a) safe.there (passed a v ms) (passed_marked v ms mk f)

  abbrev E : ℕ → ℕ → Type 0
  E = Inside Marked (PlanStep a s)

  passed_chain : (v : ℕ) (ms : List ℕ) → Marked v → Sails a s v ms → Chain E (passed a v ms)
  passed_chain v [] mk f = (tt, tt)
  passed_chain v (m ∷ ms) mk f =
      let y : ℕ = target_of a v m in
      let e : PlanStep a s v y = (m, f.0, f.1, refl) in
      let my : Marked y = safe.closed v y mk e in
      (head ms (mk, my, e), passed_chain y ms my f.2)
    where
      head : (ms : List ℕ) → E v (target_of a v m) → Next E v (passed a (target_of a v m) ms)
      head [] e = e
      head (x ∷ xs) e = e

  -- no odd colour is shown more often than there are vertices
  pub few_showings : (v : ℕ) (ms : List ℕ) → Marked v → Sails a s v ms → ¬ Shows (colour_of a) (size a) (passed a v ms)
  few_showings v ms mk f w =
      let ys : List ℕ = w.part ++ w.after in
      let ch : Chain E w.part = chain_front E w.part w.after (chain_back E w.before ys (subst (Chain E) w.is (passed_chain v ms mk f))) in
      let lo : AllByRecursion (λ x. x < size a) w.part = all_front _ w.part w.after (all_back _ w.before ys (subst (AllByRecursion (λ x. x < size a)) w.is (passed_low v ms mk f))) in
      let h = few_shown E (colour_of a) (size a) w.shown w.part
      (λ p e loop. safe.no_odd_loop p (walk_first loop).1.2.0 (ap (λ n. n % 2) e ∙ w.odd) loop) ch lo w.under in
      let k = w.often in
      omega arith

  -- a request at u
  module _ (u : ℕ) (mk : Marked u) (odd : colour_of a u % 2 ≡ 1) where
    abbrev q : ℕ
    q = colour_of a u

    unasked : answers a q u ≡ false
    unasked = grind arith

    -- as long a wait on fewer moves than there are vertices
    pub record Short (ms : List ℕ) : Type 0 where
      pub moves : List ℕ
      pub sails : Sails a s u moves
      pub short : length moves < size a
      pub waits : wait a q u moves ≡ wait a q u ms

    -- a loop cut out, or what follows the answer
    cut : (ms : List ℕ) → Sails a s u ms → Around a u ms → Fewer a s q u ms
    cut ms f t = go (unanswered a q u t.front) refl (unanswered a q t.at t.loop) refl
      where
        parts : Sails a s u t.front × Sails a s (reached a u t.front) (t.loop ++ t.rest)
        parts = sails_apart a s u t.front (t.loop ++ t.rest) (subst (Sails a s u) t.is f)

        tails : Sails a s t.at t.loop × Sails a s (reached a t.at t.loop) t.rest
        tails = sails_apart a s t.at t.loop t.rest (subst (λ x. Sails a s x (t.loop ++ t.rest)) t.met parts.1)

        long : length ms ≡ length t.front + (length t.loop + length t.rest)
        long = ap length t.is ∙ (length-append t.front (t.loop ++ t.rest) ∙ ap (λ n. length t.front + n) (length-append t.loop t.rest))

        -- the wait, where the front does not answer
        later : unanswered a q u t.front ≡ true → (zs : List ℕ) → wait a q u (t.front ++ zs) ≡ wait a q u t.front + wait a q t.at zs
        later e zs = wait_join a q u t.front zs ∙ rw (e, t.met)

        onward : (zs : List ℕ) → Sails a s t.at zs → Sails a s u (t.front ++ zs)
        onward zs g = sails_join a s u t.front zs parts.0 (subst (λ x. Sails a s x zs) (sym t.met) g)

        shut : answers a q (reached a t.at t.loop) ≡ false → unanswered a q u t.front ≡ true → unanswered a q t.at t.loop ≡ false → Fewer a s q u ms
        shut n e d =
            let x = fewer a s q t.at t.loop tails.0 d n in
            record {
              moves = t.front ++ x.moves;
              sails = onward x.moves x.sails;
              short = (let k = x.short in let j = length-append t.front x.moves in let l = long in omega arith);
              waits = later e x.moves ∙ (ap (λ w. wait a q u t.front + w) (x.waits ∙ sym (wait_join a q t.at t.loop t.rest ∙ rw d (omega arith))) ∙ sym (ap (wait a q u) t.is ∙ later e (t.loop ++ t.rest)));
            }

        free : wait a q t.at t.loop ≡ 0 → unanswered a q u t.front ≡ true → unanswered a q t.at t.loop ≡ true → Fewer a s q u ms
        free z e d =
            record {
              moves = t.front ++ t.rest;
              sails = onward t.rest (subst (λ x. Sails a s x t.rest) t.back tails.1);
              short = (let k = t.some in let j = length-append t.front t.rest in let l = long in omega arith);
              waits = later e t.rest ∙ (ap (λ w. wait a q u t.front + w) (sym (wait_join a q t.at t.loop t.rest ∙ rw (z, d, t.back) (omega arith))) ∙ sym (ap (wait a q u) t.is ∙ later e (t.loop ++ t.rest)));
            }

        loops : unanswered a q u t.front ≡ true → Costly a s q t.at (reached a t.at t.loop) → CostlyLoop a s u
        loops e c = record {
          from = c.from;
          to = c.to;
          move = c.move;
          costs = c.costs;
          met = reach_join (subst (Reaches (WaitingStep a s q) u) t.met (reaches a s q u t.front parts.0 e)) c.met;
          back = reach_join (subst (Reaches (WaitingStep a s q) c.to) t.back c.back) c.met;
        }

        go : (b : Bool) → unanswered a q u t.front ≡ b → (c : Bool) → unanswered a q t.at t.loop ≡ c → Fewer a s q u ms
        go false e c d = record {
          moves = t.front;
          sails = parts.0;
          short = (let k = t.some in let l = long in omega arith);
          waits = sym (ap (wait a q u) t.is ∙ (wait_join a q u t.front (t.loop ++ t.rest) ∙ rw e (omega arith)));
        }
        go true e true d = elim (costly a s q t.at t.loop tails.0 d) [ inl z ↦ free z e d | inr c ↦ absurd (safe.no_costly_loop u mk odd (loops e c)) ]
        go true e false d = shut (ap (answers a q) (t.back ∙ sym t.met) ∙ open_end a q u t.front unasked e) e d

    comes_back : (ms : List ℕ) → Sails a s u ms → size a ≤ length ms → Around a u ms
    comes_back ms f h =
        elim (pigeons (size a) (λ x. 1) (passed a u ms) (λ x. omega arith)
        (All-weaker _ (λ x. size a ≤ x → 1 ≡ 0) (λ x (l : x < size a) g. absurd (omega arith)) (passed a u ms) (passed_low u ms mk f))) [
          | inl t ↦ around a u ms t.0 t.2
          | inr t ↦ absurd (let n = tally_all (passed a u ms) in let l = passed_long a u ms in omega arith)
        ]

    shorten : (n : ℕ) (ms : List ℕ) → length ms ≤ n → Sails a s u ms → Short ms
    shorten zero ms h f = elim (dec_le (suc (length ms)) (size a)) [
      | yes k ↦ record { moves = ms; sails = f; short = k; waits = refl }
      | no k ↦ absurd (let x = cut ms f (comes_back ms f (omega arith)) in let l = x.short in omega arith)
    ]
    shorten (suc n) ms h f = elim (dec_le (suc (length ms)) (size a)) [
      | yes k ↦ record { moves = ms; sails = f; short = k; waits = refl }
      | no k ↦
          let x = cut ms f (comes_back ms f (omega arith)) in
          let y = shorten n x.moves (let l = x.short in omega arith) x.sails in
          record { moves = y.moves; sails = y.sails; short = y.short; waits = y.waits ∙ x.waits }
    ]

    pub short : (ms : List ℕ) → Sails a s u ms → Short ms
    short ms f = shorten (length ms) ms (omega arith) f
