-- What the waiting chart answers about a number, by the position that lies there.
use Rattle.std.specs.Prelude.{◌≡◌, ℕ, zero, suc, ◌<◌, true, false, [], ◌∷◌, map, length, Some, None, ◌==◌, nat_lt}
use Rattle.std.proofs.Common.{◌≢◌, refl, sym, ap, ◌∙◌, inl, inr, arith}
use Rattle.std.specs.Bool.{then_some}
use Rattle.std.specs.Option.{option_map}
use Rattle.std.specs.List.{slice_get}
use Rattle.std.proofs.lemmas.List.{length-map}
use Rattle.std.proofs.lemmas.Option.{slice_get_past}
use Rattle.std.proofs.lemmas.Bool.{and_left, lt-ltb, eq-eqb, ne_eqb, and_from, cond-true, cond-false, cases_Bool, cases_lt}
use Rattle.chart.specs.declared.parts.Move.{Move}
use Rattle.chart.specs.Arena.{Arena, size, vertex_at, move_at}
use Rattle.game.specs.Reading.{row, owner_of, colour_of}
use Rattle.game.specs.Waiting.{arrive, toll, positions, place, vertex_in, level_in, stage_in, tint, lifted, paying, position, may_be_laid, waiting, first}
use Rattle.game.proofs.Readings.{vertex_there, owner_is, colour_is}
use Rattle.game.proofs.Positions.{unlaid, waiting_size, waiting_at, waiting_past, vertex_in_low, moves_on, moves_off}
use Rattle.waiting.specs.declared.names.Position.{Position}
use Rattle.waiting.specs.Positions.{located, first_of}
use Rattle.waiting.specs.Spots.{spot, there, located_there, located_past}

tint_shown : (h k l t : ℕ) → t ≡ 0 → 0 < l → k ≡ tint h k l t
tint_shown h k l t on up = grind arith

tint_given : (h k l t : ℕ) → (t ≡ 0 → l ≡ 0) → tint h 0 l t ≡ tint h k l t
tint_given h k l t low = grind arith

module _ (a : Arena) where
  pub past : (p : ℕ) → None ≡ located a p → vertex_at (waiting a) p ≡ None
  past p e = elim (cases_lt p (size (waiting a))) [
    | inl h ↦ (let f : None ≡ Some (spot a p) = e ∙ located_there a p h in cc)
    | inr h ↦ elim (cases_Bool (may_be_laid a)) [
      | inl ok ↦ waiting_past a ok p (let n = waiting_size a ok in omega arith)
      | inr un ↦ ap (λ w. vertex_at w p) (unlaid a un)
    ]
  ]

  -- a number at which a position lies
  module _ (p : ℕ) (x : Position ℕ) (e : Some x ≡ located a p) where
    within : p < size (waiting a)
    within = elim (cases_lt p (size (waiting a))) [
      | inl h ↦ h
      | inr h ↦ (let f : None ≡ Some x = sym (located_past a p h) ∙ sym e in cc)
    ]

    pub laid_there : may_be_laid a ≡ true
    laid_there = (there a p within).0

    pub low_there : p < positions a
    low_there = (there a p within).1

    pub is_spot : spot a p ≡ x
    is_spot = let f : Some (spot a p) ≡ Some x = sym (located_there a p within) ∙ sym e in cc

    pub vertex_there_low : x.below < size a
    vertex_there_low = rw (sym (ap (λ y. y.below) is_spot)) (vertex_in_low a p low_there)

    at_position : vertex_at (waiting a) p ≡ Some (position a p)
    at_position = waiting_at a laid_there p low_there

    at_vertex : vertex_at a x.below ≡ Some (row a x.below)
    at_vertex = vertex_there a x.below vertex_there_low

    -- each question, by the vertex, the level and the stage
    pub owner_there : option_map (λ v. v.owner) (vertex_at a x.below) ≡ option_map (λ v. v.owner) (vertex_at (waiting a) p)
    owner_there =
        ap (option_map (λ v. v.owner)) at_vertex
        ∙ (ap Some (sym (owner_is a x.below _ at_vertex) ∙ ap (λ y. owner_of a y.below) (sym is_spot))
        ∙ sym (ap (option_map (λ v. v.owner)) at_position))

    colour_there : Some (tint a.height (colour_of a x.below) x.level x.stage) ≡ option_map (λ v. v.colour) (vertex_at (waiting a) p)
    colour_there =
        ap (λ y. Some (tint a.height (colour_of a y.below) y.level y.stage)) (sym is_spot)
        ∙ sym (ap (option_map (λ v. v.colour)) at_position)

    -- the vertex's colour where something waits, and else one that the height gives
    pub colour_shown : x.stage ≡ 0 → 0 < x.level → option_map (λ v. v.colour) (vertex_at a x.below) ≡ option_map (λ v. v.colour) (vertex_at (waiting a) p)
    colour_shown on up =
        ap (option_map (λ v. v.colour)) at_vertex
        ∙ (ap Some (sym (colour_is a x.below _ at_vertex) ∙ tint_shown a.height (colour_of a x.below) x.level x.stage on up)
        ∙ colour_there)

    pub colour_given : (h : ℕ) → h ≡ a.height → (x.stage ≡ 0 → x.level ≡ 0) → Some (tint h 0 x.level x.stage) ≡ option_map (λ v. v.colour) (vertex_at (waiting a) p)
    colour_given h same low =
        ap (λ j. Some (tint j 0 x.level x.stage)) same
        ∙ (ap Some (tint_given a.height (colour_of a x.below) x.level x.stage low)
        ∙ colour_there)

    -- at a vertex
    module _ (on : x.stage ≡ 0) where
      stage_on : stage_in p ≡ 0
      stage_on = ap (λ y. y.stage) is_spot ∙ on

      pub degree_on : option_map (λ v. length v.moves) (vertex_at a x.below) ≡ option_map (λ v. length v.moves) (vertex_at (waiting a) p)
      degree_on =
          ap (option_map (λ v. length v.moves)) at_vertex
          ∙ (ap Some (ap (λ y. length (row a y.below).moves) (sym is_spot)
          ∙ (sym (length-map (row a (vertex_in a p)).moves (lifted a (level_in a p)))
          ∙ ap length (sym (cond-true (stage_in p == 0) _ (paying a p ∷ []) (eq-eqb (stage_in p) 0 stage_on)))))
          ∙ sym (ap (option_map (λ v. length v.moves)) at_position))

      pub move_on : (i : ℕ) → option_map (lifted a x.level) (move_at a x.below i) ≡ move_at (waiting a) p i
      move_on i = ap (λ y. option_map (lifted a y.level) (move_at a y.below i)) (sym is_spot) ∙ sym (moves_on a laid_there p low_there stage_on i)

    -- at a toll
    module _ (off : x.stage ≡ 0 → ⊥) where
      stage_off : stage_in p ≡ 0 → ⊥
      stage_off z = off (sym (ap (λ y. y.stage) is_spot) ∙ z)

      pub degree_off : Some 1 ≡ option_map (λ v. length v.moves) (vertex_at (waiting a) p)
      degree_off =
          ap Some (ap length (sym (cond-false (stage_in p == 0) (map (lifted a (level_in a p)) (row a (vertex_in a p)).moves) (paying a p ∷ []) (ne_eqb (stage_in p) 0 stage_off))))
          ∙ sym (ap (option_map (λ v. length v.moves)) at_position)

      pub move_off : (i : ℕ) → slice_get (paying a p ∷ []) i ≡ move_at (waiting a) p i
      move_off i = sym (moves_off a laid_there p low_there stage_off i)

      pub move_beyond : (i : ℕ) → (i ≢ 0) → None ≡ move_at (waiting a) p i
      move_beyond zero n = absurd (n refl)
      move_beyond (suc i) n = move_off (suc i)

      pub move_paid : (i t : ℕ) → t ≡ place a x.below x.level 0 → then_some (i == 0) (record { target = t; cost = 0 }) ≡ move_at (waiting a) p i
      move_paid zero t is = ap (λ n. Some (record { target = n; cost = 0 })) (is ∙ ap (λ y. place a y.below y.level 0) (sym is_spot)) ∙ move_off 0
      move_paid (suc i) t is = ap (λ b. then_some b (record { target = t; cost = 0 })) (ne_eqb (suc i) 0 (λ z. omega (arith, z))) ∙ move_beyond (suc i) (λ z. omega (arith, z))

  -- a colour that is answered below
  pub colour_known : (v k : ℕ) → Some k ≡ option_map (λ y. y.colour) (vertex_at a v) → (v < size a) × (colour_of a v ≡ k)
  colour_known v k e = elim (cases_lt v (size a)) [
    | inl h ↦ (h, (let f : Some k ≡ Some (row a v).colour = e ∙ ap (option_map (λ y. y.colour)) (vertex_there a v h) in colour_is a v _ (vertex_there a v h) ∙ cc))
    | inr h ↦ (let f : Some k ≡ None = e ∙ ap (option_map (λ y. y.colour)) (slice_get_past a.vertices v h) in cc)
  ]

  -- what a move below becomes, by the colour where it arrives
  pub lifted_is : (v i k l t : ℕ) (m : Move) → Some m ≡ move_at a v i → colour_of a m.target ≡ k → t ≡ place a m.target (arrive l k) (toll m.cost) →
      Some (record { target = t; cost = 0 }) ≡ option_map (lifted a l) (move_at a v i)
  lifted_is v i k l t m e same is =
      ap (λ n. Some (record { target = n; cost = 0 })) (is ∙ ap (λ j. place a m.target (arrive l j) (toll m.cost)) (sym same)) ∙ ap (option_map (lifted a l)) e

  -- first positions
  pub first_there : (v k t : ℕ) → may_be_laid a ≡ true → Some k ≡ option_map (λ y. y.colour) (vertex_at a v) → t ≡ place a v (arrive 0 k) 0 → Some t ≡ first_of a v
  first_there v k t ok e is =
      let known = colour_known v k e in
      ap Some (is ∙ ap (λ j. place a v (arrive 0 j) 0) (sym known.1))
      ∙ sym (cond-true _ (Some (first a v)) None (and_from (may_be_laid a) _ ok (lt-ltb v (size a) known.0)))

  pub first_unlaid : (v : ℕ) → may_be_laid a ≡ false → None ≡ first_of a v
  first_unlaid v un = sym (cond-false _ (Some (first a v)) None (and_left (may_be_laid a) (nat_lt v (size a)) un))
