-- Lemmas: numbers and names of positions lead back and forth. They stand in specs/ since a law of the layer cites them.
use Rattle.std.specs.Prelude.{◌≡◌, ℕ, ◌/◌, ◌<◌, ◌≤◌, Bool, true, ◌&&◌, is_some, Some, None, Option, nat_lt, refl}
use Rattle.std.proofs.Common.{sym, ap, subst, ◌∙◌, inl, inr, arith}
use Rattle.std.proofs.Math.Nat.{mod-add-div'}
use Rattle.std.specs.Option.{option_map}
use Rattle.std.proofs.lemmas.Bool.{lt-ltb, le-ltb, ltb-true, and_from, and_parts, cond-true, cond-false, cases_Bool, cases_lt}
use Rattle.chart.specs.Arena.{Arena, size, and_then}
use Rattle.chart.specs.Names.{Naming}
use Rattle.game.specs.Waiting.{levels, positions, place, vertex_in, level_in, stage_in, may_be_laid, waiting}
use Rattle.game.proofs.Positions.{waiting_size, vertex_in_place, level_in_place, stage_in_place, place_low, vertex_in_low, level_in_low}
use Rattle.waiting.specs.declared.names.Position.{Position}
use Rattle.waiting.specs.Positions.{located, number_of, renamed, naming_over, finding_over}
use Rattle.waiting.specs.Spots.{spot, there, located_there, located_past}

module _ (a : Arena) where
  -- what number_of asks of a position
  abbrev sound : Position ℕ → Bool
  sound x = may_be_laid a && (nat_lt x.below (size a) && (nat_lt x.level (levels a) && nat_lt x.stage 2))

  place_in : (p : ℕ) → place a (vertex_in a p) (level_in a p) (stage_in p) ≡ p
  place_in p = let d = mod-add-div' (p / 2) (levels a) in omega arith

  pub number_there : (p : ℕ) → p < size (waiting a) → number_of a (spot a p) ≡ Some p
  number_there p h =
      let k = there a p h in
      let l = level_in_low a p in
      cond-true (sound (spot a p)) _ None
      (and_from (may_be_laid a) _ k.0
      (and_from (nat_lt (vertex_in a p) (size a)) _ (lt-ltb _ _ (vertex_in_low a p k.1))
      (and_from (nat_lt (level_in a p) (levels a)) _ (lt-ltb _ _ (omega arith)) (lt-ltb (stage_in p) 2 (omega arith)))))
      ∙ ap Some (place_in p)

  -- the position that has a number is the one that lies there
  module _ (x : Position ℕ) (p : ℕ) (e : number_of a x ≡ Some p) where
    is_sound : sound x ≡ true
    is_sound = elim (cases_Bool (sound x)) [
      | inl ok ↦ ok
      | inr un ↦ (let f : None ≡ Some p = sym (cond-false (sound x) (Some (place a x.below x.level x.stage)) None un) ∙ e in cc)
    ]

    number_is : place a x.below x.level x.stage ≡ p
    number_is = let f : Some (place a x.below x.level x.stage) ≡ Some p = sym (cond-true (sound x) _ None is_sound) ∙ e in cc

    bounds : (may_be_laid a ≡ true) × ((x.below < size a) × ((x.level ≤ a.height / 2) × (x.stage ≤ 1)))
    bounds =
        let s = and_parts (may_be_laid a) _ is_sound in
        let v = and_parts (nat_lt x.below (size a)) _ s.1 in
        let l = and_parts (nat_lt x.level (levels a)) _ v.1 in
        let hl = ltb-true x.level (levels a) l.0 in
        let ht = ltb-true x.stage 2 l.1 in
        (s.0, (ltb-true x.below (size a) v.0, (omega arith, omega arith)))

    spot_is : spot a p ≡ x
    spot_is =
        let b = bounds.1 in
        subst (λ n. spot a n ≡ x) number_is
        (rw (vertex_in_place a x.below x.level x.stage b.1.0 b.1.1, level_in_place a x.below x.level x.stage b.1.0 b.1.1, stage_in_place a x.below x.level x.stage b.1.0 b.1.1) refl)

    pub located_is : located a p ≡ Some x
    located_is =
        let b = bounds.1 in
        let low : place a x.below x.level x.stage < positions a = place_low a x.below x.level x.stage b.1.0 b.1.1 b.0 in
        let n = waiting_size a bounds.0 in
        let same = number_is in
        located_there a p (omega arith) ∙ ap Some spot_is

  -- the names, from those below
  module _ {N : Type 0} (naming : ℕ → Option N) (finding : N → Option ℕ) (k : Naming (size a) naming finding) where
    some_renamed : (x : Position ℕ) (o : Option N) → is_some (option_map (renamed x) o) ≡ is_some o
    some_renamed x None = refl
    some_renamed x (Some y) = refl

    each_over : (p : ℕ) → is_some (naming_over a naming p) ≡ nat_lt p (size (waiting a))
    each_over p = elim (cases_lt p (size (waiting a))) [
      | inl h ↦
          ap (λ o. is_some (and_then o (λ x. option_map (renamed x) (naming x.below)))) (located_there a p h)
          ∙ (some_renamed (spot a p) (naming (vertex_in a p))
          ∙ (k.each (vertex_in a p)
          ∙ (lt-ltb (vertex_in a p) (size a) (vertex_in_low a p (there a p h).1) ∙ sym (lt-ltb p (size (waiting a)) h))))
      | inr h ↦ ap (λ o. is_some (and_then o (λ x. option_map (renamed x) (naming x.below)))) (located_past a p h) ∙ sym (le-ltb p (size (waiting a)) h)
    ]

    back_over : (p : ℕ) (x : Position N) → naming_over a naming p ≡ Some x → finding_over a finding x ≡ Some p
    back_over p x e = elim (cases_lt p (size (waiting a))) [
      | inl h ↦ by_name h (naming (vertex_in a p)) refl (sym (ap (λ o. and_then o (λ y. option_map (renamed y) (naming y.below))) (located_there a p h)) ∙ e)
      | inr h ↦ (let f : None ≡ Some x = sym (ap (λ o. and_then o (λ y. option_map (renamed y) (naming y.below))) (located_past a p h)) ∙ e in cc)
    ]
      where
        by_name : p < size (waiting a) → (o : Option N) → naming (vertex_in a p) ≡ o → option_map (renamed (spot a p)) o ≡ Some x → finding_over a finding x ≡ Some p
        by_name h None w f = cc
        by_name h (Some y) w f =
            let same : renamed (spot a p) y ≡ x = cc in
            subst (λ z. finding_over a finding z ≡ Some p) same
            (ap (λ o. and_then o (λ v. number_of a (renamed (renamed (spot a p) y) v))) (k.back (vertex_in a p) y w) ∙ number_there p h)

    forth_over : (p : ℕ) (x : Position N) → finding_over a finding x ≡ Some p → naming_over a naming p ≡ Some x
    forth_over p x e = by_vertex (finding x.below) refl e
      where
        by_vertex : (o : Option ℕ) → finding x.below ≡ o → and_then o (λ v. number_of a (renamed x v)) ≡ Some p → naming_over a naming p ≡ Some x
        by_vertex None w f = cc
        by_vertex (Some v) w f =
            ap (λ o. and_then o (λ y. option_map (renamed y) (naming y.below))) (located_is (renamed x v) p f)
            ∙ ap (option_map (renamed (renamed x v))) (k.forth v x.below w)

    pub waiting_named : Naming (size (waiting a)) (naming_over a naming) (finding_over a finding)
    waiting_named = record { each = each_over; back = back_over; forth = forth_over }
