-- Which rule applies to a call of place, join or strike.
use Rattle.std.proofs.Common.{◌≡◌, ℕ, ◌<◌, ◌≤◌, true, ◌&&◌, ltb, sym, ap}
use Rattle.std.proofs.lemmas.Bool.{lt-ltb, le-ltb, le-leb, lt-leb, and_left, and_right, and_from}
use Rattle.chart.specs.Arena.{Arena, size}
use Rattle.chart.specs.Refusals.{Outcome, done, refused}
use Rattle.drawn.specs.Rules.{place_outcome, join_outcome, strike_outcome, move_count, degree_at, after}

module _ (a : Arena) (owner colour : ℕ) (known : owner ≤ 1) where
  pub place_full : colour ≤ 8 → 128 ≤ size a → place_outcome a owner colour ≡ refused 3 0
  place_full h full = rw (le-ltb 1 owner known, le-ltb 8 colour h, le-leb 128 (size a) full)

  pub place_done : colour ≤ 8 → size a < 128 → place_outcome a owner colour ≡ done (size a)
  place_done h room = rw (le-ltb 1 owner known, le-ltb 8 colour h, lt-leb 128 (size a) room)

module _ (a : Arena) (from to cost : ℕ) where
  pub join_from : size a ≤ from → join_outcome a from to cost ≡ refused 4 0
  join_from h = rw (and_left (ltb from (size a)) (ltb to (size a)) (le-ltb from (size a) h))

  pub join_to : size a ≤ to → join_outcome a from to cost ≡ refused 4 0
  join_to h = rw (and_right (ltb from (size a)) (ltb to (size a)) (le-ltb to (size a) h))

  module _ (f : from < size a) (t : to < size a) where
    both : (ltb from (size a) && ltb to (size a)) ≡ true
    both = and_from (ltb from (size a)) (ltb to (size a)) (lt-ltb from (size a) f) (lt-ltb to (size a) t)

    pub join_dear : 10000 < cost → join_outcome a from to cost ≡ refused 5 0
    join_dear h = rw (both, lt-ltb 10000 cost h)

    pub join_full : cost ≤ 10000 → 1024 ≤ move_count a.vertices → join_outcome a from to cost ≡ refused 6 0
    join_full h full = rw (both, le-ltb 10000 cost h, le-leb 1024 (move_count a.vertices) full)

    pub join_done : cost ≤ 10000 → move_count a.vertices < 1024 → join_outcome a from to cost ≡ done (degree_at a from)
    join_done h room = rw (both, le-ltb 10000 cost h, lt-leb 1024 (move_count a.vertices) room)

module _ (a : Arena) (vertex number : ℕ) where
  pub strike_absent : size a ≤ vertex → strike_outcome a vertex number ≡ refused 4 0
  strike_absent h = rw (le-ltb vertex (size a) h)

  pub strike_none : vertex < size a → degree_at a vertex ≤ number → strike_outcome a vertex number ≡ refused 7 0
  strike_none h none = rw (lt-ltb vertex (size a) h, le-ltb number (degree_at a vertex) none)

  pub strike_done : vertex < size a → number < degree_at a vertex → strike_outcome a vertex number ≡ done tt
  strike_done h there = rw (lt-ltb vertex (size a) h, lt-ltb number (degree_at a vertex) there)

-- what a contract of the three calls says once the rule that applies is known
module _ {A : Type 0} (x y : Outcome A) (new old : Arena) (is : x ≡ y) where
  pub settled : record { answer : y ≡ x; after : after y new old ≡ after x new old }
  settled = record { answer = sym is; after = ap (λ o. after o new old) (sym is) }
