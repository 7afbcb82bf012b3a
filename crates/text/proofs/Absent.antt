-- What a question answers, and what stands past the ends.
use Rattle.std.proofs.Common.{◌≡◌, ℕ, zero, suc, List, [], ◌∷◌, get_or, Some, None, Option, unwrap_or, sym, refl, ap, ◌∙◌}
use Rattle.std.specs.Option.{MatchOption, option_map}
use Rattle.std.specs.List.{slice_get}
use Rattle.std.proofs.lemmas.Option.{unwrap_or-slice_get}
use Rattle.chart.specs.Arena.{Arena, Vertex, and_then, vertex_at}
use Rattle.text.specs.Writing.{vertex_or_none}

value_found : {A B : Type 0} (f : A → B) (xs : List A) (i : ℕ) (d : A) → unwrap_or (option_map f (slice_get xs i)) (f d) ≡ f (get_or xs i d)
value_found f [] i d = refl
value_found f (x ∷ xs) zero d = refl
value_found f (x ∷ xs) (suc i) d = value_found f xs i d

-- an element of a list that an element of a list has
pub found_in : {A B : Type 0} (inner : A → List B) (d : A) (e : B) → inner d ≡ [] → (xs : List A) (i j : ℕ) → unwrap_or (and_then (slice_get xs i) (λ x. slice_get (inner x) j)) e ≡ get_or (inner (get_or xs i d)) j e
found_in inner d e none [] i j = sym (ap (λ ys. get_or ys j e) none)
found_in inner d e none (x ∷ xs) zero j = unwrap_or-slice_get (inner x) j e
found_in inner d e none (x ∷ xs) (suc i) j = found_in inner d e none xs i j

-- what a `map_or` answers
pub mapped_or : {A : Type 0} (f : A → ℕ) (o : Option A) (r d : ℕ) → MatchOption o (r ≡ d) (λ x. r ≡ f x) → r ≡ unwrap_or (option_map f o) d
mapped_or f None r d h = h
mapped_or f (Some x) r d h = h

-- a question about a vertex, and what is answered for an absent one
module _ (a : Arena) (v : ℕ) (f : Vertex → ℕ) (r : ℕ) where
  pub asked : (o : Option ℕ) → r ≡ unwrap_or o (f (record { owner = 0; colour = 0; moves = [] })) → o ≡ option_map f (vertex_at a v) → r ≡ f (vertex_or_none a v)
  asked o is from = is ∙ ap (λ p. unwrap_or p (f (record { owner = 0; colour = 0; moves = [] }))) from ∙ value_found f a.vertices v (record { owner = 0; colour = 0; moves = [] })
