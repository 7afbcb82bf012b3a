-- What the names of a chart's vertices obey.
use Rattle.std.specs.Prelude.{◌≡◌, ℕ, is_some, Some, Option, nat_lt}

-- Each of the n vertices has a name and nothing else has; looking a vertex's name up gives that
-- vertex; what is found under a name bears that name.
pub record Naming {N : Type 0} (n : ℕ) (name : ℕ → Option N) (find : N → Option ℕ) : Type 0 where
  pub each : (v : ℕ) → is_some (name v) ≡ nat_lt v n
  pub back : (v : ℕ) (x : N) → name v ≡ Some x → find x ≡ Some v
  pub forth : (v : ℕ) (x : N) → find x ≡ Some v → name v ≡ Some x
