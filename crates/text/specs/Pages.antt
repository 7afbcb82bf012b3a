-- Bytes put on a page, one behind the other.
use Rattle.std.specs.Prelude.{◌≡◌, ℕ, ◌+◌, ◌^◌, ◌<◌, ◌≤◌, List, length}
use Rattle.text.specs.declared.writing.Page.{Page}
use Rattle.text.specs.Writing.{Adds}

-- What becomes of a page where these bytes are put. It lends the same bytes of the caller's. The next
-- bytes stand so much further on, or at the greatest number where that is none any more; and where it
-- is one, the bytes that were put stand there if they fit.
pub record Puts (bytes : List ℕ) (a b : Page) : Type 0 where
  pub same : b.out.ghost_name ≡ a.out.ghost_name
  pub end : a.at + length bytes < 2 ^ 64 → b.at ≡ a.at + length bytes
  pub past : 2 ^ 64 ≤ a.at + length bytes → 2 ^ 64 ≤ b.at + 1
  pub adds : a.at + length bytes < 2 ^ 64 → Adds bytes a.out.now a.at b.out.now b.at
