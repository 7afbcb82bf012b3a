-- How a player draws positions into the set of a mark m, within the positions of a tag of at most
-- m.
use Rattle.std.specs.Prelude.{◌≡◌, ℕ, zero, suc, ◌+◌, ◌-◌, ◌<◌, ◌≤◌, Bool, true, false, cond, ◌⊎◌, nat_lt}
use Rattle.walks.specs.Games.{Game}
use Rattle.parity.specs.Boards.{Board}
use Rattle.parity.specs.Sheets.{Sheet, Kept}

-- Player i draws p in: by its own move k, or since none of the other's moves stays outside.
pub record Pulls (g : Game) (i m : ℕ) (t : ℕ → ℕ) (p k : ℕ) : Type 0 where
  pub ours : g.owner p ≡ i → (k < g.degree p) × (t (g.target p k) ≡ m)
  pub theirs : ¬ (g.owner p ≡ i) → (l : ℕ) → l < g.degree p → m ≤ t (g.target p l)

-- Player i cannot draw p in: none of its moves ends in the set, or one of the other's stays
-- outside.
pub record Leaks (g : Game) (i m : ℕ) (t : ℕ → ℕ) (p : ℕ) : Type 0 where
  pub ours : g.owner p ≡ i → (l : ℕ) → l < g.degree p → ¬ (t (g.target p l) ≡ m)
  pub theirs : ¬ (g.owner p ≡ i) → (l : ℕ) × (l < g.degree p) × (t (g.target p l) < m)

-- From p the play falls into the set, to a lower rank: by i's move, or by each of the other's that
-- stays.
pub record Falls (g : Game) (i m : ℕ) (t s rank : ℕ → ℕ) (p : ℕ) : Type 0 where
  pub ours : g.owner p ≡ i → (s p < g.degree p) × (t (g.target p (s p)) ≡ m) × (rank (g.target p (s p)) < rank p)
  pub theirs : ¬ (g.owner p ≡ i) → (l : ℕ) → l < g.degree p → t (g.target p l) ≤ m → (t (g.target p l) ≡ m) × (rank (g.target p l) < rank p)

-- p has joined the set: it stood outside, and its owner's part in falling further in is written.
pub record Joined (g : Game) (i m : ℕ) (a b : Sheet) (rank : ℕ → ℕ) (p : ℕ) : Type 0 where
  pub before : a.tag p < m
  pub after : b.tag p ≡ m
  pub winner : b.winner p ≡ i
  pub falls : Falls g i m b.tag b.move rank p

-- Since the sheet a, some positions have joined the set, at ranks below ranks, and nothing else has
-- changed.
pub record Drawing (b : Board) (i m : ℕ) (before after : Sheet) : Type 0 where
  pub rank : ℕ → ℕ
  pub ranks : ℕ
  pub low : (p : ℕ) → after.tag p ≡ m → rank p < ranks
  pub sorts : (p : ℕ) → p < b.size → Kept before after p ⊎ Joined b.game i m before after rank p

-- p joins: it gets the tag m, the winner i and the move k, and nothing else changes.
pub record Puts (before after : Sheet) (p m i k : ℕ) : Type 0 where
  pub tag : after.tag p ≡ m
  pub winner : after.winner p ≡ i
  pub move : after.move p ≡ k
  pub rest : (q : ℕ) → ¬ (q ≡ p) → Kept before after q

-- p joins if the player draws it in, and nothing changes if it does not.
pub record Tried (g : Game) (i m : ℕ) (before after : Sheet) (p : ℕ) (grew : Bool) : Type 0 where
  pub joins : grew ≡ true → (before.tag p < m) × (k : ℕ) × Pulls g i m before.tag p k × Puts before after p m i k
  pub stays : grew ≡ false → (after ≡ before) × (before.tag p < m → Leaks g i m before.tag p)

-- Some positions may have joined the set, and nothing else has changed: what was drawn before is
-- still.
pub record Chased (b : Board) (i m : ℕ) (before after : Sheet) : Type 0 where
  pub draws : (first : Sheet) → Drawing b i m first before → Drawing b i m first after

-- How many of the first n positions have a tag below m.
abbrev pub outside : ℕ → (ℕ → ℕ) → ℕ → ℕ
outside m t zero = 0
outside m t (suc n) = cond (nat_lt (t n) m) 1 0 + outside m t n

-- The place of a position in a sweep up, or down, over n positions; and the position of a place.
abbrev pub turned : Bool → ℕ → ℕ → ℕ
turned down n p = cond down (n - 1 - p) p

-- A sweep has passed some places, and says whether a position joined. If none did, each position
-- that it passed and that stands outside cannot be drawn in.
pub record Swept (b : Board) (i m : ℕ) (before after : Sheet) (down : Bool) (places : ℕ) (grew : Bool) : Type 0 where
  pub draws : (first : Sheet) → Drawing b i m first before → Drawing b i m first after
  pub most : outside m after.tag b.size ≤ outside m before.tag b.size
  pub less : grew ≡ true → outside m after.tag b.size < outside m before.tag b.size
  pub shut : grew ≡ false → (p : ℕ) → p < b.size → turned down b.size p < places → after.tag p < m → Leaks b.game i m after.tag p

-- The set has grown as far as the player can draw.
pub record Drawn (b : Board) (i m : ℕ) (before after : Sheet) : Type 0 where
  pub drawing : Drawing b i m before after
  pub shut : (p : ℕ) → p < b.size → after.tag p < m → Leaks b.game i m after.tag p
