-- What is left, after the top colour is seeded and its player has drawn in what it can.
use Rattle.std.proofs.Common.{◌≡◌, ℕ, ◌+◌, ◌<◌, ◌≤◌, Bool, ◌⊎◌, sym, ◌∙◌, subst, inl, inr, arith}
use native.Mathlib.Decide.{ℕ_discrete}
use Rattle.std.proofs.lemmas.Bool.{cases_lt}
use Rattle.walks.specs.Games.{Game}
use Rattle.parity.specs.Boards.{Board, Ranged}
use Rattle.parity.specs.Sheets.{Sheet, Kept}
use Rattle.parity.specs.Attractors.{Leaks, Falls, Drawn}
use Rattle.parity.specs.Rounds.{Seeded, Highest}
use Rattle.parity.specs.Solving.{Region}

pub kept_then : (a b c : Sheet) (p : ℕ) → Kept a b p → Kept b c p → Kept a c p
kept_then a b c p k l = record { tag = l.tag ∙ k.tag; winner = l.winner ∙ k.winner; move = l.move ∙ k.move }

-- p shows the top colour, and its owner's move stays
pub record Tops (g : Game) (i d m : ℕ) (z : Sheet) (p : ℕ) : Type 0 where
  pub shows : g.colour p ≡ d
  pub moves : g.owner p ≡ i → (z.move p < g.degree p) × (z.tag (g.target p (z.move p)) ≤ m)

-- since the sheet a, the mark m stands where i draws the play to the top colour d
pub record Topped (b : Board) (i d m : ℕ) (a z : Sheet) : Type 0 where
  pub past : (p : ℕ) → p < b.size → m < a.tag p → Kept a z p
  pub low : (p : ℕ) → p < b.size → a.tag p ≤ m → z.tag p ≤ m
  pub back : (p : ℕ) → p < b.size → z.tag p ≤ m → a.tag p ≤ m
  pub rank : ℕ → ℕ
  pub winner : (p : ℕ) → p < b.size → z.tag p ≡ m → z.winner p ≡ i
  pub draws : (p : ℕ) → p < b.size → z.tag p ≡ m → Tops b.game i d m z p ⊎ Falls b.game i m z.tag z.move rank p
  pub fresh : (p : ℕ) → p < b.size → z.tag p < m → z.tag p ≡ 0
  pub lower : (p : ℕ) → p < b.size → z.tag p < m → ¬ (b.game.colour p ≡ d)
  pub shut : (p : ℕ) → p < b.size → z.tag p < m → Leaks b.game i m z.tag p

module _ (b : Board) (r : Ranged b) (i d m : ℕ) (a y z : Sheet) (some : Bool) (s : Seeded b.game d i m b.size a y some) (w : Drawn b i m y z)
    (total : (p : ℕ) → p < b.size → a.tag p ≤ m → (l : ℕ) × (l < b.game.degree p) × (a.tag (b.game.target p l) ≤ m))
    (apart : (p : ℕ) → p < b.size → a.tag p ≤ m → ¬ (b.game.colour p ≡ d) → 0 < m) where
  seeded_low : (p : ℕ) → p < b.size → a.tag p ≤ m → y.tag p ≤ m
  seeded_low p lt h = elim (ℕ_discrete (b.game.colour p) d) [
    | yes e ↦ (let x = ((s.low p lt h).top e).0 in omega arith)
    | no e ↦ (let x = (s.low p lt h).rest e in omega arith)
  ]

  drawn_low : (p : ℕ) → p < b.size → y.tag p ≤ m → z.tag p ≤ m
  drawn_low p lt h = elim (w.drawing.sorts p lt) [ inl k ↦ (let x = k.tag in omega arith) | inr j ↦ (let x = j.after in omega arith) ]

  topped_past : (p : ℕ) → p < b.size → m < a.tag p → Kept a z p
  topped_past p lt h =
      let k = s.high p (λ _. h) in
      kept_then a y z p k (elim (w.drawing.sorts p lt) [ inl l ↦ l | inr j ↦ absurd (let x = j.before in let y = k.tag in omega arith) ])

  topped_back : (p : ℕ) → p < b.size → z.tag p ≤ m → a.tag p ≤ m
  topped_back p lt h = elim (cases_lt m (a.tag p)) [ inl x ↦ absurd (let k = (topped_past p lt x).tag in omega arith) | inr x ↦ x ]

  -- where the mark stands now, it stood after seeding, at the top colour, or p has joined
  module _ (p : ℕ) (lt : p < b.size) (h : z.tag p ≡ m) where
    was_low : a.tag p ≤ m
    was_low = topped_back p lt (omega arith)

    at_top : Kept y z p → b.game.colour p ≡ d
    at_top k = elim (ℕ_discrete (b.game.colour p) d) [
      | yes e ↦ e
      | no e ↦ absurd (let x = (s.low p lt was_low).rest e in let o = apart p lt was_low e in let t = k.tag in omega arith)
    ]

    tops : Kept y z p → Tops b.game i d m z p
    tops k =
        record {
          shows = at_top k;
          moves = λ o.
              let l = total p lt was_low in
              let u = ((s.low p lt was_low).top (at_top k)).2 l.0 l.1 l.2 in
              let q : b.game.target p (y.move p) < b.size = r.targets p (y.move p) lt u.0 in
              subst (λ n. (n < b.game.degree p) × (z.tag (b.game.target p n) ≤ m)) (sym k.move) (u.0, drawn_low _ q (seeded_low _ q u.1));
        }

    topped_winner : z.winner p ≡ i
    topped_winner = elim (w.drawing.sorts p lt) [ inl k ↦ k.winner ∙ ((s.low p lt was_low).top (at_top k)).1 | inr j ↦ j.winner ]

    topped_draws : Tops b.game i d m z p ⊎ Falls b.game i m z.tag z.move w.drawing.rank p
    topped_draws = elim (w.drawing.sorts p lt) [ inl k ↦ inl (tops k) | inr j ↦ inr j.falls ]

  -- below the mark nothing has joined
  module _ (p : ℕ) (lt : p < b.size) (h : z.tag p < m) where
    still : Kept y z p
    still = elim (w.drawing.sorts p lt) [ inl k ↦ k | inr j ↦ absurd (let x = j.after in omega arith) ]

    topped_lower : ¬ (b.game.colour p ≡ d)
    topped_lower e = let x = ((s.low p lt (topped_back p lt (omega arith))).top e).0 in let k = still.tag in omega arith

    topped_fresh : z.tag p ≡ 0
    topped_fresh = still.tag ∙ (s.low p lt (topped_back p lt (omega arith))).rest topped_lower

  pub topped : Topped b i d m a z
  topped =
      record {
        past = topped_past;
        low = λ p lt h. drawn_low p lt (seeded_low p lt h);
        back = topped_back;
        rank = w.drawing.rank;
        winner = topped_winner;
        draws = topped_draws;
        fresh = topped_fresh;
        lower = topped_lower;
        shut = w.shut;
      }

-- what is left below the mark is a region again
pub topped_region : (b : Board) (r : Ranged b) (i d m bound count c : ℕ) (first a z : Sheet) → bound ≡ m + 2 → count ≡ d + 1 → Region b count bound first →
    ((p : ℕ) → p < b.size → a.tag p ≤ m → first.tag p < bound) →
    ((p : ℕ) → p < b.size → a.tag p ≤ m → (l : ℕ) × (l < b.game.degree p) × (a.tag (b.game.target p l) ≤ m)) →
    Topped b i d m a z → Highest b.game m b.size z.tag c → (c < count) × Region b c m z
topped_region b r i d m bound count c first a z e few g within total t h =
    let low : c ≤ d = h.least d (λ p lt k. (let x = g.colours p lt (within p lt (t.back p lt (omega arith))) in let n = t.lower p lt k in omega arith)) in (
      omega arith,
      record {
        room = (let x = g.room in omega arith);
        fresh = t.fresh;
        colours = h.covers;
        total = λ p lt k.
            let u = total p lt (t.back p lt (omega arith)) in
            elim (ℕ_discrete (b.game.owner p) i) [
              | yes o ↦ (u.0, u.1, (let v = t.low _ (r.targets p u.0 lt u.1) u.2 in let n = (t.shut p lt k).ours o u.0 u.1 in omega arith))
              | no o ↦ (t.shut p lt k).theirs o
            ];
      },
    )
