-- The rounds as the recursion takes them: the top colour and the mark from the number of colours
-- and the bound.
use Rattle.std.proofs.Common.{◌≡◌, ℕ, ◌+◌, ◌-◌, ◌%◌, ◌<◌, ◌≤◌, Bool, true, false, refl, sym, ap, ◌∙◌, subst, arith}
use Rattle.parity.specs.Boards.{Board, Ranged}
use Rattle.parity.specs.Sheets.{Sheet}
use Rattle.parity.specs.Attractors.{Drawn, outside}
use Rattle.parity.specs.Rounds.{Seeded, Highest, Given}
use Rattle.parity.specs.Solving.{Region, Solved, Round}
use Rattle.parity.proofs.Topped.{Topped, topped, topped_region}
use Rattle.parity.proofs.Turns.{round_start, within, round_over, round_again, round_less, last_region, round_last}

-- a sheet with another's winners and moves
with_tags : (u x : Sheet) → u.winner ≡ x.winner → u.move ≡ x.move → record { tag = u.tag; winner = x.winner; move = x.move } ≡ u
with_tags u x e f =
    ap (λ w. record { tag = u.tag; winner = w; move = x.move }) (sym e) ∙ ap (λ m. record { tag = u.tag; winner = u.winner; move = m }) (sym f)

module _ (b : Board) (r : Ranged b) (colours bound : ℕ) (some_colour : ¬ (colours ≡ 0)) (first : Sheet) (g : Region b colours bound first) where
  abbrev top : ℕ
  top = colours - 1

  abbrev mark : ℕ
  mark = bound - 2

  room : bound ≡ mark + 2
  room = let x = g.room in omega arith

  few : colours ≡ top + 1
  few = omega arith

  -- what holds whoever the player i of the round and its opponent o are
  pub step_start : (o : ℕ) → Round b o mark bound first first
  step_start o = round_start b r o mark bound room first colours g

  module _ (i o : ℕ) (a : Sheet) (now : Round b o mark bound first a) where
    inner : (p : ℕ) → p < b.size → a.tag p ≤ mark → first.tag p < bound
    inner = within b r o mark bound room first colours g a now

    pub step_topped : (y z : Sheet) (some : Bool) → Seeded b.game top i mark b.size a y some → Drawn b i mark y z → Topped b i top mark a z
    step_topped y z some s w = topped b r i top mark a y z some s w now.total
        (λ p lt h n. (let x = g.colours p lt (inner p lt h) in let k = g.room in omega arith))

    pub step_below : (z : Sheet) → Topped b i top mark a z → (c : ℕ) → Highest b.game mark b.size z.tag c → (c < colours) × Region b c mark z
    step_below z t c h = topped_region b r i top mark bound colours c first a z room few g inner now.total t h

    -- what rests on i being the player of the top colour
    module _ (at_top : i ≡ top % 2) (against : o ≡ 1 - i) where
      pair : i + o ≡ 1
      pair = omega arith

      module _ (z x : Sheet) (t : Topped b i top mark a z) (v : Solved b mark z x) (u : Sheet) (winners : u.winner ≡ x.winner) (moves : u.move ≡ x.move) where
        pub step_over : Given o mark b.size x.winner x.tag u.tag false → Solved b bound first u
        step_over k = subst (Solved b bound first) (with_tags u x winners moves)
            (round_over b r i o top mark bound pair (sym at_top) room first colours few g a now z x t v
            (k.none refl) u.tag (λ p. k.kept p (k.none refl p)))

        module _ (k : Given o mark b.size x.winner x.tag u.tag true) (y : Sheet) (w : Drawn b o (mark + 1) u y) where
          drawn : Drawn b o (mark + 1) (record { tag = u.tag; winner = x.winner; move = x.move }) y
          drawn = subst (λ s. Drawn b o (mark + 1) s y) (sym (with_tags u x winners moves)) w

          pub step_again : Round b o mark bound first y
          step_again = round_again b r i o top mark bound pair (sym at_top) room first colours few g a now z x t v u.tag k y drawn

          pub step_less : outside (mark + 1) y.tag b.size < outside (mark + 1) a.tag b.size
          step_less = round_less b r i o top mark bound pair (sym at_top) room first colours few g a now z x t v u.tag k y drawn

      module _ (z : Sheet) (s : Seeded b.game top i mark b.size a z false) where
        pub step_last_below : (c : ℕ) → Highest b.game (mark + 1) b.size z.tag c → (c < colours) × Region b c (mark + 1) z
        step_last_below = last_region b r i o top mark bound pair (sym at_top) room first colours few g a now z s

        pub step_last : (y : Sheet) → Solved b (mark + 1) z y → Solved b bound first y
        step_last y v = round_last b r i o top mark bound pair (sym at_top) room first colours few g a now z s y v
