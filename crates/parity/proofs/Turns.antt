-- The rounds of the solver, one after another, and how they end.
use Rattle.std.proofs.Common.{◌≡◌, ℕ, ◌+◌, ◌%◌, ◌<◌, ◌≤◌, true, false, ◌⊎◌, sym, refl, ap, ◌∙◌, subst, inl, inr, arith}
use native.Mathlib.Decide.{ℕ_discrete}
use Rattle.std.proofs.lemmas.Bool.{cases_lt}
use Rattle.walks.specs.Games.{Keeps, Descends, AtTop, Trap}
use Rattle.walks.proofs.Keeping.{attractor_kept, whole_kept, trap_kept, join_kept, same_kept, same_sets, none_kept}
use Rattle.parity.specs.Boards.{Board, Ranged}
use Rattle.parity.specs.Sheets.{Sheet, Kept, Under, Marked}
use Rattle.parity.specs.Attractors.{Falls, Drawn, outside}
use Rattle.parity.specs.Rounds.{Seeded, Highest, Given}
use Rattle.parity.specs.Solving.{Region, Won, Solved, Round}
use Rattle.parity.proofs.Counts.{outside_lt}
use Rattle.parity.proofs.Topped.{kept_then, Topped}

-- a play that falls into the set of a mark descends there, by any strategy that moves alike
pub falls_descends : (b : Board) → Ranged b → (i m : ℕ) (t s u rank : ℕ → ℕ) (R : ℕ → Type 0) (p : ℕ) → p < b.size → u p ≡ s p →
    ((q : ℕ) → R q → t q ≤ m) → ((q : ℕ) → q < b.size → t q ≡ m → R q) → Falls b.game i m t s rank p →
    Descends b.game i R u rank (Marked b.size t m) p
falls_descends b r i m t s u rank R p lt e out into f =
    record {
      moves = λ o.
          let v = f.ours o in
          subst (λ n. (n < b.game.degree p) × R (b.game.target p n)) (sym e) (v.0, into _ (r.targets p (s p) lt v.0) v.1);
      falls = λ q rq st.
          let at : b.game.target p st.0 ≡ q = st.3 in
          let low : q < b.size = subst (λ x. x < b.size) at (r.targets p st.0 lt st.1) in
          elim (ℕ_discrete (b.game.owner p) i) [
            | yes o ↦
                let same : b.game.target p (s p) ≡ q = ap (b.game.target p) (sym (st.2 o ∙ e)) ∙ at in
                let v = f.ours o in
                ((low, subst (λ x. t x ≡ m) same v.1), subst (λ x. rank x < rank p) same v.2)
            | no o ↦
                let v = f.theirs o st.0 st.1 (subst (λ x. t x ≤ m) (sym at) (out q rq)) in
                ((low, subst (λ x. t x ≡ m) at v.0), subst (λ x. rank x < rank p) at v.1)
          ];
    }

-- how the rounds begin, and what is left in the region: whoever the opponent o is
module _ (b : Board) (r : Ranged b) (o m bound : ℕ) (e : bound ≡ m + 2) (first : Sheet) (count : ℕ) (g : Region b count bound first) where
  pub round_start : Round b o m bound first first
  round_start =
      record {
        past = λ p lt h. record { tag = refl; winner = refl; move = refl };
        inside = λ p lt h. h;
        gained = none_kept b.game o _ _ _ (λ p u. (let x = u.1 in let y = g.fresh p u.0 (omega arith) in omega arith));
        owned = λ p lt h. absurd (let y = g.fresh p lt (omega arith) in omega arith);
        total = λ p lt h.
            let u = g.total p lt (omega arith) in
            (u.0, u.1, (let y = g.fresh _ (r.targets p u.0 lt u.1) u.2 in omega arith));
        trap = λ p l lt h own k n. (let y = g.fresh _ (r.targets p l lt k) (omega arith) in omega arith);
      }

  pub within : (a : Sheet) → Round b o m bound first a → (p : ℕ) → p < b.size → a.tag p ≤ m → first.tag p < bound
  within a now p lt h = elim (cases_lt (first.tag p) bound) [ inl x ↦ x | inr x ↦ absurd (let k = (now.past p lt x).tag in omega arith) ]

module _ (b : Board) (r : Ranged b) (i o d m bound : ℕ) (pair : i + o ≡ 1) (top : d % 2 ≡ i) (e : bound ≡ m + 2) (first : Sheet) (count : ℕ) (few : count ≡ d + 1) (g : Region b count bound first) where
  theirs : (p : ℕ) → p < b.size → ¬ (b.game.owner p ≡ i) → b.game.owner p ≡ o
  theirs p lt n = let x = r.owners p lt in omega arith

  ours : (p : ℕ) → p < b.size → ¬ (b.game.owner p ≡ o) → b.game.owner p ≡ i
  ours p lt n = let x = r.owners p lt in omega arith

  module _ (a : Sheet) (now : Round b o m bound first a) where
    abbrev R : ℕ → Type 0
    R = Under b.size first.tag bound

    abbrev L : ℕ → Type 0
    L = Under b.size a.tag (m + 1)

    abbrev B : ℕ → Type 0
    B = Marked b.size a.tag (m + 1)

    within_gained : (p : ℕ) → p < b.size → a.tag p ≡ m + 1 → first.tag p < bound
    within_gained p lt h = elim (cases_lt (first.tag p) bound) [ inl x ↦ x | inr x ↦ absurd (let k = (now.past p lt x).tag in omega arith) ]

    left_in : (p : ℕ) → L p → R p
    left_in p l = (l.0, within b r o m bound e first count g a now p l.0 (let h = l.1 in omega arith))

    sort : (p : ℕ) → R p → B p ⊎ L p
    sort p x = elim (ℕ_discrete (a.tag p) (m + 1)) [ yes h ↦ inl (x.0, h) | no h ↦ inr (x.0, (let k = now.inside p x.0 x.1 in omega arith)) ]

    left_trap : Trap b.game i R L
    left_trap p q l lp own rq k at =
        elim (sort q rq) [
          | inl h ↦ absurd (now.trap p l lp.0 (let x = lp.1 in omega arith) (theirs p lp.0 own) k (ap a.tag at ∙ h.1))
          | inr h ↦ h
        ]

    -- the top player has drawn in what it can, and what is left below is solved
    module _ (z y : Sheet) (t : Topped b i d m a z) (v : Solved b m z y) where
      abbrev C : ℕ → Type 0
      C = Under b.size z.tag m

      below_in : (p : ℕ) → C p → L p
      below_in p c = (c.0, (let h = c.1 in let k = t.back p c.0 (omega arith) in omega arith))

      solved_past : (p : ℕ) → p < b.size → m < a.tag p → Kept a y p
      solved_past p lt h = let k = t.past p lt h in kept_then a z y p k (v.past p lt (let x = k.tag in omega arith))

      solved_low : (p : ℕ) → p < b.size → a.tag p ≤ m → y.tag p ≤ m
      solved_low p lt h = elim (cases_lt (z.tag p) m) [
        | inl x ↦ (let k = v.inside p lt x in omega arith)
        | inr x ↦ (let k = (v.past p lt x).tag in let l = t.low p lt h in omega arith)
      ]

      first_past : (p : ℕ) → p < b.size → bound ≤ first.tag p → Kept first y p
      first_past p lt h = let k = now.past p lt h in kept_then first a y p k (solved_past p lt (let x = k.tag in omega arith))

      first_inside : (p : ℕ) → p < b.size → first.tag p < bound → y.tag p < bound
      first_inside p lt h = elim (cases_lt m (a.tag p)) [
        | inl x ↦ (let k = (solved_past p lt x).tag in let n = now.inside p lt h in omega arith)
        | inr x ↦ (let k = solved_low p lt x in omega arith)
      ]

      gained_still : Keeps b.game o R y.move B
      gained_still = same_kept b.game o R B a.move y.move (λ p u. sym (solved_past p u.0 (let h = u.1 in omega arith)).move) now.gained

      -- the opponent has won nothing below
      module _ (none : (p : ℕ) → p < b.size → y.tag p < m → ¬ (y.winner p ≡ o)) (tags : ℕ → ℕ) (same : (p : ℕ) → tags p ≡ y.tag p) where
        below_ours : (p : ℕ) → C p → y.winner p ≡ i
        below_ours p c = let x = v.two p c.0 c.1 in let n = none p c.0 (v.inside p c.0 c.1) in omega arith

        marked_ours : (p : ℕ) → p < b.size → z.tag p ≡ m → y.winner p ≡ i
        marked_ours p lt h = (v.past p lt (omega arith)).winner ∙ t.winner p lt h

        left_ours : (p : ℕ) → L p → y.winner p ≡ i
        left_ours p l = elim (cases_lt (z.tag p) m) [
          | inl x ↦ below_ours p (l.0, x)
          | inr x ↦ marked_ours p l.0 (let h = l.1 in let k = t.low p l.0 (omega arith) in omega arith)
        ]

        marked_falls : (p : ℕ) → Marked b.size z.tag m p → AtTop b.game i d L y.move p ⊎ Descends b.game i L y.move t.rank (Marked b.size z.tag m) p
        marked_falls p u =
            let moved : y.move p ≡ z.move p = (v.past p u.0 (let h = u.1 in omega arith)).move in
            elim (t.draws p u.0 u.1) [
              | inl x ↦ inl (record {
                shows = x.shows;
                moves = λ own.
                    let w = x.moves own in
                    let q : b.game.target p (z.move p) < b.size = r.targets p (z.move p) u.0 w.0 in
                    subst (λ n. (n < b.game.degree p) × L (b.game.target p n)) (sym moved) (w.0, (q, (let k = t.back _ q w.1 in omega arith)));
              })
              | inr x ↦ inr (falls_descends b r i m z.tag z.move y.move t.rank L p u.0 moved
                  (λ q l. t.low q l.0 (let h = l.1 in omega arith)) (λ q lt h. (lt, (let k = t.back q lt (omega arith) in omega arith))) x)
            ]

        left_kept : Keeps b.game i L y.move L
        left_kept =
            whole_kept b.game i d L y.move (λ p l. (let k = g.colours p l.0 (left_in p l).1 in omega arith)) top C (Marked b.size z.tag m) t.rank
            (same_sets b.game i C C (Won b m z y i) C y.move (λ p c. c) (λ p c. c) (λ p u. u.0) (λ p c. (c, below_ours p c)) (v.keeps i (omega arith)))
            below_in
            (λ p l. elim (cases_lt (z.tag p) m) [ inl x ↦ inr (l.0, x) | inr x ↦ inl (l.0, (let h = l.1 in let k = t.low p l.0 (omega arith) in omega arith)) ])
            marked_falls

        ours_kept : Keeps b.game i R y.move (Won b bound first y i)
        ours_kept =
            same_sets b.game i R R L (Won b bound first y i) y.move (λ p u. u) (λ p u. u) (λ p l. (left_in p l, left_ours p l))
            (λ p u. elim (sort p u.0) [ inl h ↦ absurd (gained_not p h u.1) | inr l ↦ l ])
            (trap_kept b.game i R L left_in left_trap y.move L left_kept)
          where
            gained_not : (p : ℕ) → B p → ¬ (y.winner p ≡ i)
            gained_not p h w = let k = (solved_past p h.0 (let x = h.1 in omega arith)).winner in let n = now.owned p h.0 h.1 in omega arith

        theirs_kept : Keeps b.game o R y.move (Won b bound first y o)
        theirs_kept =
            same_sets b.game o R R B (Won b bound first y o) y.move (λ p u. u) (λ p u. u)
            (λ p h. ((h.0, within_gained p h.0 h.1), (solved_past p h.0 (let x = h.1 in omega arith)).winner ∙ now.owned p h.0 h.1))
            (λ p u. elim (sort p u.0) [ inl h ↦ h | inr l ↦ absurd (let k = left_ours p l in let n = u.1 in omega arith) ])
            gained_still

        pub round_over : Solved b bound first (record { tag = tags; winner = y.winner; move = y.move })
        round_over =
            record {
              past = λ p lt h. (let k = first_past p lt h in record { tag = same p ∙ k.tag; winner = k.winner; move = k.move });
              inside = λ p lt h. (let k = first_inside p lt h in let x = same p in omega arith);
              two = λ p lt h. elim (sort p (lt, h)) [
                | inl u ↦ (let k = (solved_past p lt (let x = u.1 in omega arith)).winner in let n = now.owned p lt u.1 in omega arith)
                | inr l ↦ (let k = left_ours p l in omega arith)
              ];
              keeps = λ j le. elim (ℕ_discrete j i) [
                | yes x ↦ subst (λ k. Keeps b.game k R y.move (Won b bound first y k)) (sym x) ours_kept
                | no n ↦ subst (λ k. Keeps b.game k R y.move (Won b bound first y k)) (let x : o ≡ j = omega arith in x) theirs_kept
              ];
            }

      -- what the opponent has won below is handed over, and it draws in what it can
      module _ (tags : ℕ → ℕ) (w : Given o m b.size y.winner y.tag tags true) (x : Sheet)
          (n : Drawn b o (m + 1) (record { tag = tags; winner = y.winner; move = y.move }) x) where
        abbrev W : ℕ → Type 0
        W = Won b m z y o

        abbrev S : ℕ → Type 0
        S p = B p ⊎ W p

        S_has : (p : ℕ) → S p → (p < b.size) × (tags p ≡ m + 1)
        S_has p (inl u) = (
          u.0,
          (w.kept p (λ lt h. absurd (let k = (solved_past p lt (let x = u.1 in omega arith)).tag in let x = u.1 in omega arith))
              ∙ ((solved_past p u.0 (let x = u.1 in omega arith)).tag ∙ u.1)),
        )
        S_has p (inr u) = (u.0.0, w.gained p u.0.0 (v.inside p u.0.0 u.0.1) u.1)

        S_is : (p : ℕ) → p < b.size → tags p ≡ m + 1 → S p
        S_is p lt h = elim (cases_lt (y.tag p) m) [
          | inl k ↦ elim (ℕ_discrete (y.winner p) o) [
            | yes u ↦ inr ((lt, below_from p lt k), u)
            | no u ↦ absurd (let q = w.kept p (λ l x. u) in omega arith)
          ]
          | inr k ↦
              let q = w.kept p (λ l x. absurd (omega arith)) in
              elim (cases_lt m (a.tag p)) [
                | inl u ↦ inl (lt, (let c = (solved_past p lt u).tag in omega arith))
                | inr u ↦ absurd (let c = solved_low p lt u in omega arith)
              ]
        ]
          where
            below_from : (p : ℕ) → p < b.size → y.tag p < m → z.tag p < m
            below_from p lt h = elim (cases_lt (z.tag p) m) [ inl u ↦ u | inr u ↦ absurd (let c = (v.past p lt u).tag in omega arith) ]

        -- the opponent's positions are kept, by the strategy that it has now
        kept_in_left : Keeps b.game o L y.move W
        kept_in_left = trap_kept b.game o L C below_in trap y.move W (v.keeps o (omega arith))
          where
            trap : Trap b.game o L C
            trap p q l c own lq k at = (
              lq.0,
              (let f = (t.shut p c.0 c.1).ours (ours p c.0 own) l k in
                  let h : ¬ (z.tag q ≡ m) = λ u. f (ap z.tag at ∙ u) in
                  let le = lq.1 in let low = t.low q lq.0 (omega arith) in omega arith),
            )

        S_kept : Keeps b.game o R y.move S
        S_kept = join_kept b.game o R B L y.move sort left_in W gained_still kept_in_left

        S_still : (p : ℕ) → S p → Kept (record { tag = tags; winner = y.winner; move = y.move }) x p
        S_still p u =
            let h = S_has p u in
            elim (n.drawing.sorts p h.0) [ inl k ↦ k | inr j ↦ absurd (let f = j.before in let c = h.1 in omega arith) ]

        again_low : (p : ℕ) → p < b.size → tags p ≤ m + 1 → x.tag p ≤ m + 1
        again_low p lt h = elim (n.drawing.sorts p lt) [ inl k ↦ (let c = k.tag in omega arith) | inr j ↦ (let c = j.after in omega arith) ]

        handed_low : (p : ℕ) → p < b.size → y.tag p < bound → tags p ≤ m + 1
        handed_low p lt h = elim (cases_lt (y.tag p) m) [
          | inr k ↦ (let q = w.kept p (λ l c. absurd (omega arith)) in omega arith)
          | inl k ↦ elim (ℕ_discrete (y.winner p) o) [
            | yes u ↦ (let q = w.gained p lt k u in omega arith)
            | no u ↦ (let q = w.kept p (λ l c. u) in omega arith)
          ]
        ]

        again_past : (p : ℕ) → p < b.size → bound ≤ first.tag p → Kept first x p
        again_past p lt h =
            let k = first_past p lt h in
            let s = w.kept p (λ l c. absurd (let f = k.tag in omega arith)) in
            elim (n.drawing.sorts p lt) [
              | inl c ↦ record { tag = c.tag ∙ (s ∙ k.tag); winner = c.winner ∙ k.winner; move = c.move ∙ k.move }
              | inr j ↦ absurd (let f = j.before in let c = k.tag in omega arith)
            ]

        again_inside : (p : ℕ) → p < b.size → first.tag p < bound → x.tag p < bound
        again_inside p lt h = let k = again_low p lt (handed_low p lt (first_inside p lt h)) in omega arith

        -- what is left now was left before
        left_before : (p : ℕ) → p < b.size → x.tag p ≤ m → a.tag p ≤ m
        left_before p lt h = elim (cases_lt m (a.tag p)) [
          | inr k ↦ k
          | inl k ↦ absurd (let c = (solved_past p lt k).tag in let q = w.kept p (λ l f. absurd (omega arith)) in
              elim (n.drawing.sorts p lt) [ inl f ↦ (let d = f.tag in omega arith) | inr j ↦ (let d = j.after in omega arith) ])
        ]

        left_after : (p : ℕ) → p < b.size → a.tag p ≤ m → x.tag p ≤ m + 1
        left_after p lt h = again_low p lt (handed_low p lt (let k = solved_low p lt h in omega arith))

        again_gained : Keeps b.game o R x.move (Marked b.size x.tag (m + 1))
        again_gained =
            attractor_kept b.game o R x.move S (same_kept b.game o R S y.move x.move (λ p u. sym (S_still p u).move) S_kept)
            n.drawing.rank (Marked b.size x.tag (m + 1))
            (λ p u. ((S_has p u).0, (S_still p u).tag ∙ (S_has p u).1))
            (λ p u. (u.0, (elim (cases_lt (first.tag p) bound) [ inl k ↦ k | inr k ↦ absurd (let c = (again_past p u.0 k).tag in let h = u.1 in omega arith) ])))
            (λ p u. elim (n.drawing.sorts p u.0) [
              | inl k ↦ inl (S_is p u.0 (sym k.tag ∙ u.1))
              | inr j ↦ inr (falls_descends b r o (m + 1) x.tag x.move x.move n.drawing.rank R p u.0 refl
                  (λ q c. (let h = again_inside q c.0 c.1 in omega arith))
                  (λ q lt h. (lt, (elim (cases_lt (first.tag q) bound) [ inl k ↦ k | inr k ↦ absurd (let c = (again_past q lt k).tag in omega arith) ])))
                  j.falls)
            ])

        again_owned : (p : ℕ) → p < b.size → x.tag p ≡ m + 1 → x.winner p ≡ o
        again_owned p lt h = elim (n.drawing.sorts p lt) [
          | inr j ↦ j.winner
          | inl k ↦ k.winner ∙ elim (S_is p lt (sym k.tag ∙ h)) [
            | inl u ↦ (solved_past p lt (let c = u.1 in omega arith)).winner ∙ now.owned p lt u.1
            | inr u ↦ u.1
          ]
        ]

        again_total : (p : ℕ) → p < b.size → x.tag p ≤ m → (l : ℕ) × (l < b.game.degree p) × (x.tag (b.game.target p l) ≤ m)
        again_total p lt h =
            let shut = n.shut p lt (omega arith) in
            elim (ℕ_discrete (b.game.owner p) o) [
              | yes own ↦
                  let u = now.total p lt (left_before p lt h) in
                  (u.0, u.1, (let k = left_after _ (r.targets p u.0 lt u.1) u.2 in let c = shut.ours own u.0 u.1 in omega arith))
              | no own ↦ let u = shut.theirs own in (u.0, u.1, (let k = u.2 in omega arith))
            ]

        pub round_again : Round b o m bound first x
        round_again =
            record {
              past = again_past;
              inside = again_inside;
              gained = again_gained;
              owned = again_owned;
              total = again_total;
              trap = λ p l lt h own k c. (n.shut p lt (omega arith)).ours own l k c;
            }

        pub round_less : outside (m + 1) x.tag b.size < outside (m + 1) a.tag b.size
        round_less =
            let u = w.found refl in
            let at : x.tag u.0 ≡ m + 1 = handed u.0 u.1 u.2 u.3 in
            outside_lt (m + 1) a.tag x.tag b.size u.0 (λ q lt h. (let k = left_before q lt (omega arith) in omega arith)) u.1
            (was_left u.0 u.1 u.2) (omega arith)
          where
            handed : (p : ℕ) → p < b.size → y.tag p < m → y.winner p ≡ o → x.tag p ≡ m + 1
            handed p lt h k = let c = w.gained p lt h k in (S_still p (S_is p lt c)).tag ∙ c

            was_left : (p : ℕ) → p < b.size → y.tag p < m → a.tag p < m + 1
            was_left p lt h = elim (cases_lt m (a.tag p)) [ inl k ↦ absurd (let c = (solved_past p lt k).tag in omega arith) | inr k ↦ omega arith ]

    -- nothing that is left shows the top colour, and it is solved by what shows below
    module _ (z : Sheet) (s : Seeded b.game d i m b.size a z false) where
      all_fresh : (p : ℕ) → p < b.size → a.tag p ≤ m → z.tag p ≡ 0
      all_fresh p lt h = (s.low p lt h).rest (s.none refl p lt h)

      last_in : (p : ℕ) → Under b.size z.tag (m + 1) p → L p
      last_in p u = elim (cases_lt m (a.tag p)) [
        | inl k ↦ absurd (let c = (s.high p (λ _. k)).tag in let h = u.1 in omega arith)
        | inr k ↦ (u.0, omega arith)
      ]

      last_has : (p : ℕ) → L p → Under b.size z.tag (m + 1) p
      last_has p l = (l.0, (let h = l.1 in let c = all_fresh p l.0 (omega arith) in omega arith))

      pub last_region : (c : ℕ) → Highest b.game (m + 1) b.size z.tag c → (c < count) × Region b c (m + 1) z
      last_region c h =
          let low : c ≤ d = h.least d (λ p lt k.
          let l = last_in p (lt, k) in
          let x = g.colours p lt (left_in p l).1 in
          let q = s.none refl p lt (let f = l.1 in omega arith) in
          omega arith) in (
            omega arith,
            record {
              room = (let x = g.room in omega arith);
              fresh = λ p lt k. (let l = (last_in p (lt, k)).1 in all_fresh p lt (omega arith));
              colours = h.covers;
              total = λ p lt k.
                  let l = (last_in p (lt, k)).1 in
                  let u = now.total p lt (omega arith) in
                  (u.0, u.1, (let f = all_fresh _ (r.targets p u.0 lt u.1) u.2 in omega arith));
            },
          )

      module _ (y : Sheet) (v : Solved b (m + 1) z y) where
        last_past : (p : ℕ) → p < b.size → m < a.tag p → Kept a y p
        last_past p lt h = let k = s.high p (λ _. h) in kept_then a z y p k (v.past p lt (let c = k.tag in omega arith))

        last_first : (p : ℕ) → p < b.size → bound ≤ first.tag p → Kept first y p
        last_first p lt h = let k = now.past p lt h in kept_then first a y p k (last_past p lt (let c = k.tag in omega arith))

        last_kept : (j : ℕ) → j ≤ 1 → Keeps b.game j L y.move (λ p. L p × (y.winner p ≡ j))
        last_kept j le =
            same_sets b.game j (Under b.size z.tag (m + 1)) L (Won b (m + 1) z y j) (λ p. L p × (y.winner p ≡ j)) y.move last_in last_has
            (λ p u. (last_in p u.0, u.1)) (λ p u. (last_has p u.0, u.1)) (v.keeps j le)

        gained_theirs : (p : ℕ) → B p → y.winner p ≡ o
        gained_theirs p u = (last_past p u.0 (let h = u.1 in omega arith)).winner ∙ now.owned p u.0 u.1

        last_ours : Keeps b.game i R y.move (Won b bound first y i)
        last_ours =
            same_sets b.game i R R (λ p. L p × (y.winner p ≡ i)) (Won b bound first y i) y.move (λ p u. u) (λ p u. u)
            (λ p u. (left_in p u.0, u.1))
            (λ p u. elim (sort p u.0) [ inl h ↦ absurd (let k = gained_theirs p h in let c = u.1 in omega arith) | inr l ↦ (l, u.1) ])
            (trap_kept b.game i R L left_in left_trap y.move (λ p. L p × (y.winner p ≡ i)) (last_kept i (omega arith)))

        last_theirs : Keeps b.game o R y.move (Won b bound first y o)
        last_theirs =
            same_sets b.game o R R (λ p. B p ⊎ (L p × (y.winner p ≡ o))) (Won b bound first y o) y.move (λ p u. u) (λ p u. u)
            (λ p u. elim u [ inl h ↦ ((h.0, within_gained p h.0 h.1), gained_theirs p h) | inr h ↦ (left_in p h.0, h.1) ])
            (λ p u. elim (sort p u.0) [ inl h ↦ inl h | inr l ↦ inr (l, u.1) ])
            (join_kept b.game o R B L y.move sort left_in (λ p. L p × (y.winner p ≡ o))
            (same_kept b.game o R B a.move y.move (λ p u. sym (last_past p u.0 (let h = u.1 in omega arith)).move) now.gained)
            (last_kept o (omega arith)))

        pub round_last : Solved b bound first y
        round_last =
            record {
              past = last_first;
              inside = λ p lt h. elim (sort p (lt, h)) [
                | inl u ↦ (let k = (last_past p lt (let c = u.1 in omega arith)).tag in let c = u.1 in omega arith)
                | inr l ↦ (let k = v.inside p lt (last_has p l).1 in omega arith)
              ];
              two = λ p lt h. elim (sort p (lt, h)) [
                | inl u ↦ (let k = gained_theirs p u in omega arith)
                | inr l ↦ v.two p lt (last_has p l).1
              ];
              keeps = λ j le. elim (ℕ_discrete j i) [
                | yes x ↦ subst (λ k. Keeps b.game k R y.move (Won b bound first y k)) (sym x) last_ours
                | no n ↦ subst (λ k. Keeps b.game k R y.move (Won b bound first y k)) (let x : o ≡ j = omega arith in x) last_theirs
              ];
            }
