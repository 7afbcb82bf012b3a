-- Whole runs: after each call the run stands where the voyage made so far does.
use Rattle.std.proofs.Common.{◌≡◌, ℕ, ◌+◌, ◌<◌, ◌≤◌, max, ◌&&◌, ◌||◌, eqb, ltb, leb, ◌⊎◌, List, [], ◌∷◌, ◌++◌, map, length, get_or, take, drop, sym, refl, ap, ◌∙◌, subst, inl, inr, arith}
use Rattle.std.proofs.lemmas.List.{append-nil, append_assoc, length-take-le, length_push, take_at}
use Rattle.std.proofs.lemmas.Bool.{cases_Bool, cases_lt, cond-true, cond-false, or_parts, ltb-false, leb-false}
use Rattle.chart.specs.Arena.{Arena, Ranged, size}
use Rattle.chart.specs.Refusals.{done, refused}
use Rattle.game.specs.Reading.{owner_of, colour_of, degree_of, target_of, cost_of}
use Rattle.game.specs.Voyages.{Voyage, reached, requests, worst_wait, highest_waiting}
use Rattle.game.specs.Held.{standing, Follows}
use Rattle.theory.proofs.Sailing.{reached_join, voyage_push, follows_push}
use Rattle.helm.specs.Tally.{grown, longest, highest_open, on_first}
use Rattle.helm.specs.States.{State, Reply, went, stayed}
use Rattle.helm.specs.Calls.{half, waits_begun, waits_passed, state_begun, state_moved, tally_moved, begin_outcome, begin_tally, tally_done, moving, planned, tally_left}
use Rattle.helm.specs.Runs.{Call, steer, hear, Run, turn_for, reply, called, after_all, AsTurnsFall, asked, adding, made, state_in, Recorded, RecordsTheVoyage}
use Rattle.helm.proofs.Replies.{moving_absent, moving_over, moving_on}
use Rattle.helm.proofs.Worst.{either_none}
use Rattle.helm.proofs.Told.{Tells, tells_begun, highest_told, worst_told, tells_moved}

module _ (a : Arena) (ran : Ranged a) (plan : List ℕ) (start : ℕ) where
  -- the run stands where the voyage by the moves ms does
  record Stands (ms : List ℕ) (r : Run) : Type 0 where
    voyage : Voyage a start ms
    follows : Follows a (standing a (λ v. get_or plan v 0) start) start ms
    there : r.state.vertex ≡ reached a start ms
    turn : r.state.turn ≡ owner_of a (reached a start ms)
    moves : r.state.moves ≡ length ms
    worst : r.state.worst ≡ worst_wait a start ms
    waiting : r.state.waiting ≡ highest_waiting a start ms
    tells : Tells a start ms (take (half a) r.tally)

  -- the run after move m of where it stands
  abbrev moved : Run → ℕ → Run
  moved r m = record { state = state_moved a r.state m r.tally; tally = tally_moved a r.state m r.tally }

  module _ (ms : List ℕ) (r : Run) (m : ℕ) (s : Stands ms r) (few : r.state.moves < 1000000) where
    abbrev us : List ℕ
    us = take (half a) r.tally

    abbrev after : ℕ → List ℕ
    after v = waits_passed (cost_of a v m) (colour_of a (target_of a v m)) us

    short : length ms < 1000000
    short = let e = s.moves in omega arith

    at_target : target_of a r.state.vertex m ≡ reached a start (ms ++ m ∷ [])
    at_target = ap (λ v. target_of a v m) s.there ∙ sym (reached_join a start ms (m ∷ []))

    passed : after r.state.vertex ≡ after (reached a start ms)
    passed = ap after s.there

    on : Tells a start (ms ++ m ∷ []) (after (reached a start ms))
    on = tells_moved a ran start ms us s.tells m short

    front : take (half a) (tally_moved a r.state m r.tally) ≡ after (reached a start ms)
    front = take_at (after r.state.vertex) (drop (half a) r.tally) (half a) (ap length passed ∙ on.long) ∙ passed

    worst_moved : max r.state.worst (longest (map (grown (cost_of a r.state.vertex m)) us)) ≡ worst_wait a start (ms ++ m ∷ [])
    worst_moved =
        ap (λ v. max r.state.worst (longest (map (grown (cost_of a v m)) us))) s.there
        ∙ (ap (λ w. max w (longest (map (grown (cost_of a (reached a start ms) m)) us))) s.worst ∙ worst_told a ran start ms us s.tells m short)

    stands_moved : m < degree_of a r.state.vertex → (owner_of a (reached a start ms) ≡ 0 → m ≡ get_or plan (reached a start ms) 0) → Stands (ms ++ m ∷ []) (moved r m)
    stands_moved h own = record {
      voyage = voyage_push a start ms m s.voyage (rw s.there at h);
      follows = follows_push a (standing a (λ v. get_or plan v 0) start) start ms m s.follows own;
      there = at_target;
      turn = ap (owner_of a) at_target;
      moves = ap (λ n. n + 1) s.moves ∙ sym (length_push ms m);
      worst = worst_moved;
      waiting = ap (highest_open 1) passed ∙ highest_told a ran start (ms ++ m ∷ []) _ on;
      tells = subst (Tells a start (ms ++ m ∷ [])) (sym front) on;
    }

  -- a call is refused, and leaves the run as it stood, or makes the move that it asks for
  record Stays (r : Run) (c : Call) : Type 0 where
    run : called a plan r c ≡ r
    none : (ms : List ℕ) → adding (reply a plan r c) (asked plan r c) ms ≡ ms

  record Goes (r : Run) (c : Call) : Type 0 where
    move : asked plan r c < degree_of a r.state.vertex
    few : r.state.moves < 1000000
    run : called a plan r c ≡ moved r (asked plan r c)
    one : (ms : List ℕ) → adding (reply a plan r c) (asked plan r c) ms ≡ asked plan r c ∷ ms

  called_is : (r : Run) (c : Call) (x : Reply) → reply a plan r c ≡ x →
      called a plan r c ≡ record { state = state_in x; tally = tally_left x (tally_moved a r.state (asked plan r c) r.tally) r.tally }
  called_is r steer x e = ap (λ y. record { state = state_in y; tally = tally_left y (tally_moved a r.state (planned plan r.state) r.tally) r.tally }) e
  called_is r (hear m) x e = ap (λ y. record { state = state_in y; tally = tally_left y (tally_moved a r.state m r.tally) r.tally }) e

  stays : (r : Run) (c : Call) (n p : ℕ) → reply a plan r c ≡ stayed n p r.state → Stays r c
  stays r c n p e = record { run = called_is r c _ e; none = λ ms. ap (λ x. adding x (asked plan r c) ms) e }

  goes : (r : Run) (c : Call) → asked plan r c < degree_of a r.state.vertex → r.state.moves < 1000000 →
      reply a plan r c ≡ went (state_moved a r.state (asked plan r c) r.tally) → Goes r c
  goes r c h k e = record { move = h; few = k; run = called_is r c _ e; one = λ ms. ap (λ x. adding x (asked plan r c) ms) e }

  -- the last two questions of a call
  moving_cases : (r : Run) (c : Call) (n : ℕ) → reply a plan r c ≡ moving a r.state (asked plan r c) r.tally n → Stays r c ⊎ Goes r c
  moving_cases r c n e =
      elim (cases_lt (asked plan r c) (degree_of a r.state.vertex)) [
        | inr l ↦ inl (stays r c n 0 (e ∙ moving_absent a r.state (asked plan r c) r.tally n l))
        | inl h ↦
            elim (cases_Bool (leb 1000000 r.state.moves)) [
              | inl l ↦ inl (stays r c 22 0 (e ∙ moving_over a r.state (asked plan r c) r.tally n h l))
              | inr k ↦ inr (goes r c h (leb-false 1000000 r.state.moves k) (e ∙ moving_on a r.state (asked plan r c) r.tally n h k))
            ]
      ]

  call_cases : (r : Run) (c : Call) → Stays r c ⊎ Goes r c
  call_cases r steer = elim (cases_Bool (leb (size a) r.state.vertex)) [
    | inl e ↦ inl (stays r steer 4 0 (cond-true _ _ _ e))
    | inr e ↦ elim (cases_Bool (ltb (length plan) (size a) || ltb (length r.tally) (half a))) [
      | inl f ↦ inl (stays r steer 10 0 (cond-false _ _ _ e ∙ cond-true _ _ _ f))
      | inr f ↦ moving_cases r steer 13 (cond-false _ _ _ e ∙ cond-false _ _ _ f)
    ]
  ]
  call_cases r (hear m) = elim (cases_Bool (leb (size a) r.state.vertex)) [
    | inl e ↦ inl (stays r (hear m) 4 0 (cond-true _ _ _ e))
    | inr e ↦ elim (cases_Bool (ltb (length r.tally) (half a))) [
      | inl f ↦ inl (stays r (hear m) 10 0 (cond-false _ _ _ e ∙ cond-true _ _ _ f))
      | inr f ↦ moving_cases r (hear m) 7 (cond-false _ _ _ e ∙ cond-false _ _ _ f)
    ]
  ]

  -- at our turn the move asked for is the plan's
  by_plan : (ms : List ℕ) (r : Run) (c : Call) → Stands ms r → r.state.turn ≡ turn_for c → owner_of a (reached a start ms) ≡ 0 → asked plan r c ≡ get_or plan (reached a start ms) 0
  by_plan ms r steer s t own = ap (λ v. get_or plan v 0) s.there
  by_plan ms r (hear m) s t own = omega (arith, s.turn)

  stand_all : (ms : List ℕ) (r : Run) (cs : List Call) → Stands ms r → AsTurnsFall a plan r cs → Stands (ms ++ made a plan r cs) (after_all a plan r cs)
  stand_all ms r [] s f = subst (λ xs. Stands xs r) (sym (append-nil ms)) s
  stand_all ms r (c ∷ cs) s f = elim (call_cases r c) [
    | inl x ↦ subst (λ xs. Stands xs (after_all a plan (called a plan r c) cs)) (ap (λ xs. ms ++ xs) (sym (x.none (made a plan (called a plan r c) cs))))
        (stand_all ms (called a plan r c) cs (subst (Stands ms) (sym x.run) s) f.1)
    | inr x ↦
        let m = asked plan r c in
        let next = stands_moved ms r m s x.few x.move (by_plan ms r c s f.0) in
        subst (λ xs. Stands xs (after_all a plan (called a plan r c) cs))
        (append_assoc ms (m ∷ []) (made a plan (called a plan r c) cs) ∙ ap (λ xs. ms ++ xs) (sym (x.one (made a plan (called a plan r c) cs))))
        (stand_all (ms ++ m ∷ []) (called a plan r c) cs (subst (Stands (ms ++ m ∷ [])) (sym x.run) next) f.1)
  ]

  recorded : (r : Run) → Stands [] r → Recorded a plan start r
  recorded r s cs f =
      let e = stand_all [] r cs s f in
      record { voyage = e.voyage; follows = e.follows; number = e.moves; worst = e.worst; waiting = e.waiting }

  -- a voyage begun
  stands_begun : (ts : List ℕ) → half a ≤ length ts → Stands [] (record { state = state_begun a start ts; tally = on_first (half a) (waits_begun a start) ts })
  stands_begun ts h =
      let us = take (half a) ts in
      let on = tells_begun a start us (length-take-le (half a) ts h) in
      record {
        voyage = tt;
        follows = tt;
        there = refl;
        turn = refl;
        moves = refl;
        worst = sym (either_none (requests a start));
        waiting = highest_told a ran start [] _ on;
        tells = subst (Tells a start []) (sym (take_at (waits_begun a start us) (drop (half a) ts) (half a) on.long)) on;
      }

-- a begin that is not refused has room in the tally, and gives the start's state
record Begun (a : Arena) (marks ts : List ℕ) (start : ℕ) (s : State) : Type 0 where
  room : half a ≤ length ts
  state : s ≡ state_begun a start ts
  tally : begin_tally a marks ts start ≡ on_first (half a) (waits_begun a start) ts

begun : (a : Arena) (marks ts : List ℕ) (start : ℕ) (s : State) → begin_outcome a marks ts start ≡ done s → Begun a marks ts start s
begun a marks ts start s e = elim (cases_Bool (ltb (length marks) (size a) || ltb (length ts) (half a))) [
  | inl f ↦ let g : begin_outcome a marks ts start ≡ refused 10 0 = cond-true _ _ _ f in cc
  | inr f ↦ elim (cases_Bool (ltb start (size a) && eqb (get_or marks start 0) 1)) [
    | inr g ↦ let k : begin_outcome a marks ts start ≡ refused 21 0 = cond-false _ _ _ f ∙ cond-false _ _ _ g in cc
    | inl g ↦
        let k : begin_outcome a marks ts start ≡ done (state_begun a start ts) = cond-false _ _ _ f ∙ cond-true _ _ _ g in
        record {
          room = ltb-false (length ts) (half a) (or_parts _ _ f).1;
          state = cc;
          tally = ap (λ x. tally_done x (on_first (half a) (waits_begun a start) ts) ts) k;
        }
  ]
]

pub records_the_voyage : RecordsTheVoyage
records_the_voyage a ran marks plan ts start s e =
    let b = begun a marks ts start s e in
    subst (Recorded a plan start) (sym (ap (λ x. record { state = x; tally = begin_tally a marks ts start }) b.state ∙ ap (λ x. record { state = state_begun a start ts; tally = x }) b.tally))
    (recorded a ran plan start _ (stands_begun a ran plan start ts b.room))
