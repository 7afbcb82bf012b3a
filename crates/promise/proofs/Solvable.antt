-- What solve is asked for can always be given: on every chart there are tables and an answer as it may leave them.
use Rattle.std.proofs.Common.{◌≡◌, ℕ, suc, ◌*◌, ◌/◌, ◌<◌, ◌≤◌, true, false, cond, ◌&&◌, eqb, ltb, ◌⊎◌, List, ◌++◌, map, length, get_or, drop, sym, refl, ap, ◌∙◌, inl, inr, arith, length-append}
use native.Mathlib.Decide.{ℕ_discrete, dec_le}
use Rattle.std.specs.List.{range_with_len as counting}
use Rattle.std.proofs.lemmas.List.{get_or_append_left, drop_at, length-drop}
use Rattle.std.proofs.lemmas.List.FromFn.{length-map-range_with_len, get_or-map-range_with_len}
use Rattle.std.proofs.lemmas.Bool.{cases_Bool, cases_lt, lt-ltb, le-ltb, cond-true, cond-false, eq-eqb, ne_eqb, eqb-true, and_from, and_left, and_right}
use Rattle.chart.specs.Arena.{Arena, size, Ranged}
use Rattle.chart.specs.Refusals.{Outcome, done, refused}
use Rattle.walks.specs.Games.{Keeps}
use Rattle.walks.specs.Tables.{In, members}
use Rattle.walks.proofs.Keeping.{same_sets}
use Rattle.walks.proofs.Determined.{Solved as Solution, determined}
use Rattle.game.specs.Reading.{owner_of, colour_of, degree_of, game_of}
use Rattle.game.specs.Waiting.{levels, arrive, place, stage_in, vertex_in, positions, may_be_laid, waiting}
use Rattle.game.specs.Claims.{SafePlan, SafeCounter, by_entry, begun, led}
use Rattle.game.specs.Bounds.{greatest_wait}
use Rattle.game.proofs.Readings.{owner_other}
use Rattle.game.proofs.Positions.{owner_there, degree_on, waiting_ranged}
use Rattle.theory.specs.Levels.{Spot}
use Rattle.theory.proofs.Best.{best, Won, best_is}
use Rattle.theory.proofs.Deciding.{spot_leads}
use Rattle.theory.proofs.Firsts.{spot_moves}
use Rattle.promise.specs.Tables.{Tables, empty_entry, entries, entry_vertex, mark_of, plan_of, counter_of, Marked, marks_counted, GoodPlanEntry, GoodCounterEntry, LongEnough}
use Rattle.promise.specs.Rules.{Cause, dead_end, too_large, short_table, short_memory, number, Met, Checked}
use Rattle.promise.specs.Solving.{SameFrom, WrittenOver, EmptyUnreached, Solved}
use Rattle.promise.proofs.Accepting.{marked, met_low, Nowhere, may_lay, moves_everywhere}
use Rattle.promise.proofs.OtherBounds.{any_bound}
use Rattle.promise.proofs.Sheets.{dec_long}
use Rattle.promise.proofs.Promised.{Sound}
use Rattle.promise.proofs.Searching.{mem}
use Rattle.promise.proofs.Tests.{counter_rows, mets_by, met_decides}
use Rattle.promise.proofs.Answering.{answer, answer_checked}
use Rattle.promise.proofs.Given.{GoodTables, accepted}
use Rattle.promise.proofs.Kept.{kept_sound}

-- the first n entries by f, and what stood past them
abbrev written : (ℕ → ℕ) → ℕ → List ℕ → List ℕ
written f n old = map f (counting 0 n) ++ drop n old

written_at : (f : ℕ → ℕ) (n : ℕ) (old : List ℕ) (i : ℕ) → i < n → get_or (written f n old) i 0 ≡ f i
written_at f n old i h =
    get_or_append_left (map f (counting 0 n)) (drop n old) 0 i (let e = length-map-range_with_len f 0 n in omega arith) ∙ get_or-map-range_with_len f 0 n i i 0 h (omega arith)

written_same : (f : ℕ → ℕ) (n : ℕ) (old : List ℕ) → n ≤ length old → SameFrom n old (written f n old)
written_same f n old h =
    record {
      long = (let e = length-append (map f (counting 0 n)) (drop n old) in let l = length-map-range_with_len f 0 n in let d = length-drop n old in omega arith);
      rest = drop_at (map f (counting 0 n)) (drop n old) n (length-map-range_with_len f 0 n);
    }

-- 1 where it holds
bit : {P : Type 0} → Dec P → ℕ
bit (yes p) = 1
bit (no n) = 0

bit_yes : {P : Type 0} (d : Dec P) → bit d ≡ 1 → P
unfolding bit
bit_yes (yes p) e = p
bit_yes (no n) e = absurd (let z : ◌≡◌ {A = ℕ} 0 1 = e in omega arith)

yes_bit : {P : Type 0} (d : Dec P) → P → bit d ≡ 1
unfolding bit
yes_bit (yes p) x = refl
yes_bit (no n) x = absurd (n x)

bit_two : {P : Type 0} (d : Dec P) → (bit d ≡ 0) ⊎ (bit d ≡ 1)
unfolding bit
bit_two (yes p) = inr refl
bit_two (no n) = inl refl

module _ (a : Arena) (W : ℕ → Type 0) (dec : (p : ℕ) → Dec (W p)) where
  -- whether a vertex has a stable level that is won can be told at its best level
  dec_won : (v : ℕ) → Dec (Won a W dec v)
  dec_won v =
      let l = best a W dec v in
      elim (dec_le (suc v) (size a)) [
        | no n ↦ no (λ w. n w.0)
        | yes h ↦ elim (dec_le l (a.height / 2)) [
          | no n ↦ no (λ w. n ((best_is a W dec).stable v w).0)
          | yes g ↦ elim (ℕ_discrete (arrive l (colour_of a v)) l) [
            | no n ↦ no (λ w. n ((best_is a W dec).stable v w).1)
            | yes e ↦ elim (dec (place a v l 0)) [ no n ↦ no (λ w. n ((best_is a W dec).won v w)) | yes k ↦ yes (h, l, ((g, e), k)) ]
          ]
        ]
      ]

  -- the entries to write
  mark_for : ℕ → ℕ
  mark_for v = bit (dec_won v)

  module _ (σ : ℕ → ℕ) where
    plan_for : ℕ → ℕ
    plan_for v = cond (eqb (mark_for v) 1 && eqb (owner_of a v) 0) (σ (place a v (best a W dec v) 0)) empty_entry

    counter_for : ℕ → ℕ
    counter_for e = cond (eqb (owner_of a (entry_vertex a e)) 1) (σ (e * 2)) empty_entry

    module _ (before : Tables) where
      -- with the harbour's move at every entry
      abbrev full : Tables
      full =
          record {
            marks = written mark_for (size a) before.marks;
            plan = written plan_for (size a) before.plan;
            counterplay = written counter_for (entries a) before.counterplay;
          }

      reached_by_full : List ℕ
      reached_by_full = mets_by a full (waiting a) (counter_rows (waiting a) full)

      -- and with it only where it is reached
      reached_for : ℕ → ℕ
      reached_for e = cond (mem (e * 2) reached_by_full) (counter_for e) empty_entry

      abbrev tables_for : Tables
      tables_for =
          record {
            marks = written mark_for (size a) before.marks;
            plan = written plan_for (size a) before.plan;
            counterplay = written reached_for (entries a) before.counterplay;
          }

      written_over : LongEnough a before → WrittenOver a before tables_for
      written_over long =
          record {
            marks = written_same mark_for (size a) before.marks long.marks;
            plan = written_same plan_for (size a) before.plan long.plan;
            counterplay = written_same reached_for (entries a) before.counterplay long.counterplay;
          }

      marked_won : (v : ℕ) → Marked a tables_for v → Won a W dec v
      unfolding mark_for
      marked_won v m = bit_yes (dec_won v) (sym (written_at mark_for (size a) before.marks v m.0) ∙ m.1)

      won_marked : (v : ℕ) → Won a W dec v → Marked a tables_for v
      unfolding mark_for
      won_marked v w = (w.0, written_at mark_for (size a) before.marks v w.0 ∙ yes_bit (dec_won v) w)

      by_plan : (v : ℕ) → Marked a tables_for v → owner_of a v ≡ 0 → plan_of tables_for v ≡ σ (place a v (best a W dec v) 0)
      unfolding plan_for
      by_plan v m o =
          let one : mark_for v ≡ 1 = sym (written_at mark_for (size a) before.marks v m.0) ∙ m.1 in
          written_at plan_for (size a) before.plan v m.0 ∙ cond-true _ _ _ (and_from _ _ (eq-eqb (mark_for v) 1 one) (eq-eqb (owner_of a v) 0 o))

      module _ (r : Ranged a) (ok : may_be_laid a ≡ true) where
        full_low : (p : ℕ) → Met a full p → p < positions a
        full_low p m = met_low a r full 0 0 ok m

        -- at the positions that the full table reaches both tables have the same entry
        same_entry : (p : ℕ) → Met a full p → by_entry (counter_of tables_for) p ≡ by_entry (counter_of full) p
        unfolding reached_for reached_by_full
        same_entry p m = elim (ℕ_discrete (stage_in p) 0) [
          | no n ↦ cond-false _ _ _ (ne_eqb (stage_in p) 0 n) ∙ sym (cond-false _ _ _ (ne_eqb (stage_in p) 0 n))
          | yes e ↦
              let low : p / 2 < entries a = (let h = full_low p m in omega arith) in
              let even : p / 2 * 2 ≡ p = omega arith in
              let there : mem (p / 2 * 2) reached_by_full ≡ true = ap (λ x. mem x reached_by_full) even ∙ (met_decides a r full p).1 m in
              cond-true _ _ _ (eq-eqb (stage_in p) 0 e)
              ∙ (written_at reached_for (entries a) before.counterplay (p / 2) low
              ∙ (cond-true _ _ _ there
              ∙ (sym (written_at counter_for (entries a) before.counterplay (p / 2) low) ∙ sym (cond-true _ _ _ (eq-eqb (stage_in p) 0 e)))))
        ]

        -- so they reach the same ones
        fuller : {p : ℕ} → Met a tables_for p → Met a full p
        fuller (begun h n) = begun h n
        fuller (led {p} {q} m e) = let f = fuller m in led f (e.0, e.1, (λ o. e.2 o ∙ same_entry p f), e.3)

        enough : {p : ℕ} → Met a full p → Met a tables_for p
        enough (begun h n) = begun h n
        enough (led {p} {q} m e) = led (enough m) (e.0, e.1, (λ o. e.2 o ∙ sym (same_entry p m)), e.3)

        by_counter : (p : ℕ) → Met a tables_for p → owner_of (waiting a) p ≡ 1 → stage_in p ≡ 0 → counter_of tables_for (p / 2) ≡ σ p
        unfolding counter_for
        by_counter p m o e =
            let f = fuller m in
            let h = full_low p f in
            let low : p / 2 < entries a = omega arith in
            let even : p / 2 * 2 ≡ p = omega arith in
            let at : by_entry (counter_of tables_for) p ≡ counter_of tables_for (p / 2) = cond-true _ _ _ (eq-eqb (stage_in p) 0 e) in
            let on : by_entry (counter_of full) p ≡ counter_of full (p / 2) = cond-true _ _ _ (eq-eqb (stage_in p) 0 e) in
            sym at ∙ (same_entry p f ∙ (on ∙ (written_at counter_for (entries a) before.counterplay (p / 2) low
            ∙ (cond-true _ _ _ (eq-eqb _ _ (sym (owner_there a ok p h) ∙ o)) ∙ ap σ even))))

        empty_unreached : EmptyUnreached a tables_for
        unfolding reached_for reached_by_full
        empty_unreached e h n = elim (cases_Bool (mem (e * 2) reached_by_full)) [
          | inl b ↦ absurd (n (enough ((met_decides a r full (e * 2)).0 b)))
          | inr b ↦ written_at reached_for (entries a) before.counterplay e h ∙ cond-false _ _ _ b
        ]

        -- each entry may stand where it stands
        good_plan : SafePlan a (Marked a tables_for) (plan_of tables_for) → (v : ℕ) → v < size a → GoodPlanEntry a tables_for v
        unfolding plan_for
        good_plan safe v h =
            record {
              move = safe.moves v;
              empty = λ n. written_at plan_for (size a) before.plan v h ∙
                  cond-false (eqb (mark_for v) 1 && eqb (owner_of a v) 0) (σ (place a v (best a W dec v) 0)) empty_entry (neither n);
            }
          where
            neither : ¬ (Marked a tables_for v × (owner_of a v ≡ 0)) → (eqb (mark_for v) 1 && eqb (owner_of a v) 0) ≡ false
            neither n = elim (cases_Bool (eqb (mark_for v) 1)) [
              | inr b ↦ and_left (eqb (mark_for v) 1) (eqb (owner_of a v) 0) b
              | inl b ↦ and_right (eqb (mark_for v) 1) (eqb (owner_of a v) 0)
                  (ne_eqb (owner_of a v) 0 (λ o. n ((h, written_at mark_for (size a) before.marks v h ∙ eqb-true (mark_for v) 1 b), o)))
            ]

        good_counter : SafeCounter a (Marked a tables_for) (counter_of tables_for) → (e : ℕ) → e < entries a → GoodCounterEntry a tables_for e
        unfolding reached_for counter_for reached_by_full
        good_counter safe e h = elim (cases_Bool (mem (e * 2) reached_by_full)) [
          | inr b ↦
              let none = written_at reached_for (entries a) before.counterplay e h ∙ cond-false _ _ _ b in
              record { harbours = λ o. inr none; ours = λ n. none }
          | inl b ↦
              let m = (met_decides a r full (e * 2)).0 b in
              let low = full_low (e * 2) m in
              let stage : stage_in (e * 2) ≡ 0 = omega arith in
              let half : e * 2 / 2 ≡ e = omega arith in
              let vertex : vertex_in a (e * 2) ≡ entry_vertex a e = ap (λ x. x / levels a) half in
              record {
                harbours = λ o.
                    let k = safe.moves (e * 2) (enough m) (owner_there a ok (e * 2) low ∙ (ap (owner_of a) vertex ∙ o)) in
                    let d = degree_on a ok (e * 2) low stage ∙ ap (degree_of a) vertex in
                    let by : by_entry (counter_of tables_for) (e * 2) ≡ counter_of tables_for e = cond-true _ _ _ (eq-eqb (stage_in (e * 2)) 0 stage) ∙ ap (counter_of tables_for) half in
                    inl (omega arith);
                ours = λ n. written_at reached_for (entries a) before.counterplay e h ∙ (cond-true _ _ _ b ∙ cond-false _ _ _ (ne_eqb _ _ n));
              }
        ]

        two_marks : (v : ℕ) → v < size a → (mark_of tables_for v ≡ 0) ⊎ (mark_of tables_for v ≡ 1)
        unfolding mark_for
        two_marks v h = elim (bit_two (dec_won v)) [ inl e ↦ inl (written_at mark_for (size a) before.marks v h ∙ e) | inr e ↦ inr (written_at mark_for (size a) before.marks v h ∙ e) ]

        long_after : LongEnough a before → LongEnough a tables_for
        long_after long =
            let w = written_over long in
            record {
              marks = (let e = w.marks.long in let k = long.marks in omega arith);
              plan = (let e = w.plan.long in let k = long.plan in omega arith);
              counterplay = (let e = w.counterplay.long in let k = long.counterplay in omega arith);
            }

        module _ (mv : (v : ℕ) → v < size a → 0 < degree_of a v) (V : ℕ → Type 0) (ours : Keeps (game_of (waiting a)) 0 (Spot a) σ W)
            (theirs : Keeps (game_of (waiting a)) 1 (Spot a) σ V) (split : (p : ℕ) → Spot a p → W p ⊎ V p) where
          sound_after : Sound a tables_for (greatest_wait a (marked a tables_for) (plan_of tables_for))
          sound_after = kept_sound a r ok mv σ W V dec ours theirs split tables_for marked_won won_marked by_plan by_counter

          good_after : LongEnough a before → GoodTables a tables_for
          good_after long =
              record {
                long = long_after long;
                marks = two_marks;
                plan = good_plan sound_after.plan;
                counterplay = good_counter sound_after.counter;
              }

-- the positions, as a table
spots : Arena → ℕ → ℕ
spots a p = cond (ltb p (positions a)) 1 0

spot_in : (a : Arena) (p : ℕ) → Spot a p → In (spots a) p
unfolding spots
spot_in a p h = cond-true (ltb p (positions a)) 1 0 (lt-ltb p (positions a) h)

spot_out : (a : Arena) (p : ℕ) → In (spots a) p → Spot a p
unfolding spots
spot_out a p e = elim (cases_lt p (positions a)) [ inl h ↦ h | inr h ↦ absurd (let z : ◌≡◌ {A = ℕ} 0 1 = sym (cond-false (ltb p (positions a)) 1 0 (le-ltb p (positions a) h)) ∙ e in omega arith) ]

-- tables and an answer as solve may leave them
abbrev pub Answered : Arena → Tables → ℕ → Type 0
Answered a before room = (after : Tables) × (o : Outcome (ℕ × ℕ)) × Solved a before after room o

-- where solve may not refuse
module _ (a : Arena) (r : Ranged a) (ok : may_be_laid a ≡ true) (mv : (v : ℕ) → v < size a → 0 < degree_of a v) (before : Tables) (long : LongEnough a before)
    (room : ℕ) (wide : 12 * positions a ≤ room) where
  split_up : Solution (game_of (waiting a)) 0 1 (spots a)
  split_up = determined (game_of (waiting a)) (positions a) (owner_other (waiting a) (waiting_ranged a r)) (members (spots a) (positions a)) (spots a) (spot_out a)
      (λ p h. let m = spot_moves a r ok mv p (spot_out a p h) in (0, m, spot_in a _ (spot_leads a r ok p 0 m))) (omega arith)

  abbrev W : ℕ → Type 0
  W = In split_up.mine

  abbrev V : ℕ → Type 0
  V = In split_up.yours

  dec : (p : ℕ) → Dec (W p)
  dec p = ℕ_discrete (split_up.mine p) 1

  ours : Keeps (game_of (waiting a)) 0 (Spot a) split_up.by W
  ours = same_sets (game_of (waiting a)) 0 (In (spots a)) (Spot a) W W split_up.by (spot_out a) (spot_in a) (λ p w. w) (λ p w. w) split_up.split_of.ours

  theirs : Keeps (game_of (waiting a)) 1 (Spot a) split_up.by V
  theirs = same_sets (game_of (waiting a)) 1 (In (spots a)) (Spot a) V V split_up.by (spot_out a) (spot_in a) (λ p w. w) (λ p w. w) split_up.split_of.theirs

  abbrev after : Tables
  after = tables_for a W dec split_up.by before

  all_split : (p : ℕ) → Spot a p → W p ⊎ V p
  all_split p h = split_up.split_of.all p (spot_in a p h)

  abbrev bound : ℕ
  bound = greatest_wait a (marked a after) (plan_of after)

  solved_so : Solved a before after room (done (marks_counted a after, bound))
  solved_so = (
    (accepted a r after bound room (good_after a W dec split_up.by before r ok mv V ours theirs all_split long) wide (sound_after a W dec split_up.by before r ok mv V ours theirs all_split), refl),
    empty_unreached a W dec split_up.by before r ok,
    written_over a W dec split_up.by before long,
  )

  written_so : Answered a before room
  written_so = (after, done (marks_counted a after, bound), solved_so)

-- none of solve's refusals applies, or one does
module _ (a : Arena) (r : Ranged a) (before : Tables) (room : ℕ) where
  free : ((c : Cause) → number c ≤ 11 → Nowhere a r before 0 room c) → Answered a before room
  free none =
      let ok = may_lay a r before 0 room (none too_large (omega arith)) in
      let mv = moves_everywhere a r before 0 room (none dead_end (omega arith)) in
      elim (dec_long a before) [
        | no n ↦ absurd (none short_table (omega arith) 0 (refl, n))
        | yes long ↦ elim (dec_le (12 * positions a) room) [
          | no n ↦ absurd (none short_memory (omega arith) 0 (refl, omega arith))
          | yes wide ↦ written_so a r ok mv before long room wide
        ]
      ]

  by_check : (o : Outcome (ℕ × ℕ)) → Checked a before 0 room o → Answered a before room
  by_check (done x) c = free (λ d h. c.0 d)
  by_check (refused n p) c = elim (dec_le n 11) [
    | yes h ↦ (before, refused n p, (h, (λ bound. any_bound a before room 0 bound n p (omega arith) c), refl))
    | no h ↦ free (λ d l. c.2.first d (let e = c.1 in omega arith))
  ]

  pub solvable : Answered a before room
  solvable = by_check (answer a before 0 room) (answer_checked a r before 0 room)
