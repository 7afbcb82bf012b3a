-- Claims on the worked charts, written out by hand and put to the rules: each is accepted, and with one entry changed it is
-- refused with the number expected. A few cases change two entries, to come to a rule that no single change comes to.
use Rattle.std.proofs.Common.{◌≡◌, ℕ, ◌<◌, List, [], ◌∷◌, get_or, set, replicate, refl, subst, arith}
use Rattle.std.specs.List.{AllByRecursion}
use Rattle.chart.specs.Arena.{Arena, size, Ranged}
use Rattle.chart.specs.Refusals.{Outcome, done, refused}
use Rattle.game.specs.Reading.{owner_of, colour_of, degree_of, target_of, cost_of}
use Rattle.game.specs.Held.{Held}
use Rattle.game.specs.Waiting.{waiting}
use Rattle.game.specs.Worked.{ours, to, chart, empty, answered, waiting_free, waiting_dear, asked_again, put_off, put_off_dear, dear_answer}
use Rattle.promise.specs.Tables.{Tables, empty_entry}
use Rattle.promise.specs.Rules.{Checked}
use Rattle.promise.specs.Promise.{ClaimAccepted}
use Rattle.promise.proofs.Promised.{marks_the_held}
use Rattle.promise.proofs.Answering.{answer, answer_checked}

-- a claim, room for working memory, and the answer expected
pub record Case : Type 0 where
  pub tables : Tables
  pub bound : ℕ
  pub room : ℕ
  pub outcome : Outcome (ℕ × ℕ)

-- check answers so
abbrev pub Holds : Arena → Case → Type 0
Holds a c = Checked a c.tables c.bound c.room c.outcome

abbrev worked_out : Arena → Case → Outcome (ℕ × ℕ)
worked_out a c = answer a c.tables c.bound c.room

-- the cases hold if the answers worked out are those expected
abbrev Agree : Arena → List Case → Type 0
Agree a [] = Unit
Agree a (c ∷ cs) = (worked_out a c ≡ c.outcome) × Agree a cs

all_hold : (a : Arena) → Ranged a → (cs : List Case) → Agree a cs → AllByRecursion (Holds a) cs
all_hold a r [] e = tt
all_hold a r (c ∷ cs) e = (subst (Checked a c.tables c.bound c.room) e.0 (answer_checked a r c.tables c.bound c.room), all_hold a r cs e.1)

-- marks, plan, counterplay, bound and room, and the answer
abbrev case : (marks plan counterplay : List ℕ) (bound room : ℕ) → Outcome (ℕ × ℕ) → Case
case marks plan counterplay bound room outcome = record { tables = record { marks = marks; plan = plan; counterplay = counterplay }; bound = bound; room = room; outcome = outcome }

-- the empty entry, and a table of so many
abbrev none : ℕ
none = empty_entry

abbrev blanks : ℕ → List ℕ
blanks n = replicate n empty_entry

-- no vertices: none held, bound 0
abbrev pub empty_cases : List Case
empty_cases =
    case [] [] [] 0 0 (done (0, 0)) ∷
    case [] [] [] 1 0 (refused 18 0) ∷
    case (7 ∷ []) (8 ∷ []) (9 ∷ []) 0 5 (done (0, 0)) ∷
    []

pub empty_holds : AllByRecursion (Holds empty) empty_cases
unfolding owner_of colour_of degree_of target_of cost_of waiting
empty_holds = all_hold empty (omega arith) empty_cases (refl, (refl, (refl, tt)))

-- both held, bound 3
abbrev pub answered_cases : List Case
answered_cases =
    case (1 ∷ 1 ∷ []) (0 ∷ 0 ∷ []) (blanks 10) 3 240 (done (2, 3)) ∷
    case (0 ∷ 1 ∷ []) (0 ∷ 0 ∷ []) (blanks 10) 3 240 (refused 13 0) ∷
    case (1 ∷ 0 ∷ []) (0 ∷ 0 ∷ []) (blanks 10) 3 240 (refused 13 1) ∷
    case (2 ∷ 1 ∷ []) (0 ∷ 0 ∷ []) (blanks 10) 3 240 (refused 12 0) ∷
    case (1 ∷ 255 ∷ []) (0 ∷ 0 ∷ []) (blanks 10) 3 240 (refused 12 1) ∷
    case (1 ∷ 1 ∷ []) (1 ∷ 0 ∷ []) (blanks 10) 3 240 (refused 13 0) ∷
    case (1 ∷ 1 ∷ []) (none ∷ 0 ∷ []) (blanks 10) 3 240 (refused 13 0) ∷
    case (1 ∷ 1 ∷ []) (0 ∷ 1 ∷ []) (blanks 10) 3 240 (refused 13 1) ∷
    case (1 ∷ 1 ∷ []) (0 ∷ 0 ∷ []) (set (blanks 10) 0 0) 3 240 (refused 14 0) ∷
    case (1 ∷ 1 ∷ []) (0 ∷ 0 ∷ []) (set (blanks 10) 9 0) 3 240 (refused 14 9) ∷
    case (1 ∷ 1 ∷ []) (0 ∷ 0 ∷ []) (blanks 10) 2 240 (refused 18 3) ∷
    case (1 ∷ 1 ∷ []) (0 ∷ 0 ∷ []) (blanks 10) 4 240 (refused 18 3) ∷
    case (0 ∷ 1 ∷ []) (none ∷ 0 ∷ []) (blanks 10) 0 240 (refused 15 1) ∷
    []

pub answered_holds : AllByRecursion (Holds answered) answered_cases
unfolding owner_of colour_of degree_of target_of cost_of waiting
answered_holds = all_hold answered (omega arith) answered_cases (refl, (refl, (refl, (refl, (refl, (refl, (refl, (refl, (refl, (refl, (refl, (refl, (refl, tt)))))))))))))

-- both held, bound 1; vertex 1 alone, and the harbour has no counterplay against vertex 0
abbrev pub waiting_free_cases : List Case
waiting_free_cases =
    case (1 ∷ 1 ∷ []) (0 ∷ 0 ∷ []) (blanks 10) 1 240 (done (2, 1)) ∷
    case (0 ∷ 1 ∷ []) (0 ∷ 0 ∷ []) (blanks 10) 1 240 (refused 13 0) ∷
    case (1 ∷ 0 ∷ []) (0 ∷ 0 ∷ []) (blanks 10) 1 240 (refused 13 1) ∷
    case (1 ∷ 1 ∷ []) (1 ∷ 0 ∷ []) (blanks 10) 1 240 (refused 13 0) ∷
    case (1 ∷ 1 ∷ []) (0 ∷ none ∷ []) (blanks 10) 1 240 (refused 13 1) ∷
    case (1 ∷ 1 ∷ []) (0 ∷ 0 ∷ []) (set (blanks 10) 3 0) 1 240 (refused 14 3) ∷
    case (1 ∷ 1 ∷ []) (0 ∷ 0 ∷ []) (blanks 10) 0 240 (refused 18 1) ∷
    case (1 ∷ 1 ∷ []) (0 ∷ 0 ∷ []) (blanks 10) 2 240 (refused 18 1) ∷
    case (1 ∷ 0 ∷ []) (0 ∷ none ∷ []) (blanks 10) 1 240 (refused 15 0) ∷
    case (0 ∷ 1 ∷ []) (none ∷ 0 ∷ []) (blanks 10) 1 240 (refused 18 0) ∷
    case (0 ∷ 1 ∷ []) (none ∷ 0 ∷ []) (blanks 10) 0 240 (refused 20 12) ∷
    []

pub waiting_free_holds : AllByRecursion (Holds waiting_free) waiting_free_cases
unfolding owner_of colour_of degree_of target_of cost_of waiting
waiting_free_holds = all_hold waiting_free (omega arith) waiting_free_cases (refl, (refl, (refl, (refl, (refl, (refl, (refl, (refl, (refl, (refl, (refl, tt)))))))))))

-- only vertex 1 held, bound 0
abbrev pub waiting_dear_cases : List Case
waiting_dear_cases =
    case (0 ∷ 1 ∷ []) (none ∷ 0 ∷ []) (blanks 10) 0 240 (done (1, 0)) ∷
    case (1 ∷ 1 ∷ []) (none ∷ 0 ∷ []) (blanks 10) 0 240 (refused 13 0) ∷
    case (0 ∷ 0 ∷ []) (none ∷ 0 ∷ []) (blanks 10) 0 240 (refused 13 1) ∷
    case (0 ∷ 1 ∷ []) (0 ∷ 0 ∷ []) (blanks 10) 0 240 (refused 13 0) ∷
    case (0 ∷ 1 ∷ []) (none ∷ none ∷ []) (blanks 10) 0 240 (refused 13 1) ∷
    case (0 ∷ 1 ∷ []) (none ∷ 0 ∷ []) (set (blanks 10) 1 0) 0 240 (refused 14 1) ∷
    case (0 ∷ 1 ∷ []) (none ∷ 0 ∷ []) (blanks 10) 1 240 (refused 18 0) ∷
    case (1 ∷ 1 ∷ []) (0 ∷ 0 ∷ []) (blanks 10) 0 240 (refused 17 0) ∷
    case (0 ∷ 0 ∷ []) (none ∷ none ∷ []) (blanks 10) 0 240 (refused 20 10) ∷
    []

pub waiting_dear_holds : AllByRecursion (Holds waiting_dear) waiting_dear_cases
unfolding owner_of colour_of degree_of target_of cost_of waiting
waiting_dear_holds = all_hold waiting_dear (omega arith) waiting_dear_cases (refl, (refl, (refl, (refl, (refl, (refl, (refl, (refl, (refl, tt)))))))))

-- none held; where nothing is reached the counterplay may have any move
abbrev pub asked_again_cases : List Case
asked_again_cases =
    case (0 ∷ 0 ∷ []) (none ∷ none ∷ []) (set (blanks 10) 1 0) 0 240 (done (0, 0)) ∷
    case (1 ∷ 0 ∷ []) (none ∷ none ∷ []) (set (blanks 10) 1 0) 0 240 (refused 15 0) ∷
    case (0 ∷ 1 ∷ []) (none ∷ none ∷ []) (set (blanks 10) 1 0) 0 240 (refused 13 1) ∷
    case (2 ∷ 0 ∷ []) (none ∷ none ∷ []) (set (blanks 10) 1 0) 0 240 (refused 12 0) ∷
    case (0 ∷ 0 ∷ []) (0 ∷ none ∷ []) (set (blanks 10) 1 0) 0 240 (refused 13 0) ∷
    case (0 ∷ 0 ∷ []) (none ∷ none ∷ []) (set (blanks 10) 1 1) 0 240 (refused 20 10) ∷
    case (0 ∷ 0 ∷ []) (none ∷ none ∷ []) (set (blanks 10) 1 2) 0 240 (refused 14 1) ∷
    case (0 ∷ 0 ∷ []) (none ∷ none ∷ []) (blanks 10) 0 240 (refused 19 2) ∷
    case (0 ∷ 0 ∷ []) (none ∷ none ∷ []) (set (set (blanks 10) 1 0) 0 1) 0 240 (done (0, 0)) ∷
    case (0 ∷ 0 ∷ []) (none ∷ none ∷ []) (set (set (blanks 10) 1 0) 5 0) 0 240 (refused 14 5) ∷
    case (0 ∷ 0 ∷ []) (none ∷ none ∷ []) (set (blanks 10) 1 0) 1 240 (refused 18 0) ∷
    case (1 ∷ 1 ∷ []) (none ∷ 0 ∷ []) (set (blanks 10) 1 0) 0 240 (refused 16 0) ∷
    []

pub asked_again_holds : AllByRecursion (Holds asked_again) asked_again_cases
unfolding owner_of colour_of degree_of target_of cost_of waiting
asked_again_holds = all_hold asked_again (omega arith) asked_again_cases (refl, (refl, (refl, (refl, (refl, (refl, (refl, (refl, (refl, (refl, (refl, (refl, tt))))))))))))

-- all held, bound 3
abbrev pub put_off_cases : List Case
put_off_cases =
    case (1 ∷ 1 ∷ 1 ∷ []) (0 ∷ none ∷ 0 ∷ []) (blanks 15) 3 360 (done (3, 3)) ∷
    case (0 ∷ 1 ∷ 1 ∷ []) (0 ∷ none ∷ 0 ∷ []) (blanks 15) 3 360 (refused 13 0) ∷
    case (1 ∷ 0 ∷ 1 ∷ []) (0 ∷ none ∷ 0 ∷ []) (blanks 15) 3 360 (refused 15 0) ∷
    case (1 ∷ 1 ∷ 0 ∷ []) (0 ∷ none ∷ 0 ∷ []) (blanks 15) 3 360 (refused 13 2) ∷
    case (1 ∷ 1 ∷ 1 ∷ []) (1 ∷ none ∷ 0 ∷ []) (blanks 15) 3 360 (refused 13 0) ∷
    case (1 ∷ 1 ∷ 1 ∷ []) (0 ∷ 0 ∷ 0 ∷ []) (blanks 15) 3 360 (refused 13 1) ∷
    case (1 ∷ 1 ∷ 1 ∷ []) (0 ∷ none ∷ none ∷ []) (blanks 15) 3 360 (refused 13 2) ∷
    case (1 ∷ 1 ∷ 1 ∷ []) (0 ∷ none ∷ 0 ∷ []) (set (blanks 15) 5 0) 3 360 (done (3, 3)) ∷
    case (1 ∷ 1 ∷ 1 ∷ []) (0 ∷ none ∷ 0 ∷ []) (set (blanks 15) 5 2) 3 360 (refused 14 5) ∷
    case (1 ∷ 1 ∷ 1 ∷ []) (0 ∷ none ∷ 0 ∷ []) (set (blanks 15) 0 0) 3 360 (refused 14 0) ∷
    case (1 ∷ 1 ∷ 1 ∷ []) (0 ∷ none ∷ 0 ∷ []) (blanks 15) 2 360 (refused 18 3) ∷
    case (1 ∷ 1 ∷ 1 ∷ []) (0 ∷ none ∷ 0 ∷ []) (blanks 15) 4 360 (refused 18 3) ∷
    []

pub put_off_holds : AllByRecursion (Holds put_off) put_off_cases
unfolding owner_of colour_of degree_of target_of cost_of waiting
put_off_holds = all_hold put_off (omega arith) put_off_cases (refl, (refl, (refl, (refl, (refl, (refl, (refl, (refl, (refl, (refl, (refl, (refl, tt))))))))))))

-- none held
abbrev pub put_off_dear_cases : List Case
put_off_dear_cases =
    case (0 ∷ 0 ∷ 0 ∷ []) (none ∷ none ∷ none ∷ []) (set (set (blanks 15) 5 1) 6 0) 0 360 (done (0, 0)) ∷
    case (1 ∷ 0 ∷ 0 ∷ []) (none ∷ none ∷ none ∷ []) (set (set (blanks 15) 5 1) 6 0) 0 360 (refused 13 0) ∷
    case (0 ∷ 1 ∷ 0 ∷ []) (none ∷ none ∷ none ∷ []) (set (set (blanks 15) 5 1) 6 0) 0 360 (refused 15 1) ∷
    case (0 ∷ 0 ∷ 1 ∷ []) (none ∷ none ∷ none ∷ []) (set (set (blanks 15) 5 1) 6 0) 0 360 (refused 13 2) ∷
    case (0 ∷ 0 ∷ 0 ∷ []) (none ∷ 0 ∷ none ∷ []) (set (set (blanks 15) 5 1) 6 0) 0 360 (refused 13 1) ∷
    case (0 ∷ 0 ∷ 0 ∷ []) (none ∷ none ∷ none ∷ []) (set (blanks 15) 6 0) 0 360 (refused 19 10) ∷
    case (0 ∷ 0 ∷ 0 ∷ []) (none ∷ none ∷ none ∷ []) (set (set (blanks 15) 5 0) 6 0) 0 360 (refused 20 10) ∷
    case (0 ∷ 0 ∷ 0 ∷ []) (none ∷ none ∷ none ∷ []) (set (blanks 15) 5 1) 0 360 (refused 19 12) ∷
    case (0 ∷ 0 ∷ 0 ∷ []) (none ∷ none ∷ none ∷ []) (set (set (blanks 15) 5 1) 6 1) 0 360 (refused 20 20) ∷
    case (0 ∷ 0 ∷ 0 ∷ []) (none ∷ none ∷ none ∷ []) (set (set (blanks 15) 5 1) 6 2) 0 360 (refused 14 6) ∷
    case (0 ∷ 0 ∷ 0 ∷ []) (none ∷ none ∷ none ∷ []) (set (set (set (blanks 15) 5 1) 6 0) 7 0) 0 360 (done (0, 0)) ∷
    case (0 ∷ 0 ∷ 0 ∷ []) (none ∷ none ∷ none ∷ []) (set (set (blanks 15) 5 1) 6 0) 1 360 (refused 18 0) ∷
    case (1 ∷ 1 ∷ 1 ∷ []) (0 ∷ none ∷ 0 ∷ []) (blanks 15) 3 360 (refused 17 0) ∷
    []

pub put_off_dear_holds : AllByRecursion (Holds put_off_dear) put_off_dear_cases
unfolding owner_of colour_of degree_of target_of cost_of waiting
put_off_dear_holds = all_hold put_off_dear (omega arith) put_off_dear_cases (refl, (refl, (refl, (refl, (refl, (refl, (refl, (refl, (refl, (refl, (refl, (refl, (refl, tt)))))))))))))

-- all held, bound 7; then tables and memory that are too short, and tables that are longer than needed
abbrev pub dear_answer_cases : List Case
dear_answer_cases =
    case (1 ∷ 1 ∷ 1 ∷ []) (none ∷ 0 ∷ 0 ∷ []) (blanks 15) 7 360 (done (3, 7)) ∷
    case (0 ∷ 1 ∷ 1 ∷ []) (none ∷ 0 ∷ 0 ∷ []) (blanks 15) 7 360 (refused 15 2) ∷
    case (1 ∷ 0 ∷ 1 ∷ []) (none ∷ 0 ∷ 0 ∷ []) (blanks 15) 7 360 (refused 13 1) ∷
    case (1 ∷ 1 ∷ 0 ∷ []) (none ∷ 0 ∷ 0 ∷ []) (blanks 15) 7 360 (refused 13 2) ∷
    case (1 ∷ 1 ∷ 3 ∷ []) (none ∷ 0 ∷ 0 ∷ []) (blanks 15) 7 360 (refused 12 2) ∷
    case (1 ∷ 1 ∷ 1 ∷ []) (0 ∷ 0 ∷ 0 ∷ []) (blanks 15) 7 360 (refused 13 0) ∷
    case (1 ∷ 1 ∷ 1 ∷ []) (none ∷ 1 ∷ 0 ∷ []) (blanks 15) 7 360 (refused 16 1) ∷
    case (1 ∷ 1 ∷ 1 ∷ []) (none ∷ 2 ∷ 0 ∷ []) (blanks 15) 7 360 (refused 13 1) ∷
    case (1 ∷ 1 ∷ 1 ∷ []) (none ∷ 0 ∷ 1 ∷ []) (blanks 15) 7 360 (refused 13 2) ∷
    case (1 ∷ 1 ∷ 1 ∷ []) (none ∷ 0 ∷ 0 ∷ []) (set (blanks 15) 0 1) 7 360 (done (3, 7)) ∷
    case (1 ∷ 1 ∷ 1 ∷ []) (none ∷ 0 ∷ 0 ∷ []) (set (blanks 15) 0 2) 7 360 (refused 14 0) ∷
    case (1 ∷ 1 ∷ 1 ∷ []) (none ∷ 0 ∷ 0 ∷ []) (blanks 15) 6 360 (refused 18 7) ∷
    case (1 ∷ 1 ∷ 1 ∷ []) (none ∷ 0 ∷ 0 ∷ []) (blanks 15) 8 360 (refused 18 7) ∷
    case (1 ∷ 1 ∷ []) (none ∷ 0 ∷ 0 ∷ []) (blanks 15) 7 360 (refused 10 0) ∷
    case (1 ∷ 1 ∷ 1 ∷ []) (none ∷ 0 ∷ []) (blanks 15) 7 360 (refused 10 0) ∷
    case (1 ∷ 1 ∷ 1 ∷ []) (none ∷ 0 ∷ 0 ∷ []) (blanks 14) 7 360 (refused 10 0) ∷
    case (1 ∷ 1 ∷ 1 ∷ []) (none ∷ 0 ∷ 0 ∷ []) (blanks 15) 7 359 (refused 11 0) ∷
    case (1 ∷ 1 ∷ 1 ∷ 9 ∷ []) (none ∷ 0 ∷ 0 ∷ 3 ∷ []) (set (blanks 20) 17 2) 7 1000 (done (3, 7)) ∷
    []

pub dear_answer_holds : AllByRecursion (Holds dear_answer) dear_answer_cases
unfolding owner_of colour_of degree_of target_of cost_of waiting
dear_answer_holds = all_hold dear_answer (omega arith) dear_answer_cases (refl, (refl, (refl, (refl, (refl, (refl, (refl, (refl, (refl, (refl, (refl, (refl, (refl, (refl, (refl, (refl, (refl, (refl, tt))))))))))))))))))

-- a vertex without a move comes before everything else
abbrev pub dead_end_cases : List Case
dead_end_cases =
    case (1 ∷ 1 ∷ []) (0 ∷ 0 ∷ []) (blanks 10) 1 240 (refused 8 1) ∷
    case [] [] [] 0 0 (refused 8 1) ∷
    []

pub dead_end_holds : AllByRecursion (Holds (chart (ours 1 (to 1 1 ∷ []) ∷ ours 0 [] ∷ []))) dead_end_cases
unfolding owner_of colour_of degree_of target_of cost_of waiting
dead_end_holds = all_hold (chart (ours 1 (to 1 1 ∷ []) ∷ ours 0 [] ∷ [])) (omega arith) dead_end_cases (refl, (refl, tt))

-- a height that the waiting chart cannot have
abbrev pub tall_cases : List Case
tall_cases =
    case [] [] [] 0 0 (refused 9 0) ∷
    []

pub tall_holds : AllByRecursion (Holds (record { height = 30; vertices = [] })) tall_cases
unfolding owner_of colour_of degree_of target_of cost_of waiting
tall_holds = all_hold (record { height = 30; vertices = [] }) (omega arith) tall_cases (refl, tt)

-- A chart is settled by marks and a bound: a claim with those marks and that bound is accepted, and the vertices marked are the held
-- ones.
pub record Settled (a : Arena) (marks : List ℕ) (bound : ℕ) : Type 0 where
  pub plan : List ℕ
  pub counterplay : List ℕ
  pub accepted : ClaimAccepted a (record { marks = marks; plan = plan; counterplay = counterplay }) bound
  pub held : (v : ℕ) → v < size a → get_or marks v 0 ≡ 1 → Held a v
  pub lost : (v : ℕ) → v < size a → ¬ (get_or marks v 0 ≡ 1) → ¬ Held a v

settled : (a : Arena) → Ranged a → (marks plan counterplay : List ℕ) (bound : ℕ) →
    ClaimAccepted a (record { marks = marks; plan = plan; counterplay = counterplay }) bound → Settled a marks bound
settled a r marks plan counterplay bound c =
    let d = marks_the_held a r (record { marks = marks; plan = plan; counterplay = counterplay }) bound c in
    record { plan = plan; counterplay = counterplay; accepted = c; held = λ v h e. (d v h).0 (h, e); lost = λ v h n k. n ((d v h).1 k).1 }

-- each worked chart
pub empty_settled : Settled empty [] 0
empty_settled = settled empty (omega arith) [] [] [] 0 (0, (0, 0), empty_holds.0)

pub answered_settled : Settled answered (1 ∷ 1 ∷ []) 3
answered_settled = settled answered (omega arith) (1 ∷ 1 ∷ []) (0 ∷ 0 ∷ []) (blanks 10) 3 (240, (2, 3), answered_holds.0)

pub waiting_free_settled : Settled waiting_free (1 ∷ 1 ∷ []) 1
waiting_free_settled = settled waiting_free (omega arith) (1 ∷ 1 ∷ []) (0 ∷ 0 ∷ []) (blanks 10) 1 (240, (2, 1), waiting_free_holds.0)

pub waiting_dear_settled : Settled waiting_dear (0 ∷ 1 ∷ []) 0
waiting_dear_settled = settled waiting_dear (omega arith) (0 ∷ 1 ∷ []) (none ∷ 0 ∷ []) (blanks 10) 0 (240, (1, 0), waiting_dear_holds.0)

pub asked_again_settled : Settled asked_again (0 ∷ 0 ∷ []) 0
asked_again_settled = settled asked_again (omega arith) (0 ∷ 0 ∷ []) (none ∷ none ∷ []) (set (blanks 10) 1 0) 0 (240, (0, 0), asked_again_holds.0)

pub put_off_settled : Settled put_off (1 ∷ 1 ∷ 1 ∷ []) 3
put_off_settled = settled put_off (omega arith) (1 ∷ 1 ∷ 1 ∷ []) (0 ∷ none ∷ 0 ∷ []) (blanks 15) 3 (360, (3, 3), put_off_holds.0)

pub put_off_dear_settled : Settled put_off_dear (0 ∷ 0 ∷ 0 ∷ []) 0
put_off_dear_settled =
    settled put_off_dear (omega arith) (0 ∷ 0 ∷ 0 ∷ []) (none ∷ none ∷ none ∷ []) (set (set (blanks 15) 5 1) 6 0) 0 (360, (0, 0), put_off_dear_holds.0)

pub dear_answer_settled : Settled dear_answer (1 ∷ 1 ∷ 1 ∷ []) 7
dear_answer_settled = settled dear_answer (omega arith) (1 ∷ 1 ∷ 1 ∷ []) (none ∷ 0 ∷ 0 ∷ []) (blanks 15) 7 (360, (3, 7), dear_answer_holds.0)
