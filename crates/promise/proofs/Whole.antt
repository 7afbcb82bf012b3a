-- The main promise, from the rules of acceptance and from what solve may leave.
use Rattle.std.proofs.Common.{◌≡◌, ◌↔◌, [], sym, subst, arith}
use Rattle.drawn.specs.Rules.{blank}
use Rattle.promise.specs.Solving.{Solved}
use Rattle.promise.specs.Sheets.{after_calls, plain_sheet}
use Rattle.promise.specs.Promise.{EveryVertexMoves, Suffices, WritesAClaim, DrawnChartsAreSolved, NoAcceptedClaimIsBeaten}
use Rattle.promise.proofs.Neat.{sheet_ranged}
use Rattle.promise.proofs.Sheets.{sheet_is, sheet_few, solved_exactly}
use Rattle.promise.proofs.Promised.{plans_hold, counterplays_beat}
use Rattle.promise.proofs.Solvable.{Answered, solvable}

pub drawn_charts_are_solved : DrawnChartsAreSolved
drawn_charts_are_solved cs =
    let e : after_calls blank cs ≡ plain_sheet cs = sheet_is [] cs in
    let f = sheet_few [] cs (omega arith) in
    record {
      chart = e;
      answers = λ before room. subst (λ a. Answered a before room) (sym e) (solvable (plain_sheet cs) (sheet_ranged cs) before room);
      solved = λ before after room o s.
          subst (λ a. WritesAClaim a after room o ↔ (EveryVertexMoves (plain_sheet cs) × Suffices (plain_sheet cs) before room)) (sym e)
          (solved_exactly (plain_sheet cs) (omega arith) (omega arith) before after room o (subst (λ a. Solved a before after room o) e s));
    }

pub no_accepted_claim_is_beaten : NoAcceptedClaimIsBeaten
no_accepted_claim_is_beaten = record { plans = plans_hold; counterplays = counterplays_beat; drawn = drawn_charts_are_solved }
