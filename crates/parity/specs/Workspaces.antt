-- What a workspace of the solver shows, and what no step of the solver changes of it.
use Rattle.std.specs.Prelude.{◌≡◌}
use Rattle.parity.specs.Boards.{Board}
use Rattle.parity.specs.Sheets.{Sheet, sheet}
use Rattle.parity.specs.declared.ParityGame.{Ghosts}
use Rattle.parity.specs.declared.workspace.Workspace.{Workspace}

module _ {G : Type 0} {g : Ghosts G} where
  -- The game that is solved there.
  abbrev pub board_of : Workspace G g → Board
  board_of w = g.board w.game.now

  -- What its tables hold.
  abbrev pub sheet_of : Workspace G g → Sheet
  sheet_of w = sheet w.tags.now w.winners.now w.moves.now

  -- It is the same game, and the same tables of the caller's: only what they hold may have changed.
  pub record Same (a b : Workspace G g) : Type 0 where
    pub board : board_of b ≡ board_of a
    pub tags : b.tags.ghost_name ≡ a.tags.ghost_name
    pub winners : b.winners.ghost_name ≡ a.winners.ghost_name
    pub moves : b.moves.ghost_name ≡ a.moves.ghost_name
