-- A checked board as the definitions have it. No public contract cites it, so nobody need believe this.
use Rattle.board.specs.Board as definition
use Rattle.board.specs.declared.checked.Board.{Board}

abbrev pub board_of : Board → definition.Board
board_of b = definition.board b.cells.now b.width b.height
