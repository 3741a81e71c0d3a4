use Rattle.std.proofs.Common.{sym, arith}
use Rattle.spans.proofs.Legs.{small_fits}
use Rattle.std.proofs.lemmas.Int.{to_z-of_z}
use Rattle.direction.proofs.Answers.{aim_equal, aim_of, divisor}
use Rattle.direction.proofs.aim.Goals as goal

pub returns-then-has_equal_ends : goal.returns-then-has_equal_ends
returns-then-has_equal_ends c = aim_equal _ _ (sym c.if-has_equal_ends.ensures)

pub ratio-x-requires : goal.ratio-x-requires
ratio-x-requires c =
    let s = c.args.span in
    let f = small_fits s.dx s.dx_small in
    let g = small_fits s.dy s.dy_small in
    let d = divisor s.dx s.dy (sym c.if-has_equal_ends.ensures) s.dx_small s.dy_small c.from-u.ensures in
    simp to_z-of_z (omega arith, d.0, d.1)

pub ratio-y-requires : goal.ratio-y-requires
ratio-y-requires c =
    let s = c.args.span in
    let f = small_fits s.dx s.dx_small in
    let g = small_fits s.dy s.dy_small in
    let d = divisor s.dx s.dy (sym c.if-has_equal_ends.ensures) s.dx_small s.dy_small c.from-u.ensures in
    simp to_z-of_z (omega arith, d.0, d.1)

pub returns : goal.returns
returns c =
    let s = c.args.span in
    let f = small_fits s.dx s.dx_small in
    let g = small_fits s.dy s.dy_small in
    rw (simp to_z-of_z at c.ratio-x.ensures, simp to_z-of_z at c.ratio-y.ensures, c.from-u.ensures) (aim_of s.dx s.dy (sym c.if-has_equal_ends.ensures))
