use mathlib.Core.Path.{sym, ap}
use Prim.Native.Nat.{ℕ, ◌*◌, ◌<◌, ◌≤◌}
use native.Mathlib.Omega.{arith}
use lib.ListN.{length}
use Rattle.std.proofs.lemmas.Result.{err_from_is_err_and}
use Rattle.bits.specs.Packed.{packed_bytes, byte_from}
use Rattle.packed.specs.Answers.{write_rows}
use Rattle.bits.proofs.Entries.{entries_length}
use Rattle.bits.proofs.Rows.{bytes_few}
use Rattle.packed.proofs.Answering.{board_sides, board_full, board_bits, board_refuses}
use Rattle.packed.proofs.Answering.{wrote_kept, wrote_short, wrote_done}
use Rattle.packed.proofs.write_packed.Goals as goal

pub returns-in_err-check_board : goal.returns-in_err-check_board
unfolding write_rows
returns-in_err-check_board c =
    let p = err_from_is_err_and c.from_residual.result c.from_residual.ensures.1 in
    rw (p.1, p.2) (wrote_kept _ _ _ (board_refuses c.in_err-check_board.field-0.0) _ c.in_err-check_board.ensures)

pub overflow_mul-row_bytes : goal.overflow_mul-row_bytes
overflow_mul-row_bytes c =
    omega (arith, bytes_few c.args.width c.args.height c.row_bytes.ensures (board_sides _ (sym c.in_ok-check_board.ensures)))

pub returns-then-packed-row_bytes : goal.returns-then-packed-row_bytes
unfolding write_rows
returns-then-packed-row_bytes c =
    let a = c.args in
    let needed = ap (λ (d : ℕ). d * a.height) c.row_bytes.ensures in
    let short : length a.packed.now < packed_bytes a.width a.height = omega (arith, c.if-packed-row_bytes.true, needed) in
    wrote_short _ _ (sym c.in_ok-check_board.ensures) _ _ 21 short

pub pack-requires : goal.pack-requires
pack-requires c =
    let pass = sym c.in_ok-check_board.ensures in
    let needed = ap (λ (d : ℕ). d * c.args.height) c.row_bytes.ensures in
    record {
      bits = board_bits _ pass;
      sides = (board_sides _ pass, board_full _ pass);
      height_in_bounds = omega (arith, c.if-packed-row_bytes.false, needed);
    }

pub returns : goal.returns
unfolding write_rows
returns c =
    let a = c.args in
    let needed = ap (λ (d : ℕ). d * a.height) c.row_bytes.ensures in
    let room : packed_bytes a.width a.height ≤ length a.packed.now = omega (arith, c.if-packed-row_bytes.false, needed) in
    wrote_done _ _ (sym c.in_ok-check_board.ensures) _ _ 21 room (entries_length (byte_from a.cells.now a.width) _) c.pack.ensures
