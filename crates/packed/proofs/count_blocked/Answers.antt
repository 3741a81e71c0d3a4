use mathlib.Core.Path.{refl, sym}
use Rattle.std.proofs.lemmas.Result.{err_from_is_err_and}
use Rattle.packed.specs.Answers.{no_count, count_row}
use Rattle.filling.proofs.Checking.{packed_known, packed_refuses}
use Rattle.bits.proofs.Rows.{bytes_few}
use Rattle.bits.proofs.Counting.{bits_blocked}
use Rattle.packed.proofs.Answering.{refused_alike}
use Rattle.packed.proofs.count_blocked.Goals as goal

pub returns-in_err-check_packed : goal.returns-in_err-check_packed
unfolding count_row
returns-in_err-check_packed c =
    let p = err_from_is_err_and c.from_residual.result c.from_residual.ensures.1 in
    rw (p.1, p.2) (refused_alike no_count _ _ (packed_refuses c.in_err-check_packed.field-0.0) c.in_err-check_packed.ensures)

pub count_bits-requires : goal.count_bits-requires
count_bits-requires c =
    let k = (packed_known _ _ _ (sym c.in_ok-check_packed.ensures)).sized in
    rw k.full (bytes_few c.args.width c.args.height refl k.sides)

pub returns : goal.returns
unfolding count_row
returns c =
    let a = c.args in
    let k = packed_known _ _ _ (sym c.in_ok-check_packed.ensures) in
    rw (← c.in_ok-check_packed.ensures, c.count_bits.ensures, bits_blocked a.packed.now a.width a.height k.sized.sides.wide k.sized.full k.clean)
