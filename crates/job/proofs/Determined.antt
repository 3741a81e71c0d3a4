-- The two contracts admit one result each, and one content of the lent slice. Assumes nothing.
use mathlib.Core.Path.{◌≡◌, refl, sym, ap, ◌∙◌}
use mathlib.Core.Bool.{cond}
use mathlib.Core.List.{List}
use Prim.Native.Nat.{ℕ}
use lib.Dec.{eqb}
use Rattle.laws.proofs.Determined.{undone}
use Rattle.board.specs.Handed.{Handed}
use Rattle.refusals.specs.declared.JobRefusal.{JobRefusal}
use Rattle.std.specs.Prelude.{Result, Ok, Err}
use Rattle.job.specs.declared.Sides as given
use Rattle.job.specs.declared.BoardRefusal.{BoardRefusal}
use Rattle.job.specs.declared.BoardRefusal.TheVariants as unread
use Rattle.job.specs.declared.NetRefusal.{NetRefusal}
use Rattle.job.specs.declared.NetRefusal.TheVariants as unfound
use Rattle.kinds.specs.declared.Net as kinds-given
use Rattle.kinds.specs.Job.{Net}
use Rattle.job.specs.Answers.{Sides, handed_board, handed_net, net_row, BoardRead}
use Rattle.refusals.proofs.Refusing.{refusal_of, listed, not_own}

-- the answer that hands this back
board_of : Handed Sides → Result given.Sides BoardRefusal
board_of h =
    let v = h.values in
    cond (eqb h.number 0) (Ok (record { width = v.width; height = v.height; nets = v.nets }))
    (Err (cond (eqb h.number 19) unread.Short (unread.Job (refusal_of h.number h.place h.second))))

net_of : Handed Net → Result kinds-given.Net NetRefusal
net_of h =
    let v = h.values in
    cond (eqb h.number 0) (Ok (record { number = v.number; sx = v.sx; sy = v.sy; gx = v.gx; gy = v.gy }))
    (Err (cond (eqb h.number 20) unfound.NoNet (unfound.Job (refusal_of h.number h.place h.second))))

board_back : (r : Result given.Sides BoardRefusal) → board_of (handed_board r) ≡ r
unfolding board_of
board_back (Ok s) = refl
board_back (Err (unread.Job why)) =
    let k = listed why in rw (k.row_is, not_own k 0 refl, not_own k 19 refl) (ap (λ (w : JobRefusal). Err (unread.Job w)) k.back)
board_back (Err unread.Short) = refl

net_back : (r : Result kinds-given.Net NetRefusal) → net_of (handed_net r) ≡ r
unfolding net_of
net_back (Ok n) = refl
net_back (Err (unfound.Job why)) =
    let k = listed why in rw (k.row_is, not_own k 0 refl, not_own k 20 refl) (ap (λ (w : JobRefusal). Err (unfound.Job w)) k.back)
net_back (Err unfound.NoNet) = refl

-- of `read_board`: the answer and what the slice holds
pub board_determined : {job before : List ℕ} {r s : Result given.Sides BoardRefusal} {after after' : List ℕ}
    → BoardRead job before (handed_board r) after → BoardRead job before (handed_board s) after' → (r ≡ s) × (after ≡ after')
board_determined p q = (undone handed_board board_of board_back p.row_is q.row_is, p.after_is ∙ sym q.after_is)

-- of `read_net`
pub net_determined : (job : List ℕ) (index : ℕ) {r s : Result kinds-given.Net NetRefusal}
    → handed_net r ≡ net_row job index → handed_net s ≡ net_row job index → r ≡ s
net_determined job index p q = undone handed_net net_of net_back p q
