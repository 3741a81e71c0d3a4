-- The contract of the check admits one result, and one content of the lent slices. Assumes nothing.
use Prim.Native.Nat.{ℕ}
use mathlib.Core.Path.{◌≡◌, refl, sym, ap, ◌∙◌}
use mathlib.Core.Bool.{Bool, cond}
use mathlib.Core.List.{List}
use lib.Dec.{eqb}
use Rattle.board.specs.Handed.{Handed}
use Rattle.std.specs.Prelude.{Result, Ok, Err}
use Rattle.refusals.specs.declared.JobRefusal.{JobRefusal}
use Rattle.refusals.proofs.Refusing.{refusal_of, listed}
use Rattle.tracks.specs.declared.RouteRefusal.{RouteRefusal}
use Rattle.tracks.specs.declared.RouteRefusal.TheVariants as route-refusal
use Rattle.bureau.specs.declared.CheckRefusal.{CheckRefusal}
use Rattle.bureau.specs.declared.CheckRefusal.TheVariants as said
use Rattle.bureau.specs.Answers.{Nets, handed_check, is_jobs, Slices, Checked}

-- the file's refusal with this number and these places
route_refusal_of : (number place second : ℕ) → RouteRefusal
route_refusal_of number place second =
    cond (eqb number 11) route-refusal.Uneven
    (cond (eqb number 13) (route-refusal.Unknown place)
    (cond (eqb number 23) (route-refusal.Unused place second) (route-refusal.Order place)))

-- what the contract says of an answer
pub record Said : Type 0 where
  pub handed : Handed Nets
  pub jobs : Bool

said_of : Result ℕ CheckRefusal → Said
said_of r = record { handed = handed_check r; jobs = is_jobs r }

-- the refusal with this number and these places that is not the job's
refusal_with : (number place second : ℕ) → CheckRefusal
refusal_with number place second =
    cond (eqb number 19) said.Board
    (cond (eqb number 6) said.Work
    (cond (eqb number 21) said.Results
    (cond (eqb number 24) (said.Odd place)
    (cond (eqb number 25) (said.End place)
    (cond (eqb number 26) (said.Off place second)
    (cond (eqb number 27) (said.Leg place second)
    (cond (eqb number 28) (said.Path place) (said.Routes (route_refusal_of number place second)))))))))

-- the answer of which it says this
answer_of : Said → Result ℕ CheckRefusal
answer_of s =
    let h = s.handed in
    cond s.jobs (Err (said.Job (refusal_of h.number h.place h.second)))
    (cond (eqb h.number 0) (Ok h.values.nets) (Err (refusal_with h.number h.place h.second)))

answer_back : (r : Result ℕ CheckRefusal) → answer_of (said_of r) ≡ r
unfolding answer_of said_of refusal_with route_refusal_of
answer_back (Ok n) = refl
answer_back (Err (said.Job why)) = let k = listed why in rw k.row_is (ap (λ (w : JobRefusal). Err (said.Job w)) k.back)
answer_back (Err (said.Routes route-refusal.Uneven)) = refl
answer_back (Err (said.Routes (route-refusal.Unknown i))) = refl
answer_back (Err (said.Routes (route-refusal.Unused i k))) = refl
answer_back (Err (said.Routes (route-refusal.Order i))) = refl
answer_back (Err said.Board) = refl
answer_back (Err said.Work) = refl
answer_back (Err said.Results) = refl
answer_back (Err (said.Odd net)) = refl
answer_back (Err (said.End net)) = refl
answer_back (Err (said.Off net place)) = refl
answer_back (Err (said.Leg net place)) = refl
answer_back (Err (said.Path net)) = refl

-- of the check: the answer and what the slices hold
pub check_determined : (job file : List ℕ) (before : Slices) {r s : Result ℕ CheckRefusal} {after after' : Slices} → Checked job file before after r
    → Checked job file before after' s → (r ≡ s) × (after ≡ after')
unfolding said_of
check_determined job file before {r} {s} p q =
    let same : said_of r ≡ said_of s = both (p.row_is ∙ sym q.row_is) (p.job_is ∙ sym q.job_is) in
    (sym (answer_back r) ∙ ap answer_of same ∙ answer_back s, p.after_is ∙ sym q.after_is)
  where
    both : {h h' : Handed Nets} {j j' : Bool} → h ≡ h' → j ≡ j'
        → ◌≡◌ {A = Said} (record { handed = h; jobs = j }) (record { handed = h'; jobs = j' })
    both e f = rw (e, f)
