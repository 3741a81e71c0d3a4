-- What was handed back for a net, and that its line has room. Assumes nothing.
use Prim.Native.Nat.{ℕ, ◌≤◌}
use mathlib.Core.Path.{◌≡◌, subst}
use mathlib.Core.List.{List}
use native.Mathlib.Omega.{arith}
use lib.ListN.{length, take}
use lib.Seq.{length-take-le}
use Rattle.std.specs.Prelude.{Result, Ok}
use Rattle.board.specs.Handed.{Handed}
use Rattle.answer.specs.declared.Answer.{Answer}
use Rattle.answer.specs.declared.RequestRefusal.{RequestRefusal}
use Rattle.answer.specs.Answers.{Route, handed_route}
use Rattle.lines.specs.Lines.{net_line, none_line}
use Rattle.lines.proofs.Longest.{Small, net_short, none_short}
use Rattle.netroute.specs.Limits.{widest, line_room}
use Rattle.replies.specs.Inner.{Answered}

-- of an answer that is known to be one variant
pub answered_as : {job : List ℕ} {i number w : ℕ} {slice : List ℕ} {r : Result Answer RequestRefusal} {a b : Answer}
    → Answered job i number w (handed_route r) slice → r ≡ Ok a → a ≡ b → Answered job i number w (handed_route (Ok b)) slice
answered_as {job} {i} {number} {w} {slice} A e f =
    subst (λ (x : Answer). Answered job i number w (handed_route (Ok x)) slice) f
    (subst (λ (x : Result Answer RequestRefusal). Answered job i number w (handed_route x) slice) e A)

module _ {job : List ℕ} {i number w : ℕ} {h : Handed Route} {slice : List ℕ} (A : Answered job i number w h slice)
    (small : Small number) (counted : Small h.values.expansions) (tested : Small h.values.tests) where
  pub path_room : h.number ≡ 0 → Small h.values.units
      → length (net_line number h.values.units h.values.expansions h.values.tests w (take h.values.vertices slice))
      ≤ line_room
  path_room z long =
      let size = length-take-le h.values.vertices slice A.room in
      net_short small counted tested widest h.values.units w (take h.values.vertices slice) long
      (record { some = A.some; narrow = A.narrow; low = λ k l. A.low z k (omega (arith, size)) })
      (omega (arith, size, A.few))

  pub none_room : length (none_line number h.values.expansions h.values.tests) ≤ line_room
  none_room = none_short small counted tested widest
