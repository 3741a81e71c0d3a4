-- The groups of a board: each leaf has a node, and the vertices of a leaf are a strip of a row. Assumes nothing.
use mathlib.Core.Path.{◌≡◌, refl, ap, ◌∙◌}
use mathlib.Core.List.{List}
use Prim.Native.Nat.{ℕ, ◌+◌, ◌-◌, ◌*◌, ◌/◌, ◌^◌, ◌≤◌, ◌<◌}
use native.Mathlib.Nat.{mul-le-mul, mul-le-mul_left}
use native.Mathlib.Omega.{arith}
use native.Mathlib.Decide.{dec_lt}
use Rattle.board.specs.Limits.{largest_side}
use Rattle.board.specs.Board.{number_of, column_of, row_of}
use Rattle.board.proofs.Numbers.{column_number, row_number, number_back, column_on, row_on}
use Rattle.theta.specs.Order.{Contest}
use Rattle.tournament.specs.Contest.{Between}
use Rattle.tournament.specs.Tournament.{Planted, of_leaf, Tournament}
use Rattle.tournament.specs.Nodes.{Room}
use Rattle.open.specs.Groups.{group, per_row, group_start, group_end, leaf_at, groups_of, nodes_of}

-- a place in rows of p each is in one row, and there in one column
one_place : (p a b c d : ℕ) → b < p → d < p → p * a + b ≡ p * c + d → (a ≡ c) × (b ≡ d)
one_place p a b c d x y e = go (dec_lt a c) (dec_lt c a)
  where
    go : Dec (a < c) → Dec (c < a) → (a ≡ c) × (b ≡ d)
    go (yes l) t = absurd (let k : a + 1 ≤ c = omega arith in omega (arith, mul-le-mul_left p k))
    go (no l) (yes t) = absurd (let k : c + 1 ≤ a = omega arith in omega (arith, mul-le-mul_left p k))
    go (no l) (no t) = let z : a ≡ c = omega arith in (z, same z)
      where
        same : a ≡ c → b ≡ d
        same z = let q : p * a ≡ p * c = rw z refl in omega arith

-- a group of a row is one of its row's
in_row : (width x : ℕ) → x ≤ width → x / group < per_row width
in_row width x l = omega arith

-- the nodes of a board are no more than those of a square one whose side is no less
pub nodes_fit : {width height : ℕ} (side : ℕ) → width ≤ side → height ≤ side → nodes_of width height ≤ 2 * (side + 1) * per_row side
nodes_fit {width} {height} side w h =
    let p : per_row width ≤ per_row side = omega arith in
    let q : height + 1 ≤ side + 1 = omega arith in
    omega (arith, mul-le-mul p q)

module _ (width height : ℕ) where
  -- a leaf is a node of the second half
  leaf_high : (x y : ℕ) → x ≤ width → y ≤ height → leaf_at width height x y < nodes_of width height
  leaf_high x y a b =
      let k : y + 1 ≤ height + 1 = omega arith in
      omega (arith, in_row width x a, mul-le-mul_left (per_row width) k)

  pub planted : Planted (groups_of width height) ((width + 1) * (height + 1))
  planted = record {
    low = λ v l. omega arith;
    high = λ v l. leaf_high (column_of width v) (row_of width v) (column_on width v) (row_on width height v l);
  }

  pub leaves_positive : 0 < per_row width * (height + 1)
  leaves_positive = omega arith

  pub leaf_number : (x y : ℕ) → x ≤ width → (groups_of width height).leaf (number_of width x y) ≡ leaf_at width height x y
  leaf_number x y a = rw (column_number width x y a, row_number width x y a) refl

  module _ (narrow : width ≤ largest_side) (low : height ≤ largest_side) where
    -- no leaf's number is large
    pub leaf_small : (x y : ℕ) → x ≤ width → y ≤ height → leaf_at width height x y < 2 ^ 60
    leaf_small x y a b = omega (arith, leaf_high x y a b, nodes_fit largest_side narrow low)

    -- in a tournament there is room for a leaf, and for the root
    module _ {C : Contest} {leads keys : List ℕ} (T : Tournament (groups_of width height) C leads keys) where
      pub leaf_room : (x y : ℕ) → x ≤ width → y ≤ height → Room (leaf_at width height x y) leads keys
      leaf_room x y a b =
          let h = leaf_high x y a b in
          let l = T.room_l in
          let k = T.room_k in
          record {
            few = leaf_small x y a b;
            room_l = omega arith;
            room_k = omega arith;
          }

      pub root_room : Room 1 leads keys
      root_room =
          let p = leaves_positive in
          record { few = omega arith; room_l = omega (arith, T.room_l); room_k = omega (arith, T.room_k) }

  module _ (x y : ℕ) (a : x ≤ width) (b : y ≤ height) where
    -- a vertex of the leaf is one of the strip
    pub leaf_strip : (v : ℕ) → of_leaf (groups_of width height) (leaf_at width height x y) v
        → Between (y * (width + 1) + group_start x) (y * (width + 1) + group_end width x) v
    leaf_strip v e =
        let c = column_of width v in
        let r = row_of width v in
        let q : per_row width * r + c / group ≡ per_row width * y + x / group = omega arith in
        let o = one_place (per_row width) r (c / group) y (x / group) (in_row width c (column_on width v)) (in_row width x a) q in
        let back : y * (width + 1) + c ≡ v = rw (← o.0) (number_back width v) in
        let same : c / group ≡ x / group = o.1 in
        let low : x / group * group ≤ c = omega arith in
        let high : c < x / group * group + group = omega arith in
        let wide = column_on width v in
        record { low = omega arith; high = omega arith }

    pub strip_leaf : (v : ℕ) → Between (y * (width + 1) + group_start x) (y * (width + 1) + group_end width x) v
        → of_leaf (groups_of width height) (leaf_at width height x y) v
    strip_leaf v t =
        let c = v - y * (width + 1) in
        let l = t.low in
        let h = t.high in
        let e : number_of width c y ≡ v = omega arith in
        let on : c ≤ width = omega arith in
        let same : c / group ≡ x / group = omega arith in
        rw (← e) (leaf_number c y on ∙ ap (λ (z : ℕ). per_row width * (height + 1) + per_row width * y + z) same)

    -- the strip is on the board
    pub strip_on : y * (width + 1) + group_end width x ≤ (width + 1) * (height + 1)
    strip_on =
        let k : y + 1 ≤ height + 1 = omega arith in
        omega (arith, mul-le-mul_left (width + 1) k)
