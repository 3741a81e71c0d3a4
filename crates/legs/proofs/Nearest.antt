-- The first stop of a leg is what blocks it nearest to its first end; there is none exactly if nothing blocks it. Assumes nothing.
use Prim.Native.Nat.{ℕ, ◌+◌, ◌*◌, ◌≤◌, ◌<◌, min}
use mathlib.Core.Path.{◌≡◌, refl, sym, ap, ap₂, ◌∙◌, subst}
use mathlib.Core.Logic.{◌⊎◌, inl, inr, ⊎_elim}
use mathlib.Core.Bool.{Bool, true, false, ◌&&◌, true≢false}
use native.Mathlib.Omega.{arith}
use Rattle.laws.proofs.Tests.{order, bool_cases, and_left, and_right, same_test}
use Rattle.board.specs.Board.{Board, blocked}
use Rattle.legs.specs.declared.Stop.{Stop}
use Rattle.legs.specs.declared.Stop.TheVariants.{Clear, Cell, Vertex}
use Rattle.legs.specs.Pinched.{pinched}
use Rattle.legs.specs.Sight.{crossed, strictly_inside, sees}
use Rattle.legs.specs.Leg.{far, vertex_at, cell_at}
use Rattle.legs.specs.Stops.{is_clear, or_else, vertex_stop, cell_stop, place_stop, column_stop, cells_stop, walled, edge_from, edge_stop, corner_stop, step_stop, edges_stop, first_stop}
use Rattle.legs.specs.Nearer.{UnitEdge, Blocks, cell, level, upright, vertex, Point, parts, Nearer, Strictly, Meets, Before, StopsFirst}
use Rattle.legs.specs.Inner.{EndsOn}
use Rattle.legs.proofs.Crossing.{cross_placed, axis_uncrossed}
use Rattle.legs.proofs.Inside.{far_none, inside_out, through_level, through_upright, through_slanted}
use Rattle.legs.proofs.First.{clear_is, neither, either, first_none, Found, first_found, cond_stops, edge_stops, vertex_stops, level_stop, upright_stop, slanted_stop}
use Rattle.legs.proofs.Points.{Gone, Reached, gone_reached, exactly_reached, exactly_out, reached_nearer, exactly_nearer, nearer_asym, cell_gone, crossed_met, inside_met}
use Rattle.legs.proofs.UnitEdges.{edge_low, edge_at, Placed, edge_placed, edge_gone, edge_met, no_unit_edge, none_between}
use Rattle.legs.proofs.Seen.{sees_unblocked, unblocked_sees}

same_or_not : (a b : ℕ) → (a ≡ b) ⊎ (a ≡ b → ⊥)
same_or_not a b =
    ⊎_elim (λ (l : a < b). inr (λ e. omega arith))
    (λ (g : b ≤ a). ⊎_elim (λ (l : b < a). inr (λ e. omega arith)) (λ (h : a ≤ b). inl (omega arith)) (order b a)) (order a b)

apart : (a b : ℕ) → (a ≡ b → ⊥) → 0 < far a b
apart a b n = ⊎_elim (λ (l : far a b < 1). absurd (n (omega arith))) (λ (g : 1 ≤ far a b). g) (order (far a b) 1)

not_clear : {s : Stop} → s ≡ Clear → is_clear s ≡ false → ⊥
not_clear e h = true≢false (sym (ap is_clear e) ∙ h)

-- a stop at a vertex
vertex_blocks : (b : Board) (ax ay bx by x y : ℕ) (t : Stop) → vertex_stop b ax ay bx by x y ≡ t → is_clear t ≡ false
    → Blocks b ax ay bx by t × (Vertex x y ≡ t)
unfolding vertex_stop
vertex_blocks b ax ay bx by x y t e h =
    let i : Bool = strictly_inside ax ay bx by x y in
    let w : Bool = pinched b x y in
    let (both, f) = cond_stops (i && w) (Vertex x y) t e h in
    (subst (Blocks b ax ay bx by) f (vertex (and_left i w both) (and_right i w both)), f)

-- ---- n steps, at each a vertex and then a piece of the leg behind it, which may stop it

module _ (n : ℕ) (corner piece : ℕ → Stop) where
  -- what is one of the two at the step k
  pub record Here (t : Stop) : Type 0 where
    pub k : ℕ
    pub k_in : k < n
    pub stops : is_clear t ≡ false
    pub one : (corner k ≡ t) ⊎ (piece k ≡ t)

  -- is not there where both are clear
  clear_not_here : {t : Stop} (h : Here t) → or_else (corner h.k) (piece h.k) ≡ Clear → ⊥
  clear_not_here h e =
      let (c, p) = neither (corner h.k) (piece h.k) e in
      ⊎_elim (λ f. not_clear (sym f ∙ c) h.stops) (λ f. not_clear (sym f ∙ p) h.stops) h.one

  first_here : {s : Stop} → Found n (λ (u : ℕ). or_else (corner u) (piece u)) s → is_clear s ≡ false → Here s
  first_here {s} f h =
      record {
        k = f.place;
        k_in = f.below;
        stops = h;
        one = ⊎_elim inl (λ e. inr e.1) (either (corner f.place) (piece f.place) s f.here);
      }

  -- the leg has gone just k steps at the vertex, and more than k and fewer than k + 1 at the piece
  module _ (Meet : Point → Stop → Type 0)
      (at-corner : (k : ℕ) → k < n → (t : Stop) → corner k ≡ t → is_clear t ≡ false → (x : Point) → Meet x t
      → n * x.before ≡ k * parts x)
      (at_piece : (k : ℕ) → k < n → (t : Stop) → piece k ≡ t → is_clear t ≡ false → (x : Point) → Meet x t → Gone n k x) where
    here_reached : {t : Stop} (h : Here t) (x : Point) → Meet x t → Reached n h.k x
    here_reached h x m =
        ⊎_elim (λ e. exactly_reached x (at-corner h.k h.k_in _ e h.stops x m))
        (λ e. gone_reached (at_piece h.k h.k_in _ e h.stops x m)) h.one

    -- so the first comes before any other
    first_nearest : {s t : Stop} (f : Found n (λ (u : ℕ). or_else (corner u) (piece u)) s) → is_clear s ≡ false → Here t
        → (t ≡ s) ⊎ ((x y : Point) → Meet x s → Meet y t → Nearer x y)
    unfolding first_here
    first_nearest {s} {t} f stops h =
        ⊎_elim
        (λ (l : f.place < h.k). inr (λ x y m o. reached_nearer (here_reached (first_here f stops) x m) (here_reached h y o) l))
        (λ (g : h.k ≤ f.place). ⊎_elim
        (λ (l : h.k < f.place). absurd (clear_not_here h (f.past h.k l)))
        (λ (l : f.place ≤ h.k). same (omega arith))
        (order h.k f.place))
        (order f.place h.k)
      where
        -- at one step, the vertex before the piece
        same : f.place ≡ h.k → (t ≡ s) ⊎ ((x y : Point) → Meet x s → Meet y t → Nearer x y)
        same e =
            let here : or_else (corner h.k) (piece h.k) ≡ s = rw (← e) f.here in
            ⊎_elim
            (λ c. ⊎_elim (λ d. inl (sym d ∙ c))
            (λ d. inr (λ x y m o.
            exactly_nearer x (at-corner h.k h.k_in s c stops x m) (at_piece h.k h.k_in t d h.stops y o))) h.one)
            (λ c. ⊎_elim (λ d. absurd (not_clear (sym d ∙ c.0) h.stops)) (λ d. inl (sym d ∙ c.1)) h.one)
            (either (corner h.k) (piece h.k) s here)

-- ---- a leg on the row c from column p to q, or on the column c from row p to q

module _ (b : Board) (c p q : ℕ) where
  abbrev OfLeg : (row : Bool) → (ℕ → ℕ → ℕ → ℕ → Type 0) → Type 0
  OfLeg true F = F p c q c
  OfLeg false F = F c p c q

  abbrev MeetsOn : (row : Bool) → Point → Stop → Type 0
  MeetsOn row x t = OfLeg row (λ (ax ay bx by : ℕ). Meets ax ay bx by x t)

  abbrev BlocksOn : (row : Bool) → Stop → Type 0
  BlocksOn row t = OfLeg row (λ (ax ay bx by : ℕ). Blocks b ax ay bx by t)

  abbrev HereOn : (row : Bool) → Stop → Type 0
  HereOn row t = Here (far p q) (corner_stop b row c p q) (edge_stop b row c p q) t

  -- the vertex k steps from the first end: it blocks the leg, and its point has gone just k steps
  corner_blocks : (row : Bool) (k : ℕ) (t : Stop) → corner_stop b row c p q k ≡ t → is_clear t ≡ false → BlocksOn row t
  unfolding corner_stop
  corner_blocks true k t e h = (vertex_blocks b p c q c (vertex_at p q k) c t e h).0
  corner_blocks false k t e h = (vertex_blocks b c p c q c (vertex_at p q k) t e h).0

  corner_exactly : (row : Bool) (k : ℕ) → k < far p q → (t : Stop) → corner_stop b row c p q k ≡ t → is_clear t ≡ false
      → (x : Point) → MeetsOn row x t → far p q * x.before ≡ k * parts x
  unfolding corner_stop
  corner_exactly true k l t e h x m =
      exactly_out p q k (omega arith) x (subst (Meets p c q c x) (sym (vertex_blocks b p c q c (vertex_at p q k) c t e h).1) m).0
  corner_exactly false k l t e h x m =
      exactly_out p q k (omega arith) x (subst (Meets c p c q x) (sym (vertex_blocks b c p c q c (vertex_at p q k) t e h).1) m).1

  -- and the edge behind it: its points have gone more than k steps
  edge_parts : (row : Bool) (k : ℕ) (t : Stop) → edge_stop b row c p q k ≡ t → is_clear t ≡ false
      → (walled b row c (cell_at p q k) ≡ true) × (edge_from row c (vertex_at p q k) (vertex_at p q (k + 1)) ≡ t)
  unfolding edge_stop
  edge_parts row k t e h = cond_stops (walled b row c (cell_at p q k)) _ t e h

  edge_blocks : (row : Bool) (k : ℕ) → k < far p q → (t : Stop) → edge_stop b row c p q k ≡ t → is_clear t ≡ false → BlocksOn row t
  unfolding edge_from walled
  edge_blocks true k l t e h =
      let (w, f) = edge_parts true k t e h in
      subst (Blocks b p c q c) f (level refl (edge_at p q k l) (rw (edge_low p q k l) w))
  edge_blocks false k l t e h =
      let (w, f) = edge_parts false k t e h in
      subst (Blocks b c p c q) f (upright refl (edge_at p q k l) (rw (edge_low p q k l) w))

  edge_met_on : (row : Bool) (x₁ x₂ : ℕ) (x : Point) → MeetsOn row x (edge_from row c x₁ x₂) → Strictly p q x₁ x₂ x
  unfolding edge_from
  edge_met_on true x₁ x₂ x h = ⊎_elim (λ k. k) (λ k. absurd (none_between c c c x k)) h
  edge_met_on false x₁ x₂ x h = ⊎_elim (λ k. absurd (none_between c c c x k)) (λ k. k) h

  edge_gone_on : (row : Bool) (k : ℕ) → k < far p q → (t : Stop) → edge_stop b row c p q k ≡ t → is_clear t ≡ false
      → (x : Point) → MeetsOn row x t → Gone (far p q) k x
  edge_gone_on row k l t e h x m =
      let (w, f) = edge_parts row k t e h in
      let here : Placed p q (vertex_at p q k) (vertex_at p q (k + 1)) =
      record { steps = k; steps_in = l; low_is = sym (edge_low p q k l); first_is = refl; second_is = refl } in
      edge_gone (edge_at p q k l) here x (edge_met_on row _ _ x (subst (MeetsOn row x) (sym f) m))

  -- whatever blocks the leg is one of the two at some step
  edge_here : (row : Bool) {x y : ℕ} → UnitEdge p q x y → walled b row c (min x y) ≡ true → HereOn row (edge_from row c x y)
  unfolding edge_stop
  edge_here row {x} {y} e w =
      let o = edge_placed p q x y e in
      let shut : walled b row c (cell_at p q o.steps) ≡ true = rw o.low_is w in
      record {
        k = o.steps;
        k_in = o.steps_in;
        stops = edge_stops row c x y;
        one = inr (rw shut (ap₂ (edge_from row c) o.first_is o.second_is));
      }

  blocks_here : (row : Bool) (t : Stop) → BlocksOn row t → HereOn row t
  unfolding walled edge_from corner_stop
  blocks_here true _ (cell x w) = absurd (axis_uncrossed p c q c _ _ (inr refl) x)
  blocks_here true _ (level e edge w) = edge_here true edge w
  blocks_here true _ (upright e edge w) = absurd (no_unit_edge c c _ _ refl edge)
  blocks_here true _ (vertex {x} {y} i w) =
      let (t, ex, ey) = inside_out p c q c x y i in
      let (z, l, m) = through_level (omega arith) t in
      let here : vertex_stop b p c q c x c ≡ Vertex x y =
      subst (λ (z : ℕ). vertex_stop b p c q c x z ≡ Vertex x y) (far_none c y z) (vertex_stops b p c q c x y i w) in
      record { k = far p x; k_in = m; stops = refl; one = inl (rw ex here) }
  blocks_here false _ (cell x w) = absurd (axis_uncrossed c p c q _ _ (inl refl) x)
  blocks_here false _ (level e edge w) = absurd (no_unit_edge c c _ _ refl edge)
  blocks_here false _ (upright e edge w) = edge_here false edge w
  blocks_here false _ (vertex {x} {y} i w) =
      let (t, ex, ey) = inside_out c p c q x y i in
      let (z, l, m) = through_upright (omega arith) t in
      let here : vertex_stop b c p c q c y ≡ Vertex x y =
      subst (λ (z : ℕ). vertex_stop b c p c q z y ≡ Vertex x y) (far_none c x z) (vertex_stops b c p c q x y i w) in
      record { k = far p y; k_in = m; stops = refl; one = inl (rw ey here) }

  -- so the first stop is the nearest
  first_on : (row : Bool) (s : Stop) → edges_stop b row c p q ≡ s → is_clear s ≡ false → BlocksOn row s
      × ((t : Stop) → BlocksOn row t → (t ≡ s) ⊎ ((x y : Point) → MeetsOn row x s → MeetsOn row y t → Nearer x y))
  unfolding edges_stop step_stop
  first_on row s d h =
      let f = first_found (far p q) _ s d h in
      let o = first_here (far p q) (corner_stop b row c p q) (edge_stop b row c p q) f h in (
        ⊎_elim (λ e. corner_blocks row o.k s e h) (λ e. edge_blocks row o.k o.k_in s e h) o.one,
        λ t u. first_nearest (far p q) (corner_stop b row c p q) (edge_stop b row c p q) (MeetsOn row) (corner_exactly row)
            (edge_gone_on row) f h (blocks_here row t u),
      )

  -- and where there is none nothing blocks the leg
  none_on : (row : Bool) → edges_stop b row c p q ≡ Clear → (t : Stop) → BlocksOn row t → ⊥
  unfolding edges_stop step_stop
  none_on row d t u =
      let o = blocks_here row t u in
      clear_not_here (far p q) (corner_stop b row c p q) (edge_stop b row c p q) o (first_none (far p q) _ d o.k o.k_in)

-- ---- a leg that is neither: in each of its columns there are rows

module _ (b : Board) (ax ay bx by : ℕ) (n : ay ≡ by → ⊥) (m : ax ≡ bx → ⊥) where
  -- the vertex and the cell u columns and v rows from the first end
  abbrev corner : (u v : ℕ) → Stop
  corner u v = vertex_stop b ax ay bx by (vertex_at ax bx u) (vertex_at ay by v)

  abbrev behind : (u v : ℕ) → Stop
  behind u v = cell_stop b ax ay bx by (cell_at ax bx u) (cell_at ay by v)

  -- what is one of the two there
  abbrev InColumn : ℕ → Stop → Type 0
  InColumn u t = Here (far ay by) (corner u) (behind u) t

  cell_parts : (u v : ℕ) (t : Stop) → behind u v ≡ t → is_clear t ≡ false
      → Blocks b ax ay bx by t × (Cell (cell_at ax bx u) (cell_at ay by v) ≡ t)
  unfolding cell_stop
  cell_parts u v t e h =
      let i : ℕ = cell_at ax bx u in
      let j : ℕ = cell_at ay by v in
      let (w, f) = cond_stops (crossed ax ay bx by i j && blocked b i j) (Cell i j) t e h in
      let x : crossed ax ay bx by i j ≡ true = and_left (crossed ax ay bx by i j) (blocked b i j) w in
      (subst (Blocks b ax ay bx by) f (cell x (and_right (crossed ax ay bx by i j) (blocked b i j) w)), f)

  module _ (u : ℕ) (hu : u < far ax bx) where
    -- its points in columns and in rows
    corner_at : (v : ℕ) → v < far ay by → (t : Stop) → corner u v ≡ t → is_clear t ≡ false → (x : Point) → Meets ax ay bx by x t
        → (far ax bx * x.before ≡ u * parts x) × (far ay by * x.before ≡ v * parts x)
    corner_at v hv t e h x m =
        let f = (vertex_blocks b ax ay bx by (vertex_at ax bx u) (vertex_at ay by v) t e h).1 in
        let (g, k) = subst (Meets ax ay bx by x) (sym f) m in
        (exactly_out ax bx u (omega arith) x g, exactly_out ay by v (omega arith) x k)

    cell_at_lem : (v : ℕ) → v < far ay by → (t : Stop) → behind u v ≡ t → is_clear t ≡ false → (x : Point) → Meets ax ay bx by x t
        → Gone (far ax bx) u x × Gone (far ay by) v x
    cell_at_lem v hv t e h x m =
        let f = (cell_parts u v t e h).1 in
        cell_gone ax ay bx by _ _ u v hu hv refl refl x (subst (Meets ax ay bx by x) (sym f) m)

    column_reached : {t : Stop} → InColumn u t → (x : Point) → Meets ax ay bx by x t → Reached (far ax bx) u x
    column_reached {t} o x m =
        ⊎_elim (λ e. exactly_reached x (corner_at o.k o.k_in t e o.stops x m).0)
        (λ e. gone_reached (cell_at_lem o.k o.k_in t e o.stops x m).0) o.one

  -- whatever blocks the leg is there somewhere
  record Somewhere (t : Stop) : Type 0 where
    u : ℕ
    u_in : u < far ax bx
    there : InColumn u t

  somewhere : (t : Stop) → Blocks b ax ay bx by t → Somewhere t
  unfolding cell_stop
  somewhere _ (cell {i} {j} x w) =
      let ((u, hu, ei), (v, hv, ej)) = cross_placed ax ay bx by i j x in
      record { u = u; u_in = hu; there = record { k = v; k_in = hv; stops = refl; one = inr (rw (ei, ej, x, w)) } }
  somewhere _ (level e edge w) = absurd (n e)
  somewhere _ (upright e edge w) = absurd (m e)
  somewhere _ (vertex {x} {y} i w) =
      let (t, ex, ey) = inside_out ax ay bx by x y i in
      let (_, hu, _, hv) = through_slanted (apart ax bx m) (apart ay by n) t in
      let here : InColumn (far ax x) (Vertex x y) =
      record { k = far ay y; k_in = hv; stops = refl; one = inl (rw (ex, ey) (vertex_stops b ax ay bx by x y i w)) } in
      record { u = far ax x; u_in = hu; there = here }

  -- the first column with a stop, and in it the first row
  module _ {s : Stop} (f : Found (far ax bx) (column_stop b ax ay bx by) s)
      (g : Found (far ay by) (λ (v : ℕ). or_else (corner f.place v) (behind f.place v)) s) (h : is_clear s ≡ false) where
    here : InColumn f.place s
    here = first_here (far ay by) (corner f.place) (behind f.place) g h

    nearest_slanted : (t : Stop) → Blocks b ax ay bx by t → (t ≡ s) ⊎ Before ax ay bx by s t
    unfolding column_stop place_stop
    nearest_slanted t w =
        let o = somewhere t w in
        ⊎_elim
        (λ (l : f.place < o.u).
        inr (λ x y m k.
        reached_nearer (column_reached f.place f.below here x m) (column_reached o.u o.u_in o.there y k) l))
        (λ (g : o.u ≤ f.place). ⊎_elim
        (λ (l : o.u < f.place).
        absurd (clear_not_here (far ay by) (corner o.u) (behind o.u) o.there
        (first_none (far ay by) _ (f.past o.u l) o.there.k o.there.k_in)))
        (λ (l : f.place ≤ o.u).
        let e : o.u ≡ f.place = omega arith in
        in_column t (subst (λ (u : ℕ). InColumn u t) e o.there))
        (order o.u f.place))
        (order f.place o.u)
      where
        in_column : (t : Stop) → InColumn f.place t → (t ≡ s) ⊎ Before ax ay bx by s t
        in_column t o =
            first_nearest (far ay by) (corner f.place) (behind f.place) (Meets ax ay bx by)
            (λ v hv t e k x m. (corner_at f.place f.below v hv t e k x m).1)
            (λ v hv t e k x m. (cell_at_lem f.place f.below v hv t e k x m).1) g h o

    slanted_first : StopsFirst b ax ay bx by s
    slanted_first =
        record {
          blocks =
              ⊎_elim (λ e. (vertex_blocks b ax ay bx by _ _ s e h).0) (λ e. (cell_parts f.place here.k s e h).0) here.one;
          nearest = nearest_slanted;
        }

  first_slanted : (s : Stop) → cells_stop b ax ay bx by ≡ s → is_clear s ≡ false → StopsFirst b ax ay bx by s
  unfolding cells_stop column_stop place_stop
  first_slanted s d h =
      let f = first_found (far ax bx) (column_stop b ax ay bx by) s d h in
      slanted_first f (first_found (far ay by) _ s f.here h) h

  none_slanted : cells_stop b ax ay bx by ≡ Clear → (t : Stop) → Blocks b ax ay bx by t → ⊥
  unfolding cells_stop column_stop place_stop
  none_slanted d t w =
      let o = somewhere t w in
      let column = first_none (far ax bx) _ d o.u o.u_in in
      clear_not_here (far ay by) (corner o.u) (behind o.u) o.there
      (first_none (far ay by) _ column o.there.k o.there.k_in)

-- ---- any leg

module _ (b : Board) (ax ay bx by : ℕ) where
  level_first : ay ≡ by → (s : Stop) → edges_stop b true ay ax bx ≡ s → is_clear s ≡ false → StopsFirst b ax ay bx by s
  level_first e s d h =
      let (blocks, nearest) = first_on b ay ax bx true s d h in
      subst (λ (z : ℕ). StopsFirst b ax ay bx z s) e (record { blocks = blocks; nearest = nearest })

  upright_first : ax ≡ bx → (s : Stop) → edges_stop b false ax ay by ≡ s → is_clear s ≡ false → StopsFirst b ax ay bx by s
  upright_first e s d h =
      let (blocks, nearest) = first_on b ax ay by false s d h in
      subst (λ (z : ℕ). StopsFirst b ax ay z by s) e (record { blocks = blocks; nearest = nearest })

  -- the first stop blocks the leg, nearest to its first end
  pub stop_first : (s : Stop) → first_stop b ax ay bx by ≡ s → is_clear s ≡ false → StopsFirst b ax ay bx by s
  stop_first s d h =
      ⊎_elim (λ (e : ay ≡ by). level_first e s (sym (level_stop b ax ay bx by e) ∙ d) h)
      (λ (n : ay ≡ by → ⊥). ⊎_elim (λ (e : ax ≡ bx). upright_first e s (sym (upright_stop b ax ay bx by n e) ∙ d) h)
      (λ (m : ax ≡ bx → ⊥). first_slanted b ax ay bx by n m s (sym (slanted_stop b ax ay bx by n m) ∙ d) h) (same_or_not ax bx))
      (same_or_not ay by)

  -- where there is none nothing blocks it
  pub clear_unblocked : first_stop b ax ay bx by ≡ Clear → (t : Stop) → Blocks b ax ay bx by t → ⊥
  clear_unblocked d t =
      ⊎_elim
      (λ (e : ay ≡ by).
      subst (λ (z : ℕ). Blocks b ax ay bx z t → ⊥) e (none_on b ay ax bx true (sym (level_stop b ax ay bx by e) ∙ d) t))
      (λ (n : ay ≡ by → ⊥). ⊎_elim
      (λ (e : ax ≡ bx).
      subst (λ (z : ℕ). Blocks b ax ay z by t → ⊥) e (none_on b ax ay by false (sym (upright_stop b ax ay bx by n e) ∙ d) t))
      (λ (m : ax ≡ bx → ⊥). none_slanted b ax ay bx by n m (sym (slanted_stop b ax ay bx by n m) ∙ d) t)
      (same_or_not ax bx))
      (same_or_not ay by)

  -- and where nothing blocks it there is none
  pub unblocked_clear : ((t : Stop) → Blocks b ax ay bx by t → ⊥) → first_stop b ax ay bx by ≡ Clear
  unblocked_clear none =
      let stop = first_stop b ax ay bx by in
      ⊎_elim (λ (c : is_clear stop ≡ true). clear_is stop c)
      (λ (c : is_clear stop ≡ false). absurd (none stop (stop_first stop refl c).blocks)) (bool_cases (is_clear stop))

  -- what blocks a leg has a point of it
  pub blocks_met : (t : Stop) → Blocks b ax ay bx by t → (p : Point) × Meets ax ay bx by p t
  blocks_met _ (cell {i} {j} x w) = crossed_met ax ay bx by i j x
  blocks_met _ (level {p} {q} e on w) = let (x, h) = edge_met ax bx p q on in (x, inl h)
  blocks_met _ (upright {p} {q} e on w) = let (x, h) = edge_met ay by p q on in (x, inr h)
  blocks_met _ (vertex {x} {y} i w) = inside_met ax ay bx by x y i

  -- so only one thing can be the first
  pub first_one : (s t : Stop) → StopsFirst b ax ay bx by s → StopsFirst b ax ay bx by t → s ≡ t
  first_one s t f g =
      ⊎_elim (λ (e : t ≡ s). sym e)
      (λ (st : Before ax ay bx by s t). ⊎_elim (λ (e : s ≡ t). e)
      (λ (ts : Before ax ay bx by t s).
      let (p, h) = blocks_met s f.blocks in
      let (q, k) = blocks_met t g.blocks in
      absurd (nearer_asym p q (st p q h k) (ts q p k h))) (g.nearest s f.blocks)) (f.nearest t g.blocks)

  -- which is the first stop
  pub first_stops : (s : Stop) → StopsFirst b ax ay bx by s → first_stop b ax ay bx by ≡ s
  first_stops s f =
      let stop = first_stop b ax ay bx by in
      ⊎_elim (λ (c : is_clear stop ≡ true). absurd (clear_unblocked (clear_is stop c) s f.blocks))
      (λ (c : is_clear stop ≡ false). first_one stop s (stop_first stop refl c) f) (bool_cases (is_clear stop))

  -- and a leg has sight exactly if there is none
  module _ (on : EndsOn b ax ay bx by) where
    pub sees_clear : sees b ax ay bx by ≡ is_clear (first_stop b ax ay bx by)
    sees_clear =
        same_test (sees b ax ay bx by) (is_clear (first_stop b ax ay bx by))
        (λ h. ap is_clear (unblocked_clear (sees_unblocked b ax ay bx by on h)))
        (λ h. unblocked_sees b ax ay bx by (clear_unblocked (clear_is (first_stop b ax ay bx by) h)))

    pub unseen_blocked : sees b ax ay bx by ≡ false → StopsFirst b ax ay bx by (first_stop b ax ay bx by)
    unseen_blocked h = stop_first (first_stop b ax ay bx by) refl (sym sees_clear ∙ h)
