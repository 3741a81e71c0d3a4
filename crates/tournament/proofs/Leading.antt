-- The leader of a part of the vertices: of two parts the sooner of two, and what a change of one vertex makes of it. Assumes nothing.
use mathlib.Core.Path.{◌≡◌, refl, sym, ap, ap₂, ◌∙◌}
use mathlib.Core.Logic.{◌⊎◌, inl, inr, ◌≢◌, ⊎_elim}
use mathlib.Core.Bool.{Bool, true, false, cond, true≢false}
use Prim.Native.Nat.{ℕ, ◌<◌}
use native.Mathlib.Omega.{arith}
use native.Mathlib.Decide.{ℕ_discrete}
use Rattle.theta.specs.Order.{Rank, sooner, Contest}
use Rattle.tournament.specs.Contest.{no_key, WellRanked, Runs, First, Leads, none, some}
use Rattle.tournament.specs.Tournament.{Else, Opened, Shown}
use Rattle.theta.proofs.Order.{sooner_trans, sooner_irrefl, sooner_total, sooner_lower, sooner_least}

-- ---- the same runners

-- those of one part run in the other, with the same rank
abbrev pub Among : (C C' : Contest) (part part' : ℕ → Type 0) → Type 0
Among C C' part part' = (v : ℕ) → Runs C part v → Runs C' part' v × (C'.rank v ≡ C.rank v)

-- the same run, so the same leads
pub leads_move : {C C' : Contest} {part part' : ℕ → Type 0} {r k : ℕ} → Among C C' part part' → Among C' C part' part → Leads C part r k
    → Leads C' part' r k
leads_move to from (none e f) = none e (λ v u. f v (from v u).0)
leads_move {r = r} to from (some F e) =
    let t = to r F.runs in
    some
    (record {
      runs = t.0;
      foremost = λ v u s. let q = from v u in F.foremost v q.0 (ap₂ sooner q.1 (sym t.1) ∙ s);
    })
    (e ∙ sym (ap (λ (a : Rank). a.f) t.1))

module _ {C : Contest} {part part' : ℕ → Type 0} where
  -- another part with the same open vertices
  pub leads_part : {r k : ℕ} → ((v : ℕ) → v < C.size → part v → part' v) → ((v : ℕ) → v < C.size → part' v → part v) → Leads C part r k → Leads C part' r k
  leads_part to from =
      leads_move
      (λ v u. (record { on = u.on; within = to v u.on u.within; opened = u.opened }, refl))
      (λ v u. (record { on = u.on; within = from v u.on u.within; opened = u.opened }, refl))

-- a vertex outside the part changes
pub leads_else : {C C' : Contest} {part : ℕ → Type 0} {w r k : ℕ} → Else C C' w → ((v : ℕ) → part v → v ≢ w) → Leads C part r k → Leads C' part r k
leads_else E d =
    leads_move
    (λ v u. let x = d v u.within in
    (record { on = rw E.size_same u.on; within = u.within; opened = E.open_same v u.on x ∙ u.opened }, E.rank_same v u.on x))
    (λ v u. let x = d v u.within in
    let o = rw E.size_same at u.on in
    (record { on = o; within = u.within; opened = sym (E.open_same v o x) ∙ u.opened }, sym (E.rank_same v o x)))

-- ---- two that run

module _ {C : Contest} (fair : WellRanked C) where
  -- one of two vertices comes before the other
  apart : (u v : ℕ) → u ≢ v → (sooner (C.rank u) (C.rank v) ≡ true) ⊎ (sooner (C.rank v) (C.rank u) ≡ true)
  apart u v d = sooner_total (C.rank u) (C.rank v) (λ e. d (sym (fair.numbered u) ∙ e ∙ fair.numbered v))

  -- what comes before a vertex that is foremost, or is that one, comes before what the foremost is not behind
  ahead_of_first : {part : ℕ → Type 0} {r : ℕ} (a : Rank) (s : ℕ) → First C part s → Runs C part r → sooner a (C.rank s) ≡ true
      → sooner a (C.rank r) ≡ true
  ahead_of_first {r = r} a s F u x = go (ℕ_discrete s r)
    where
      go : Dec (s ≡ r) → sooner a (C.rank r) ≡ true
      go (yes e) = rw e at x
      go (no d) = ⊎_elim (λ y. sooner_trans a (C.rank s) (C.rank r) x y) (λ y. absurd (F.foremost r u y)) (apart s r d)

  -- there is one first
  pub first_unique : {part : ℕ → Type 0} {r s : ℕ} → First C part r → First C part s → r ≡ s
  first_unique {r = r} {s = s} F G = go (ℕ_discrete r s)
    where
      go : Dec (r ≡ s) → r ≡ s
      go (yes e) = e
      go (no d) = ⊎_elim (λ x. absurd (G.foremost r F.runs x)) (λ x. absurd (F.foremost s G.runs x)) (apart r s d)

  -- a leader's key is no key exactly if nothing is open
  pub leads_open : {part : ℕ → Type 0} {r k : ℕ} → Leads C part r k → k ≢ no_key → First C part r
  leads_open (none e f) d = absurd (d e)
  leads_open (some F e) d = F

  pub leads_none : {part : ℕ → Type 0} {r k : ℕ} → Leads C part r k → k ≡ no_key → (v : ℕ) → Runs C part v → ⊥
  leads_none (none e f) z v u = f v u
  leads_none {r = r} (some F e) z v u = omega (arith, fair.keyed r F.runs.on F.runs.opened)

  -- ---- two parts

  module _ {show : ℕ → ℕ → Rank} (S : Shown C show) where
    -- a leader is shown with its rank
    shown : {part : ℕ → Type 0} {r k : ℕ} → First C part r → k ≡ (C.rank r).f → show r k ≡ C.rank r
    shown {r = r} F e = rw e (S.own r F.runs.on)

    -- of two parts, the leader that the other does not come before
    pub leads_join : {A B P : ℕ → Type 0} {r k s l : ℕ} → ((v : ℕ) → v < C.size → P v → A v ⊎ B v) → ((v : ℕ) → A v → P v) → ((v : ℕ) → B v → P v)
        → Leads C A r k → Leads C B s l → (x : Bool) → sooner (show s l) (show r k) ≡ x → Leads C P (cond x s r) (cond x l k)
    leads_join {A} {B} {P} {r} {k} {s} {l} split left right = go
      where
        runs_left : (v : ℕ) → Runs C A v → Runs C P v
        runs_left v u = record { on = u.on; within = left v u.within; opened = u.opened }

        runs_right : (v : ℕ) → Runs C B v → Runs C P v
        runs_right v u = record { on = u.on; within = right v u.within; opened = u.opened }

        runs_one : (v : ℕ) → Runs C P v → Runs C A v ⊎ Runs C B v
        runs_one v u =
            ⊎_elim
            (λ a. inl (record { on = u.on; within = a; opened = u.opened }))
            (λ b. inr (record { on = u.on; within = b; opened = u.opened }))
            (split v u.on u.within)

        neither : ((v : ℕ) → Runs C A v → ⊥) → ((v : ℕ) → Runs C B v → ⊥) → (v : ℕ) → Runs C P v → ⊥
        neither f h v u = ⊎_elim (f v) (h v) (runs_one v u)

        go : Leads C A r k → Leads C B s l → (x : Bool) → sooner (show s l) (show r k) ≡ x → Leads C P (cond x s r) (cond x l k)
        go (none e f) (none d h) true x = none d (neither f h)
        go (none e f) (none d h) false x = none e (neither f h)
        go (none e f) (some H d) true x =
            some
            (record { runs = runs_right s H.runs; foremost = λ v u. ⊎_elim (λ a y. f v a) (H.foremost v) (runs_one v u) }) d
        go (none e f) (some H d) false x =
            let low : (show s l).f < (show r k).f = rw (S.key s l, S.key r k) (omega (arith, fair.keyed s H.runs.on H.runs.opened)) in
            absurd (true≢false (sym (sooner_lower (show s l) (show r k) low) ∙ x))
        go (some F e) (none d h) true x =
            let high = rw (S.key s l, S.key r k) at (sooner_least (show s l) (show r k) x) in
            absurd (omega (arith, high, fair.keyed r F.runs.on F.runs.opened))
        go (some F e) (none d h) false x =
            some
            (record { runs = runs_left r F.runs; foremost = λ v u. ⊎_elim (F.foremost v) (λ b y. h v b) (runs_one v u) }) e
        go (some F e) (some H d) true x =
            let ahead = rw (shown H d, shown F e) at x in
            some
            (record {
              runs = runs_right s H.runs;
              foremost = λ v u. ⊎_elim (λ a y. F.foremost v a (sooner_trans (C.rank v) (C.rank s) (C.rank r) y ahead)) (H.foremost v) (runs_one v u);
            })
            d
        go (some F e) (some H d) false x =
            let behind = rw (shown H d, shown F e) at x in
            some
            (record {
              runs = runs_left r F.runs;
              foremost = λ v u. ⊎_elim (F.foremost v) (λ b y. true≢false (sym (before v b y) ∙ behind)) (runs_one v u);
            })
            e
          where
            -- what comes before r, in the part that s leads, puts s before r
            before : (v : ℕ) → Runs C B v → sooner (C.rank v) (C.rank r) ≡ true → sooner (C.rank s) (C.rank r) ≡ true
            before v b y = by (ℕ_discrete s v)
              where
                by : Dec (s ≡ v) → sooner (C.rank s) (C.rank r) ≡ true
                by (yes q) = rw q y
                by (no q) =
                    ⊎_elim (λ z. sooner_trans (C.rank s) (C.rank v) (C.rank r) z y) (λ z. absurd (H.foremost v b z)) (apart s v q)

-- ---- a vertex opens, or its rank gets sooner

module _ {C C' : Contest} {w : ℕ} {a : Rank} (O : Opened C C' w a) {show : ℕ → ℕ → Rank} (S : Shown C show) where
  -- another runner ran before
  ran : {part : ℕ → Type 0} (v : ℕ) → v ≢ w → Runs C' part v → Runs C part v
  ran v d u =
      let o = rw O.others.size_same at u.on in
      record { on = o; within = u.within; opened = sym (O.others.open_same v o d) ∙ u.opened }

  runs : {part : ℕ → Type 0} (v : ℕ) → v ≢ w → Runs C part v → Runs C' part v
  runs v d u = record { on = rw O.others.size_same u.on; within = u.within; opened = O.others.open_same v u.on d ∙ u.opened }

  -- it is ahead of the leader, and leads
  pub leads_ahead : {part : ℕ → Type 0} {r k : ℕ} → part w → Leads C part r k → sooner a (show r k) ≡ true → Leads C' part w a.f
  leads_ahead {part} {r} {k} p L x =
      some
      (record {
        runs = record { on = rw O.others.size_same O.on; within = p; opened = O.opens };
        foremost = λ v u y. split v u y (ℕ_discrete v w);
      })
      (rw O.rank_is refl)
    where
      behind : (v : ℕ) → Runs C part v → sooner (C.rank v) a ≡ true → Leads C part r k → ⊥
      behind v u y (none e f) = f v u
      behind v u y (some F e) = F.foremost v u (sooner_trans (C.rank v) a (C.rank r) y (rw (e, S.own r F.runs.on) at x))

      split : (v : ℕ) → Runs C' part v → sooner (C'.rank v) (C'.rank w) ≡ true → Dec (v ≡ w) → ⊥
      split v u y (yes e) = sooner_irrefl (C'.rank w) (rw e at y)
      split v u y (no d) = let q = ran v d u in behind v q (rw (O.others.rank_same v q.on d, O.rank_is) at y) L

  -- it is not ahead of the leader of a part, and changes nothing in a wider one
  pub leads_behind : {part wider : ℕ → Type 0} {r k s l : ℕ} → WellRanked C → WellRanked C' → ((v : ℕ) → part v → wider v) → Leads C part r k
      → sooner a (show r k) ≡ false → Leads C wider s l → Leads C' wider s l
  leads_behind {part} {wider} {r} {k} {s} {l} fair fair' widen (none e f) x L =
      let low : a.f < (show r k).f =
      rw (S.key r k) (omega (arith, e, rw O.rank_is at (fair'.keyed w (rw O.others.size_same O.on) O.opens))) in
      absurd (true≢false (sym (sooner_lower a (show r k) low) ∙ x))
  leads_behind {part} {wider} {r} {k} {s} {l} fair fair' widen (some F e) x (none d h) =
      absurd (h r (record { on = F.runs.on; within = widen r F.runs.within; opened = F.runs.opened }))
  leads_behind {part} {wider} {r} {k} {s} {l} fair fair' widen (some F e) x (some H d) =
      some
      (record { runs = runs s other H.runs; foremost = λ v u y. split v u (rw (O.others.rank_same s H.runs.on other) at y) (ℕ_discrete v w) })
      (rw (O.others.rank_same s H.runs.on other) d)
    where
      -- it is not ahead of the wider part's leader either
      late : sooner a (C.rank s) ≡ true → ⊥
      late y =
          let u : Runs C wider r = record { on = F.runs.on; within = widen r F.runs.within; opened = F.runs.opened } in
          true≢false (sym (ahead_of_first fair a s H u y) ∙ (rw (e, S.own r F.runs.on) at x))

      other : s ≢ w
      other q = late (rw q (O.sooner_now (rw q at H.runs.opened)))

      split : (v : ℕ) → Runs C' wider v → sooner (C'.rank v) (C.rank s) ≡ true → Dec (v ≡ w) → ⊥
      split v u y (yes q) = late (rw (q, O.rank_is) at y)
      split v u y (no q) = let x = ran v q u in H.foremost v x (rw (O.others.rank_same v x.on q) at y)
