-- In which order open vertices are taken. Nothing else knows it: laws cite `sooner`, never its text.
use Rattle.std.specs.Prelude.{Bool, ◌&&◌, ◌||◌, cond, List, ℕ, zero, suc, ◌+◌, eqb, ltb}
use Rattle.reach.specs.Turns.{at}

-- ---- the order

-- what the open vertices are ordered by
pub record Rank : Type 0 where
  pub f : ℕ
  pub g : ℕ
  pub legs : ℕ
  pub number : ℕ

abbrev pub ranked : ℕ → ℕ → ℕ → ℕ → Rank
ranked f g legs v = record { f = f; g = g; legs = legs; number = v }

-- x is less than y; or they are equal, and the rest decides
abbrev pub less_or : ℕ → ℕ → Bool → Bool
less_or x y rest = ltb x y || (eqb x y && rest)

-- least f; equal f: least g; equal g: fewest legs; equal legs: least vertex number
unfoldable pub sooner : Rank → Rank → Bool
sooner a b = less_or a.f b.f (less_or a.g b.g (less_or a.legs b.legs (ltb a.number b.number)))

-- ---- the vertex that is taken

-- how many vertices there are, whether each is open, and its rank
pub record Contest : Type 0 where
  pub size : ℕ
  pub is_open : ℕ → Bool
  pub rank : ℕ → Rank

-- of the open vertices below k, the one that is taken rather than the others; the size if none is open
unfoldable pub least : Contest → ℕ → ℕ
least C zero = C.size
least C (suc k) =
    let r = least C k in
    cond (C.is_open k && (eqb r C.size || sooner (C.rank k) (C.rank r))) k r

-- of n vertices those with mark 1 are open; f = g + h
abbrev pub contest : (n : ℕ) (h : ℕ → ℕ) (g mark legs : List ℕ) → Contest
contest n h g mark legs = record {
  size = n;
  is_open = λ v. eqb (at mark v) 1;
  rank = λ v. ranked (at g v + h v) (at g v) (at legs v) v;
}
