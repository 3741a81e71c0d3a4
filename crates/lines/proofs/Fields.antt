-- The bytes of fields one after another, and how many they are. Assumes nothing.
use Prim.Native.Nat.{ℕ, ◌+◌, ◌≤◌, ◌<◌, max}
use mathlib.Core.Path.{◌≡◌, refl, sym, ap, ◌∙◌}
use mathlib.Core.List.{List, [], ◌∷◌, ◌++◌, append_assoc, append-nil}
use native.Mathlib.Numerals.{add-one}
use native.Mathlib.Omega.{arith}
use lib.ListN.{length, take, drop, get_or, length-append, take-append-drop}
use lib.Seq.{take-suc}
use Rattle.lines.specs.Lines.{decimal, vertex_field, vertex_fields, spaced, net_line, none_line, refused_line, refused_twice_line}
use Rattle.lines.specs.Lines.{net, none, path_word, expanded, tests_word, at_word, refused}
use Rattle.lines.specs.Inner.{Two, Three, Placed, numbered, path_end}

-- one more entry of a list
take_more : (l : List ℕ) (i : ℕ) → i < length l → take (i + 1) l ≡ take i l ++ (get_or l i 0 ∷ [])
take_more l i b = rw (add-one i) (take-suc l i 0 b)

-- ---- vertices

module _ (width v : ℕ) {x y : ℕ} (p : Placed (max width 1) v x y) where
  pub vertex_parts : 32 ∷ vertex_field width v ≡ numbered (32 ∷ []) x ++ numbered (44 ∷ []) y
  unfolding vertex_field
  vertex_parts = rw (p.column, p.row)

  pub vertex_count : length (32 ∷ vertex_field width v) ≡ 2 + (length (decimal x) + length (decimal y))
  vertex_count = ap length vertex_parts ∙ simp length-append (omega arith)

module _ (width : ℕ) where
  -- the bytes of some vertices, and of one
  abbrev bytes : List ℕ → List ℕ
  bytes path = spaced (vertex_fields width path)

  abbrev one : ℕ → List ℕ
  one v = 32 ∷ vertex_field width v

  bytes_append : (p q : List ℕ) → bytes (p ++ q) ≡ bytes p ++ bytes q
  bytes_append [] q = refl
  bytes_append (v ∷ p) q =
      ap (λ (l : List ℕ). one v ++ l) (bytes_append p q) ∙ sym (append_assoc (one v) (bytes p) (bytes q))

  pub path_more : (path : List ℕ) (i : ℕ) → i < length path
      → bytes (take i path) ++ one (get_or path i 0) ≡ bytes (take (i + 1) path)
  path_more path i b =
      sym
      (ap bytes (take_more path i b)
      ∙ bytes_append (take i path) (get_or path i 0 ∷ [])
      ∙ ap (λ (l : List ℕ). bytes (take i path) ++ (32 ∷ l)) (append-nil (vertex_field width (get_or path i 0))))

  pub path_parts : (path : List ℕ) (i : ℕ) → i < length path
      → bytes path ≡ (bytes (take i path) ++ one (get_or path i 0)) ++ bytes (drop (i + 1) path)
  path_parts path i b =
      ap bytes (sym (take-append-drop (i + 1) path))
      ∙ bytes_append (take (i + 1) path) (drop (i + 1) path)
      ∙ ap (λ (l : List ℕ). l ++ bytes (drop (i + 1) path)) (sym (path_more path i b))

  -- how many bytes the vertices take, one more each turn, and never more than all of them
  pub more_count : (path : List ℕ) (i : ℕ) → i < length path
      → length (bytes (take (i + 1) path)) ≡ length (bytes (take i path)) + length (one (get_or path i 0))
  more_count path i b = ap length (sym (path_more path i b)) ∙ length-append (bytes (take i path)) (one (get_or path i 0))

  pub within_count : (path : List ℕ) (i : ℕ) → i < length path
      → length (bytes (take i path)) + length (one (get_or path i 0)) ≤ length (bytes path)
  within_count path i b =
      let s : List ℕ = bytes (take i path) in
      let v : List ℕ = one (get_or path i 0) in
      let rest : List ℕ = bytes (drop (i + 1) path) in
      let e : length (bytes path) ≡ length ((s ++ v) ++ rest) = ap length (path_parts path i b) in
      omega (arith, e, length-append (s ++ v) rest, length-append s v)

-- ---- lines, by the pieces that are put

-- a number after the first word, and after a later one
abbrev pub first : List ℕ → ℕ → List ℕ
first word n = numbered (word ++ (32 ∷ [])) n

abbrev pub later : List ℕ → ℕ → List ℕ
later word n = numbered (32 ∷ (word ++ (32 ∷ []))) n

-- five fields and what follows the last, regrouped; and three, and two
five : (a b c d e v z : List ℕ) → (a ++ (b ++ (c ++ (d ++ (e ++ v))))) ++ z ≡ (a ++ b) ++ ((c ++ d) ++ (e ++ (v ++ z)))
five a b c d e v z = simp append_assoc

middle : (a b c z : List ℕ) → (a ++ (b ++ (c ++ []))) ++ z ≡ a ++ ((b ++ c) ++ z)
middle a b c z = simp (append_assoc, append-nil)

three : (a b c z : List ℕ) → (a ++ (b ++ (c ++ []))) ++ z ≡ (a ++ b) ++ (c ++ z)
three a b c z = simp (append_assoc, append-nil)

two : (a b z : List ℕ) → (a ++ (b ++ [])) ++ z ≡ (a ++ b) ++ z
two a b z = simp (append_assoc, append-nil)

-- one piece after another, and the end of the line of a path
pub joined : (xs ys : List ℕ) → Two (xs ++ ys) xs ys
joined xs ys = record { parts = refl }

pub end_parts : (width : ℕ) (path : List ℕ) → Three (path_end width path) (32 ∷ at_word) (spaced (vertex_fields width path)) (10 ∷ [])
end_parts width path = record { parts = refl }

module _ (number units expansions tests width : ℕ) (path : List ℕ) where
  pub net_parts : Three (net_line number units expansions tests width path) (first net number ++ later path_word units)
      (later expanded expansions ++ later tests_word tests) (path_end width path)
  unfolding net_line
  net_parts = record {
    parts = five (first net number) (later path_word units) (later expanded expansions) (later tests_word tests) (32 ∷ at_word)
        (bytes width path) (10 ∷ []);
  }

  pub net_count : length (net_line number units expansions tests width path)
      ≡ 31 + (length (decimal number) + length (decimal units) + (length (decimal expansions) + length (decimal tests)))
      + length (spaced (vertex_fields width path))
  unfolding net_line
  net_count = simp length-append (omega arith)

module _ (number expansions tests : ℕ) where
  pub none_parts : Three (none_line number expansions tests) (first net number)
      (((32 ∷ none) ++ later expanded expansions) ++ later tests_word tests) (10 ∷ [])
  unfolding none_line
  none_parts =
      record { parts = middle (first net number) ((32 ∷ none) ++ later expanded expansions) (later tests_word tests) (10 ∷ []) }

  pub none_count : length (none_line number expansions tests)
      ≡ 27 + length (decimal number) + (length (decimal expansions) + length (decimal tests))
  unfolding none_line
  none_count = simp length-append (omega arith)

module _ (number place : ℕ) where
  pub refused_parts : Two (refused_line number place) (first refused number ++ later at_word place) (10 ∷ [])
  unfolding refused_line
  refused_parts = record { parts = two (first refused number) (later at_word place) (10 ∷ []) }

  pub refused_count : length (refused_line number place) ≡ 13 + (length (decimal number) + length (decimal place))
  unfolding refused_line
  refused_count = simp length-append (omega arith)

module _ (number place second : ℕ) where
  pub refused_twice_parts : Three (refused_twice_line number place second) (first refused number ++ later at_word place)
      (numbered (32 ∷ []) second) (10 ∷ [])
  unfolding refused_twice_line
  refused_twice_parts =
      record { parts = three (first refused number) (later at_word place) (numbered (32 ∷ []) second) (10 ∷ []) }

  pub refused_twice_count : length (refused_twice_line number place second)
      ≡ 14 + (length (decimal number) + length (decimal place)) + length (decimal second)
  unfolding refused_twice_line
  refused_twice_count = simp length-append (omega arith)
