-- The lines of document 01, as the definitions compute them. Assumes nothing.
use mathlib.Core.Path.{◌≡◌, refl}
use mathlib.Core.List.{[], ◌∷◌}
use Rattle.lines.specs.Lines.{digits_up_to, decimal, vertex_field, net_line, none_line, refused_line, refused_twice_line}

-- net 1 path 2531486 expanded 3 tests 10 at 0,0 1,1 2,1
path_line : net_line 1 2531486 3 10 2 (0 ∷ 4 ∷ 5 ∷ [])
    ≡ 110 ∷ 101 ∷ 116 ∷ 32 ∷ 49 ∷ 32 ∷ 112 ∷ 97 ∷ 116 ∷ 104 ∷ 32 ∷ 50 ∷ 53 ∷ 51 ∷ 49 ∷ 52 ∷ 56 ∷ 54 ∷ 32 ∷ 101 ∷ 120
    ∷ 112 ∷ 97 ∷ 110 ∷ 100 ∷ 101 ∷ 100 ∷ 32 ∷ 51 ∷ 32 ∷ 116 ∷ 101 ∷ 115 ∷ 116 ∷ 115 ∷ 32 ∷ 49 ∷ 48 ∷ 32 ∷ 97 ∷ 116 ∷ 32
    ∷ 48 ∷ 44 ∷ 48 ∷ 32 ∷ 49 ∷ 44 ∷ 49 ∷ 32 ∷ 50 ∷ 44 ∷ 49 ∷ 10 ∷ []
unfolding digits_up_to decimal vertex_field net_line
path_line = refl

-- net 7 none expanded 4 tests 6
none_line_lem : none_line 7 4 6
    ≡ 110 ∷ 101 ∷ 116 ∷ 32 ∷ 55 ∷ 32 ∷ 110 ∷ 111 ∷ 110 ∷ 101 ∷ 32 ∷ 101 ∷ 120 ∷ 112 ∷ 97 ∷ 110 ∷ 100 ∷ 101 ∷ 100 ∷ 32
    ∷ 52 ∷ 32 ∷ 116 ∷ 101 ∷ 115 ∷ 116 ∷ 115 ∷ 32 ∷ 54 ∷ 10 ∷ []
unfolding digits_up_to decimal none_line
none_line_lem = refl

-- refused 12 at 0
refused_line_lem : refused_line 12 0
    ≡ 114 ∷ 101 ∷ 102 ∷ 117 ∷ 115 ∷ 101 ∷ 100 ∷ 32 ∷ 49 ∷ 50 ∷ 32 ∷ 97 ∷ 116 ∷ 32 ∷ 48 ∷ 10 ∷ []
unfolding digits_up_to decimal refused_line
refused_line_lem = refl

-- refused 23 at 3 7
refused_twice_line_lem : refused_twice_line 23 3 7
    ≡ 114 ∷ 101 ∷ 102 ∷ 117 ∷ 115 ∷ 101 ∷ 100 ∷ 32 ∷ 50 ∷ 51 ∷ 32 ∷ 97 ∷ 116 ∷ 32 ∷ 51 ∷ 32 ∷ 55 ∷ 10 ∷ []
unfolding digits_up_to decimal refused_twice_line
refused_twice_line_lem = refl
