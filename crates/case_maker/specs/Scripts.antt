-- The script that is made from a number: five lines that make the Heisenberg algebra, then lines of `summary`, whose
-- numbers and variables are drawn from a linear congruential generator.
use Rattle.std.specs.Prelude.{ℕ, zero, suc, ◌+◌, ◌*◌, ◌%◌, List, [], ◌∷◌, ◌++◌, codes, get_or}
use Rattle.std.specs.Fmt.{decimal}

-- the draw that follows a draw; the first follows K modulo 65537
abbrev pub next_draw : ℕ → ℕ
next_draw s = (75 * s + 74) % 65537

-- the n-th draw after s
unfoldable pub draw_after : ℕ → ℕ → ℕ
draw_after zero s = s
draw_after (suc n) s = draw_after n (next_draw s)

-- the variable of a draw: x, y, a, b or z
abbrev pub variable_text : ℕ → List ℕ
variable_text s = get_or (codes "xyabz") (s % 5) 0 ∷ []

-- a product of a number from 1 to 100 and two variables, by the three draws after s
abbrev pub product_text : ℕ → List ℕ
product_text s =
    decimal (1 + draw_after 1 s % 100) ++ (codes "*" ++ (variable_text (draw_after 2 s) ++ (codes "*" ++ variable_text (draw_after 3 s))))

-- a sum of two products, by the six draws after s
unfoldable pub sum_text : ℕ → List ℕ
sum_text s = product_text s ++ (codes "+" ++ product_text (draw_after 3 s))

-- a line with three sums, by the eighteen draws after s
abbrev pub line_text : ℕ → List ℕ
line_text s =
    codes "summary(" ++ (sum_text s ++ (codes "," ++ (sum_text (draw_after 6 s) ++ (codes "," ++ (sum_text (draw_after 12 s) ++ codes ");\n")))))

-- so many lines, by the draws after s
abbrev pub lines_text : ℕ → ℕ → List ℕ
lines_text zero s = []
lines_text (suc n) s = line_text s ++ lines_text n (draw_after 18 s)

-- the lines in front: the Heisenberg algebra, where x*a and y*b commute up to the central z
abbrev pub heading : List ℕ
heading =
    codes "ring r = 32003,(x,y,a,b,z),dp;\n"
    ++ (codes "matrix D[5][5];\n"
    ++ (codes "D[1,3] = z; D[2,4] = z;\n"
    ++ (codes "def H = nc_algebra(1,D);\n"
    ++ codes "setring H;\n")))

-- the script of the number k
abbrev pub made_script : ℕ → List ℕ
made_script k = heading ++ lines_text (1 + k % 200) (k % 65537)
