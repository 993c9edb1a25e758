-- The elements of the picture, and where they stand, in points from its upper left corner.
use Rattle.std.specs.Prelude.{ℕ, ◌+◌, ◌*◌, List, ◌++◌, codes}
use Rattle.std.specs.Fmt.{decimal}
use Rattle.text_pieces.specs.Pieces.{space}

-- the middle of the column with an index, and of a line
abbrev pub x_of : ℕ → ℕ
x_of place = 300 + 132 * place

abbrev pub y_of : ℕ → ℕ
y_of line = 130 + 18 * line

-- where the columns begin
abbrev pub top : ℕ
top = 104

unfoldable pub attribute : List ℕ → ℕ → List ℕ
attribute name number = codes " " ++ name ++ codes "='" ++ decimal number ++ codes "'"

-- all names of classes begin alike, so that they differ from those of the page that shows the picture
unfoldable pub class_begin : List ℕ
class_begin = codes " class='denovo-"

-- an element of a class begins
unfoldable pub element : List ℕ → List ℕ → List ℕ
element name class = codes "<" ++ name ++ class_begin ++ class ++ codes "'"

unfoldable pub element_end : List ℕ
element_end = codes "/>\n"

-- a circle about a point
unfoldable pub circle : List ℕ → ℕ → ℕ → ℕ → List ℕ
circle class x y r = element (codes "circle") class ++ attribute (codes "cx") x ++ attribute (codes "cy") y ++ attribute (codes "r") r ++ element_end

-- a rectangle from its upper left corner
unfoldable pub rectangle : List ℕ → ℕ → ℕ → ℕ → List ℕ
rectangle class y width height =
    element (codes "rect") class ++ attribute (codes "x") 0 ++ attribute (codes "y") y ++ attribute (codes "width") width ++ attribute (codes "height") height ++ element_end

-- a path of a class begins at a point
unfoldable pub path_begin : List ℕ → ℕ → ℕ → List ℕ
path_begin class x y = element (codes "path") class ++ codes " d='M" ++ decimal x ++ space ++ decimal y

unfoldable pub path_end : List ℕ
path_end = codes "'/>\n"

-- a line straight down to a height, one across to a place, and one to a point
unfoldable pub upright : List ℕ → ℕ → ℕ → ℕ → List ℕ
upright class x y bottom = path_begin class x y ++ codes "V" ++ decimal bottom ++ path_end

unfoldable pub level : List ℕ → ℕ → ℕ → List ℕ
level class y right = path_begin class 0 y ++ codes "H" ++ decimal right ++ path_end

unfoldable pub line_to : List ℕ → ℕ → ℕ → ℕ → ℕ → List ℕ
line_to class x1 y1 x2 y2 = path_begin class x1 y1 ++ codes "L" ++ decimal x2 ++ space ++ decimal y2 ++ path_end

-- the head of an arrow that comes from the left, and from the right; it ends at a point
unfoldable pub head_from_left : ℕ → ℕ → List ℕ
head_from_left x y = path_begin (codes "head") x y ++ codes "l-8 -4v8z" ++ path_end

unfoldable pub head_from_right : ℕ → ℕ → List ℕ
head_from_right x y = path_begin (codes "head") x y ++ codes "l8 -4v8z" ++ path_end

-- words of a class begin at a point
unfoldable pub words_begin : List ℕ → ℕ → ℕ → List ℕ
words_begin class x y =
    codes "<text class='denovo-text denovo-" ++ class ++ codes "'" ++ attribute (codes "x") x ++ attribute (codes "y") y ++ codes ">"

unfoldable pub words_end : List ℕ
words_end = codes "</text>\n"

abbrev pub words_at : List ℕ → ℕ → ℕ → List ℕ → List ℕ
words_at class x y words = words_begin class x y ++ words ++ words_end
