-- What stands in the picture of a chronogram, part by part. Where its parts stand and how wide they are is left open.
use Rattle.std.specs.Prelude.{ℕ, ◌+◌, ◌-◌, ◌*◌, ◌/◌, ◌^◌, ◌≡◌, min, Bool, List, [], ◌∷◌, ◌++◌, Option, map, flat_map, codes, if◌then◌else◌}
use Rattle.std.specs.Fmt.{decimal}
use Rattle.lucy_place.specs.declared.placed.PlacedNode.{PlacedNode}
use Rattle.lucy_program.specs.Names.{place_name}
use Rattle.lucy_picture.specs.declared.row.Row.{Row}
use Rattle.lucy_picture.specs.declared.fill.Fill.{Fill}
use Rattle.lucy_picture.specs.Holding.{HoldsAll}
use Rattle.lucy_svg.specs.declared.drawing.Drawing.{Drawing}
use Rattle.lucy_svg.specs.declared.flow.Flow.{Flow}
use Rattle.lucy_svg.specs.declared.join.Join.{Join}
use Rattle.lucy_svg.specs.Names.{told_by, AreTold}
use Rattle.lucy_svg.specs.Labels.{front_of}

-- the name of a lane: a text, and behind it that of the place that is shown
pub record LaneName : Type 0 where
  pub before : List ℕ
  pub place : ℕ

-- a name of these
abbrev pub lane_name : (before : List ℕ) → (place : ℕ) → LaneName
lane_name before place = record { before = before; place = place }

-- a lane's name is shown as it stands in XML, cut off behind 40 letters
abbrev pub IsLaneName : PlacedNode → (told : List (Option ℕ)) → LaneName → List ℕ → Type 0
IsLaneName n told name text = text ≡ front_of 40 (name.before ++ place_name n (told_by told name.place))

-- those of a buffer: of what goes in and of what comes out
abbrev pub buffer_names : Fill → List LaneName
buffer_names fill = lane_name (codes "in ") fill.operand ∷ lane_name (codes "out ") fill.place ∷ []

-- what there is of each buffer, for how items go through it, one behind another
abbrev pub both : {A : Type 0} → (of : Fill → Flow → List A) → List Fill → List Flow → List A
both of (fill ∷ fills) (flow ∷ flows) = of fill flow ++ both of fills flows
both of fills flows = []

-- the names of buffers
abbrev pub fill_names : List Fill → List Flow → List LaneName
fill_names fills flows = both (λ fill flow. buffer_names fill) fills flows

-- the name of a stream
abbrev pub row_name : Row → LaneName
row_name row = lane_name [] row.place

-- the names of a drawing: of its streams, and then of its buffers
abbrev pub names_of : Drawing → List LaneName
names_of drawing = map row_name drawing.chart.rows.items ++ fill_names drawing.chart.fills.items drawing.flows.items

-- the middle of an instant, for how wide one is
abbrev pub middle : (cell instant : ℕ) → ℕ
middle cell instant = min (instant * cell) (2 ^ 64 - 1) - cell / 2

-- the point of a mark at a height, where there is one
abbrev pub point : (cell y instant : ℕ) → Bool → List ℕ
point cell y instant mark =
    if mark then codes "M" ++ (decimal (middle cell instant) ++ (codes " " ++ (decimal y ++ codes "h0"))) else []

-- those of marks from an instant on
abbrev pub points : (cell y instant : ℕ) → List Bool → List ℕ
points cell y instant [] = []
points cell y instant (mark ∷ marks) = point cell y instant mark ++ points cell y (instant + 1) marks

-- the line of an item, from the instant at which it is written, above, to that at which it is read, below
abbrev pub join_line : (cell top bottom : ℕ) → Join → List ℕ
join_line cell top bottom join =
    codes "M" ++ (decimal (middle cell join.written) ++ (codes " " ++ (decimal top ++ (codes "L" ++ (decimal (middle cell join.read)
    ++ (codes " " ++ decimal bottom))))))

-- what a lane shows: marks, or items that go from a lane of marks to the next
pub data Lane : Type 0 where
  of_marks : List Bool → Lane
  of_items : List Join → Lane

-- a lane is drawn: a point at each instant that has a mark, a line for each item
abbrev pub IsLane : (cell : ℕ) → Lane → List ℕ → Type 0
IsLane cell (of_marks marks) text = (y : ℕ) × (text ≡ points cell y 1 marks)
IsLane cell (of_items joins) text = (top : ℕ) × (bottom : ℕ) × (text ≡ flat_map (join_line cell top bottom) joins)

-- those of a buffer: what goes in, what comes out, and its items
abbrev pub buffer_lanes : Fill → Flow → List Lane
buffer_lanes fill flow = of_marks fill.written ∷ of_marks fill.read ∷ of_items flow.joins ∷ []

-- those of buffers
abbrev pub fill_lanes : List Fill → List Flow → List Lane
fill_lanes fills flows = both buffer_lanes fills flows

-- that of a stream
abbrev pub row_lane : Row → Lane
row_lane row = of_marks row.marks

-- the lanes of a drawing: of its streams, and then of its buffers
abbrev pub lanes_of : Drawing → List Lane
lanes_of drawing = map row_lane drawing.chart.rows.items ++ fill_lanes drawing.chart.fills.items drawing.flows.items

-- what is put behind a text is an SVG with the names of all lanes, and with all lanes behind these
pub record PutsSvg (n : PlacedNode) (told : List (Option ℕ)) (drawing : Drawing) (old new : List ℕ) : Type 0 where
  pub cell : ℕ
  pub before : List ℕ
  pub names : List ℕ
  pub lanes : List ℕ
  pub puts : new ≡ old ++ (codes "<svg xmlns=\"http://www.w3.org/2000/svg\" " ++ (before ++ (names ++ (lanes ++ codes "</svg>\n"))))
  pub are_names : HoldsAll (IsLaneName n told) (names_of drawing) names
  pub are_lanes : HoldsAll (IsLane cell) (lanes_of drawing) lanes

-- the same, of names by which the places of the node are told
pub record PutsPicture (n : PlacedNode) (drawing : Drawing) (old new : List ℕ) : Type 0 where
  pub told : List (Option ℕ)
  pub are_told : AreTold n told
  pub puts : PutsSvg n told drawing old new
