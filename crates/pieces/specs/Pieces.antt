-- Which pieces are kept, and where they are placed. Assumes nothing.
use Rattle.std.specs.Prelude.{◌≡◌, Bool, true, false, cond, Result, Ok, Err, List, [], ◌++◌, map, ℕ, zero, suc, ◌+◌, ◌-◌, eqb, length, replicate, Float, MatchResult}
use Rattle.lists.specs.Regions.{put, zeros}
use Rattle.lists.specs.Same.{SameList}
use Rattle.cutting.specs.Outcome.{flat, stops}
use Rattle.entry.specs.Mesh.{mesh}
use Rattle.rules.specs.Mesh.{cells_of, Side, the_subject, the_cutter}
use Rattle.rules.specs.Inside.{point_inside}
use Rattle.rules.specs.Operations.{keeps}
use Rattle.rules.specs.Refusals.{Event, piece, first_refusal}
use Rattle.refusals.specs.declared.Refusal.{Refusal}
use Rattle.refusals.specs.Numbers.{number, by_number}
use Rattle.strips.specs.declared.things.Things.{Things}
use Rattle.pieces.specs.declared.Keep.{Keep}
use Rattle.pieces.specs.declared.Listed.{Listed}
use Rattle.pieces.specs.declared.piece_lists.PieceLists.{PieceLists}

-- ---- runs of node numbers in a flat list, by their ends

abbrev pub runs_of : List ℕ → List ℕ → List (List ℕ)
runs_of nodes ends = cells_of (mesh [] [] nodes ends [] [])

-- ---- "Operations": kept or not

-- the mesh whose cells are cut
abbrev pub side_of : Bool → Side
side_of true = the_cutter
side_of false = the_subject

-- which pieces of the mesh w the operation keeps
abbrev pub keep_of : ℕ → Side → Keep
keep_of op w = record { inside = keeps op w true; outside = keeps op w false }

-- the piece q, where `cells` are those of the other mesh
abbrev pub is_kept : Keep → List Float → List (List ℕ) → List ℕ → Bool
is_kept k coords cells q = cond (point_inside coords cells q) k.inside k.outside

-- ---- placed

-- what placing a piece asks: a place, and one for each corner
abbrev pub events : List (List ℕ) → List Event
events ks = map (λ q. piece (length q)) ks

-- what cells yield: what happens, and the pieces with a tag each
pub record Yield : Type 0 where
  pub events : List Event
  pub pieces : List (List ℕ)
  pub tags : List ℕ

-- pieces with the same tag
abbrev pub tagged : ℕ → List (List ℕ) → Yield
tagged t ks = record { events = events ks; pieces = ks; tags = replicate (length ks) t }

-- one after the other
abbrev pub nothing : Yield
nothing = record { events = []; pieces = []; tags = [] }

abbrev pub both : Yield → Yield → Yield
both y z = record { events = y.events ++ z.events; pieces = y.pieces ++ z.pieces; tags = y.tags ++ z.tags }

unfoldable pub all_of : ℕ → (ℕ → Yield) → Yield
all_of zero f = nothing
all_of (suc n) f = both (all_of n f) (f n)

-- what placing leaves: the answer or the refusal's number, and the lists of corners, ends and tags
pub record Placing : Type 0 where
  pub answer : Result Listed ℕ
  pub corners : List ℕ
  pub ends : List ℕ
  pub tags : List ℕ

abbrev pub placing : Result Listed Refusal → List ℕ → List ℕ → List ℕ → Placing
placing r on oe ot = record { answer = by_number r; corners = on; ends = oe; tags = ot }

-- a refusal: nothing is counted, and the lists are zero
abbrev pub refused_by : ℕ → List ℕ → List ℕ → List ℕ → Placing
refused_by code on oe ot = record { answer = Err code; corners = zeros (length on); ends = zeros (length oe); tags = zeros (length ot) }

-- What is yielded goes behind the pieces that p counts; as many pieces have a place as the list of ends is long. At the first that has none, or where
-- a cell refuses, that is the answer.
unfoldable pub placed_behind : Listed → Yield → List ℕ → List ℕ → List ℕ → Placing
placed_behind p y on oe ot =
    let code = first_refusal 0 0 (length oe - p.count) (length on - p.entries) y.events in
    let ks = y.pieces in
    cond (eqb code 0)
    (record {
      answer = Ok (record { count = p.count + length ks; entries = p.entries + length (flat ks) });
      corners = put on p.entries (flat ks);
      ends = put oe p.count (stops p.entries ks);
      tags = put ot p.count y.tags;
    })
    (refused_by code on oe ot)

-- ---- the same of lists that are lent

abbrev pub left_by : Result Listed ℕ → PieceLists → Placing
left_by r l = record { answer = r; corners = l.corners.now; ends = l.ends.now; tags = l.tags.now }

abbrev pub left : Result (Unit {0}) Refusal → PieceLists → Placing
left (Ok _) l = left_by (Ok l.placed) l
left (Err e) l = left_by (Err (number e)) l

abbrev pub refused_in : ℕ → PieceLists → Placing
refused_in code l = refused_by code l.corners.now l.ends.now l.tags.now

abbrev pub placed_in : Listed → Yield → PieceLists → Placing
placed_in p y l = placed_behind p y l.corners.now l.ends.now l.tags.now

abbrev pub placed_on : Yield → PieceLists → Placing
placed_on y l = placed_in l.placed y l

pub record SameLists (l m : PieceLists) : Type 0 where
  pub corners : SameList l.corners m.corners
  pub ends : SameList l.ends m.ends
  pub tags : SameList l.tags m.tags

-- ---- what only inner functions' contracts cite

-- before a refusal zeroes the lists: what g leaves, or its refusal
abbrev pub BeforeZeroing : Placing → Result (Unit {0}) Refusal → PieceLists → Type 0
BeforeZeroing g r l = MatchResult r (λ _. left_by (Ok l.placed) l ≡ g) (λ e. Err (number e) ≡ g.answer)

-- the cells of the other mesh
abbrev pub cells_in : Things → List (List ℕ)
cells_in t = runs_of t.nodes.now t.ends.now
