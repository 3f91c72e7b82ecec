-- Overlays by two editions of the rules in which each cell comes to the same. Assumes nothing.
use mathlib.Core.Path.{◌≡◌, refl, ap, ap₂}
use mathlib.Core.Bool.{Bool, true, false, cond}
use mathlib.Core.List.{List, [], ◌∷◌, ◌++◌}
use Prim.Native.Nat.{ℕ, ◌+◌, ◌/◌, ◌<◌}
use lib.ListN.{length, get_or, replicate}
use Rattle.lists.specs.Gather.{gathered, each, passing, joined}
use Rattle.lists.proofs.Gather.{gathered_ext}
use Rattle.cutting.specs.Edition.{Edition}
use Rattle.cutting.specs.Outcome.{Outcome, cut_outcome_with}
use Rattle.settings.specs.declared.Settings.{Settings}
use Rattle.entry.specs.Mesh.{Mesh, node_count}
use Rattle.rules.specs.Mesh.{Side, the_subject, the_cutter}
use Rattle.rules.specs.Meetings.{Scene, net_of, added_by}
use Rattle.rules.specs.Layers.{layers_of}
use Rattle.rules.specs.Nodes.{crowded}
use Rattle.rules.specs.Cell.{near_of, treated_by, treated, outcome_with, kind_of}
use Rattle.rules.specs.Operations.{cuts, keeps, scene_for, Piece, piece_with, kept_with, lies_inside, over_cells, listing_with, outcome_pieces, doubled_cells}
use Rattle.rules.specs.Refusals.{Event, point, stop, of_meeting, of_cell, course_with, first_refusal}
use Rattle.rules.specs.Overlay.{Lists, result_of, point_room, piece_room, written, named_points, answered_with, state_with}

-- ---- cells that come to the same by two editions

module _ (u v : Edition) (o : Settings) (s c : Mesh) (l : Lists) where
  abbrev sc : Scene
  sc = scene_for o s c

  -- a cell's kept pieces go by its outcome
  kept_as : (w : Side) (i : ℕ) → outcome_with u sc w i ≡ outcome_with v sc w i → kept_with u sc w o.op i ≡ kept_with v sc w o.op i
  unfolding kept_with piece_with
  kept_as w i e = ap by e
    where
      at : Outcome → ℕ → Piece
      at x j = record { mesh = w; cell = i; place = j; kind = kind_of sc w i; family = get_or (net_of sc w).families i 0; nodes = get_or (outcome_pieces x) j [] }

      by : Outcome → List Piece
      by x = passing (λ p. keeps o.op w (lies_inside sc w p)) (each (length (outcome_pieces x)) (at x))

  -- and so does what happens in it
  pub cut_as : (w : Side) (i : ℕ) → outcome_with u sc w i ≡ outcome_with v sc w i
      → of_cell (outcome_with u sc w i) (kept_with u sc w o.op i) ≡ of_cell (outcome_with v sc w i) (kept_with v sc w o.op i)
  cut_as w i e = ap₂ (λ (x : Outcome) (ps : List Piece). of_cell x ps) e (kept_as w i e)

  -- the third count
  abbrev pub third : Edition → ℕ
  third x = cond x.once 0 (length (doubled_cells o s c))

  module _ (same : (w : Side) → cuts o.op w ≡ true → (i : ℕ) → i < length (net_of sc w).cells → outcome_with u sc w i ≡ outcome_with v sc w i) where
    over_as : {A : Type 0} (w : Side) (f g : ℕ → List A) → ((i : ℕ) → outcome_with u sc w i ≡ outcome_with v sc w i → f i ≡ g i) → over_cells o.op sc w f ≡ over_cells o.op sc w g
    over_as w f g by = go (cuts o.op w) refl
      where
        go : (t : Bool) → cuts o.op w ≡ t → cond t (gathered (length (net_of sc w).cells) f) [] ≡ cond t (gathered (length (net_of sc w).cells) g) []
        go true e = gathered_ext (length (net_of sc w).cells) f g (λ i k. by i (same w e i k))
        go false e = refl

    pieces_as : (w : Side) → over_cells o.op sc w (kept_with u sc w o.op) ≡ over_cells o.op sc w (kept_with v sc w o.op)
    pieces_as w = over_as w (kept_with u sc w o.op) (kept_with v sc w o.op) (kept_as w)

    listing_as : listing_with u o s c ≡ listing_with v o s c
    unfolding listing_with
    listing_as = ap₂ (λ (xs ys : List Piece). xs ++ ys) (pieces_as the_subject) (pieces_as the_cutter)

    pub answer_as : third u ≡ third v → answered_with u o s c l ≡ answered_with v o s c l
    unfolding answered_with
    answer_as e =
        ap₂ (λ (ps : List Piece) (d : ℕ). result_of 0 (length ps) (length (named_points (node_count s + node_count c) (length sc.coords / 2) ps)) d
        (length (added_by sc.met) / 2) (written sc.coords (layers_of sc s c) ps l)) listing_as e

    pub course_as : course_with u o s c ≡ course_with v o s c
    unfolding course_with
    course_as =
        ap₂ (λ (es fs : List Event). found ++ (es ++ fs)) (over_as the_subject (cut u the_subject) (cut v the_subject) (cut_as the_subject))
        (over_as the_cutter (cut u the_cutter) (cut v the_cutter) (cut_as the_cutter))
      where
        found : List Event
        found = replicate (length (s.coords ++ c.coords) / 2) point ++ joined of_meeting sc.met ++ cond (crowded sc) (stop 9 ∷ []) []

        cut : Edition → Side → ℕ → List Event
        cut x w i = of_cell (outcome_with x sc w i) (kept_with x sc w o.op i)

    pub state_as : state_with u o s c l ≡ state_with v o s c l
    unfolding state_with
    state_as = ap (first_refusal o.m (point_room l) (piece_room l) (length l.nodes)) course_as

-- what a cell comes to sees neither grids nor layers
pub cell_as : (turning once grids grids' layers layers' : Bool) (sc : Scene) (w : Side) (i : ℕ)
    → let by : Bool → Bool → Outcome = λ g y. outcome_with (record { turning = turning; once = once; grids = g; layers = y }) sc w i in by grids layers ≡ by grids' layers'
unfolding treated cut_outcome_with
cell_as turning once grids grids' layers layers' sc w i = go (near_of sc w i)
  where
    by : Bool → Bool → List ℕ → Outcome
    by g y js = (treated_by sc w i js).outcome (record { turning = turning; once = once; grids = g; layers = y })

    go : (js : List ℕ) → by grids layers js ≡ by grids' layers' js
    go [] = refl
    go (j ∷ js) = refl
