-- What a cell comes to, from its table and its walk. Assumes nothing.
use mathlib.Core.Path.{◌≡◌, sym, ap, ◌∙◌}
use mathlib.Core.Bool.{true, false}
use mathlib.Core.List.{List, [], map}
use Prim.Native.Nat.{ℕ, ◌/◌, ◌≤◌, ◌<◌}
use Rattle.std.specs.Simd.{first_chunks}
use native.Mathlib.Omega.{arith}
use lib.ListN.{length, take, drop, length-append}
use lib.Ieee.{Float}
use Rattle.lists.specs.Gather.{joined}
use Rattle.lists.specs.Regions.{front, FrontIs}
use Rattle.lists.proofs.Regions.{take_front_of}
use Rattle.grid.specs.Grid.{Grid}
use Rattle.cutting.specs.Edges.{Edge}
use Rattle.cutting.specs.Cell.{Laid, new_to, inner_with, cell_table, repeats}
use Rattle.cutting.specs.declared.Slot.{Slot}
use Rattle.cutting.specs.Walk.{walk}
use Rattle.cutting.specs.Outcome.{Outcome, pieces, refusal, of_walk}
use Rattle.cutting.specs.Lent.{flat_edges, pairs, pair_of}
use Rattle.dart_walk.specs.Answer.{answer, corners_in, ends_in}
use Rattle.std.proofs.Common.{Result, Ok, Err}
use Rattle.refusals.specs.declared.Refusal.{Refusal}
use Rattle.refusals.specs.Numbers.{number, by_number}
use Rattle.dart_walk.specs.declared.Counts.{Counts}
use Rattle.cutting.proofs.Pairs.{pairs_ends}
use Rattle.cutting.proofs.Chunks.{chunked}
use Rattle.dart_table.proofs.Joins.{cell_length, cut_repeats, cut_over, cut_fits}
use Rattle.regions.specs.declared.Run.{Run}
use Rattle.regions.specs.Runs.{run_in}
use Rattle.regions.specs.declared.Regions.{Regions}
use Rattle.cells.specs.Cells.{outline_in, near_in, table_in, edges_in, Cut, cut, cut_to, cut_as, cut_by, cut_cell}

-- ---- refusals 10 and 19

module _ (coords : List Float) (outline : List Edge) (near : List Laid) (on os : List ℕ) where
  pub too_many : repeats outline ≡ false → 1024 < length (cell_table coords outline near) → cut_as (refusal 10) on os ≡ cut_by outline (cell_table coords outline near) on os
  unfolding cut_by
  too_many once many = ap (λ (o : Outcome). cut_as o on os) (sym (cut_over coords outline near once many))

  pub repeated : repeats outline ≡ true → cut_as (refusal 19) on os ≡ cut_by outline (cell_table coords outline near) on os
  unfolding cut_by
  repeated e = ap (λ (o : Outcome). cut_as o on os) (sym (cut_repeats coords outline near e))

-- ---- the outline in a list

module _ (coords : List Float) (outline : List Edge) (w : List ℕ) (put_in : w ≡ flat_edges outline) where
  read_back : pairs w ≡ outline
  read_back = ap pairs put_in ∙ pairs_ends outline

  -- the table of the own edges, by the outline as it is lent
  pub own_table : (t : List Slot) → t ≡ cell_table coords outline [] → t ≡ cell_table coords (pairs w) []
  own_table t held = held ∙ ap (λ (o : List Edge). cell_table coords o []) (sym read_back)

  pub as_lent : (near : List Laid) (on os : List ℕ) (x : Cut) → x ≡ cut_by (pairs w) (cell_table coords (pairs w) near) on os
      → x ≡ cut_by outline (cell_table coords outline near) on os
  as_lent near on os x e = e ∙ ap (λ (o : List Edge). cut_by o (cell_table coords o near) on os) read_back

-- ---- `cut_cell`

module _ (grid : Grid) (coords : List Float) (work : List ℕ) (g : Regions) (edges : Run) (js cell on os : List ℕ) where
  abbrev own : List Edge
  own = outline_in grid coords work g cell

  abbrev others : List Laid
  others = near_in grid coords work g (edges_in work edges) js

  pub cut_as_lent : (w : List ℕ) (x : Cut) → w ≡ flat_edges own
      → x ≡ cut_by (pairs w) (cell_table coords (pairs w) others) on os → x ≡ cut_cell grid coords work g edges js cell on os
  unfolding cut_cell table_in
  cut_as_lent w x put_in e = as_lent coords own w put_in others on os x e

  -- too many slots of the own edges are too many in all
  pub too_many_own : repeats own ≡ false → 1024 < length (cell_table coords own []) → cut_as (refusal 10) on os ≡ cut_cell grid coords work g edges js cell on os
  unfolding cut_cell table_in inner_with new_to joined
  too_many_own once many = too_many coords own others on os once (omega (arith, many, cell_length coords own [], cell_length coords own others))

  pub repeated_own : repeats own ≡ true → cut_as (refusal 19) on os ≡ cut_cell grid coords work g edges js cell on os
  unfolding cut_cell table_in
  repeated_own e = repeated coords own others on os e

-- ---- the walk

-- the outcome is that of the walk, where the table has its place
pub as_walked : (coords : List Float) (outline : List Edge) (near : List Laid) (t : List Slot) (on os : List ℕ) (x : Cut) → repeats outline ≡ false → length t ≤ 1024
    → t ≡ cell_table coords outline near → x ≡ cut_as (of_walk (walk outline t)) on os → x ≡ cut_by outline (cell_table coords outline near) on os
unfolding cut_by
as_walked coords outline near t on os x once few same e =
    e ∙ ap (λ (u : List Slot). cut_as (of_walk (walk outline u)) on os) same
    ∙ ap (λ (o : Outcome). cut_as o on os) (sym (cut_fits coords outline near once (omega (arith, few, ap length same))))

-- ---- the answer of the walk

abbrev counts_of : Result Counts ℕ → Counts
counts_of (Ok k) = k
counts_of (Err c) = record { pieces = 0; entries = 0 }

pub answered : (o : Outcome) (w : Result Counts Refusal) (on os on' os' : List ℕ) → by_number w ≡ answer o → on' ≡ corners_in o on → os' ≡ ends_in o os
    → cut w on' os' ≡ cut_as o on os
unfolding cut_as corners_in ends_in
answered (pieces ps) (Ok k) on os on' os' e en es =
    let count = ap (λ (r : Result Counts ℕ). counts_of r) e in
    λ t. cut_to (record { code = 0; pieces = (count t).pieces; entries = (count t).entries }) (en t) (es t)
answered (refusal c) (Err r) on os on' os' e en es =
    let code : number r ≡ c = cc in
    λ t. cut_to (record { code = code t; pieces = 0; entries = 0 }) (en t) (es t)
answered (pieces ps) (Err r) on os on' os' e en es = cc
answered (refusal c) (Ok k) on os on' os' e en es = cc

-- ---- the edges of a run, as arrays of two

pub as_pairs : (work : List ℕ) (r : Run) (run : List ℕ) (es : List (List ℕ)) → run ≡ run_in work r → es ≡ first_chunks 2 (length run / 2) run → map pair_of es ≡ edges_in work r
as_pairs work r run es lent chunks = ap (map pair_of) chunks ∙ chunked run ∙ ap pairs lent

-- ---- a list's front

-- is no longer than the list becomes
pub front_fits : (w xs : List ℕ) → length xs ≤ length (front w xs)
unfolding front
front_fits w xs = omega (arith, length-append xs (drop (length xs) w))

-- what stands in front of a list
module _ {xs out out' : List ℕ} {r : ℕ} (h : FrontIs xs out r out') where
  pub read_front : take r out' ≡ xs
  read_front = ap (take r) h.held ∙ take_front_of out xs r (sym h.count)

  pub read_fits : r ≤ length out'
  read_fits = omega (arith, ap length h.held, front_fits out xs, h.count)
