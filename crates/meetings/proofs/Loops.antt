-- The turns of the two loops, over plain values. Assumes nothing.
use mathlib.Core.Path.{◌≡◌, refl, sym, ap, ap₂, ◌∙◌, subst}
use mathlib.Core.List.{List, [], ◌∷◌, ◌++◌, append-nil, append_assoc}
use Prim.Native.Nat.{ℕ, ◌+◌, ◌*◌, ◌-◌, ◌/◌, ◌≤◌, ◌<◌}
use native.Mathlib.Numerals.{add-one}
use native.Mathlib.Omega.{arith}
use lib.ListN.{length}
use lib.Ieee.{Float}
use Rattle.std.specs.Prelude.{Result, Ok, Err}
use Rattle.lists.specs.Gather.{joined}
use Rattle.lists.specs.Regions.{front, put, zeros, fzeros}
use Rattle.refusals.specs.declared.Refusal.{Refusal}
use Rattle.refusals.specs.Numbers.{number}
use Rattle.refusals.proofs.Numbers.{some_not_zero}
use Rattle.segments.specs.declared.Meeting.{Meeting}
use Rattle.segments.specs.declared.Meeting.TheVariants.{Apart, Existing, New, Overlap}
use Rattle.cutting.specs.Edges.{Edge, edge_at}
use Rattle.cutting.specs.Lent.{pairs}
use Rattle.cutting.proofs.Pairs.{pairs_length}
use Rattle.grid.specs.Grid.{Grid}
use Rattle.rules.specs.SpatialIndex.{edge_box, candidates}
use Rattle.rules.specs.Neighbours.{Net}
use Rattle.rules.specs.Meetings.{Met, segment_of, recorded, added_by, met_pair, met_all, meetings_to, meetings, meeting_on}
use Rattle.rules.specs.Refusals.{of_meeting, first_refusal}
use Rattle.rules.proofs.Course.{edges_behind}
use Rattle.meetings.specs.InNumbers.{in_numbers, net_on}
use Rattle.meetings.specs.MeetingsFound.{meetings_found}
use Rattle.meetings.specs.declared.MetLists.{MetLists}
use Rattle.meetings.specs.Steps.{met_of, met_with, refusal_in, Grown, Answered}
use Rattle.meetings.proofs.Near.{Below}
use Rattle.meetings.proofs.Settled.{leaves, all_left, zeros_left}
use Rattle.meetings.proofs.Adding.{length_added, grown_none, answered_then, answered_stop, onto}

-- ---- the meetings of an edge, behind those found

even : (i j next : ℕ) (e f : Edge) (x : Meeting) → 2 * (length (added_by (recorded i j next e f x)) / 2) ≡ length (added_by (recorded i j next e f x))
unfolding joined
even i j next e f Apart = refl
even i j next e f (Existing p) = refl
even i j next e f (New x y) = refl
even i j next e f (Overlap p q) = refl

module _ (g : Grid) (coords : List Float) (s c : Net) where
  pub all_from : (i : ℕ) (js : List ℕ) (ms : List Met)
      → met_all g coords s c i js ms ≡ ms ++ met_with g coords i (edge_at s.edges i) (edge_at c.edges) ((length coords + length (added_by ms)) / 2) js
  unfolding met_all met_pair met_with
  all_from i [] ms = sym (append-nil ms)
  all_from i (j ∷ js) ms =
      let e : Edge = edge_at s.edges i in
      let next : ℕ = (length coords + length (added_by ms)) / 2 in
      let x : List Met = met_of g coords i j next e (edge_at c.edges j) in
      let on : (length coords + length (added_by (ms ++ x))) / 2 ≡ next + length (added_by x) / 2 =
      omega (arith, length_added ms x, even i j next e (edge_at c.edges j) (meeting_on g (segment_of coords e) (segment_of coords (edge_at c.edges j)))) in
      all_from i js (ms ++ x) ∙ append_assoc ms x _ ∙ ap (λ (k : ℕ). ms ++ (x ++ met_with g coords i e (edge_at c.edges) k js)) on

  more_edges : (i : ℕ) → meetings_to g coords s c (i + 1) ≡ met_all g coords s c i (candidates coords c.edges (edge_box coords (edge_at s.edges i))) (meetings_to g coords s c i)
  unfolding meetings_to
  more_edges i = ap (λ (k : ℕ). meetings_to g coords s c k) (add-one i)

-- ---- `add_for_edge`

module _ (g : Grid) (cs : List Float) (es fs : List ℕ) (i : ℕ) where
  -- the meetings of edge i with the edges ks, behind n new points
  abbrev pub from : ℕ → List ℕ → List Met
  from n ks = met_with g cs i (edge_at (pairs es) i) (edge_at (pairs fs)) (length cs / 2 + n) ks

  -- of all of them those with the edges `rest` are still to be added
  pub record Walked (whole : List Met) (l₀ l : MetLists) (rest : List ℕ) : Type 0 where
    pub done : List Met
    pub grown : Grown done l₀ l
    pub left : whole ≡ done ++ from l.found.points rest
    pub low : Below (length fs / 2) rest

  pub walk_start : (l : MetLists) (js ks : List ℕ) → js ≡ ks → Below (length fs / 2) ks → Walked (from l.found.points ks) l l js
  walk_start l js ks e b = rw e (record { done = []; grown = grown_none l; left = refl; low = b })

  -- edge j is the next
  module _ {whole : List Met} {l₀ l : MetLists} {j : ℕ} {now rest : List ℕ} (is : now ≡ j ∷ rest) (v : Walked whole l₀ l now) where
    next : Walked whole l₀ l (j ∷ rest)
    next = rw is at v

    pub next_low : j < length fs / 2
    next_low = next.low.0

    abbrev some : List Met
    some = met_of g cs i j (length cs / 2 + l.found.points) (edge_at (pairs es) i) (edge_at (pairs fs) j)

    module _ (l' : MetLists) (r : Result (Unit {0}) Refusal)
        (ans : Answered (met_of g cs i j (length cs / 2 + l.found.points) (edge_at (pairs es) i) (edge_at (pairs fs) j)) l l' r) where
      behind : List Met
      behind = met_with g cs i (edge_at (pairs es) i) (edge_at (pairs fs)) (length cs / 2 + l.found.points + length (added_by some) / 2) rest

      left : whole ≡ (next.done ++ some) ++ behind
      unfolding met_with behind
      left = next.left ∙ sym (append_assoc next.done some _)

      so_far : Answered (next.done ++ some) l₀ l' r
      so_far = answered_then next.done l₀ l next.grown some l' r ans

      pub walk_stop : (e : Refusal) → r ≡ Err e → Answered whole l₀ l' (Err e)
      walk_stop e z =
          onto whole _ l₀ l' (Err e) left (answered_stop (next.done ++ some) behind l₀ l' l' e (subst (Answered (next.done ++ some) l₀ l') z so_far))

      pub walk_turn : (u : Unit {0}) → r ≡ Ok u → Walked whole l₀ l' rest
      unfolding behind
      walk_turn u z =
          let step : Answered some l l' (Ok u) = subst (Answered some l l') z ans in
          let on : length cs / 2 + l.found.points + length (added_by some) / 2 ≡ length cs / 2 + l'.found.points = omega (arith, step.new) in
          record {
            done = next.done ++ some;
            grown = subst (Answered (next.done ++ some) l₀ l') z so_far;
            left = left ∙ ap (λ (n : ℕ). (next.done ++ some) ++ met_with g cs i (edge_at (pairs es) i) (edge_at (pairs fs)) n rest) on;
            low = next.low.1;
          }

  -- none is left
  pub walk_end : (whole : List Met) (l₀ l : MetLists) (now : List ℕ) → now ≡ [] → Walked whole l₀ l now → Answered whole l₀ l (Ok tt)
  unfolding met_with
  walk_end whole l₀ l now none v =
      onto whole v.done l₀ l (Ok tt) (v.left ∙ ap (λ (xs : List ℕ). v.done ++ from l.found.points xs) none ∙ append-nil v.done) v.grown

-- ---- `add_for_edges` and `compute_intersections`

module _ (g : Grid) (cs : List Float) (es fs : List ℕ) where
  abbrev subject : Net
  subject = net_on (pairs es)

  abbrev cutter : Net
  cutter = net_on (pairs fs)

  abbrev met_to : ℕ → List Met
  met_to i = meetings_to g cs subject cutter i

  abbrev pub all_met : List Met
  all_met = meetings g cs subject cutter

  -- the meetings of the first i edges of the subject are added
  pub record Through (l₀ l : MetLists) (i : ℕ) : Type 0 where
    pub within : i ≤ length es / 2
    pub grown : Grown (meetings_to g cs (net_on (pairs es)) (net_on (pairs fs)) i) l₀ l

  pub begin : (l : MetLists) → Through l l 0
  unfolding meetings_to
  begin l = record { within = omega arith; grown = grown_none l }

  module _ (even_coords : 2 * (length cs / 2) ≡ length cs) {l₀ l : MetLists} (none : l₀.found.points ≡ 0) {i : ℕ} (inv : Through l₀ l i) (more : i < length es / 2) where
    abbrev js : List ℕ
    js = candidates cs (pairs fs) (edge_box cs (edge_at (pairs es) i))

    module _ (l' : MetLists) (r : Result (Unit {0}) Refusal)
        (ans : Answered (met_with g cs i (edge_at (pairs es) i) (edge_at (pairs fs)) (length cs / 2 + l.found.points) (candidates cs (pairs fs) (edge_box cs (edge_at (pairs es) i)))) l l' r) where
      -- those of the subject's edge i
      abbrev here : List Met
      here = met_with g cs i (edge_at (pairs es) i) (edge_at (pairs fs)) ((length cs + length (added_by (met_to i))) / 2) js

      next_is : length cs / 2 + l.found.points ≡ (length cs + length (added_by (met_to i))) / 2
      next_is = omega (arith, inv.grown.new, even_coords, none)

      further : met_to (i + 1) ≡ met_to i ++ from g cs es fs i l.found.points js
      further =
          more_edges g cs subject cutter i ∙ all_from g cs subject cutter i js (met_to i)
          ∙ ap (λ (n : ℕ). met_to i ++ met_with g cs i (edge_at (pairs es) i) (edge_at (pairs fs)) n js) (sym next_is)

      all_so_far : Answered (met_to (i + 1)) l₀ l' r
      all_so_far = onto (met_to (i + 1)) _ l₀ l' r further (answered_then (met_to i) l₀ l inv.grown (from g cs es fs i l.found.points js) l' r ans)

      pub go_on : (u : Unit {0}) → r ≡ Ok u → Through l₀ l' (i + 1)
      go_on u z = record { within = omega (arith, more); grown = subst (Answered (met_to (i + 1)) l₀ l') z all_so_far }

      pub stop : (e : Refusal) → r ≡ Err e → Answered all_met l₀ l' (Err e)
      unfolding meetings
      stop e z =
          let sn : ℕ = length es / 2 in
          let rest = edges_behind g cs subject cutter (i + 1) (sn - (i + 1)) in
          let all : sn - (i + 1) + (i + 1) ≡ length subject.edges = omega (arith, pairs_length es, more) in
          let whole : all_met ≡ met_to (i + 1) ++ rest.0 = ap (λ (k : ℕ). met_to k) (sym all) ∙ rest.1 in
          onto all_met _ l₀ l' (Err e) whole (answered_stop (met_to (i + 1)) rest.0 l₀ l' l' e (subst (Answered (met_to (i + 1)) l₀ l') z all_so_far))

  pub finish : (l₀ l : MetLists) (i : ℕ) → Through l₀ l i → length es / 2 ≤ i → Answered all_met l₀ l (Ok tt)
  unfolding meetings
  finish l₀ l i inv past =
      let all : length subject.edges ≡ i = omega (arith, inv.within, pairs_length es, past) in
      onto all_met (met_to i) l₀ l (Ok tt) (ap (λ (k : ℕ). met_to k) all) inv.grown

-- ---- what the contract says

module _ (ms : List Met) (l₀ l : MetLists) (no_met : l₀.found.met ≡ 0) (no_points : l₀.found.points ≡ 0) where
  abbrev code : ℕ
  code = first_refusal (length l₀.met.now / 5) (length l₀.points.now / 2) 0 0 (joined of_meeting ms)

  from_start : refusal_in l₀ 0 0 (joined of_meeting ms) ≡ code
  from_start =
      let one : length l₀.met.now / 5 - l₀.found.met ≡ length l₀.met.now / 5 = omega (arith, no_met) in
      let two : length l₀.points.now / 2 - l₀.found.points ≡ length l₀.points.now / 2 = omega (arith, no_points) in
      ap₂ (λ (k n : ℕ). first_refusal k n 0 0 (joined of_meeting ms)) one two

  -- none is refused
  pub all_found : Grown ms l₀ l → (ps : List Float) (w : List ℕ) → ps ≡ l.points.now → w ≡ l.met.now → leaves (Ok l.found) ps w ≡ meetings_found ms l₀.points.now l₀.met.now
  unfolding first_refusal put
  all_found g ps w ep ew =
      let none : 0 ≡ code = sym (g.goes 0 0 []) ∙ ap (refusal_in l₀ 0 0) (append-nil (joined of_meeting ms)) ∙ from_start in
      let count : l.found.met ≡ length ms = omega (arith, g.met, no_met) in
      let half : l.found.points ≡ length (added_by ms) / 2 = omega (arith, g.new, no_points) in
      let at_points : 2 * l₀.found.points ≡ 0 = omega (arith, no_points) in
      let at_met : 5 * l₀.found.met ≡ 0 = omega (arith, no_met) in
      let points : l.points.now ≡ front l₀.points.now (added_by ms) = g.points ∙ ap (λ (k : ℕ). put l₀.points.now k (added_by ms)) at_points in
      let numbers : l.met.now ≡ front l₀.met.now (in_numbers ms) = g.numbers ∙ ap (λ (k : ℕ). put l₀.met.now k (in_numbers ms)) at_met in
      ap₂ (leaves (Ok l.found)) ep ew ∙ ap₂ (λ (a b : ℕ). leaves (Ok (record { met = a; points = b })) l.points.now l.met.now) count half
      ∙ ap₂ (leaves (Ok (record { met = length ms; points = length (added_by ms) / 2 }))) points numbers ∙ sym (all_left ms l₀.points.now l₀.met.now (sym none))

-- one is
pub one_refused : (ms : List Met) (ps₀ : List Float) (w₀ : List ℕ) (e : Refusal)
    → ((q n : ℕ) → number e ≡ first_refusal (length w₀ / 5 - 0) (length ps₀ / 2 - 0) q n (joined of_meeting ms)) → (ps : List Float) (w : List ℕ) (n k : ℕ)
    → ps ≡ fzeros n → w ≡ zeros k → n ≡ length ps₀ → k ≡ length w₀ → leaves (Err (number e)) ps w ≡ meetings_found ms ps₀ w₀
one_refused ms ps₀ w₀ e a ps w n k ep ew en ek =
    let one : length w₀ / 5 - 0 ≡ length w₀ / 5 = omega arith in
    let two : length ps₀ / 2 - 0 ≡ length ps₀ / 2 = omega arith in
    let number_is : number e ≡ first_refusal (length w₀ / 5) (length ps₀ / 2) 0 0 (joined of_meeting ms) =
    a 0 0 ∙ ap₂ (λ (i j : ℕ). first_refusal i j 0 0 (joined of_meeting ms)) one two in
    ap₂ (leaves (Err (number e))) (ep ∙ ap fzeros en) (ew ∙ ap zeros ek) ∙ ap (λ (i : ℕ). leaves (Err i) (fzeros (length ps₀)) (zeros (length w₀))) number_is
    ∙ sym (zeros_left ms ps₀ w₀ (λ y. some_not_zero e (number_is ∙ y)))
