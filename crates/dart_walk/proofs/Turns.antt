-- The invariant of the walk's loops, between pieces and on a slot, and each way of a turn. Assumes nothing.
use mathlib.Core.Path.{◌≡◌, refl, sym, ap, ap₂, ◌∙◌, subst}
use mathlib.Core.Bool.{Bool, true, false, not}
use mathlib.Core.List.{List, [], ◌∷◌, ◌++◌, append_assoc}
use Prim.Native.Nat.{ℕ, ◌+◌, ◌*◌, ◌-◌, ◌≤◌, ◌<◌}
use native.Mathlib.Omega.{arith}
use lib.ListN.{length, get_or, set, take, drop, take-append-drop, length-append, length-set, length-map}
use lib.Seq.{length-take-le}
use Rattle.std.proofs.Common.{Option, Some, None, Result, Err, unwrap_or, IfSome}
use Rattle.dart_walk.specs.declared.Counts.{Counts}
use Rattle.std.proofs.lemmas.List.{get_or-map}
use Rattle.cutting.specs.declared.Slot.{Slot}
use Rattle.lists.specs.Regions.{front}
use Rattle.lists.proofs.Search.{many_has, many_bound}
use Rattle.cutting.proofs.Rounds.{next_open_open, unmarked, unmarked_mark}
use Rattle.cutting.specs.Walk.{Phase, resting, on_slot, state, Next, walk_steps, next_open, slot, walk_from, srcs, dsts, marks_of}
use Rattle.cutting.proofs.Ways as way
use Rattle.cutting.proofs.Ways.{reverse_of}
use Rattle.cutting.specs.Outcome.{of_walk, flat, stops}
use Rattle.dart_walk.specs.Answer.{Followed, reverse_in, Room, closed_with, answer, Written}
use Rattle.dart_walk.proofs.Steps.{run_more, run_closed, run_stuck, run_broken}
use Rattle.cutting.proofs.Runs.{take_push, drop_push, flat_snoc, stops_snoc, stops_length}

-- refusal 11
abbrev refused : Result Counts ℕ
refused = Err 11

-- how the corners written so far stand for the pieces that are done and the one that is begun
abbrev Shape : ℕ → List Bool → List ℕ → ℕ → ℕ → List (List ℕ) → Phase → Type 0
Shape n marks nodes m k done resting = (take m nodes ≡ flat done) × (m + unmarked n marks ≤ n) × (k ≤ m)
Shape n marks nodes m k done (on_slot first mid i) = (i < n) × (get_or marks i false ≡ false) × (take m nodes ≡ flat done ++ first ∷ mid) × (m + unmarked n marks ≤ n + 1) × (k < m)

pub record Inv (n : ℕ) (src dst : List ℕ) (r : Next) (heap₀ nodes₀ ends₀ : List ℕ) (slots : List Slot) (heap nodes ends : List ℕ) (m k : ℕ) (phase : Phase) : Type 0 where
  pub size : length slots ≡ n
  pub from : srcs slots ≡ src
  pub to : dsts slots ≡ dst
  pub same_nodes : length nodes ≡ length nodes₀
  pub same_ends : length ends ≡ length ends₀
  pub rest_nodes : drop m nodes ≡ drop m nodes₀
  pub rest_ends : drop k ends ≡ drop k ends₀
  pub fits : length heap + unmarked n (marks_of slots) ≤ n + length heap₀
  pub fuel : ℕ
  pub enough : 2 * unmarked n (marks_of slots) + length heap < fuel
  pub done : List (List ℕ)
  pub counted : length done ≡ k
  pub ended : take k ends ≡ stops 0 done
  pub shape : Shape n (marks_of slots) nodes m k done phase
  pub still : walk_steps true n src dst fuel (state (marks_of slots) heap done phase) ≡ r

-- in a piece that began at the node `start`, on the slot `at`
pub record Inside (n : ℕ) (src dst : List ℕ) (r : Next) (heap₀ nodes₀ ends₀ : List ℕ) (slots : List Slot) (heap nodes ends : List ℕ) (m k start at : ℕ) : Type 0 where
  pub mid : List ℕ
  pub inv : Inv n src dst r heap₀ nodes₀ ends₀ slots heap nodes ends m k (on_slot start mid at)

-- what holds of an answer and the lists where the run ends in t
abbrev pub Ended : List ℕ → List ℕ → List ℕ → List ℕ → Result Counts ℕ → Next → Type 0
Ended nodes₀ ends₀ nodes ends a t = (a ≡ answer (of_walk t)) × Written (of_walk t) nodes₀ ends₀ nodes ends

some_unmarked : (n : ℕ) (marks : List Bool) (i : ℕ) → i < n → get_or marks i false ≡ false → 0 < unmarked n marks
unfolding unmarked
some_unmarked n marks i h e = many_has (λ k. not (get_or marks k false)) n i h (ap not e)

pub at_first : {slots₀ : List Slot} {heap₀ nodes₀ ends₀ : List ℕ} → Room (length slots₀) heap₀ nodes₀ ends₀
    → Inv (length slots₀) (srcs slots₀) (dsts slots₀) (walk_from true (length slots₀) (srcs slots₀) (dsts slots₀) (marks_of slots₀) heap₀) heap₀ nodes₀ ends₀ slots₀ heap₀ nodes₀ ends₀ 0 0 resting
unfolding walk_from flat stops unmarked
at_first {slots₀} {heap₀} room =
    let most = many_bound (λ i. not (get_or (marks_of slots₀) i false)) (length slots₀) in
    record {
      size = refl;
      from = refl;
      to = refl;
      same_nodes = refl;
      same_ends = refl;
      rest_nodes = refl;
      rest_ends = refl;
      fits = omega arith;
      fuel = 2 * length slots₀ + length heap₀ + 1;
      enough = omega arith;
      done = [];
      counted = refl;
      ended = refl;
      shape = (refl, omega arith, omega arith);
      still = refl;
    }

module _ {n : ℕ} {src dst heap₀ nodes₀ ends₀ : List ℕ} (room : Room n heap₀ nodes₀ ends₀) {r : Next} {slots : List Slot} {heap nodes ends : List ℕ} {m k : ℕ} where
  -- ---- between pieces

  module _ (v : Inv n src dst r heap₀ nodes₀ ends₀ slots heap nodes ends m k resting) where
    -- the slot i comes off the heap
    module _ {i : ℕ} {rest : List ℕ} (off-heap : heap ≡ i ∷ rest) where
      off : walk_steps true n src dst v.fuel (state (marks_of slots) (i ∷ rest) v.done resting) ≡ r
      off = subst (λ (h : List ℕ). walk_steps true n src dst v.fuel (state (marks_of slots) h v.done resting) ≡ r) off-heap v.still

      pub missing : length slots ≤ i → Ended nodes₀ ends₀ nodes ends refused r
      missing out =
          subst (Ended nodes₀ ends₀ nodes ends refused) (run_broken true n src dst r v.fuel _ (omega (arith, v.enough)) off (way.missing (omega (arith, v.size, out)))) (refl, tt)

      module _ (i< : i < length slots) (d : Slot) where
        inside : i < n
        inside = omega (arith, v.size, i<)

        pub turn_skip : (get_or slots i d).marked ≡ true → Inv n src dst r heap₀ nodes₀ ends₀ slots rest nodes ends m k resting
        turn_skip marked = record {
          size = v.size;
          from = v.from;
          to = v.to;
          same_nodes = v.same_nodes;
          same_ends = v.same_ends;
          rest_nodes = v.rest_nodes;
          rest_ends = v.rest_ends;
          fits = omega (arith, v.fits, ap length off-heap);
          fuel = v.fuel - 1;
          enough = omega (arith, v.enough, ap length off-heap);
          done = v.done;
          counted = v.counted;
          ended = v.ended;
          shape = v.shape;
          still = run_more true n src dst r v.fuel _ (omega (arith, v.enough)) off _ (way.passes inside (get_or-map (λ s. s.marked) slots i d false i< ∙ marked));
        }

        module _ (fresh : (get_or slots i d).marked ≡ false) where
          open_here : get_or (marks_of slots) i false ≡ false
          open_here = get_or-map (λ s. s.marked) slots i d false i< ∙ fresh

          pub corner_fits : m < length nodes
          corner_fits = omega (arith, v.shape.1, some_unmarked n (marks_of slots) i inside open_here, room.corners, v.same_nodes)

          start_is : (get_or slots i d).src ≡ get_or src i 0
          start_is = sym (get_or-map (λ s. s.src) slots i d 0 i<) ∙ ap (λ (l : List ℕ). get_or l i 0) v.from

          -- a piece begins at its node
          pub turn_open : Inside n src dst r heap₀ nodes₀ ends₀ slots rest (set nodes m (get_or slots i d).src) ends (m + 1) k (get_or slots i d).src i
          turn_open = rw start_is (record {
            mid = [];
            inv = record {
              size = v.size;
              from = v.from;
              to = v.to;
              same_nodes = length-set nodes m (get_or src i 0) ∙ v.same_nodes;
              same_ends = v.same_ends;
              rest_nodes = drop_push nodes nodes₀ m (get_or src i 0) v.rest_nodes;
              rest_ends = v.rest_ends;
              fits = omega (arith, v.fits, ap length off-heap);
              fuel = v.fuel - 1;
              enough = omega (arith, v.enough, ap length off-heap);
              done = v.done;
              counted = v.counted;
              ended = v.ended;
              shape = (inside, open_here, take_push nodes m (get_or src i 0) corner_fits ∙ ap (λ (l : List ℕ). l ++ get_or src i 0 ∷ []) v.shape.0, omega (arith, v.shape.1), omega (arith, v.shape.2));
              still = run_more true n src dst r v.fuel _ (omega (arith, v.enough)) off _ (way.begins inside open_here);
            };
          })

    -- the heap is empty
    pub at_close : heap ≡ [] → Ended nodes₀ ends₀ nodes ends (closed_with k m) r
    unfolding front
    at_close empty =
        let bare = subst (λ (h : List ℕ). walk_steps true n src dst v.fuel (state (marks_of slots) h v.done resting) ≡ r) empty v.still in
        let len : length (flat v.done) ≡ m = sym (ap length v.shape.0) ∙ length-take-le m nodes (omega (arith, v.shape.1, room.corners, v.same_nodes)) in
        subst (Ended nodes₀ ends₀ nodes ends (closed_with k m)) (run_closed true n src dst r v.fuel _ (omega (arith, v.enough)) bare v.done way.ends) (
          ap₂ closed_with (sym v.counted) (sym len),
          (
            sym (take-append-drop m nodes) ∙ ap₂ (λ (a b : List ℕ). a ++ b) v.shape.0 (v.rest_nodes ∙ ap (λ (x : ℕ). drop x nodes₀) (sym len)),
            sym (take-append-drop k ends) ∙ ap₂ (λ (a b : List ℕ). a ++ b) v.ended
                (v.rest_ends ∙ ap (λ (x : ℕ). drop x ends₀) (sym (stops_length 0 v.done ∙ v.counted))),
          ),
        )

  -- ---- in a piece, along the slot `at`

  module _ {start at : ℕ} (w : Inside n src dst r heap₀ nodes₀ ends₀ slots heap nodes ends m k start at) where
    reverse_is : reverse_in slots at ≡ reverse_of n src dst at
    reverse_is = λ t. slot (w.inv.size t) (w.inv.from t) (w.inv.to t) (get_or (w.inv.to t) at 0) (get_or (w.inv.from t) at 0)

    pub follow_fits : (at < length slots) × (length slots ≤ 1024) × (length heap < 2048)
    follow_fits = (
      omega (arith, w.inv.size, w.inv.shape.0),
      omega (arith, w.inv.size, room.small),
      omega (arith, w.inv.fits, some_unmarked n (marks_of slots) at w.inv.shape.0 w.inv.shape.1, room.heaps),
    )

    pub lost : length slots ≤ reverse_in slots at → Ended nodes₀ ends₀ nodes ends refused r
    lost out = subst (Ended nodes₀ ends₀ nodes ends refused) (run_broken true n src dst r w.inv.fuel _ (omega (arith, w.inv.enough)) w.inv.still
        (way.lost (omega (arith, out, w.inv.size, reverse_is)))) (refl, tt)

    module _ {slots' : List Slot} {heap' : List ℕ} {y q : ℕ} (f : Followed slots heap at slots' heap' y q) where
      node_is : y ≡ get_or dst at 0
      node_is = f.node ∙ ap (λ (l : List ℕ). get_or l at 0) w.inv.to

      q_is : q ≡ reverse_of n src dst at
      q_is = f.reverse ∙ reverse_is

      back< : reverse_of n src dst at < n
      back< = omega (arith, f.within, q_is, w.inv.size)

      from' : srcs slots' ≡ src
      from' = f.marked.from ∙ w.inv.from

      to' : dsts slots' ≡ dst
      to' = f.marked.to ∙ w.inv.to

      size' : length slots' ≡ n
      size' = sym (length-map slots' (λ s. s.src)) ∙ ap length f.marked.from ∙ length-map slots (λ s. s.src) ∙ w.inv.size

      fewer : unmarked n (marks_of slots) ≡ 1 + unmarked n (marks_of slots')
      fewer = rw (f.marked.marks) (unmarked_mark n (marks_of slots) at w.inv.shape.0 (omega (arith, w.inv.size, length-map slots (λ s. s.marked))) w.inv.shape.1)

      pub less_left : 2 * unmarked n (marks_of slots') + length heap' < 2 * unmarked n (marks_of slots) + length heap
      less_left = omega (arith, fewer, ap length f.pushed)

      pub stop_fits : k < length ends
      stop_fits = omega (arith, w.inv.shape.4, w.inv.shape.3, fewer, room.stopped, w.inv.same_ends)

      pub turn_close : y ≡ start → Inv n src dst r heap₀ nodes₀ ends₀ slots' heap' nodes (set ends k m) m (k + 1) resting
      turn_close round =
          let v = w.inv in
          let len : length (flat v.done ++ start ∷ w.mid) ≡ m = sym (ap length v.shape.2) ∙ length-take-le m nodes
          (omega (arith, v.shape.3, fewer, room.corners, v.same_nodes)) in
          record {
            size = size';
            from = from';
            to = to';
            same_nodes = v.same_nodes;
            same_ends = length-set ends k m ∙ v.same_ends;
            rest_nodes = v.rest_nodes;
            rest_ends = drop_push ends ends₀ k m v.rest_ends;
            fits = omega (arith, v.fits, fewer, ap length f.pushed);
            fuel = v.fuel - 1;
            enough = omega (arith, v.enough, fewer, ap length f.pushed);
            done = v.done ++ (start ∷ w.mid) ∷ [];
            counted = omega (arith, length-append v.done ((start ∷ w.mid) ∷ []), v.counted);
            ended = take_push ends k m stop_fits ∙ ap₂ (λ (l : List ℕ) (x : ℕ). l ++ x ∷ []) v.ended (omega (arith, len)) ∙ sym (stops_snoc 0 v.done (start ∷ w.mid));
            shape = (v.shape.2 ∙ sym (flat_snoc v.done (start ∷ w.mid)), omega (arith, v.shape.3, fewer), omega (arith, v.shape.4));
            still = rw (f.pushed, f.marked.marks, q_is) (run_more true n src dst r v.fuel _ (omega (arith, v.enough))
                v.still _ (way.closes back< (sym node_is ∙ round)));
          }

      -- the slot to go on along is looked for
      module _ (apart : y ≡ start → ⊥) (next : Option ℕ) (next-found : unwrap_or next (length slots') ≡ next_open true (length slots') (srcs slots') (marks_of slots') y q) where
        off_start : get_or dst at 0 ≡ start → ⊥
        off_start e = apart (node_is ∙ e)

        next_is : unwrap_or next n ≡ next_open true n src (set (marks_of slots) at true) (get_or dst at 0) (reverse_of n src dst at)
        next_is = ap (unwrap_or next) (sym size') ∙ next-found ∙ (λ t. next_open true (size' t) (from' t) (f.marked.marks t) (node_is t) (q_is t))

        pub no_way : next ≡ None → Ended nodes₀ ends₀ nodes ends refused r
        no_way none = subst (Ended nodes₀ ends₀ nodes ends refused) (run_stuck true n src dst r w.inv.fuel _ (omega (arith, w.inv.enough)) w.inv.still
            (way.stops back< off_start (subst (λ (i : ℕ). n ≤ i) (sym (ap (λ (o : Option ℕ). unwrap_or o n) none) ∙ next_is) (omega arith)))) (refl, tt)

        module _ {j : ℕ} (some : next ≡ Some j) (below : IfSome next (λ i. i < length slots')) where
          j< : j < n
          j< = omega (arith, size', subst (λ (o : Option ℕ). IfSome o (λ i. i < length slots')) some below)

          j_is : j ≡ next_open true n src (set (marks_of slots) at true) (get_or dst at 0) (reverse_of n src dst at)
          j_is = sym (ap (λ (o : Option ℕ). unwrap_or o n) some) ∙ next_is

          open_there : get_or (marks_of slots') j false ≡ false
          open_there = rw (f.marked.marks, j_is) (next_open_open true n src (set (marks_of slots) at true) (get_or dst at 0) (reverse_of n src dst at) (rw (← j_is) j<))

          pub next_fits : m < length nodes
          next_fits = omega (arith, w.inv.shape.3, fewer, some_unmarked n (marks_of slots') j j< open_there, room.corners, w.inv.same_nodes)

          pub turn_onward : Inside n src dst r heap₀ nodes₀ ends₀ slots' heap' (set nodes m y) ends (m + 1) k start j
          turn_onward =
              let v = w.inv in
              record {
                mid = w.mid ++ y ∷ [];
                inv = record {
                  size = size';
                  from = from';
                  to = to';
                  same_nodes = length-set nodes m y ∙ v.same_nodes;
                  same_ends = v.same_ends;
                  rest_nodes = drop_push nodes nodes₀ m y v.rest_nodes;
                  rest_ends = v.rest_ends;
                  fits = omega (arith, v.fits, fewer, ap length f.pushed);
                  fuel = v.fuel - 1;
                  enough = omega (arith, v.enough, fewer, ap length f.pushed);
                  done = v.done;
                  counted = v.counted;
                  ended = v.ended;
                  shape = (
                    j<,
                    open_there,
                    take_push nodes m y next_fits ∙ ap (λ (l : List ℕ). l ++ y ∷ []) v.shape.2 ∙ append_assoc (flat v.done) (start ∷ w.mid) (y ∷ []),
                    omega (arith, v.shape.3, fewer),
                    omega (arith, v.shape.4),
                  );
                  still = rw (f.pushed, f.marked.marks, q_is, node_is) (run_more true n src dst r v.fuel _ (omega (arith, v.enough))
                      v.still _ (way.goes back< off_start j_is j<));
                };
              }
