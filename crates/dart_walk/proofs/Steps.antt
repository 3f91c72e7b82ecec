-- A walk by the way of its first step. Assumes nothing.
use mathlib.Core.Path.{◌≡◌, sym, ap, ◌∙◌}
use mathlib.Core.Bool.{Bool}
use mathlib.Core.List.{List}
use Prim.Native.Nat.{ℕ, suc, ◌-◌, ◌<◌}
use native.Mathlib.Omega.{arith}
use Rattle.cutting.specs.Walk.{State, Next, more, closed, stuck, broken, walk_steps}
use Rattle.cutting.proofs.Ways.{Way, way_step, go_on}

module _ (turning : Bool) (n : ℕ) (src dst : List ℕ) (r : Next) (fuel : ℕ) (s : State) (some : 0 < fuel) (q : walk_steps turning n src dst fuel s ≡ r) where
  run_first : (t : Next) → Way turning n src dst s t → go_on turning n src dst (fuel - 1) t ≡ r
  unfolding walk_steps
  run_first t w =
      let up : suc (fuel - 1) ≡ fuel = omega arith in
      sym (ap (go_on turning n src dst (fuel - 1)) (way_step turning n src dst w)) ∙ ap (λ (f : ℕ). walk_steps turning n src dst f s) up ∙ q

  pub run_more : (u : State) → Way turning n src dst s (more u) → walk_steps turning n src dst (fuel - 1) u ≡ r
  run_more u w = run_first (more u) w

  pub run_closed : (ps : List (List ℕ)) → Way turning n src dst s (closed ps) → closed ps ≡ r
  run_closed ps w = run_first (closed ps) w

  pub run_stuck : Way turning n src dst s stuck → stuck ≡ r
  run_stuck w = run_first stuck w

  pub run_broken : Way turning n src dst s broken → broken ≡ r
  run_broken w = run_first broken w
