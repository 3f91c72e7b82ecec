-- Runs of a list of which a part is lent or written. Assumes nothing.
use mathlib.Core.Path.{◌≡◌, ap, ◌∙◌}
use mathlib.Core.List.{List}
use Prim.Native.Nat.{ℕ, ◌+◌, ◌-◌, ◌≤◌}
use native.Mathlib.Omega.{arith}
use lib.ListN.{length, take, drop}
use lib.Seq.{take-take}
use Rattle.lists.specs.Regions.{run, put}
use Rattle.lists.proofs.Regions.{drop_take, run_before}
use Rattle.regions.specs.declared.Run.{Run}
use Rattle.regions.specs.Runs.{Within, run_in}

-- a run that ends before b is one of what stands before b
pub run_of_front : (w before : List ℕ) (b : ℕ) (r : Run) → before ≡ take b w → b ≤ length w → Within r b → run_in before r ≡ run_in w r
unfolding run_in run
run_of_front w before b r e h i =
    ap (λ (u : List ℕ). take (r.end - r.from) (drop r.from u)) e ∙ ap (take (r.end - r.from)) (drop_take w r.from b (omega (arith, i.rises, i.fits)) h)
    ∙ take-take (r.end - r.from) (b - r.from) (drop r.from w) (omega (arith, i.fits))

-- what is written from b on leaves it
pub run_kept : (w xs : List ℕ) (b : ℕ) → b ≤ length w → (r : Run) → Within r b → run_in (put w b xs) r ≡ run_in w r
unfolding run_in
run_kept w xs b h r i = run_before w b h xs r.from (r.end - r.from) (omega (arith, i.rises, i.fits))

-- a run by its length
pub run_long : (w : List ℕ) (a n : ℕ) → run_in w (record { from = a; end = a + n }) ≡ run w a n
unfolding run_in
run_long w a n = let e : a + n - a ≡ n = omega arith in ap (run w a) e
